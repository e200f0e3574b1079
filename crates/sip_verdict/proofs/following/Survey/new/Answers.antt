use Rattle.std.proofs.Common.{refl}
use Rattle.sip_verdict.proofs.surveys.kept.Kept.{surveyed_begun}
use Rattle.sip_verdict.proofs.surveys.kept.Histories.{none_yet}
use Rattle.sip_verdict.proofs.following.Survey.new.Goals as goal

-- a new survey stands after no entry
pub returns-clause-stands : goal.returns-clause-stands
returns-clause-stands g c = record {
  -- no entry was taken, the moment is 0, tables and book are empty, and there is no history
  goes_on = refl;
  number = refl;
  moment = refl;
  follows = surveyed_begun c.args.params c.new.result.book c.new.result.tables c.new-2.result.deaf.items c.new.ensures.book c.new.ensures.tables c.new-2.ensures.deaf;
  histories = none_yet c.new-3.result c.new-3.ensures.each c.new-3.ensures.restart;
}
