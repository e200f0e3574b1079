use Rattle.std.proofs.Common.{refl}
use Rattle.sip_verdict.proofs.sweeps.FollowedLemmas.{followed_none}
use Rattle.sip_verdict.proofs.stream.Judge.new.Goals as goal

-- over no entries the judge stands where it begins
pub returns-clause-stands : goal.returns-clause-stands
returns-clause-stands g c = record {
  -- no entry was taken, the moment is 0, and tables and book are empty
  goes_on = refl;
  number = refl;
  moment = refl;
  follows = followed_none c.args.params c.new.result.book c.new.result.tables c.new.ensures.book c.new.ensures.tables;
}
