use Rattle.std.proofs.Common.{refl, sym, ◌∙◌}
use Rattle.sip_log.specs.Told.{item}
use Rattle.sip_standard.specs.Observation.{silent_observation}
use Rattle.sip_standard.specs.VerdictOf.{keys_in}
use Rattle.sip_verdict.proofs.judges.ObservingLemmas.{observes_silent, silent_observed, silent_heard, silent_kept}
use Rattle.sip_verdict.proofs.observing.observe.Goals as goal

-- of an entry without a message a mark is seen with no key, and a restart with all keys so far
pub returns-in_default-clause-observed : goal.returns-in_default-clause-observed
returns-in_default-clause-observed c es =
    let i = item c.args.entry.now in
    let stays = sym c.direction_of.ensures ∙ c.in_default.is in
    (silent_observation i.action i.moment (keys_in es), observes_silent es i stays, rw c.told_without_message.ensures (silent_observed c.args.book.now es i stays))

-- an entry without a message tells no event of its own, so that nothing is asked of the book
pub returns-in_default-clause-heard : goal.returns-in_default-clause-heard
returns-in_default-clause-heard c = rw c.told_without_message.ensures (silent_heard c.args.book.now c.args.entry.now.moment c.args.entry.now.action)

-- an entry without a message leaves the book as it was
pub returns-in_default-clause-kept : goal.returns-in_default-clause-kept
returns-in_default-clause-kept c = rw c.told_without_message.ensures (silent_kept c.args.book.now c.args.book.now c.args.entry.now (sym c.direction_of.ensures ∙ c.in_default.is) refl)
