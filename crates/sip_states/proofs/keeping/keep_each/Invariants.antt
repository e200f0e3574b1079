use Rattle.sip_states.proofs.lists.Kept.{KeepsInPlace}
use Rattle.sip_states.proofs.keeping.keep_each.Given as goal

-- of the items up to `at`, those whose flag is set stand at the front, in their order
abbrev pub invariant-loop-at : goal.invariant-loop-at
invariant-loop-at g l = KeepsInPlace l.flags l.initial.items.items l.items.items l.count l.at
