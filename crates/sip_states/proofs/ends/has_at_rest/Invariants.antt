use Rattle.std.specs.Prelude.{◌≢◌, All, take}
use Rattle.sip_machine.specs.Owing.{at_rest}
use Rattle.sip_states.proofs.ends.has_at_rest.Given as goal

-- no state before the index is the one that is looked for
abbrev pub invariant-loop-at : goal.invariant-loop-at
invariant-loop-at g l = All (λ x. x ≢ at_rest l.phase) (take l.at l.pool)
