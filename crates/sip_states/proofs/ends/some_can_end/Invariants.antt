use Rattle.std.specs.Prelude.{All, take}
use Rattle.sip_states.specs.inner.Ways.{CanEnd}
use Rattle.sip_states.proofs.ends.some_can_end.Given as goal

-- no state before the index can end
abbrev pub invariant-loop-at : goal.invariant-loop-at
invariant-loop-at g l = All (λ x. CanEnd (g.M.Machine.end_window l.machine x) (g.M.Machine.until l.machine x) l.from l.to → ⊥) (take l.at l.pool)
