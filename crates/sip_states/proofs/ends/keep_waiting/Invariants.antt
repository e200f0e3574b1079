use Rattle.std.proofs.Common.{All}
use Rattle.std.proofs.lemmas.List.Filters.{FiltersInPlace}
use Rattle.sip_states.specs.inner.Ways.{is_within}
use Rattle.sip_states.proofs.ends.keep_waiting.Given as goal

-- of the states up to `at`, those that can wait until the moment stand at the front, and all are in range
abbrev pub invariant-loop-at : goal.invariant-loop-at
invariant-loop-at g l =
    record {
      filters : FiltersInPlace (λ x. is_within l.moment (g.M.Machine.until l.machine x)) l.initial.pool l.pool l.kept l.at;
      in_range : All g.M.Machine.in_range l.pool;
    }
