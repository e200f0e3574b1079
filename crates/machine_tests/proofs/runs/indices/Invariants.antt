use Rattle.std.specs.Prelude.{◌<◌, All, AllPairs}
use Rattle.machine_tests.proofs.runs.indices.Given as goal

-- the rows rise, and are below `row` and below `to`
abbrev pub invariant-loop-row : goal.invariant-loop-row
invariant-loop-row l =
    record {
      within : All (λ row. row < l.to) l.rows.items;
      below : All (λ row. row < l.row) l.rows.items;
      rising : AllPairs (λ a b. a < b) l.rows.items;
    }
