use Rattle.std.specs.Prelude.{◌<◌, All, AllPairs, length}
use Rattle.ledger_tests.proofs.accounts.Played.keep_some.Given as goal

-- each row that was pushed is one of the accounts and below the row at hand, and the rows rise
abbrev pub invariant-loop-row : goal.invariant-loop-row
invariant-loop-row l =
    record {
      within : All (λ row. row < length l.self.accounts) l.rows.items;
      below : All (λ row. row < l.row) l.rows.items;
      rising : AllPairs (λ a b. a < b) l.rows.items;
    }
