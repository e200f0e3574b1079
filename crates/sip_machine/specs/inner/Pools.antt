use Rattle.std.specs.Prelude.{◌≡◌, ◌≢◌, ◌<◌, ◌≤◌, ◌+◌, ℕ, Option, None, Some, List, [], ◌∷◌, All, AllPairs, bit_xor, fold, get_or, length, map}
use Rattle.std.specs.List.{Any}
use Rattle.std.specs.Hash.FoldHasher.{initial, write, finish}
use Rattle.sip_ledger.specs.declared.debt.Debt.{Debt}
use Rattle.sip_machine.specs.Owing.{CodeOwing}
use Rattle.sip_machine.specs.inner.Slots.{IsLastBefore}

-- The states of a pool, which keeps their phases and what they owe apart, and the indices of those that count.

-- the rows are the indices, rising, of the elements from one index up to another, where of equal ones the first alone counts
pub record AreFirstOnes {X : Type 0} (xs : List X) (from to : ℕ) (rows : List ℕ) : Type 0 where
  pub within : All (λ row. (from ≤ row) × (row < to)) rows
  pub rising : AllPairs (λ a b. a < b) rows
  pub each : (k : ℕ) (x : X) → from ≤ k → k < to → Any (λ row. get_or xs row x ≡ get_or xs k x) rows
  pub apart : (x : X) → AllPairs (λ a b. get_or xs a x ≢ get_or xs b x) rows

-- the elements of a list at these indices
abbrev pub picked : {X : Type 0} → List X → X → List ℕ → List X
picked xs x rows = map (λ row. get_or xs row x) rows

-- the states of these phases, each of which owes what its row has, and nothing where there is none
abbrev pub beside : {S : Type 0} → List S → List (List Debt) → List (CodeOwing S)
beside [] rows = []
beside (phase ∷ phases) [] = record { phase = phase; owes = [] } ∷ beside phases []
beside (phase ∷ phases) (row ∷ rows) = record { phase = phase; owes = row } ∷ beside phases rows

-- the hash of a value that feeds a hasher these writes
abbrev pub hash_by : List (List ℕ) → ℕ
hash_by input = finish (fold write initial input)

-- in `new` the numbers from one index up to another are mixed with the hash, and the others are as in `old`
pub record AreMixedWith (hash from to : ℕ) (old new : List ℕ) : Type 0 where
  pub long : length new ≡ length old
  pub mixed : (k : ℕ) → from ≤ k → k < to → get_or new k 0 ≡ bit_xor (get_or old k 0) hash
  pub before : (k : ℕ) → k < from → get_or new k 0 ≡ get_or old k 0
  pub behind : (k : ℕ) → to ≤ k → get_or new k 0 ≡ get_or old k 0

-- the state at `at` is looked for among those at the rows, whose prints these are: from some limit on no row has it, and `next` is the last row
-- before the limit with the print, if there is one
pub record IsSought {X : Type 0} (xs : List X) (rows prints : List ℕ) (print at : ℕ) (next : Option ℕ) : Type 0 where
  pub limit : ℕ
  pub within : limit ≤ length rows
  pub next_is : IsLastBefore prints print limit next
  pub apart : (k : ℕ) (x : X) → limit ≤ k → k < length rows → get_or xs (get_or rows k 0) x ≢ get_or xs at x

-- one past the index, and 0 where there is none
abbrev pub one_past : Option ℕ → ℕ
one_past None = 0
one_past (Some at) = at + 1

-- the rows are indices that go on by one from the first, and at least one
pub record IsRun (first : ℕ) (rows : List ℕ) : Type 0 where
  pub some : 0 < length rows
  pub each : (k : ℕ) → k < length rows → get_or rows k 0 ≡ first + k
