-- What a survey keeps of the entries of each transaction.
use Rattle.std.specs.Prelude.{◌≡◌, ◌≤◌, ◌-◌, ◌⊎◌, ◌++◌, ◌∷◌, [], ℕ, Some, IfSome, List, length, slice_get, slice_set}
use Rattle.sip_standard.specs.Outcome.{gives}
use Rattle.sip_standard.specs.Says.{Said, Says}
use Rattle.sip_verdict.specs.declared.histories.History.{History}

-- these bytes are the branch of the top Via as a message spells it, where the other bytes spell a message that has one
abbrev pub SpellsBranch : List ℕ → List ℕ → Type 0
SpellsBranch text branch = (s : Said) → Says text (gives s) → IfSome s.via.branch (λ spelled. branch ≡ spelled)

-- the entry with the number `entry` becomes the last one in the history of a known transaction, whose number is `number`
pub record NotesLast (entry number : ℕ) (old new : List History) : Type 0 where
  pub before : History
  pub after : History
  pub was : slice_get old (number - 1) ≡ Some before
  pub is : new ≡ slice_set old (number - 1) after
  pub branch : after.branch.items ≡ before.branch.items
  pub first : after.first ≡ before.first
  pub last : after.last ≡ entry

-- the entry with the number `entry` and this text begins the history of a new transaction, whose number is `number`: it is its first and its last entry
pub record NotesFirst (entry : ℕ) (text : List ℕ) (number : ℕ) (old new : List History) : Type 0 where
  pub begun : History
  pub beyond : length old ≤ number - 1
  pub is : new ≡ old ++ begun ∷ []
  pub branch : SpellsBranch text begun.branch.items
  pub first : begun.first ≡ entry
  pub last : begun.last ≡ entry

-- the entry is written into the history of the transaction with this number, be the transaction known or new
abbrev pub Notes : (entry : ℕ) (text : List ℕ) (number : ℕ) → List History → List History → Type 0
Notes entry text number old new = NotesLast entry number old new ⊎ NotesFirst entry text number old new

-- the entry is written into the histories of the transactions with these numbers, one after another
abbrev pub NotesEach : (entry : ℕ) (text : List ℕ) → List ℕ → List History → List History → Type 0
NotesEach entry text [] old new = new ≡ old
NotesEach entry text (n ∷ ns) old new = (between : List History) × Notes entry text n old between × NotesEach entry text ns between new
