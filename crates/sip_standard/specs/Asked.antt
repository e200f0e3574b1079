-- What the words after the program's name ask for.
use Rattle.std.specs.Prelude.{◌≡◌, ◌≢◌, ◌≤◌, ℕ, List, [], ◌∷◌, Option, None, Some, codes, decimal, ⊤}
use Rattle.sip_standard.specs.declared.asked.Asked.{Asked}
use Rattle.sip_standard.specs.declared.asked.Asked.TheVariants.{Input, Check, Show, States}

-- the number is one of an entry: entries are numbered from 1, and a log has at most 1,000,000
abbrev pub IsEntryNumber : ℕ → Type 0
IsEntryNumber entry = (1 ≤ entry) × (entry ≤ 1000000)

-- the words that ask for it
abbrev pub words_for : Asked → List (List ℕ)
words_for Input = []
words_for (Check file) = codes "check" ∷ file.now ∷ []
words_for (Show file) = codes "show" ∷ file.now ∷ []
words_for (States file entry) = codes "states" ∷ file.now ∷ decimal entry ∷ []

-- words can ask for it: an entry that is asked for has a number that entries can have
abbrev pub IsMeant : Asked → Type 0
IsMeant (States file entry) = IsEntryNumber entry
IsMeant asked = ⊤

-- what the words ask for, and None where there is nothing that they ask for
abbrev pub IsAskedBy : List (List ℕ) → Option Asked → Type 0
IsAskedBy words (Some asked) = (words ≡ words_for asked) × IsMeant asked
IsAskedBy words None = (asked : Asked) → IsMeant asked → words ≢ words_for asked
