-- The word for something.
use Rattle.std.specs.Prelude.{◌≡◌, ◌≢◌, ℕ, List, Option, None, Some}

-- the word is that of a thing that there can be; None stands for a word of no such thing
abbrev pub IsWordFor : {A : Type 0} → (can_be : A → Type 0) (word_of : A → List ℕ) → List ℕ → Option A → Type 0
IsWordFor can_be word_of word (Some it) = can_be it × (word ≡ word_of it)
IsWordFor {A} can_be word_of word None = (it : A) → can_be it → word ≢ word_of it
