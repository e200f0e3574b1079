-- What a book holds: messages under their numbers.
use Rattle.std.specs.Prelude.{◌≡◌, ◌<◌, ℕ, List, [], ◌∷◌, Contains, AllPairs, map, if◌then◌else◌, ◌==◌}

-- what a book holds: the messages by their numbers, in the order in which they were added
abbrev pub Texts : Type 0
Texts = List (ℕ × List ℕ)

-- the book keeps a message with this number
abbrev pub Keeps : Texts → ℕ → Type 0
Keeps texts number = Contains (map (λ kept. kept.0) texts) number

-- the bytes of the message with this number, and no bytes if it is not kept
abbrev pub text_of : Texts → ℕ → List ℕ
text_of [] number = []
text_of (kept ∷ texts) number = if kept.0 == number then kept.1 else text_of texts number

-- the numbers rise, and messages with equal bytes have one number
pub record IsBook (texts : Texts) : Type 0 where
  pub rising : AllPairs (λ a b. a.0 < b.0) texts
  pub apart : (a b : ℕ) → Keeps texts a → Keeps texts b → text_of texts a ≡ text_of texts b → a ≡ b
