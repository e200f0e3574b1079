-- The first field of a name from a place on.
use Rattle.std.specs.Prelude.{◌≡◌, ℕ, ◌+◌, List, [], ◌∷◌, drop, Option, None, Some, ⊤}
use Rattle.std.specs.Borrow.{Bor}
use Rattle.sip_message.specs.declared.name.Known.{Known}
use Rattle.sip_message.specs.Field.{Field}
use Rattle.sip_message.specs.inner.MessageText.{found_from}

-- the value that the code found, with the number of its line
abbrev pub found_parts : Bor (List ℕ) × ℕ → ℕ × List ℕ
found_parts (value, line) = (line, value.now)

-- the first field of the name after the first n lines is this one, or there is none
abbrev pub IsFound : Known → ℕ → List Field → Option (ℕ × List ℕ) → Type 0
IsFound name n fields None = found_from (n + 1) name (drop n fields) ≡ []
IsFound name n fields (Some one) =
    found_from (n + 1) name (drop n fields) ≡ one ∷ found_from (one.0 + 1) name (drop (one.0) fields)

-- the answer of a search, of which nothing is told but whether there is one
abbrev pub nothing_parts : ⊤ → ⊤
nothing_parts nothing = nothing
