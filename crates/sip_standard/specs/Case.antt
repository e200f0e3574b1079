-- Texts without case: ASCII letters are folded, and no other byte is (RFC 3261, section 7.3.1).
use Rattle.std.specs.Prelude.{ℕ, List, map}
use Rattle.std.specs.Char.{to_ascii_lowercase}

-- the text with each ASCII letter in lower case
abbrev pub folded : List ℕ → List ℕ
folded text = map to_ascii_lowercase text
