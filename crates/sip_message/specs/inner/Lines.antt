-- The head of a message and its logical lines (RFC 3261, sections 7 and 7.3.1).
use Rattle.std.specs.Prelude.{◌≡◌, ℕ, ◌+◌, ◌<◌, ◌≤◌, ◌==◌, ◌&&◌, not, Bool, List, ◌++◌, slice_index}
use Rattle.std.specs.List.{AllByRecursion, flat_map}
use Rattle.sip_standard.specs.Text.{One, Exactly, ◌or◌, Many}
use Rattle.sip_text.specs.Bytes.{crlf, carriage_return, line_feed}
use Rattle.sip_standard.specs.Lines.{OpensBlank}

-- the byte is neither CR nor LF
abbrev pub is_inner_byte : ℕ → Bool
is_inner_byte byte = not (byte == carriage_return) && not (byte == line_feed)

-- the text has no CR without LF after it, and no LF without CR before it
abbrev pub HasNoBareEnd : List ℕ → Type 0
HasNoBareEnd = Many (Exactly crlf or One is_inner_byte)

-- a blank stands after each CRLF within the line
abbrev pub IsFolded : List ℕ → Type 0
IsFolded line = (u v : List ℕ) → line ≡ u ++ (crlf ++ v) → OpensBlank v

-- the line with its end, CRLF
abbrev pub with_end : List ℕ → List ℕ
with_end line = line ++ crlf

-- the text is these lines with their ends, and no line begins with a blank
pub record AreLines (text : List ℕ) (lines : List (List ℕ)) : Type 0 where
  pub whole : text ≡ flat_map with_end lines
  pub folded : AllByRecursion IsFolded lines
  pub cut : AllByRecursion (λ line. ¬ (OpensBlank line)) lines

-- a LF stands after this byte exactly if it is a CR
abbrev pub IsPaired : List ℕ → ℕ → Type 0
IsPaired text k = (slice_index text k == carriage_return) ≡ (slice_index text (k + 1) == line_feed)

-- from one place up to another a LF stands after each CR, and after no other byte
abbrev pub ArePaired : List ℕ → ℕ → ℕ → Type 0
ArePaired text from to = (k : ℕ) → from ≤ k → k < to → IsPaired text k

-- the text begins with a LF
abbrev pub BeginsWithFeed : List ℕ → Type 0
BeginsWithFeed text = slice_index text 0 ≡ line_feed
