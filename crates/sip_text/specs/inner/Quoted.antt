-- The contents of a quoted string, in pieces that begin no other.
use Rattle.std.specs.Prelude.{ℕ, Bool, ◌&&◌, List, length, ◌==◌, nat_lt, slice_index, if◌then◌else◌}
use Rattle.sip_standard.specs.Text.{One, ◌or◌}
use Rattle.sip_text.specs.Bytes.{backslash}
use Rattle.sip_text.specs.inner.Class.{is_quoted_byte, is_escaped_byte}
use Rattle.sip_text.specs.inner.Blanks.{Blank, blank_len}
use Rattle.sip_text.specs.inner.Pieces.{QuotedPair}

-- a piece of the contents of a quoted string: a byte of qdtext, a quoted pair, or a blank
abbrev pub QuotedItem : List ℕ → Type 0
QuotedItem = One is_quoted_byte or QuotedPair or Blank

-- the text begins with a quoted pair
abbrev pub begins_with_pair : List ℕ → Bool
begins_with_pair text =
    slice_index text 0 == backslash && nat_lt 1 (length text) && is_escaped_byte (slice_index text 1)

-- the length of the piece at the front of the text, and 0 if there is none
abbrev pub item_len : List ℕ → ℕ
item_len text =
    if is_quoted_byte (slice_index text 0) then 1
    else (if begins_with_pair text then 2 else blank_len text)
