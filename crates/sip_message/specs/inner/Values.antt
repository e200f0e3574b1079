-- The values of the other fields and their pieces, as their readers test them (RFC 3261, sections 7.3.1 and 25.1).
use Rattle.std.specs.Prelude.{◌≡◌, ◌||◌, ℕ, ◌<◌, Bool, List, nat_le, ◌-◌, ◌≤◌, ◌&&◌, not, nat_lt, true, length, slice_index, ◌==◌}
use Rattle.std.specs.Char.{is_ascii_digit, is_ascii_alphanumeric}
use Rattle.std.specs.Int.{is_in_range}
use Rattle.sip_standard.specs.Values.{CSeqSays}
use Rattle.sip_standard.specs.Text.{One, ◌or◌, Many, OneOrMore}
use Rattle.sip_standard.specs.Profile.{Lws}
use Rattle.sip_text.specs.inner.Blanks.{is_wsp}
use Rattle.sip_standard.specs.Field.{is_lws_byte}
use Rattle.sip_standard.specs.Chars.{is_among}
use Rattle.sip_text.specs.Bytes.{dquote, backslash}

-- 1*DIGIT
abbrev pub Digits : List ℕ → Type 0
Digits = OneOrMore (One is_ascii_digit)

-- CSeq = 1*DIGIT LWS Method, with its number and its method
abbrev pub CSeqValue : List ℕ → ℕ × List ℕ → Type 0
CSeqValue text said = CSeqSays said text

-- a byte of a value that the reader doesn't look into
abbrev pub is_value_byte : ℕ → Bool
is_value_byte byte = is_in_range 0x21 0x7E byte || nat_le 0x80 byte

-- header-value = *( TEXT-UTF8char / UTF8-CONT / LWS )
-- Lenient: any byte from %x80 on stands for UTF8-NONASCII.
abbrev pub OtherText : List ℕ → Type 0
OtherText = Many (Lws or One is_value_byte)

-- a byte of a value that is not looked into, or SP or HTAB
abbrev pub is_plain_byte : ℕ → Bool
is_plain_byte byte = is_value_byte byte || is_wsp byte

-- each byte from one place up to another is of a value that is not looked into, or SP or HTAB
abbrev pub ArePlain : List ℕ → ℕ → ℕ → Type 0
ArePlain text from to = (k : ℕ) → from ≤ k → k < to → is_plain_byte (slice_index text k) ≡ true

-- the text is not empty, and neither begins nor ends with a byte of a blank run
abbrev pub is_solid : List ℕ → Bool
is_solid text =
    nat_lt 0 (length text) && not (is_lws_byte (slice_index text 0))
    && not (is_lws_byte (slice_index text (length text - 1)))

-- a byte that may stand in a word
abbrev pub is_word_byte : ℕ → Bool
is_word_byte byte =
    is_ascii_alphanumeric byte || is_among "-.!%*_+`'~()<>:/[]?{}" byte || byte == backslash || byte == dquote

-- word: one byte or more that may stand in one
abbrev pub Word : List ℕ → Type 0
Word = OneOrMore (One is_word_byte)
