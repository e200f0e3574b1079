-- What the masks of a text say.
use Rattle.std.specs.Prelude.{◌≡◌, ℕ, ◌+◌, ◌*◌, ◌/◌, ◌%◌, ◌<◌, ◌≤◌, Bool, not, ◌&&◌, ◌||◌, ◌==◌, List, get_or, length}
use Rattle.std.specs.Int.{is_in_range}
use Rattle.std.specs.Char.{is_ascii_alphanumeric}
use Rattle.sip_standard.specs.Chars.{is_among}
use Rattle.sip_text.specs.Bytes.{tab}
use Rattle.sip_masks.specs.Bits.{test}

-- a byte that may stand in each of these: a token, a word, and a URI's user, password, parameter and header
abbrev pub is_plain : ℕ → Bool
is_plain byte = is_ascii_alphanumeric byte || is_among "-.!*_+'~" byte

-- any byte that is not plain
abbrev pub is_other : ℕ → Bool
is_other byte = not (is_plain byte)

-- a control character other than HTAB
abbrev pub is_control : ℕ → Bool
is_control byte = (is_in_range 0 31 byte && not (byte == tab)) || byte == 127

-- for each of the first n places of the text, bit i of the words says whether byte i passes the test p; past the end NUL is taken for the byte
abbrev pub BitsTell : (ℕ → Bool) → List ℕ → List ℕ → ℕ → Type 0
BitsTell p text words n = (i : ℕ) → i < n → test (get_or words (i / 64) 0) (i % 64) ≡ p (get_or text i 0)

-- how many words a text of this length has: one for each 64 bytes, one for the bytes after them, and one in which a search ends
abbrev pub words_for : ℕ → ℕ
words_for n = n / 64 + 2

-- the words are the masks of the text: of the bytes that are not plain, and of the controls; they are at least as many as the text needs
pub record IsMasks (text others controls : List ℕ) : Type 0 where
  pub others_long : words_for (length text) ≤ length others
  pub controls_long : words_for (length text) ≤ length controls
  pub others_mark : BitsTell is_other text others (64 * words_for (length text))
  pub controls_mark : BitsTell is_control text controls (64 * words_for (length text))
