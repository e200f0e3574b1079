-- The bytes that the grammar names (RFC 3261, section 25.1).
use Rattle.std.specs.Prelude.{◌≡◌, ℕ, Bool, List, [], ◌∷◌}
use Rattle.sip_standard.specs.Chars.{is_alphanum_or}
pub use Rattle.sip_standard.specs.LogSays.{line_feed}

-- HTAB
abbrev pub tab : ℕ
tab = 9

-- CR
abbrev pub carriage_return : ℕ
carriage_return = 13

-- SP
abbrev pub space : ℕ
space = 32

-- DQUOTE
abbrev pub dquote : ℕ
dquote = 34

-- "%"
abbrev pub percent : ℕ
percent = 37

-- "&"
abbrev pub ampersand : ℕ
ampersand = 38

-- "-"
abbrev pub hyphen : ℕ
hyphen = 45

-- "."
abbrev pub dot : ℕ
dot = 46

-- ":"
abbrev pub colon : ℕ
colon = 58

-- ";"
abbrev pub semicolon : ℕ
semicolon = 59

-- "="
abbrev pub equals : ℕ
equals = 61

-- "?"
abbrev pub question : ℕ
question = 63

-- "@"
abbrev pub at_sign : ℕ
at_sign = 64

-- "["
abbrev pub left_bracket : ℕ
left_bracket = 91

-- "\"
abbrev pub backslash : ℕ
backslash = 92

-- "]"
abbrev pub right_bracket : ℕ
right_bracket = 93

-- CRLF = CR LF
abbrev pub crlf : List ℕ
crlf = carriage_return ∷ line_feed ∷ []

-- this byte alone, as ":"
abbrev pub Byte : ℕ → List ℕ → Type 0
Byte byte text = text ≡ byte ∷ []

-- a byte of a token, of which `Token` of sip_standard has one or more
abbrev pub is_token_byte : ℕ → Bool
is_token_byte = is_alphanum_or "-.!%*_+`'~"
