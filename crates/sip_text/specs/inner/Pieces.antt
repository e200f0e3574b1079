-- The pieces of productions, which the readers test one by one. Each is told by its name or its form in RFC 3261, section 25.1.
use Rattle.std.specs.Prelude.{ℕ, List, [], ◌∷◌}
use Rattle.std.specs.Char.{is_ascii_digit, is_ascii_hexdigit}
use Rattle.sip_standard.specs.Text.{One, Exactly, ◌then◌, ◌or◌, Optional, Many, OneOrMore, Between}
use Rattle.sip_standard.specs.Profile.{Lws, Hexseq, Char}
use Rattle.sip_text.specs.Bytes.{percent, colon, equals, backslash, Byte}
use Rattle.sip_text.specs.inner.Class.{is_quoted_byte, is_escaped_byte}

-- P *( "mark" P ): one text of P or more, with the mark between any two
abbrev pub Joined : ℕ → (List ℕ → Type 0) → List ℕ → Type 0
Joined mark P = P then Many (Byte mark then P)

-- qdtext = LWS / %x21 / %x23-5B / %x5D-7E / UTF8-NONASCII
abbrev pub Qdtext : List ℕ → Type 0
Qdtext = Lws or One is_quoted_byte

-- quoted-pair = "\" ( %x00-09 / %x0B-0C / %x0E-7F )
abbrev pub QuotedPair : List ℕ → Type 0
QuotedPair = Byte backslash then One is_escaped_byte

-- 1*3DIGIT
abbrev pub DecimalGroup : List ℕ → Type 0
DecimalGroup = Between 1 3 (One is_ascii_digit)

-- hex4 = 1*4HEXDIG
abbrev pub Hex4 : List ℕ → Type 0
Hex4 = Between 1 4 (One is_ascii_hexdigit)

-- "::"
abbrev pub double_colon : List ℕ
double_colon = colon ∷ colon ∷ []

-- hexpart = hexseq / hexseq "::" [ hexseq ] / "::" [ hexseq ]
abbrev pub Hexpart : List ℕ → Type 0
Hexpart =
    Hexseq
    or (Hexseq then Exactly double_colon then Optional Hexseq)
    or (Exactly double_colon then Optional Hexseq)

-- the hexparts that end with "::"
abbrev pub OpenHexpart : List ℕ → Type 0
OpenHexpart = (Hexseq then Exactly double_colon) or Exactly double_colon

-- escaped = "%" HEXDIG HEXDIG
abbrev pub Escaped : List ℕ → Type 0
Escaped = Byte percent then One is_ascii_hexdigit then One is_ascii_hexdigit

-- paramchar = param-unreserved / unreserved / escaped
abbrev pub ParamChar : List ℕ → Type 0
ParamChar = Char "[]/:&+$"

-- pname = 1*paramchar, pvalue = 1*paramchar
abbrev pub ParamWord : List ℕ → Type 0
ParamWord = OneOrMore ParamChar

-- uri-parameter, of whatever name: pname [ "=" pvalue ]
abbrev pub UriParameter : List ℕ → Type 0
UriParameter = ParamWord then Optional (Byte equals then ParamWord)

-- a character of hname and hvalue: hnv-unreserved / unreserved / escaped
abbrev pub HeaderChar : List ℕ → Type 0
HeaderChar = Char "[]/?:+$"

-- header = hname "=" hvalue, where hname is one character or more and hvalue may be empty
abbrev pub Header : List ℕ → Type 0
Header = OneOrMore HeaderChar then Byte equals then Many HeaderChar
