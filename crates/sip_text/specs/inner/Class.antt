-- The classes of bytes that the readers test by the table. Those of RFC 3261, section 25.1, are told by the names that they have there.
use Rattle.std.specs.Prelude.{ℕ, Bool, ◌||◌, ◌==◌, nat_le}
use Rattle.std.specs.Int.{is_in_range}
use Rattle.std.specs.Char.{is_ascii_alphabetic, is_ascii_alphanumeric, is_ascii_digit, is_ascii_hexdigit}
use Rattle.sip_standard.specs.Chars.{is_among, is_alphanum_or}
use Rattle.sip_text.specs.Bytes.{hyphen, is_token_byte}
use Rattle.sip_text.specs.declared.class.Class.{Class}
use Rattle.sip_text.specs.declared.class.Class.TheVariants as variant

-- a byte of qdtext, LWS aside = %x21 / %x23-5B / %x5D-7E / UTF8-NONASCII
-- Lenient: any byte from %x80 on stands for UTF8-NONASCII.
abbrev pub is_quoted_byte : ℕ → Bool
is_quoted_byte byte =
    byte == 0x21 || is_in_range 0x23 0x5B byte || is_in_range 0x5D 0x7E byte || nat_le 0x80 byte

-- a byte after the "\" of a quoted-pair = %x00-09 / %x0B-0C / %x0E-7F
abbrev pub is_escaped_byte : ℕ → Bool
is_escaped_byte byte =
    is_in_range 0x00 0x09 byte || is_in_range 0x0B 0x0C byte || is_in_range 0x0E 0x7F byte

-- a byte within a label = alphanum / "-"
abbrev pub is_label_byte : ℕ → Bool
is_label_byte byte = is_ascii_alphanumeric byte || byte == hyphen

-- unreserved = alphanum / mark
abbrev pub is_unreserved : ℕ → Bool
is_unreserved = is_alphanum_or "-_.!~*'()"

-- user-unreserved = "&" / "=" / "+" / "$" / "," / ";" / "?" / "/"
abbrev pub is_user_unreserved : ℕ → Bool
is_user_unreserved = is_among "&=+$,;?/"

-- a byte that a password may have beside those of unreserved and escaped
abbrev pub is_password_unreserved : ℕ → Bool
is_password_unreserved = is_among "&=+$,"

-- param-unreserved = "[" / "]" / "/" / ":" / "&" / "+" / "$"
abbrev pub is_param_unreserved : ℕ → Bool
is_param_unreserved = is_among "[]/:&+$"

-- hnv-unreserved = "[" / "]" / "/" / "?" / ":" / "+" / "$"
abbrev pub is_hnv_unreserved : ℕ → Bool
is_hnv_unreserved = is_among "[]/?:+$"

-- reserved = ";" / "/" / "?" / ":" / "@" / "&" / "=" / "+" / "$" / ","
abbrev pub is_reserved : ℕ → Bool
is_reserved = is_among ";/?:@&=+$,"

-- a byte of a scheme after its first
abbrev pub is_scheme_byte : ℕ → Bool
is_scheme_byte = is_alphanum_or "+-."

-- the bit of the class in the table
abbrev pub bit_of : Class → ℕ
bit_of variant.Token = 0x0001
bit_of variant.Quoted = 0x0002
bit_of variant.Escaped = 0x0004
bit_of variant.Alphabetic = 0x0008
bit_of variant.Alphanumeric = 0x0010
bit_of variant.Label = 0x0020
bit_of variant.Digit = 0x0040
bit_of variant.HexDigit = 0x0080
bit_of variant.User = 0x0100
bit_of variant.Password = 0x0200
bit_of variant.Param = 0x0400
bit_of variant.Header = 0x0800
bit_of variant.Uric = 0x1000
bit_of variant.Scheme = 0x2000

-- the byte is in the class
abbrev pub is_in : Class → ℕ → Bool
is_in variant.Token byte = is_token_byte byte
is_in variant.Quoted byte = is_quoted_byte byte
is_in variant.Escaped byte = is_escaped_byte byte
is_in variant.Alphabetic byte = is_ascii_alphabetic byte
is_in variant.Alphanumeric byte = is_ascii_alphanumeric byte
is_in variant.Label byte = is_label_byte byte
is_in variant.Digit byte = is_ascii_digit byte
is_in variant.HexDigit byte = is_ascii_hexdigit byte
is_in variant.User byte = is_unreserved byte || is_user_unreserved byte
is_in variant.Password byte = is_unreserved byte || is_password_unreserved byte
is_in variant.Param byte = is_unreserved byte || is_param_unreserved byte
is_in variant.Header byte = is_unreserved byte || is_hnv_unreserved byte
is_in variant.Uric byte = is_unreserved byte || is_reserved byte
is_in variant.Scheme byte = is_scheme_byte byte
