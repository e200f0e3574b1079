-- The marks of values by their bytes (RFC 3261, section 25.1): `Mark b` is the byte b with blanks around it.
use Rattle.std.specs.Prelude.{ℕ, List}
use Rattle.sip_standard.specs.Text.{◌then◌}
use Rattle.sip_standard.specs.Profile.{Sws}
use Rattle.sip_text.specs.Bytes.{Byte}

-- "/"
abbrev pub slash : ℕ
slash = 47

-- ","
abbrev pub comma : ℕ
comma = 44

-- "<"
abbrev pub left_angle : ℕ
left_angle = 60

-- ">"
abbrev pub right_angle : ℕ
right_angle = 62

-- SLASH, COMMA, COLON, SEMI, EQUAL = SWS the byte SWS
abbrev pub Mark : ℕ → List ℕ → Type 0
Mark byte = Sws then Byte byte then Sws
