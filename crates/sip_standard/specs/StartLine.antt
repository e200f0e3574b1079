-- The start line (RFC 3261, sections 7.1, 7.2 and 25.1).
-- "Own" marks where this profile chose other than the standard.
use Rattle.std.specs.Prelude.{◌≡◌, ℕ, ◌≤◌, ◌<◌, ◌||◌, ◌==◌, List, nat_le}
use Rattle.std.specs.Int.{is_in_range}
use Rattle.std.specs.Char.{is_ascii_digit}
use Rattle.std.specs.Str.Parse.{digits_value}
use Rattle.sip_standard.specs.Text.{One, ◌then◌, Many, Between}
use Rattle.sip_standard.specs.Chars.{Lit, AnyCase, ◌is◌}
use Rattle.sip_standard.specs.Profile.{Token, Uri}

-- a request's method and Request-URI; a response's Status-Code and Reason-Phrase
pub data StartLine : Type 0 where
  request : List ℕ → List ℕ → StartLine
  status : ℕ → List ℕ → StartLine

-- Request-Line = Method SP Request-URI SP SIP-Version, Status-Line = SIP-Version SP Status-Code SP Reason-Phrase, SIP-Version = "SIP/2.0",
-- without case. Own: codes from 100 to 699; a reason is any of %x20-7E, HTAB, and the bytes from %x80 on.
abbrev pub StartSays : List ℕ → StartLine → Type 0
StartSays line (request method uri) = ((Token is method) then Lit " " then (Uri is uri) then Lit " " then AnyCase "sip/2.0") line
StartSays line (status code why) =
    (AnyCase "sip/2.0" then Lit " "
    then (λ text. Between 3 3 (One is_ascii_digit) text × (code ≡ digits_value 10 text) × (100 ≤ code) × (code < 700)) then Lit " "
    then (Many (One (λ byte. is_in_range 0x20 0x7E byte || byte == 0x09 || nat_le 0x80 byte)) is why)) line
