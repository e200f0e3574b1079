-- Tokens, blanks, hosts and URIs as sets of texts (RFC 3261, section 25.1).
-- "Lenient" and "Own" mark where this profile takes more than the standard, or chose other than it.
use Rattle.std.specs.Prelude.{ℕ, ◌≤◌, ◌||◌, ◌==◌, Bool, nat_le, List}
use Rattle.std.specs.Int.{is_in_range}
use Rattle.std.specs.Char.{is_ascii_alphabetic, is_ascii_alphanumeric, is_ascii_digit, is_ascii_hexdigit}
use Rattle.std.specs.Str.Parse.{digits_value}
use Prim.Native.String.{String}
use Rattle.sip_standard.specs.Text.{One, ◌then◌, ◌or◌, Optional, Many, OneOrMore, Between}
use Rattle.sip_standard.specs.Chars.{Lit, AnyCase, is_among, is_alphanum_or}

-- token = 1*( alphanum / "-" / "." / "!" / "%" / "*" / "_" / "+" / "`" / "'" / "~" )
abbrev pub Token : List ℕ → Type 0
Token = OneOrMore (One (is_alphanum_or "-.!%*_+`'~"))

-- WSP = SP / HTAB
abbrev pub Wsp : List ℕ → Type 0
Wsp = One (λ byte. byte == 0x20 || byte == 0x09)

-- LWS = [ *WSP CRLF ] 1*WSP
abbrev pub Lws : List ℕ → Type 0
Lws = Optional (Many Wsp then Lit "\r\n") then OneOrMore Wsp

-- 1*LWS. Lenient: it stands wherever the standard has LWS.
abbrev pub Blanks : List ℕ → Type 0
Blanks = OneOrMore Lws

-- SWS = [ LWS ]
abbrev pub Sws : List ℕ → Type 0
Sws = Optional Blanks

-- SLASH, COMMA, COLON, SEMI, EQUAL = SWS the character SWS
abbrev pub Mark : String → List ℕ → Type 0
Mark char = Sws then Lit char then Sws

-- quoted-string, without the blanks before it: qdtext = LWS / %x21 / %x23-5B / %x5D-7E / UTF8-NONASCII,
-- quoted-pair = "\" ( %x00-09 / %x0B-0C / %x0E-7F ). Lenient: any byte from %x80 on stands for UTF8-NONASCII.
abbrev pub Quoted : List ℕ → Type 0
Quoted =
    let Qdtext = Lws or One (λ byte. byte == 0x21 || is_in_range 0x23 0x5B byte || is_in_range 0x5D 0x7E byte || nat_le 0x80 byte) in
    let Pair = Lit "\\" then One (λ byte. is_in_range 0x00 0x09 byte || is_in_range 0x0B 0x0C byte || is_in_range 0x0E 0x7F byte) in
    Lit "\"" then Many (Qdtext or Pair) then Lit "\""

-- domainlabel = alphanum / alphanum *( alphanum / "-" ) alphanum, and toplabel, whose first is ALPHA
abbrev pub Label : (ℕ → Bool) → List ℕ → Type 0
Label is_first = One is_first or (One is_first then Many (One (λ byte. is_ascii_alphanumeric byte || byte == 0x2D)) then One is_ascii_alphanumeric)

-- hostname = *( domainlabel "." ) toplabel [ "." ]
abbrev pub Hostname : List ℕ → Type 0
Hostname = Many (Label is_ascii_alphanumeric then Lit ".") then Label is_ascii_alphabetic then Optional (Lit ".")

-- IPv4address = 1*3DIGIT "." 1*3DIGIT "." 1*3DIGIT "." 1*3DIGIT
abbrev pub Ipv4 : List ℕ → Type 0
Ipv4 = let Group = Between 1 3 (One is_ascii_digit) in Group then Lit "." then Group then Lit "." then Group then Lit "." then Group

-- hexseq = hex4 *( ":" hex4 ), hex4 = 1*4HEXDIG
abbrev pub Hexseq : List ℕ → Type 0
Hexseq = let Hex4 = Between 1 4 (One is_ascii_hexdigit) in Hex4 then Many (Lit ":" then Hex4)

-- IPv6address = hexpart [ ":" IPv4address ], hexpart = hexseq / hexseq "::" [ hexseq ] / "::" [ hexseq ]. As in the standard,
-- the number of groups is not limited (RFC 5954 narrows this). Lenient: after a hexpart that ends with "::" the ":" may be missing.
abbrev pub Ipv6 : List ℕ → Type 0
Ipv6 =
    ((Hexseq or (Hexseq then Lit "::" then Optional Hexseq) or (Lit "::" then Optional Hexseq)) then Optional (Lit ":" then Ipv4))
    or (((Hexseq then Lit "::") or Lit "::") then Ipv4)

-- IPv6reference = "[" IPv6address "]"
abbrev pub Bracketed : List ℕ → Type 0
Bracketed = Lit "[" then Ipv6 then Lit "]"

-- host = hostname / IPv4address / IPv6reference
abbrev pub Host : List ℕ → Type 0
Host = Hostname or Ipv4 or Bracketed

-- port = 1*DIGIT. Own: one to five digits, at most 65535.
abbrev pub Port : List ℕ → Type 0
Port text = Between 1 5 (One is_ascii_digit) text × (digits_value 10 text ≤ 65535)

-- one of these characters / unreserved / escaped: unreserved = alphanum / mark, escaped = "%" HEXDIG HEXDIG
abbrev pub Char : String → List ℕ → Type 0
Char others = One (is_among others) or One (is_alphanum_or "-_.!~*'()") or (Lit "%" then One is_ascii_hexdigit then One is_ascii_hexdigit)

-- user = 1*( unreserved / escaped / user-unreserved ). Own: a telephone-subscriber is read as a user.
abbrev pub User : List ℕ → Type 0
User = OneOrMore (Char "&=+$,;?/")

-- password = *( unreserved / escaped / "&" / "=" / "+" / "$" / "," )
abbrev pub Password : List ℕ → Type 0
Password = Many (Char "&=+$,")

-- userinfo = user [ ":" password ] "@"
abbrev pub Userinfo : List ℕ → Type 0
Userinfo = User then Optional (Lit ":" then Password) then Lit "@"

-- uri-parameters = *( ";" pname [ "=" pvalue ] ). Own: the parameters that the standard names (transport, lr ..) are read so, too.
abbrev pub UriParameters : List ℕ → Type 0
UriParameters = let Name = OneOrMore (Char "[]/:&+$") in Many (Lit ";" then Name then Optional (Lit "=" then Name))

-- headers, without their "?" = header *( "&" header ), header = hname "=" hvalue
abbrev pub Headers : List ℕ → Type 0
Headers = let Header = OneOrMore (Char "[]/?:+$") then Lit "=" then Many (Char "[]/?:+$") in Header then Many (Lit "&" then Header)

-- "sip" or "sips", without case
abbrev pub SipScheme : List ℕ → Type 0
SipScheme = AnyCase "sip" or AnyCase "sips"

-- scheme = ALPHA *( ALPHA / DIGIT / "+" / "-" / "." )
abbrev pub Scheme : List ℕ → Type 0
Scheme = One is_ascii_alphabetic then Many (One (is_alphanum_or "+-."))

-- uric = reserved / unreserved / escaped
abbrev pub Uric : List ℕ → Type 0
Uric = Char ";/?:@&=+$,"

-- SIP-URI = "sip:" [ userinfo ] hostport uri-parameters [ headers ], hostport = host [ ":" port ], and SIPS-URI with "sips:"
-- Own: any other URI, in place of absoluteURI, is scheme ":" 1*uric with a scheme that is neither of these two.
abbrev pub Uri : List ℕ → Type 0
Uri =
    (SipScheme then Lit ":" then Optional Userinfo then Host then Optional (Lit ":" then Port)
    then UriParameters then Optional (Lit "?" then Headers))
    or ((λ text. Scheme text × ¬ (SipScheme text)) then Lit ":" then OneOrMore Uric)
