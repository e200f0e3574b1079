-- The values of From, To, Call-ID and CSeq (RFC 3261, sections 8.1.1, 20 and 25.1).
-- "Lenient" marks where this profile takes more than the standard.
use Rattle.std.specs.Prelude.{◌≡◌, ℕ, ◌<◌, ◌^◌, ◌||◌, ◌==◌, not, List}
use Rattle.std.specs.Char.{is_ascii_alphanumeric, is_ascii_digit}
use Rattle.std.specs.Str.Parse.{digits_value}
use Rattle.sip_standard.specs.Text.{One, ◌then◌, ◌or◌, Optional, Many, OneOrMore}
use Rattle.sip_standard.specs.Chars.{Lit, is_among, ◌is◌}
use Rattle.sip_standard.specs.Profile.{Token, Blanks, Sws, Mark, Quoted, Uri}
use Rattle.sip_standard.specs.Via.{GenValue}

-- from-spec = ( name-addr / addr-spec ) *( SEMI generic-param ), name-addr = [ display-name ] LAQUOT addr-spec RAQUOT, display-name = *( token LWS )
-- / quoted-string. Lenient: no blank is needed before "<". An addr-spec without "<" holds no comma, question mark or semicolon (section 20).
abbrev pub Address : List ℕ → Type 0
Address =
    let Display = Quoted or (Token then Many (Blanks then Token)) in
    let Params = Many (Mark ";" then (Token then Optional (Mark "=" then GenValue))) in
    ((Lit "<" or (Display then Sws then Lit "<")) then Uri then Lit ">" then Params)
    or ((λ text. Uri text × Many (One (λ byte. not (is_among ",?;" byte))) text) then Params)

-- callid = word [ "@" word ], word = 1*( alphanum / "-" / "." / "!" / "%" / "*" / "_" / "+" / "`" / "'" / "~" / "(" / ")" / "<" / ">" / ":" / "\" / DQUOTE
-- / "/" / "[" / "]" / "?" / "{" / "}" ): 0x5C is "\", and 0x22 is DQUOTE
abbrev pub CallId : List ℕ → Type 0
CallId =
    let Word = OneOrMore (One (λ byte. is_ascii_alphanumeric byte || is_among "-.!%*_+`'~()<>:/[]?{}" byte || byte == 0x5C || byte == 0x22)) in
    Word then Optional (Lit "@" then Word)

-- CSeq = 1*DIGIT LWS Method, the number below 2**31 (section 8.1.1.5)
abbrev pub CSeqSays : ℕ × List ℕ → List ℕ → Type 0
CSeqSays (number, method) text =
    (number < 2 ^ 31)
    × ((λ digits. OneOrMore (One is_ascii_digit) digits × (number ≡ digits_value 10 digits)) then Blanks then (Token is method)) text
