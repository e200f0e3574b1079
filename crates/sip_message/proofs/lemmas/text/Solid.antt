-- The sets of texts without blanks: tokens, hosts, ports and URIs.
-- `solid-one class refl refl refl refl` tries SP, HTAB, CR and LF one after another, by computing: none of them is of the class.
use Rattle.std.proofs.Common.{◌≡◌, ℕ, Bool, true, false, List, [], ◌∷◌, refl, sym, subst, inl, inr}
use Rattle.std.specs.Char.{is_ascii_alphabetic, is_ascii_alphanumeric, is_ascii_digit, is_ascii_hexdigit, to_ascii_lowercase}
use Rattle.sip_standard.specs.Text.{One, Exactly, Many, OneOrMore}
use Rattle.sip_standard.specs.Case.{folded}
use Rattle.sip_standard.specs.Profile.{Token, Hostname, Ipv4, Hexseq, Ipv6, Bracketed, Host, User, Password, Userinfo, Port, UriParameters, Headers, SipScheme, Scheme, Uri}
use Rattle.sip_text.specs.Bytes.{space, tab, carriage_return, line_feed, colon, at_sign, question, Byte, is_token_byte}
use Rattle.sip_text.specs.inner.Class.{is_label_byte, is_unreserved, is_user_unreserved, is_password_unreserved, is_param_unreserved, is_hnv_unreserved, is_reserved, is_scheme_byte}
use Rattle.sip_text.specs.inner.Pieces.{DecimalGroup, Hex4, Hexpart, Escaped, ParamWord, HeaderChar, Header}
use Rattle.sip_message.proofs.lemmas.text.Cuts.{All}
use Rattle.sip_message.proofs.lemmas.text.Each.{Each, each-one, each-exactly, each-then, each-or, each-optional, each-many, each-some, each-between, is_solid, solid_class}

-- the byte is no blank
abbrev S : ℕ → Bool
S = is_solid

-- a class without SP, HTAB, CR and LF has no blanks
solid-one : (class : ℕ → Bool) → class space ≡ false → class tab ≡ false → class carriage_return ≡ false → class line_feed ≡ false → Each S (One class)
solid-one class sp ht cr lf = each-one S class (solid_class class sp ht cr lf)

-- the set of one byte that is no blank has no blanks
solid-byte : (b : ℕ) → is_solid b ≡ true → Each S (Byte b)
solid-byte b is u text = subst (All S) (sym text) (is, tt)

-- a token has no blanks
pub solid-token : Each S Token
solid-token = each-some S _ (solid-one is_token_byte refl refl refl refl)

-- digits have no blanks
pub solid-digits : Each S (OneOrMore (One is_ascii_digit))
solid-digits = each-some S _ (solid-one is_ascii_digit refl refl refl refl)

-- letters and digits are no blanks
solid-alnum : Each S (One is_ascii_alphanumeric)
solid-alnum = solid-one is_ascii_alphanumeric refl refl refl refl

-- letters are no blanks
solid-alpha : Each S (One is_ascii_alphabetic)
solid-alpha = solid-one is_ascii_alphabetic refl refl refl refl

-- the bytes of a label are no blanks
solid-label_bytes : Each S (Many (One is_label_byte))
solid-label_bytes = each-many S _ (solid-one is_label_byte refl refl refl refl)

-- a hostname has no blanks
solid-hostname : Each S Hostname
solid-hostname =
    -- the labels, each with its dot, 46, and the last label, with a dot after it or none
    each-then S _ _ (each-many S _ (each-then S _ _ (each-or S _ _ solid-alnum (each-then S _ _ solid-alnum (each-then S _ _ solid-label_bytes solid-alnum))) (solid-byte 46 refl)))
    (each-then S _ _ (each-or S _ _ solid-alpha (each-then S _ _ solid-alpha (each-then S _ _ solid-label_bytes solid-alnum))) (each-optional S _ (solid-byte 46 refl)))

-- a decimal group of an address has no blank
solid-group : Each S DecimalGroup
solid-group = each-between S 1 3 _ (solid-one is_ascii_digit refl refl refl refl)

-- an IPv4 address has no blanks
solid-v4 : Each S Ipv4
solid-v4 =
    -- four groups of digits, with a dot, 46, between each two
    each-then S _ _ solid-group (each-then S _ _ (solid-byte 46 refl) (each-then S _ _ solid-group (each-then S _ _ (solid-byte 46 refl)
    (each-then S _ _ solid-group (each-then S _ _ (solid-byte 46 refl) solid-group)))))

-- a hexseq has no blanks
solid-hexseq : Each S Hexseq
solid-hexseq = each-then S _ _ hex (each-many S _ (each-then S _ _ (solid-byte colon refl) hex))
  where
    -- a group of hexadecimal digits has no blanks
    hex : Each S Hex4
    hex = each-between S 1 4 _ (solid-one is_ascii_hexdigit refl refl refl refl)

-- "::" has no blank
solid-double : Each S (Exactly (colon ∷ colon ∷ []))
solid-double = each-exactly S _ (refl, (refl, tt))

-- a hexpart has no blanks
solid-hexpart : Each S Hexpart
solid-hexpart =
    -- a hexseq; or one, "::" and perhaps another one; or "::" and perhaps a hexseq
    each-or S _ _ solid-hexseq (each-or S _ _ (each-then S _ _ solid-hexseq (each-then S _ _ solid-double (each-optional S _ solid-hexseq)))
    (each-then S _ _ solid-double (each-optional S _ solid-hexseq)))

-- an IPv6 address has no blanks
pub solid-v6 : Each S Ipv6
solid-v6 =
    -- a hexpart, with ":" and an IPv4 address after it or not; or hexseq "::" or "::" alone, and then an IPv4 address
    each-or S _ _ (each-then S _ _ solid-hexpart (each-optional S _ (each-then S _ _ (solid-byte colon refl) solid-v4)))
    (each-then S _ _ (each-or S _ _ (each-then S _ _ solid-hexseq solid-double) solid-double) solid-v4)

-- an IPv6 address in brackets has no blanks
pub solid-v6_reference : Each S Bracketed
-- 91 is "[", and 93 is "]"
solid-v6_reference = each-then S _ _ (solid-byte 91 refl) (each-then S _ _ solid-v6 (solid-byte 93 refl))

-- a host has no blanks
pub solid-host : Each S Host
-- a host is a name, an IPv4 address, or an IPv6 address in brackets
solid-host = each-or S _ _ solid-hostname (each-or S _ _ solid-v4 solid-v6_reference)

-- a port has no blanks
pub solid-port : Each S Port
solid-port u is = each-between S 1 5 _ (solid-one is_ascii_digit refl refl refl refl) u is.0

-- an escaped byte has no blank
solid-escaped : Each S Escaped
solid-escaped =
    -- 37 is "%": two hexadecimal digits follow it
    each-then S _ _ (solid-byte 37 refl) (each-then S _ _ (solid-one is_ascii_hexdigit refl refl refl refl) (solid-one is_ascii_hexdigit refl refl refl refl))

-- unreserved bytes are no blanks
solid-unreserved : Each S (One is_unreserved)
solid-unreserved = solid-one is_unreserved refl refl refl refl

-- a user has no blank
solid-user : Each S User
-- a user is bytes of its own class, unreserved bytes and escaped ones
solid-user = each-some S _ (each-or S _ _ (solid-one is_user_unreserved refl refl refl refl) (each-or S _ _ solid-unreserved solid-escaped))

-- a password has no blank
solid-password : Each S Password
-- a password is bytes of its own class, unreserved bytes and escaped ones
solid-password = each-many S _ (each-or S _ _ (solid-one is_password_unreserved refl refl refl refl) (each-or S _ _ solid-unreserved solid-escaped))

-- the parameters of a URI have no blanks
solid-params : Each S UriParameters
-- 59 is ";", and 61 is "="
solid-params = each-many S _ (each-then S _ _ (solid-byte 59 refl) (each-then S _ _ word (each-optional S _ (each-then S _ _ (solid-byte 61 refl) word))))
  where
    -- a word of a parameter has no blanks
    word : Each S ParamWord
    word = each-some S _ (each-or S _ _ (solid-one is_param_unreserved refl refl refl refl) (each-or S _ _ solid-unreserved solid-escaped))

-- the headers of a URI have no blanks
solid-headers : Each S Headers
-- 38 is "&"
solid-headers = each-then S _ _ header (each-many S _ (each-then S _ _ (solid-byte 38 refl) header))
  where
    -- a piece of a header has no blanks
    char : Each S HeaderChar
    char = each-or S _ _ (solid-one is_hnv_unreserved refl refl refl refl) (each-or S _ _ solid-unreserved solid-escaped)

    -- a header has no blanks
    header : Each S Header
    -- 61 is "="
    header = each-then S _ _ (each-some S _ char) (each-then S _ _ (solid-byte 61 refl) (each-many S _ char))

-- a userinfo has no blanks
solid-userinfo : Each S Userinfo
-- the user, perhaps ":" and a password, and "@"
solid-userinfo = each-then S _ _ solid-user (each-then S _ _ (each-optional S _ (each-then S _ _ (solid-byte colon refl) solid-password)) (solid-byte at_sign refl))

-- lower case leaves blanks, so that a text whose lower case has none has none
solid-folded : (text : List ℕ) → All S (folded text) → All S text
solid-folded [] all = tt
solid-folded (b ∷ text) all =
    -- SP, HTAB, CR and LF are their own lower case, so a byte whose lower case is no blank is none of them
    (solid_class (λ c. is_solid (to_ascii_lowercase c)) refl refl refl refl b all.0, solid-folded text all.1)

-- "sip" and "sips" have no blanks
solid-sip : Each S SipScheme
solid-sip text (inl same) = solid-folded text (subst (All S) (sym same) (refl, (refl, (refl, tt))))
solid-sip text (inr same) = solid-folded text (subst (All S) (sym same) (refl, (refl, (refl, (refl, tt)))))

-- a scheme has no blanks
solid-scheme : Each S Scheme
solid-scheme = each-then S _ _ solid-alpha (each-many S _ (solid-one is_scheme_byte refl refl refl refl))

-- a URI has no blanks
pub solid-uri : Each S Uri
solid-uri =
    -- a SIP or SIPS URI is its scheme, a colon and its parts
    each-or S _ _
    (each-then S _ _ solid-sip (each-then S _ _ (solid-byte colon refl) (each-then S _ _ (each-optional S _ solid-userinfo) (each-then S _ _ solid-host
    (each-then S _ _ (each-optional S _ (each-then S _ _ (solid-byte colon refl) solid-port)) (each-then S _ _ solid-params (each-optional S _ (each-then S _ _ (solid-byte question refl) solid-headers))))))))
    -- another URI is its scheme, a colon, and bytes that are reserved, unreserved or escaped
    (each-then S _ _ (λ u is. solid-scheme u is.0) (each-then S _ _ (solid-byte colon refl) (each-some S _ (each-or S _ _ (solid-one is_reserved refl refl refl refl) (each-or S _ _ solid-unreserved solid-escaped)))))
