-- A URI begins with a token and a colon, and holds no ">".
use Rattle.std.proofs.Common.{◌≡◌, ℕ, ◌+◌, Bool, true, false, ◌||◌, nat_eq, nat_le, nat_lt, cond, List, [], ◌∷◌, ◌++◌, refl, sym, ap, ◌∙◌, subst, inl, inr, arith}
use Rattle.std.specs.Char.{is_ascii_alphabetic, is_ascii_alphanumeric, is_ascii_digit, to_ascii_lowercase}
use Rattle.std.specs.Int.{is_in_range}
use Rattle.std.proofs.lemmas.Bool.{both_ways, eqb-true, or_left, or_right, or_cases, and_from, le-leb, ltb-true, ltb-false}
use Rattle.sip_standard.specs.Text.{One}
use Rattle.sip_standard.specs.Case.{folded}
use Rattle.sip_standard.specs.Profile.{SipScheme, Scheme, User, Password, Userinfo, Port, UriParameters, Headers, Uri}
use Rattle.sip_standard.specs.Chars.{is_among}
use Rattle.sip_text.specs.Bytes.{colon, semicolon, question, at_sign, ampersand, equals, is_token_byte}
use Rattle.sip_text.specs.inner.Class.{is_scheme_byte, is_user_unreserved, is_password_unreserved, is_hnv_unreserved, is_reserved}
use Rattle.sip_text.specs.inner.Pieces.{Header}
use Rattle.sip_text.proofs.hosts.LabelLemmas.{alphanumeric-alphabetic}
use Rattle.sip_text.proofs.texts.LacksLemmas.{AllLack, lack-one, lack-byte, lack-then, lack-or, lack-optional, lack-many, lack-some, lack-between, lack-joined}
use Rattle.sip_text.proofs.uris.UriCharLemmas.{lack-char}
use Rattle.sip_text.proofs.uris.UriPartLemmas.{lack-param}
use Rattle.sip_text.proofs.uris.UriHostLemmas.{IsForeign, lack-host}
use Rattle.sip_message.specs.inner.Marks.{right_angle}
use Rattle.sip_message.specs.inner.AddressFronts.{HasScheme}
use Rattle.sip_message.proofs.lemmas.text.Cuts.{All}
use Rattle.sip_message.proofs.lemmas.text.Each.{Each, each-one, each-then, each-many}
use Rattle.sip_message.proofs.lemmas.front.OneWay.{all-lacks}

-- a byte whose lower case is one of a token is one
lower-token : (b : ℕ) → is_token_byte (to_ascii_lowercase b) ≡ true → is_token_byte b ≡ true
lower-token b is = at (nat_lt b 65) (nat_lt b 91) refl refl is
  where
    -- the claim holds whether b is below the capital letters, is one, or is above them
    at : (x y : Bool) → nat_lt b 65 ≡ x → nat_lt b 91 ≡ y → is_token_byte (cond x b (cond y (b + 32) b)) ≡ true → is_token_byte b ≡ true
    -- below the capital letters, and above them, the lower case is the byte itself
    at true y x_is y_is pass = pass
    at false false x_is y_is pass = pass
    -- b is a capital letter, so its lower case is a letter
    at false true x_is y_is pass =
        let high = ltb-true b 91 y_is in
        let low = ltb-false b 65 x_is in
        or_left (is_ascii_alphanumeric b) (is_among "-.!%*_+`'~" b)
        (or_left (is_in_range 48 57 b || is_in_range 65 90 b) (is_in_range 97 122 b)
        (or_right (is_in_range 48 57 b) (is_in_range 65 90 b) (and_from (nat_le 65 b) (nat_le b 90) (le-leb 65 b low) (le-leb b 90 (omega (arith, high))))))

-- a text whose lower case is a token is one
pub folded-token : (t : List ℕ) → All is_token_byte (folded t) → All is_token_byte t
folded-token [] all = tt
folded-token (b ∷ t) all = (lower-token b all.0, folded-token t all.1)

-- "sip" and "sips" have only bytes of tokens
each-sip : Each is_token_byte SipScheme
each-sip text (inl same) = folded-token text (subst (All is_token_byte) (sym same) (refl, (refl, (refl, tt))))
each-sip text (inr same) = folded-token text (subst (All is_token_byte) (sym same) (refl, (refl, (refl, (refl, tt)))))

-- a byte of a scheme is a byte of a token
scheme-token : (b : ℕ) → is_scheme_byte b ≡ true → is_token_byte b ≡ true
scheme-token b is = elim (or_cases (is_ascii_alphanumeric b) (is_among "+-." b) is) [
  -- letters and digits are bytes of tokens
  | inl alnum ↦ or_left (is_ascii_alphanumeric b) (is_among "-.!%*_+`'~" b) alnum
  -- 43, 45 and 46 are `+`, `-` and `.`: the byte is compared with each in turn
  | inr one ↦ elim (or_cases (nat_eq 43 b) _ one) [
    | inl e ↦ subst (λ x. is_token_byte x ≡ true) (eqb-true 43 b e) refl
    | inr two ↦ elim (or_cases (nat_eq 45 b) _ two) [
      | inl e ↦ subst (λ x. is_token_byte x ≡ true) (eqb-true 45 b e) refl
      -- of `+`, `-` and `.` each is a byte of a token
      | inr three ↦ elim (or_cases (nat_eq 46 b) false three) [
        | inl e ↦ subst (λ x. is_token_byte x ≡ true) (eqb-true 46 b e) refl
        | inr none ↦ absurd (both_ways false refl none)
      ]
    ]
  ]
]

-- all bytes of a scheme are bytes of tokens
pub each-scheme : Each is_token_byte Scheme
each-scheme =
    each-then is_token_byte _ _
    -- a scheme is a letter, and then bytes of schemes
    (each-one is_token_byte is_ascii_alphabetic (λ b is. or_left (is_ascii_alphanumeric b) (is_among "-.!%*_+`'~" b) (alphanumeric-alphabetic b is)))
    (each-many is_token_byte _ (each-one is_token_byte is_scheme_byte scheme-token))

-- the text of a URI begins with a scheme and a colon
pub uri-scheme : (text : List ℕ) → Uri text → HasScheme text
-- c is the colon and r what follows it
uri-scheme text (inl (scheme, v, is, (c, r, c_is, rest, v_is), whole)) = (scheme, r, each-sip scheme is, whole ∙ ap (λ t. scheme ++ t) (v_is ∙ ap (λ t. t ++ r) c_is))
uri-scheme text (inr (scheme, v, (is, other), (c, r, c_is, rest, v_is), whole)) = (scheme, r, each-scheme scheme is, whole ∙ ap (λ t. scheme ++ t) (v_is ∙ ap (λ t. t ++ r) c_is))

-- the byte ">" stands in no host
angle-foreign : IsForeign right_angle
-- ">" is in no class of bytes that a host has, and is none of its marks
angle-foreign = record { label = refl; alphanumeric = refl; alphabetic = refl; hexdigit = refl; digit = refl; of_colon = refl; of_dot = refl; of_left = refl; of_right = refl }

-- a user lacks ">"
lack-user : AllLack right_angle User
lack-user = lack-some right_angle _ (lack-char right_angle is_user_unreserved refl)

-- a password lacks ">"
lack-password : AllLack right_angle Password
lack-password = lack-many right_angle _ (lack-char right_angle is_password_unreserved refl)

-- a port lacks ">"
lack-port_text : AllLack right_angle Port
lack-port_text u fits = lack-between right_angle 1 5 (One is_ascii_digit) (lack-one right_angle is_ascii_digit refl) u fits.0

-- the parameters of a URI lack ">"
lack-parameters : AllLack right_angle UriParameters
lack-parameters = lack-many right_angle _ (lack-then right_angle _ _ (lack-byte right_angle semicolon refl) (lack-param right_angle refl refl))

-- headers lack ">"
lack-headers : AllLack right_angle Headers
lack-headers =
    -- a header is a name, "=" and a value, and "&" stands between two of them
    lack-joined right_angle ampersand Header refl
    (lack-then right_angle _ _ (lack-some right_angle _ (lack-char right_angle is_hnv_unreserved refl))
    (lack-then right_angle _ _ (lack-byte right_angle equals refl) (lack-many right_angle _ (lack-char right_angle is_hnv_unreserved refl))))

-- a userinfo lacks ">"
lack-userinfo : AllLack right_angle Userinfo
-- the user, perhaps ":" and a password, and "@"
lack-userinfo = lack-then right_angle _ _ lack-user (lack-then right_angle _ _ (lack-optional right_angle _ (lack-then right_angle _ _ (lack-byte right_angle colon refl) lack-password)) (lack-byte right_angle at_sign refl))

-- a URI lacks ">"
pub uri-lacks : AllLack right_angle Uri
uri-lacks =
    lack-or right_angle _ _
    -- of a SIP URI each part lacks it: the scheme, the userinfo, the host, the port, the parameters and the headers
    (lack-then right_angle _ _ (λ u is. all-lacks is_token_byte right_angle u refl (each-sip u is)) (lack-then right_angle _ _ (lack-byte right_angle colon refl) (lack-then right_angle _ _ (lack-optional right_angle _ lack-userinfo)
    (lack-then right_angle _ _ (lack-host right_angle angle-foreign) (lack-then right_angle _ _ (lack-optional right_angle _ (lack-then right_angle _ _ (lack-byte right_angle colon refl) lack-port_text))
    (lack-then right_angle _ _ lack-parameters (lack-optional right_angle _ (lack-then right_angle _ _ (lack-byte right_angle question refl) lack-headers))))))))
    -- of another URI the scheme lacks it, and so do the bytes after the colon
    (lack-then right_angle _ _ (λ u is. all-lacks is_token_byte right_angle u refl (each-scheme u is.0)) (lack-then right_angle _ _ (lack-byte right_angle colon refl)
    (lack-some right_angle _ (lack-char right_angle is_reserved refl))))
