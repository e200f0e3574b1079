-- A line is a start line in one way.
use Rattle.std.proofs.Common.{◌≡◌, ℕ, ◌+◌, Bool, true, false, nat_lt, cond, List, [], ◌∷◌, ◌++◌, length, slice_index, refl, sym, ap, ◌∙◌, arith, subst}
use Rattle.std.specs.List.{AllByRecursion, concat}
use Rattle.std.specs.Char.{to_ascii_lowercase, is_ascii_digit}
use Rattle.std.specs.Str.Parse.{digits_value}
use Rattle.std.proofs.lemmas.Bool.{both_ways}
use Rattle.std.proofs.lemmas.List.{length-append}
use Rattle.sip_standard.specs.Text.{One, Many}
use Rattle.sip_standard.specs.Case.{folded}
use Rattle.sip_text.specs.Bytes.{space, is_token_byte}
use Rattle.sip_standard.specs.StartLine.{StartLine, request, status, StartSays}
use Rattle.sip_standard.specs.Profile.{Token, Uri}
use Rattle.sip_message.specs.inner.StartLine.{Version, CodeText, is_reason_byte}
use Rattle.sip_message.proofs.lemmas.text.Cuts.{same_front, same_by_end, All}
use Rattle.sip_message.proofs.lemmas.field.OneWay.{each-token}
use Rattle.sip_text.proofs.texts.ManyLemmas.{append_cancel_both}

-- a text in lower case is as long as the text
pub length-folded : (text : List ℕ) → length (folded text) ≡ length text
length-folded [] = refl
length-folded (b ∷ text) = omega (arith, length-folded text)

-- a version has seven bytes
pub length-version : (text : List ℕ) → Version text → length text ≡ 7
-- its lower case is that of "SIP/2.0"
length-version text is = omega (arith, ap length is, length-folded text)

-- digits that are pieces of one byte are as many as their bytes
pub length-digits : (us : List (List ℕ)) → AllByRecursion (One is_ascii_digit) us → length (concat us) ≡ length us
length-digits [] all = refl
length-digits (u ∷ us) all = omega (arith, length-digits us all.1, ap length all.0.2, length-append u (concat us))

-- a status code has three bytes
pub length-code : (text : List ℕ) (code : ℕ) → CodeText text code → length text ≡ 3
length-code text code is =
    -- a code is three digits, and each digit is one byte
    omega (arith, is.0.3, is.0.4, ap length is.0.2, length-digits is.0.0 is.0.1)

-- the line is a method, a SP, a URI, a SP and a version
pub record RequestParts (line method uri : List ℕ) : Type 0 where
  pub version : List ℕ
  pub is_token : Token method
  pub is_uri : Uri uri
  pub is_version : Version version
  pub whole : line ≡ method ++ space ∷ (uri ++ space ∷ version)

-- the parts of a request line
pub request_parts : (line method uri : List ℕ) → StartSays line (request method uri) → RequestParts line method uri
-- m, s, u and s2 are the method, a SP, the URI and a SP, and t, t2 and t3 what follows the first three
request_parts line method uri (m, t, (token, m_is), (s, t2, s_is, (u, t3, (is_uri, u_is), (s2, version, s2_is, is_version, t3_is), t2_is), t_is), line_is) = record {
  version = version;
  is_token = subst Token (sym m_is) token;
  is_uri = subst Uri (sym u_is) is_uri;
  is_version = is_version;
  whole = line_is ∙ ap (λ x. x ++ t) (sym m_is) ∙ ap (λ x. method ++ x) (t_is ∙ ap (λ x. x ++ t2) s_is ∙ ap (λ x. space ∷ x) (t2_is ∙ ap (λ x. x ++ t3) (sym u_is) ∙ ap (λ x. uri ++ x) (t3_is ∙ ap (λ x. x ++ version) s2_is)));
}

-- a method, a SP, a URI, a SP and a version are a request line
pub request-line : (method uri version : List ℕ) → Token method → Uri uri → Version version → StartSays (method ++ space ∷ (uri ++ space ∷ version)) (request method uri)
request-line method uri version token is_uri is_version =
    -- the parts stand in a row
    (method, space ∷ (uri ++ space ∷ version), (token, refl), (space ∷ [], uri ++ space ∷ version, refl, (uri, space ∷ version, (is_uri, refl), (space ∷ [], version, refl, is_version, refl), refl), refl), refl)

-- the line is a version, a SP, a status code, a SP and a reason phrase
pub record StatusParts (line : List ℕ) (code : ℕ) (reason : List ℕ) : Type 0 where
  pub version : List ℕ
  pub digits : List ℕ
  pub is_version : Version version
  pub is_code : CodeText digits code
  pub are_bytes : Many (One is_reason_byte) reason
  pub whole : line ≡ version ++ space ∷ (digits ++ space ∷ reason)

-- the parts of a status line
pub status_parts : (line : List ℕ) (code : ℕ) (reason : List ℕ) → StartSays line (status code reason) → StatusParts line code reason
-- s and s2 are the SPs, and r the reason; t, t2 and t3 are what follows each part
status_parts line code reason (version, t, is_version, (s, t2, s_is, (digits, t3, is_code, (s2, r, s2_is, (bytes, r_is), t3_is), t2_is), t_is), line_is) = record {
  version = version;
  digits = digits;
  is_version = is_version;
  is_code = is_code;
  are_bytes = subst (Many (One is_reason_byte)) (sym r_is) bytes;
  whole = line_is ∙ ap (λ x. version ++ x) (t_is ∙ ap (λ x. x ++ t2) s_is ∙ ap (λ x. space ∷ x) (t2_is ∙ ap (λ x. digits ++ x) (t3_is ∙ ap (λ x. x ++ r) s2_is ∙ ap (λ x. space ∷ x) (sym r_is))));
}

-- a version, a SP, a status code, a SP and a reason phrase are a status line
pub status-line : (version digits reason : List ℕ) (code : ℕ) → Version version → CodeText digits code → Many (One is_reason_byte) reason → StartSays (version ++ space ∷ (digits ++ space ∷ reason)) (status code reason)
status-line version digits reason code is_version is_code bytes =
    -- the parts stand in a row
    (version, space ∷ (digits ++ space ∷ reason), is_version, (space ∷ [], digits ++ space ∷ reason, refl, (digits, space ∷ reason, is_code, (space ∷ [], reason, refl, (bytes, refl), refl), refl), refl), refl)

-- a byte whose lower case is "/" is "/"
slash_is : (b : ℕ) → to_ascii_lowercase b ≡ 47 → b ≡ 47
slash_is b is = at (nat_lt b 65) (nat_lt b 91) refl refl
  where
    -- the claim holds whether b is below the capital letters, is one, or is above them
    at : (low high : Bool) → nat_lt b 65 ≡ low → nat_lt b 91 ≡ high → b ≡ 47
    -- below the capital letters the lower case is the byte itself
    at true high low_is high_is = sym (ap (λ x. cond x b (cond (nat_lt b 91) (b + 32) b)) low_is) ∙ is
    -- above them, too
    at false false low_is high_is = sym (ap (λ x. cond x b (cond (nat_lt b 91) (b + 32) b)) low_is ∙ ap (λ x. cond x (b + 32) b) high_is) ∙ is
    -- the lower case of a capital letter is above 47
    at false true low_is high_is =
        let sum : b + 32 ≡ 47 = sym (ap (λ x. cond x b (cond (nat_lt b 91) (b + 32) b)) low_is ∙ ap (λ x. cond x (b + 32) b) high_is) ∙ is in
        let small : b ≡ 15 = omega (arith, sum) in
        absurd (both_ways (nat_lt b 65) low_is (ap (λ x. nat_lt x 65) small))

-- no text is a token and a SP and then more, and also a version and then more
-- m is the token with x after the SP, and v the version with y after it
no_token : (x y m v : List ℕ) → All is_token_byte m → Version v → m ++ space ∷ x ≡ v ++ y → ⊥
-- a version has seven bytes, not fewer than four
no_token x y m [] token version same = absurd (omega (arith, ap length version))
no_token x y m (a ∷ []) token version same = absurd (omega (arith, ap length version))
no_token x y m (a ∷ b ∷ []) token version same = absurd (omega (arith, ap length version))
no_token x y m (a ∷ b ∷ c ∷ []) token version same = absurd (omega (arith, ap length version))
-- the token has fewer than four bytes, and the SP stands where the version has a letter or a slash
no_token x y [] (a ∷ b ∷ c ∷ d ∷ v) token version same =
    absurd (omega (arith, ap (λ t. slice_index t 0) version, ap to_ascii_lowercase (ap (λ t. slice_index t 0) same)))
no_token x y (k ∷ []) (a ∷ b ∷ c ∷ d ∷ v) token version same =
    absurd (omega (arith, ap (λ t. slice_index t 1) version, ap to_ascii_lowercase (ap (λ t. slice_index t 1) same)))
no_token x y (k ∷ l ∷ []) (a ∷ b ∷ c ∷ d ∷ v) token version same =
    absurd (omega (arith, ap (λ t. slice_index t 2) version, ap to_ascii_lowercase (ap (λ t. slice_index t 2) same)))
no_token x y (k ∷ l ∷ m ∷ []) (a ∷ b ∷ c ∷ d ∷ v) token version same =
    absurd (omega (arith, slash_is d (ap (λ t. slice_index t 3) version), ap (λ t. slice_index t 3) same))
-- a longer token has a slash, which is no byte of a token
no_token x y (k ∷ l ∷ m ∷ n ∷ more) (a ∷ b ∷ c ∷ d ∷ v) token version same =
    both_ways (is_token_byte n) (ap is_token_byte (ap (λ t. slice_index t 3) same ∙ slash_is d (ap (λ t. slice_index t 3) version))) token.1.1.1.0

-- no line is both a request line and a status line
no_both : (line method uri reason : List ℕ) (code : ℕ) → StartSays line (request method uri) → StartSays line (status code reason) → ⊥
no_both line method uri reason code one other =
    -- the method is a token with a SP after it, and the version stands at the same front
    let r = request_parts line method uri one in
    let s = status_parts line code reason other in
    no_token _ _ method s.version (each-token method r.is_token) s.is_version (sym r.whole ∙ s.whole)

-- a line is at most one start line
-- m and n are the methods of both, u and v the Request-URIs, c and d the codes, and r and s the reasons
pub same_start : (line : List ℕ) (s t : StartLine) → StartSays line s → StartSays line t → s ≡ t
same_start line (request m u) (request n v) one other =
    -- the methods are the first tokens, and the URIs come before a version, which is of one length: so these are the same
    let p = request_parts line m u one in
    let q = request_parts line n v other in
    let methods = same_front is_token_byte m _ n _ (each-token m p.is_token) (each-token n q.is_token) refl refl (sym p.whole ∙ q.whole) in
    let tails : space ∷ (u ++ space ∷ p.version) ≡ space ∷ (v ++ space ∷ q.version) = methods.1 in
    let inner : u ++ space ∷ p.version ≡ v ++ space ∷ q.version = cc in
    let uris = same_by_end u (space ∷ p.version) v (space ∷ q.version) (omega (arith, length-version _ p.is_version, length-version _ q.is_version)) inner in
    ap (λ x. request x u) methods.0 ∙ ap (λ x. request n x) uris.0
-- a request line and a status line cannot be one line
same_start line (request m u) (status c r) one other = absurd (no_both line m u r c one other)
same_start line (status c r) (request m u) one other = absurd (no_both line m u r c other one)
same_start line (status c r) (status d s) one other =
    -- the versions are of one length, and so they are the same
    let p = status_parts line c r one in
    let q = status_parts line d s other in
    let versions = append_cancel_both p.version _ q.version _ (length-version _ p.is_version ∙ sym (length-version _ q.is_version)) (sym p.whole ∙ q.whole) in
    -- the digits have three bytes, and so the code and the reason are the same
    let tails : space ∷ (p.digits ++ space ∷ r) ≡ space ∷ (q.digits ++ space ∷ s) = versions.1 in
    let inner : p.digits ++ space ∷ r ≡ q.digits ++ space ∷ s = cc in
    let codes = append_cancel_both p.digits _ q.digits _ (length-code _ c p.is_code ∙ sym (length-code _ d q.is_code)) inner in
    let ends : space ∷ r ≡ space ∷ s = codes.1 in
    let reasons : r ≡ s = cc in
    ap (λ x. status x r) (p.is_code.1 ∙ ap (digits_value 10) codes.0 ∙ sym q.is_code.1) ∙ ap (λ x. status d x) reasons
