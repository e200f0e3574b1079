-- IPv6 addresses, and their test.
use Rattle.std.proofs.Common.{◌≡◌, ℕ, true, false, ◌&&◌, List, [], ◌∷◌, ◌++◌, Option, None, Some, refl, sym, ap, ◌∙◌, inl, inr}
use Rattle.std.specs.Option.{option_map_or}
use Rattle.std.proofs.lemmas.Bool.{and_from, and_parts, or_cases, or_left, or_right}
use Rattle.std.proofs.lemmas.List.{append-nil, append_assoc}
use Rattle.sip_standard.specs.Profile.{Ipv4, Ipv6, Bracketed}
use Rattle.sip_text.specs.Bytes.{colon, left_bracket, right_bracket}
use Rattle.sip_text.specs.inner.Cut.{before_last, behind_last, past, up_to}
use Rattle.sip_text.specs.inner.HostTests.{is_v4, is_hexpart, is_open, is_before_v4, has_v4_tail, is_v6, is_v6_reference}
use Rattle.sip_text.proofs.cuts.CutLemmas.{past-some}
use Rattle.sip_text.proofs.cuts.LastLemmas.{before_last-mark, behind_last-mark, last-whole}
use Rattle.sip_text.proofs.cuts.EndLemmas.{up_to-mark, up_to-some}
use Rattle.sip_text.proofs.hosts.V4Lemmas.{lack-v4, v4-yes, v4-is}
use Rattle.sip_text.proofs.hosts.HexLemmas.{hexpart-yes, hexpart-is, open-yes, open-is}

-- a front that may stand before the last colon, a colon and an IPv4 address pass the test `has_v4_tail`
tail-is : (text front v4 : List ℕ) → is_before_v4 front ≡ true → Ipv4 v4 → text ≡ front ++ (colon ∷ v4) → has_v4_tail text ≡ true
tail-is text front v4 before address whole =
    -- an IPv4 address has no colon, so the text is cut at the last one into the front and the address
    let lacks = lack-v4 colon refl refl v4 address in
    ap (λ o. option_map_or (λ f. is_v4 (behind_last colon text) && is_before_v4 f) o false) (ap (before_last colon) whole ∙ before_last-mark colon front v4 lacks)
    ∙ and_from _ _ (ap (λ t. is_v4 (behind_last colon t)) whole ∙ ap is_v4 (behind_last-mark colon front v4 lacks) ∙ v4-is v4 address) before

-- an IPv6 address passes its test
pub v6-is : (text : List ℕ) → Ipv6 text → is_v6 text ≡ true
-- this clause is of a hexpart alone
v6-is text (inl (hexpart, end, is_hex, inl none, whole)) =
    let all : text ≡ hexpart = whole ∙ ap (λ t. hexpart ++ t) none ∙ append-nil hexpart in
    or_left (is_hexpart text) (has_v4_tail text) (ap is_hexpart all ∙ hexpart-is hexpart is_hex)
-- this clause is of a hexpart, a colon and an IPv4 address
v6-is text (inl (hexpart, end, is_hex, inr (mark, v4, is_mark, address, end_is), whole)) =
    or_right (is_hexpart text) (has_v4_tail text)
    (tail-is text hexpart v4 (or_left (is_hexpart hexpart) (is_open hexpart) (hexpart-is hexpart is_hex)) address
    (whole ∙ ap (λ t. hexpart ++ t) (end_is ∙ ap (λ t. t ++ v4) is_mark)))
-- this clause is of a hexpart that ends with "::", and an IPv4 address
v6-is text (inr (hexpart, v4, is_hex, address, whole)) =
    let front = open-is hexpart is_hex in
    or_right (is_hexpart text) (has_v4_tail text)
    (tail-is text front.0 v4 (or_right (is_hexpart front.0) (is_open front.0) front.2) address
    (whole ∙ ap (λ t. t ++ v4) front.1 ∙ append_assoc front.0 (colon ∷ []) v4))

-- a text that passes the test `has_v4_tail` is an IPv6 address
tail-yes : (text : List ℕ) → has_v4_tail text ≡ true → Ipv6 text
tail-yes text pass = at (before_last colon text) refl pass
  where
    -- the text after the last colon
    v4 : List ℕ
    v4 = behind_last colon text

    -- the claim holds whether or not the text has a colon
    at : (o : Option (List ℕ)) → before_last colon text ≡ o → option_map_or (λ f. is_v4 v4 && is_before_v4 f) o false ≡ true → Ipv6 text
    -- without a colon the test fails
    at None is passes = cc
    at (Some front) is passes =
        -- what stands after the last colon is an IPv4 address, and what stands before it passes one of two tests
        let both = and_parts (is_v4 v4) (is_before_v4 front) passes in
        let address = v4-yes v4 both.0 in
        let whole = last-whole colon text front is in
        elim (or_cases (is_hexpart front) (is_open front) both.1) [
          -- a hexpart stands before the colon
          | inl hexpart ↦ inl (front, colon ∷ v4, hexpart-yes front hexpart, inr (colon ∷ [], v4, refl, address, refl), whole)
          -- what stands before the colon ends with a colon, and the two are "::"
          | inr ends ↦ inr (front ++ (colon ∷ []), v4, open-yes front ends, address, whole ∙ sym (append_assoc front (colon ∷ []) v4))
        ]

-- a text that passes the test of an IPv6 address is one
pub v6-yes : (text : List ℕ) → is_v6 text ≡ true → Ipv6 text
v6-yes text pass = elim (or_cases (is_hexpart text) (has_v4_tail text) pass) [
  -- the text is a hexpart with no IPv4 address after it, or has one
  | inl hexpart ↦ inl (text, [], hexpart-yes text hexpart, inl refl, sym (append-nil text))
  | inr tail ↦ tail-yes text tail
]

-- an IPv6 reference passes its test
pub reference-is : (text : List ℕ) → Bracketed text → is_v6_reference text ≡ true
reference-is text (first, t, is_first, (inner, last, address, is_last, t_is), whole) =
    let spelled : text ≡ left_bracket ∷ (inner ++ (right_bracket ∷ [])) =
    whole ∙ ap (λ x. x ++ t) is_first ∙ ap (λ x. left_bracket ∷ x) (t_is ∙ ap (λ x. inner ++ x) is_last) in
    ap (λ x. option_map_or (λ rest. option_map_or is_v6 (up_to right_bracket rest) false) (past left_bracket x) false) spelled
    ∙ ap (λ o. option_map_or is_v6 o false) (up_to-mark right_bracket inner)
    ∙ v6-is inner address

-- a text that passes the test of an IPv6 reference is one
pub reference-yes : (text : List ℕ) → is_v6_reference text ≡ true → Bracketed text
reference-yes text pass = begins (past left_bracket text) refl pass
  where
    -- the text is an IPv6 reference, since it ends with "]" where the test passes
    ends : (rest : List ℕ) → text ≡ left_bracket ∷ rest → (o : Option (List ℕ)) → up_to right_bracket rest ≡ o → option_map_or is_v6 o false ≡ true → Bracketed text
    ends rest whole None is passes = cc
    ends rest whole (Some inner) is passes =
        (left_bracket ∷ [], rest, refl, (inner, right_bracket ∷ [], v6-yes inner passes, refl, up_to-some right_bracket rest inner is), whole)

    -- the text is an IPv6 reference, since it begins with "[" where the test passes
    begins : (o : Option (List ℕ)) → past left_bracket text ≡ o → option_map_or (λ rest. option_map_or is_v6 (up_to right_bracket rest) false) o false ≡ true → Bracketed text
    begins None is passes = cc
    begins (Some rest) is passes = ends rest (past-some left_bracket text rest is) (up_to right_bracket rest) refl passes
