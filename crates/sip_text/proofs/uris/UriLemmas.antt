-- A URI is cut at its first ":", and its scheme says which it is.
use Rattle.std.proofs.Common.{◌≡◌, ℕ, Bool, true, false, nat_eq, List, [], ◌∷◌, ◌++◌, Option, None, Some, Bor, option_copied, inl, inr, refl, sym, ap, ◌∙◌, subst}
use Rattle.std.specs.Bool.{Decides}
use Rattle.std.specs.Char.{is_ascii_alphabetic, to_ascii_lowercase}
use Rattle.std.proofs.lemmas.Bool.{both_ways, eqb-true}
use Rattle.std.proofs.lemmas.Bool.Decides.{Decides-like}
use Rattle.sip_standard.specs.Text.{OneOrMore}
use Rattle.sip_standard.specs.Case.{folded}
use Rattle.sip_standard.specs.Chars.{AnyCase}
use Rattle.sip_standard.specs.Profile.{SipScheme, Scheme, Uric, Uri}
use Rattle.sip_text.specs.Bytes.{colon}
use Rattle.sip_text.specs.inner.Class.{is_scheme_byte}
use Rattle.sip_text.specs.inner.Cut.{led, before, behind}
use Rattle.sip_text.specs.inner.UriCut.{SipRest}
use Rattle.sip_text.proofs.texts.LacksLemmas.{Lacks, AllLack, lack-one, lack-then, lack-many}
use Rattle.sip_text.proofs.cuts.CutLemmas.{cut-whole, before-led, behind-led}

-- a text lacks ":" where it lacks it with its letters in lower case
folded-lacks : (text : List ℕ) → Lacks colon (folded text) → Lacks colon text
folded-lacks [] lacks = tt
folded-lacks (b ∷ text) lacks = (at (nat_eq b colon) refl, folded-lacks text lacks.1)
  where
    -- b is not a colon, whatever the test of it says, since its lower case is none
    at : (same : Bool) → nat_eq b colon ≡ same → nat_eq b colon ≡ false
    at true is =
        absurd (both_ways (nat_eq (to_ascii_lowercase b) colon) lacks.0
        (ap (λ x. nat_eq (to_ascii_lowercase x) colon) (eqb-true b colon is)))
    at false is = is

-- "sip" and "sips" lack ":"
sip-lacks : AllLack colon SipScheme
sip-lacks scheme (inl same) = folded-lacks scheme (subst (Lacks colon) (sym same) (refl, (refl, (refl, tt))))
sip-lacks scheme (inr same) = folded-lacks scheme (subst (Lacks colon) (sym same) (refl, (refl, (refl, (refl, tt)))))

-- no colon stands in a scheme
scheme-lacks : AllLack colon Scheme
scheme-lacks =
    lack-then colon _ _ (lack-one colon is_ascii_alphabetic refl) (lack-many colon _ (lack-one colon is_scheme_byte refl))

-- the scheme of a text stands before its first ":", and the rest follows that ":"
pub record IsSchemeCut (text scheme rest : List ℕ) : Type 0 where
  pub front : scheme ≡ before colon text
  pub later : Some rest ≡ behind colon text

-- a name without ":", a ":" and a tail are cut into that name and that tail alone
scheme-cut : (text scheme rest name tail : List ℕ) → IsSchemeCut text scheme rest → Lacks colon name → text ≡ name ++ colon ∷ tail → (name ≡ scheme) × (rest ≡ tail)
scheme-cut text scheme rest name tail cut lacks whole =
    let front : before colon text ≡ name = ap (before colon) whole ∙ before-led colon name (Some tail) lacks in
    let behind_is : Some rest ≡ Some tail = cut.later ∙ ap (behind colon) whole ∙ behind-led colon name (Some tail) lacks in
    (sym front ∙ sym cut.front, cc)

-- a text is its scheme, ":" and the rest
scheme-whole : (text scheme rest : List ℕ) → IsSchemeCut text scheme rest → text ≡ scheme ++ colon ∷ rest
scheme-whole text scheme rest cut =
    cut-whole colon text ∙ ap (λ t. t ++ led colon (behind colon text)) (sym cut.front)
    ∙ ap (λ o. scheme ++ led colon o) (sym cut.later)

-- where the reader finds a ":" in a text, the text before the first one is the scheme, and the text after it the rest
pub scheme-at : (text scheme : List ℕ) (later : Option (Bor (List ℕ))) (rest : Bor (List ℕ)) → scheme ≡ before colon text → option_copied later ≡ behind colon text → later ≡ Some rest → IsSchemeCut text scheme rest.now
scheme-at text scheme later rest front_is later_is some =
    record { front = front_is; later = ap option_copied (sym some) ∙ later_is }

-- where the scheme is "sip" or "sips", what decides the rest of a SIP URI decides a URI
pub decides-sip : (text scheme rest : List ℕ) (r : Bool) → IsSchemeCut text scheme rest → SipScheme scheme → Decides r (SipRest rest) → Decides r (Uri text)
decides-sip text scheme rest r cut sip = Decides-like r to from
  where
    -- the scheme, ":" and the rest are a URI
    to : SipRest rest → Uri text
    to is = inl (scheme, colon ∷ rest, sip, (colon ∷ [], rest, refl, is, refl), scheme-whole text scheme rest cut)

    -- what follows the ":" of a URI is the rest, since its scheme is the one that was cut off
    from : Uri text → SipRest rest
    from (inl (name, v, is_sip, (c, tail, c_is, is, v_is), whole)) =
        subst SipRest (sym (scheme-cut text scheme rest name tail cut (sip-lacks name is_sip) (whole ∙ ap (λ t. name ++ t) (v_is ∙ ap (λ t. t ++ tail) c_is))).1) is
    -- another URI has another scheme than "sip" or "sips"
    from (inr (name, v, (is_scheme, other), (c, tail, c_is, is, v_is), whole)) =
        absurd (other (subst SipScheme (sym (scheme-cut text scheme rest name tail cut (scheme-lacks name is_scheme) (whole ∙ ap (λ t. name ++ t) (v_is ∙ ap (λ t. t ++ tail) c_is))).0) sip))

-- where the tests that decide whether a scheme is "sip" and whether it is "sips" fail, it is neither
pub not-sip : (scheme : List ℕ) (a b : Bool) → Decides a (AnyCase "sip" scheme) → Decides b (AnyCase "sips" scheme) → a ≡ false → b ≡ false → ¬ (SipScheme scheme)
not-sip scheme a b sip sips no_sip no_sips (inl same) = both_ways a no_sip (sip.1 same)
not-sip scheme a b sip sips no_sip no_sips (inr same) = both_ways b no_sips (sips.1 same)

-- where the scheme is neither "sip" nor "sips", what decides a scheme and bytes of a URI after it decides a URI
pub decides-other : (text scheme rest : List ℕ) (r : Bool) → IsSchemeCut text scheme rest → ¬ (SipScheme scheme) → Decides r (Scheme scheme × OneOrMore Uric rest) → Decides r (Uri text)
decides-other text scheme rest r cut other = Decides-like r to from
  where
    -- the scheme, ":" and the bytes of a URI are a URI
    to : Scheme scheme × OneOrMore Uric rest → Uri text
    to is = inr (scheme, colon ∷ rest, (is.0, other), (colon ∷ [], rest, refl, is.1, refl), scheme-whole text scheme rest cut)

    -- a SIP URI has the scheme "sip" or "sips", which this one is not
    from : Uri text → Scheme scheme × OneOrMore Uric rest
    from (inl (name, v, is_sip, (c, tail, c_is, is, v_is), whole)) =
        absurd (other (subst SipScheme (scheme-cut text scheme rest name tail cut (sip-lacks name is_sip) (whole ∙ ap (λ t. name ++ t) (v_is ∙ ap (λ t. t ++ tail) c_is))).0 is_sip))
    -- the scheme and the rest are those that were cut
    from (inr (name, v, (is_scheme, none), (c, tail, c_is, is, v_is), whole)) =
        let parts = scheme-cut text scheme rest name tail cut (scheme-lacks name is_scheme) (whole ∙ ap (λ t. name ++ t) (v_is ∙ ap (λ t. t ++ tail) c_is)) in
        (subst Scheme parts.0 is_scheme, subst (OneOrMore Uric) (sym parts.1) is)

-- a text with no ":" is no URI
pub no-colon : (text : List ℕ) → None ≡ behind colon text → Uri text → ⊥
no-colon text none is = at is
  where
    -- no name without ":" stands before a ":"
    without : (name tail : List ℕ) → Lacks colon name → text ≡ name ++ colon ∷ tail → ⊥
    without name tail lacks whole =
        let some : behind colon text ≡ Some tail = ap (behind colon) whole ∙ behind-led colon name (Some tail) lacks in
        cc

    -- a SIP URI has ":" after its scheme, and so has any other URI
    at : Uri text → ⊥
    at (inl (name, v, is_sip, (c, tail, c_is, rest, v_is), whole)) = without name tail (sip-lacks name is_sip) (whole ∙ ap (λ t. name ++ t) (v_is ∙ ap (λ t. t ++ tail) c_is))
    at (inr (name, v, (is_scheme, other), (c, tail, c_is, rest, v_is), whole)) = without name tail (scheme-lacks name is_scheme) (whole ∙ ap (λ t. name ++ t) (v_is ∙ ap (λ t. t ++ tail) c_is))
