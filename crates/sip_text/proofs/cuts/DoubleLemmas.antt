-- A text is cut at its first "::" in one way.
use Rattle.std.proofs.Common.{◌≡◌, ℕ, zero, suc, ◌+◌, ◌<◌, Bool, true, false, ◌&&◌, nat_eq, cond, List, [], ◌∷◌, ◌++◌, length, take, drop, slice_index, Option, None, Some, refl, sym, ap, ◌∙◌, arith}
use Rattle.std.proofs.lemmas.Bool.{and_right, and_parts, eqb-true}
use Rattle.sip_text.specs.Bytes.{colon}
use Rattle.sip_text.specs.inner.Pieces.{double_colon}
use Rattle.sip_text.specs.inner.HostTests.{is_double_at, before_double, behind_double}

-- the first part of a byte and a text: none where "::" begins at the byte, and else the byte before the first part of the text
abbrev pub front_onto : ℕ → List ℕ → Bool → List ℕ
front_onto b text double = cond double [] (b ∷ before_double text)

-- what follows the first "::" of a byte and a text: where "::" begins at the byte, the text without its first byte, and else what follows its own first "::"
abbrev pub rest_onto : List ℕ → Bool → Option (List ℕ)
rest_onto text double = cond double (Some (drop 1 text)) (behind_double text)

-- no "::" begins at the last byte
double-last : (b : ℕ) → is_double_at (b ∷ []) 0 ≡ false
double-last b = and_right (nat_eq b colon) false refl

-- "::" begins at place k + 1 of a byte and a text exactly if it begins at place k of the text
double-later : (b k : ℕ) (text : List ℕ) → is_double_at (b ∷ text) (suc k) ≡ is_double_at text k
double-later b k text =
    let next : suc k + 1 ≡ suc (k + 1) = omega arith in
    ap (λ n. nat_eq (slice_index text k) colon && nat_eq (slice_index (b ∷ text) n) colon) next

-- where "::" begins at no place of a text, the text is its first part, and nothing stands after a "::"
pub double-nowhere : (text : List ℕ) → ((k : ℕ) → k + 1 < length text → is_double_at text k ≡ false) → (before_double text ≡ text) × (behind_double text ≡ None)
double-nowhere [] none = (refl, refl)
double-nowhere (b ∷ []) none = (ap (front_onto b []) (double-last b), ap (rest_onto []) (double-last b))
double-nowhere (b ∷ a ∷ text) none =
    -- no "::" begins at the first byte, and none in what follows it
    let here : is_double_at (b ∷ a ∷ text) 0 ≡ false = none 0 (omega arith) in
    let rest = double-nowhere (a ∷ text) (λ k within. sym (double-later b k (a ∷ text)) ∙ none (suc k) (omega (arith, within))) in
    (ap (front_onto b (a ∷ text)) here ∙ ap (λ t. b ∷ t) rest.0, ap (rest_onto (a ∷ text)) here ∙ rest.1)

-- where k is the first place at which "::" begins, the first part of the text is its first k bytes, and the rest follows the "::"
pub double-first : (k : ℕ) (text : List ℕ) → k < length text → is_double_at text k ≡ true → ((j : ℕ) → j < k → is_double_at text j ≡ false) → (before_double text ≡ take k text) × (behind_double text ≡ Some (drop (k + 2) text))
double-first k [] within is none = absurd (omega (arith, within))
-- the "::" begins at once
double-first zero (b ∷ text) within is none = (ap (front_onto b text) is, ap (rest_onto text) is)
-- it begins later, so that it begins in the rest of the text, one place earlier
double-first (suc k) (b ∷ text) within is none =
    let here : is_double_at (b ∷ text) 0 ≡ false = none 0 (omega arith) in
    let rest = double-first k text (omega (arith, within)) (sym (double-later b k text) ∙ is) (λ j below. sym (double-later b j text) ∙ none (suc j) (omega (arith, below))) in
    let next : suc (k + 2) ≡ suc k + 2 = omega arith in (
      ap (front_onto b text) here ∙ ap (λ t. b ∷ t) rest.0,
      ap (rest_onto text) here ∙ rest.1 ∙ ap (λ n. Some (drop n (b ∷ text))) next,
    )

-- the text before the first "::", the "::" and the text after it give the text back
pub double-whole : (text rest : List ℕ) → behind_double text ≡ Some rest → text ≡ before_double text ++ (double_colon ++ rest)
double-whole [] rest is = cc
double-whole (b ∷ text) rest is = at (is_double_at (b ∷ text) 0) refl is (double-whole text rest)
  where
    -- where b and the first byte after it are colons, b and the text after it are "::" and the rest
    starts : (t : List ℕ) → b ≡ colon → slice_index t 0 ≡ colon → drop 1 t ≡ rest → b ∷ t ≡ double_colon ++ rest
    starts [] first second later = absurd (omega (arith, second))
    starts (a ∷ t) first second later = ap (λ x. x ∷ a ∷ t) first ∙ ap (λ x. colon ∷ x ∷ t) second ∙ ap (λ t'. colon ∷ colon ∷ t') later

    -- the claim holds whether or not "::" begins at the first byte
    at : (double : Bool) → is_double_at (b ∷ text) 0 ≡ double → rest_onto text double ≡ Some rest → (behind_double text ≡ Some rest → text ≡ before_double text ++ (double_colon ++ rest)) → b ∷ text ≡ front_onto b text double ++ (double_colon ++ rest)
    at true double found whole =
        let both = and_parts (nat_eq b colon) (nat_eq (slice_index text 0) colon) double in
        let later : drop 1 text ≡ rest = cc in
        starts text (eqb-true b colon both.0) (eqb-true (slice_index text 0) colon both.1) later
    at false double found whole = ap (λ t. b ∷ t) (whole found)
