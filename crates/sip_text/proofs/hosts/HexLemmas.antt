-- Hexseqs and hexparts, and their tests.
-- In the lemmas u and v are what stands before and after, h is a first group, and us are the others, each after its colon.
use Rattle.std.proofs.Common.{◌≡◌, ℕ, true, false, ◌&&◌, nat_eq, List, [], ◌∷◌, ◌++◌, Option, None, Some, length, slice_index, refl, sym, ap, ◌∙◌, subst, inl, inr, arith}
use Rattle.std.specs.Prelude.{⊤}
use Rattle.std.specs.List.{AllByRecursion, concat, slice_index_or}
use Rattle.std.specs.Option.{option_map_or}
use Rattle.std.specs.Char.{is_ascii_hexdigit}
use Rattle.std.proofs.lemmas.Bool.{and_from, and_parts, and_left, and_right, and_cases, or_cases, or_right, eqb-true}
use Rattle.std.proofs.lemmas.List.{append-nil, append_assoc}
use Rattle.sip_text.specs.declared.class.Class.TheVariants as variant
use Rattle.sip_standard.specs.Text.{One, ◌then◌, Optional}
use Rattle.sip_standard.specs.Profile.{Hexseq}
use Rattle.sip_text.specs.Bytes.{colon, Byte}
use Rattle.sip_text.specs.inner.Cut.{up_to}
use Rattle.sip_text.specs.inner.Pieces.{double_colon, Hex4, Hexpart, OpenHexpart}
use Rattle.sip_text.specs.inner.HostTests.{is_hex4, is_hexseq, is_optional_hexseq, is_double_at, before_double, behind_double, is_hexpart, is_open}
use Rattle.sip_text.proofs.texts.LacksLemmas.{Lacks, AllLack, lack-one, lack-between}
use Rattle.sip_text.proofs.texts.GroupLemmas.{length-ones, group-between, between-group}
use Rattle.sip_text.proofs.texts.JoinedLemmas.{joined-yes, joined-is}
use Rattle.sip_text.proofs.cuts.DoubleLemmas.{front_onto, rest_onto, double-whole}
use Rattle.sip_text.proofs.cuts.EndLemmas.{up_to-mark, up_to-some}

-- a hex4 has no colon
lack-hex4 : AllLack colon Hex4
lack-hex4 = lack-between colon 1 4 (One is_ascii_hexdigit) (lack-one colon is_ascii_hexdigit refl)

-- a text that passes the test of a hexseq is one
pub hexseq-yes : (text : List ℕ) → is_hexseq text ≡ true → Hexseq text
hexseq-yes text pass = joined-yes is_hex4 colon Hex4 text (between-group variant.HexDigit 4) pass

-- a hexseq passes its test
pub hexseq-is : (text : List ℕ) → Hexseq text → is_hexseq text ≡ true
hexseq-is text seq = joined-is is_hex4 colon Hex4 text lack-hex4 (group-between variant.HexDigit 4) seq

-- a text that passes the test of an optional hexseq is empty or a hexseq
optional-yes : (text : List ℕ) → is_optional_hexseq text ≡ true → Optional Hexseq text
optional-yes [] pass = inl refl
optional-yes (b ∷ text) pass = elim (or_cases (nat_eq (length (b ∷ text)) 0) (is_hexseq (b ∷ text)) pass) [
  -- the text has a byte, so it is not empty; then it is a hexseq
  | inl none ↦ absurd (omega (arith, eqb-true (length (b ∷ text)) 0 none))
  | inr seq ↦ inr (hexseq-yes (b ∷ text) seq)
]

-- an optional hexseq passes its test
optional-is : (text : List ℕ) → Optional Hexseq text → is_optional_hexseq text ≡ true
optional-is text (inl none) = subst (λ t. is_optional_hexseq t ≡ true) (sym none) refl
optional-is text (inr seq) = or_right (nat_eq (length text) 0) (is_hexseq text) (hexseq-is text seq)

-- each colon of the text stands before a byte that is no colon, so that "::" begins nowhere in it
abbrev Single : List ℕ → Type 0
Single [] = ⊤
Single (b ∷ text) = ((nat_eq b colon && nat_eq (slice_index_or text 0 colon) colon) ≡ false) × Single text

-- the text begins with a byte that is no colon
abbrev Starts : List ℕ → Type 0
Starts text = nat_eq (slice_index_or text 0 colon) colon ≡ false

-- in a text without a colon, no colon stands before another one
single-lacks : (text : List ℕ) → Lacks colon text → Single text
single-lacks [] lacks = tt
single-lacks (b ∷ text) lacks =
    (and_left (nat_eq b colon) (nat_eq (slice_index_or text 0 colon) colon) lacks.0, single-lacks text lacks.1)

-- where u lacks the colon, and v begins with another byte and has no "::", u, a colon and v have no "::"
single-colon : (u v : List ℕ) → Lacks colon u → Starts v → Single v → Single (u ++ (colon ∷ v))
single-colon [] v lacks starts single = (and_right (nat_eq colon colon) (nat_eq (slice_index_or v 0 colon) colon) starts, single)
single-colon (b ∷ u) v lacks starts single =
    (and_left (nat_eq b colon) (nat_eq (slice_index_or (u ++ (colon ∷ v)) 0 colon) colon) lacks.0, single-colon u v lacks.1 starts single)

-- a hex4 begins with no colon
starts-hex4 : (u v : List ℕ) → Hex4 u → Starts (u ++ v)
-- a hex4 has a byte
starts-hex4 [] v group = absurd (omega (arith, length-ones is_ascii_hexdigit group.0 group.1, ap length group.2, group.3))
starts-hex4 (b ∷ u) v group = (lack-hex4 (b ∷ u) group).0

-- "::" begins nowhere in a hexseq
single-hexseq : (text : List ℕ) → Hexseq text → Single text
single-hexseq text (u, v, group, many, whole) =
    subst Single (sym (whole ∙ ap (λ t. u ++ t) many.2)) (go u many.0 group many.1)
  where
    -- a hex4, and groups that each begin with one colon, have no "::" in them
    go : (h : List ℕ) (us : List (List ℕ)) → Hex4 h → AllByRecursion (Byte colon then Hex4) us → Single (h ++ concat us)
    go h [] one all = subst Single (sym (append-nil h)) (single-lacks h (lack-hex4 h one))
    go h (w ∷ us) one all =
        subst Single (sym (ap (λ t. h ++ (t ++ concat us)) (all.0.4 ∙ ap (λ t. t ++ all.0.1) all.0.2)))
        (single-colon h (all.0.1 ++ concat us) (lack-hex4 h one) (starts-hex4 all.0.1 (concat us) all.0.3) (go all.0.1 us all.0.3 all.1))

-- "::" begins nowhere in an optional hexseq
single-optional : (text : List ℕ) → Optional Hexseq text → Single text
single-optional text (inl none) = subst Single (sym none) tt
single-optional text (inr seq) = single-hexseq text seq

-- where a text has a first byte that is no colon, `slice_index` reads no colon there
next_default : (text : List ℕ) → nat_eq (slice_index_or text 0 colon) colon ≡ false → nat_eq (slice_index text 0) colon ≡ false
next_default [] other = refl
next_default (b ∷ text) other = other

-- a text in which each colon stands before a byte that is no colon has no "::"
single-none : (text : List ℕ) → Single text → behind_double text ≡ None
single-none [] single = refl
single-none (b ∷ text) single = ap (rest_onto text) here ∙ single-none text single.1
  where
    -- no "::" stands at the front
    here : is_double_at (b ∷ text) 0 ≡ false
    here = elim (and_cases (nat_eq b colon) (nat_eq (slice_index_or text 0 colon) colon) single.0) [
      -- either the first byte is no colon, or the one after it is none; `slice_index_or text 0 colon` takes a colon for the byte of an empty text
      | inl other ↦ and_left (nat_eq b colon) (nat_eq (slice_index text 0) colon) other
      | inr other ↦ and_right (nat_eq b colon) (nat_eq (slice_index text 0) colon) (next_default text other)
    ]

-- where each colon of u stands before a byte that is no colon, u is the first part of u, "::" and v, and v follows the first "::"
single-double : (u v : List ℕ) → Single u → (before_double (u ++ (double_colon ++ v)) ≡ u) × (behind_double (u ++ (double_colon ++ v)) ≡ Some v)
single-double [] v single = (refl, refl)
single-double (b ∷ u) v single =
    let rest = single-double u v single.1 in (
      ap (front_onto b (u ++ (double_colon ++ v))) here ∙ ap (λ t. b ∷ t) rest.0,
      ap (rest_onto (u ++ (double_colon ++ v))) here ∙ rest.1,
    )
  where
    -- a text that begins with no colon does so also with "::" after it; an empty text is ruled out, since the test takes a colon for its byte
    next : (t : List ℕ) → nat_eq (slice_index_or t 0 colon) colon ≡ false → nat_eq (slice_index (t ++ (double_colon ++ v)) 0) colon ≡ false
    next [] other = cc
    next (a ∷ t) other = other

    -- no "::" stands at the front
    here : is_double_at (b ∷ (u ++ (double_colon ++ v))) 0 ≡ false
    here = elim (and_cases (nat_eq b colon) (nat_eq (slice_index_or u 0 colon) colon) single.0) [
      -- either the first byte is no colon, or the one after it is none
      | inl other ↦ and_left (nat_eq b colon) (nat_eq (slice_index (u ++ (double_colon ++ v)) 0) colon) other
      | inr other ↦ and_right (nat_eq b colon) (nat_eq (slice_index (u ++ (double_colon ++ v)) 0) colon) (next u other)
    ]

-- two optional hexseqs with "::" between them pass the test of a hexpart
double-is : (u v text : List ℕ) → Optional Hexseq u → Optional Hexseq v → text ≡ u ++ (double_colon ++ v) → is_hexpart text ≡ true
double-is u v text left right whole =
    -- the first "::" is the one between the two, so the text is cut there
    let cut = single-double u v (single-optional u left) in
    let front : before_double text ≡ u = ap before_double whole ∙ cut.0 in
    let rest : behind_double text ≡ Some v = ap behind_double whole ∙ cut.1 in
    ap (λ o. option_map_or (λ r. is_optional_hexseq (before_double text) && is_optional_hexseq r) o (is_hexseq text)) rest
    ∙ and_from _ _ (ap is_optional_hexseq front ∙ optional-is u left) (optional-is v right)

-- a hexpart passes the test of one
pub hexpart-is : (text : List ℕ) → Hexpart text → is_hexpart text ≡ true
-- a hexseq has no "::", so it is tested as one
hexpart-is text (inl seq) =
    ap (λ o. option_map_or (λ r. is_optional_hexseq (before_double text) && is_optional_hexseq r) o (is_hexseq text)) (single-none text (single-hexseq text seq))
    ∙ hexseq-is text seq
-- u is the groups before "::", v the rest after it, and t both without u
hexpart-is text (inr (inl (u, t, seq, (mark, v, is_mark, rest, t_is), whole))) =
    double-is u v text (inr seq) rest (whole ∙ ap (λ x. u ++ x) (t_is ∙ ap (λ x. x ++ v) is_mark))
hexpart-is text (inr (inr (mark, v, is_mark, rest, whole))) = double-is [] v text (inl refl) rest (whole ∙ ap (λ x. x ++ v) is_mark)

-- a text that passes the test of a hexpart is one
pub hexpart-yes : (text : List ℕ) → is_hexpart text ≡ true → Hexpart text
hexpart-yes text pass = at (behind_double text) refl pass
  where
    -- the text is a hexpart, whether "::" stands before, after or between groups, or alone
    split : (v : List ℕ) → Optional Hexseq (before_double text) → Optional Hexseq v → text ≡ before_double text ++ (double_colon ++ v) → Hexpart text
    split v (inl none) right whole = inr (inr (double_colon, v, refl, right, whole ∙ ap (λ x. x ++ (double_colon ++ v)) none))
    split v (inr seq) right whole = inr (inl (before_double text, double_colon ++ v, seq, (double_colon, v, refl, right, refl), whole))

    -- the claim holds whether or not the text has "::"
    at : (o : Option (List ℕ)) → behind_double text ≡ o → option_map_or (λ r. is_optional_hexseq (before_double text) && is_optional_hexseq r) o (is_hexseq text) ≡ true → Hexpart text
    at None is passes = inl (hexseq-yes text passes)
    at (Some v) is passes =
        let both = and_parts (is_optional_hexseq (before_double text)) (is_optional_hexseq v) passes in
        split v (optional-yes (before_double text) both.0) (optional-yes v both.1) (double-whole text v is)

-- a text that passes the test `is_open` is, with one colon more, a hexpart that ends with "::"
pub open-yes : (text : List ℕ) → is_open text ≡ true → OpenHexpart (text ++ (colon ∷ []))
open-yes text pass = at (up_to colon text) refl pass
  where
    -- the text ends with one colon, so one more makes "::"
    ends : (u : List ℕ) → Optional Hexseq u → text ≡ u ++ (colon ∷ []) → OpenHexpart (text ++ (colon ∷ []))
    ends u (inl none) whole = inr (ap (λ t. t ++ (colon ∷ [])) (whole ∙ ap (λ t. t ++ (colon ∷ [])) none))
    ends u (inr seq) whole =
        inl (u, double_colon, seq, refl, ap (λ t. t ++ (colon ∷ [])) whole ∙ append_assoc u (colon ∷ []) (colon ∷ []))

    -- the claim holds whether or not the text ends with a colon
    at : (o : Option (List ℕ)) → up_to colon text ≡ o → option_map_or is_optional_hexseq o false ≡ true → OpenHexpart (text ++ (colon ∷ []))
    -- without a colon at the end the test fails
    at None is passes = cc
    at (Some u) is passes = ends u (optional-yes u passes) (up_to-some colon text u is)

-- a hexpart that ends with "::" passes the test `is_open` without its last colon
pub open-is : (text : List ℕ) → OpenHexpart text → (front : List ℕ) × (text ≡ front ++ (colon ∷ [])) × (is_open front ≡ true)
open-is text hexpart = elim hexpart [
  -- a hexseq stands before the "::", or nothing does
  | inl ends ↦ at ends.0 (inr ends.2) (ends.4 ∙ ap (λ t. ends.0 ++ t) ends.3)
  | inr is ↦ at [] (inl refl) is
]
  -- what stands before the last colon is a hexseq, or nothing, and one colon
  where
    -- a text that ends with "::" is a front and a colon, and the front passes the test `is_open`
    at : (u : List ℕ) → Optional Hexseq u → text ≡ u ++ double_colon → (front : List ℕ) × (text ≡ front ++ (colon ∷ [])) × (is_open front ≡ true)
    at u optional whole = (
      u ++ (colon ∷ []),
      whole ∙ sym (append_assoc u (colon ∷ []) (colon ∷ [])),
      ap (λ o. option_map_or is_optional_hexseq o false) (up_to-mark colon u) ∙ optional-is u optional,
    )
