-- A text is cut at its first mark in one way.
use Rattle.std.proofs.Common.{◌≡◌, ℕ, zero, suc, ◌+◌, ◌<◌, Bool, true, false, ◌&&◌, nat_eq, cond, List, [], ◌∷◌, ◌++◌, length, take, drop, Option, None, Some, refl, sym, ap, ◌∙◌, arith}
use Rattle.std.specs.List.{onto_first, list_all}
use Rattle.std.proofs.lemmas.Bool.{false_from_ne_true, eqb-true, eq-eqb}
use Rattle.std.proofs.lemmas.List.{append-nil, length-append}
use Rattle.memchr.specs.Find.{Nowhere, Passes, is_byte}
use Rattle.sip_text.specs.inner.Cut.{led, before, behind, parts, past}
use Rattle.sip_text.proofs.texts.LacksLemmas.{Lacks}

-- what holds in both cases, where a byte is the mark and where it is not, holds of the test of the byte
at_byte : (mark b : ℕ) (P : Bool → Type 0) → (nat_eq b mark ≡ true → P true) → (nat_eq b mark ≡ false → P false) → P (nat_eq b mark)
at_byte mark b P yes_mark no_mark = go (nat_eq b mark) refl
  where
    -- the claim holds whether or not the byte is the mark
    go : (same : Bool) → nat_eq b mark ≡ same → P same
    go true is = yes_mark is
    go false is = no_mark is

-- the text before the first mark lacks the mark
pub lacks-before : (mark : ℕ) (text : List ℕ) → Lacks mark (before mark text)
lacks-before mark [] = tt
lacks-before mark (b ∷ text) =
    at_byte mark b (λ same. Lacks mark (cond same [] (b ∷ before mark text))) (λ _. tt) (λ is. (is, lacks-before mark text))

-- the text before the first mark, the mark and the text after it give the text back
pub cut-whole : (mark : ℕ) (text : List ℕ) → text ≡ before mark text ++ led mark (behind mark text)
cut-whole mark [] = refl
cut-whole mark (b ∷ text) =
    at_byte mark b (λ same. b ∷ text ≡ cond same [] (b ∷ before mark text) ++ led mark (cond same (Some text) (behind mark text)))
    (λ is. ap (λ x. x ∷ text) (eqb-true b mark is)) (λ _. ap (λ t. b ∷ t) (cut-whole mark text))

-- where u lacks the mark, and nothing or the mark and more follows it, u is the text before the first mark
pub before-led : (mark : ℕ) (u : List ℕ) (o : Option (List ℕ)) → Lacks mark u → before mark (u ++ led mark o) ≡ u
before-led mark [] None lacks = refl
before-led mark [] (Some v) lacks = ap (λ same. cond same [] (mark ∷ before mark v)) (eq-eqb mark mark refl)
before-led mark (b ∷ u) o lacks =
    ap (λ same. cond same [] (b ∷ before mark (u ++ led mark o))) lacks.0 ∙ ap (λ t. b ∷ t) (before-led mark u o lacks.1)

-- where u lacks the mark, the text after the first mark is what follows u and the mark, and None where nothing follows u
pub behind-led : (mark : ℕ) (u : List ℕ) (o : Option (List ℕ)) → Lacks mark u → behind mark (u ++ led mark o) ≡ o
behind-led mark [] None lacks = refl
behind-led mark [] (Some v) lacks = ap (λ same. cond same (Some v) (behind mark v)) (eq-eqb mark mark refl)
behind-led mark (b ∷ u) o lacks =
    ap (λ same. cond same (Some (u ++ led mark o)) (behind mark (u ++ led mark o))) lacks.0 ∙ behind-led mark u o lacks.1

-- the parts of what stands after the mark, if there is one
abbrev pub later_parts : ℕ → Option (List ℕ) → List (List ℕ)
later_parts mark None = []
later_parts mark (Some text) = parts mark text

-- the parts of a text are the text before the first mark, and the parts of what stands after that mark
pub parts-cut : (mark : ℕ) (text : List ℕ) → parts mark text ≡ before mark text ∷ later_parts mark (behind mark text)
parts-cut mark [] = refl
parts-cut mark (b ∷ text) =
    -- `same` says whether the byte b is the mark: if it is, the first part is empty and the text behind it has the others; if not, b is put before the first
    -- part
    at_byte mark b
    (λ same. cond same ([] ∷ parts mark text) (onto_first b (parts mark text))
    ≡ cond same [] (b ∷ before mark text) ∷ later_parts mark (cond same (Some text) (behind mark text)))
    (λ _. refl) (λ _. ap (onto_first b) (parts-cut mark text))

-- a text that lacks the mark has itself as its one part
pub parts-one : (mark : ℕ) (u : List ℕ) → Lacks mark u → parts mark u ≡ u ∷ []
parts-one mark u lacks =
    ap (parts mark) (sym (append-nil u)) ∙ parts-cut mark (u ++ [])
    ∙ ap (λ t. t ∷ later_parts mark (behind mark (u ++ []))) (before-led mark u None lacks)
    ∙ ap (λ o. u ∷ later_parts mark o) (behind-led mark u None lacks)

-- where u lacks the mark, the parts of u, the mark and v are u and the parts of v
pub parts-mark : (mark : ℕ) (u v : List ℕ) → Lacks mark u → parts mark (u ++ (mark ∷ v)) ≡ u ∷ parts mark v
parts-mark mark u v lacks =
    parts-cut mark (u ++ (mark ∷ v))
    ∙ ap (λ t. t ∷ later_parts mark (behind mark (u ++ (mark ∷ v)))) (before-led mark u (Some v) lacks)
    ∙ ap (λ o. u ∷ later_parts mark o) (behind-led mark u (Some v) lacks)

-- where no byte of a text is the mark, the text is its first part, and nothing stands after a mark
pub before-nowhere : (mark : ℕ) (text : List ℕ) → Nowhere (Passes (is_byte mark) text) 0 (length text) → (before mark text ≡ text) × (behind mark text ≡ None)
before-nowhere mark [] none = (refl, refl)
before-nowhere mark (b ∷ text) none =
    -- the first byte is not the mark, and no byte of the rest is
    let other : nat_eq b mark ≡ false = false_from_ne_true (nat_eq b mark) (none 0 (omega arith) (omega arith)) in
    let rest = before-nowhere mark text (λ k low high. none (suc k) (omega arith) (omega arith)) in (
      ap (λ same. cond same [] (b ∷ before mark text)) other ∙ ap (λ t. b ∷ t) rest.0,
      ap (λ same. cond same (Some text) (behind mark text)) other ∙ rest.1,
    )

-- where k is the first place of the mark, the first part of the text is its first k bytes, and what follows the mark is the rest after it
pub before-first : (mark k : ℕ) (text : List ℕ) → k < length text → Nowhere (Passes (is_byte mark) text) 0 k → Passes (is_byte mark) text k → (before mark text ≡ take k text) × (behind mark text ≡ Some (drop (k + 1) text))
before-first mark k [] within none is = absurd (omega (arith, within))
-- the first byte is the mark
before-first mark zero (b ∷ text) within none is = (
  ap (λ same. cond same [] (b ∷ before mark text)) is,
  ap (λ same. cond same (Some text) (behind mark text)) is,
)
-- the first byte is not the mark, so it stands before it
before-first mark (suc k) (b ∷ text) within none is =
    let other : nat_eq b mark ≡ false = false_from_ne_true (nat_eq b mark) (none 0 (omega arith) (omega arith)) in
    let rest = before-first mark k text (omega (arith, within)) (λ j low high. none (suc j) (omega arith) (omega arith)) is in
    let next : suc k + 1 ≡ suc (k + 1) = omega arith in (
      ap (λ same. cond same [] (b ∷ before mark text)) other ∙ ap (λ t. b ∷ t) rest.0,
      ap (λ same. cond same (Some text) (behind mark text)) other ∙ rest.1 ∙ ap (λ n. Some (drop n (b ∷ text))) (sym next),
    )

-- a text that has a rest past the mark at its front is the mark and that rest
pub past-some : (mark : ℕ) (text rest : List ℕ) → past mark text ≡ Some rest → text ≡ mark ∷ rest
past-some mark [] rest is = cc
past-some mark (b ∷ text) rest is = at (nat_eq b mark) refl is
  where
    -- the claim holds whether or not the first byte is the mark
    at : (same : Bool) → nat_eq b mark ≡ same → cond same (Some text) None ≡ Some rest → b ∷ text ≡ mark ∷ rest
    at true same found = let rest_is : text ≡ rest = cc in ap (λ x. x ∷ text) (eqb-true b mark same) ∙ ap (λ t. mark ∷ t) rest_is
    -- where the first byte is another one, nothing is found past the mark
    at false same found = cc

-- what stands after a mark is shorter than the text
pub behind-shorter : (mark : ℕ) (text rest : List ℕ) → behind mark text ≡ Some rest → length rest < length text
behind-shorter mark text rest is =
    let whole : text ≡ before mark text ++ (mark ∷ rest) = cut-whole mark text ∙ ap (λ o. before mark text ++ led mark o) is in
    omega (arith, ap length whole, length-append (before mark text) (mark ∷ rest))

-- where the first part of a text does not pass the test, not all parts pass it
pub parts-fail : (test : List ℕ → Bool) (mark : ℕ) (text : List ℕ) → test (before mark text) ≡ false → list_all test (parts mark text) ≡ false
parts-fail test mark text fails =
    ap (list_all test) (parts-cut mark text) ∙ ap (λ first. first && list_all test (later_parts mark (behind mark text))) fails

-- where the first part of a text passes the test and the text has no mark, all parts pass it
pub parts-last : (test : List ℕ → Bool) (mark : ℕ) (text : List ℕ) → test (before mark text) ≡ true → behind mark text ≡ None → list_all test (parts mark text) ≡ true
parts-last test mark text pass none =
    ap (list_all test) (parts-cut mark text)
    ∙ ap (λ first. first && list_all test (later_parts mark (behind mark text))) pass
    ∙ ap (λ o. list_all test (later_parts mark o)) none

-- where the first part of a text passes the test, all parts of the text pass it exactly if all parts of what follows the first mark do
pub parts-more : (test : List ℕ → Bool) (mark : ℕ) (text rest : List ℕ) → test (before mark text) ≡ true → behind mark text ≡ Some rest → list_all test (parts mark rest) ≡ list_all test (parts mark text)
parts-more test mark text rest pass some =
    sym (ap (list_all test) (parts-cut mark text)
    ∙ ap (λ first. first && list_all test (later_parts mark (behind mark text))) pass
    ∙ ap (λ o. list_all test (later_parts mark o)) some)
