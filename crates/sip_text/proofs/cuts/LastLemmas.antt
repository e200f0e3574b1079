-- A text is cut at its last mark in one way.
use Rattle.std.proofs.Common.{◌≡◌, ℕ, zero, suc, ◌+◌, ◌<◌, Bool, true, false, nat_eq, cond, List, [], ◌∷◌, ◌++◌, length, take, drop, Option, None, Some, refl, sym, ap, ◌∙◌, arith}
use Rattle.std.specs.Option.{option_map_or}
use Rattle.std.proofs.lemmas.Bool.{false_from_ne_true, eqb-true, eq-eqb}
use Rattle.memchr.specs.Find.{Nowhere, Passes, is_byte}
use Rattle.sip_text.specs.inner.Cut.{before_last, behind_last}
use Rattle.sip_text.proofs.texts.LacksLemmas.{Lacks}

-- the text before the last mark of a byte and a text, by what stands before the last mark of the text
abbrev onto : ℕ → ℕ → Option (List ℕ) → Option (List ℕ)
onto mark b o = option_map_or (λ u. Some (b ∷ u)) o (cond (nat_eq b mark) (Some []) None)

-- where no byte is the mark, there is no cut
pub last-nowhere : (mark : ℕ) (text : List ℕ) → Nowhere (Passes (is_byte mark) text) 0 (length text) → before_last mark text ≡ None
last-nowhere mark [] none = refl
last-nowhere mark (b ∷ text) none =
    ap (onto mark b) (last-nowhere mark text (λ k low high. none (suc k) (omega arith) (omega arith)))
    ∙ ap (λ same. cond same (Some []) None) (false_from_ne_true (nat_eq b mark) (none 0 (omega arith) (omega arith)))

-- where k is the last place of the mark, the text before the last mark is the first k bytes
pub last-place : (mark k : ℕ) (text : List ℕ) → k < length text → Nowhere (Passes (is_byte mark) text) (k + 1) (length text) → Passes (is_byte mark) text k → before_last mark text ≡ Some (take k text)
last-place mark k [] within none is = absurd (omega (arith, within))
-- the mark is the first byte, and none follows it
last-place mark zero (b ∷ text) within none is =
    ap (onto mark b) (last-nowhere mark text (λ k low high. none (suc k) (omega arith) (omega arith)))
    ∙ ap (λ same. cond same (Some []) None) is
-- the last mark stands later: what follows the first byte is cut there, and the first byte stands before the cut
last-place mark (suc k) (b ∷ text) within none is =
    ap (onto mark b) (last-place mark k text (omega (arith, within)) (λ j low high. none (suc j) (omega arith) (omega arith)) is)

-- a text that lacks the mark has no cut
lacks-none : (mark : ℕ) (text : List ℕ) → Lacks mark text → before_last mark text ≡ None
lacks-none mark [] lacks = refl
lacks-none mark (b ∷ text) lacks =
    ap (onto mark b) (lacks-none mark text lacks.1) ∙ ap (λ same. cond same (Some []) None) lacks.0

-- where v lacks the mark, the text before the last mark of u, the mark and v is u
pub before_last-mark : (mark : ℕ) (u v : List ℕ) → Lacks mark v → before_last mark (u ++ (mark ∷ v)) ≡ Some u
before_last-mark mark [] v lacks =
    ap (onto mark mark) (lacks-none mark v lacks) ∙ ap (λ same. cond same (Some []) None) (eq-eqb mark mark refl)
before_last-mark mark (b ∷ u) v lacks = ap (onto mark b) (before_last-mark mark u v lacks)

-- where v lacks the mark, the text after the last mark of u, the mark and v is v
pub behind_last-mark : (mark : ℕ) (u v : List ℕ) → Lacks mark v → behind_last mark (u ++ (mark ∷ v)) ≡ v
behind_last-mark mark u v lacks =
    ap (λ o. option_map_or (λ w. drop (length w + 1) (u ++ (mark ∷ v))) o (u ++ (mark ∷ v))) (before_last-mark mark u v lacks)
    ∙ past_front u
  where
    -- the bytes up to the mark after w are dropped
    past_front : (w : List ℕ) → drop (length w + 1) (w ++ (mark ∷ v)) ≡ v
    past_front w = let next : length w + 1 ≡ suc (length w) = omega arith in ap (λ n. drop n (w ++ (mark ∷ v))) next ∙ go w
      where
        -- what follows x and the mark is v
        go : (x : List ℕ) → drop (suc (length x)) (x ++ (mark ∷ v)) ≡ v
        go [] = refl
        go (b ∷ x) = go x

-- a text is the text u before its last mark, the mark, and what is left without the first `length u + 1` bytes
last-split : (mark : ℕ) (text u : List ℕ) → before_last mark text ≡ Some u → text ≡ u ++ (mark ∷ drop (suc (length u)) text)
last-split mark [] u is = cc
last-split mark (b ∷ text) u is = later (before_last mark text) (last-split mark text) is
  where
    -- the claim holds whether or not the first byte is the mark
    here : (same : Bool) → nat_eq b mark ≡ same → cond same (Some []) None ≡ Some u → b ∷ text ≡ u ++ (mark ∷ drop (suc (length u)) (b ∷ text))
    here true same at =
        let empty : [] ≡ u = cc in
        ap (λ x. x ∷ text) (eqb-true b mark same) ∙ ap (λ t. t ++ (mark ∷ drop (suc (length t)) (b ∷ text))) empty
    -- where the first byte is another one too, the text is not cut
    here false same at = cc

    -- the claim holds whether or not the mark stands in the text after the first byte
    later : (o : Option (List ℕ)) → ((v : List ℕ) → o ≡ Some v → text ≡ v ++ (mark ∷ drop (suc (length v)) text)) → onto mark b o ≡ Some u → b ∷ text ≡ u ++ (mark ∷ drop (suc (length u)) (b ∷ text))
    later None split at = here (nat_eq b mark) refl at
    later (Some v) split at =
        let longer : b ∷ v ≡ u = cc in
        ap (λ t. b ∷ t) (split v refl) ∙ ap (λ t. t ++ (mark ∷ drop (suc (length t)) (b ∷ text))) longer

-- the text before the last mark, the mark and the text after it give the text back
pub last-whole : (mark : ℕ) (text u : List ℕ) → before_last mark text ≡ Some u → text ≡ u ++ (mark ∷ behind_last mark text)
last-whole mark text u is =
    let next : suc (length u) ≡ length u + 1 = omega arith in
    last-split mark text u is
    ∙ ap (λ n. u ++ (mark ∷ drop n text)) next
    ∙ ap (λ o. u ++ (mark ∷ option_map_or (λ w. drop (length w + 1) text) o text)) (sym is)
