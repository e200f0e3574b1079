-- A text is stripped of the mark at its end in one way.
-- In the lemmas u, or w, is what stands before the last byte b of a text.
use Rattle.std.proofs.Common.{◌≡◌, ℕ, ◌-◌, ◌<◌, ◌⊎◌, Bool, true, false, ◌&&◌, nat_eq, nat_lt, cond, List, [], ◌∷◌, ◌++◌, length, take, slice_index, None, Some, refl, sym, ap, ◌∙◌, subst, inl, inr, arith}
use Rattle.std.proofs.lemmas.Bool.{eqb-true, eq-eqb, lt-ltb}
use Rattle.std.proofs.lemmas.List.{append_assoc, length-append}
use Rattle.sip_text.specs.inner.Cut.{up_to}
use Rattle.sip_text.proofs.texts.LacksLemmas.{Lacks}

-- a text is empty, or has a last byte
pub last_byte : (text : List ℕ) → (text ≡ []) ⊎ ((u : List ℕ) × (b : ℕ) × (text ≡ u ++ (b ∷ [])))
last_byte [] = inl refl
last_byte (a ∷ text) = elim (last_byte text) [
  -- what follows the first byte is empty, so the first byte is the last; or it has a last byte, which is that of the text
  | inl none ↦ inr ([], a, ap (λ t. a ∷ t) none)
  | inr more ↦ inr (a ∷ more.0, more.1, ap (λ t. a ∷ t) more.2)
]

-- the byte at place `length u` of u and one byte more is that byte
pub slice_index-end : (u : List ℕ) (b : ℕ) → slice_index (u ++ (b ∷ [])) (length u) ≡ b
slice_index-end [] b = refl
slice_index-end (a ∷ u) b = slice_index-end u b

-- the first `length u` bytes of u and one byte more are u
take-end : (u : List ℕ) (b : ℕ) → take (length u) (u ++ (b ∷ [])) ≡ u
take-end [] b = refl
take-end (a ∷ u) b = ap (λ t. a ∷ t) (take-end u b)

-- u and one byte more are one byte longer than u
pub length-end : (u : List ℕ) (b : ℕ) → length (u ++ (b ∷ [])) - 1 ≡ length u
length-end u b = omega (arith, length-append u (b ∷ []))

-- u and one byte more end with the mark exactly if that byte is the mark, and then u is the text up to it
pub up_to-end : (mark : ℕ) (u : List ℕ) (b : ℕ) → up_to mark (u ++ (b ∷ [])) ≡ cond (nat_eq b mark) (Some u) None
up_to-end mark u b =
    -- the test of the end is computed step by step: the last place, that the text is not empty, the byte at that place, and what stands before it
    ap (λ n. cond (nat_lt 0 (length text) && nat_eq (slice_index text n) mark) (Some (take n text)) None) (length-end u b)
    ∙ ap (λ long. cond (long && nat_eq (slice_index text (length u)) mark) (Some (take (length u) text)) None)
    (lt-ltb 0 (length text) (omega (arith, length-append u (b ∷ []))))
    ∙ ap (λ x. cond (nat_eq x mark) (Some (take (length u) text)) None) (slice_index-end u b)
    ∙ ap (λ t. cond (nat_eq b mark) (Some t) None) (take-end u b)
  where
    -- u with the byte at its end
    text : List ℕ
    text = u ++ (b ∷ [])

-- the text up to the mark at the end of u and the mark is u
pub up_to-mark : (mark : ℕ) (u : List ℕ) → up_to mark (u ++ (mark ∷ [])) ≡ Some u
up_to-mark mark u = up_to-end mark u mark ∙ ap (λ same. cond same (Some u) None) (eq-eqb mark mark refl)

-- where u is the text up to the mark at the end of a text, the text is u and the mark
pub up_to-some : (mark : ℕ) (text u : List ℕ) → up_to mark text ≡ Some u → text ≡ u ++ (mark ∷ [])
up_to-some mark text u found = elim (last_byte text) [
  -- an empty text has no mark at its end; else its last byte decides
  | inl none ↦ let missing = sym (ap (up_to mark) none) ∙ found in cc
  | inr more ↦ at more.0 more.1 more.2 (nat_eq more.1 mark) refl (sym (up_to-end mark more.0 more.1) ∙ sym (ap (up_to mark) more.2) ∙ found)
]
  where
    -- the text is u and the mark, since u is what stands up to its last byte where this is the mark, and there is none where it is not
    at : (w : List ℕ) (b : ℕ) → text ≡ w ++ (b ∷ []) → (same : Bool) → nat_eq b mark ≡ same → cond same (Some w) None ≡ Some u → text ≡ u ++ (mark ∷ [])
    at w b whole true same is =
        let front : w ≡ u = cc in
        whole ∙ ap (λ x. w ++ (x ∷ [])) (eqb-true b mark same) ∙ ap (λ t. t ++ (mark ∷ [])) front
    at w b whole false same is = cc

-- a text that ends with v, which is not empty and lacks the mark, does not end with the mark
pub up_to-lacks : (mark : ℕ) (u v : List ℕ) → Lacks mark v → 0 < length v → up_to mark (u ++ v) ≡ None
up_to-lacks mark u v lacks long = elim (last_byte v) [
  -- v is not empty, so it has a last byte, which is not the mark
  | inl none ↦ absurd (omega (arith, long, ap length none))
  | inr more ↦
      ap (λ t. up_to mark (u ++ t)) more.2 ∙ ap (up_to mark) (sym (append_assoc u more.0 (more.1 ∷ [])))
      ∙ up_to-end mark (u ++ more.0) more.1
      ∙ ap (λ same. cond same (Some (u ++ more.0)) None) (other more.0 more.1 (subst (Lacks mark) more.2 lacks))
]
  where
    -- the last byte of a text without the mark is not the mark
    other : (w : List ℕ) (b : ℕ) → Lacks mark (w ++ (b ∷ [])) → nat_eq b mark ≡ false
    other [] b each = each.0
    other (a ∷ w) b each = other w b each.1
