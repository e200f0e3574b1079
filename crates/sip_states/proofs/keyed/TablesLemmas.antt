-- Lemmas of lists of keys with their sets: where a key stands, and what a write at an index changes.
-- In the lemmas es are pairs of a key and its set, e is the first of them, and n and p are places in a list.
use Rattle.std.proofs.Common.{◌≡◌, ◌≢◌, ◌<◌, ◌≤◌, ◌+◌, ◌++◌, ℕ, zero, suc, Bool, true, false, not, cond, List, [], ◌∷◌, Option, Some, None, inl, inr, is_some, length, slice_get, slice_set, All, refl, sym, ap, subst, ◌∙◌, true≢false, arith}
use Rattle.std.specs.List.{position_or_len}
use Rattle.std.specs.Map.{keys_of, values_of, lookup}
use Rattle.indexmap.specs.Layout.{set_value_at}
use Rattle.sip_standard.specs.Key.{KeyParts, same_key}
use Rattle.sip_standard.specs.Times.{Times}
use Rattle.sip_states.specs.declared.any_set.AnySet.{AnySet}
use Rattle.sip_states.specs.AnySet.{start_of}
use Rattle.sip_states.specs.inner.Touching.{FindsOrStarts}
use Rattle.sip_standard.proofs.SameKey.{same_key-decides}

-- an option that has a value is not None
some-is-none : {X : Type 0} (x : X) → Some x ≡ None → ⊥
some-is-none x e = cc

-- one step of the next lemma: the first of the pairs has the key (b says whether), or the key is found among the others, at the place n
-- the first pair has the key, which stands at 0 then; or it is found one place further than among the others
found-step : {X : Type 0} (e : KeyParts × X) (es : List (KeyParts × X)) (key : KeyParts) (n : ℕ) (b : Bool) → same_key key e.0 ≡ b
    → (b ≡ false → (slice_get (keys_of es) n ≡ Some key) × (n < length es))
    → (slice_get (e.0 ∷ keys_of es) (cond (not b) (1 + n) 0) ≡ Some key) × (cond (not b) (1 + n) 0 < length (e ∷ es))
found-step e es key n true p rest = (ap Some (sym ((same_key-decides key e.0).0 p)), omega arith)
found-step e es key n false p rest =
    let found = rest refl in
    let next : suc n ≡ 1 + n = omega arith in
    subst (λ m. (slice_get (e.0 ∷ keys_of es) m ≡ Some key) × (m < length (e ∷ es))) next (found.0, omega (arith, found.1))

-- where a key is found, it stands at the index of the first key that is the same
pub found-at : {X : Type 0} (es : List (KeyParts × X)) (key : KeyParts) → is_some (lookup (same_key key) es) ≡ true
    → (slice_get (keys_of es) (position_or_len (same_key key) (keys_of es)) ≡ Some key) × (position_or_len (same_key key) (keys_of es) < length es)
found-at [] key there = absurd (true≢false (sym there))
found-at (e ∷ es) key there =
    found-step e es key (position_or_len (same_key key) (keys_of es)) (same_key key e.0) refl
    (λ p. found-at es key (subst (λ b. is_some (cond b (Some e.1) (lookup (same_key key) es)) ≡ true) p there))

-- where a key is not found, none of the keys is that key
pub All-absent : {X : Type 0} (es : List (KeyParts × X)) (key : KeyParts) → lookup (same_key key) es ≡ None → All (λ k. k ≢ key) (keys_of es)
All-absent [] key none = λ k d l. absurd (omega (arith, l))
All-absent {X} (e ∷ es) key none = at (same_key key e.0) refl (All-absent es key)
  where
    -- none of the keys is the one that is looked for: b says whether the first is, which the look-up would have found
    at : (b : Bool) → same_key key e.0 ≡ b → (lookup (same_key key) es ≡ None → All (λ k. k ≢ key) (keys_of es)) → All (λ k. k ≢ key) (e.0 ∷ keys_of es)
    at true p rest k d l = absurd (some-is-none e.1 (subst (λ b. cond b (Some e.1) (lookup (same_key key) es) ≡ None) p none))
    at false p rest zero d l = λ same. true≢false (sym ((same_key-decides key e.0).1 (sym same)) ∙ p)
    at false p rest (suc k) d l = rest (subst (λ b. cond b (Some e.1) (lookup (same_key key) es) ≡ None) p none) k d (omega (arith, l))

-- where a look-up gives an index past the old pairs, the key was not there, and was put after them
pub fresh-index : (times : Times) (key : KeyParts) (index : ℕ) (old new : List (KeyParts × AnySet)) → FindsOrStarts times key index old new → length old ≤ index
    → All (λ k. k ≢ key) (keys_of old) × (index ≡ length old) × (new ≡ old ++ (key, start_of times key) ∷ [])
fresh-index times key index old new finds high =
    elim finds [ inl known ↦ absurd (omega (arith, known.1, high)) | inr fresh ↦ fresh ]

-- writing a value at an index of the pairs writes it at that index of their values
-- es are the pairs of a key and a value, and w is the value that is written at the index i
pub values_of-set_value_at : {K X : Type 0} (es : List (K × X)) (i : ℕ) (w : X) → values_of (set_value_at es i w) ≡ slice_set (values_of es) i w
values_of-set_value_at [] i w = refl
values_of-set_value_at (e ∷ es) zero w = refl
values_of-set_value_at (e ∷ es) (suc i) w = ap (λ l. e.1 ∷ l) (values_of-set_value_at es i w)

-- writing the value that stands at an index already changes no pair
-- es are the pairs of a key and a value, and w is the value that is written at the index i
pub set_value_at-same : {K X : Type 0} (es : List (K × X)) (i : ℕ) (w : X) → slice_get (values_of es) i ≡ Some w → set_value_at es i w ≡ es
set_value_at-same [] i w is = refl
set_value_at-same (e ∷ es) zero w is = let same : e.1 ≡ w = cc in ap (λ x. (e.0, x) ∷ es) (sym same)
set_value_at-same (e ∷ es) (suc i) w is = ap (λ l. e ∷ l) (set_value_at-same es i w is)
