-- The numbers of the keys of which a fact holds.
use Rattle.std.proofs.Common.{◌≡◌, ◌↔◌, ◌≤◌, ◌<◌, ◌+◌, ◌⊎◌, inl, inr, ℕ, List, [], ◌∷◌, ◌++◌, All, AllPairs, Contains, length, refl, sym, ap, ◌∙◌, subst, arith, length-append, append_assoc, append-nil}
use Rattle.std.proofs.Math.Decide.{dec_le}
use Rattle.std.proofs.lemmas.List.Elements.{All-nil, All-cons, All-weaker}
use Rattle.std.proofs.lemmas.List.Kept.{AllPairs-cons}
use Rattle.sip_standard.specs.Key.{KeyParts}
use Rattle.sip_states.proofs.lists.Listed.{Contains-none, Contains-here, Contains-there, Contains-cons}
use Rattle.sip_verdict.specs.SurveyOf.{HoldsOf}
use Rattle.sip_verdict.proofs.keys.Splitting.{split_compare}

-- it is false that A is false
abbrev pub Weakly : Type 0 → Type 0
Weakly A = ¬ (¬ A)

-- the numbers of the keys of which P holds, each once and in order
abbrev pub AreNumbers : (KeyParts → Type 0) → List KeyParts → List ℕ → Type 0
AreNumbers P keys ns = AllPairs (λ a b. a < b) ns × ((n : ℕ) → Contains ns n ↔ HoldsOf P keys n)

-- P holds of the key at the place whose number is n, where P holds of the key with the number n
pub same_place : (P : KeyParts → Type 0) (keys before : List KeyParts) (key : KeyParts) (rest : List KeyParts) (n : ℕ) → keys ≡ before ++ key ∷ rest → HoldsOf P keys n → n ≡ length before + 1 → P key
same_place P keys before key rest n is (front, other, more, are, holds, number) place =
    by (split_compare front more before rest other key (sym are ∙ is))
  where
    -- P holds of the key: the two keys stand at one place, since they have one number
    by : ((front ≡ before) × (other ≡ key)) ⊎ (((zs : List KeyParts) × (before ≡ front ++ other ∷ zs)) ⊎ ((zs : List KeyParts) × (front ≡ before ++ key ∷ zs))) → P key
    by (inl h) = subst P h.1 holds
    -- at two places the keys would have two numbers
    by (inr (inl h)) = absurd (omega (arith, number, place, simp length-append at (ap length h.1)))
    by (inr (inr h)) = absurd (omega (arith, number, place, simp length-append at (ap length h.1)))

-- What follows is of a property P of keys, and the numbers of those keys that have it.
module _ (P : KeyParts → Type 0) (keys : List KeyParts) where
  -- the numbers above `low` of the keys of which P holds, each once and in order
  abbrev AreAbove : ℕ → List ℕ → Type 0
  AreAbove low ns = AllPairs (λ a b. a < b) ns × All (λ n. low < n) ns × ((n : ℕ) → Contains ns n ↔ (HoldsOf P keys n × (low < n)))

  -- no key has a number above the count of the keys
  none_above : AreAbove (length keys) []
  none_above = (λ i j d low high. absurd (omega (arith, high)), All-nil (λ n. length keys < n), λ n. (λ h. absurd (Contains-none n h), λ h. absurd (over n h.0 h.1)))
    where
      -- no key has a number above the count of the keys
      over : (n : ℕ) → HoldsOf P keys n → length keys < n → ⊥
      over n (front, key, rest, are, holds, number) low = omega (arith, low, number, simp length-append at (ap length are))

  -- What follows is of one of the keys, with those before it and those after it.
  module _ (before : List KeyParts) (key : KeyParts) (rest : List KeyParts) (is : keys ≡ before ++ key ∷ rest) where
    -- where P holds of the next key, its number comes before the numbers above it
    one_above : P key → (ns : List ℕ) → AreAbove (length before + 1) ns → AreAbove (length before) ((length before + 1) ∷ ns)
    one_above holds ns (sorted, high, are) = (
      AllPairs-cons (λ a b. a < b) (length before + 1) ns high sorted,
      All-cons (λ n. length before < n) (length before + 1) ns (omega arith) (All-weaker (λ n. length before + 1 < n) (λ n. length before < n) (λ n low. omega (arith, low)) ns high),
      λ n. (λ h. into n (Contains-cons (length before + 1) ns n h), λ h. from n h.0 h.1 (dec_le n (length before + 1))),
    )
      where
        -- each of the numbers is that of a key of which P holds
        into : (n : ℕ) → (length before + 1 ≡ n) ⊎ Contains ns n → HoldsOf P keys n × (length before < n)
        into n (inl same) = ((before, key, rest, is, holds, sym same), omega (arith, same))
        into n (inr h) = let both = (are n).0 h in (both.0, omega (arith, both.1))

        -- each key of which P holds has its number there: the next key, or a later one
        -- the number is that of the next key, or it is above that one and so among ns
        from : (n : ℕ) → HoldsOf P keys n → length before < n → Dec (n ≤ length before + 1) → Contains ((length before + 1) ∷ ns) n
        from n has above (yes to) = let same : length before + 1 ≡ n = omega (arith, above, to) in subst (Contains ((length before + 1) ∷ ns)) same (Contains-here (length before + 1) ns)
        from n has above (no beyond) = Contains-there (length before + 1) ns n ((are n).1 (has, omega (arith, beyond)))

    -- where P does not hold of the next key, the numbers above it are those from it on
    none_more : ¬ (P key) → (ns : List ℕ) → AreAbove (length before + 1) ns → AreAbove (length before) ns
    none_more not ns (sorted, high, are) = (
      sorted,
      All-weaker (λ n. length before + 1 < n) (λ n. length before < n) (λ n low. omega (arith, low)) ns high,
      λ n. (λ h. let both = (are n).0 h in (both.0, omega (arith, both.1)), λ h. from n h.0 h.1 (dec_le n (length before + 1))),
    )
      where
        -- each key of which P holds has its number there: it is a later one
        -- a number that is not above the next key's would be its own, but P does not hold of it
        from : (n : ℕ) → HoldsOf P keys n → length before < n → Dec (n ≤ length before + 1) → Contains ns n
        from n has above (yes to) = absurd (not (same_place P keys before key rest n is has (omega (arith, above, to))))
        from n has above (no beyond) = (are n).1 (has, omega (arith, beyond))

  -- the keys of which P holds after any first ones have numbers
  -- `never` says that there is no list of such numbers
  above_some : (before rest : List KeyParts) → keys ≡ before ++ rest → Weakly ((ns : List ℕ) × AreAbove (length before) ns)
  -- after all keys the empty list is one
  above_some before [] is never = never ([], subst (λ ks. AreAbove (length ks) []) (is ∙ append-nil before) none_above)
  -- the keys after the next one have numbers; those from the next one on are the same, with its own before them if P holds of it
  above_some before (key ∷ rest) is never =
      above_some (before ++ key ∷ []) rest (is ∙ sym (append_assoc before (key ∷ []) rest)) (λ later.
      let more : AreAbove (length before + 1) later.0 = subst (λ n. AreAbove n later.0) (length-append before (key ∷ [])) later.1 in
      either (λ holds. never ((length before + 1) ∷ later.0, one_above before key rest is holds later.0 more)) (λ not. never (later.0, none_more before key rest is not later.0 more)))
    where
      -- P holds of the next key, or it does not
      either : (P key → ⊥) → (¬ (P key) → ⊥) → ⊥
      either holds not = not holds

  -- the keys of which P holds have numbers, each once and in order
  pub numbers_some : Weakly ((ns : List ℕ) × AreNumbers P keys ns)
  numbers_some never = above_some [] keys refl (λ one. never (one.0, (one.1.0, λ n. (λ h. ((one.1.2 n).0 h).0, λ h. (one.1.2 n).1 (h, positive n h)))))
    where
      -- each number is above 0
      positive : (n : ℕ) → HoldsOf P keys n → 0 < n
      positive n (front, key, rest, are, holds, number) = omega (arith, number)
