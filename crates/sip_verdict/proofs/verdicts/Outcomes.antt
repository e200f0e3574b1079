-- What the outcomes of two groups of keys say of both groups together.
use Rattle.std.proofs.Common.{◌≡◌, ◌<◌, ◌+◌, ◌⊎◌, inl, inr, ℕ, zero, suc, min, Some, List, [], ◌∷◌, slice_get, refl, sym, ap, subst, arith}
use Rattle.std.proofs.Math.Nat.{min-eq_left, min-eq_right}
use Rattle.std.proofs.lemmas.Bool.{cases_lt}
use Rattle.std.proofs.lemmas.List.Elements.{All-nil, All-cons}
use Rattle.sip_verdict.specs.declared.passing.Outcome.{Outcome}
use Rattle.sip_verdict.specs.declared.passing.Outcome.TheVariants as all
use Rattle.sip_standard.specs.VerdictOf.{IsFirstKey}
use Rattle.sip_standard.specs.Key.{KeyParts}
use Rattle.sip_verdict.specs.inner.Tracking.{first_of}

-- a key of which P holds, and before which P holds of none, is the first of which it holds
-- no key stands in an empty list; the key is the first, or it is the first of those after the first
pub first_at : (P : KeyParts → Type 0) (keys : List KeyParts) (place : ℕ) (key : KeyParts) → slice_get keys place ≡ Some key → P key
    → ((n : ℕ) (k : KeyParts) → n < place → slice_get keys n ≡ Some k → ¬ P k) → IsFirstKey P keys (place + 1)
first_at P [] place key at holds earlier = absurd cc
first_at P (x ∷ xs) zero key at holds earlier = ([], x, xs, refl, (let same : key ≡ x = cc in subst P same holds), All-nil (λ k. ¬ P k), refl)
first_at P (x ∷ xs) (suc place) key at holds earlier =
    let (before, first, rest, is, it_holds, none, counts) = first_at P xs place key at holds (λ n k low. earlier (suc n) k (omega arith)) in
    (x ∷ before, first, rest, ap (λ ks. x ∷ ks) is, it_holds, All-cons (λ k. ¬ P k) x before (earlier 0 x (omega arith) refl) none, omega (arith, counts))

-- the number, from 1, of a key of which P holds, before which P holds of no key at the places of `Among`
pub record IsFirstAmong (P : KeyParts → Type 0) (keys : List KeyParts) (Among : ℕ → Type 0) (number : ℕ) : Type 0 where
  pub place : ℕ
  pub counts : number ≡ place + 1
  pub key : KeyParts
  pub at : slice_get keys place ≡ Some key
  pub holds : P key
  pub earlier : (n : ℕ) (k : KeyParts) → n < place → slice_get keys n ≡ Some k → Among n → ¬ P k

-- What follows is of keys, of which Runs says which have a run and Wide which are too wide.
module _ (Runs Wide : KeyParts → Type 0) (keys : List KeyParts) where
  -- P holds of the keys at the places of `Among`
  abbrev pub OfSome : (KeyParts → Type 0) → (ℕ → Type 0) → Type 0
  OfSome P Among = (n : ℕ) (k : KeyParts) → slice_get keys n ≡ Some k → Among n → P k

  -- what an outcome says of the keys at some places: each has a run and is narrow; or the first without a run; or each has one, and the first that is wide
  abbrev pub Says : (ℕ → Type 0) → Outcome → Type 0
  Says Among all.Fine = OfSome (λ k. Runs k × ¬ Wide k) Among
  Says Among (all.NoRun number) = IsFirstAmong (λ k. ¬ Runs k) keys Among number
  Says Among (all.TooWide number) = OfSome Runs Among × IsFirstAmong Wide keys Among number

  -- What follows is of two choices of places, A and B, of which each place of B is one of A.
  module _ (A B : ℕ → Type 0) (less : (n : ℕ) → B n → A n) where
    -- what holds of the keys at some places holds of those at fewer places
    fewer : (P : KeyParts → Type 0) → OfSome P A → OfSome P B
    fewer P h n k at among = h n k at (less n among)

    -- the first key for some places, of which P holds, is the first for fewer places
    first_fewer : (P : KeyParts → Type 0) (number : ℕ) → IsFirstAmong P keys A number → IsFirstAmong P keys B number
    first_fewer P number f = record {
      -- the same key is the first, since fewer keys come before it
      place = f.place;
      counts = f.counts;
      key = f.key;
      at = f.at;
      holds = f.holds;
      earlier = λ n k low at among. f.earlier n k low at (less n among);
    }

    -- what an outcome says of the keys at some places it says of those at fewer places
    pub says_fewer : (outcome : Outcome) → Says A outcome → Says B outcome
    says_fewer all.Fine h = fewer (λ k. Runs k × ¬ Wide k) h
    says_fewer (all.NoRun number) h = first_fewer (λ k. ¬ Runs k) number h
    says_fewer (all.TooWide number) h = (fewer Runs h.0, first_fewer Wide number h.1)

  -- What follows is of two choices of places, A and B, and of both together.
  module _ (A B : ℕ → Type 0) where
    -- the place is among those of A or of B
    abbrev Either : ℕ → Type 0
    Either n = A n ⊎ B n

    -- what holds of the keys at the places of each holds at those of both
    of_both : (P : KeyParts → Type 0) → OfSome P A → OfSome P B → OfSome P Either
    of_both P a b n k at (inl among) = a n k at among
    of_both P a b n k at (inr among) = b n k at among

    -- the first key for the places of A is the first for the places of both, where P holds of no key before it at the places of B
    -- i is the number of the key that is first, and k any key at a place n before it
    first_left : (P : KeyParts → Type 0) (i : ℕ) → IsFirstAmong P keys A i → ((n : ℕ) (k : KeyParts) → n + 1 < i → slice_get keys n ≡ Some k → B n → ¬ P k) → IsFirstAmong P keys Either i
    first_left P i f others = record {
      -- the same key is the first, since P holds of none before it at the places of A, and of none at those of B
      place = f.place;
      counts = f.counts;
      key = f.key;
      at = f.at;
      holds = f.holds;
      earlier = λ n k low at. (λ among. elim among [ inl a ↦ f.earlier n k low at a | inr b ↦ others n k (omega (arith, f.counts, low)) at b ]);
    }

    -- the first key for the places of B is the first for the places of both, where P holds of no key before it at the places of A
    -- i is the number of the key that is first, and k any key at a place n before it
    first_right : (P : KeyParts → Type 0) (i : ℕ) → IsFirstAmong P keys B i → ((n : ℕ) (k : KeyParts) → n + 1 < i → slice_get keys n ≡ Some k → A n → ¬ P k) → IsFirstAmong P keys Either i
    first_right P i f others = record {
      -- the same key is the first, since P holds of none before it at the places of B, and of none at those of A
      place = f.place;
      counts = f.counts;
      key = f.key;
      at = f.at;
      holds = f.holds;
      earlier = λ n k low at. (λ among. elim among [ inl a ↦ others n k (omega (arith, f.counts, low)) at a | inr b ↦ f.earlier n k low at b ]);
    }

    -- the smaller number of two first keys is that of the first key of both groups
    first_both : (P : KeyParts → Type 0) (i j : ℕ) → IsFirstAmong P keys A i → IsFirstAmong P keys B j → IsFirstAmong P keys Either (min i j)
    first_both P i j f g = elim (cases_lt i j) [
      | inl low ↦ subst (IsFirstAmong P keys Either) (sym (min-eq_left (omega arith))) (first_left P i f (λ n k below at. g.earlier n k (omega (arith, g.counts, below, low)) at))
      | inr low ↦ subst (IsFirstAmong P keys Either) (sym (min-eq_right low)) (first_right P j g (λ n k below at. f.earlier n k (omega (arith, f.counts, below, low)) at))
    ]

    -- where two outcomes are said of two groups, their join is said of both groups together
    pub says_both : (a b : Outcome) → Says A a → Says B b → Says Either (first_of a b)
    -- h and l are what the two outcomes say. Where the first group is fine, the outcome of the second, with the place j of its key, is that of both
    says_both all.Fine all.Fine h l = of_both (λ k. Runs k × ¬ Wide k) h l
    says_both all.Fine (all.NoRun j) h l = first_right (λ k. ¬ Runs k) j l (λ n k below at among none. none (h n k at among).0)
    says_both all.Fine (all.TooWide j) h l = (of_both Runs (λ n k at among. (h n k at among).0) l.0, first_right Wide j l.1 (λ n k below at among. (h n k at among).1))
    -- where a key of the first group, at place i, has no run, it is the first of both groups, unless the second group has an earlier one
    says_both (all.NoRun i) all.Fine h l = first_left (λ k. ¬ Runs k) i h (λ n k below at among none. none (l n k at among).0)
    says_both (all.NoRun i) (all.NoRun j) h l = first_both (λ k. ¬ Runs k) i j h l
    says_both (all.NoRun i) (all.TooWide j) h l = first_left (λ k. ¬ Runs k) i h (λ n k below at among none. none (l.0 n k at among))
    -- where a key of the first group has too many states, a key without a run in the second group comes before it
    says_both (all.TooWide i) all.Fine h l = (of_both Runs h.0 (λ n k at among. (l n k at among).0), first_left Wide i h.1 (λ n k below at among. (l n k at among).1))
    says_both (all.TooWide i) (all.NoRun j) h l = first_right (λ k. ¬ Runs k) j l (λ n k below at among none. none (h.0 n k at among))
    says_both (all.TooWide i) (all.TooWide j) h l = (of_both Runs h.0 l.0, first_both Wide i j h.1 l.1)

-- where the join of two outcomes is no trouble, both are no trouble
pub both_fine : (a b : Outcome) → first_of a b ≡ all.Fine → (a ≡ all.Fine) × (b ≡ all.Fine)
both_fine all.Fine b h = (refl, h)
-- where one of the two is trouble, the join is trouble
both_fine (all.NoRun i) all.Fine h = absurd cc
both_fine (all.NoRun i) (all.NoRun j) h = absurd cc
both_fine (all.NoRun i) (all.TooWide j) h = absurd cc
both_fine (all.TooWide i) all.Fine h = absurd cc
both_fine (all.TooWide i) (all.NoRun j) h = absurd cc
both_fine (all.TooWide i) (all.TooWide j) h = absurd cc
