-- Lemmas of how long one can wait in some states.
use Rattle.std.proofs.Common.{◌≡◌, ◌≢◌, ◌≤◌, ◌↔◌, ◌⊎◌, inl, inr, ℕ, Option, Some, List, [], ◌∷◌, ◌++◌, All, max, refl, arith}
use Rattle.std.specs.List.{Any}
use Rattle.std.proofs.Math.Decide.{dec_le}
use Rattle.std.proofs.lemmas.List.Elements.{All-head, Contains-push, Contains-push_cases, Contains-append_left}
use Rattle.sip_machine.specs.Limits.{IsWithin}
use Rattle.sip_states.specs.inner.Ways.{IsFirstEnd, CanEnd, CanReach, SomeCanReach, IsLastOf}
use Rattle.sip_states.proofs.sets.Waiting.{IsWithin-earlier}

-- a state that can first end at a moment can end by exactly the moments from there on
pub can_end_by : (window : Option (ℕ × Option ℕ)) (until : Option ℕ) (h first m : ℕ) →
    IsFirstEnd window until h (Some first) → CanEnd window until h m ↔ (first ≤ m)
can_end_by window until h first m ends =
    (λ can. let low = ends.1 can.at can.is in let high = can.before in omega arith, λ low. record { at = first; is = ends.0; before = low })

-- P holds of some element of a list with one more exactly where it holds of one of the list or of that one
pub any_push : {X : Type 0} (P : X → Type 0) (xs : List X) (x : X) → Any P (xs ++ x ∷ []) ↔ (Any P xs ⊎ P x)
any_push P xs x = (
  λ (k, y, low, is, p). elim (Contains-push_cases xs x y (k, low, is)) [
    | inl (j, within, at) ↦ inl (j, y, within, at, p)
    | inr e ↦ inr (rw e p)
  ],
  -- the converse: the element is one of the list, or the one after it
  λ some. elim some [
    -- y is the element at the place k, of which p holds, and j its place in the list with one more
    | inl (k, y, low, is, p) ↦ let (j, within, at) = Contains-append_left xs (x ∷ []) y (k, low, is) in (j, y, within, at, p)
    | inr p ↦ let (j, within, at) = Contains-push xs x in (j, x, within, at, p)
  ],
)

-- What follows is of states at the moment h: `window` gives when one may end, and `until` the last moment to which it can stay.
module _ {S : Type 0} (window : S → Option (ℕ × Option ℕ)) (until : S → Option ℕ) (h : ℕ) where
  -- one can wait until `last` from some state before the index, and no longer; h counts as a moment until which one can
  abbrev pub IsLastSoFar : List S → ℕ → Type 0
  IsLastSoFar xs last = (m : ℕ) → h ≤ m → ((m ≤ h) ⊎ SomeCanReach window until h m xs) ↔ (m ≤ last)

  -- the last moment of the states so far and one more is the later of the last moment so far and that of the new state
  pub last_push : (xs : List S) (x : S) (last r new : ℕ) → IsLastSoFar xs last →
      IsLastOf (CanReach (window x) (until x) h) h (Some r) → new ≡ max last r → IsLastSoFar (xs ++ x ∷ []) new
  last_push xs x last r new so_far reach is m low = (
    λ some. elim some [
      -- the new moment is by the last moment so far, or by that of the new state
      | inl first ↦ let old = (so_far m low).0 (inl first) in omega arith
      | inr any ↦ elim ((any_push (λ y. CanReach (window y) (until y) h m) xs x).0 any) [
        | inl earlier ↦ let old = (so_far m low).0 (inr earlier) in omega arith
        | inr here ↦ let now = (reach m low).0 here in omega arith
      ]
    ],
    λ high. go high (dec_le m last),
  )
    where
      -- some state can reach m: one of those so far, or the new one
      go : m ≤ new → Dec (m ≤ last) → (m ≤ h) ⊎ SomeCanReach window until h m (xs ++ x ∷ [])
      go high (yes old) = elim ((so_far m low).1 old) [ inl first ↦ inl first | inr some ↦ inr ((any_push (λ y. CanReach (window y) (until y) h m) xs x).1 (inl some)) ]
      go high (no past) = inr ((any_push (λ y. CanReach (window y) (until y) h m) xs x).1 (inr ((reach m low).1 (omega arith))))

  -- where each state can wait at h, and there is one, the last moment so far of all of them is the last one until which some state can wait
  pub last_all : (xs : List S) (last : ℕ) → xs ≢ [] → All (λ x. IsWithin h (until x)) xs → IsLastSoFar xs last →
      IsLastOf (λ m. SomeCanReach window until h m xs) h (Some last)
  last_all [] last some waiting so_far = absurd (some refl)
  -- a moment that some state can reach is no later than the last one; and up to the last one some state can wait: up to h the first one can
  last_all (x ∷ xs) last some waiting so_far = λ m low. (
    λ reach. (so_far m low).0 (inr reach),
    λ high. elim ((so_far m low).1 high) [
      | inl first ↦ (0, x, omega arith, refl, inl (IsWithin-earlier m h (until x) first (All-head (λ y. IsWithin h (until y)) x xs waiting)))
      | inr reach ↦ reach
    ],
  )
