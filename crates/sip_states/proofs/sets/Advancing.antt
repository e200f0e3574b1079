-- Lemmas of how the code lets a list of states wait.
use Rattle.std.proofs.Common.{◌≡◌, ◌≢◌, ◌↔◌, inl, inr, ℕ, true, Option, Some, None, List, [], ◌∷◌, ◌++◌, All, AllPairs, Contains, filter, refl, sym, arith}
use Rattle.std.proofs.lemmas.List.Elements.{All-filter, All-push, Contains-push, Contains-push_cases, Contains-append_left, Contains-get_or}
use Rattle.std.proofs.lemmas.Bool.{leb-true, le-leb}
use Rattle.std.proofs.lemmas.List.{length-append}
use Rattle.std.proofs.lemmas.List.Kept.{AllPairs-filter}
use Rattle.std.proofs.lemmas.List.Quantifiers.{all_pairs_push}
use Rattle.sip_machine.specs.Limits.{IsWithin}
use Rattle.sip_states.specs.inner.Ways.{is_within, SomeCanEnd, Advances}
use Rattle.sip_states.proofs.lists.Listed.{Contains-filter, filter_shorter}

-- the test of the code tells whether the moment is within the limit
pub within_test : (m : ℕ) (limit : Option ℕ) → (is_within m limit ≡ true) ↔ IsWithin m limit
within_test m None = (λ e. tt, λ h. refl)
within_test m (Some last) = (leb-true m last, le-leb m last)

-- What follows is of the states xs of a set, which wait from the moment h until m and become ys. `window` gives when a state may end, `until` how long it
-- can stay.
module _ {S : Type 0} (InRange : S → Type 0) (window : S → Option (ℕ × Option ℕ)) (until : S → Option ℕ) (ended : S) (ended_stays : until ended ≡ None) (h m : ℕ)
    (xs ys : List S) (apart : AllPairs (λ x y. x ≢ y) xs) (in_range : All InRange xs) where
  -- the ended state passes the test, at every moment
  ended_waits : is_within m (until ended) ≡ true
  ended_waits = rw ended_stays

  -- where no state can end, or the ended one is in the list, the states wait when those that pass the test are kept
  pub advances_stay : (SomeCanEnd window until h m xs → Contains xs ended) → ys ≡ filter (λ x. is_within m (until x)) xs → Advances InRange window until ended h m xs ys
  advances_stay there is =
      record {
        members = λ x. (
          λ c. let k = (Contains-filter (λ s. is_within m (until s)) x xs).0 (rw is at c) in ((within_test m (until x)).0 k.1, inl k.0),
          λ (waits, among). rw is ((Contains-filter (λ s. is_within m (until s)) x xs).1 (elim among [ inl c ↦ c | inr e ↦ rw e.0 (there e.1) ], (within_test m (until x)).1 waits)),
        );
        -- each of them is there once and in range, and there are no more than before
        distinct = rw is (AllPairs-filter (λ a b. a ≢ b) (λ s. is_within m (until s)) xs apart);
        in_range = rw is (All-filter (λ s. is_within m (until s)) InRange xs in_range);
        grows = inl (rw is (filter_shorter (λ s. is_within m (until s)) xs));
      }

  -- where a state can end and the ended one is not in the list, the states wait when it is added and those that pass the test are kept
  pub advances_push : InRange ended → SomeCanEnd window until h m xs → (Contains xs ended → ⊥) → ys ≡ filter (λ x. is_within m (until x)) (xs ++ ended ∷ []) →
      Advances InRange window until ended h m xs ys
  advances_push ended_in_range some absent is =
      record {
        members = λ x. (
          λ c. let k = (Contains-filter (λ s. is_within m (until s)) x (xs ++ ended ∷ [])).0 (rw is at c) in
              ((within_test m (until x)).0 k.1, elim (Contains-push_cases xs ended x k.0) [ inl old ↦ inl old | inr e ↦ inr (sym e, some) ]),
          -- a state that waits was there, or is the ended one that was added
          λ (waits, among). rw is ((Contains-filter (λ s. is_within m (until s)) x (xs ++ ended ∷ [])).1
              (elim among [ inl c ↦ Contains-append_left xs (ended ∷ []) x c | inr e ↦ rw e.0 (Contains-push xs ended) ], (within_test m (until x)).1 waits)),
        );
        -- each is there once and in range, and the ended one is among them
        distinct = rw is (AllPairs-filter (λ a b. a ≢ b) (λ s. is_within m (until s)) (xs ++ ended ∷ [])
            (all_pairs_push (λ a b. a ≢ b) xs ended apart (λ k d low e. absent (rw e at (Contains-get_or xs k d low)))));
        in_range = rw is (All-filter (λ s. is_within m (until s)) InRange (xs ++ ended ∷ []) (All-push InRange xs ended in_range ended_in_range));
        grows = inr (
          let shorter = filter_shorter (λ s. is_within m (until s)) (xs ++ ended ∷ []) in rw is (omega (arith, shorter, length-append xs (ended ∷ []))),
          absent,
          rw is ((Contains-filter (λ s. is_within m (until s)) ended (xs ++ ended ∷ [])).1 (Contains-push xs ended, ended_waits)),
        );
      }
