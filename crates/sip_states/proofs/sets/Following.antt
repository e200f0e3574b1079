-- Lemmas of sets of states of the code beside the rules that they follow.
-- In the lemmas x is a state of the code and y the one for which it stands; xs are the states before a wait and ys those after it; h and m are moments.
use Rattle.std.proofs.Common.{◌≡◌, ◌≢◌, ◌↔◌, ◌≤◌, ◌<◌, inl, inr, ◌∙◌, ℕ, Option, None, ap, List, [], ◌∷◌, All, AllPairs, Contains, map, length, get_or, refl, sym, subst, arith}
use Rattle.std.proofs.lemmas.List.{get_or-map, length-map}
use Rattle.std.proofs.lemmas.List.Elements.{All-nil, All-contains, Contains-get_or}
use Rattle.sip_machine.specs.Limits.{IsWithin, IsOpenAt}
use Rattle.sip_machine.specs.Texts.{Texts, IsBook, Keeps}
use Rattle.sip_machine.specs.Rules.{MachineRules, IsLawful, Waits, Knows, StandFor}
use Rattle.sip_states.specs.Waits.{EndsFrom, Wait}
use Rattle.sip_states.specs.inner.Ways.{SomeCanEnd, SomeCanReach, Advances}
use Rattle.sip_states.proofs.lists.Listed.{Contains-map, Contains-from_map}
use Rattle.sip_states.proofs.sets.Waiting.{IsWithin-none}

-- states of the code follow the rules: their windows and last moments are those of the states for which they stand, and no two stand for one
pub record Follows {X S : Type 0} (names : S → List ℕ) (seen : Texts → S → X) (r : MachineRules X) (ended : S) (window : S → Option (ℕ × Option ℕ)) (until : S → Option ℕ) : Type 0 where
  pub lawful : IsLawful r
  -- the ended state of the code stands for the ended state of the rules, beside every book
  pub ended_is : (texts : Texts) → seen texts ended ≡ r.ended
  pub ended_names : names ended ≡ []
  pub window_is : (texts : Texts) (x : S) → r.window (seen texts x) ≡ window x
  pub until_is : (texts : Texts) (x : S) → r.until (seen texts x) ≡ until x
  pub apart : (texts : Texts) (x y : S) → IsBook texts → Knows names texts x → Knows names texts y → seen texts x ≡ seen texts y → x ≡ y

-- What follows is of a machine of the code and the rules r that it follows: `seen` gives what a state stands for, `names` the messages that it names,
-- `window` when it may end, `until` how long it can stay, and `ended` is the state after its end.
module _ {X S : Type 0} (names : S → List ℕ) (InRange : S → Type 0) (seen : Texts → S → X) (r : MachineRules X) (ended : S) (window : S → Option (ℕ × Option ℕ)) (until : S → Option ℕ)
    (follows : Follows names seen r ended window until) where
  -- the ended state of the code has no last moment
  pub ended_stays : until ended ≡ None
  ended_stays = sym (follows.until_is [] ended) ∙ ap r.until (follows.ended_is []) ∙ follows.lawful.ended_stays

-- What follows is of a machine of the code and the rules r that it follows, beside the book `texts`: `seen` gives what a state stands for, `names` the
-- messages that it names, `window` when it may end, `until` how long it can stay, and `ended` is the state after its end.
module _ {X S : Type 0} (names : S → List ℕ) (InRange : S → Type 0) (seen : Texts → S → X) (r : MachineRules X) (ended : S) (window : S → Option (ℕ × Option ℕ)) (until : S → Option ℕ)
    (follows : Follows names seen r ended window until) (texts : Texts) where
  -- a state of the code can wait until the same moments as the state for which it stands
  pub seen_waits : (m : ℕ) (x : S) → Waits r (seen texts x) m ↔ IsWithin m (until x)
  seen_waits m x = (λ w. rw (follows.until_is texts x) at w, λ w. rw (follows.until_is texts x) w)

  -- where a state of the code can end, the state for which it stands can end
  pub seen_ends : (xs : List S) (h m : ℕ) → SomeCanEnd window until h m xs → EndsFrom r (Contains (map (seen texts) xs)) h m r.ended
  seen_ends xs h m (k, x, low, is, can) =
      record {
        start = seen texts x;
        among = Contains-map (seen texts) xs x (k, low, is);
        at = can.at;
        after = can.is.after;
        before = can.before;
        hides = record { opened = rw (follows.window_is texts x) can.is.opened; waited = (seen_waits can.at x).1 can.is.waited; gives = refl };
      }

  -- where a state for which the states of the code stand can end, one of those can end
  -- the states xs stand at the moment h, and y is the ended state, in which a run stands at the moment m
  pub ends_seen : (xs : List S) (h m : ℕ) (y : X) → EndsFrom r (Contains (map (seen texts) xs)) h m y → SomeCanEnd window until h m xs
  ends_seen xs h m y e =
      let (x, (k, low, is), same) = Contains-from_map (seen texts) xs e.start e.among in (
        k,
        x,
        low,
        is,
        -- the end lies within the window of the state of the code too
        record {
          at = e.at;
          is = record {
            after = e.after;
            opened = rw (follows.window_is texts x) at (subst (λ z. IsOpenAt e.at (r.window z)) (sym same) e.hides.opened);
            waited = (seen_waits e.at x).0 (subst (λ z. Waits r z e.at) (sym same) e.hides.waited);
          };
          before = e.before;
        },
      )

  -- every book knows the ended state
  pub ended_known : Knows names texts ended
  ended_known = rw follows.ended_names (All-nil (Keeps texts))

  -- where no state stands twice in a list that a book knows, no two of them stand for the same state
  pub distinct_seen : IsBook texts → (xs : List S) → All (Knows names texts) xs → AllPairs (λ x y. x ≢ y) xs → AllPairs (λ x y. x ≢ y) (map (seen texts) xs)
  distinct_seen book [] known apart = λ i j d low high _. omega arith
  distinct_seen book (x ∷ xs) known apart = λ i j d low high same.
      -- i and j are two places of the list, whose states would be the same
      let last : j < length (x ∷ xs) = rw length-map at high in
      let first : i < length (x ∷ xs) = omega arith in
      apart i j x low last
      (follows.apart texts (get_or (x ∷ xs) i x) (get_or (x ∷ xs) j x) book (known i x first) (known j x last)
      (sym (get_or-map (seen texts) (x ∷ xs) i x d first) ∙ same ∙ get_or-map (seen texts) (x ∷ xs) j x d last))

  -- What follows is of the states xs of a set, which wait from the moment h until m.
  module _ (h m : ℕ) (low : h ≤ m) (xs : List S) where
    -- one can wait until m from one of the states of the code exactly where one can from a state for which they stand
    pub reach_seen : SomeCanReach window until h m xs ↔ ((y : X) × Wait r (Contains (map (seen texts) xs)) h m y)
    reach_seen = (
      λ (k, x, within, is, can). elim can [
        -- a state of the code stays, or it ends
        | inl stays ↦ (
          seen texts x,
          inl (record { among = Contains-map (seen texts) xs x (k, within, is); reached = low; waits = (seen_waits m x).1 stays }),
        )
        | inr ends ↦ (r.ended, inr (seen_ends xs h m (k, x, within, is, ends)))
      ],
      -- a state that stands for one of the code stays, or ends
      λ (y, wait). elim wait [
        | inl s ↦
            let (x, (k, within, is), same) = Contains-from_map (seen texts) xs y s.among in
            (k, x, within, is, inl ((seen_waits m x).0 (rw same s.waits)))
        | inr e ↦ let (k, x, within, is, can) = ends_seen xs h m y e in (k, x, within, is, inr can)
      ],
    )

    -- each state to which the code's states wait stands for one in which one can stand after waiting
    seen_waited : (ys : List S) → Advances InRange window until ended h m xs ys → (x : S) → Contains ys x → Wait r (Contains (map (seen texts) xs)) h m (seen texts x)
    seen_waited ys a x member =
        -- y is the state x of the code: one of the old states that stays in its window, or the ended one, to which some old state waits
        let (within, ways) = (a.members x).0 member in
        elim ways [
          | inl stays ↦ inl (record { among = Contains-map (seen texts) xs x stays; reached = low; waits = (seen_waits m x).1 within })
          | inr (is_ended, some) ↦ inr (rw (is_ended, follows.ended_is texts) (seen_ends xs h m some))
        ]

    -- each state in which one can stand after waiting is one for which a state to which the code waits stands
    waited_seen : (ys : List S) → Advances InRange window until ended h m xs ys → (y : X) → Wait r (Contains (map (seen texts) xs)) h m y → Contains (map (seen texts) ys) y
    waited_seen ys a y wait =
        elim wait [
          | inl s ↦
              let (x, member, same) = Contains-from_map (seen texts) xs y s.among in
              rw (← same) (Contains-map (seen texts) ys x ((a.members x).1 ((seen_waits m x).0 (rw same s.waits), inl member)))
          -- the ended state is the one to which the code's states end
          | inr e ↦
              rw (e.hides.gives, ← follows.ended_is texts)
              (Contains-map (seen texts) ys ended
              ((a.members ended).1 ((seen_waits m ended).0 (rw (follows.ended_is texts) (IsWithin-none m (r.until r.ended) follows.lawful.ended_stays)), inr (refl, ends_seen xs h m y e))))
        ]

    -- a book that knows the code's states knows those to which they wait
    waited_known : (ys : List S) → Advances InRange window until ended h m xs ys → All (Knows names texts) xs → All (Knows names texts) ys
    waited_known ys a known k d within =
        let (_, ways) = (a.members (get_or ys k d)).0 (Contains-get_or ys k d within) in
        elim ways [
          | inl stays ↦ All-contains (Knows names texts) xs (get_or ys k d) known stays
          | inr (is_ended, some) ↦ rw is_ended ended_known
        ]

    -- the states to which the code's states wait stand for exactly the states in which one can stand after waiting
    pub advances_stand : IsBook texts → (ys : List S) → All (Knows names texts) xs → Advances InRange window until ended h m xs ys →
        StandFor names InRange seen texts (Wait r (Contains (map (seen texts) xs)) h m) ys
    advances_stand book ys known a =
        record {
          members = λ y. (λ c. let (x, member, same) = Contains-from_map (seen texts) ys y c in rw (← same) (seen_waited ys a x member), waited_seen ys a y);
          distinct = distinct_seen book ys (waited_known ys a known) a.distinct;
          known = waited_known ys a known;
          in_range = a.in_range;
        }
