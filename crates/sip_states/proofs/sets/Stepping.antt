-- Lemmas of how the code takes an event in a list of states.
-- In the lemmas xs, ys and zs are states of the code, y is a state for which one of them stands, and P and Q tell of such states.
use Rattle.std.proofs.Common.{◌≡◌, ◌≢◌, ◌↔◌, ◌≤◌, ◌⊎◌, inl, inr, ℕ, Option, List, [], ◌∷◌, ◌++◌, All, AllPairs, Contains, ap, ap₂, arith, drop, refl, length, length-append, map, get_or, subst, ◌∙◌, ◌+◌}
use Rattle.std.proofs.Math.Seq.{drop-append_seam, get_or-append_seam}
use Rattle.std.proofs.lemmas.List.{get_or_append_left, map-append}
use Rattle.std.proofs.lemmas.List.Elements.{All-append, All-contains, Contains-get_or, Contains-append_left, Contains-append_right, Contains-append_cases}
use Rattle.sip_machine.specs.Texts.{Texts, IsBook}
use Rattle.sip_standard.specs.MachineEvent.{MachineEvent}
use Rattle.sip_machine.specs.Rules.{MachineRules, Covers, FromSome, IsLawful, Knows, StandFor}
use Rattle.sip_states.specs.inner.Ways.{SomeCanEnd, GivesFrom, GivesAfter}
use Rattle.sip_states.proofs.lists.Listed.{Contains-none, Contains-here, Contains-there, Contains-cons, Contains-single, Contains-map, Contains-from_map}
use Rattle.sip_states.proofs.sets.Following.{Follows, seen_ends, ends_seen, distinct_seen}

-- What follows is of states of the code: `names` gives the messages that one names, InRange says that its numbers are in range,
-- and `seen` gives what it stands for beside the book `texts`.
module _ {X S : Type 0} (names : S → List ℕ) (InRange : S → Type 0) (seen : Texts → S → X) (texts : Texts) where
  -- states that cover a set cover a set with the same members
  pub Covers-iff : (P Q : X → Type 0) → ((x : X) → P x ↔ Q x) → (xs : List S) → Covers names InRange seen texts P xs → Covers names InRange seen texts Q xs
  Covers-iff P Q same xs c =
      record { members = λ x. (λ h. (same x).0 ((c.members x).0 h), λ q. (c.members x).1 ((same x).1 q)); known = c.known; in_range = c.in_range }

  -- states that cover P, and states after them that stand for Q, cover what either P or Q holds of
  pub Covers-append : (P Q : X → Type 0) (xs ys zs : List S) → Covers names InRange seen texts P xs → StandFor names InRange seen texts Q ys → zs ≡ xs ++ ys →
      Covers names InRange seen texts (λ x. P x ⊎ Q x) zs
  Covers-append P Q xs ys zs c s is =
      record {
        members = λ x. rw (is, map-append (seen texts) xs ys) (
          λ h. elim (Contains-append_cases (map (seen texts) xs) (map (seen texts) ys) x h) [ inl first ↦ inl ((c.members x).0 first) | inr later ↦ inr ((s.members x).0 later) ],
          -- what either list has is in both together, and nothing else is
          λ h. elim h [
            | inl p ↦ Contains-append_left (map (seen texts) xs) (map (seen texts) ys) x ((c.members x).1 p)
            | inr q ↦ Contains-append_right (map (seen texts) xs) (map (seen texts) ys) x ((s.members x).1 q)
          ],
        );
        known = rw is (All-append (Knows names texts) xs ys c.known s.known);
        in_range = rw is (All-append InRange xs ys c.in_range s.in_range);
      }

-- what the event leads to from one of the states is what it gives from those of them that can wait until its moment
pub gives_some : {X S : Type 0} (seen : Texts → S → X) (texts : Texts) (r : MachineRules X) (e : MachineEvent) → IsLawful r → (xs : List S) (y : X) →
    FromSome (λ s. r.Take (seen texts s) e) xs y ↔ GivesFrom seen texts r xs e y
gives_some seen texts r e lawful [] y = (λ none. absurd none, λ g. absurd (Contains-none g.before g.among.0))
gives_some seen texts r e lawful (s ∷ xs) y =
    let more = gives_some seen texts r e lawful xs y in (
      -- the event leads from the first state, or from a later one
      λ h. elim h [
        | inl takes ↦ record { before = seen texts s; among = (Contains-here (seen texts s) (map (seen texts) xs), lawful.timely (seen texts s) e y takes); takes = takes }
        | inr rest ↦ let g = more.0 rest in record { before = g.before; among = (Contains-there (seen texts s) (map (seen texts) xs) g.before g.among.0, g.among.1); takes = g.takes }
      ],
      -- what it gives comes from the first state, or from a later one
      λ g. elim (Contains-cons (seen texts s) (map (seen texts) xs) g.before g.among.0) [
        | inl same ↦ inl (rw same g.takes)
        | inr rest ↦ inr (more.1 (record { before = g.before; among = (rest, g.among.1); takes = g.takes }))
      ],
    )

-- What follows is of the states xs of a set at the moment h, and an event e that comes then or later. The machine of the code follows the rules r:
-- `seen` gives what a state stands for, `names` the messages that it names, `window` when it may end, `until` how long it can stay, `ended` the state after
-- its end.
module _ {X S : Type 0} (names : S → List ℕ) (InRange : S → Type 0) (seen : Texts → S → X) (r : MachineRules X) (ended : S) (window : S → Option (ℕ × Option ℕ)) (until : S → Option ℕ)
    (follows : Follows names seen r ended window until) (texts : Texts) (xs : List S) (h : ℕ) (e : MachineEvent) (low : h ≤ e.moment) where
  -- what the event gives from the states that can wait is part of what it gives after waiting
  stayed_gives : (y : X) → GivesFrom seen texts r xs e y → GivesAfter seen texts r xs h e y
  stayed_gives y g =
      record {
        before = g.before;
        among = inl (record { among = g.among.0; reached = low; waits = g.among.1 });
        takes = g.takes;
      }

  -- what the event gives after waiting is given from a state that can wait, or from the ended one where some state can end
  after_gives : (y : X) → GivesAfter seen texts r xs h e y → GivesFrom seen texts r xs e y ⊎ (SomeCanEnd window until h e.moment xs × r.Take (seen texts ended) e y)
  after_gives y g =
      elim g.among [
        | inl s ↦ inl (record { before = g.before; among = (s.among, s.waits); takes = g.takes })
        | inr ends ↦ inr (ends_seen names InRange seen r ended window until follows texts xs h e.moment g.before ends, rw (follows.ended_is texts, ← ends.hides.gives) g.takes)
      ]

  -- where no state can end, states that cover what the states that can wait give cover what is given after waiting
  pub gives_stayed : (SomeCanEnd window until h e.moment xs → ⊥) → (found : List S) → Covers names InRange seen texts (GivesFrom seen texts r xs e) found →
      Covers names InRange seen texts (GivesAfter seen texts r xs h e) found
  gives_stayed none found c =
      Covers-iff names InRange seen texts (GivesFrom seen texts r xs e) (GivesAfter seen texts r xs h e)
      (λ y. (stayed_gives y, λ g. elim (after_gives y g) [ inl from ↦ from | inr ends ↦ absurd (none ends.0) ])) found c

  -- where a state can end, those states and what the ended state leads to cover what is given after waiting
  pub gives_ended : SomeCanEnd window until h e.moment xs → (found added new : List S) → Covers names InRange seen texts (GivesFrom seen texts r xs e) found →
      StandFor names InRange seen texts (r.Take (seen texts ended) e) added → new ≡ found ++ added → Covers names InRange seen texts (GivesAfter seen texts r xs h e) new
  gives_ended some found added new c stands is =
      Covers-iff names InRange seen texts (λ y. GivesFrom seen texts r xs e y ⊎ r.Take (seen texts ended) e y) (GivesAfter seen texts r xs h e)
      (λ y. (
        λ ways. elim ways [
          -- what is given comes from a state that stays, or from the ended state
          | inl from ↦ stayed_gives y from
          | inr takes ↦ record {
            before = seen texts ended;
            among = inr (rw (follows.ended_is texts) (seen_ends names InRange seen r ended window until follows texts xs h e.moment some));
            takes = takes;
          }
        ],
        -- after the wait there is one of the states that stayed, or the ended one
        λ g. elim (after_gives y g) [ inl from ↦ inl from | inr ends ↦ inr ends.1 ],
      )) new
      (Covers-append names InRange seen texts (GivesFrom seen texts r xs e) (r.Take (seen texts ended) e) found added new c stands is)

  -- where the list has one state, which cannot end before the event, what its step leads to is what is given after waiting
  pub gives_alone : (s : S) → xs ≡ s ∷ [] → (SomeCanEnd window until h e.moment xs → ⊥) → (new : List S) →
      StandFor names InRange seen texts (r.Take (seen texts s) e) new → StandFor names InRange seen texts (GivesAfter seen texts r xs h e) new
  gives_alone s is none new stands =
      let here : map (seen texts) xs ≡ seen texts s ∷ [] = ap (map (seen texts)) is in
      let same : (y : X) → r.Take (seen texts s) e y ↔ GivesAfter seen texts r xs h e y =
      λ y. (
        λ takes. stayed_gives y (record { before = seen texts s; among = (rw here (Contains-here (seen texts s) []), follows.lawful.timely (seen texts s) e y takes); takes = takes }),
        -- after the wait there is the one state alone
        λ g. elim (after_gives y g) [
          | inl from ↦
              let only = (Contains-single (seen texts s) from.before).0 (rw here at from.among.0) in
              subst (λ x. r.Take x e y) only from.takes
          | inr ends ↦ absurd (none ends.0)
        ],
      ) in
      -- what the step leads to stands for what the event gives
      record {
        members = λ y. (λ has. (same y).0 ((stands.members y).0 has), λ gives. (stands.members y).1 ((same y).1 gives));
        distinct = stands.distinct;
        known = stands.known;
        in_range = stands.in_range;
      }

  -- states that cover a set stand for it once each of them is in the list once
  pub covers_stand : IsBook texts → (P : X → Type 0) (found new : List S) → Covers names InRange seen texts P found → ((x : S) → Contains new x ↔ Contains found x) →
      AllPairs (λ x y. x ≢ y) new → StandFor names InRange seen texts P new
  covers_stand book P found new c same apart =
      let known : All (Knows names texts) new =
      λ k d low. All-contains (Knows names texts) found (get_or new k d) c.known ((same (get_or new k d)).0 (Contains-get_or new k d low)) in
      -- each state that is covered is in the list, and stands for one alone
      record {
        members = λ x. (
          λ k. let (s, member, is) = Contains-from_map (seen texts) new x k in (c.members x).0 (rw (← is) (Contains-map (seen texts) found s ((same s).0 member))),
          λ p. let (s, member, is) = Contains-from_map (seen texts) found x ((c.members x).1 p) in rw (← is) (Contains-map (seen texts) new s ((same s).1 member)),
        );
        distinct = distinct_seen names InRange seen r ended window until follows texts book new known apart;
        known = known;
        in_range = λ k d low. All-contains InRange found (get_or new k d) c.in_range ((same (get_or new k d)).0 (Contains-get_or new k d low));
      }

-- What follows is of the states of a pool, after which others were found.

module _ {S : Type 0} where
  -- a list of length 1 is its only element
  pub only : (xs : List S) (d : S) → length xs ≡ 1 → xs ≡ get_or xs 0 d ∷ []
  only [] d one = absurd (omega (arith, one))
  only (x ∷ []) d one = refl
  only (x ∷ y ∷ xs) d one = absurd (omega (arith, one))

  -- what stands in the new list after the old states is what was found
  pub found-behind : (old found new : List S) (n : ℕ) → new ≡ old ++ found → n ≡ length old → drop n new ≡ found
  found-behind old found new n is at = ap₂ drop at is ∙ drop-append_seam old found

  -- the first of the new list after the old states is the one that was found first
  -- x is the state that was found first, and n its place in the new list; d stands for no state
  pub next-there : (old mid new found : List S) (x d : S) (n : ℕ) → mid ≡ old ++ x ∷ [] → new ≡ mid ++ found → n ≡ length old → get_or new n d ≡ x
  next-there old mid new found x d n mid_is new_is at =
      let size : length mid ≡ length old + 1 = ap length mid_is ∙ length-append old (x ∷ []) in
      ap (λ ys. get_or ys n d) new_is ∙ get_or_append_left mid found d n (omega (arith, at, size)) ∙ ap₂ (λ ys k. get_or ys k d) mid_is at ∙ get_or-append_seam old x [] d
