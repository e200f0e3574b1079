-- Lemmas of what a set of states keeps when it takes an event.
-- In the lemmas P and Q are properties of states: that an event leads there, as a rule. w says that P holds of too many states, `stands` and s that the states
-- `new` stand for those with P, and a what a set was like that has waited; h and m are moments, xs and ys the states before and after the wait.
use Rattle.std.proofs.Common.{◌≢◌, ◌≤◌, ◌<◌, inl, inr, ℕ, Option, List, [], ◌∷◌, All, AllPairs, Contains, map, length, get_or, arith}
use Rattle.std.proofs.lemmas.List.{length-map}
use Rattle.std.proofs.lemmas.List.Elements.{All-contains_itself, All-head, All-weaker, Contains-get_or}
use Rattle.sip_machine.specs.Limits.{IsWithin}
use Rattle.sip_machine.specs.Texts.{Texts}
use Rattle.sip_standard.specs.MachineEvent.{MachineEvent}
use Rattle.sip_machine.specs.Rules.{MachineRules, IsLawful, Waits, StandFor}
use Rattle.sip_states.specs.Held.{IsProper}
use Rattle.sip_states.specs.inner.Ways.{Advances}
use Rattle.sip_states.specs.Waits.{RunGives}
use Rattle.sip_standard.specs.VerdictOf.{IsWide, widest}
use Rattle.sip_standard.proofs.Few.{distinct_few}
use Rattle.sip_states.proofs.sets.Following.{Follows, seen_waits, ended_stays}
use Rattle.sip_states.proofs.lists.Listed.{Contains-map}
use Rattle.sip_states.proofs.sets.Waiting.{IsWithin-none}

-- where more states stand for a set than are followed, the set is too wide
pub many_wide : {X S : Type 0} (names : S → List ℕ) (InRange : S → Type 0) (seen : Texts → S → X) (texts : Texts) (P : X → Type 0) (new : List S) →
    StandFor names InRange seen texts P new → widest < length new → IsWide P
many_wide names InRange seen texts P new s many = (
  map (seen texts) new,
  s.distinct,
  rw length-map many,
  All-weaker (Contains (map (seen texts) new)) P (λ x. (s.members x).0) (map (seen texts) new) (All-contains_itself (map (seen texts) new)),
)

-- a set with all that a too wide set has is too wide
pub wide_among : {X : Type 0} (P Q : X → Type 0) → ((x : X) → P x → Q x) → IsWide P → IsWide Q
wide_among P Q among (many, distinct, wide, each) = (many, distinct, wide, All-weaker P Q among many each)

-- a too wide set has a state
pub wide_some : {X : Type 0} (P : X → Type 0) → IsWide P → (x : X) × P x
wide_some {X} P (many, distinct, wide, each) = go many wide each
  where
    -- a list that is longer than the widest set has a first element
    go : (many : List X) → widest < length many → All P many → (x : X) × P x
    go [] wide each = absurd (omega arith)
    go (x ∷ many) wide each = (x, All-head P x many each)

-- where states that are followed stand for a set, the set is not too wide
pub few_narrow : {X S : Type 0} (names : S → List ℕ) (InRange : S → Type 0) (seen : Texts → S → X) (texts : Texts) (P : X → Type 0) (new : List S) →
    StandFor names InRange seen texts P new → length new ≤ widest → IsWide P → ⊥
few_narrow names InRange seen texts P new stands few (many, distinct, wide, each) =
    let fits = distinct_few many (map (seen texts) new) distinct (All-weaker P (Contains (map (seen texts) new)) (λ x. (stands.members x).1) many each) in
    omega (arith, fits, length-map new (seen texts))

-- What follows is of the states of a set by the rules r of a machine: `names` gives the messages that a state names, InRange says that its moments are in
-- range, and `seen` gives what it stands for beside the book `texts`.
module _ {X S : Type 0} (names : S → List ℕ) (InRange : S → Type 0) (seen : Texts → S → X) (texts : Texts) (r : MachineRules X) where
  -- each state that an event gave can wait at the moment of the event
  pub took_waits : IsLawful r → (P : X → Type 0) (e : MachineEvent) (new : List S) → StandFor names InRange seen texts (RunGives r P e) new → All (λ s. Waits r (seen texts s) e.moment) new
  took_waits lawful P e new gives k d within =
      let given = (gives.members (seen texts (get_or new k d))).0 (Contains-map (seen texts) new (get_or new k d) (Contains-get_or new k d within)) in
      lawful.fresh given.before e (seen texts (get_or new k d)) given.takes

-- after an event the set keeps its invariant where it is not too wide
pub took_kept : {M X S : Type 0} (names : S → List ℕ) (InRange : S → Type 0) (seen : Texts → S → X) (r : M → MachineRules X) (ended : M → S) (window : M → S → Option (ℕ × Option ℕ)) (until : M → S → Option ℕ)
    (machine : M) → Follows names seen (r machine) (ended machine) (window machine) (until machine) → (texts : Texts) (P : X → Type 0) (e : MachineEvent) (new : List S) →
    StandFor names InRange seen texts (RunGives (r machine) P e) new → AllPairs (λ x y. x ≢ y) new → length new ≤ widest →
    IsProper InRange until ended (record { machine = machine; moment = e.moment; states = new })
took_kept names InRange seen r ended window until machine follows texts P e new s apart few =
    record {
      in_range = s.in_range;
      distinct = apart;
      -- each new state can wait until the moment of the event, since it was led there at that moment
      waiting = All-weaker (λ x. Waits (r machine) (seen texts x) e.moment) (λ x. IsWithin e.moment (until machine x))
          (λ x. (seen_waits names InRange seen (r machine) (ended machine) (window machine) (until machine) follows texts e.moment x).0) new
          (took_waits names InRange seen texts (r machine) follows.lawful P e new s);
      few = inl few;
    }

-- a set that has waited keeps its invariant
pub advanced_kept : {M X S : Type 0} (names : S → List ℕ) (InRange : S → Type 0) (seen : Texts → S → X) (r : M → MachineRules X) (ended : M → S) (window : M → S → Option (ℕ × Option ℕ)) (until : M → S → Option ℕ)
    (machine : M) → Follows names seen (r machine) (ended machine) (window machine) (until machine) → (h m : ℕ) (xs ys : List S) →
    IsProper InRange until ended (record { machine = machine; moment = h; states = xs }) → Advances InRange (window machine) (until machine) (ended machine) h m xs ys →
    IsProper InRange until ended (record { machine = machine; moment = m; states = ys })
advanced_kept names InRange seen r ended window until machine follows h m xs ys kept a =
    let stays = ended_stays names InRange seen (r machine) (ended machine) (window machine) (until machine) follows in
    record {
      in_range = a.in_range;
      distinct = a.distinct;
      waiting = λ k d low. ((a.members (get_or ys k d)).0 (Contains-get_or ys k d low)).0;
      -- there is at most one state more, and then ended is new
      few = elim a.grows [
        | inl fewer ↦ elim kept.few [
          | inl few ↦ inl (omega arith)
          | inr (most, there) ↦ inr (omega arith, (a.members (ended machine)).1 (IsWithin-none m (until machine (ended machine)) stays, inl there))
          -- ended was added, so it was not there before
        ]
        | inr (more, absent, there) ↦ elim kept.few [
          | inl few ↦ inr (omega arith, there)
          | inr (most, was) ↦ absurd (absent was)
        ]
      ];
    }
