-- What one event leaves of the runs of one machine, said by the set of their states.
use Rattle.std.proofs.Common.{◌≡◌, ◌≢◌, ◌≤◌, ◌↔◌, inl, ℕ, List, [], ◌∷◌, All, Contains, map, length, refl, arith}
use Rattle.std.proofs.lemmas.List.Elements.{All-contains}
use Rattle.sip_machine.specs.Texts.{Texts}
use Rattle.sip_standard.specs.MachineEvent.{MachineEvent}
use Rattle.sip_machine.specs.Rules.{MachineRules, IsLawful, Waits, StandFor}
use Rattle.sip_states.specs.Waits.{Wait, RunGives}
use Rattle.sip_standard.specs.VerdictOf.{IsWide, widest}
use Rattle.sip_verdict.specs.inner.Leads.{Leads}
use Rattle.sip_states.proofs.lists.Listed.{Contains-here}
use Rattle.sip_states.proofs.sets.Taking.{wide_among, wide_some, few_narrow}
use Rattle.sip_verdict.proofs.keys.Leading.{iff_trans, gives_after, Leads-none, Leads-some}

-- What follows is of the states of a set at `moment`, which lead to the runs of one machine by its rules r; `from` is the moment of the newest entry.
-- `Runs n x` says that a run stands in x at n, `seen` gives what a state stands for beside the book, and `names` the messages that it names.
module _ {X S : Type 0} (names : S → List ℕ) (seen : Texts → S → X) (texts : Texts) (r : MachineRules X) (Runs : ℕ → X → Type 0) (from moment : ℕ) (states : List S)
    (leads : Leads names seen texts r Runs from moment states) (late : from ≤ moment) where
  -- where the set is empty, no run stands at its moment
  pub none_runs : states ≡ [] → ¬ ((x : X) × Runs moment x)
  none_runs none (x, run) = Leads-none names seen texts r Runs from moment states leads none moment late (omega arith) x run

  -- where the set has a state, and each can wait at its moment, some run stands there
  pub some_runs : All (λ s. Waits r (seen texts s) moment) states → states ≢ [] → (x : X) × Runs moment x
  some_runs waits some =
      let (s, member) = first_of_some states some in
      (seen texts s, Leads-some names seen texts r Runs from moment states leads late s member (All-contains (λ t. Waits r (seen texts t) moment) states s waits member))
    where
      -- a list that is not empty has an element
      first_of_some : (xs : List S) → xs ≢ [] → (s : S) × Contains xs s
      first_of_some [] some = absurd (some refl)
      first_of_some (x ∷ xs) some = (x, Contains-here x xs)

-- What follows is of a set of states that leads to the runs, and an event e that comes then or later. `After` says where e leads from where the runs stand
-- at its moment. `seen` gives what a state stands for, `names` the messages that it names, InRange says that its moments are within the limits, and r are
-- the rules.
module _ {X S : Type 0} (names : S → List ℕ) (InRange : S → Type 0) (seen : Texts → S → X) (texts : Texts) (r : MachineRules X) (Runs : ℕ → X → Type 0)
    (from moment : ℕ) (states : List S) (leads : Leads names seen texts r Runs from moment states)
    (e : MachineEvent) (After : X → Type 0) (after : (x : X) → After x ↔ RunGives r (Runs e.moment) e x) (late : from ≤ e.moment) (low : moment ≤ e.moment) where
  -- after the event the set holds just the last states of the runs that end with it
  pub took_after : (new : List S) → StandFor names InRange seen texts (RunGives r (Wait r (Contains (map (seen texts) states)) moment e.moment) e) new →
      (x : X) → Contains (map (seen texts) new) x ↔ After x
  took_after new gives x = iff_trans (gives.members x) (gives_after names seen texts r Runs from moment states leads e After after late low x)

  -- where the set holds at most 1,024 states, the last states of the runs are not too many
  pub took_narrow : (new : List S) → StandFor names InRange seen texts (RunGives r (Wait r (Contains (map (seen texts) states)) moment e.moment) e) new →
      length new ≤ widest → ¬ IsWide After
  took_narrow new gives few wide =
      few_narrow names InRange seen texts (RunGives r (Wait r (Contains (map (seen texts) states)) moment e.moment) e) new gives few
      (wide_among After (RunGives r (Wait r (Contains (map (seen texts) states)) moment e.moment) e)
      (λ x. (gives_after names seen texts r Runs from moment states leads e After after late low x).1) wide)

-- What follows is of a set of states that leads to the runs by the lawful rules r, and an event e that comes then or later. `After` says where e leads from
-- where the runs stand at its moment, and `Next` where they stand then.
-- `seen` gives what a state stands for beside the book, and `names` the messages that it names.
module _ {X S : Type 0} (names : S → List ℕ) (seen : Texts → S → X) (texts : Texts) (r : MachineRules X) (lawful : IsLawful r) (Runs : ℕ → X → Type 0)
    (from moment : ℕ) (states : List S) (leads : Leads names seen texts r Runs from moment states)
    (e : MachineEvent) (After : X → Type 0) (Next : ℕ → X → Type 0) (after : (x : X) → After x ↔ RunGives r (Runs e.moment) e x)
    (next : (n : ℕ) (x : X) → Next n x ↔ Wait r After e.moment n x) (late : from ≤ e.moment) (low : moment ≤ e.moment) where
  -- where the event gives a state, a run with the event stands in that state at its moment
  pub given_runs : (x : X) → RunGives r (Wait r (Contains (map (seen texts) states)) moment e.moment) e x → Next e.moment x
  given_runs x given =
      (next e.moment x).1
      (inl
      (record { among = (gives_after names seen texts r Runs from moment states leads e After after late low x).0 given; reached = omega arith; waits = lawful.fresh given.before e x given.takes }))

  -- where the event gives too many states, there is a run with it, and the last states of the runs are too many
  pub wide_runs : IsWide (RunGives r (Wait r (Contains (map (seen texts) states)) moment e.moment) e) → ((x : X) × Next e.moment x) × IsWide After
  wide_runs wide =
      let given = wide_some (RunGives r (Wait r (Contains (map (seen texts) states)) moment e.moment) e) wide in (
        (given.0, given_runs given.0 given.1),
        wide_among (RunGives r (Wait r (Contains (map (seen texts) states)) moment e.moment) e) After
            (λ x. (gives_after names seen texts r Runs from moment states leads e After after late low x).0) wide,
      )
