-- What an event leaves of the runs of one transaction, whatever its machine is.
use Rattle.std.proofs.Common.{◌≡◌, ◌≢◌, ◌≤◌, ◌↔◌, ℕ, List, [], Contains, map, length, sym, ◌∙◌, subst, arith}
use Rattle.sip_machine.specs.Texts.{Texts}
use Rattle.sip_standard.specs.MachineEvent.{MachineEvent}
use Rattle.sip_machine.specs.Rules.{MachineRules, IsLawful, StandFor}
use Rattle.sip_states.specs.Waits.{Wait, RunGives}
use Rattle.sip_standard.specs.VerdictOf.{IsWide, widest}
use Rattle.sip_states.specs.Held.{Held}
use Rattle.sip_verdict.specs.inner.Leads.{Leads}
use Rattle.sip_verdict.specs.inner.Stepping.{LeadsTo}
use Rattle.sip_verdict.proofs.keys.Leading.{Leads-take}
use Rattle.sip_verdict.proofs.keys.OneMachine.{none_runs, some_runs, took_after, took_narrow, wide_runs}
use Rattle.sip_states.proofs.sets.Taking.{took_waits}

-- What follows is of the set of one transaction, which leads to its runs; `new` is the set after one event more. `Runs n x` says that a run stands in x at n.
-- `seen` gives what a state stands for beside the book, `names` the messages that it names, and InRange says that its moments are within the limits.
module _ {M X S : Type 0} (names : S → List ℕ) (InRange : S → Type 0) (seen : Texts → S → X) (rules : M → MachineRules X) (lawful : (machine : M) → IsLawful (rules machine))
    (texts : Texts) (machine : M) (Runs : ℕ → X → Type 0) (from : ℕ) (set new : Held M S) (leads : LeadsTo names seen rules texts machine set Runs from) where
  -- P holds of where a run can stand at a moment after it waited from the states of the set, by the rules of this machine
  abbrev WaitFrom : M → ℕ → X → Type 0
  WaitFrom own moment = Wait (rules own) (Contains (map (seen texts) set.states)) set.moment moment

  -- where the new set has the same machine and this moment, and its states lead to these runs, the set leads to them
  led : (Next : ℕ → X → Type 0) (moment : ℕ) → new.machine ≡ set.machine → new.moment ≡ moment → Leads names seen texts (rules machine) Next moment moment new.states → LeadsTo names seen rules texts machine new Next moment
  led Next moment same at l = record {
    machine_is = same ∙ leads.machine_is;
    leads = subst (λ m. Leads names seen texts (rules machine) Next moment m new.states) (sym at) l;
  }

  -- What follows is of one event e: `After` says where it leads from where the runs stand at its moment, and `Next` where they stand then.
  module _ (e : MachineEvent) (After : X → Type 0) (Next : ℕ → X → Type 0) (after : (x : X) → After x ↔ RunGives (rules machine) (Runs e.moment) e x)
      (next : (n : ℕ) (x : X) → Next n x ↔ Wait (rules machine) After e.moment n x) (late : from ≤ e.moment) (low : set.moment ≤ e.moment) where
    -- What follows is of a new set whose states are those that the event gives.
    module _ (gives : StandFor names InRange seen texts (RunGives (rules set.machine) (WaitFrom set.machine e.moment) e) new.states) where
      -- the new states are just those that the event gives, by the rules of the machine
      given : StandFor names InRange seen texts (RunGives (rules machine) (WaitFrom machine e.moment) e) new.states
      given = subst (λ own. StandFor names InRange seen texts (RunGives (rules own) (WaitFrom own e.moment) e) new.states) leads.machine_is gives

      -- the new states lead to the runs with e
      taken : Leads names seen texts (rules machine) Next e.moment e.moment new.states
      taken = Leads-take names InRange seen texts (rules machine) Runs Next e After after next from set.moment set.states leads.leads late low new.states given

      -- where no state is left, no run takes the event
      pub heard_none : new.states ≡ [] → ¬ ((x : X) × Next e.moment x)
      heard_none none run = none_runs names seen texts (rules machine) Next e.moment e.moment new.states taken (omega arith) none run

      -- where states are left, and not too many, the runs go on
      pub heard_some : new.machine ≡ set.machine → new.moment ≡ e.moment → new.states ≢ [] → length new.states ≤ widest
          → ((x : X) × Next e.moment x) × ¬ IsWide After × LeadsTo names seen rules texts machine new Next e.moment × StandFor names InRange seen texts After new.states
      heard_some same at some few = (
        -- some run goes on, the last states are not too many, and the new set leads to the runs with one event more
        some_runs names seen texts (rules machine) Next e.moment e.moment new.states taken (omega arith)
            (took_waits names InRange seen texts (rules machine) (lawful machine) _ e new.states given) some,
        λ wide. took_narrow names InRange seen texts (rules machine) Runs from set.moment set.states leads.leads e After after late low new.states given few wide,
        led Next e.moment same at taken,
        -- the new states stand for those in which the runs can stand after the event
        record {
          members = took_after names InRange seen texts (rules machine) Runs from set.moment set.states leads.leads e After after late low new.states given;
          distinct = given.distinct;
          known = given.known;
          in_range = given.in_range;
        },
      )

    -- where too many states come out, there is a run over the event, and the last states are too many
    pub heard_wide : IsWide (RunGives (rules set.machine) (WaitFrom set.machine e.moment) e) → ((x : X) × Next e.moment x) × IsWide After
    heard_wide wide =
        wide_runs names seen texts (rules machine) (lawful machine) Runs from set.moment set.states leads.leads e After Next after next late low
        (subst (λ own. IsWide (RunGives (rules own) (WaitFrom own e.moment) e)) leads.machine_is wide)
