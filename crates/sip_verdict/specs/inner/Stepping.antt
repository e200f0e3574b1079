-- What an event leaves of the runs of one machine.
use Rattle.std.specs.Prelude.{◌≡◌, ◌++◌, [], ◌∷◌, ℕ, List}
use Rattle.sip_standard.specs.Times.{Times}
use Rattle.sip_standard.specs.MachineEvent.{MachineEvent}
use Rattle.sip_standard.specs.KeyMachine.{MachineKind, transaction_of}
use Rattle.sip_standard.specs.Stands.{Stands, StandsAfter}
use Rattle.sip_standard.specs.VerdictOf.{IsWide}
use Rattle.sip_machine.specs.Texts.{Texts}
use Rattle.sip_machine.specs.Rules.{MachineRules}
use Rattle.sip_states.specs.Held.{Held}
use Rattle.sip_states.specs.KeyRules.{OwingOf}
use Rattle.sip_verdict.specs.declared.passing.Outcome.{Outcome}
use Rattle.sip_verdict.specs.declared.passing.Outcome.TheVariants as all
use Rattle.sip_verdict.specs.inner.Leads.{Leads}

-- a set of this machine says, from a moment on, exactly where the runs stand
pub record LeadsTo {M X S : Type 0} (names : S → List ℕ) (seen : Texts → S → X) (rules : M → MachineRules X) (texts : Texts) (machine : M) (set : Held M S) (Runs : ℕ → X → Type 0) (from : ℕ) : Type 0 where
  pub machine_is : set.machine ≡ machine
  pub leads : Leads names seen texts (rules machine) Runs from set.moment set.states

-- some run of the machine over the events stands at the moment
abbrev pub RunsUntil : Times → MachineKind → List MachineEvent → ℕ → Type 0
RunsUntil p machine events moment = (y : OwingOf machine) × Stands (transaction_of machine).figure p events moment y

-- what the events, with one more, leave of the runs at the moment of the last: `Leads` says to which events the set leads then, and `Holds` that its states
-- are just the last states of the runs that end with the one more
abbrev pub IsStepped : Times → MachineKind → List MachineEvent → MachineEvent → (List MachineEvent → Type 0) → (MachineEvent → Type 0) → Outcome → Type 0
IsStepped p machine events e Leads Holds all.Fine =
    RunsUntil p machine (events ++ e ∷ []) e.moment × ¬ IsWide (StandsAfter (transaction_of machine).figure p events e) × Leads (events ++ e ∷ []) × Holds e
IsStepped p machine events e Leads Holds (all.NoRun number) = ¬ RunsUntil p machine (events ++ e ∷ []) e.moment
IsStepped p machine events e Leads Holds (all.TooWide number) =
    RunsUntil p machine (events ++ e ∷ []) e.moment × IsWide (StandsAfter (transaction_of machine).figure p events e)
