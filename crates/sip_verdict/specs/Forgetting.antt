-- What the entries of a log are to a survey that has forgotten transactions.
use Rattle.std.specs.Prelude.{◌≡◌, ◌≤◌, ◌↔◌, ◌⊎◌, ℕ, Bool, false, List, map, filter}
use Rattle.sip_standard.specs.Key.{KeyParts}
use Rattle.sip_standard.specs.Times.{Times}
use Rattle.sip_standard.specs.MachineEvent.{MachineEvent}
use Rattle.sip_standard.specs.KeyMachine.{MachineKind, machine_of_key, transaction_of}
use Rattle.sip_standard.specs.Observation.{Observation}
use Rattle.sip_standard.specs.VerdictOf.{events_for}
use Rattle.sip_verdict.specs.Entries.{newest_moment}
use Rattle.sip_verdict.specs.SurveyOf.{IsSound}
use Rattle.sip_verdict.specs.SurveyLaws.{IsIdleAgain, StandsOnlyIn}
use Rattle.sip_verdict.specs.SurveyText.{IsLastEntryOf}

-- the entries without the transactions that are not kept: each has its moment, its event, and the kept ones of the keys that it concerns
abbrev pub remembered : (KeyParts → Bool) → List (Observation KeyParts) → List (Observation KeyParts)
remembered kept es = map (λ e. record { fault = e.fault; event = e.event; keys = filter kept e.keys }) es

-- the transaction of this machine has ended by the moment
abbrev pub HasEnded : MachineKind → Times → List MachineEvent → ℕ → Type 0
HasEnded kind p events m = StandsOnlyIn kind p events m (transaction_of kind).figure.ended

-- the transaction is over: it is in trouble, or it is idle again, or it has ended
abbrev pub IsOver : Times → List (Observation KeyParts) → KeyParts → Type 0
IsOver p es key =
    ¬ (IsSound p es key)
    ⊎ (IsIdleAgain (machine_of_key p.rules key) p (events_for key es) (newest_moment es) ⊎ HasEnded (machine_of_key p.rules key) p (events_for key es) (newest_moment es))

-- the keys that are not kept are just those of the entries whose transaction is over and whose last entry has a number up to `until`
abbrev pub ForgetsUpTo : ℕ → Times → List (Observation KeyParts) → (KeyParts → Bool) → Type 0
ForgetsUpTo until p es kept = (key : KeyParts) → (kept key ≡ false) ↔ (IsOver p es key × ((last : ℕ) × IsLastEntryOf es key last × (last ≤ until)))
