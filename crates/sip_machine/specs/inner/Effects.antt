-- What an event does to a state of the code.
use Rattle.std.specs.Prelude.{◌≡◌, ◌⊎◌, ℕ, Option, Some, None, List, filter}
use Rattle.std.specs.Option.{option_map}
use Rattle.sip_machine.specs.declared.phases.Change.TheVariants as code
use Rattle.sip_machine.specs.declared.phases.Turn.{Turn}
use Rattle.sip_machine.specs.declared.effects.Effect.{Effect}
use Rattle.sip_machine.specs.declared.effects.Rest.{Rest}
use Rattle.sip_machine.specs.declared.effects.Rest.TheVariants as resting
use Rattle.sip_ledger.specs.declared.debt.Debt.{Debt}
use Rattle.sip_standard.specs.declared.action.Action.{Action}
use Rattle.sip_standard.specs.declared.action.Action.TheVariants.{Sent, Received, Failed, Mark, Restart}
use Rattle.sip_standard.specs.Times.{Times}
use Rattle.sip_machine.specs.Limits.{IsWithin}
use Rattle.sip_machine.specs.Texts.{Texts}
use Rattle.sip_standard.specs.MachineEvent.{MachineEvent}
use Rattle.sip_standard.specs.Figure.{Figure, Owing, Follows, Repays}
use Rattle.sip_machine.specs.FigureRules.{until_of}
use Rattle.sip_machine.specs.Owing.{CodeOwing, owing_seen}
use Rattle.sip_machine.specs.inner.Turns.{changed_debts}
use Rattle.sip_ledger.specs.Debts.{counts_at, paid_by}

-- a received message leads from x where P says; where P says nothing, it leaves x as it is
abbrev pub OrStays : {X : Type 0} → (X → Type 0) → X → X → Type 0
OrStays {X} P x y = P y ⊎ (((z : X) → ¬ (P z)) × (y ≡ x))

-- a received message leads from the state x: where its row does, or it leaves x as it is where it has none
abbrev pub Hears : {X : Type 0} → Figure X → Times → MachineEvent → Owing X → Owing X → Type 0
Hears f p e x = OrStays (Follows (f.Receives p x.phase e.kind e) p e x) x

-- a sent message leaves the phase of x as it is: it pays something that x owes, or changes nothing
abbrev pub Rests : {X : Type 0} → Figure X → MachineEvent → Owing X → Owing X → Type 0
Rests f e x y = Repays f e x y ⊎ (f.Stays x.phase e.kind × (y ≡ x))

-- the state without what has expired at t
abbrev pub unexpired_at : {S : Type 0} → ℕ → CodeOwing S → CodeOwing S
unexpired_at t x = record x { owes = filter (counts_at t) x.owes }

-- the state to which a turn leads from x at t, without what has expired
abbrev pub led_by : {S : Type 0} → Times → ℕ → Turn S → CodeOwing S → CodeOwing S
led_by p t turn x = record x { phase = turn.phase; owes = changed_debts p t turn.change (filter (counts_at t) x.owes) }

-- the state x at t, without what has expired and without the first debt that a send of this message pays
abbrev pub repaid_at : {S : Type 0} → ℕ → ℕ → CodeOwing S → CodeOwing S
repaid_at t message x = record x { owes = filter (counts_at t) (paid_by message t x.owes) }

-- what is owed at t where the phase stays: without what has expired, and without what is paid
abbrev pub rested_debts : ℕ → Rest → List Debt → List Debt
rested_debts t resting.Stays owes = filter (counts_at t) owes
rested_debts t (resting.Pays message) owes = filter (counts_at t) (paid_by message t owes)

-- the state x at t where the phase stays
abbrev pub rests_at : {S : Type 0} → ℕ → Rest → CodeOwing S → CodeOwing S
rests_at t resting.Stays x = unexpired_at t x
rests_at t (resting.Pays message) x = repaid_at t message x

-- the effect that leads to a phase where nothing is owed
abbrev pub quiets : {S : Type 0} → S → Effect S
quiets phase = record { turn = Some (record { phase = phase; change = code.Drops }); rest = None }

-- the states that the effect of an event at t gives from the state x: by its row, and at rest
abbrev pub given_by : {S : Type 0} → Times → ℕ → CodeOwing S → Effect S → Option (CodeOwing S) × Option (CodeOwing S)
given_by p t x effect = (option_map (λ turn. led_by p t turn x) effect.turn, option_map (λ rest. rests_at t rest x) effect.rest)

-- the states to which the row of an event leads from x, by what was done with its message; a received message
-- without a row leads to x itself, and what is neither received nor sent has no row
abbrev pub Leads : {X : Type 0} → Figure X → Times → Action → MachineEvent → Owing X → Owing X → Type 0
Leads f p Received e x y = Hears f p e x y
Leads f p Sent e x y = Follows (f.Sends p x.phase e.kind e) p e x y
Leads f p Failed e x y = ⊥
Leads f p Mark e x y = ⊥
Leads f p Restart e x y = ⊥

-- the states to which the row of an event leads from a state of the code, where it has lasted until the event
abbrev pub LeadsFrom : {X S : Type 0} → Figure X → Times → (Texts → S → X) → Texts → MachineEvent → CodeOwing S → Owing X → Type 0
LeadsFrom f p seen texts e x y =
    IsWithin e.moment (until_of f p (owing_seen seen texts x)) × Leads f p e.action e (owing_seen seen texts (unexpired_at e.moment x)) y

-- the states to which a sent message leads that leaves the phase as it is, from a state of the code, where it has lasted until then
abbrev pub RestsFrom : {X S : Type 0} → Figure X → Times → (Texts → S → X) → Texts → MachineEvent → CodeOwing S → Owing X → Type 0
RestsFrom f p seen texts e x y =
    IsWithin e.moment (until_of f p (owing_seen seen texts x)) × Rests f e (owing_seen seen texts (unexpired_at e.moment x)) y
