-- What the code is asked of an event, and what its rows answer: turns, for any figure, whose messages are numbers of a book.
use Rattle.std.specs.Prelude.{ℕ, ◌≤◌, List, [], ◌∷◌, ◌++◌, map}
use Rattle.sip_ledger.specs.declared.debt.Debt.{Debt}
use Rattle.sip_ledger.specs.Debts.{softened_debt}
use Rattle.sip_machine.specs.declared.phases.Change.{Change as CodeChange}
use Rattle.sip_machine.specs.declared.phases.Change.TheVariants as code
use Rattle.sip_machine.specs.declared.phases.Turn.{Turn}
use Rattle.sip_standard.specs.Times.{Times, last_moment}
use Rattle.sip_standard.specs.Window.{close_at}
use Rattle.sip_standard.specs.Debts.{Owed}
use Rattle.sip_standard.specs.Figure.{Change, keeps, softens, drops, gains, Owing, changed}
use Rattle.sip_machine.specs.Texts.{Texts, Keeps, text_of}
use Rattle.sip_machine.specs.NumberedEvent.{NumberedEvent}
use Rattle.sip_machine.specs.Owes.{owed_in}
use Rattle.sip_machine.specs.Owing.{CodeOwing}
use Rattle.sip_machine.specs.FigureRules.{After}

-- the book keeps the message of the event, and its moment is within the limits
pub record KeepsMessage (texts : Texts) (e : NumberedEvent) : Type 0 where
  pub keeps : Keeps texts e.number
  pub limit : e.moment ≤ last_moment

-- the change of the debts that a change of the code stands for beside a book
abbrev pub change_seen : Texts → CodeChange → Change
change_seen texts code.Keeps = keeps
change_seen texts code.Softens = softens
change_seen texts code.Drops = drops
change_seen texts (code.Gains must message) = gains must (text_of texts message)

-- the number of the message that a change of the code names, if it names one
abbrev pub change_names : CodeChange → List ℕ
change_names code.Keeps = []
change_names code.Softens = []
change_names code.Drops = []
change_names (code.Gains must message) = message ∷ []

-- where a turn of the code leads, beside a book
abbrev pub turn_seen : {S X : Type 0} → (Texts → S → X) → Texts → Turn S → After X
turn_seen seen texts turn = (seen texts turn.phase, change_seen texts turn.change)

-- the messages that a turn names: those of its phase, and the one that it gains
abbrev pub turn_names : {S : Type 0} → (S → List ℕ) → Turn S → List ℕ
turn_names names turn = names turn.phase ++ change_names turn.change

-- the moments of a turn's phase are within the limits
abbrev pub TurnInRange : {S : Type 0} → (S → Type 0) → Turn S → Type 0
TurnInRange InRange turn = InRange turn.phase

-- the state to which a row leads at t, from a phase that owed this
abbrev pub led_to : {X : Type 0} → Times → ℕ → List Owed → After X → Owing X
led_to p t owes after = record { phase = after.0; owes = changed p t after.1 owes }

-- the state of a phase that owes what this row has
abbrev pub state_in : {S : Type 0} → S → List (List Debt) → ℕ → CodeOwing S
state_in phase rows row = record { phase = phase; owes = owed_in rows row }

-- the debts of the code after a change by a row at t
abbrev pub changed_debts : Times → ℕ → CodeChange → List Debt → List Debt
changed_debts p t code.Keeps owes = owes
changed_debts p t code.Softens owes = map softened_debt owes
changed_debts p t code.Drops owes = []
changed_debts p t (code.Gains must message) owes = owes ++ record { message = message; deadline = close_at p t 0; must = must } ∷ []
