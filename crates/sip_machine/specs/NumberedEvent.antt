-- Events of the code, whose messages are numbers of a book.
use Rattle.std.specs.Prelude.{ℕ, Bool, ◌≢◌, ◌≤◌}
use Rattle.sip_standard.specs.declared.action.Action.{Action}
use Rattle.sip_standard.specs.declared.kind.Kind.{Kind}
use Rattle.sip_standard.specs.declared.action.Action.TheVariants.{Restart}
use Rattle.sip_standard.specs.Times.{last_moment}
use Rattle.sip_machine.specs.Texts.{Texts, Keeps, text_of}
use Rattle.sip_standard.specs.MachineEvent.{MachineEvent}

-- an event of the code, whose message is the number of one in a book
pub record NumberedEvent : Type 0 where
  pub moment : ℕ
  pub action : Action
  pub number : ℕ
  pub kind : Kind
  pub reliable : Bool

-- the event that an event of the code stands for beside a book
abbrev pub event_in : Texts → NumberedEvent → MachineEvent
event_in texts e =
    record { moment = e.moment; action = e.action; text = text_of texts e.number; kind = e.kind; reliable = e.reliable }

-- the event fits the book: the book keeps its message, unless it is a restart, which has none; and its moment is within the limits
pub record FitsBook (texts : Texts) (e : NumberedEvent) : Type 0 where
  pub keeps : e.action ≢ Restart → Keeps texts e.number
  pub limit : e.moment ≤ last_moment
