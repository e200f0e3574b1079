-- What is observed of the entries of a log: which messages have a fault, and which transactions the others concern.
use Rattle.std.specs.Prelude.{◌≡◌, ℕ, true, false, Option, None, Some, List, []}
use Rattle.sip_standard.specs.declared.fault.Fault.{Fault}
use Rattle.sip_standard.specs.declared.fault.Unit.TheVariants.{Head}
use Rattle.sip_standard.specs.declared.fault.Reason.TheVariants.{NoCookie}
use Rattle.sip_standard.specs.Transport.{is_reliable}
use Rattle.sip_standard.specs.Outcome.{gives, stops}
use Rattle.sip_standard.specs.Says.{Said, Says}
use Rattle.sip_standard.specs.declared.role.Direction.{Direction}
use Rattle.sip_standard.specs.declared.role.Direction.TheVariants as way
use Rattle.sip_standard.specs.Key.{KeyParts}
use Rattle.sip_standard.specs.Concerns.{Concerns, lacks_cookie}
use Rattle.sip_standard.specs.declared.action.Action.{Action}
use Rattle.sip_standard.specs.declared.action.Action.TheVariants.{Sent, Received, Failed, Mark, Restart}
use Rattle.sip_standard.specs.declared.kind.Kind.TheVariants.{Request}
use Rattle.sip_standard.specs.declared.kind.Method.TheVariants.{Other}
use Rattle.sip_standard.specs.Kind.{kind_of}
use Rattle.sip_standard.specs.MachineEvent.{MachineEvent}
use Rattle.sip_standard.specs.LogEntry.{Item}

-- what the verdict sees of an entry: the fault of its message, if it has one, its event, and the keys of the transactions that it concerns
pub record Observation (K : Type 0) : Type 0 where
  pub fault : Option Fault
  pub event : MachineEvent
  pub keys : List K

-- which way the message of an entry went: one whose send was refused was on its way out; a mark has none, nor has a restart
abbrev pub direction_of : Action → Option Direction
direction_of Sent = Some way.Sent
direction_of Received = Some way.Received
direction_of Failed = Some way.Sent
direction_of Mark = None
direction_of Restart = None

-- what is observed of an entry without a message: a mark concerns no key, a restart each of these; kind and transport of its event stand for nothing
abbrev pub silent_observation : Action → ℕ → List KeyParts → Observation KeyParts
silent_observation Restart moment keys = record { fault = None; event = record { moment = moment; action = Restart; text = []; kind = Request Other; reliable = false }; keys = keys }
silent_observation action moment keys = record { fault = None; event = record { moment = moment; action = Mark; text = []; kind = Request Other; reliable = false }; keys = [] }

-- an entry whose message has a fault concerns no key; the kind and the transport of its event stand for nothing
abbrev pub fault_observation : Item → Fault → Observation KeyParts
fault_observation item fault =
    record { fault = Some fault; event = record { moment = item.moment; action = item.action; text = item.text; kind = Request Other; reliable = false }; keys = [] }

-- an entry with its message as a machine hears it: a method or a code, sections 7.1 and 7.2, over the transport of the top Via
abbrev pub message_event : Item → Said → MachineEvent
message_event item s = record { moment = item.moment; action = item.action; text = item.text; kind = kind_of s.start; reliable = is_reliable s.via.transport }

-- the fault of a request that is sent without the cookie, section 8.1.1.7
abbrev pub no_cookie : Fault
no_cookie = record { unit = Head; reason = NoCookie }

-- what is observed of an entry whose message went this way
pub data ObservesMessage (direction : Direction) (item : Item) (e : Observation KeyParts) : Type 0 where
  -- of a message with a fault: the first fault of its bytes, sections 7 and 25
  has_fault : (fault : Fault) → Says item.text (stops fault) → e ≡ fault_observation item fault → ObservesMessage direction item e
  -- of a message without a fault that is sent and lacks the cookie: that fault
  has_no_cookie : (s : Said) → Says item.text (gives s) → lacks_cookie s direction ≡ true → e ≡ fault_observation item no_cookie → ObservesMessage direction item e
  -- of any other message: its event and its keys, sections 17.1.3, 17.2.3 and 9.1
  is_heard : (s : Said) (keys : List KeyParts) → Says item.text (gives s) → lacks_cookie s direction ≡ false → Concerns s direction keys
      → e ≡ record { fault = None; event = message_event item s; keys = keys } → ObservesMessage direction item e
