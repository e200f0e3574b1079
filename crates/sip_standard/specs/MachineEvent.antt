use Rattle.std.specs.Prelude.{ℕ, Bool, List}
use Rattle.sip_standard.specs.declared.action.Action.{Action}
use Rattle.sip_standard.specs.declared.kind.Kind.{Kind}

-- an event: its moment, what was done with its message, the message's bytes and its kind, and whether its transport is reliable
pub record MachineEvent : Type 0 where
  pub moment : ℕ
  pub action : Action
  pub text : List ℕ
  pub kind : Kind
  pub reliable : Bool
