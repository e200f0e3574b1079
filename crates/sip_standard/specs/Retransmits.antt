use Rattle.std.specs.Prelude.{◌≡◌, ◌≤◌, ℕ, Bool, false, List}
use Rattle.sip_standard.specs.Times.{Times}
use Rattle.sip_standard.specs.Window.{open_at}
use Rattle.sip_standard.specs.MachineEvent.{MachineEvent}

-- e is the message again, byte for byte, as its timer fires, which was set at this moment for this interval and runs over an unreliable
-- transport alone: timer A of an INVITE, E of any other request, G of a final response (RFC 3261 sections 17.1.1.2, 17.1.2.2 and 17.2.1)
pub record Retransmits (p : Times) (reliable : Bool) (message : List ℕ) (set : ℕ) (interval : ℕ) (e : MachineEvent) : Type 0 where
  pub same : e.text ≡ message
  pub unreliable : reliable ≡ false
  pub fires : open_at p set interval ≤ e.moment
