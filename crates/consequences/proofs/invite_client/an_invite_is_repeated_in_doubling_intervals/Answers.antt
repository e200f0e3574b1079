use Rattle.std.proofs.Common.{◌*◌, ℕ, true, List}
use Rattle.sip_standard.specs.declared.role.Role.TheVariants.{Client}
use Rattle.sip_standard.specs.declared.rules.Rules.{Rules}
use Rattle.sip_standard.specs.declared.rules.Rules.TheVariants.{R3261, R6026}
use Rattle.sip_standard.specs.MachineEvent.{MachineEvent}
use Rattle.sip_standard.specs.Times.{Times}
use Rattle.sip_standard.specs.InviteClient as corrected
use Rattle.sip_standard.specs.InviteClient3261 as without
use Rattle.sip_standard.specs.Stands.{Stands}
use Rattle.consequences.specs.Machines.{figure_of, StateOf}
use Rattle.consequences.specs.Repeats.{IsSpaced, invites_of}
use Rattle.consequences.proofs.lemmas.client.InviteClients.{receives_6026, receives_3261}
use Rattle.consequences.proofs.lemmas.client.Repeating.{invites-are-spaced}
use Rattle.consequences.proofs.invite_client.an_invite_is_repeated_in_doubling_intervals.Goals as goal

-- by each of the rules, the INVITEs of a run come in intervals that double
by : (p : Times) (rules : Rules) (events : List MachineEvent) (m : ℕ) (y : StateOf rules Client true) → Stands (figure_of rules Client true) p events m y →
    IsSpaced p (λ interval. 2 * interval) (invites_of events)
by p R6026 events m y stands = invites-are-spaced corrected.Receives receives_6026 p events m y stands
by p R3261 events m y stands = invites-are-spaced without.Receives receives_3261 p events m y stands

-- the law is what was shown above of each of the rules
pub returns : goal.returns
returns c = by
