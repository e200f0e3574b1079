use Rattle.std.proofs.Common.{◌≤◌, ◌<◌, ◌⊎◌, ◌++◌, ◌∷◌, ℕ, true, List, All}
use Rattle.std.specs.List.{Any}
use Rattle.sip_standard.specs.declared.role.Role.TheVariants.{Server}
use Rattle.sip_standard.specs.declared.rules.Rules.{Rules}
use Rattle.sip_standard.specs.declared.rules.Rules.TheVariants.{R3261, R6026}
use Rattle.sip_standard.specs.declared.kind.Method.TheVariants.{Invite}
use Rattle.sip_standard.specs.Window.{close_at}
use Rattle.sip_standard.specs.MachineEvent.{MachineEvent}
use Rattle.sip_standard.specs.Times.{Times}
use Rattle.sip_standard.specs.InviteServer.{invite_server}
use Rattle.sip_standard.specs.InviteServer3261.{invite_server_3261}
use Rattle.sip_standard.specs.Stands.{Stands}
use Rattle.consequences.specs.Events.{GetsRequest, SendsResponse, IsAnyCode, IsRestart}
use Rattle.consequences.specs.Machines.{figure_of, StateOf}
use Rattle.consequences.proofs.lemmas.server.Asleep.{corrected-asleep, without-asleep}
use Rattle.consequences.proofs.lemmas.server.FirstResponse.{answered-in-time}
use Rattle.consequences.proofs.lemmas.server.InviteServers.{is-server-6026, is-server-3261, first_in}
use Rattle.consequences.proofs.invite_server.an_invite_is_answered_within_200_ms.Goals as goal

-- by each of the rules, a server has sent a response within 200 ms of the INVITE, or was started anew
by : (p : Times) (rules : Rules) (before after : List MachineEvent) (invite : MachineEvent) (m : ℕ) (y : StateOf rules Server true) →
    All (λ f. ¬ (GetsRequest Invite f)) before → GetsRequest Invite invite → Stands (figure_of rules Server true) p (before ++ invite ∷ after) m y → close_at p invite.moment 200 < m →
    Any (λ f. SendsResponse IsAnyCode f × (f.moment ≤ close_at p invite.moment 200)) after ⊎ Any (λ f. IsRestart f × (f.moment ≤ close_at p invite.moment 200)) after
by p R6026 before after invite m y none gets stands late =
    answered-in-time invite_server p (λ x. x) (is-server-6026 p) invite (corrected-asleep p) before after m y none gets stands late
by p R3261 before after invite m y none gets stands late =
    answered-in-time invite_server_3261 p first_in (is-server-3261 p) invite (without-asleep p) before after m y none gets stands late

-- the law is what was shown above of each of the rules
pub returns : goal.returns
returns c = by
