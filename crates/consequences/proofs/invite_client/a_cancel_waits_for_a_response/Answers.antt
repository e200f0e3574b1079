use Rattle.std.proofs.Common.{◌++◌, ◌∷◌, ◌≤◌, ◌*◌, ◌⊎◌, true, List, All}
use Rattle.std.specs.List.{Any}
use Rattle.sip_standard.specs.declared.role.Role.TheVariants.{Client}
use Rattle.sip_standard.specs.declared.rules.Rules.{Rules}
use Rattle.sip_standard.specs.declared.rules.Rules.TheVariants.{R3261, R6026}
use Rattle.sip_standard.specs.declared.kind.Method.TheVariants.{Invite, Cancel}
use Rattle.sip_standard.specs.Window.{open_at}
use Rattle.sip_standard.specs.MachineEvent.{MachineEvent}
use Rattle.sip_standard.specs.Times.{Times}
use Rattle.sip_standard.specs.InviteClient as corrected
use Rattle.sip_standard.specs.InviteClient3261 as without
use Rattle.sip_standard.specs.Stands.{StandsAfter}
use Rattle.consequences.specs.Events.{SendsRequest, GetsResponse, IsAnyCode, IsRefused, IsRestart}
use Rattle.consequences.specs.Machines.{figure_of, StateOf}
use Rattle.consequences.proofs.lemmas.client.InviteClients.{receives_6026, receives_3261}
use Rattle.consequences.proofs.lemmas.client.Unanswered.{cancel-waits}
use Rattle.consequences.proofs.invite_client.a_cancel_waits_for_a_response.Goals as goal

-- by each of the rules, a client cancels only after a response, a refusal, a restart, or timer B
by : (p : Times) (rules : Rules) (before after : List MachineEvent) (invite e : MachineEvent) (y : StateOf rules Client true) →
    All (λ f. ¬ (SendsRequest Invite f)) before → SendsRequest Invite invite → SendsRequest Cancel e → StandsAfter (figure_of rules Client true) p (before ++ invite ∷ after) e y →
    Any (GetsResponse IsAnyCode) after ⊎ Any (λ f. IsRefused f ⊎ IsRestart f) after ⊎ (open_at p invite.moment (64 * p.t1) ≤ e.moment)
by p R6026 before after invite e y none sent cancels stands = cancel-waits corrected.Receives receives_6026 p invite before after e y none sent cancels stands
by p R3261 before after invite e y none sent cancels stands = cancel-waits without.Receives receives_3261 p invite before after e y none sent cancels stands

-- the law is what was shown above of each of the rules
pub returns : goal.returns
returns c = by
