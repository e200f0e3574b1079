use Rattle.std.proofs.Common.{◌≡◌, ◌++◌, ◌∷◌, true, List}
use Rattle.sip_standard.specs.declared.role.Role.TheVariants.{Client}
use Rattle.sip_standard.specs.declared.action.Action.TheVariants.{Sent}
use Rattle.sip_standard.specs.declared.rules.Rules.{Rules}
use Rattle.sip_standard.specs.declared.rules.Rules.TheVariants.{R3261, R6026}
use Rattle.sip_standard.specs.declared.kind.Kind.TheVariants.{Request}
use Rattle.sip_standard.specs.declared.kind.Method.TheVariants.{Invite, Cancel}
use Rattle.sip_standard.specs.MachineEvent.{MachineEvent}
use Rattle.sip_standard.specs.Times.{Times}
use Rattle.sip_standard.specs.InviteClient as corrected
use Rattle.sip_standard.specs.InviteClient3261 as without
use Rattle.sip_standard.specs.PlainClient.{plain_client}
use Rattle.sip_standard.specs.Stands.{StandsAfter}
use Rattle.consequences.specs.Events.{SendsRequest, IsRestart}
use Rattle.consequences.specs.Machines.{figure_of, StateOf}
use Rattle.consequences.proofs.lemmas.client.InviteClients.{client, receives_6026, receives_3261}
use Rattle.consequences.proofs.lemmas.client.Once.{IsInvited, IsAsked, IsAnyRequest, invites-once, asks-once, restart-silences}
use Rattle.consequences.proofs.restarts.after_a_restart_a_client_sends_no_more.Goals as goal

-- by each of the rules, a client that sent its INVITE sends nothing but a CANCEL after a restart
invited : (p : Times) (rules : Rules) (before between after : List MachineEvent) (invite restart e : MachineEvent) (y : StateOf rules Client true) →
    SendsRequest Invite invite → IsRestart restart → e.action ≡ Sent →
    StandsAfter (figure_of rules Client true) p (before ++ invite ∷ (between ++ restart ∷ after)) e y → e.kind ≡ Request Cancel
-- by RFC 6026, and then by RFC 3261 alone: each INVITE client sends its request once
invited p R6026 before between after invite restart e y sends restarts sent stands =
    restart-silences (client corrected.Receives) p IsInvited (λ k. k ≡ Request Invite) (λ k. k ≡ Request Cancel) (invites-once corrected.Receives receives_6026 p)
    before between after invite restart e y sends.0 sends.1 restarts sent stands
invited p R3261 before between after invite restart e y sends restarts sent stands =
    restart-silences (client without.Receives) p IsInvited (λ k. k ≡ Request Invite) (λ k. k ≡ Request Cancel) (invites-once without.Receives receives_3261 p)
    before between after invite restart e y sends.0 sends.1 restarts sent stands

-- an INVITE client sends only a CANCEL after the restart, as was shown above
pub returns-clause-invite : goal.returns-clause-invite
returns-clause-invite c = invited

-- a client of another method sends nothing after the restart
pub returns-clause-plain : goal.returns-clause-plain
returns-clause-plain c = λ p rules before between after request restart e y sends restarts sent stands.
    restart-silences plain_client p IsAsked IsAnyRequest (λ k. ⊥) (asks-once p) before between after request restart e y sends.1.0 (sends.0, sends.1.1) restarts sent stands
