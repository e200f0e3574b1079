use Rattle.std.proofs.Common.{◌≡◌, ◌<◌, ◌++◌, ◌∷◌, ◌*◌, ℕ, true, List, All}
use Rattle.sip_standard.specs.declared.role.Role.TheVariants.{Client}
use Rattle.sip_standard.specs.declared.action.Action.TheVariants.{Sent}
use Rattle.sip_standard.specs.declared.rules.Rules.{Rules}
use Rattle.sip_standard.specs.declared.rules.Rules.TheVariants.{R3261, R6026}
use Rattle.sip_standard.specs.declared.kind.Kind.TheVariants.{Request}
use Rattle.sip_standard.specs.declared.kind.Method.TheVariants.{Invite, Cancel}
use Rattle.sip_standard.specs.Figure.{quiet}
use Rattle.sip_standard.specs.Window.{close_at}
use Rattle.sip_standard.specs.MachineEvent.{MachineEvent}
use Rattle.sip_standard.specs.Times.{Times}
use Rattle.sip_standard.specs.InviteClient as corrected
use Rattle.sip_standard.specs.InviteClient3261 as without
use Rattle.sip_standard.specs.KeyMachine.{OfInvite}
use Rattle.sip_standard.specs.Stands.{Stands, StandsAfter}
use Rattle.consequences.specs.Events.{SendsRequest, GetsResponse, IsAnyCode}
use Rattle.consequences.specs.Machines.{figure_of, StateOf}
use Rattle.consequences.proofs.lemmas.client.InviteClients.{receives_6026, receives_3261}
use Rattle.sip_states.proofs.runs.StandsLemmas.{what_stands_lasts}
use Rattle.consequences.proofs.lemmas.client.Unanswered.{over-by-timer-b, silent-after-timer-b}
use Rattle.consequences.proofs.invite_client.an_unanswered_invite_ends_by_timer_b.Goals as goal

-- by each of the rules, a client without a response has ended once timer B has fired
over : (p : Times) (rules : Rules) (before after : List MachineEvent) (invite : MachineEvent) (m : ℕ) (y : StateOf rules Client true) →
    SendsRequest Invite invite → All (λ f. ¬ (GetsResponse IsAnyCode f)) after → Stands (figure_of rules Client true) p (before ++ invite ∷ after) m y →
    close_at p invite.moment (64 * p.t1) < m → y ≡ quiet (figure_of rules Client true).ended
over p R6026 before after invite m y sent unanswered stands late =
    over-by-timer-b corrected.Receives receives_6026 p (what_stands_lasts (OfInvite R6026 Client) p) before after invite m y sent unanswered stands late
over p R3261 before after invite m y sent unanswered stands late =
    over-by-timer-b without.Receives receives_3261 p (what_stands_lasts (OfInvite R3261 Client) p) before after invite m y sent unanswered stands late

-- by each of the rules, a client without a response sends nothing but a CANCEL once timer B has fired
silent : (p : Times) (rules : Rules) (before after : List MachineEvent) (invite e : MachineEvent) (y : StateOf rules Client true) →
    SendsRequest Invite invite → All (λ f. ¬ (GetsResponse IsAnyCode f)) after → e.action ≡ Sent → StandsAfter (figure_of rules Client true) p (before ++ invite ∷ after) e y →
    close_at p invite.moment (64 * p.t1) < e.moment → e.kind ≡ Request Cancel
silent p R6026 before after invite e y sent unanswered is_sent stands late =
    silent-after-timer-b corrected.Receives receives_6026 p (what_stands_lasts (OfInvite R6026 Client) p) before after invite e y sent unanswered is_sent stands late
silent p R3261 before after invite e y sent unanswered is_sent stands late =
    silent-after-timer-b without.Receives receives_3261 p (what_stands_lasts (OfInvite R3261 Client) p) before after invite e y sent unanswered is_sent stands late

-- the transaction has ended by timer B, as was shown above
pub returns-clause-over : goal.returns-clause-over
returns-clause-over c = over

-- only a CANCEL is sent after timer B, as was shown above
pub returns-clause-silent : goal.returns-clause-silent
returns-clause-silent c = silent
