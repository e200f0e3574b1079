use Rattle.std.proofs.Common.{◌≡◌, ◌++◌, ◌∷◌, Bool, true, false, List, All, subst}
use Rattle.std.proofs.lemmas.List.Elements.{All-weaker}
use Rattle.sip_standard.specs.declared.role.Role.TheVariants.{Server}
use Rattle.sip_standard.specs.declared.action.Action.TheVariants.{Sent, Received}
use Rattle.sip_standard.specs.declared.rules.Rules.{Rules}
use Rattle.sip_standard.specs.declared.rules.Rules.TheVariants.{R3261, R6026}
use Rattle.sip_standard.specs.declared.kind.Kind.{Kind}
use Rattle.sip_standard.specs.declared.kind.Kind.TheVariants.{Request}
use Rattle.sip_standard.specs.declared.kind.Method.{Method}
use Rattle.sip_standard.specs.declared.kind.Method.TheVariants.{Invite}
use Rattle.sip_standard.specs.Figure.{Figure, Owing, quiet, Takes}
use Rattle.sip_standard.specs.MachineEvent.{MachineEvent}
use Rattle.sip_standard.specs.Times.{Times}
use Rattle.sip_standard.specs.InviteServer.{invite_server}
use Rattle.sip_standard.specs.InviteServer3261.{invite_server_3261}
use Rattle.sip_standard.specs.PlainServer.{plain_server}
use Rattle.sip_standard.specs.Stands.{StandsAfter}
use Rattle.consequences.specs.Events.{GetsAnyRequest, IsRestart}
use Rattle.consequences.specs.Machines.{figure_of, StateOf}
use Rattle.consequences.proofs.lemmas.server.Asleep.{IsAsleep, IsInvite, IsAnyRequest, corrected-asleep, without-asleep, plain-asleep, asleep-emits, sleeps-on, restart-sleeps}
use Rattle.consequences.proofs.lemmas.run.Running.{step-of, stands-run, cut}
use Rattle.consequences.proofs.restarts.after_a_restart_a_server_sends_when_it_is_asked.Goals as goal

-- What follows is of a server with the figure f and the times p that sleeps until a message comes of a kind of which Wakes holds: a request.
module _ {X : Type 0} (f : Figure X) (p : Times) (Wakes : Kind → Type 0) (asleep : IsAsleep f p Wakes) (is_request : (k : Kind) → Wakes k → (method : Method) × (k ≡ Request method)) where
  -- after a restart the server sends nothing until a request comes
  silent : (before after : List MachineEvent) (restart e : MachineEvent) (y : Owing X) → IsRestart restart → All (λ g. ¬ (GetsAnyRequest g)) after → e.action ≡ Sent →
      ¬ (StandsAfter f p (before ++ restart ∷ after) e y)
  silent before after restart e y restarts none sent (x, stands, take) =
      -- the run is cut at the restart: one step takes it, and others go on from there
      let found = cut f p (quiet f.idle) 0 before restart after e.moment x (stands-run f p (before ++ restart ∷ after) e.moment x stands) in
      -- no event g after it wakes the server, since none is a request
      let asked : (g : MachineEvent) → ¬ (GetsAnyRequest g) → ¬ ((g.action ≡ Received) × Wakes g.kind) =
      λ g never wakes. let request = is_request g.kind wakes.1 in never (request.0, (wakes.0, request.1)) in
      -- the server sleeps after the restart, and goes on sleeping until e
      let slept = sleeps-on f p Wakes asleep after found.to restart.moment e.moment x (restart-sleeps f p Wakes asleep restart found.from found.to restarts found.step)
      (All-weaker (λ g. ¬ (GetsAnyRequest g)) (λ g. ¬ ((g.action ≡ Received) × Wakes g.kind)) asked after none) found.goes in
      -- what sleeps sends nothing
      asleep-emits f p Wakes asleep e y (step-of f p Sent e (quiet f.idle) y sent (subst (λ z. Takes f p z e y) slept take))

-- each of the servers, by each of the rules, sends nothing after a restart until a request comes
by : (p : Times) (rules : Rules) (invite : Bool) (before after : List MachineEvent) (restart e : MachineEvent) (y : StateOf rules Server invite) →
    IsRestart restart → All (λ f. ¬ (GetsAnyRequest f)) after → e.action ≡ Sent → ¬ (StandsAfter (figure_of rules Server invite) p (before ++ restart ∷ after) e y)
by p R6026 true before after restart e y restarts none sent stands = silent invite_server p IsInvite (corrected-asleep p) (λ k is. (Invite, is)) before after restart e y restarts none sent stands
by p R3261 true before after restart e y restarts none sent stands = silent invite_server_3261 p IsInvite (without-asleep p) (λ k is. (Invite, is)) before after restart e y restarts none sent stands
by p rules false before after restart e y restarts none sent stands = silent plain_server p IsAnyRequest (plain-asleep p) (λ k is. is) before after restart e y restarts none sent stands

-- the law is what was shown above of each of the rules
pub returns : goal.returns
returns c = by
