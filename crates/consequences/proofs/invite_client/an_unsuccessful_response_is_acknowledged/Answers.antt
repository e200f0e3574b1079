use Rattle.std.proofs.Common.{◌≡◌, ◌≤◌, ◌<◌, ◌*◌, ◌⊎◌, inl, inr, ◌++◌, ◌∷◌, ◌∙◌, ℕ, true, false, List, All, sym, arith}
use Rattle.std.specs.List.{Any}
use Rattle.std.proofs.lemmas.List.Elements.{All-weaker}
use Rattle.sip_standard.specs.declared.role.Role.TheVariants.{Client}
use Rattle.sip_standard.specs.declared.rules.Rules.{Rules}
use Rattle.sip_standard.specs.declared.rules.Rules.TheVariants.{R3261, R6026}
use Rattle.sip_standard.specs.declared.kind.Method.TheVariants.{Invite}
use Rattle.sip_standard.specs.Window.{open_at, close_at}
use Rattle.sip_standard.specs.MachineEvent.{MachineEvent}
use Rattle.sip_standard.specs.Kind.{IsFinal, IsSuccess, IsUnsuccessful}
use Rattle.sip_standard.specs.Times.{Times}
use Rattle.sip_standard.specs.InviteClient as corrected
use Rattle.sip_standard.specs.InviteClient3261 as without
use Rattle.sip_standard.specs.KeyMachine.{OfInvite}
use Rattle.sip_standard.specs.Stands.{Stands}
use Rattle.consequences.specs.Acknowledged.{Acknowledges, GivesUp, Completes, IsAwaited, IsBeforeTimerD}
use Rattle.consequences.specs.Events.{SendsRequest, GetsResponse, IsRefused, IsRestart}
use Rattle.consequences.specs.Machines.{figure_of, StateOf}
use Rattle.consequences.proofs.lemmas.client.Acknowledging.{IsBroken, IsGivenUp, IsCompleteBy, IsEarly, Over, acknowledged}
use Rattle.consequences.proofs.lemmas.client.InviteClients.{receives_6026, receives_3261}
use Rattle.sip_states.proofs.runs.StandsLemmas.{what_stands_lasts}
use Rattle.consequences.proofs.lemmas.run.Lists.{any-none}
use Rattle.consequences.proofs.invite_client.an_unsuccessful_response_is_acknowledged.Goals as goal

-- What follows is of a run by the times p: `invite` is sent after the events `before`, and after those of `between` comes `response`, a 300 to 699 that is awaited.
-- The events of `after` come last, and the moment m is after the ACK of the response was due.
module _ (p : Times) (before between after : List MachineEvent) (invite response : MachineEvent) (m : ℕ) (none : All (λ f. ¬ (SendsRequest Invite f)) before) (sent : SendsRequest Invite invite)
    (gets : GetsResponse IsUnsuccessful response) (awaited : IsAwaited p invite between response.moment) (late : close_at p response.moment 0 < m) where
  -- no CANCEL gave up before the response: timer B may not fire yet, or it is said so
  not-given-up : IsAwaited p invite between response.moment → ¬ (Any (IsGivenUp p invite response.moment) between)
  not-given-up (inl early) given = let (k, g, inside, at, (cancel, from, over)) = given in absurd (omega (arith, from, over, early))
  not-given-up (inr held) given = let (k, g, inside, at, (cancel, from, over)) = given in any-none (GivesUp p response.moment) between held.1 (k, g, inside, at, (cancel, over))

  -- timer B has not fired before the response: it may not yet, or a provisional response came before it might
  not-timed-out : IsAwaited p invite between response.moment → ¬ ((open_at p invite.moment (64 * p.t1) ≤ response.moment) × All (λ g. ¬ (IsEarly p invite g)) between)
  not-timed-out (inl early) over = let late = over.0 in absurd (omega (arith, late, early))
  not-timed-out (inr held) over = any-none (IsEarly p invite) between over.1 held.0

  -- by each of the rules, a response between which and the INVITE nothing broke the transaction is acknowledged
  by : (rules : Rules) (y : StateOf rules Client true) → All (λ g. ¬ (IsBroken g)) between → ¬ (Any (IsCompleteBy p invite response.moment) between)
      → Stands (figure_of rules Client true) p (before ++ invite ∷ (between ++ response ∷ after)) m y → Any (Acknowledges p invite response) after ⊎ Any (λ f. IsRefused f ⊎ IsRestart f) after
  by rules y unbroken not_complete stands = by_rules rules y stands
    where
      -- nothing ended the transaction before the response: no event broke it, no CANCEL gave up, and neither timer B nor timer D fired
      waiting : ¬ (Over p invite between response.moment)
      waiting (inl (k, g, inside, at, inl broken)) = any-none IsBroken between unbroken (k, g, inside, at, broken)
      waiting (inl (k, g, inside, at, inr (inl given))) = not-given-up awaited (k, g, inside, at, given)
      waiting (inl (k, g, inside, at, inr (inr complete))) = not_complete (k, g, inside, at, complete)
      waiting (inr over) = not-timed-out awaited over

      -- the two rules, by one of which the element was built
      by_rules : (rules : Rules) (y : StateOf rules Client true) → Stands (figure_of rules Client true) p (before ++ invite ∷ (between ++ response ∷ after)) m y
          → Any (Acknowledges p invite response) after ⊎ Any (λ f. IsRefused f ⊎ IsRestart f) after
      by_rules R6026 y stands = acknowledged corrected.Receives receives_6026 p invite response (what_stands_lasts (OfInvite R6026 Client) p) before between after m y none sent waiting gets stands late
      by_rules R3261 y stands = acknowledged without.Receives receives_3261 p invite response (what_stands_lasts (OfInvite R3261 Client) p) before between after m y none sent waiting gets stands late

  -- the first final response is acknowledged
  first : (rules : Rules) (y : StateOf rules Client true) → All (λ f. ¬ (GetsResponse IsFinal f) × ¬ (IsRefused f) × ¬ (IsRestart f)) between
      → Stands (figure_of rules Client true) p (before ++ invite ∷ (between ++ response ∷ after)) m y → Any (Acknowledges p invite response) after ⊎ Any (λ f. IsRefused f ⊎ IsRestart f) after
  first rules y quiet stands =
      by rules y (All-weaker (λ f. ¬ (GetsResponse IsFinal f) × ¬ (IsRefused f) × ¬ (IsRestart f)) (λ g. ¬ (IsBroken g)) unbroken between quiet) not_complete stands
    where
      -- an event that is no final response, no refusal and no restart breaks nothing
      unbroken : (g : MachineEvent) → ¬ (GetsResponse IsFinal g) × ¬ (IsRefused g) × ¬ (IsRestart g) → ¬ (IsBroken g)
      unbroken g calm (inl success) = calm.0 (success.0, (success.1.0, success.1.1, (success.1.2.0, omega (arith, success.1.2.1))))
      unbroken g calm (inr (inl refused)) = calm.1 refused
      unbroken g calm (inr (inr restarted)) = calm.2 restarted

      -- no earlier 300 to 699 came
      not_complete : ¬ (Any (IsCompleteBy p invite response.moment) between)
      not_complete (k, g, inside, at, (bad, from, ending)) =
          any-none (GetsResponse IsFinal) between (All-weaker (λ f. ¬ (GetsResponse IsFinal f) × ¬ (IsRefused f) × ¬ (IsRestart f)) (λ f. ¬ (GetsResponse IsFinal f)) (λ f calm. calm.0) between quiet)
          (k, g, inside, at, (bad.0, (bad.1.0, bad.1.1, (omega (arith, bad.1.2.0), bad.1.2.1))))

  -- over UDP a response of 300 to 699 that comes again is acknowledged, as long as timer D may run
  again : (rules : Rules) (y : StateOf rules Client true) → invite.reliable ≡ false → All (λ f. ¬ (GetsResponse IsSuccess f) × ¬ (IsRefused f) × ¬ (IsRestart f)) between
      → IsBeforeTimerD p invite between response.moment
      → Stands (figure_of rules Client true) p (before ++ invite ∷ (between ++ response ∷ after)) m y → Any (Acknowledges p invite response) after ⊎ Any (λ f. IsRefused f ⊎ IsRestart f) after
  again rules y unreliable quiet in_time stands =
      by rules y (All-weaker (λ f. ¬ (GetsResponse IsSuccess f) × ¬ (IsRefused f) × ¬ (IsRestart f)) (λ g. ¬ (IsBroken g)) unbroken between quiet) (not_complete in_time) stands
    where
      -- an event that is no 2xx, no refusal and no restart breaks nothing
      unbroken : (g : MachineEvent) → ¬ (GetsResponse IsSuccess g) × ¬ (IsRefused g) × ¬ (IsRestart g) → ¬ (IsBroken g)
      unbroken g calm (inl success) = calm.0 success
      unbroken g calm (inr (inl refused)) = calm.1 refused
      unbroken g calm (inr (inr restarted)) = calm.2 restarted

      false-true : ¬ (false ≡ true)
      false-true same = cc

      -- timer D has not ended the transaction after an earlier 300 to 699
      not_complete : IsBeforeTimerD p invite between response.moment → ¬ (Any (IsCompleteBy p invite response.moment) between)
      not_complete before_d (k, g, inside, at, (bad, from, inl reliable)) = false-true (sym unreliable ∙ reliable)
      not_complete (inl low) (k, g, inside, at, (bad, from, inr over)) = absurd (omega (arith, from, over, low))
      not_complete (inr alive) (k, g, inside, at, (bad, from, inr over)) = any-none (Completes p response.moment) between alive (k, g, inside, at, (bad, over))

-- the law is what was shown above of the first final response
pub returns-clause-first : goal.returns-clause-first
returns-clause-first c = λ p rules before between after invite response m y none sent quiet gets awaited stands late.
    first p before between after invite response m none sent gets awaited late rules y quiet stands

-- the law is what was shown above of a response that comes again
pub returns-clause-again : goal.returns-clause-again
returns-clause-again c = λ p rules before between after invite response m y none sent unreliable quiet gets awaited in_time stands late.
    again p before between after invite response m none sent gets awaited late rules y unreliable quiet in_time stands
