use Rattle.std.proofs.Common.{◌≡◌, ◌≤◌, ◌⊎◌, inl, inr, ◌++◌, ◌∷◌, ℕ, Bool, true, Option, List, All, refl, arith}
use Rattle.std.specs.List.{Any}
use Rattle.sip_standard.specs.declared.role.Role.TheVariants.{Server}
use Rattle.sip_standard.specs.declared.action.Action.TheVariants.{Sent}
use Rattle.sip_standard.specs.declared.rules.Rules.{Rules}
use Rattle.sip_standard.specs.declared.rules.Rules.TheVariants.{R3261, R6026}
use Rattle.sip_standard.specs.declared.kind.Kind.TheVariants.{Response}
use Rattle.sip_standard.specs.Figure.{Change}
use Rattle.sip_standard.specs.Window.{close_at}
use Rattle.sip_standard.specs.MachineEvent.{MachineEvent}
use Rattle.sip_standard.specs.Kind.{IsProvisional, IsFinal, IsSuccess, IsUnsuccessful}
use Rattle.sip_standard.specs.Times.{Times}
use Rattle.sip_standard.specs.InviteServer.{InviteServerPhase, Proceeding, invite_server}
use Rattle.sip_standard.specs.InviteServer as corrected
use Rattle.sip_standard.specs.InviteServer3261.{InviteServer3261Phase, invite_server_3261}
use Rattle.sip_standard.specs.InviteServer3261 as without
use Rattle.sip_standard.specs.Stands.{StandsAfter}
use Rattle.consequences.specs.Events.{IsResponse, SendsResponse}
use Rattle.consequences.specs.Machines.{figure_of, StateOf}
use Rattle.consequences.specs.Servers.{BeginNoneAnew}
use Rattle.consequences.proofs.lemmas.server.FinalResponse.{one-code, sent-after-final}
use Rattle.consequences.proofs.lemmas.server.InviteServers.{Row, is-server-6026, is-server-3261, first_in}
use Rattle.consequences.proofs.invite_server.after_an_unsuccessful_response_that_one_alone_is_sent.Goals as goal

-- What follows is of a run by the times p: after the events `before` the server sends `final`, a response of 300 to 699; `after` and e come later.
module _ (p : Times) (before after : List MachineEvent) (final e : MachineEvent) (sends : SendsResponse IsUnsuccessful final) where
  -- a response of 300 to 699 is a final one
  is_final : SendsResponse IsFinal final
  is_final = (sends.0, (sends.1.0, sends.1.1, (omega (arith, sends.1.2.0), sends.1.2.1)))

  -- e is the final response again, or a provisional one that was owed before it
  abbrev IsAllowed : Type 0
  IsAllowed = (e.text ≡ final.text) ⊎ ((e.moment ≤ close_at p final.moment 0) × Any (λ f. SendsResponse IsProvisional f × (f.text ≡ e.text)) before)

  -- of what may follow a final response, this is all that may follow one of 300 to 699
  only : (IsResponse IsSuccess final × IsResponse IsSuccess e) ⊎ (IsResponse IsUnsuccessful final × (e.text ≡ final.text))
      ⊎ ((e.moment ≤ close_at p final.moment 0) × Any (λ f. SendsResponse IsProvisional f × (f.text ≡ e.text)) before) → IsAllowed
  only (inl good) = absurd (one-code final sends.1 good.0)
  only (inr (inl bad)) = inl bad.1
  only (inr (inr old)) = inr old

  -- the row of RFC 3261 for this response is that of RFC 6026, over phases without a 2xx before them
  row-3261 : (x : InviteServerPhase) (y : InviteServer3261Phase × Change) → without.Sends p (first_in x) final.kind final y → (row : Row) × corrected.Sends p x final.kind final row × (y ≡ (first_in row.0, row.1))
  row-3261 x y h = by ((is-server-3261 p).sent x final.kind final y h)
    where
      -- the response has a row, since it is no 2xx, which alone may go without one
      by : ((row : Row) × corrected.Sends p x final.kind final row × (y ≡ (first_in row.0, row.1)))
          ⊎ ((reliable : Bool) × (set : ℕ) × (last : Option (List ℕ)) × (x ≡ Proceeding reliable set last) × ((code : ℕ) × (final.kind ≡ Response code) × IsSuccess code))
          → (row : Row) × corrected.Sends p x final.kind final row × (y ≡ (first_in row.0, row.1))
      by (inl row) = row
      by (inr (reliable, set, last, here, success)) = absurd (one-code final sends.1 success)

  -- by each of the rules, what is sent after the final response is allowed
  by : (rules : Rules) (y : StateOf rules Server true) → All (λ f. ¬ (SendsResponse IsFinal f)) before → All (λ f. f.text ≡ final.text → f.kind ≡ final.kind) before → BeginNoneAnew p final after → e.action ≡ Sent →
      StandsAfter (figure_of rules Server true) p (before ++ final ∷ after) e y → IsAllowed
  by R6026 y first one_kind anew sent stands =
      only (sent-after-final invite_server p (λ x. x) (is-server-6026 p) before final is_final one_kind (λ x y h. (y, h, refl)) after e y first anew sent stands)
  by R3261 y first one_kind anew sent stands =
      only (sent-after-final invite_server_3261 p first_in (is-server-3261 p) before final is_final one_kind row-3261 after e y first anew sent stands)

-- the law is what was shown above of each of the rules
pub returns : goal.returns
returns c = λ p rules before after final e y first one_kind sends anew sent stands. by p before after final e sends rules y first one_kind anew sent stands
