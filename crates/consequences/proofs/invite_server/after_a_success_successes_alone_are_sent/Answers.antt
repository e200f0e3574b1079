use Rattle.std.proofs.Common.{◌≡◌, ◌≤◌, ◌⊎◌, inl, inr, List, refl, arith}
use Rattle.std.specs.List.{Any}
use Rattle.sip_standard.specs.Window.{close_at}
use Rattle.sip_standard.specs.MachineEvent.{MachineEvent}
use Rattle.sip_standard.specs.Kind.{IsProvisional, IsFinal, IsSuccess, IsUnsuccessful}
use Rattle.sip_standard.specs.Times.{Times}
use Rattle.sip_standard.specs.InviteServer.{invite_server}
use Rattle.consequences.specs.Events.{IsResponse, SendsResponse}
use Rattle.consequences.proofs.lemmas.server.FinalResponse.{one-code, sent-after-final}
use Rattle.consequences.proofs.lemmas.server.InviteServers.{is-server-6026}
use Rattle.consequences.proofs.lemmas.server.Passed.{successes-alone}
use Rattle.consequences.proofs.invite_server.after_a_success_successes_alone_are_sent.Goals as goal

-- a 2xx is a final response
final-too : (final : MachineEvent) → SendsResponse IsSuccess final → SendsResponse IsFinal final
final-too final sends = (sends.0, (sends.1.0, sends.1.1, (sends.1.2.0, omega (arith, sends.1.2.1))))

-- after a 2xx, of what may follow a final response only a 2xx or an earlier provisional response may be sent
only : (p : Times) (before : List MachineEvent) (final e : MachineEvent) → SendsResponse IsSuccess final →
    (IsResponse IsSuccess final × IsResponse IsSuccess e) ⊎ (IsResponse IsUnsuccessful final × (e.text ≡ final.text))
    ⊎ ((e.moment ≤ close_at p final.moment 0) × Any (λ f. SendsResponse IsProvisional f × (f.text ≡ e.text)) before) →
    IsResponse IsSuccess e ⊎ ((e.moment ≤ close_at p final.moment 0) × Any (λ f. SendsResponse IsProvisional f × (f.text ≡ e.text)) before)
only p before final e sends (inl good) = inl good.1
only p before final e sends (inr (inl bad)) = absurd (one-code final bad.0 sends.1)
only p before final e sends (inr (inr old)) = inr old

-- by RFC 6026 what is sent after the 2xx is a 2xx, or a provisional response that was owed before it
pub returns-clause-corrected : goal.returns-clause-corrected
returns-clause-corrected c = λ p before after final e y first one_kind sends anew sent stands.
    only p before final e sends (sent-after-final invite_server p (λ x. x) (is-server-6026 p) before final (final-too final sends) one_kind (λ x y h. (y, h, refl)) after e y first anew sent stands)

-- by RFC 3261 only a 2xx is sent after the 2xx
pub returns-clause-without : goal.returns-clause-without
returns-clause-without c = λ p before after final e y first one_kind sends none sent stands. successes-alone p before final sends one_kind after e y first none sent stands
