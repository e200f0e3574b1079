-- Laws of the phases of the INVITE client of RFC 3261.
use Rattle.std.specs.Prelude.{◌≤◌}
use Rattle.std.proofs.Common.{inl, inr}
use Rattle.std.proofs.lemmas.List.Elements.{All-nil}
use Rattle.sip_standard.specs.declared.kind.Kind.TheVariants.{Response}
use Rattle.sip_phases.specs.FigureRules.{IsFigure}
use Rattle.sip_standard.specs.InviteClient.{Calling, Proceeding, Completed}
use Rattle.sip_standard.specs.InviteClient3261.{Receives, invite_client_3261}
use Rattle.sip_standard.specs.PhaseWords.{invite_client_told}
use Rattle.sip_phases.specs.inner.InviteClient3261.{invite_client_3261_coded}
use Rattle.sip_phases.specs.inner.Coded.{IsCoded, LeadOn}
use Rattle.sip_phases.proofs.phases.InviteClientLaws.{timer_d_starts, invite_client_is_figure, invite_client_is_coded}

-- the row of a received message leads to a phase whose timers are not past
-- a provisional response, and a 2xx, which ends the transaction, start no timer; any other final one starts timer D, which goes on in completed
received : LeadOn invite_client_3261 Receives
received p (Calling w) (Response code) e y running (inl provisional) = rw provisional.1 (All-nil (λ m. e.moment ≤ m))
received p (Calling w) (Response code) e y running (inr (inl success)) = rw success.1 (All-nil (λ m. e.moment ≤ m))
received p (Calling w) (Response code) e y running (inr (inr unsuccessful)) = rw unsuccessful.1 (timer_d_starts p w.reliable e.moment)
received p (Proceeding reliable request cancel) (Response code) e y running (inl success) = rw success.1 (All-nil (λ m. e.moment ≤ m))
received p (Proceeding reliable request cancel) (Response code) e y running (inr unsuccessful) = rw unsuccessful.1 (timer_d_starts p reliable e.moment)
received p (Completed reliable request set) (Response code) e y running h = rw h.1 running
-- no other message has a row
received p x k e y running h = absurd h

-- the INVITE client of RFC 3261 keeps what a figure keeps
pub invite_client_3261_is_figure : IsFigure invite_client_3261
invite_client_3261_is_figure =
    record {
      -- idle and ended have no timer
      idle_has_no_end = invite_client_is_figure.idle_has_no_end;
      idle_stays = invite_client_is_figure.idle_stays;
      ended_has_no_end = invite_client_is_figure.ended_has_no_end;
      ended_stays = invite_client_is_figure.ended_stays;
      -- a row leads to a phase whose timers are not past
      received_waits = received;
      sent_waits = invite_client_is_figure.sent_waits;
      -- a send that drops the debts, or that may leave the state as it is, leads to another phase; the latter pays nothing
      sent_leaves = invite_client_is_figure.sent_leaves;
      stays_unpaid = invite_client_is_figure.stays_unpaid;
    }

-- the code has the phases of the INVITE client of RFC 3261 as they are
pub invite_client_3261_is_coded : IsCoded invite_client_3261 invite_client_told invite_client_3261_coded
invite_client_3261_is_coded =
    record {
      is_figure = invite_client_3261_is_figure;
      apart = invite_client_is_coded.apart;
      by_names = invite_client_is_coded.by_names;
      window_same = invite_client_is_coded.window_same;
      closes_same = invite_client_is_coded.closes_same;
      named = invite_client_is_coded.named;
      -- idle and ended are those of the figure, name no message and are in range
      idle_is = invite_client_is_coded.idle_is;
      ended_is = invite_client_is_coded.ended_is;
      ended_decided = invite_client_is_coded.ended_decided;
      idle_fits = invite_client_is_coded.idle_fits;
      ended_fits = invite_client_is_coded.ended_fits;
      -- in words idle and ended tell no message
      idle_silent = invite_client_is_coded.idle_silent;
      ended_silent = invite_client_is_coded.ended_silent;
    }
