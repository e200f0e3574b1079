-- Laws of the INVITE server's phases.
use Rattle.std.specs.Prelude.{◌≡◌, ◌≤◌, ◌*◌, true, None, Some, [], ◌∷◌, if◌then◌else◌}
use Rattle.std.proofs.Common.{refl, ap, inl, inr, arith}
use Rattle.std.proofs.lemmas.Bool.Decides.{nat_tests}
use Rattle.std.proofs.lemmas.List.Elements.{All-head, All-nil}
use Rattle.sip_standard.specs.declared.kind.Method.TheVariants.{Invite, Ack}
use Rattle.sip_standard.specs.declared.kind.Kind.TheVariants.{Request, Response}
use Rattle.sip_phases.specs.declared.invite_server.InviteServerPhase.{InviteServerPhase as CodePhase}
use Rattle.sip_phases.specs.declared.invite_server.InviteServerPhase.TheVariants as code
use Rattle.sip_phases.specs.contracts.invite_server.InviteServerPhasePartialEq.TheImpl as derived
use Rattle.sip_standard.specs.Window.{close_at}
use Rattle.sip_phases.specs.FigureRules.{IsFigure}
use Rattle.sip_standard.specs.InviteServer.{Idle, Proceeding, Accepted, Completed, Receives, Sends, invite_server}
use Rattle.sip_phases.specs.inner.InviteServer.{invite_server_seen, invite_server_names, invite_server_coded}
use Rattle.sip_standard.specs.PhaseWords.{invite_server_told}
use Rattle.sip_phases.specs.inner.Coded.{IsCoded, AreApart, StandByNames, TellNames, SameWindow, SameCloses, LeadOn, LeadAway}
use Rattle.sip_phases.proofs.states.FigureLaws.{keeps_them, softens_them}
use Rattle.sip_phases.proofs.phases.MessageLaws.{option_exact, message_apart}
use Rattle.sip_phases.proofs.phases.WaitingLaws.{timer_starts, repeat_starts}

-- phases of the code that the test finds equal are the same one: it compares their names and all their data
pub invite_server_exact : (x y : CodePhase) → derived.ghosts.eq x y ≡ true → x ≡ y
invite_server_exact code.Idle code.Idle e = refl
invite_server_exact (code.Proceeding reliable set last) (code.Proceeding reliable' set' last') e =
    let same_last : last ≡ last' = option_exact last last' (grind (arith, nat_tests)) in grind (arith, nat_tests)
invite_server_exact (code.Accepted set) (code.Accepted set') e = ap code.Accepted (grind (arith, nat_tests))
invite_server_exact (code.Completed reliable final set repeat interval) (code.Completed reliable' final' set' repeat' interval') e = grind (arith, nat_tests)
invite_server_exact (code.Confirmed reliable set) (code.Confirmed reliable' set') e = grind (arith, nat_tests)
invite_server_exact x y e = cc

-- phases that stand for the same beside one book are the same: they have one name and the same data, and the book keeps no message twice
pub invite_server_apart : AreApart invite_server_seen invite_server_names
invite_server_apart texts code.Idle code.Idle book x_known y_known e = refl
invite_server_apart texts (code.Proceeding reliable set None) (code.Proceeding reliable' set' None) book x_known y_known e = cc
invite_server_apart texts (code.Proceeding reliable set (Some last)) (code.Proceeding reliable' set' (Some last')) book x_known y_known e =
    let same = message_apart texts last last' book x_known y_known cc in cc
invite_server_apart texts (code.Accepted set) (code.Accepted set') book x_known y_known e = cc
invite_server_apart texts (code.Completed reliable final set repeat interval) (code.Completed reliable' final' set' repeat' interval') book x_known y_known e =
    let same = message_apart texts final final' book x_known y_known cc in cc
invite_server_apart texts (code.Confirmed reliable set) (code.Confirmed reliable' set') book x_known y_known e = cc
invite_server_apart texts x y book x_known y_known e = cc

-- a phase stands for the same beside books that agree on what it names
pub invite_server_by_names : StandByNames invite_server_seen invite_server_names
invite_server_by_names a b (code.Proceeding reliable set (Some last)) agree =
    ap (λ text. Proceeding reliable set (Some text)) (agree last (0, omega arith, refl))
invite_server_by_names a b (code.Completed reliable final set repeat interval) agree =
    ap (λ text. Completed reliable text set repeat interval) (agree final (0, omega arith, refl))
-- a phase that names no message stands for the same beside any book
invite_server_by_names a b x agree = refl

-- the timers of a phase of the code are the same beside each book, since the figure asks for no bytes of a message
pub invite_server_window_same : SameWindow invite_server invite_server_seen
invite_server_window_same a b p code.Idle = refl
invite_server_window_same a b p x = refl

-- until when a phase can be waited in does not depend on the book, for the same reason
pub invite_server_closes_same : SameCloses invite_server invite_server_seen
invite_server_closes_same a b p (code.Proceeding reliable set None) = refl
invite_server_closes_same a b p x = refl

-- the row of a received message leads to a phase whose timers are not past: an INVITE starts the timer of 200 ms, an ACK that of T4; a repeated INVITE leaves
-- the phase, whose timer runs on
received : LeadOn invite_server Receives
received p Idle (Request Invite) e y running h = rw h (timer_starts p e.moment 200)
received p (Proceeding reliable set (Some last)) (Request Invite) e y running (inl must) = rw must.1 running
received p (Proceeding reliable set (Some last)) (Request Invite) e y running (inr may) = rw may.1 running
received p (Completed reliable final set repeat interval) (Request Invite) e y running h = rw h running
received p (Completed reliable final set repeat interval) (Request Ack) e y running h = rw h (timer_starts p e.moment (if reliable then 0 else p.t4))
received p x k e y running h = absurd h

-- the row of a sent message leads to a phase whose timers are not past: in proceeding a provisional response starts no timer, a 2xx starts timer L, and any
-- other final response timers H and G
sent : LeadOn invite_server Sends
sent p (Proceeding reliable set last) (Response code) e y running (inl provisional) = rw provisional.1 (All-nil (λ m. e.moment ≤ m))
sent p (Proceeding reliable set last) (Response code) e y running (inr (inl success)) = rw success.1 (timer_starts p e.moment (64 * p.t1))
sent p (Proceeding reliable set last) (Response code) e y running (inr (inr other)) =
    rw other.1 (repeat_starts p e.moment (close_at p e.moment (64 * p.t1)) p.t1 reliable (omega arith))
-- in accepted a 2xx leaves timer L as it is; in completed the final response that is sent again sets timer G anew, while timer H runs on
sent p (Accepted set) (Response code) e y running h = rw h.1 running
sent p (Completed reliable final set repeat interval) (Response code) e y running h =
    rw h.1
    (repeat_starts p e.moment (close_at p set (64 * p.t1)) _ reliable
    (All-head (λ m. e.moment ≤ m) (close_at p set (64 * p.t1)) (if reliable then [] else close_at p repeat interval ∷ []) running))
sent p x k e y running h = absurd h

-- a sent message whose row drops the debts, or that may leave the state as it is, leads to another phase; here there is no such message
-- each row of a response that is sent keeps the debts or softens them, and so none drops them
leaves : LeadAway invite_server
leaves p (Proceeding reliable set last) (Response code) e y (inl provisional) (inl drop) = absurd (keeps_them provisional.1 drop)
leaves p (Proceeding reliable set last) (Response code) e y (inr (inl success)) (inl drop) = absurd (softens_them success.1 drop)
leaves p (Proceeding reliable set last) (Response code) e y (inr (inr other)) (inl drop) = absurd (softens_them other.1 drop)
leaves p (Accepted set) (Response code) e y h (inl drop) = absurd (keeps_them h.1 drop)
leaves p (Completed reliable final set repeat interval) (Response code) e y h (inl drop) = absurd (keeps_them h.1 drop)
leaves p x k e y h (inl drop) = absurd h
-- no response that is sent may leave the state as it is
leaves p x k e y h (inr stays) = absurd stays

-- the INVITE server keeps what a figure keeps
pub invite_server_is_figure : IsFigure invite_server
invite_server_is_figure =
    record {
      -- idle and ended have no timer
      idle_has_no_end = λ p. refl;
      idle_stays = λ p. refl;
      ended_has_no_end = λ p. refl;
      ended_stays = λ p. refl;
      -- a row leads to a phase whose timers are not past
      received_waits = received;
      sent_waits = sent;
      -- a send that drops the debts, or that may leave the state as it is, leads to another phase; the latter pays nothing
      sent_leaves = leaves;
      stays_unpaid = λ x k e message stays. absurd stays;
    }

-- the messages that a phase of the code names are those that its words tell
invite_server_named : TellNames invite_server_seen invite_server_names invite_server_told
invite_server_named texts (code.Proceeding reliable set None) = refl
invite_server_named texts x = refl

-- the code has the phases of the INVITE server as they are
pub invite_server_is_coded : IsCoded invite_server invite_server_told invite_server_coded
invite_server_is_coded =
    record {
      is_figure = invite_server_is_figure;
      apart = invite_server_apart;
      by_names = invite_server_by_names;
      window_same = invite_server_window_same;
      closes_same = invite_server_closes_same;
      named = invite_server_named;
      -- idle and ended are those of the figure, name no message and are in range
      idle_is = λ texts. refl;
      ended_is = λ texts. refl;
      -- ended is idle
      ended_decided = inl refl;
      idle_fits = (refl, tt);
      ended_fits = (refl, tt);
      -- in words idle and ended tell no message
      idle_silent = refl;
      ended_silent = refl;
    }
