-- Laws of the INVITE client's phases.
use Rattle.std.specs.Prelude.{◌≡◌, ◌≤◌, ◌*◌, ℕ, Bool, true, false, None, Some, [], ◌++◌, All, if◌then◌else◌}
use Rattle.std.proofs.Common.{refl, ap, inl, inr, arith}
use Rattle.std.proofs.lemmas.Bool.Decides.{nat_tests}
use Rattle.std.proofs.lemmas.List.Elements.{All-nil}
use Rattle.sip_standard.specs.declared.kind.Method.TheVariants.{Invite, Ack, Cancel}
use Rattle.sip_standard.specs.declared.kind.Kind.TheVariants.{Request, Response}
use Rattle.sip_phases.specs.declared.invite_client.InviteClientPhase.{InviteClientPhase as CodePhase}
use Rattle.sip_phases.specs.declared.invite_client.InviteClientPhase.TheVariants as code
use Rattle.sip_phases.specs.contracts.invite_client.InviteClientPhasePartialEq.TheImpl as derived
use Rattle.sip_standard.specs.Times.{Times}
use Rattle.sip_standard.specs.Window.{open_at, close_at, window_at}
use Rattle.sip_phases.specs.FigureRules.{IsFigure, closes_of}
use Rattle.sip_standard.specs.InviteClient.{Idle, Calling, Proceeding, Completed, Receives, Sends, invite_client}
use Rattle.sip_phases.specs.inner.InviteClient.{invite_client_seen, invite_client_names, invite_client_coded}
use Rattle.sip_standard.specs.PhaseWords.{invite_client_told}
use Rattle.sip_phases.specs.inner.Coded.{IsCoded, AreApart, StandByNames, TellNames, SameWindow, SameCloses, LeadOn, LeadAway}
use Rattle.sip_phases.proofs.states.FigureLaws.{keeps_them}
use Rattle.sip_phases.proofs.phases.MessageLaws.{option_exact, message_apart}
use Rattle.sip_phases.proofs.phases.WaitingLaws.{waiting_exact, waiting_apart, waiting_by_names, timer_starts, repeat_starts, patience_lasts}

-- phases of the code that the test finds equal are the same one: it compares their names and all their data
pub invite_client_exact : (x y : CodePhase) → derived.ghosts.eq x y ≡ true → x ≡ y
invite_client_exact code.Idle code.Idle e = refl
invite_client_exact (code.Calling w) (code.Calling w') e = ap code.Calling (waiting_exact w w' e)
invite_client_exact (code.Proceeding reliable request cancel) (code.Proceeding reliable' request' cancel') e =
    let same_cancel : cancel ≡ cancel' = option_exact cancel cancel' (grind (arith, nat_tests)) in grind (arith, nat_tests)
invite_client_exact (code.Accepted set) (code.Accepted set') e = ap code.Accepted (grind (arith, nat_tests))
invite_client_exact (code.Completed reliable request set) (code.Completed reliable' request' set') e = grind (arith, nat_tests)
invite_client_exact code.Ended code.Ended e = refl
invite_client_exact x y e = cc

-- phases that stand for the same beside one book are the same: they have one name and the same data, and the book keeps no message twice
pub invite_client_apart : AreApart invite_client_seen invite_client_names
invite_client_apart texts code.Idle code.Idle book x_known y_known e = refl
invite_client_apart texts (code.Calling w) (code.Calling w') book x_known y_known e = ap code.Calling (waiting_apart texts w w' book x_known y_known cc)
invite_client_apart texts (code.Proceeding reliable request cancel) (code.Proceeding reliable' request' cancel') book x_known y_known e =
    let same = message_apart texts request request' book x_known y_known cc in cc
invite_client_apart texts (code.Accepted set) (code.Accepted set') book x_known y_known e = cc
invite_client_apart texts (code.Completed reliable request set) (code.Completed reliable' request' set') book x_known y_known e =
    let same = message_apart texts request request' book x_known y_known cc in cc
invite_client_apart texts code.Ended code.Ended book x_known y_known e = refl
invite_client_apart texts x y book x_known y_known e = cc

-- a phase stands for the same beside books that agree on what it names
pub invite_client_by_names : StandByNames invite_client_seen invite_client_names
invite_client_by_names a b (code.Calling w) agree = ap Calling (waiting_by_names a b w agree)
invite_client_by_names a b (code.Proceeding reliable request cancel) agree = ap (λ text. Proceeding reliable text cancel) (agree request (0, omega arith, refl))
invite_client_by_names a b (code.Completed reliable request set) agree = ap (λ text. Completed reliable text set) (agree request (0, omega arith, refl))
-- a phase that names no message stands for the same beside any book
invite_client_by_names a b x agree = refl

-- the timers of a phase of the code are the same beside each book, since the figure asks for no bytes of a message
pub invite_client_window_same : SameWindow invite_client invite_client_seen
invite_client_window_same a b p (code.Proceeding reliable request None) = refl
invite_client_window_same a b p x = refl

-- until when a phase can be waited in does not depend on the book, for the same reason
pub invite_client_closes_same : SameCloses invite_client invite_client_seen
invite_client_closes_same a b p code.Idle = refl
invite_client_closes_same a b p x = refl

-- timer D is not past as it starts: over a reliable transport it must fire at once, and over another one at no certain moment
pub timer_d_starts : (p : Times) (reliable : Bool) (t : ℕ) → All (λ m. t ≤ m) (closes_of (if reliable then window_at p t 0 else Some (open_at p t 32000, None)) ++ [])
timer_d_starts p true t = timer_starts p t 0
timer_d_starts p false t = All-nil (λ m. t ≤ m)

-- the row of a received message leads to a phase whose timers are not past
received : LeadOn invite_client Receives
-- in calling a provisional response starts no timer, a 2xx starts timer M, and any other final one timer D
received p (Calling w) (Response code) e y running (inl provisional) = rw provisional.1 (All-nil (λ m. e.moment ≤ m))
received p (Calling w) (Response code) e y running (inr (inl success)) = rw success.1 (timer_starts p e.moment (64 * p.t1))
received p (Calling w) (Response code) e y running (inr (inr unsuccessful)) = rw unsuccessful.1 (timer_d_starts p w.reliable e.moment)
-- in proceeding it is the same; in completed timer D goes on
received p (Proceeding reliable request cancel) (Response code) e y running (inl success) = rw success.1 (timer_starts p e.moment (64 * p.t1))
received p (Proceeding reliable request cancel) (Response code) e y running (inr unsuccessful) = rw unsuccessful.1 (timer_d_starts p reliable e.moment)
received p (Completed reliable request set) (Response code) e y running h = rw h.1 running
-- no other message has a row
received p x k e y running h = absurd h

-- the row of a sent message leads to a phase whose timers are not past
sent : LeadOn invite_client Sends
-- the first INVITE starts timer B and the timer of its repeats; an ACK starts none
sent p Idle (Request Invite) e y running h = rw h (repeat_starts p e.moment (close_at p e.moment (64 * p.t1)) p.t1 e.reliable (omega arith))
sent p Idle (Request Ack) e y running h = rw h running
-- a repeat of the INVITE leaves timer B as it is, and its interval doubles
sent p (Calling w) (Request Invite) e y running h =
    rw h.1 (repeat_starts p e.moment (close_at p w.start (64 * p.t1)) (2 * w.interval) w.reliable (patience_lasts p w e.moment (64 * p.t1) running))
-- in calling no CANCEL is sent; in proceeding a CANCEL starts no timer of a phase
sent p (Calling w) (Request Cancel) e y running h = absurd h
sent p (Proceeding reliable request None) (Request Cancel) e y running h = rw h running
sent p x (Request Cancel) e y running h = rw h running
-- no other message has a row
sent p x k e y running h = absurd h

-- a sent message whose row drops the debts, or that may leave the state as it is, leads to another phase; here there is no such message
-- each row of a message that is sent keeps the debts, and so none drops them
leaves : LeadAway invite_client
leaves p Idle (Request Invite) e y h (inl drop) = absurd (keeps_them h drop)
leaves p Idle (Request Ack) e y h (inl drop) = absurd (keeps_them h drop)
leaves p (Calling w) (Request Invite) e y h (inl drop) = absurd (keeps_them h.1 drop)
leaves p (Calling w) (Request Cancel) e y h (inl drop) = absurd h
leaves p (Proceeding reliable request None) (Request Cancel) e y h (inl drop) = absurd (keeps_them h drop)
leaves p x (Request Cancel) e y h (inl drop) = absurd (keeps_them h drop)
leaves p x k e y h (inl drop) = absurd h
-- no message that is sent may leave the state as it is
leaves p x k e y h (inr stays) = absurd stays

-- the INVITE client keeps what a figure keeps
pub invite_client_is_figure : IsFigure invite_client
invite_client_is_figure =
    record {
      -- idle and ended have no timer
      idle_has_no_end = λ p. refl;
      idle_stays = λ p. refl;
      ended_has_no_end = λ p. refl;
      ended_stays = λ p. refl;
      -- a row leads to a phase whose timers are not past
      received_waits = received;
      sent_waits = sent;
      -- a send that drops the debts, or that may leave the state as it is, leads to another phase; the latter pays nothing
      sent_leaves = leaves;
      stays_unpaid = λ x k e message stays. absurd stays;
    }

-- the messages that a phase of the code names are those that its words tell
invite_client_named : TellNames invite_client_seen invite_client_names invite_client_told
invite_client_named texts code.Idle = refl
invite_client_named texts x = refl

-- the code has the phases of the INVITE client as they are
pub invite_client_is_coded : IsCoded invite_client invite_client_told invite_client_coded
invite_client_is_coded =
    record {
      is_figure = invite_client_is_figure;
      apart = invite_client_apart;
      by_names = invite_client_by_names;
      window_same = invite_client_window_same;
      closes_same = invite_client_closes_same;
      named = invite_client_named;
      -- idle and ended are those of the figure, name no message and are in range
      idle_is = λ texts. refl;
      ended_is = λ texts. refl;
      -- ended is another phase than idle
      ended_decided = inr (λ same. cc);
      idle_fits = (refl, tt);
      ended_fits = (refl, tt);
      -- in words idle and ended tell no message
      idle_silent = refl;
      ended_silent = refl;
    }
