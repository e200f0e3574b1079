-- Laws of the non-INVITE client's phases.
use Rattle.std.specs.Prelude.{◌≡◌, ◌*◌, true, min, if◌then◌else◌}
use Rattle.std.proofs.Common.{refl, ap, inl, inr, arith}
use Rattle.std.proofs.lemmas.Bool.Decides.{nat_tests}
use Rattle.sip_standard.specs.declared.kind.Kind.TheVariants.{Request, Response}
use Rattle.sip_phases.specs.declared.plain_client.PlainClientPhase.{PlainClientPhase as CodePhase}
use Rattle.sip_phases.specs.declared.plain_client.PlainClientPhase.TheVariants as code
use Rattle.sip_phases.specs.contracts.plain_client.PlainClientPhasePartialEq.TheImpl as derived
use Rattle.sip_standard.specs.Window.{close_at}
use Rattle.sip_phases.specs.FigureRules.{IsFigure}
use Rattle.sip_standard.specs.PlainClient.{Idle, Trying, Proceeding, Receives, Sends, plain_client}
use Rattle.sip_phases.specs.inner.PlainClient.{plain_client_seen, plain_client_names, plain_client_coded}
use Rattle.sip_standard.specs.PhaseWords.{plain_client_told}
use Rattle.sip_phases.specs.inner.Coded.{IsCoded, AreApart, StandByNames, TellNames, SameWindow, SameCloses, LeadOn, LeadAway}
use Rattle.sip_phases.proofs.states.FigureLaws.{keeps_them}
use Rattle.sip_phases.proofs.phases.WaitingLaws.{waiting_exact, waiting_apart, waiting_by_names, timer_starts, repeat_starts, patience_lasts}

-- phases of the code that the test finds equal are the same one: it compares their names and all their data
pub plain_client_exact : (x y : CodePhase) → derived.ghosts.eq x y ≡ true → x ≡ y
plain_client_exact code.Idle code.Idle e = refl
plain_client_exact (code.Trying w) (code.Trying w') e = ap code.Trying (waiting_exact w w' e)
plain_client_exact (code.Proceeding w) (code.Proceeding w') e = ap code.Proceeding (waiting_exact w w' e)
plain_client_exact (code.Completed reliable set) (code.Completed reliable' set') e = grind (arith, nat_tests)
plain_client_exact code.Ended code.Ended e = refl
plain_client_exact x y e = cc

-- phases that stand for the same beside one book are the same: they have one name and the same data, and the book keeps no message twice
pub plain_client_apart : AreApart plain_client_seen plain_client_names
plain_client_apart texts code.Idle code.Idle book x_known y_known e = refl
plain_client_apart texts (code.Trying w) (code.Trying w') book x_known y_known e = ap code.Trying (waiting_apart texts w w' book x_known y_known cc)
plain_client_apart texts (code.Proceeding w) (code.Proceeding w') book x_known y_known e = ap code.Proceeding (waiting_apart texts w w' book x_known y_known cc)
plain_client_apart texts (code.Completed reliable set) (code.Completed reliable' set') book x_known y_known e = cc
plain_client_apart texts code.Ended code.Ended book x_known y_known e = refl
plain_client_apart texts x y book x_known y_known e = cc

-- a phase stands for the same beside books that agree on what it names
pub plain_client_by_names : StandByNames plain_client_seen plain_client_names
plain_client_by_names a b (code.Trying w) agree = ap Trying (waiting_by_names a b w agree)
plain_client_by_names a b (code.Proceeding w) agree = ap Proceeding (waiting_by_names a b w agree)
-- a phase that names no message stands for the same beside any book
plain_client_by_names a b x agree = refl

-- the timers of a phase of the code are the same beside each book, since the figure asks for no bytes of a message
pub plain_client_window_same : SameWindow plain_client plain_client_seen
plain_client_window_same a b p code.Idle = refl
plain_client_window_same a b p x = refl

-- until when a phase can be waited in does not depend on the book, for the same reason
pub plain_client_closes_same : SameCloses plain_client plain_client_seen
plain_client_closes_same a b p code.Idle = refl
plain_client_closes_same a b p x = refl

-- the row of a received message leads to a phase whose timers are not past: a provisional response leaves timers E and F as they are, and a final one starts
-- timer K
received : LeadOn plain_client Receives
received p (Trying w) (Response code) e y running h =
    elim h [ inl provisional ↦ rw provisional.1 running | inr final ↦ rw final.1 (timer_starts p e.moment (if w.reliable then 0 else p.t4)) ]
received p (Proceeding w) (Response code) e y running h = rw h.1 (timer_starts p e.moment (if w.reliable then 0 else p.t4))
received p x k e y running h = absurd h

-- the row of a sent message leads to a phase whose timers are not past
sent : LeadOn plain_client Sends
-- the first request starts timer F and the timer of its repeats
sent p Idle (Request method) e y running h = rw h (repeat_starts p e.moment (close_at p e.moment (64 * p.t1)) p.t1 e.reliable (omega arith))
-- a repeat leaves timer F as it is, and its interval doubles up to T2; in proceeding it is T2
sent p (Trying w) (Request method) e y running h =
    rw h.1 (repeat_starts p e.moment (close_at p w.start (64 * p.t1)) (min (2 * w.interval) p.t2) w.reliable (patience_lasts p w e.moment (64 * p.t1) running))
sent p (Proceeding w) (Request method) e y running h =
    rw h.1 (repeat_starts p e.moment (close_at p w.start (64 * p.t1)) p.t2 w.reliable (patience_lasts p w e.moment (64 * p.t1) running))
-- no other phase sends anything
sent p x k e y running h = absurd h

-- a sent message whose row drops the debts, or that may leave the state as it is, leads to another phase; here there is no such message, since each row of
-- a request keeps the debts
leaves : LeadAway plain_client
leaves p Idle (Request method) e y h (inl drop) = absurd (keeps_them h drop)
leaves p (Trying w) (Request method) e y h (inl drop) = absurd (keeps_them h.1 drop)
leaves p (Proceeding w) (Request method) e y h (inl drop) = absurd (keeps_them h.1 drop)
leaves p x k e y h (inl drop) = absurd h
leaves p x k e y h (inr stays) = absurd stays

-- the non-INVITE client keeps what a figure keeps
pub plain_client_is_figure : IsFigure plain_client
plain_client_is_figure =
    record {
      -- idle and ended have no timer
      idle_has_no_end = λ p. refl;
      idle_stays = λ p. refl;
      ended_has_no_end = λ p. refl;
      ended_stays = λ p. refl;
      -- a row leads to a phase whose timers are not past
      received_waits = received;
      sent_waits = sent;
      -- a send that drops the debts, or that may leave the state as it is, leads to another phase; the latter pays nothing
      sent_leaves = leaves;
      stays_unpaid = λ x k e message stays. absurd stays;
    }

-- the messages that a phase of the code names are those that its words tell
plain_client_named : TellNames plain_client_seen plain_client_names plain_client_told
plain_client_named texts code.Idle = refl
plain_client_named texts x = refl

-- the code has the phases of the non-INVITE client as they are
pub plain_client_is_coded : IsCoded plain_client plain_client_told plain_client_coded
plain_client_is_coded =
    record {
      is_figure = plain_client_is_figure;
      apart = plain_client_apart;
      by_names = plain_client_by_names;
      window_same = plain_client_window_same;
      closes_same = plain_client_closes_same;
      named = plain_client_named;
      -- idle and ended are those of the figure, name no message and are in range
      idle_is = λ texts. refl;
      ended_is = λ texts. refl;
      -- ended is another phase than idle
      ended_decided = inr (λ same. cc);
      idle_fits = (refl, tt);
      ended_fits = (refl, tt);
      -- in words idle and ended tell no message
      idle_silent = refl;
      ended_silent = refl;
    }
