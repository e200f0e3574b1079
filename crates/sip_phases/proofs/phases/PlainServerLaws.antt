-- Laws of the non-INVITE server's phases.
use Rattle.std.specs.Prelude.{◌≡◌, ◌*◌, true, if◌then◌else◌}
use Rattle.std.proofs.Common.{refl, ap, inl, inr, arith}
use Rattle.std.proofs.lemmas.Bool.Decides.{nat_tests}
use Rattle.sip_standard.specs.declared.kind.Kind.TheVariants.{Request, Response}
use Rattle.sip_phases.specs.declared.plain_server.PlainServerPhase.{PlainServerPhase as CodePhase}
use Rattle.sip_phases.specs.declared.plain_server.PlainServerPhase.TheVariants as code
use Rattle.sip_phases.specs.contracts.plain_server.PlainServerPhasePartialEq.TheImpl as derived
use Rattle.sip_phases.specs.FigureRules.{IsFigure}
use Rattle.sip_standard.specs.PlainServer.{Idle, Trying, Proceeding, Completed, Receives, Sends, plain_server}
use Rattle.sip_phases.specs.inner.PlainServer.{plain_server_seen, plain_server_names, plain_server_coded}
use Rattle.sip_standard.specs.PhaseWords.{plain_server_told}
use Rattle.sip_phases.specs.inner.Coded.{IsCoded, AreApart, StandByNames, TellNames, SameWindow, SameCloses, LeadOn, LeadAway}
use Rattle.sip_phases.proofs.states.FigureLaws.{keeps_them, softens_them}
use Rattle.sip_phases.proofs.phases.MessageLaws.{message_apart}
use Rattle.sip_phases.proofs.phases.WaitingLaws.{timer_starts}

-- phases of the code that the test finds equal are the same one: it compares their names and all their data
pub plain_server_exact : (x y : CodePhase) → derived.ghosts.eq x y ≡ true → x ≡ y
plain_server_exact code.Idle code.Idle e = refl
plain_server_exact (code.Trying reliable) (code.Trying reliable') e = ap code.Trying (grind (arith, nat_tests))
plain_server_exact (code.Proceeding reliable last) (code.Proceeding reliable' last') e = grind (arith, nat_tests)
plain_server_exact (code.Completed reliable final set) (code.Completed reliable' final' set') e = grind (arith, nat_tests)
plain_server_exact x y e = cc

-- phases that stand for the same beside one book are the same: they have one name and the same data, and the book keeps no message twice
pub plain_server_apart : AreApart plain_server_seen plain_server_names
plain_server_apart texts code.Idle code.Idle book x_known y_known e = refl
plain_server_apart texts (code.Trying reliable) (code.Trying reliable') book x_known y_known e = cc
plain_server_apart texts (code.Proceeding reliable last) (code.Proceeding reliable' last') book x_known y_known e =
    let same = message_apart texts last last' book x_known y_known cc in cc
plain_server_apart texts (code.Completed reliable final set) (code.Completed reliable' final' set') book x_known y_known e =
    let same = message_apart texts final final' book x_known y_known cc in cc
plain_server_apart texts x y book x_known y_known e = cc

-- a phase stands for the same beside books that agree on what it names
pub plain_server_by_names : StandByNames plain_server_seen plain_server_names
plain_server_by_names a b (code.Proceeding reliable last) agree = ap (Proceeding reliable) (agree last (0, omega arith, refl))
plain_server_by_names a b (code.Completed reliable final set) agree = ap (λ text. Completed reliable text set) (agree final (0, omega arith, refl))
-- a phase that names no message stands for the same beside any book
plain_server_by_names a b x agree = refl

-- the timers of a phase of the code are the same beside each book, since the figure asks for no bytes of a message
pub plain_server_window_same : SameWindow plain_server plain_server_seen
plain_server_window_same a b p code.Idle = refl
plain_server_window_same a b p x = refl

-- until when a phase can be waited in does not depend on the book, for the same reason
pub plain_server_closes_same : SameCloses plain_server plain_server_seen
plain_server_closes_same a b p code.Idle = refl
plain_server_closes_same a b p x = refl

-- the row of a received message leads to a phase whose timers are not past: the first request starts none, and one that comes again leaves the phase as it is
received : LeadOn plain_server Receives
received p Idle (Request method) e y running h = rw h running
received p (Proceeding reliable last) (Request method) e y running h = elim h [ inl must ↦ rw must.1 running | inr may ↦ rw may.1 running ]
received p (Completed reliable final set) (Request method) e y running h = rw h running
received p x k e y running h = absurd h

-- the row of a sent message leads to a phase whose timers are not past: a provisional response starts no timer, and a final one starts timer J
sent : LeadOn plain_server Sends
sent p (Trying reliable) (Response code) e y running h =
    elim h [ inl provisional ↦ rw provisional.1 running | inr final ↦ rw final.1 (timer_starts p e.moment (if reliable then 0 else 64 * p.t1)) ]
sent p (Proceeding reliable last) (Response code) e y running h =
    elim h [ inl provisional ↦ rw provisional.1 running | inr final ↦ rw final.1 (timer_starts p e.moment (if reliable then 0 else 64 * p.t1)) ]
sent p x k e y running h = absurd h

-- a sent message whose row drops the debts, or that may leave the state as it is, leads to another phase; here there is no such message, since each row of
-- a response keeps the debts or softens them
leaves : LeadAway plain_server
leaves p (Trying reliable) (Response code) e y (inl provisional) (inl drop) = absurd (keeps_them provisional.1 drop)
leaves p (Trying reliable) (Response code) e y (inr final) (inl drop) = absurd (softens_them final.1 drop)
leaves p (Proceeding reliable last) (Response code) e y (inl provisional) (inl drop) = absurd (keeps_them provisional.1 drop)
leaves p (Proceeding reliable last) (Response code) e y (inr final) (inl drop) = absurd (softens_them final.1 drop)
leaves p x k e y h (inl drop) = absurd h
leaves p x k e y h (inr stays) = absurd stays

-- the non-INVITE server keeps what a figure keeps
pub plain_server_is_figure : IsFigure plain_server
plain_server_is_figure =
    record {
      -- idle and ended have no timer
      idle_has_no_end = λ p. refl;
      idle_stays = λ p. refl;
      ended_has_no_end = λ p. refl;
      ended_stays = λ p. refl;
      -- a row leads to a phase whose timers are not past
      received_waits = received;
      sent_waits = sent;
      -- a send that drops the debts, or that may leave the state as it is, leads to another phase; the latter pays nothing
      sent_leaves = leaves;
      stays_unpaid = λ x k e message stays. absurd stays;
    }

-- the messages that a phase of the code names are those that its words tell
plain_server_named : TellNames plain_server_seen plain_server_names plain_server_told
plain_server_named texts code.Idle = refl
plain_server_named texts x = refl

-- the code has the phases of the non-INVITE server as they are
pub plain_server_is_coded : IsCoded plain_server plain_server_told plain_server_coded
plain_server_is_coded =
    record {
      is_figure = plain_server_is_figure;
      apart = plain_server_apart;
      by_names = plain_server_by_names;
      window_same = plain_server_window_same;
      closes_same = plain_server_closes_same;
      named = plain_server_named;
      -- idle and ended are those of the figure, name no message and are in range
      idle_is = λ texts. refl;
      ended_is = λ texts. refl;
      -- ended is idle
      ended_decided = inl refl;
      idle_fits = (refl, tt);
      ended_fits = (refl, tt);
      -- in words idle and ended tell no message
      idle_silent = refl;
      ended_silent = refl;
    }
