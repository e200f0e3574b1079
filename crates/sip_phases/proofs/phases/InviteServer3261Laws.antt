-- Laws of the phases of the INVITE server of RFC 3261.
-- In the lemmas x is a phase, k the kind of a message, and a and b are two phases, or two flags, of which it is told whether they are the same.
use Rattle.std.specs.Prelude.{◌≡◌, ◌≤◌, ℕ, Bool, true, false, None, List}
use Rattle.std.specs.Bool.{beq}
use Rattle.std.proofs.Common.{refl, ap, sym, ◌∙◌, inl, inr}
use Rattle.std.proofs.lemmas.List.Elements.{All-nil}
use Rattle.sip_standard.specs.declared.kind.Method.TheVariants.{Invite}
use Rattle.sip_standard.specs.declared.kind.Kind.{Kind}
use Rattle.sip_standard.specs.declared.kind.Kind.TheVariants.{Request, Response}
use Rattle.sip_phases.specs.declared.invite_server.InviteServerPhase.{InviteServerPhase as CodeCorrected}
use Rattle.sip_phases.specs.declared.invite_server.InviteServerPhase.TheVariants as code_phase
use Rattle.sip_phases.specs.declared.invite_server_3261.InviteServer3261Phase.{InviteServer3261Phase as CodePhase}
use Rattle.sip_phases.specs.declared.invite_server_3261.InviteServer3261Phase.TheVariants as code
use Rattle.sip_phases.specs.contracts.invite_server_3261.InviteServer3261PhasePartialEq.TheImpl as derived
use Rattle.sip_phases.specs.contracts.invite_server.InviteServerPhasePartialEq.TheImpl as phase_eq
use Rattle.sip_standard.specs.Times.{Times}
use Rattle.sip_standard.specs.MachineEvent.{MachineEvent}
use Rattle.sip_phases.specs.FigureRules.{IsFigure, After}
use Rattle.sip_standard.specs.Figure.{drops}
use Rattle.sip_standard.specs.InviteServer as corrected
use Rattle.sip_standard.specs.InviteServer.{InviteServerPhase, Proceeding, Completed}
use Rattle.sip_standard.specs.InviteServer3261.{InviteServer3261Phase, Passed, In, Receives, Sends, Satisfies, Stays, invite_server_3261}
use Rattle.sip_phases.specs.inner.InviteServer3261.{invite_server_3261_seen, invite_server_3261_names, invite_server_3261_coded}
use Rattle.sip_standard.specs.PhaseWords.{invite_server_3261_told}
use Rattle.sip_phases.specs.inner.Coded.{IsCoded, AreApart, StandByNames, TellNames, SameWindow, SameCloses, LeadOn, LeadAway}
use Rattle.sip_phases.proofs.debts.OwesLaws.{both_true}
use Rattle.sip_phases.proofs.states.FigureLaws.{keeps_them}
use Rattle.sip_phases.proofs.phases.WaitingLaws.{timer_starts}
use Rattle.sip_phases.proofs.phases.InviteServerLaws.{invite_server_exact, invite_server_apart, invite_server_by_names, invite_server_window_same, invite_server_closes_same, invite_server_is_figure}

-- phases of the code that the test finds equal are the same one: it compares the phases of the corrected server and their flags
pub invite_server_3261_exact : (x y : CodePhase) → derived.ghosts.eq x y ≡ true → x ≡ y
invite_server_3261_exact code.Passed code.Passed e = refl
invite_server_3261_exact code.Passed (code.In phase again) e = cc
invite_server_3261_exact (code.In phase again) code.Passed e = cc
invite_server_3261_exact (code.In phase again) (code.In phase' again') e =
    let each = both_true (phase_eq.ghosts.eq phase phase') (beq again again') e in
    same_within phase phase' again again' (invite_server_exact phase phase' each.0) (same_flag again again' each.1)
  where
    -- equal flags are the same
    same_flag : (a b : Bool) → beq a b ≡ true → a ≡ b
    same_flag true true e = refl
    same_flag false false e = refl
    same_flag true false e = sym e
    same_flag false true e = e

    -- phases that are the same with flags that are the same are the same
    same_within : (a b : CodeCorrected) (again again' : Bool) → a ≡ b → again ≡ again' → code.In a again ≡ code.In b again'
    same_within a b again again' phase flag = rw (phase, flag) refl

-- phases that stand for the same beside one book are the same: so are phases of the corrected server, and the flags are the same
pub invite_server_3261_apart : AreApart invite_server_3261_seen invite_server_3261_names
invite_server_3261_apart texts code.Passed code.Passed book x_known y_known e = refl
invite_server_3261_apart texts (code.In phase again) (code.In phase' again') book x_known y_known e =
    let same_again : again ≡ again' = cc in
    let same = invite_server_apart texts phase phase' book x_known y_known cc in cc
invite_server_3261_apart texts x y book x_known y_known e = cc

-- a phase stands for the same beside books that agree on what it names
pub invite_server_3261_by_names : StandByNames invite_server_3261_seen invite_server_3261_names
invite_server_3261_by_names a b code.Passed agree = refl
invite_server_3261_by_names a b (code.In phase again) agree = ap (λ x. In x again) (invite_server_by_names a b phase agree)

-- the timers of a phase of the code are the same beside each book: passed has none, and the other phases have those of the corrected server
pub invite_server_3261_window_same : SameWindow invite_server_3261 invite_server_3261_seen
invite_server_3261_window_same a b p code.Passed = refl
invite_server_3261_window_same a b p (code.In phase again) = invite_server_window_same a b p phase

-- until when a phase can be waited in does not depend on the book, for the same reason
pub invite_server_3261_closes_same : SameCloses invite_server_3261 invite_server_3261_seen
invite_server_3261_closes_same a b p code.Passed = refl
invite_server_3261_closes_same a b p (code.In phase again) = invite_server_closes_same a b p phase

-- the row of a received message leads to a phase whose timers are not past: in passed an INVITE begins anew, with its first response due within 200 ms, and
-- nothing else has a row; in any other phase the row is one of the corrected server
received : LeadOn invite_server_3261 Receives
received p Passed (Request Invite) e y running h = rw h (timer_starts p e.moment 200)
received p Passed k e y running h = absurd h
received p (In x again) k e y running (after, row, is) = rw is (invite_server_is_figure.received_waits p x k e after running row)

-- the row of a sent message leads to a phase whose timers are not past
-- a 2xx starts no timer, and any other response is a row of the corrected server
sent : LeadOn invite_server_3261 Sends
sent p Passed (Response code) e y running h = rw h.1 (All-nil (λ m. e.moment ≤ m))
sent p (In (Proceeding reliable set last) again) (Response code) e y running (inl success) = rw success.1 (All-nil (λ m. e.moment ≤ m))
sent p (In (Proceeding reliable set last) again) (Response code) e y running (inr (other, within)) =
    rw within.2 (invite_server_is_figure.sent_waits p (Proceeding reliable set last) (Response code) e within.0 running within.1)
sent p (In (Completed reliable final set repeat interval) again) (Response code) e y running (other, within) =
    rw within.2 (invite_server_is_figure.sent_waits p (Completed reliable final set repeat interval) (Response code) e within.0 running within.1)
sent p x k e y running h = absurd h

-- the row of a sent message in `InviteServer` does not drop the debts and stay in its phase
within_keeps : (p : Times) (x : InviteServerPhase) (k : Kind) (e : MachineEvent) (after : After InviteServerPhase) → corrected.Sends p x k e after → after.1 ≡ drops → after.0 ≡ x → ⊥
within_keeps p x k e after row drop same = invite_server_is_figure.sent_leaves p x k e after row (inl drop) same

-- equal phases of the server by RFC 3261 alone hold equal phases of the corrected one
in_same : (a b : InviteServerPhase) (again : Bool) → In a again ≡ In b again → a ≡ b
in_same a b again same = cc

-- the row of a sent message that drops the debts, or may leave the state as it is, leads to another phase
-- in passed there is none: the row of a 2xx keeps the debts, and no send may leave the state as it is
leaves : LeadAway invite_server_3261
leaves p Passed (Response code) e y h (inl drop) = absurd (keeps_them h.1 drop)
leaves p Passed (Response code) e y h (inr stays) = absurd stays
-- a 2xx leads to passed, which is another phase than proceeding; any other response is a row of the corrected server, which leads away where it drops
-- the debts; and only a 2xx may leave the state as it is
leaves p (In (Proceeding reliable set last) again) (Response code) e y (inl success) other = λ same. let e : Passed ≡ In (Proceeding reliable set last) again = sym (ap (λ z. z.0) success.1) ∙ same in cc
leaves p (In (Proceeding reliable set last) again) (Response code) e y (inr (other, within)) (inl drop) =
    λ same. within_keeps p (Proceeding reliable set last) (Response code) e within.0 within.1 (sym (ap (λ z. z.1) within.2) ∙ drop)
    (in_same (within.0).0 (Proceeding reliable set last) again (sym (ap (λ z. z.0) within.2) ∙ same))
leaves p (In (Proceeding reliable set last) again) (Response code) e y (inr (other, within)) (inr stays) = absurd (other stays.2)
-- in completed a response that is no 2xx has a row of the corrected server, which does not drop the debts and stay; and only a 2xx may leave the state
-- as it is
leaves p (In (Completed reliable final set repeat interval) again) (Response code) e y (other, within) (inl drop) =
    λ same. within_keeps p (Completed reliable final set repeat interval) (Response code) e within.0 within.1 (sym (ap (λ z. z.1) within.2) ∙ drop)
    (in_same (within.0).0 (Completed reliable final set repeat interval) again (sym (ap (λ z. z.0) within.2) ∙ same))
leaves p (In (Completed reliable final set repeat interval) again) (Response code) e y (other, within) (inr stays) = absurd (other stays.2)
-- no other message has a row
leaves p x k e y h other = absurd h

-- a send that may leave a state as it is pays nothing: it is a 2xx
unpaid : (x : InviteServer3261Phase) (k : Kind) (e : MachineEvent) (message : List ℕ) → Stays x k → ¬ (Satisfies x k e message)
unpaid (In x again) (Response code) e message stays = λ pays. pays.0 stays.2
unpaid x k e message stays = absurd stays

-- the INVITE server of RFC 3261 keeps what a figure keeps
pub invite_server_3261_is_figure : IsFigure invite_server_3261
invite_server_3261_is_figure =
    record {
      -- idle and ended have no timer
      idle_has_no_end = λ p. refl;
      idle_stays = λ p. refl;
      ended_has_no_end = λ p. refl;
      ended_stays = λ p. refl;
      -- a row leads to a phase whose timers are not past
      received_waits = received;
      sent_waits = sent;
      -- a send that drops the debts, or that may leave the state as it is, leads to another phase; the latter pays nothing
      sent_leaves = leaves;
      stays_unpaid = unpaid;
    }

-- the messages that a phase of the code names are those that its words tell
invite_server_3261_named : TellNames invite_server_3261_seen invite_server_3261_names invite_server_3261_told
invite_server_3261_named texts code.Passed = refl
invite_server_3261_named texts (code.In (code_phase.Proceeding reliable set None) again) = refl
invite_server_3261_named texts (code.In phase again) = refl

-- the code has the phases of the INVITE server of RFC 3261 as they are
pub invite_server_3261_is_coded : IsCoded invite_server_3261 invite_server_3261_told invite_server_3261_coded
invite_server_3261_is_coded =
    record {
      is_figure = invite_server_3261_is_figure;
      apart = invite_server_3261_apart;
      by_names = invite_server_3261_by_names;
      window_same = invite_server_3261_window_same;
      closes_same = invite_server_3261_closes_same;
      named = invite_server_3261_named;
      -- idle and ended are those of the figure, name no message and are in range
      idle_is = λ texts. refl;
      ended_is = λ texts. refl;
      -- ended is idle
      ended_decided = inl refl;
      idle_fits = (refl, tt);
      ended_fits = (refl, tt);
      -- in words idle and ended tell no message
      idle_silent = refl;
      ended_silent = refl;
    }
