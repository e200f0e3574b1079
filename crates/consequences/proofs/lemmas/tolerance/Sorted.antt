-- What may be sent and what must be sent are not paid by one send: what the machines share of it.
-- In the lemmas x is the phase or the state before a step and y the state after it, k is the kind of a message, t a moment, c a change of debts and o a debt.
-- In cases of `Emits` a message that is sent has a row (`row`, `is_row`, `to`), or pays a debt (`left`, `pays`), or changes nothing (`stays`,
-- `same`), which only the INVITE server by RFC 3261 alone lets it (Stays). In cases of `Steps` a message that is received has a row, or has none and
-- changes nothing (`none`, `same`), and a restart leaves idle as it is (`idle`) and ends any other phase (`other`).
-- `Unit {0}` holds anyway, by `tt`.
use Rattle.std.proofs.Common.{ℕ, Bool, true, false, List, All, ◌≡◌, inl, inr, refl, sym, ◌∙◌, Decides, bytes_eq}
use Rattle.std.proofs.lemmas.List.Elements.{All-nil, All-filter, All-push, All-weaker}
use Rattle.sip_standard.specs.declared.kind.Kind.{Kind}
use Rattle.sip_standard.specs.Times.{Times}
use Rattle.sip_standard.specs.MachineEvent.{MachineEvent}
use Rattle.sip_standard.specs.Figure.{Change, Figure, keeps, softens, drops, gains, Owing, changed, quiet, Emits, Fails, Steps}
use Rattle.std.proofs.lemmas.Slice.Eq.{bytes_eq-Decides}
use Rattle.sip_standard.specs.declared.action.Action.{Action}
use Rattle.sip_standard.specs.declared.action.Action.TheVariants.{Sent, Received, Failed, Mark, Restart}
use Rattle.sip_standard.specs.Debts.{Owed}
use Rattle.sip_phases.proofs.debts.DebtLaws.{All-without}
use Rattle.consequences.proofs.lemmas.run.Running.{IsKept, left_at, stands-run, run-keeps}
use Rattle.consequences.proofs.lemmas.tolerance.Wider.{IsSorted}

-- two texts are the same, or they are not
pub same-bytes : (a b : List ℕ) → Dec (a ≡ b)
same-bytes a b = by (bytes_eq a b) (bytes_eq-Decides a b)
  where
    false-true : ¬ (false ≡ true)
    false-true same = cc

    -- it can be decided whether a is b, whichever the test of the texts answers
    by : (r : Bool) → Decides r (a ≡ b) → Dec (a ≡ b)
    by true is = yes (is.0 refl)
    by false is = no (λ same. false-true (is.1 same))

-- What follows is of clients: all that they owe must be sent.

-- the change makes nothing owed that only may be sent
abbrev pub IsFirm : Change → Type 0
IsFirm keeps = Unit {0}
IsFirm softens = ⊥
IsFirm drops = Unit {0}
IsFirm (gains true message) = Unit {0}
IsFirm (gains false message) = ⊥

-- no row of the figure makes anything owed that only may be sent
pub record AreFirm {X : Type 0} (f : Figure X) (p : Times) : Type 0 where
  pub received : (x : X) (k : Kind) (e : MachineEvent) (row : X × Change) → f.Receives p x k e row → IsFirm row.1
  pub sent : (x : X) (k : Kind) (e : MachineEvent) (row : X × Change) → f.Sends p x k e row → IsFirm row.1

-- What follows is of a machine that makes no debt that only may be sent: its figure f with the times p.
module _ {X : Type 0} (f : Figure X) (p : Times) (firm : AreFirm f p) where
  -- each debt must be sent
  abbrev AllMust : List Owed → Type 0
  AllMust owes = All (λ o. o.must ≡ true) owes

  -- where all debts must be sent, and a change makes none that only may be sent, all debts still must be sent after it
  must-changed : (t : ℕ) (c : Change) (owes : List Owed) → IsFirm c → AllMust owes → AllMust (changed p t c owes)
  must-changed t keeps owes is_firm all = all
  must-changed t softens owes is_firm all = absurd is_firm
  must-changed t drops owes is_firm all = All-nil (λ o. o.must ≡ true)
  must-changed t (gains true message) owes is_firm all = All-push (λ o. o.must ≡ true) owes _ all refl
  must-changed t (gains false message) owes is_firm all = absurd is_firm

  -- where all debts must be sent, they still must after a message was sent
  must-emits : (e : MachineEvent) (x y : Owing X) → AllMust x.owes → Emits f p e x y → AllMust y.owes
  must-emits e x y all (inl (row, is_row, to)) = rw to (must-changed e.moment row.1 x.owes (firm.sent x.phase e.kind e row is_row) all)
  must-emits e x y all (inr (inl (left, pays, to))) = rw to (All-without {X = Owed} _ (λ o. o.must ≡ true) x.owes left pays all)
  must-emits e x y all (inr (inr (stays, same))) = rw same all

  -- where all debts must be sent, they still must after the transport refused a message
  must-fails : (ends : Bool) (e : MachineEvent) (x y : Owing X) → AllMust x.owes → Fails ends f p e x y → AllMust y.owes
  must-fails true e x y all fails = rw fails.1 (All-nil (λ o. o.must ≡ true))
  must-fails false e x y all emits = must-emits e x y all emits

  -- where all debts must be sent, they still must after a step
  must-steps : (a : Action) (e : MachineEvent) (x y : Owing X) → AllMust x.owes → Steps f p a e x y → AllMust y.owes
  -- a received message changes the debts as its row says, or leaves them; what is sent or refused pays one
  must-steps Received e x y all (inl (row, is_row, to)) = rw to (must-changed e.moment row.1 x.owes (firm.received x.phase e.kind e row is_row) all)
  must-steps Received e x y all (inr (none, same)) = rw same all
  must-steps Sent e x y all emits = must-emits e x y all emits
  must-steps Failed e x y all fails = must-fails (f.ends_refused x.phase e.kind) e x y all fails
  -- a mark is no step, and after a restart nothing is owed
  must-steps Mark e x y all h = absurd h
  must-steps Restart e x y all (inl (idle, to)) = rw to (All-nil (λ o. o.must ≡ true))
  must-steps Restart e x y all (inr (other, to)) = rw to (All-nil (λ o. o.must ≡ true))

  -- where all debts must be sent, they still must as a run goes on
  must-kept : IsKept f p (λ es m y. AllMust y.owes)
  must-kept = record {
    as_it_waits = λ es h m x all low lasts. all;
    as_it_ends = λ es h x all may. All-nil (λ o. o.must ≡ true);
    as_it_takes = λ es e x y all take. must-steps e.action e (record { phase = x.phase; owes = left_at e x }) y (All-filter _ (λ o. o.must ≡ true) x.owes all) take;
  }

  -- a debt that must be sent is not one that only may be
  true-false : (o : Owed) → o.must ≡ true → ¬ (o.must ≡ false)
  true-false o must may = by (sym must ∙ may)
    where
      by : ¬ (true ≡ false)
      by same = cc

  -- a figure whose rows make nothing owed that only may be sent is sorted
  pub firm-sorted : IsSorted f p (λ es x message. ⊥)
  firm-sorted = record {
    sorted = λ es m y one stands. All-weaker (λ o. o.must ≡ true) (λ o. (o.must ≡ true → ¬ ⊥) × (o.must ≡ false → ⊥)) (λ o must. (λ is never. never, λ may. true-false o must may)) y.owes
        (run-keeps f p (λ es h x. AllMust x.owes) must-kept es (quiet f.idle) 0 m y (All-nil (λ o. o.must ≡ true)) (stands-run f p es m y stands));
    decides = λ es x k e message may. absurd may;
    alike = λ es x k e a b pays also may. may;
  }

-- false is not true
pub no-must : ¬ (false ≡ true)
no-must same = cc

-- true is not false
pub yes-must : ¬ (true ≡ false)
yes-must same = cc
