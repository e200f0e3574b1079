-- Laws of each figure, by which its rules are those of a machine.
-- In the lemmas x is the state before a step, and y the state after it.
use Rattle.std.specs.Prelude.{◌≡◌, ◌≤◌, ℕ, Bool, true, false, List, [], ◌++◌, All}
use Rattle.std.proofs.Common.{ap, sym, ◌∙◌, inl, inr, arith}
use Rattle.std.proofs.lemmas.List.Elements.{All-nil, All-push}
use Rattle.sip_standard.specs.declared.action.Action.{Action}
use Rattle.sip_standard.specs.declared.action.Action.TheVariants.{Sent, Received, Failed, Mark, Restart}
use Rattle.sip_standard.specs.Times.{Times}
use Rattle.sip_standard.specs.Window.{close_at}
use Rattle.sip_times.specs.Limits.{IsWithin}
use Rattle.sip_standard.specs.MachineEvent.{MachineEvent}
use Rattle.sip_phases.specs.Rules.{IsLawful}
use Rattle.sip_standard.specs.Debts.{Owed}
use Rattle.sip_phases.specs.Deadlines.{unexpired}
use Rattle.sip_ledger.specs.Debts.{earliest}
use Rattle.sip_phases.proofs.debts.OwesLaws.{AreDue, AreDue-unexpired, AreDue-paid, AreDue-softened, IsWithin-owed}
use Rattle.sip_standard.specs.Figure.{Figure, Change, keeps, softens, drops, gains, Owing, changed, quiet, Follows, Repays, Emits, Fails, Steps}
use Rattle.sip_phases.specs.FigureRules.{IsFigure, closes_at, After, TakeOf, until_of, rules_of}

-- a row that keeps the debts, or softens them, does not drop them
pub keeps_them : {X : Type 0} {y : After X} {x : X} → y ≡ (x, keeps) → y.1 ≡ drops → ⊥
keeps_them is drop = let same : keeps ≡ drops = sym (ap (λ after. after.1) is) ∙ drop in cc

-- a row that softens the debts does not drop them
pub softens_them : {X : Type 0} {y : After X} {x : X} → y ≡ (x, softens) → y.1 ≡ drops → ⊥
softens_them is drop = let same : softens ≡ drops = sym (ap (λ after. after.1) is) ∙ drop in cc

-- The rules of a figure keep what each machine keeps.

-- where what must be sent has no deadline before t, it has none after a row at t either
AreDue-changed : (p : Times) (t : ℕ) (c : Change) (owes : List Owed) → AreDue t owes → AreDue t (changed p t c owes)
AreDue-changed p t keeps owes due = due
AreDue-changed p t softens owes due = AreDue-softened t owes
AreDue-changed p t drops owes due = All-nil (λ owed. owed.must ≡ true → t ≤ owed.deadline)
AreDue-changed p t (gains must message) owes due =
    All-push (λ owed. owed.must ≡ true → t ≤ owed.deadline) owes (record { message = message; deadline = close_at p t 0; must = must }) due (λ _. omega arith)

-- What follows is of a machine by its figure f with the times p.
module _ {X : Type 0} (f : Figure X) (is : IsFigure f) (p : Times) where
  -- the state lasts until t: t is past no timer of its phase, and past no deadline of what must be sent
  abbrev Lasts : Owing X → ℕ → Type 0
  Lasts x t = All (λ m. t ≤ m) (closes_at f p x.phase) × AreDue t x.owes

  -- the ended state lasts for ever
  quiet-lasts : (t : ℕ) → Lasts (quiet f.ended) t
  quiet-lasts t = (rw (is.ended_stays p) (All-nil (λ m. t ≤ m)), All-nil (λ owed. owed.must ≡ true → t ≤ owed.deadline))

  -- the idle state lasts for ever
  idle-lasts : (t : ℕ) → Lasts (quiet f.idle) t
  idle-lasts t = (rw (is.idle_stays p) (All-nil (λ m. t ≤ m)), All-nil (λ owed. owed.must ≡ true → t ≤ owed.deadline))

  -- a state that a received message leads to lasts until the event's moment
  received : (e : MachineEvent) (x y : Owing X) → Lasts x e.moment → Follows (f.Receives p x.phase e.kind e) p e x y → Lasts y e.moment
  received e x y lasts h = rw h.2 (is.received_waits p x.phase e.kind e h.0 lasts.0 h.1, AreDue-changed p e.moment (h.0).1 x.owes lasts.1)

  -- a state that a sent message leads to lasts until the event's moment
  sent : (e : MachineEvent) (x y : Owing X) → Lasts x e.moment → Follows (f.Sends p x.phase e.kind e) p e x y → Lasts y e.moment
  sent e x y lasts h = rw h.2 (is.sent_waits p x.phase e.kind e h.0 lasts.0 h.1, AreDue-changed p e.moment (h.0).1 x.owes lasts.1)

  -- a state in which a debt was paid lasts until the event's moment
  repaid : (e : MachineEvent) (x y : Owing X) → Lasts x e.moment → Repays f e x y → Lasts y e.moment
  repaid e x y lasts h = rw h.2 (lasts.0, AreDue-paid (f.Satisfies x.phase e.kind e) e.moment x.owes h.0 h.1 lasts.1)

  -- a state that lasts until a sent message leads by it to one that lasts until then
  emitted : (e : MachineEvent) (x y : Owing X) → Lasts x e.moment → Emits f p e x y → Lasts y e.moment
  emitted e x y lasts (inl turn) = sent e x y lasts turn
  emitted e x y lasts (inr (inl again)) = repaid e x y lasts again
  emitted e x y lasts (inr (inr stays)) = rw stays.1 lasts

  -- a state after a refused message lasts until the event's moment
  failed : (ends : Bool) (e : MachineEvent) (x y : Owing X) → Lasts x e.moment → Fails ends f p e x y → Lasts y e.moment
  failed true e x y lasts h = rw h.1 (quiet-lasts e.moment)
  failed false e x y lasts h = emitted e x y lasts h

  -- a state that lasts until an event leads by it to one that lasts until then
  -- a received message leads by its row or leaves the state; a mark leads nowhere; a restart leads from idle to idle, and from any other phase to the end
  stepped : (a : Action) (e : MachineEvent) (x y : Owing X) → Lasts x e.moment → Steps f p a e x y → Lasts y e.moment
  stepped Received e x y lasts h = elim h [ inl row ↦ received e x y lasts row | inr stays ↦ rw stays.1 lasts ]
  stepped Sent e x y lasts h = emitted e x y lasts h
  stepped Failed e x y lasts h = failed (f.ends_refused x.phase e.kind) e x y lasts h
  stepped Mark e x y lasts h = absurd h
  stepped Restart e x y lasts h = elim h [ inl rests ↦ rw rests.1 (idle-lasts e.moment) | inr ends ↦ rw ends.1 (quiet-lasts e.moment) ]

  -- a state that takes an event leads to one that lasts until the event
  taken : (x : Owing X) (e : MachineEvent) (y : Owing X) → TakeOf f p x e y → IsWithin e.moment (until_of f p y)
  taken x e y take =
      -- x lasts until the event, and so does `now`, the state x without what has expired; its step leads to y, which lasts as long
      let before = (IsWithin-owed e.moment (closes_at f p x.phase) x.owes).0 take.0 in
      let now : Owing X = record { phase = x.phase; owes = unexpired e.moment x.owes } in
      (IsWithin-owed e.moment (closes_at f p y.phase) y.owes).1 (stepped e.action e now y (before.0, AreDue-unexpired e.moment x.owes before.1) take.1)

  -- the rules of such a figure are lawful
  pub rules_lawful : IsLawful (rules_of f p)
  rules_lawful =
      -- an idle and an ended state owe nothing, so the least of their ends is that of the phase alone, which has none
      record {
        first_has_no_end = is.idle_has_no_end p;
        first_stays = ap (λ ms. earliest (ms ++ [])) (is.idle_stays p);
        ended_has_no_end = is.ended_has_no_end p;
        ended_stays = ap (λ ms. earliest (ms ++ [])) (is.ended_stays p);
        -- a step leads to a state that lasts until its event, and from one that does
        fresh = λ x e y take. taken x e y take;
        timely = λ x e y take. take.0;
      }
