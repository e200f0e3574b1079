-- An idle transaction lasts for ever and does not end; and what lasts until a moment lasts until one before it.
use Rattle.std.proofs.Common.{◌≡◌, ◌≤◌, ℕ, true, Option, Some, None, IfSome, IsSomeAnd, subst, arith}
use Rattle.std.proofs.lemmas.List.Elements.{All-weaker}
use Rattle.sip_standard.specs.Times.{Times}
use Rattle.sip_standard.specs.Figure.{Figure, Owing, quiet, Lasts, MayEnd}
use Rattle.sip_machine.specs.FigureRules.{IsFigure}
use Rattle.sip_phases.proofs.states.FigureLaws.{rules_lawful}
use Rattle.sip_standard.specs.KeyMachine.{MachineKind, transaction_of}
use Rattle.sip_states.proofs.keyed.KeySetLaws.{coded_holds}
use Rattle.sip_states.proofs.runs.StandsLemmas.{lasts-waits}
use Rattle.sip_states.proofs.sets.Waiting.{IsWithin-none}

-- What follows is of a machine by its figure f with the times p.
module _ {X : Type 0} (f : Figure X) (is : IsFigure f) (p : Times) where
  -- idle lasts for ever
  first_lasts : (m : ℕ) → Lasts f p (quiet f.idle) m
  first_lasts m = (lasts-waits f is p (quiet f.idle) m).1 (IsWithin-none m _ (rules_lawful f is p).first_stays)

  -- a transaction cannot end in the first state
  first_stays : (m : ℕ) → ¬ (MayEnd f p (quiet f.idle) m)
  first_stays m may = subst (λ window. IsSomeAnd window (λ w. w.0 ≤ m)) (is.idle_has_no_end p) may.0

-- What follows is of a machine by its figure f with the times p.
module _ {X : Type 0} (f : Figure X) (p : Times) where
  -- where a moment is within a window, an earlier one does not come after the window's close
  earlier_in_window : (h m : ℕ) → h ≤ m → (window : Option (ℕ × Option ℕ)) → IfSome window (λ w. IfSome w.1 (λ close. m ≤ close)) → IfSome window (λ w. IfSome w.1 (λ close. h ≤ close))
  earlier_in_window h m low None lasts = tt
  earlier_in_window h m low (Some (from, None)) lasts = tt
  earlier_in_window h m low (Some (from, Some to)) lasts = omega (arith, low, lasts)

  -- what lasts until a moment lasts until each earlier one
  -- x is the state, h the earlier moment and m the later one
  pub lasts_earlier : (x : Owing X) (h m : ℕ) → h ≤ m → Lasts f p x m → Lasts f p x h
  lasts_earlier x h m low (closes, sends, owed) = (
    earlier_in_window h m low (f.window p x.phase) closes,
    All-weaker (λ last. m ≤ last) (λ last. h ≤ last) (λ last high. omega (arith, low, high)) (f.sends_by p x.phase) sends,
    All-weaker (λ owed. owed.must ≡ true → m ≤ owed.deadline) (λ owed. owed.must ≡ true → h ≤ owed.deadline) (λ owed high must. let later = high must in omega (arith, low, later)) x.owes owed,
  )

-- for each of the machines, idle lasts for ever
pub idle_lasts : (kind : MachineKind) (p : Times) (m : ℕ) → Lasts (transaction_of kind).figure p (quiet (transaction_of kind).figure.idle) m
idle_lasts kind p = first_lasts (transaction_of kind).figure (coded_holds kind).is_figure p

-- for each of the machines, no transaction ends in idle
pub idle_stays : (kind : MachineKind) (p : Times) (m : ℕ) → ¬ (MayEnd (transaction_of kind).figure p (quiet (transaction_of kind).figure.idle) m)
idle_stays kind p = first_stays (transaction_of kind).figure (coded_holds kind).is_figure p
