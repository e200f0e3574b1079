-- Laws of states, a phase with what it owes, that follow from those of phases.
-- In the lemmas x and y are two states, or x is a phase of the code and y the one for which it stands; a and b are two books.
use Rattle.std.specs.Prelude.{◌≡◌, ◌<◌, ◌^◌, ℕ, List, [], ◌++◌, Contains}
use Rattle.std.proofs.Common.{refl, sym, ◌∙◌, ap, ap₂}
use Rattle.std.proofs.lemmas.List.Elements.{All-nil, Contains-append_left, Contains-append_right}
use Rattle.sip_standard.specs.Times.{Times}
use Rattle.sip_phases.specs.Texts.{Texts, IsBook, Keeps, text_of}
use Rattle.sip_phases.specs.Rules.{Knows}
use Rattle.sip_ledger.specs.Debts.{earliest}
use Rattle.sip_phases.specs.Owes.{owes_names, OwesInRange}
use Rattle.sip_standard.specs.Figure.{Figure, quiet}
use Rattle.sip_phases.specs.FigureRules.{closes_at, window_of, until_of}
use Rattle.sip_phases.specs.Owing.{CodeOwing, owing_seen, owing_names}
use Rattle.sip_phases.proofs.debts.DebtLaws.{All-front, All-back}
use Rattle.sip_phases.proofs.debts.OwesLaws.{owes_apart, owes_seen_by_names, must_deadlines-seen, is_some-deadlines}

-- states with the same phase and the same debts are the same
owing_same : {S : Type 0} (x y : CodeOwing S) → x.phase ≡ y.phase → x.owes ≡ y.owes → x ≡ y
owing_same x y phase owes = let e : record { phase = x.phase; owes = x.owes } ≡ y = rw (phase, owes) in e

-- where phases that stand for the same are the same, states that stand for the same are
pub owing_apart : {S X : Type 0} (names : S → List ℕ) (seen : Texts → S → X) (texts : Texts) →
    ((x y : S) → IsBook texts → Knows names texts x → Knows names texts y → seen texts x ≡ seen texts y → x ≡ y) →
    (x y : CodeOwing S) → IsBook texts → Knows (owing_names names) texts x → Knows (owing_names names) texts y →
    owing_seen seen texts x ≡ owing_seen seen texts y → x ≡ y
owing_apart names seen texts apart x y book x_known y_known e =
    -- what the book keeps for a state is named by its phase, in front, and by its debts, after these: so the phases are the same, and the debts are
    owing_same x y
    (apart x.phase y.phase book (All-front (Keeps texts) (names x.phase) (owes_names x.owes) x_known)
    (All-front (Keeps texts) (names y.phase) (owes_names y.owes) y_known) (ap (λ z. z.phase) e))
    (owes_apart texts x.owes y.owes book (All-back (Keeps texts) (names x.phase) (owes_names x.owes) x_known)
    (All-back (Keeps texts) (names y.phase) (owes_names y.owes) y_known) (ap (λ z. z.owes) e))

-- where a phase stands for the same beside books that agree on what it names, so does a state
pub owing_by_names : {S X : Type 0} (names : S → List ℕ) (seen : Texts → S → X) (a b : Texts) →
    ((x : S) → ((n : ℕ) → Contains (names x) n → text_of a n ≡ text_of b n) → seen a x ≡ seen b x) →
    (x : CodeOwing S) → ((n : ℕ) → Contains (owing_names names x) n → text_of a n ≡ text_of b n) → owing_seen seen a x ≡ owing_seen seen b x
owing_by_names names seen a b by_names x agree =
    let phase = by_names x.phase (λ n has. agree n (Contains-append_left (names x.phase) (owes_names x.owes) n has)) in
    let owes = owes_seen_by_names a b x.owes (λ n has. agree n (Contains-append_right (names x.phase) (owes_names x.owes) n has)) in
    rw (phase, owes) refl

-- a phase of the code that owes nothing stands for the phase of the figure that owes nothing
pub quiet_stands : {S X : Type 0} (seen : Texts → S → X) (texts : Texts) (x : S) (y : X) → seen texts x ≡ y → quiet (seen texts x) ≡ quiet y
quiet_stands seen texts x y e = ap quiet e

-- a state that owes nothing names no message and is in range where its phase does and is
pub quiet_fits : {S : Type 0} (names : S → List ℕ) (InRange : S → Type 0) (x : S) → (names x ≡ []) × InRange x →
    ((names x ++ owes_names []) ≡ []) × (InRange x × OwesInRange [])
quiet_fits names InRange x fits = (rw fits.0 refl, (fits.1, All-nil (λ debt. debt.deadline < 2 ^ 50)))

-- the window of a state is the same beside each book where that of its phase is
pub window_same : {S X : Type 0} (f : Figure X) (seen : Texts → S → X) (a b : Texts) (p : Times) (x : CodeOwing S) →
    f.window p (seen a x.phase) ≡ f.window p (seen b x.phase) → window_of f p (owing_seen seen a x) ≡ window_of f p (owing_seen seen b x)
window_same f seen a b p x same = rw (← is_some-deadlines a x.owes, ← is_some-deadlines b x.owes, same) refl

-- where the timers of a phase are the same beside two books, the state may be waited in as long beside both
pub until_same : {S X : Type 0} (f : Figure X) (seen : Texts → S → X) (a b : Texts) (p : Times) (x : CodeOwing S) →
    closes_at f p (seen a x.phase) ≡ closes_at f p (seen b x.phase) → until_of f p (owing_seen seen a x) ≡ until_of f p (owing_seen seen b x)
until_same f seen a b p x same =
    ap₂ (λ closes deadlines. earliest (closes ++ deadlines)) same (must_deadlines-seen a x.owes ∙ sym (must_deadlines-seen b x.owes))
