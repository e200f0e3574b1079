-- What a row of a server adds to the debts.
use Rattle.sip_machine.proofs.Words.{All-push, arith, nat_tests, ◌≡◌, ◌↔◌, ℕ, Bool, not, IsTrue, List, Texts, Keeps, text_of, Knows, Is100, After, gains, Replies, turn_seen, turn_names, TurnInRange, IsTheOne}
use Rattle.sip_machine.specs.declared.phases.Change.TheVariants as code

-- a turn with a new debt is the only one, where the book keeps its message beside what the phase names
pub Gains-one : {S X : Type 0} (names : S → List ℕ) (InRange : S → Type 0) (seen : Texts → S → X) (texts : Texts) (P : After X → Type 0)
    (x : S) (must : Bool) (message : ℕ) → ((y : After X) → P y ↔ (y ≡ (seen texts x, gains must (text_of texts message)))) →
    Knows names texts x → Keeps texts message → InRange x →
    IsTheOne (turn_names names) (TurnInRange InRange) (turn_seen seen) texts P (record { phase = x; change = code.Gains must message })
Gains-one names InRange seen texts P x must message only known kept fits =
    record {
      only = only;
      known = All-push (Keeps texts) (names x) message known kept;
      in_range = fits;
    }

-- where a request comes again, the turn that gains its last response anew is the only one
pub Replies-one : {S X : Type 0} (names : S → List ℕ) (InRange : S → Type 0) (seen : Texts → S → X) (texts : Texts) (x : S) (last : ℕ) (is : Bool) →
    IsTrue is ↔ Is100 (text_of texts last) → Knows names texts x → Keeps texts last → InRange x →
    IsTheOne (turn_names names) (TurnInRange InRange) (turn_seen seen) texts (Replies (seen texts x) (text_of texts last))
    (record { phase = x; change = code.Gains (not is) last })
Replies-one names InRange seen texts x last is tells known kept fits =
    Gains-one names InRange seen texts (Replies (seen texts x) (text_of texts last)) x (not is) last (λ y. grind (arith, nat_tests)) known kept fits
