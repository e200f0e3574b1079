-- What the code tells of debts, by the numbers that messages have in a book, is what is told of the debts that these stand for.
use Rattle.std.specs.Prelude.{◌≡◌, ◌++◌, ℕ, List, [], ◌∷◌}
use Rattle.std.proofs.Common.{refl, ap₂}
use Rattle.std.proofs.lemmas.List.Elements.{All-head, All-tail}
use Rattle.sip_ledger.specs.declared.debt.Debt.{Debt}
use Rattle.sip_machine.specs.Texts.{Texts, text_of}
use Rattle.sip_machine.specs.Owes.{owes_names, owes_seen}
use Rattle.sip_standard.specs.StateText.{owed_field, owes_fields}
use Rattle.sip_listing.specs.Lists.{Tells}
use Rattle.sip_listing.specs.inner.FieldWords.{debts_fields}

-- where messages are told by their numbers in the book, the first of some numbers is the one by which its message is told
pub first_told : (number : List ℕ → ℕ) (texts : Texts) (name : ℕ) (names : List ℕ) → Tells number texts (name ∷ names) →
    number (text_of texts name) ≡ name
first_told number texts name names told = All-head (λ name. number (text_of texts name) ≡ name) name names told

-- where messages are told by their numbers in the book, so are those after the first
pub others_told : (number : List ℕ → ℕ) (texts : Texts) (name : ℕ) (names : List ℕ) → Tells number texts (name ∷ names) → Tells number texts names
others_told number texts name names told = All-tail (λ name. number (text_of texts name) ≡ name) name names told

-- where messages are told by their numbers in the book, the debts of the code are told in the words of the debts that they stand for
pub debts_told : (number : List ℕ → ℕ) (texts : Texts) (debts : List Debt) →
    Tells number texts (owes_names debts) → owes_fields number (owes_seen texts debts) ≡ debts_fields debts
debts_told number texts [] told = refl
debts_told number texts (debt ∷ debts) told =
    -- the first debt is told by the number of its message, and so are the others
    ap₂ (λ message more. owed_field message debt.deadline debt.must ++ more) (first_told number texts debt.message (owes_names debts) told)
    (debts_told number texts debts (others_told number texts debt.message (owes_names debts) told))
