-- Laws of the data that phases have: messages, and optional numbers.
use Rattle.std.specs.Prelude.{◌≡◌, ℕ, true, Option, None, Some, [], ◌∷◌, All, nat_eq}
use Rattle.std.specs.Option.{option_eq}
use Rattle.std.proofs.Common.{refl, ap, arith}
use Rattle.std.proofs.lemmas.Bool.Decides.{nat_tests}
use Rattle.std.proofs.lemmas.List.Elements.{All-head}
use Rattle.sip_phases.specs.Texts.{Texts, IsBook, Keeps, text_of}

-- optional numbers that the test finds equal are the same
pub option_exact : (a b : Option ℕ) → option_eq nat_eq a b ≡ true → a ≡ b
option_exact None None e = refl
option_exact (Some x) (Some y) e = ap Some (grind (arith, nat_tests))
option_exact a b e = cc

-- messages of a book with the same bytes are the same one
pub message_apart : (texts : Texts) (m n : ℕ) → IsBook texts → All (Keeps texts) (m ∷ []) → All (Keeps texts) (n ∷ []) →
    text_of texts m ≡ text_of texts n → m ≡ n
message_apart texts m n book m_known n_known same = book.apart m n (All-head (Keeps texts) m [] m_known) (All-head (Keeps texts) n [] n_known) same
