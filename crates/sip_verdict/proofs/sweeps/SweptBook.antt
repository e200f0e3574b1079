-- Each message of a book that was swept was kept before.
use Rattle.std.proofs.Common.{◌≡◌, ℕ, List, All, Contains, sym, subst}
use Rattle.std.proofs.lemmas.List.Elements.{All-map, All-weaker, All-contains, Contains-get_or}
use Rattle.sip_machine.specs.Texts.{Texts, IsBook, Keeps, text_of}
use Rattle.sip_machine.specs.Retained.{only}
use Rattle.sip_machine.proofs.texts.TextLaws.{text_of-at}
use Rattle.sip_states.proofs.lists.Listed.{Contains-map, Contains-from_map}

-- where the book has not changed, each of its messages was kept before
pub same_within : (old new : Texts) → new ≡ old → All (Contains old) new
same_within old new same = subst (λ texts. All (Contains old) texts) (sym same) (λ k d low. Contains-get_or old k d low)

-- a book has each number that it keeps with its message
keeps_text : (texts : Texts) → IsBook texts → (n : ℕ) → Keeps texts n → Contains texts (n, text_of texts n)
keeps_text texts book n keeps =
    -- t is what the book has with this number: the number and its message
    let (t, has, is) = Contains-from_map (λ k. k.0) texts n keeps in
    subst (λ m. Contains texts (m, text_of texts m)) is
    (subst (λ bytes. Contains texts (t.0, bytes)) (sym (text_of-at texts has.0 t book.rising has.1 (sym has.2))) has)

-- each message that a sweep leaves was kept before
pub only_within : (texts : Texts) → IsBook texts → (numbers : List ℕ) → All (Keeps texts) numbers → All (Contains texts) (only numbers texts)
only_within texts book numbers kept =
    All-map (Contains texts) (λ n. (n, text_of texts n)) numbers (All-weaker (Keeps texts) (λ n. Contains texts (n, text_of texts n)) (keeps_text texts book) numbers kept)

-- where each message of the new book was kept before, each of its numbers was
pub within_keeps : (old new : Texts) → All (Contains old) new → (n : ℕ) → Keeps new n → Keeps old n
within_keeps old new within n keeps =
    let (t, has, is) = Contains-from_map (λ k. k.0) new n keeps in
    subst (Keeps old) is (Contains-map (λ k. k.0) old t (All-contains (Contains old) new t within has))
