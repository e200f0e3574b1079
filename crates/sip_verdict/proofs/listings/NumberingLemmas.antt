-- Messages of a log have the number of the first entry with their bytes.
-- In the lemmas i and j are two entries, n is a number under which a message is kept, and ns are numbers of transactions.
use Rattle.std.specs.Str.{bytes_eq}
use Rattle.std.proofs.Common.{◌≡◌, ◌≢◌, ◌∙◌, ◌<◌, ◌+◌, ◌&&◌, ◌⊎◌, inl, inr, ℕ, Bool, true, false, Option, Some, None, IfNone, List, [], ◌∷◌, ◌++◌, All, cond, length, refl, sym, ap, subst, arith}
use Rattle.std.proofs.lemmas.Bool.{false_from_ne_true}
use Rattle.std.proofs.lemmas.Slice.Eq.{bytes_eq-Decides}
use Rattle.std.proofs.lemmas.List.Elements.{All-nil, All-head, All-tail, All-push, All-weaker}
use Rattle.sip_machine.specs.Texts.{Texts, Keeps, IsBook, text_of}
use Rattle.sip_machine.proofs.texts.TextLaws.{Contains-nil, Keeps-grow, Keeps-added, Keeps-grow_cases, text_of-grow, text_of-added}
use Rattle.sip_standard.specs.LogEntry.{Item, has_message}
use Rattle.sip_standard.specs.declared.verdict.Verdict.{Verdict}
use Rattle.sip_standard.specs.ListingOf.{entry_from, first_entry}
use Rattle.sip_verdict.specs.Entries.{ConcernsNone}
use Rattle.sip_verdict.specs.inner.Numbering.{AreNumbered, StaysNumbered, AppendsListing, AppendsEach, IsListingText}
use Rattle.sip_states.specs.Tables.{Tabled}
use Rattle.sip_verdict.proofs.judges.ObservingLemmas.{none_alike}

-- the entry has a message with these bytes
abbrev pub carries : Item → List ℕ → Bool
carries item text = has_message item.action && bytes_eq item.text text

-- where no item carries the bytes, and the next one does, the first entry with the bytes is the next one
pub entry_from-next : (number : ℕ) (items : List Item) (item : Item) (text : List ℕ) → All (λ i. carries i text ≡ false) items → carries item text ≡ true
    → entry_from number (items ++ item ∷ []) text ≡ number + length items
entry_from-next number [] item text none it = rw it (omega arith)
entry_from-next number (i ∷ items) item text none it =
    rw (All-head (λ i. carries i text ≡ false) i items none)
    (entry_from-next (number + 1) items item text (All-tail (λ i. carries i text ≡ false) i items none) it ∙ omega arith)

-- where a number or x, by a flag, is not 0, it stays when y stands in place of x, if y is x wherever x is not 0
chosen : (b : Bool) (number x y : ℕ) → (x ≢ 0 → y ≡ x) → cond b number x ≢ 0 → cond b number y ≡ cond b number x
chosen true number x y more some = refl
chosen false number x y more some = more some

-- bytes that an item carries keep the number of their first entry when more entries come
-- where there is no item, none carries the bytes; the first item that carries them is the same with more items after it
pub entry_from-kept : (number : ℕ) (items more : List Item) (text : List ℕ) → entry_from number items text ≢ 0 → entry_from number (items ++ more) text ≡ entry_from number items text
entry_from-kept number [] more text some = absurd (some refl)
entry_from-kept number (i ∷ items) more text some =
    chosen (carries i text) number (entry_from (number + 1) items text) (entry_from (number + 1) (items ++ more) text) (λ found. entry_from-kept (number + 1) items more text found) some

-- where a book numbers the messages of entries, each message keeps its number when more entries come
pub stay_numbered : (items more : List Item) (texts : Texts) → AreNumbered items texts → (n : ℕ) → Keeps texts n → first_entry (items ++ more) (text_of texts n) ≡ n
stay_numbered items more texts a n keeps =
    entry_from-kept 1 items more (text_of texts n) (λ none. let zero_is : n ≡ 0 = sym (a.numbered n keeps) ∙ none in absurd (let low = a.some n keeps in omega (arith, zero_is, low)))
    ∙ a.numbered n keeps

-- What follows is of the book `old`, which numbers the entries of the items, and of one item i more.
module _ (items : List Item) (i : Item) (old : Texts) (a : AreNumbered items old) where
  -- where the item concerns no key, or the book has its message already, the book numbers the entries with the item too
  same_book : (¬ ConcernsNone i → (n : ℕ) × Keeps old n × (text_of old n ≡ i.text)) → AreNumbered (items ++ i ∷ []) old
  same_book kept = record {
    -- no number of the book is 0, each is that of the first entry with its bytes, and each entry that concerns a key has its message there
    some = a.some;
    numbered = stay_numbered items (i ∷ []) old a;
    kept = All-push (λ j. ¬ ConcernsNone j → (n : ℕ) × Keeps old n × (text_of old n ≡ j.text)) items i a.kept kept;
  }

  -- What follows is of an item whose message is new in the book: it gets this number, which is the number of its entry.
  module _ (number : ℕ) (counts : number ≡ length items + 1) (says : has_message i.action ≡ true) (some : ¬ ConcernsNone i) (below : (n : ℕ) → Keeps old n → n < number) (book : IsBook (old ++ (number, i.text) ∷ [])) where
    -- an earlier item does not carry the bytes of the new message
    absent : (j : Item) → (¬ ConcernsNone j → (n : ℕ) × Keeps old n × (text_of old n ≡ j.text)) → carries j i.text ≡ false
    absent j kept = by (has_message j.action) refl
      where
        -- the message of j is not that of i
        differ : has_message j.action ≡ true → bytes_eq j.text i.text ≡ true → ⊥
        differ is same =
            -- the item j has the same bytes, so that it concerns a key as i does, and the old book has its message
            let bytes = (bytes_eq-Decides j.text i.text).0 same in
            let k = kept (λ none. some (none_alike j i bytes is says none)) in
            -- the bytes of both would be the same, and so would the numbers
            let text : text_of (old ++ (number, i.text) ∷ []) k.0 ≡ text_of (old ++ (number, i.text) ∷ []) number =
            text_of-grow old number i.text k.0 k.1 ∙ k.2 ∙ bytes ∙ sym (text_of-added old number i.text below) in
            let one = book.apart k.0 number (Keeps-grow old number i.text k.0 k.1) (Keeps-added old number i.text) text in
            let low = below k.0 k.1 in
            omega (arith, one, low)

        -- the earlier item does not have the new message, whether or not it has one
        by : (b : Bool) → has_message j.action ≡ b → (b && bytes_eq j.text i.text) ≡ false
        by false is = refl
        by true is = false_from_ne_true (bytes_eq j.text i.text) (differ is)

    -- the book with the new message numbers the entries with the item too
    more_book : AreNumbered (items ++ i ∷ []) (old ++ (number, i.text) ∷ [])
    more_book = record {
      some = λ n keeps. elim (Keeps-grow_cases old number i.text n keeps) [ inl k ↦ a.some n k | inr e ↦ omega (arith, counts, e) ];
      -- the number of a message is that of the first entry with its bytes
      numbered = λ n keeps. elim (Keeps-grow_cases old number i.text n keeps) [
        | inl k ↦ ap (first_entry (items ++ i ∷ [])) (text_of-grow old number i.text n k) ∙ stay_numbered items (i ∷ []) old a n k
        | inr e ↦
            ap (first_entry (items ++ i ∷ [])) (sym (ap (text_of (old ++ (number, i.text) ∷ [])) e) ∙ text_of-added old number i.text below)
            ∙ (entry_from-next 1 items i i.text (All-weaker (λ j. ¬ ConcernsNone j → (n : ℕ) × Keeps old n × (text_of old n ≡ j.text)) (λ j. carries j i.text ≡ false) absent items a.kept)
            (ap (λ b. b && bytes_eq i.text i.text) says ∙ (bytes_eq-Decides i.text i.text).1 refl) ∙ omega (arith, counts, e))
      ];
      -- each item that concerns something has its message in the book
      kept = All-push (λ j. ¬ ConcernsNone j → (n : ℕ) × Keeps (old ++ (number, i.text) ∷ []) n × (text_of (old ++ (number, i.text) ∷ []) n ≡ j.text)) items i
          (All-weaker (λ j. ¬ ConcernsNone j → (n : ℕ) × Keeps old n × (text_of old n ≡ j.text))
          (λ j. ¬ ConcernsNone j → (n : ℕ) × Keeps (old ++ (number, i.text) ∷ []) n × (text_of (old ++ (number, i.text) ∷ []) n ≡ j.text))
          (λ j kept is. (let k = kept is in (k.0, Keeps-grow old number i.text k.0 k.1, text_of-grow old number i.text k.0 k.1 ∙ k.2))) items a.kept)
          (λ is. (number, Keeps-added old number i.text, text_of-added old number i.text below));
    }

-- a book without messages numbers the messages of no entries
pub numbered_start : (texts : Texts) → texts ≡ [] → AreNumbered [] texts
numbered_start texts none = subst (AreNumbered []) (sym none) (record {
  some = λ n keeps. absurd (Contains-nil n keeps);
  numbered = λ n keeps. absurd (Contains-nil n keeps);
  kept = All-nil (λ j. ¬ ConcernsNone j → (n : ℕ) × Keeps [] n × (text_of [] n ≡ j.text));
})

-- where an entry concerns no key, a book that is left as it was is numbered on
pub numbered_none : (i : Item) (number : ℕ) (old new : Texts) → ConcernsNone i → new ≡ old → StaysNumbered i number old new
numbered_none i number old new none same items a counts =
    subst (AreNumbered (items ++ i ∷ [])) (sym same) (same_book items i old a (λ some. absurd (some none)))

-- where an entry is heard, a book that has its message, or takes it in under the entry's number, is numbered on
-- the book is as before, and has the message already; or it has taken it in
pub numbered_heard : (i : Item) (number name : ℕ) (old new : Texts) → has_message i.action ≡ true → ¬ ConcernsNone i → Keeps new name → text_of new name ≡ i.text → ((n : ℕ) → Keeps old n → n < number) → IsBook new
    → (new ≡ old) ⊎ (new ≡ old ++ (number, i.text) ∷ []) → StaysNumbered i number old new
numbered_heard i number name old new says some keeps is below book (inl same) items a counts =
    subst (AreNumbered (items ++ i ∷ [])) (sym same) (same_book items i old a (λ has. (name, subst (λ t. Keeps t name) same keeps, subst (λ t. text_of t name ≡ i.text) same is)))
numbered_heard i number name old new says some keeps is below book (inr more) items a counts =
    subst (AreNumbered (items ++ i ∷ [])) (sym more) (more_book items i old a number counts says some below (subst IsBook more book))

-- what holds in any case holds where there is no trouble
pub unless_trouble : (P : Type 0) (verdict : Option Verdict) → P → IfNone verdict P
unless_trouble P None p = p
unless_trouble P (Some v) p = tt

-- What follows is of the texts of transactions.

-- where the listings of some transactions were appended, and then that of one more, the listings of all of these were
-- ns are the numbers of the transactions, n is that of the one more, and t are the tables
pub appends_more : (t : Tabled) (ns : List ℕ) (n : ℕ) (old mid new : List ℕ) → AppendsEach t ns old mid → AppendsListing t n mid new → AppendsEach t (ns ++ n ∷ []) old new
appends_more t [] n old mid new same one = (new, subst (λ x. AppendsListing t n x new) same one, refl)
appends_more t (m ∷ ns) n old mid new (between, first, rest) one = (between, first, appends_more t ns n between mid new rest one)

-- the listings of one transaction or more, appended to nothing, are the text of these transactions
pub text_of_some : (t : Tabled) (ns : List ℕ) (text : List ℕ) → ns ≢ [] → AppendsEach t ns [] text → IsListingText t ns text
text_of_some t [] text some appends = absurd (some refl)
text_of_some t (n ∷ ns) text some appends = appends
