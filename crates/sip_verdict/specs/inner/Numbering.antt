-- The book of a log's messages, and what is listed of one entry.
use Rattle.std.specs.Prelude.{◌≡◌, ◌<◌, ◌+◌, ◌-◌, ◌++◌, ◌∷◌, [], ℕ, Some, List, All, IsAscii, codes, length, slice_get, string_bytes}
use Rattle.sip_standard.specs.Key.{KeyParts}
use Rattle.sip_standard.specs.Times.{Times}
use Rattle.sip_machine.specs.Texts.{Texts, Keeps, text_of}
use Rattle.sip_states.specs.Tables.{Tabled}
use Rattle.sip_states.specs.declared.any_set.AnySet.{AnySet}
use Rattle.sip_standard.specs.LogEntry.{Item}
use Rattle.sip_standard.specs.TransactionText.{transaction_text}
use Rattle.sip_listing.specs.Lists.{Lists}
use Rattle.sip_standard.specs.declared.listing.Listing.{Listing}
use Rattle.sip_standard.specs.declared.listing.Listing.TheVariants.{Text, Stopped, NoEntry}
use Rattle.sip_standard.specs.Observation.{Observation}
use Rattle.sip_standard.specs.VerdictOf.{HasTrouble}
use Rattle.sip_verdict.specs.Entries.{ConcernsNone}
use Rattle.sip_verdict.specs.LegalLog.{IsGood}
use Rattle.sip_standard.specs.ListingOf.{first_entry, IsEntryText}

-- the book keeps the messages of these entries that concern a key, each under the number of the first that has it
pub record AreNumbered (items : List Item) (texts : Texts) : Type 0 where
  pub some : (n : ℕ) → Keeps texts n → 0 < n
  pub numbered : (n : ℕ) → Keeps texts n → first_entry items (text_of texts n) ≡ n
  pub kept : All (λ i. ¬ ConcernsNone i → (n : ℕ) × Keeps texts n × (text_of texts n ≡ i.text)) items

-- the book with the next entry, which has this number: it is as before, or keeps the message of this entry too
abbrev pub StaysNumbered : Item → ℕ → Texts → Texts → Type 0
StaysNumbered item number old new = (items : List Item) → AreNumbered items old → number ≡ length items + 1 → AreNumbered (items ++ item ∷ []) new

-- the text has grown by the listing of the transaction with this number
abbrev pub AppendsListing : Tabled → ℕ → List ℕ → List ℕ → Type 0
AppendsListing t n old new =
    (key : KeyParts) × (set : AnySet) × (lines : List (List ℕ)) × (slice_get t.keys (n - 1) ≡ Some key) × (slice_get t.sets (n - 1) ≡ Some set) × Lists set lines
    × (IsAscii key.method → new ≡ old ++ transaction_text n key lines)

-- the text has grown by the listings of the transactions with these numbers, one after another
abbrev pub AppendsEach : Tabled → List ℕ → List ℕ → List ℕ → Type 0
AppendsEach t [] old new = new ≡ old
AppendsEach t (n ∷ ns) old new = (between : List ℕ) × AppendsListing t n old between × AppendsEach t ns between new

-- this is the text of the transactions with these numbers; where there is no number it says that there is no transaction
abbrev pub IsListingText : Tabled → List ℕ → List ℕ → Type 0
IsListingText t [] text = text ≡ codes "no transaction\n"
IsListingText t (n ∷ ns) text = AppendsEach t (n ∷ ns) [] text

-- what is listed of the entry e after these: the text of its transactions where it is in no trouble, and else its verdict
abbrev pub IsListedEntry : Times → (List ℕ → ℕ) → List (Observation KeyParts) → Observation KeyParts → Listing → Type 0
IsListedEntry p number es e (Text text) = IsGood p (es ++ e ∷ []) × IsEntryText p number es e e.keys (string_bytes text)
IsListedEntry p number es e (Stopped v) = HasTrouble p es e v
IsListedEntry p number es e NoEntry = ⊥
