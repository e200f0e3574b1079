-- The listing of an entry of a log: the states of the transactions that the entry concerns, RFC 3261 section 17.
use Rattle.std.specs.Prelude.{◌≡◌, ◌≤◌, ◌<◌, ◌⊎◌, ◌+◌, ◌&&◌, ℕ, true, Option, Some, None, IsSomeAnd, List, [], ◌∷◌, ◌++◌, if◌then◌else◌, codes, string_bytes, bytes_eq}
use Rattle.sip_standard.specs.Key.{KeyParts, same_key}
use Rattle.sip_standard.specs.Times.{Times}
use Rattle.sip_standard.specs.KeyMachine.{machine_of_key, transaction_of}
use Rattle.sip_standard.specs.Stands.{StandsAfter}
use Rattle.sip_standard.specs.LogEntry.{Item, has_message}
use Rattle.sip_standard.specs.LogSays.{LogEnd, Clean, LogSays}
use Rattle.sip_standard.specs.declared.verdict.Verdict.{Verdict}
use Rattle.sip_standard.specs.declared.verdict.Verdict.TheVariants.{Legal, Malformed, Breach, Undecided, LogFault}
use Rattle.sip_standard.specs.Observation.{Observation}
use Rattle.sip_standard.specs.VerdictOf.{keys_in, events_for, IsFirstKey, IsVerdictAfter, IsVerdictOf}
use Rattle.sip_standard.specs.StateText.{state_text}
use Rattle.sip_standard.specs.StateLines.{AreLinesOf}
use Rattle.sip_standard.specs.TransactionText.{transaction_text}
use Rattle.sip_standard.specs.declared.listing.Listing.{Listing}
use Rattle.sip_standard.specs.declared.listing.Listing.TheVariants.{Text, Stopped, NoEntry}
use Rattle.sip_standard.specs.Seen.{AreSeen}

-- the number, counted on from this one, of the first entry whose message has these bytes; 0 if there is none
abbrev pub entry_from : ℕ → List Item → List ℕ → ℕ
entry_from number [] text = 0
entry_from number (item ∷ items) text = if has_message item.action && bytes_eq item.text text then number else entry_from (number + 1) items text

-- the number of the first entry whose message has these bytes
abbrev pub first_entry : List Item → List ℕ → ℕ
first_entry items text = entry_from 1 items text

-- the text of a transaction that the entry after these concerns: its lines are of exactly the states in which a run can stand whose last step is the
-- entry's, whose messages have these numbers
pub record IsKeyText (p : Times) (number : List ℕ → ℕ) (front : List (Observation KeyParts)) (e : Observation KeyParts) (key : KeyParts) (text : List ℕ) : Type 0 where
  pub place : ℕ
  pub placed : IsFirstKey (λ k. same_key key k ≡ true) (keys_in (front ++ e ∷ [])) place
  pub lines : List (List ℕ)
  pub states : AreLinesOf (state_text (machine_of_key p.rules key) number) (StandsAfter (transaction_of (machine_of_key p.rules key)).figure p (events_for key front) e.event) lines
  pub whole : text ≡ transaction_text place key lines

-- the texts of the transactions with these keys, one after another
abbrev pub AreKeyTexts : Times → (List ℕ → ℕ) → List (Observation KeyParts) → Observation KeyParts → List KeyParts → List ℕ → Type 0
AreKeyTexts p number front e [] text = text ≡ []
AreKeyTexts p number front e (key ∷ keys) text =
    (first : List ℕ) × (more : List ℕ) × IsKeyText p number front e key first × AreKeyTexts p number front e keys more × (text ≡ first ++ more)

-- the text of the entry after these: its transactions, or that it concerns none
abbrev pub IsEntryText : Times → (List ℕ → ℕ) → List (Observation KeyParts) → Observation KeyParts → List KeyParts → List ℕ → Type 0
IsEntryText p number front e [] text = text ≡ codes "no transaction\n"
IsEntryText p number front e (key ∷ keys) text = AreKeyTexts p number front e (key ∷ keys) text

-- the text of the entry with this number, up to which the log is legal; a message is told by the number of the first entry of the whole log with its bytes
-- the input is a log of `items` and then `rest`; `front` and then e are what is observed of `items`, so that e is of the entry
pub record IsTextAt (input : List ℕ) (entry : ℕ) (text : List ℕ) : Type 0 where
  pub times : Times
  pub items : List Item
  pub rest : List Item
  pub end : LogEnd
  pub log : LogSays input times (items ++ rest) end
  pub transactions : ℕ
  pub legal : IsVerdictAfter times [] items Clean (Legal entry transactions)
  pub front : List (Observation KeyParts)
  pub e : Observation KeyParts
  pub seen : AreSeen [] items (front ++ e ∷ [])
  pub told : IsEntryText times (first_entry (items ++ rest)) front e e.keys text

-- the entry of a verdict, if it has one: that in trouble
abbrev pub trouble_of : Verdict → Option ℕ
trouble_of (Legal entries transactions) = None
trouble_of (Malformed entry fault) = Some entry
trouble_of (Breach entry transaction) = Some entry
trouble_of (Undecided entry transaction) = Some entry
trouble_of (LogFault entry reason) = Some entry

-- the listing of an entry of an input: its text, unless that entry or one before it is in trouble, which is the verdict; or that the log has no such
-- entry: one with a header has no entry 0, and a legal one none after its last
abbrev pub IsListingOf : List ℕ → ℕ → Listing → Type 0
IsListingOf input entry (Text text) = IsTextAt input entry (string_bytes text)
IsListingOf input entry (Stopped v) = IsVerdictOf input v × IsSomeAnd (trouble_of v) (λ k. k ≤ entry)
IsListingOf input entry NoEntry =
    ((entry ≡ 0) × ((times : Times) × (items : List Item) × (end : LogEnd) × LogSays input times items end))
    ⊎ ((entries : ℕ) × (transactions : ℕ) × IsVerdictOf input (Legal entries transactions) × (entries < entry))
