-- The words in which the laws of surveys are said.
use Rattle.std.specs.Prelude.{◌≡◌, ◌↔◌, ◌⊎◌, ◌+◌, ◌≢◌, ℕ, Bool, true, false, List, [], ◌∷◌, ◌++◌, length, filter, All, Contains, ⊤}
use Rattle.sip_standard.specs.Key.{KeyParts}
use Rattle.sip_standard.specs.declared.action.Action.TheVariants.{Mark, Restart}
use Rattle.sip_standard.specs.Times.{Times}
use Rattle.sip_standard.specs.MachineEvent.{MachineEvent}
use Rattle.sip_standard.specs.Figure.{Owing, quiet}
use Rattle.sip_standard.specs.Stands.{Stands}
use Rattle.sip_standard.specs.KeyMachine.{MachineKind, machine_of_key, transaction_of}
use Rattle.sip_standard.specs.LogEntry.{Item}
use Rattle.sip_verdict.specs.declared.finding.Finding.{Finding}
use Rattle.sip_verdict.specs.declared.finding.Finding.TheVariants.{Malformed, Breach, Undecided}
use Rattle.sip_standard.specs.Observation.{Observation}
use Rattle.sip_standard.specs.Seen.{AreSeen}
use Rattle.sip_standard.specs.VerdictOf.{keys_in, events_for}
use Rattle.sip_verdict.specs.Entries.{newest_moment}
use Rattle.sip_verdict.specs.SurveyOf.{Breaks, Widens, HoldsOf}

-- What follows is of the transactions in trouble.

-- the finding is of the transaction with this number
abbrev pub IsFindingOf : ℕ → Finding → Type 0
IsFindingOf transaction (Malformed entry fault) = ⊥
IsFindingOf transaction (Breach entry number) = number ≡ transaction
IsFindingOf transaction (Undecided entry number) = number ≡ transaction

-- the findings have one of this kind of the key at the entry with this number, where keys have their numbers among those that are counted
abbrev pub Names : (ℕ → ℕ → Finding) → (List (Observation KeyParts) → List KeyParts) → List (Observation KeyParts) → List Finding → KeyParts → ℕ → Type 0
Names kind counted es found key entry =
    (front : List (Observation KeyParts)) × (e : Observation KeyParts) × (more : List (Observation KeyParts)) × (number : ℕ)
    × (es ≡ front ++ e ∷ more) × (entry ≡ length front + 1) × HoldsOf (λ k. k ≡ key) (counted (front ++ e ∷ [])) number × Contains found (kind entry number)

-- some finding names the key at one of the entries
abbrev pub AreAbout : List (Observation KeyParts) → List Finding → KeyParts → Type 0
AreAbout es found key = (entry : ℕ) × (Names (λ n t. Breach n t) keys_in es found key entry ⊎ Names (λ n t. Undecided n t) keys_in es found key entry)

-- What follows is of the log of some transactions.

-- an item stays where it concerns chosen keys alone, or is a restart; an item that concerns no chosen key becomes a mark of its moment
abbrev pub StaysOrIsMark : (KeyParts → Bool) → Item → Observation KeyParts → Item → Type 0
StaysOrIsMark chosen item e cut =
    ((cut ≡ item) × ((item.action ≡ Restart) ⊎ All (λ key. chosen key ≡ true) e.keys))
    ⊎ ((cut ≡ record { action = Mark; moment = item.moment; text = [] }) × All (λ key. chosen key ≡ false) e.keys)

-- the log of some keys: each item of the whole log stays in it or becomes a mark in it
abbrev pub IsCutLog : (KeyParts → Bool) → List Item → List (Observation KeyParts) → List Item → Type 0
IsCutLog chosen [] [] [] = ⊤
IsCutLog chosen (item ∷ items) (e ∷ es) (cut ∷ cuts) = StaysOrIsMark chosen item e cut × IsCutLog chosen items es cuts
IsCutLog chosen items es cuts = ⊥

-- the chosen keys of the entries, in the order of their first appearance
abbrev pub chosen_in : (KeyParts → Bool) → List (Observation KeyParts) → List KeyParts
chosen_in chosen es = filter chosen (keys_in es)

-- the item of the entry with this number is the same in both logs
abbrev pub StaysAt : List Item → List Item → ℕ → Type 0
StaysAt items cuts entry =
    (front : List Item) × (item : Item) × (rest : List Item) × (back : List Item) × (others : List Item)
    × (items ≡ front ++ item ∷ rest) × (cuts ≡ back ++ item ∷ others) × (entry ≡ length front + 1) × (length front ≡ length back)

-- an entry of a log that was cut has the moment of the entry for which it stands, the chosen ones of its keys, and its event where it has any of them
abbrev pub IsCutOf : (KeyParts → Bool) → Observation KeyParts → Observation KeyParts → Type 0
IsCutOf chosen e cut = (cut.event.moment ≡ e.event.moment) × (cut.keys ≡ filter chosen e.keys) × (cut.keys ≢ [] → cut.event ≡ e.event)

-- the entries `es` came after `old`, and the entries `others` after `left`: the key has the same trouble at entries of the same number in both
abbrev pub HasSameTroubleAfter : Times → (old left : List (Observation KeyParts)) → (es others : List (Observation KeyParts)) → KeyParts → Type 0
HasSameTroubleAfter p old left es others key =
    (front back : List (Observation KeyParts)) (e f : Observation KeyParts) (rest more : List (Observation KeyParts)) → es ≡ front ++ e ∷ rest → others ≡ back ++ f ∷ more
    → length front ≡ length back → (Breaks p (old ++ front) e key ↔ Breaks p (left ++ back) f key) × (Widens p (old ++ front) e key ↔ Widens p (left ++ back) f key)

-- the key has the same trouble in both logs, at the same entry
abbrev pub HasSameTrouble : Times → List (Observation KeyParts) → List (Observation KeyParts) → KeyParts → Type 0
HasSameTrouble p es cuts key = HasSameTroubleAfter p [] [] es cuts key

-- the key's runs over the first entries of both logs, as many of the one as of the other, stand in the same states at the newest moment
abbrev pub HasSameRuns : Times → List (Observation KeyParts) → List (Observation KeyParts) → KeyParts → Type 0
HasSameRuns p es cuts key =
    let key_machine = transaction_of (machine_of_key p.rules key) in
    (front back rest others : List (Observation KeyParts)) (x : Owing key_machine.Phase) → es ≡ front ++ rest → cuts ≡ back ++ others → length front ≡ length back
    → Stands key_machine.figure p (events_for key front) (newest_moment front) x ↔ Stands key_machine.figure p (events_for key back) (newest_moment back) x

-- what the log of some keys keeps of the whole log: the chosen keys in their order, and the runs and the trouble of each
pub record KeepsChosen (p : Times) (chosen : KeyParts → Bool) (es : List (Observation KeyParts)) (cuts : List Item) : Type 0 where
  pub seen : List (Observation KeyParts)
  pub are : AreSeen [] cuts seen
  pub keys : keys_in seen ≡ chosen_in chosen es
  pub runs : (key : KeyParts) → chosen key ≡ true → HasSameRuns p es seen key
  pub troubles : (key : KeyParts) → chosen key ≡ true → HasSameTrouble p es seen key

-- What follows is of a transaction that is over.

-- a run over the events of this machine stands at the moment in this phase without debts, and none stands in any other state
abbrev pub StandsOnlyIn : (kind : MachineKind) → Times → List MachineEvent → ℕ → (transaction_of kind).Phase → Type 0
StandsOnlyIn kind p events m phase =
    Stands (transaction_of kind).figure p events m (quiet phase)
    × ((x : Owing (transaction_of kind).Phase) → Stands (transaction_of kind).figure p events m x → x ≡ quiet phase)

-- the transaction of this machine is idle again
abbrev pub IsIdleAgain : MachineKind → Times → List MachineEvent → ℕ → Type 0
IsIdleAgain kind p events m = StandsOnlyIn kind p events m (transaction_of kind).figure.idle
