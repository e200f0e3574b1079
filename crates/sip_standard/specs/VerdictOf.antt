-- The verdict of an input, its messages being those of RFC 3261.
use Rattle.std.specs.Prelude.{◌≡◌, ◌≢◌, ◌+◌, ◌<◌, ◌⊎◌, ℕ, true, Some, None, MatchOption, List, [], ◌∷◌, ◌++◌, length, map, filter, fold, flat_map, if◌then◌else◌, All, AllPairs}
use Rattle.std.specs.List.{list_any}
use Rattle.sip_standard.specs.Key.{KeyParts, same_key}
use Rattle.sip_standard.specs.Times.{Times}
use Rattle.sip_standard.specs.MachineEvent.{MachineEvent}
use Rattle.sip_standard.specs.Figure.{Owing}
use Rattle.sip_standard.specs.KeyMachine.{machine_of_key, transaction_of}
use Rattle.sip_standard.specs.Stands.{Stands, StandsAfter}
use Rattle.sip_standard.specs.LogEntry.{Item}
use Rattle.sip_standard.specs.LogSays.{LogEnd, Clean, Stops, LogSays, LacksHeader}
use Rattle.sip_standard.specs.declared.verdict.Verdict.{Verdict}
use Rattle.sip_standard.specs.declared.verdict.Verdict.TheVariants.{Legal, Malformed, Breach, Undecided, LogFault}
use Rattle.sip_standard.specs.declared.log_reason.LogReason.TheVariants.{Header}
use Rattle.sip_standard.specs.Observation.{Observation, direction_of, silent_observation, ObservesMessage}

-- the keys of the entries, in the order of their first appearance
abbrev pub keys_in : List (Observation KeyParts) → List KeyParts
keys_in es = fold (λ keys key. if list_any (same_key key) keys then keys else keys ++ key ∷ []) [] (flat_map (λ e. e.keys) es)

-- what is observed of an entry after these; where it has no message, it is a mark or a restart, which concerns the keys of all of them
abbrev pub Sees : List (Observation KeyParts) → Item → Observation KeyParts → Type 0
Sees es item e =
    MatchOption (direction_of item.action) (e ≡ silent_observation item.action item.moment (keys_in es)) (λ direction. ObservesMessage direction item e)

-- the events of the entries that concern the key, in order
abbrev pub events_for : KeyParts → List (Observation KeyParts) → List MachineEvent
events_for key es = map (λ e. e.event) (filter (λ e. list_any (same_key key) e.keys) es)

-- the key has a run over the entries, by the machine of its role and method (RFC 3261 section 17), which waits until the newest
abbrev pub RunsOver : Times → List (Observation KeyParts) → KeyParts → Type 0
RunsOver p es key =
    let key_machine = transaction_of (machine_of_key p.rules key) in
    (y : Owing key_machine.Phase) × Stands key_machine.figure p (events_for key es) (fold (λ moment e. e.event.moment) 0 es) y

-- how many last states of a run are followed (own: where there are more, the log is undecided)
abbrev pub widest : ℕ
widest = 1024

-- P holds of more states than are followed
abbrev pub IsWide : {X : Type 0} → (X → Type 0) → Type 0
IsWide {X} P = (many : List X) × AllPairs (λ x y. x ≢ y) many × (widest < length many) × All P many

-- the entry after these concerns the key, and its runs that end with the entry's step can stand in more than 1,024 states
abbrev pub IsWideAt : Times → List (Observation KeyParts) → Observation KeyParts → KeyParts → Type 0
IsWideAt p front e key =
    let key_machine = transaction_of (machine_of_key p.rules key) in
    (list_any (same_key key) e.keys ≡ true) × IsWide (StandsAfter key_machine.figure p (events_for key front) e.event)

-- the number, from 1, of the first key of which P holds
abbrev pub IsFirstKey : (KeyParts → Type 0) → List KeyParts → ℕ → Type 0
IsFirstKey P keys number =
    (before : List KeyParts) × (key : KeyParts) × (rest : List KeyParts)
    × (keys ≡ before ++ key ∷ rest) × P key × All (λ k. ¬ (P k)) before × (number ≡ length before + 1)

-- the verdict of the entry after these, which is in trouble: its fault, else the first key without a run, else the first that is too wide
abbrev pub HasTrouble : Times → List (Observation KeyParts) → Observation KeyParts → Verdict → Type 0
HasTrouble p front e (Malformed entry fault) = (entry ≡ length front + 1) × (e.fault ≡ Some fault)
HasTrouble p front e (Breach entry transaction) =
    (entry ≡ length front + 1) × (e.fault ≡ None) × IsFirstKey (λ key. ¬ (RunsOver p (front ++ e ∷ []) key)) (keys_in (front ++ e ∷ [])) transaction
HasTrouble p front e (Undecided entry transaction) =
    (entry ≡ length front + 1) × (e.fault ≡ None) × All (RunsOver p (front ++ e ∷ [])) (keys_in (front ++ e ∷ []))
    × IsFirstKey (IsWideAt p front e) (keys_in (front ++ e ∷ [])) transaction
HasTrouble p front e v = ⊥

-- the entry after these is in no trouble: its message has no fault, each transaction so far has a run that takes it too, and none is too wide at it
pub record IsFine (p : Times) (front : List (Observation KeyParts)) (e : Observation KeyParts) : Type 0 where
  pub formed : e.fault ≡ None
  pub runs : All (RunsOver p (front ++ e ∷ [])) (keys_in (front ++ e ∷ []))
  pub narrow : All (λ key. ¬ (IsWideAt p front e key)) (keys_in (front ++ e ∷ []))

-- the verdict of the entries that are left and of how they end, after others in no trouble: that the log is legal, or that the next entry
-- cannot be read; or that of the next entry, if it is in trouble, and if it is not, that of what is left after it
abbrev pub IsVerdictAfter : Times → List (Observation KeyParts) → List Item → LogEnd → Verdict → Type 0
IsVerdictAfter p es [] Clean v = v ≡ Legal (length es) (length (keys_in es))
IsVerdictAfter p es [] (Stops fault) v = v ≡ LogFault (length es + 1) fault
IsVerdictAfter p es (item ∷ items) end v =
    (e : Observation KeyParts) × Sees es item e × (HasTrouble p es e v ⊎ (IsFine p es e × IsVerdictAfter p (es ++ e ∷ []) items end v))

-- the verdict of an input, its messages being those of RFC 3261: that of its header, or of its entries
abbrev pub IsVerdictOf : List ℕ → Verdict → Type 0
IsVerdictOf input v =
    (LacksHeader input × (v ≡ LogFault 0 Header))
    ⊎ ((p : Times) × (items : List Item) × (end : LogEnd) × LogSays input p items end × IsVerdictAfter p [] items end v)
