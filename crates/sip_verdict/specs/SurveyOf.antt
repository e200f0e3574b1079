-- The survey of an input: all that is wrong in its log, each transaction being judged for itself.
use Rattle.std.specs.Prelude.{◌≡◌, ◌↔◌, ◌+◌, ◌<◌, ◌⊎◌, ℕ, Some, List, [], ◌∷◌, ◌++◌, length, Contains, AllPairs, ⊤}
use Rattle.sip_standard.specs.Key.{KeyParts}
use Rattle.sip_standard.specs.Times.{Times}
use Rattle.sip_standard.specs.LogEntry.{Item}
use Rattle.sip_standard.specs.LogSays.{LogEnd, Clean, Stops, LogSays, LacksHeader}
use Rattle.sip_verdict.specs.declared.finding.Finding.{Finding}
use Rattle.sip_verdict.specs.declared.finding.Finding.TheVariants.{Malformed, Breach, Undecided}
use Rattle.sip_verdict.specs.declared.survey_end.SurveyEnd.{SurveyEnd}
use Rattle.sip_standard.specs.declared.log_reason.LogReason.TheVariants.{Header}
use Rattle.sip_standard.specs.declared.verdict.Verdict.{Verdict}
use Rattle.sip_standard.specs.Observation.{Observation}
use Rattle.sip_standard.specs.VerdictOf.{keys_in, Sees, RunsOver, IsWideAt}
use Rattle.sip_verdict.specs.declared.survey_end.SurveyEnd.TheVariants as ended
use Rattle.sip_standard.specs.declared.verdict.Verdict.TheVariants as verdicts

-- the transaction is in no trouble over the entries: it has a run over them, and it was too wide at none of them
abbrev pub IsSound : Times → List (Observation KeyParts) → KeyParts → Type 0
IsSound p es key =
    RunsOver p es key
    × ((front : List (Observation KeyParts)) (e : Observation KeyParts) (rest : List (Observation KeyParts)) → es ≡ front ++ e ∷ rest → ¬ (IsWideAt p front e key))

-- the transaction breaks at the entry e after these: it was in no trouble before, and has no run over them and e
abbrev pub Breaks : Times → List (Observation KeyParts) → Observation KeyParts → KeyParts → Type 0
Breaks p front e key = IsSound p front key × ¬ (RunsOver p (front ++ e ∷ []) key)

-- from the entry e on the transaction is not followed: it was in no trouble before, and its runs that end with the step of e stand in more than 1,024 states
abbrev pub Widens : Times → List (Observation KeyParts) → Observation KeyParts → KeyParts → Type 0
Widens p front e key = IsSound p front key × IsWideAt p front e key

-- P holds of the key with this number, from 1
abbrev pub HoldsOf : (KeyParts → Type 0) → List KeyParts → ℕ → Type 0
HoldsOf P keys number =
    (before : List KeyParts) × (key : KeyParts) × (rest : List KeyParts) × (keys ≡ before ++ key ∷ rest) × P key × (number ≡ length before + 1)

-- what is found at the entry e after these: the fault of its message, a transaction that breaks, or one that is followed no further
abbrev pub IsFoundAt : Times → List (Observation KeyParts) → Observation KeyParts → Finding → Type 0
IsFoundAt p front e (Malformed entry fault) = (entry ≡ length front + 1) × (e.fault ≡ Some fault)
IsFoundAt p front e (Breach entry transaction) = (entry ≡ length front + 1) × HoldsOf (Breaks p front e) (keys_in (front ++ e ∷ [])) transaction
IsFoundAt p front e (Undecided entry transaction) = (entry ≡ length front + 1) × HoldsOf (Widens p front e) (keys_in (front ++ e ∷ [])) transaction

-- findings of one entry stand in order: the fault, then the breaches by number, then the transactions that are followed no further by number
abbrev pub Precedes : Finding → Finding → Type 0
Precedes (Malformed entry fault) (Breach n transaction) = ⊤
Precedes (Malformed entry fault) (Undecided n transaction) = ⊤
Precedes (Breach entry transaction) (Breach n other) = transaction < other
Precedes (Breach entry transaction) (Undecided n other) = ⊤
Precedes (Undecided entry transaction) (Undecided n other) = transaction < other
Precedes f g = ⊥

-- the findings of the entry e after these, each once and in order
abbrev pub AreFoundAt : Times → List (Observation KeyParts) → Observation KeyParts → List Finding → Type 0
AreFoundAt p front e found = AllPairs Precedes found × ((f : Finding) → Contains found f ↔ IsFoundAt p front e f)

-- what a survey finds at these items after these entries, item by item, and how they end
abbrev pub IsSurveyAfter : Times → List (Observation KeyParts) → List Item → LogEnd → List Finding → SurveyEnd → Type 0
IsSurveyAfter p es [] Clean found end = (found ≡ []) × (end ≡ ended.Clean (length es) (length (keys_in es)))
IsSurveyAfter p es [] (Stops fault) found end = (found ≡ []) × (end ≡ ended.LogFault (length es + 1) fault)
IsSurveyAfter p es (item ∷ items) close found end =
    (e : Observation KeyParts) × (here : List Finding) × (later : List Finding) × Sees es item e × (found ≡ here ++ later)
    × AreFoundAt p es e here × IsSurveyAfter p (es ++ e ∷ []) items close later end

-- the survey of an input by the profile of RFC 3261: its end where the header has a fault, and else what is found at its entries
abbrev pub IsSurveyOf : List ℕ → List Finding → SurveyEnd → Type 0
IsSurveyOf input found end =
    (LacksHeader input × (found ≡ []) × (end ≡ ended.LogFault 0 Header))
    ⊎ ((p : Times) × (items : List Item) × (close : LogEnd) × LogSays input p items close × IsSurveyAfter p [] items close found end)

-- a finding as a verdict, in the same words
abbrev pub verdict_of : Finding → Verdict
verdict_of (Malformed entry fault) = verdicts.Malformed entry fault
verdict_of (Breach entry transaction) = verdicts.Breach entry transaction
verdict_of (Undecided entry transaction) = verdicts.Undecided entry transaction

-- the verdict that a survey holds: its first finding, or, where nothing is found, how the log ended
abbrev pub verdict_in : List Finding → SurveyEnd → Verdict
verdict_in (f ∷ found) end = verdict_of f
verdict_in [] (ended.Clean entries transactions) = verdicts.Legal entries transactions
verdict_in [] (ended.LogFault entry reason) = verdicts.LogFault entry reason
