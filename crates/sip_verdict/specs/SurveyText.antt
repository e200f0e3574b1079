-- The text of a survey: a line for each finding as its entry passes, and a last line.
use Rattle.std.specs.Prelude.{◌≡◌, ◌++◌, ◌∷◌, [], ℕ, Bool, true, false, List, length, filter, codes, decimal, ◌+◌, ◌⊎◌, Option, None, Some, All}
use Rattle.sip_standard.specs.LogSays.{line_feed, LogEnd, LogSays, LacksHeader}
use Rattle.sip_verdict.specs.declared.finding.Finding.{Finding}
use Rattle.sip_verdict.specs.declared.finding.Finding.TheVariants.{Malformed, Breach, Undecided}
use Rattle.sip_verdict.specs.declared.survey_end.SurveyEnd.{SurveyEnd}
use Rattle.sip_verdict.specs.declared.survey_end.SurveyEnd.TheVariants.{Clean, LogFault}
use Rattle.sip_verdict.specs.declared.summary.Summary.{Summary}
use Rattle.sip_verdict.specs.declared.transaction.Transaction.{Transaction}
use Rattle.sip_standard.specs.Rendering.{rendered}
use Rattle.sip_verdict.specs.SurveyOf.{HoldsOf, IsSurveyOf, verdict_of}
use Rattle.sip_standard.specs.Key.{KeyParts}
use Rattle.sip_standard.specs.Times.{Times}
use Rattle.sip_standard.specs.Outcome.{gives}
use Rattle.sip_standard.specs.Says.{Said, Says}
use Rattle.sip_standard.specs.LogEntry.{Item}
use Rattle.sip_standard.specs.TransactionText.{key_text}
use Rattle.sip_standard.specs.Observation.{Observation}
use Rattle.sip_standard.specs.Seen.{AreSeen}
use Rattle.sip_standard.specs.VerdictOf.{keys_in}
use Rattle.sip_verdict.specs.Entries.{concerns}
use Rattle.sip_standard.specs.declared.verdict.Verdict.TheVariants as verdicts

-- the first of the entries that concern the transaction has this number, and its message spells the branch as these bytes
abbrev pub IsFirstEntryOf : List (Observation KeyParts) → KeyParts → ℕ → List ℕ → Type 0
IsFirstEntryOf es key number branch =
    (before : List (Observation KeyParts)) × (e : Observation KeyParts) × (after : List (Observation KeyParts)) × (es ≡ before ++ e ∷ after)
    × (concerns key e ≡ true) × All (λ o. concerns key o ≡ false) before × (number ≡ length before + 1)
    × ((s : Said) × Says e.event.text (gives s) × (s.via.branch ≡ Some branch))

-- the last of the entries that concern the transaction has this number
abbrev pub IsLastEntryOf : List (Observation KeyParts) → KeyParts → ℕ → Type 0
IsLastEntryOf es key number =
    (before : List (Observation KeyParts)) × (e : Observation KeyParts) × (after : List (Observation KeyParts)) × (es ≡ before ++ e ∷ after)
    × (concerns key e ≡ true) × All (λ o. concerns key o ≡ false) after × (number ≡ length before + 1)

-- what a line says of a transaction: a word each for its role, its method and its branch, and the numbers of its first entry and of its last one
abbrev pub transaction_words : KeyParts → (branch : List ℕ) → (first last : ℕ) → List ℕ
transaction_words key branch first last =
    codes " " ++ key_text key ++ codes " " ++ branch ++ codes " " ++ decimal first ++ codes " " ++ decimal last

-- the words for a transaction as a survey tells it
abbrev pub told_words : Transaction → List ℕ
told_words t = transaction_words t.key.now t.branch.now t.first t.last

-- the line of a finding, with the words for its transaction where the transaction is known
abbrev pub line_with : Finding → Option Transaction → List ℕ
line_with f None = rendered (verdict_of f) ++ line_feed ∷ []
line_with f (Some t) = rendered (verdict_of f) ++ told_words t ++ line_feed ∷ []

-- these bytes are the words for the transaction after the entries
abbrev pub AreWordsOf : List (Observation KeyParts) → List ℕ → KeyParts → Type 0
AreWordsOf es words key =
    (branch : List ℕ) × (first : ℕ) × (last : ℕ) × IsFirstEntryOf es key first branch × IsLastEntryOf es key last × (words ≡ transaction_words key branch first last)

-- the line of a finding at the last of these entries: the words of a verdict, and after them those for its transaction, where it is of one
abbrev pub IsLineOf : List (Observation KeyParts) → Finding → List ℕ → Type 0
IsLineOf es (Malformed entry fault) line = line ≡ rendered (verdicts.Malformed entry fault) ++ line_feed ∷ []
IsLineOf es (Breach entry transaction) line =
    (words : List ℕ) × HoldsOf (AreWordsOf es words) (keys_in es) transaction × (line ≡ rendered (verdicts.Breach entry transaction) ++ words ++ line_feed ∷ [])
IsLineOf es (Undecided entry transaction) line =
    (words : List ℕ) × HoldsOf (AreWordsOf es words) (keys_in es) transaction × (line ≡ rendered (verdicts.Undecided entry transaction) ++ words ++ line_feed ∷ [])

-- the entry of a finding
abbrev pub entry_of : Finding → ℕ
entry_of (Malformed entry fault) = entry
entry_of (Breach entry transaction) = entry
entry_of (Undecided entry transaction) = entry

-- the text of findings in a log of these entries: the line of each, after the entries up to its own
abbrev pub IsTextOf : List (Observation KeyParts) → List Finding → List ℕ → Type 0
IsTextOf es [] text = text ≡ []
IsTextOf es (f ∷ found) text =
    (front : List (Observation KeyParts)) × (rest : List (Observation KeyParts)) × (line : List ℕ) × (more : List ℕ) × (es ≡ front ++ rest)
    × (length front ≡ entry_of f) × IsLineOf front f line × IsTextOf es found more × (text ≡ line ++ more)

-- the last line of a survey with this many findings: the numbers of entries, transactions and findings, or why the log cannot be read to its end
abbrev pub end_text : SurveyEnd → ℕ → List ℕ
end_text (Clean entries transactions) findings =
    codes "end entries " ++ decimal entries ++ codes " transactions " ++ decimal transactions ++ codes " findings " ++ decimal findings ++ line_feed ∷ []
end_text (LogFault entry reason) findings = rendered (verdicts.LogFault entry reason) ++ line_feed ∷ []

-- the text of a survey in a log of these entries
abbrev pub IsSurveyText : List (Observation KeyParts) → List Finding → SurveyEnd → List ℕ → Type 0
IsSurveyText es found end text = (lines : List ℕ) × IsTextOf es found lines × (text ≡ lines ++ end_text end (length found))

-- what is observed of the entries of an input: nothing where its header ends it
abbrev pub AreEntriesOf : List ℕ → List (Observation KeyParts) → Type 0
AreEntriesOf input es =
    (LacksHeader input × (es ≡ []))
    ⊎ ((p : Times) × (items : List Item) × (close : LogEnd) × LogSays input p items close × AreSeen [] items es)

-- the survey of an input, and its text
abbrev pub IsToldOf : List ℕ → List Finding → SurveyEnd → List ℕ → Type 0
IsToldOf input found end text = IsSurveyOf input found end × ((es : List (Observation KeyParts)) × AreEntriesOf input es × IsSurveyText es found end text)

-- whether the finding is that a transaction is followed no further
abbrev pub is_undecided : Finding → Bool
is_undecided (Undecided entry transaction) = true
is_undecided (Malformed entry fault) = false
is_undecided (Breach entry transaction) = false

-- the summary gives how many findings there are, and how many of them are of a transaction that is followed no further
pub record SumsUp (found : List Finding) (s : Summary) : Type 0 where
  pub findings : s.findings ≡ length found
  pub undecided : s.undecided ≡ length (filter is_undecided found)
