-- What a survey holds while it takes the entries of a log as they come.
use Rattle.std.specs.Prelude.{◌≡◌, ◌≢◌, ◌≤◌, ◌+◌, ℕ, Bool, true, false, List, Option, Some, None, Result, Err, length, max, slice_get}
use Rattle.sip_standard.specs.Key.{KeyParts}
use Rattle.sip_standard.specs.Times.{Times, last_moment}
use Rattle.sip_machine.specs.Texts.{Texts}
use Rattle.sip_states.specs.Tables.{Tabled}
use Rattle.sip_verdict.specs.declared.step_error.StepError.{StepError}
use Rattle.sip_verdict.specs.declared.survey_end.SurveyEnd.{SurveyEnd}
use Rattle.sip_standard.specs.Observation.{Observation}
use Rattle.sip_verdict.specs.Entries.{newest_moment}
use Rattle.sip_verdict.specs.Named.{NamesOver, WereNamed}
use Rattle.sip_verdict.specs.Room.{HasRoom}
use Rattle.sip_verdict.specs.SurveyOf.{IsSound}
use Rattle.sip_verdict.specs.inner.Surveying.{TablesSurvey}
use Rattle.sip_verdict.specs.declared.histories.Histories.{Histories}
use Rattle.sip_verdict.specs.declared.histories.History.{History}
use Rattle.sip_verdict.specs.SurveyText.{IsFirstEntryOf, IsLastEntryOf}
use Rattle.sip_standard.specs.VerdictOf.{keys_in}
use Rattle.sip_verdict.specs.declared.step_error.StepError.TheVariants as errors
use Rattle.sip_verdict.specs.declared.survey_end.SurveyEnd.TheVariants as ended

-- some key in no trouble names the message over the entries
abbrev pub IsStillNamed : Times → List (Observation KeyParts) → List ℕ → Type 0
IsStillNamed p es text = (key : KeyParts) × IsSound p es key × NamesOver p es key text

-- the history tells the first of the entries that concern the transaction, with its branch, and the last one, which may be the newest restart
pub record IsHistoryOf (es : List (Observation KeyParts)) (restart : ℕ) (key : KeyParts) (h : History) : Type 0 where
  pub first : IsFirstEntryOf es key h.first h.branch.items
  pub last : IsLastEntryOf es key (max h.last restart)

-- there is a history of each transaction of the entries, in the order of the transactions
pub record AreHistories (es : List (Observation KeyParts)) (b : Histories) : Type 0 where
  pub long : length b.each.items ≡ length (keys_in es)
  pub restart : b.restart ≤ length es
  pub each : (n : ℕ) (key : KeyParts) (h : History) → slice_get (keys_in es) n ≡ Some key → slice_get b.each.items n ≡ Some h → IsHistoryOf es b.restart key h

-- what a survey holds: the number and the moment of its newest entry, the messages that it keeps, the set of each key, which transactions are in trouble,
-- the history of each, how many messages its last sweep left, and whether it failed
pub record Surveying : Type 0 where
  pub number : ℕ
  pub moment : ℕ
  pub texts : Texts
  pub tables : Tabled
  pub deaf : List Bool
  pub histories : Histories
  pub left : ℕ
  pub failed : Bool

-- messages and sets follow these entries, each transaction for itself; `left` messages were named after one of them, and few more are kept
pub record AreSurveyed (texts : Texts) (t : Tabled) (deaf : List Bool) (left : ℕ) (es : List (Observation KeyParts)) : Type 0 where
  pub tracks : TablesSurvey texts es t deaf
  pub named : WereNamed (IsStillNamed t.times) es left
  pub few : length texts ≤ left + left + 64

-- the survey has taken just these entries
pub record SurveysFor (s : Surveying) (es : List (Observation KeyParts)) : Type 0 where
  pub goes_on : s.failed ≡ false
  pub number : s.number ≡ length es
  pub moment : s.moment ≡ newest_moment es
  pub follows : AreSurveyed s.texts s.tables s.deaf s.left es
  pub histories : AreHistories es s.histories

-- an entry of this number and moment may come after one of the number count and the moment last, to a survey of this many transactions
pub record MayFollow (count last transactions number moment : ℕ) : Type 0 where
  pub next : number ≡ count + 1
  pub order : last ≤ moment
  pub limit : moment ≤ last_moment
  pub room : HasRoom count transactions

-- what a survey can answer: that it failed, where it has failed before, and anything else where it has not
abbrev pub MayAnswer : Bool → Result Unit StepError → Type 0
MayAnswer true answer = answer ≡ Err errors.Failed
MayAnswer false answer = answer ≢ Err errors.Failed

-- the end of the survey of this many entries of this many transactions, and none where the survey has failed
abbrev pub end_after : ℕ → ℕ → Bool → Option SurveyEnd
end_after entries transactions true = None
end_after entries transactions false = Some (ended.Clean entries transactions)
