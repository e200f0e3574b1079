-- What a judge holds while it takes the entries of a log as they come, and what it can answer.
use Rattle.std.specs.Prelude.{◌≡◌, ◌≢◌, ◌≤◌, ◌+◌, ℕ, List, [], ◌∷◌, ◌++◌, Option, Some, None, Result, Ok, Err, All, length}
use Rattle.sip_standard.specs.Key.{KeyParts}
use Rattle.sip_standard.specs.Times.{Times, last_moment}
use Rattle.sip_machine.specs.Texts.{Texts}
use Rattle.sip_states.specs.Tables.{Tabled}
use Rattle.sip_standard.specs.LogSays.{most_entries}
use Rattle.sip_verdict.specs.declared.stage.Stage.{Stage}
use Rattle.sip_verdict.specs.declared.stage.Stage.TheVariants.{Open, Told, Failed}
use Rattle.sip_verdict.specs.declared.step_error.StepError.{StepError}
use Rattle.sip_verdict.specs.declared.step_error.StepError.TheVariants as errors
use Rattle.sip_standard.specs.declared.verdict.Verdict.{Verdict}
use Rattle.sip_standard.specs.declared.verdict.Verdict.TheVariants.{Legal}
use Rattle.sip_standard.specs.Observation.{Observation}
use Rattle.sip_standard.specs.VerdictOf.{keys_in, events_for, HasTrouble}
use Rattle.sip_verdict.specs.Entries.{newest_moment}
use Rattle.sip_standard.specs.Stands.{Stands}
use Rattle.sip_standard.specs.Figure.{Owing}
use Rattle.sip_standard.specs.KeyMachine.{machine_of_key, transaction_of}
use Rattle.sip_verdict.specs.Named.{IsNamed, WereNamed}
use Rattle.sip_verdict.specs.inner.TablesTracking.{TablesTrack}

-- what a judge holds: the number and the moment of its newest entry, the messages that it keeps, the set of each key, how many messages its last
-- sweep left, and how far it is
pub record Judging : Type 0 where
  pub number : ℕ
  pub moment : ℕ
  pub texts : Texts
  pub tables : Tabled
  pub left : ℕ
  pub stage : Stage

-- messages and sets follow these entries, none of which is in trouble; `left` messages were named after one of them, and few more are kept
pub record AreFollowed (texts : Texts) (t : Tabled) (left : ℕ) (es : List (Observation KeyParts)) : Type 0 where
  pub tracks : TablesTrack texts es t
  pub named : WereNamed (IsNamed t.times) es left
  pub few : length texts ≤ left + left + 64

-- the judge has taken just these entries
pub record StandsFor (j : Judging) (es : List (Observation KeyParts)) : Type 0 where
  pub goes_on : j.stage ≡ Open
  pub number : j.number ≡ length es
  pub moment : j.moment ≡ newest_moment es
  pub follows : AreFollowed j.texts j.tables j.left es

-- an entry with this number and moment may come after an entry with the number `count` and the moment `last`
pub record MayComeNext (count last number moment : ℕ) : Type 0 where
  pub next : number ≡ count + 1
  pub order : last ≤ moment
  pub within : number ≤ most_entries
  pub limit : moment ≤ last_moment

-- each transaction of the entries has a run over them that stands at the moment
abbrev pub CanWaitUntil : Times → List (Observation KeyParts) → ℕ → Type 0
CanWaitUntil p es moment =
    All (λ key. let machine = transaction_of (machine_of_key p.rules key) in (x : Owing machine.Phase) × Stands machine.figure p (events_for key es) moment x) (keys_in es)

-- the judge has taken this entry as well, after the others, or the verdict of the entry is given
abbrev pub IsNext : Judging → List (Observation KeyParts) → Observation KeyParts → Option Verdict → Type 0
IsNext j es e None = StandsFor j (es ++ e ∷ [])
IsNext j es e (Some v) = HasTrouble j.tables.times es e v

-- what a judge at this stage can answer: the verdict again where it has told one, and that it failed where it has failed
abbrev pub CanAnswer : Stage → Result (Option Verdict) StepError → Type 0
CanAnswer Open answer = answer ≢ Err errors.Failed
CanAnswer (Told v) answer = answer ≡ Ok (Some v)
CanAnswer Failed answer = answer ≡ Err errors.Failed

-- the stage of a judge after this answer
abbrev pub stage_after : Result (Option Verdict) StepError → Stage
stage_after (Ok None) = Open
stage_after (Ok (Some v)) = Told v
stage_after (Err e) = Failed

-- the verdict with which a judge ends: the one that it told, or that this many entries of this many transactions are legal; none where it has failed
abbrev pub last_verdict : ℕ → ℕ → Stage → Option Verdict
last_verdict entries transactions Open = Some (Legal entries transactions)
last_verdict entries transactions (Told v) = Some v
last_verdict entries transactions Failed = None
