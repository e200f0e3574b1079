-- Each input has a survey: none is without.
use Rattle.std.proofs.Common.{◌⊎◌, inl, inr, ◌+◌, ℕ, List, [], ◌∷◌, ◌++◌, length, refl}
use Rattle.sip_standard.specs.Key.{KeyParts}
use Rattle.sip_standard.specs.Times.{Times}
use Rattle.sip_standard.specs.LogEntry.{Item}
use Rattle.sip_standard.specs.LogSays.{LogEnd, Clean, Stops, LogSays, LacksHeader}
use Rattle.sip_log.proofs.logs.Logs.{log_is_some}
use Rattle.sip_verdict.specs.declared.finding.Finding.{Finding}
use Rattle.sip_verdict.specs.declared.survey_end.SurveyEnd.{SurveyEnd}
use Rattle.sip_standard.specs.declared.log_reason.LogReason.TheVariants.{Header}
use Rattle.sip_standard.specs.Observation.{Observation}
use Rattle.sip_standard.specs.VerdictOf.{keys_in}
use Rattle.sip_verdict.specs.SurveyOf.{Breaks, Widens, AreFoundAt, IsSurveyAfter, IsSurveyOf}
use Rattle.sip_verdict.proofs.verdicts.HasVerdict.{sees_entry}
use Rattle.sip_verdict.proofs.surveys.found.Numbers.{Weakly, numbers_some}
use Rattle.sip_verdict.proofs.surveys.found.FoundParts.{listed, listed_found}
use Rattle.sip_verdict.specs.declared.survey_end.SurveyEnd.TheVariants as ended

-- at each entry some list of findings is found, which may be empty
-- `never` says that there is no such list; yet the keys that break have numbers, and so have those that are too wide, and these make one
found_some : (p : Times) (es : List (Observation KeyParts)) (e : Observation KeyParts) → Weakly ((found : List Finding) × AreFoundAt p es e found)
found_some p es e never =
    let keys = keys_in (es ++ e ∷ []) in
    numbers_some (Breaks p es e) keys (λ broken.
    numbers_some (Widens p es e) keys (λ wide.
    never (listed (length es + 1) e.fault broken.0 wide.0, listed_found p es e (length es + 1) refl broken.0 wide.0 broken.1 wide.1)))

-- after any entries, the items that are left have a survey
after_some : (p : Times) (es : List (Observation KeyParts)) (items : List Item) (close : LogEnd) → Weakly ((found : List Finding) × (end : SurveyEnd) × IsSurveyAfter p es items close found end)
after_some p es [] Clean never = never ([], ended.Clean (length es) (length (keys_in es)), (refl, refl))
after_some p es [] (Stops fault) never = never ([], ended.LogFault (length es + 1) fault, (refl, refl))
-- the next item is seen as an entry, at which some list is found, and the items after it have a survey
after_some p es (item ∷ items) close never =
    sees_entry es item (λ seen.
    found_some p es seen.0 (λ here.
    after_some p (es ++ seen.0 ∷ []) items close (λ later.
    never (here.0 ++ later.0, later.1, (seen.0, here.0, later.0, seen.1, refl, here.1, later.2)))))

-- it cannot be that an input has no survey
pub has_survey : (input : List ℕ) → ¬ ((found : List Finding) (end : SurveyEnd) → ¬ (IsSurveyOf input found end))
has_survey input never = by (log_is_some input)
  where
    -- it cannot be that the input has no header or is a log: either way it would have a survey
    by : LacksHeader input ⊎ ((p : Times) × (items : List Item) × (close : LogEnd) × LogSays input p items close) → ⊥
    by (inl none) = never [] (ended.LogFault 0 Header) (inl (none, refl, refl))
    by (inr (p, items, close, is)) = after_some p [] items close (λ one. never one.0 one.1 (inr (p, items, close, is, one.2)))
