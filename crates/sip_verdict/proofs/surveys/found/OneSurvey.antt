-- An input has one survey.
-- In the lemmas fs and gs are the findings of two surveys, and end and fin how they end.
use Rattle.std.proofs.Common.{◌≡◌, inl, inr, ℕ, List, [], ◌∷◌, ◌++◌, sym, ap₂, ◌∙◌, subst}
use Rattle.sip_standard.specs.Key.{KeyParts}
use Rattle.sip_standard.specs.Times.{Times}
use Rattle.sip_standard.specs.LogEntry.{Item}
use Rattle.sip_standard.specs.LogSays.{LogEnd, Clean, Stops, LogSays}
use Rattle.sip_verdict.specs.declared.finding.Finding.{Finding}
use Rattle.sip_verdict.specs.declared.survey_end.SurveyEnd.{SurveyEnd}
use Rattle.sip_standard.specs.Observation.{Observation}
use Rattle.sip_verdict.specs.SurveyOf.{Precedes, AreFoundAt, IsSurveyAfter, IsSurveyOf}
use Rattle.sip_verdict.proofs.verdicts.MessageUnique.{observes_one}
use Rattle.sip_log.proofs.logs.Logs.{log_is_one}
use Rattle.sip_verdict.proofs.surveys.found.Ordered.{ordered_one}
use Rattle.sip_verdict.proofs.surveys.found.FoundParts.{precedes_once}

-- two lists of what is found at an entry are the same
found_one : (p : Times) (es : List (Observation KeyParts)) (e : Observation KeyParts) (fs gs : List Finding) → AreFoundAt p es e fs → AreFoundAt p es e gs → fs ≡ gs
found_one p es e fs gs a b = ordered_one Precedes precedes_once fs gs a.0 b.0 (λ f h. (b.1 f).1 ((a.1 f).0 h)) (λ f h. (a.1 f).1 ((b.1 f).0 h))

-- two surveys of the same items after the same entries are the same
after_one : (p : Times) (es : List (Observation KeyParts)) (items : List Item) (close : LogEnd) (fs gs : List Finding) (end fin : SurveyEnd) → IsSurveyAfter p es items close fs end →
    IsSurveyAfter p es items close gs fin → (fs ≡ gs) × (end ≡ fin)
-- no item is left: nothing is found, and the end is that of the log
after_one p es [] Clean fs gs end fin a b = (a.0 ∙ sym b.0, a.1 ∙ sym b.1)
after_one p es [] (Stops fault) fs gs end fin a b = (a.0 ∙ sym b.0, a.1 ∙ sym b.1)
after_one p es (item ∷ items) close fs gs end fin (e, here, later, sees, is, at, more) (f, there, last, saw, are, by, left) =
    -- e and f are what is observed of the next item; `here` and `there` are what is found at it
    let same : e ≡ f = observes_one es item e f sees saw in
    let same_here : here ≡ there = found_one p es e here there at (subst (λ g. AreFoundAt p es g there) (sym same) by) in
    let rest = after_one p (es ++ e ∷ []) items close later last end fin more (subst (λ g. IsSurveyAfter p (es ++ g ∷ []) items close last fin) (sym same) left) in
    (is ∙ ap₂ (λ xs ys. xs ++ ys) same_here rest.0 ∙ sym are, rest.1)

-- what holds of one log that an input says holds of another that it says
-- the input says the items xs with the times p and the end a, and the items ys with the times q and the end b
pub says_same : (P : Times → List Item → LogEnd → Type 0) (input : List ℕ) (p q : Times) (xs ys : List Item) (a b : LogEnd) → LogSays input p xs a → LogSays input q ys b → P q ys b → P p xs a
says_same P input p q xs ys a b one other holds =
    let same = log_is_one input p q xs ys a b one other in
    subst (λ r. P r xs a) (sym same.0) (subst (λ r. P q r a) (sym same.1) (subst (P q ys) (sym same.2) holds))

-- two surveys of an input are the same
-- the input has no header by both surveys, or it has one by both, and then both are of the same log
pub survey_one : (input : List ℕ) (fs gs : List Finding) (end fin : SurveyEnd) → IsSurveyOf input fs end → IsSurveyOf input gs fin → (fs ≡ gs) × (end ≡ fin)
survey_one input fs gs end fin (inl a) (inl b) = (a.1 ∙ sym b.1, a.2 ∙ sym b.2)
survey_one input fs gs end fin (inl a) (inr (p, items, close, says, is)) = absurd (a.0 says.format p _ says.header)
survey_one input fs gs end fin (inr (p, items, close, says, is)) (inl b) = absurd (b.0 says.format p _ says.header)
survey_one input fs gs end fin (inr (p, items, close, says, is)) (inr (q, others, last, say, are)) =
    after_one p [] items close fs gs end fin is (says_same (λ r xs a. IsSurveyAfter r [] xs a gs fin) input p q items others close last says say are)
