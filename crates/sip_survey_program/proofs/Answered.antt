-- What is written of a log is the survey that is asked for, with its status.
use Rattle.std.proofs.Common.{◌≡◌, ℕ, List, Option, Some, None, IfSome, IfOk, Result, Ok, Err, subst}
use Rattle.std.proofs.lemmas.Option.{IfSome_then}
use Rattle.std.specs.Io.KnownBytes.{Appends}
use Rattle.sip_part.specs.Part.{PartOf}
use Rattle.sip_verdict.specs.declared.finding.Finding.{Finding}
use Rattle.sip_verdict.specs.declared.summary.Summary.{Summary}
use Rattle.sip_verdict.specs.SurveyText.{SumsUp}
use Rattle.sip_survey_program.specs.declared.words.Asked.{Asked}
use Rattle.sip_survey_program.specs.Answers.{IsAnswerTo, IsSurveyFor, IsSurveyed, log_for}
use Rattle.sip_survey_program.specs.Asked.{IsAskedBy}
use Rattle.sip_survey_program.specs.Status.{status_of}

-- a survey that is written of the log that was left is the survey that is asked for of the same log, with its status
pub answered : (forget : Option ℕ) (part : Option PartOf) (left input before after : Option (List ℕ)) (s : Summary) (status : ℕ) → left ≡ input
    → IfSome left (λ bytes. (found : List Finding) × (text : List ℕ) × IsSurveyFor forget part bytes found s.end text × SumsUp found s × Appends before after text)
    → ((found : List Finding) → SumsUp found s → status ≡ status_of found s.end) → IsSurveyed forget part input before after status
answered forget part left input before after s status same written counts = subst (λ log. IsSurveyed forget part log before after status) same (by left written)
  where
    -- the survey is told to the sink with this status, whether or not the log is known
    by : (log : Option (List ℕ)) → IfSome log (λ bytes. (found : List Finding) × (text : List ℕ) × IsSurveyFor forget part bytes found s.end text × SumsUp found s × Appends before after text)
        → IsSurveyed forget part log before after status
    by None none = tt
    by (Some bytes) (found, text, told, sums, appends) = (found, s.end, text, told, appends, counts found sums)

-- what is written for the words that were given is the answer to the words that are known, where they are the same
pub answered_to : {E : Type 0} (known : Option (List (List ℕ))) (words : List (List ℕ)) (asked : Asked) (r : Result ℕ E) (now input : Option (List ℕ)) (after_words file : List ℕ → Option (List ℕ)) (before after : Option (List ℕ))
    → IfSome known (λ told. words ≡ told) → IsAskedBy words (Some asked) → now ≡ input → after_words ≡ file
    → IfOk r (IsSurveyed asked.forget asked.part (log_for asked.log now after_words) before after) → IfOk r (λ status. IfSome known (λ told. IsAnswerTo told input file before after status))
answered_to known words asked (Err e) now input after_words file before after told asks same files written = tt
-- `told` says that the words are those that are known, `same` that the input is the one of the system, and `files` that its files are
answered_to known words asked (Ok status) now input after_words file before after told asks same files written =
    IfSome_then known told (λ theirs is. record {
      asked = asked;
      is_asked = subst (λ w. IsAskedBy w (Some asked)) is asks;
      is = subst (λ f. IsSurveyed asked.forget asked.part (log_for asked.log input f) before after status) files
          (subst (λ i. IsSurveyed asked.forget asked.part (log_for asked.log i after_words) before after status) same written);
    })
