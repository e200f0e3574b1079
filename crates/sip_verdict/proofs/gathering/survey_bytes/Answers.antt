use Rattle.std.proofs.Common.{◌≡◌, Some, None, false, [], sym, subst, rules}
use Rattle.std.proofs.lemmas.Result.{IfOk-weaker}
use Rattle.sip_log.specs.Reading as log
use Rattle.sip_log.specs.Reading.{ProgressState, beside_source}
use Rattle.sip_standard.specs.declared.log_reason.LogReason.TheVariants.{Header}
use Rattle.sip_verdict.specs.declared.survey_end.SurveyEnd.TheVariants.{LogFault}
use Rattle.sip_verdict.specs.SurveyOf.{IsSurveyOf}
use Rattle.sip_verdict.specs.inner.SurveyingLogs.{SurveysRead}
use Rattle.sip_verdict.proofs.surveys.written.Gathering.{gathered_header}
use Rattle.sip_verdict.proofs.surveys.written.Writing.{surveys_none}
use Rattle.sip_verdict.proofs.gathering.survey_bytes.Goals as goal

-- after the header nothing was read; from there on the loop finds what the whole log has
pub returns-in-Ok-clause-survey : goal.returns-in-Ok-clause-survey
returns-in-Ok-clause-survey g c =
    -- `start` is the input, `state` how far it was read, `read` says that its header was read, and `times` that the survey has the header's times
    let start = Some c.args.bytes.now in
    let state : ProgressState → log.ReaderState = λ place. beside_source place (Some c.read_header.new.reader.now) false in
    let read = rw c.in-Ok.is at c.in_ok-params.ensures.reads in
    let times : c.new-survey.result.tables.times ≡ c.in-Ok.params = search rules in
    -- what the loop promises holds of this input, of which nothing but the header was read when it began
    IfOk-weaker c.gather_entries.result _ _
    (λ done holds. holds start (subst (λ place. SurveysRead None c.new-survey.result [] start (state place)) (search rules) (surveys_none None c.new-survey.result c.in-Ok.params start (state c.in-Ok.progress) times c.new-survey.ensures.stands read))) c.gather_entries.ensures.survey

-- where the header has a fault, nothing is found
pub returns-in-Err-clause-survey : goal.returns-in-Err-clause-survey
returns-in-Err-clause-survey g c =
    let fault = rw c.in-Err.is at c.in_ok-params.ensures.fault in
    subst (λ found. IsSurveyOf c.args.bytes.now found (LogFault 0 Header)) (sym c.new.ensures.items) (gathered_header None (Some c.args.bytes.now) c.in-Err.field-0 fault.0 fault.1)
