use Rattle.std.proofs.Common.{◌≡◌, ◌∙◌, [], subst, rules}
use Rattle.std.specs.Option.{option_copied}
use Rattle.sip_log.specs.Reading as log
use Rattle.sip_log.specs.Reading.{ProgressState, beside_source}
use Rattle.sip_standard.specs.declared.log_reason.LogReason.TheVariants.{Header}
use Rattle.sip_verdict.specs.declared.survey_end.SurveyEnd.TheVariants.{LogFault}
use Rattle.sip_verdict.specs.inner.SurveyingLogs.{SurveysRead}
use Rattle.sip_verdict.proofs.surveys.written.Writing.{all_told, as_told, still_fine, summed, surveys_header, surveys_none}
use Rattle.sip_verdict.proofs.surveying.survey_in.Goals as goal

-- after the header nothing was read; from there on the loop tells the survey of the whole log
pub returns-in-Ok-clause-surveyed : goal.returns-in-Ok-clause-surveyed
returns-in-Ok-clause-surveyed g c =
    -- `start` is the input, `state` how far it was read, `read` says that its header was read, and `times` that the survey has the header's times
    let part = option_copied c.args.part in
    let start = g.R.Source.left c.args.reader.now in
    let state : ProgressState → log.ReaderState = λ place. beside_source place (g.R.Source.left c.read_header.new.reader) (g.R.Source.has_failed c.read_header.new.reader) in
    let read = rw c.in-Ok.is at c.in_ok-params.ensures.reads in
    let times : c.new-survey.result.tables.times ≡ c.in-Ok.params = search rules in
    -- the loop began where nothing was read or found, so that what it tells is the survey of the whole log
    all_told part _ c.write_entries.result start (g.W.Sink.written c.args.writer.now) (g.W.Sink.written c.write_entries.new.writer) c.write_entries.ensures.surveyed
    (subst (λ place. SurveysRead part c.new-survey.result [] start (state place)) (search rules) (surveys_none part c.new-survey.result c.in-Ok.params start (state c.in-Ok.progress) times c.new-survey.ensures.stands read))

-- no read has failed, neither of the header nor in the loop
pub returns-in-Ok-clause-fine : goal.returns-in-Ok-clause-fine
returns-in-Ok-clause-fine g c =
    still_fine _ c.write_entries.result (g.R.Source.has_failed c.read_header.new.reader) (g.R.Source.has_failed c.write_entries.new.reader) c.write_entries.ensures.fine (c.in_ok-params.ensures.ok ∙ c.requires)

-- where the header has a fault, the survey tells this fault alone
pub returns-in-Err-clause-surveyed : goal.returns-in-Err-clause-surveyed
returns-in-Err-clause-surveyed g c =
    let part = option_copied c.args.part in
    -- `start` is the input, and `before` and `after` are what was written, where these are known
    let start = g.R.Source.left c.args.reader.now in
    let before = g.W.Sink.written c.args.writer.now in
    let after = g.W.Sink.written c.finish.new.writer in
    let fault = rw c.in-Err.is at c.in_ok-params.ensures.fault in
    summed c.finish.result c.none.result (LogFault 0 Header) c.finish.ensures.sums c.finish.ensures.text (λ summary end findings undecided last.
    as_told part start summary before after (surveys_header part start c.in-Err.field-0 c.none.result summary before after fault.0 fault.1 c.none.ensures.0 c.none.ensures.1 end findings undecided last))
