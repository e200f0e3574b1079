use Rattle.std.proofs.Common.{◌≡◌, ◌∙◌, Some, [], ap, refl, subst, sym, rules}
use Rattle.std.specs.Option.{option_copied}
use Rattle.sip_log.specs.Reading as log
use Rattle.sip_log.specs.Reading.{ProgressState, beside_source}
use Rattle.sip_standard.specs.declared.log_reason.LogReason.TheVariants.{Header}
use Rattle.sip_verdict.specs.declared.survey_end.SurveyEnd.TheVariants.{LogFault}
use Rattle.sip_verdict.specs.inner.ForgettingLogs.{RemembersRead}
use Rattle.sip_log.proofs.answers.StreamLemmas.{stands_streamed}
use Rattle.sip_verdict.proofs.surveys.written.Remembering.{all_told_forgetting, remembers_header, remembers_none, told_forgetting}
use Rattle.sip_verdict.proofs.surveys.written.Writing.{still_fine, summed}
use Rattle.sip_verdict.proofs.remembering.survey_forgetting.Goals as goal

-- after the header nothing was read or forgotten; from there on the loop tells the survey of the whole log
pub returns-in-Ok-clause-surveyed : goal.returns-in-Ok-clause-surveyed
returns-in-Ok-clause-surveyed g c =
    -- `start` is the input, and `state` how far it was read
    let part = option_copied c.args.part in
    let start = g.R.Source.left c.args.reader.now in
    let state : ProgressState → log.ReaderState = λ place. beside_source place (g.R.Source.left c.read_header.new.reader) (g.R.Source.has_failed c.read_header.new.reader) in
    -- the header was read, and its times are those of the survey
    let read = rw c.in-Ok.is at c.in_ok-params.ensures.reads in
    let p = c.new-survey.result.tables.times in
    let times : p ≡ c.in-Ok.params = search rules in
    -- the loop began where nothing was read, found or forgotten, so that what it tells is the survey of the whole log
    all_told_forgetting c.args.age part _ c.write_on.result start (g.W.Sink.written c.args.writer.now) (g.W.Sink.written c.write_on.new.writer) c.write_on.ensures.surveyed
    (subst (λ place. RemembersRead c.args.age part p c.new-survey.result [] [] start (state place)) (search rules)
    (remembers_none c.args.age part p c.new-survey.result start (state c.in-Ok.progress) refl c.new-survey.ensures.stands
    (stands_streamed start p [] (state c.in-Ok.progress) read.on (read.times_are ∙ ap Some (sym times)) read.stands)))

-- no read has failed, neither of the header nor in the loop
pub returns-in-Ok-clause-fine : goal.returns-in-Ok-clause-fine
returns-in-Ok-clause-fine g c =
    still_fine _ c.write_on.result (g.R.Source.has_failed c.read_header.new.reader) (g.R.Source.has_failed c.write_on.new.reader) c.write_on.ensures.fine (c.in_ok-params.ensures.ok ∙ c.requires)

-- where the header has a fault, the survey tells this fault alone
pub returns-in-Err-clause-surveyed : goal.returns-in-Err-clause-surveyed
returns-in-Err-clause-surveyed g c =
    let part = option_copied c.args.part in
    -- `start` is the input, and `before` and `after` are what was written, where these are known
    let start = g.R.Source.left c.args.reader.now in
    let before = g.W.Sink.written c.args.writer.now in
    let after = g.W.Sink.written c.finish.new.writer in
    let fault = rw c.in-Err.is at c.in_ok-params.ensures.fault in
    summed c.finish.result c.none.result (LogFault 0 Header) c.finish.ensures.sums c.finish.ensures.text (λ summary end findings undecided last.
    told_forgetting c.args.age part start summary before after (remembers_header c.args.age part start c.in-Err.field-0 c.none.result summary before after fault.0 fault.1 c.none.ensures.0 c.none.ensures.1 end findings undecided last))
