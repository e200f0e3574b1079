use Rattle.std.proofs.Common.{◌≡◌, rules}
use Rattle.sip_survey_program.specs.Answers.{log_for}
use Rattle.sip_survey_program.proofs.Answered.{answered}
use Rattle.sip_survey_program.proofs.running.answer.Goals.{in-File+in_ok-map_err, in_default}
use Rattle.sip_survey_program.proofs.running.answer.Goals as goal

-- the log comes from the file or from the input, and its survey is written
-- `same` says that the log that is left to be read is the one that is asked for: the file was opened (`in-File`), or the input stays (`in_default`)
pub returns-clause-answer : goal.returns-clause-answer
returns-clause-answer g c =
    let input = log_for c.args.asked.log (g.S.Source.left c.args.system.now) (g.S.System.file c.args.system.now) in
    let before = g.W.Sink.written c.args.writer.now in
    let after = g.W.Sink.written c.write_survey.new.writer in
    let same : g.S.Source.left c.match-asked.system ≡ input = elim c.match-asked.branch [ in-File+in_ok-map_err w ↦ search rules | in_default w ↦ search rules ] in
    answered c.args.asked.forget c.args.asked.part _ input before after c.in_ok-summary.summary c.status_of.result same c.in_ok-summary.ensures.surveyed c.status_of.ensures
