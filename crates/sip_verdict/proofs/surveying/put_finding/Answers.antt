use Rattle.std.proofs.Common.{◌≡◌, subst, rules}
use Rattle.std.specs.Io.KnownBytes.{Appends}
use Rattle.sip_verdict.specs.SurveyText.{line_with}
use Rattle.sip_verdict.proofs.surveys.written.Writing.{line_by}
use Rattle.sip_verdict.proofs.surveying.put_finding.Goals as goal

-- what is written is the line of the finding, with the transaction that it names
pub returns-clause-text : goal.returns-clause-text
returns-clause-text g c =
    -- f is the finding, `told` its transaction, if it has one, and `line` what was written
    let f = c.args.finding.now in
    let told = c.transaction_of-transaction.result in
    let line = c.in_ok-line.line.items in
    let is : line ≡ line_with f told = search rules in
    (line, subst (Appends (g.W.Sink.written c.args.writer.now) (g.W.Sink.written c.put.new.self)) c.as_slice.ensures.value c.in_ok-put.ensures.appends, line_by c.args.survey.now f told line c.transaction_of-transaction.ensures is)
