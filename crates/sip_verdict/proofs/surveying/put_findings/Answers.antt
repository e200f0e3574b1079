-- s is the survey, and l how the loop stands; `put` is what the call promises that writes the next finding, with its line.
use Rattle.std.proofs.Common.{◌<◌, ◌∙◌, ◌++◌, length, take, sym, subst, arith}
use Rattle.std.proofs.KnownBytes.{Appends-trans}
use Rattle.std.proofs.lemmas.List.{take_more}
use Rattle.sip_verdict.specs.inner.SurveyingLogs.{AreCounted, AreLinesBy}
use Rattle.sip_verdict.proofs.surveys.written.Writing.{counted_more, lines_push, some_of_ok}
use Rattle.sip_verdict.proofs.surveying.put_findings.Goals as goal

-- after one finding more, the lines and the counts are those of all findings up to it
pub loop-finding-preserved : goal.loop-finding-preserved
loop-finding-preserved g c =
    let l = c.loop-finding in
    let s = c.args.survey.now in
    let found = c.args.found.now in
    let put = c.in_ok-put_finding.ensures in
    -- `text` are the lines so far, and `line` is that of this finding
    let (text, written, are) = l.invariant.text in
    let (line, appends, is) = put.text in
    -- the next finding comes after those so far
    let inside : l.finding-index < length found = omega (arith, c.loop-finding-test.true) in
    let more = take_more found l.finding-index _ inside in
    record {
      text = (
        text ++ line,
        Appends-trans (g.W.Sink.written c.args.writer.now) (g.W.Sink.written l.writer) (g.W.Sink.written c.put_finding.new.writer) text line written appends,
        subst (λ fs. AreLinesBy s fs (text ++ line)) (sym more) (lines_push s (take l.finding-index found) _ text line are is),
      );
      -- this finding is counted too, and no write has failed
      counted = subst (λ fs. AreCounted fs c.args.counts c.in_ok-counts.counts) (sym more)
          (counted_more (take l.finding-index found) _ c.args.counts l.counts c.in_ok-counts.counts c.with.result l.invariant.counted c.with.ensures
          (some_of_ok c.with.result _ c.in_ok-counts.counts (sym c.ok_or.ensures.value ∙ c.in_ok-counts.was)));
      fine = put.fine ∙ l.invariant.fine;
    }
