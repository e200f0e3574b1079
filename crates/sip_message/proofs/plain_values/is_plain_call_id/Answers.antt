use Rattle.std.proofs.Common.{subst}
use Rattle.std.proofs.lemmas.Bool.{eqb-true}
use Rattle.sip_standard.specs.Text.{◌then◌}
use Rattle.sip_text.specs.Bytes.{at_sign, Byte}
use Rattle.sip_message.specs.inner.Plain.{segment, LiesWithin, PlainRun}
use Rattle.sip_message.proofs.PlainLemmas.{then-stands}
use Rattle.sip_message.proofs.PlainValueLemmas.{call_id-one, call_id-two}
use Rattle.sip_message.proofs.plain_values.is_plain_call_id.Goals as goal

-- one word that goes up to the end, without an "@", is a Call-ID
pub returns-then-word-end : goal.returns-then-word-end
returns-then-word-end c = λ _.
    -- m is the text, and the word is a run of plain bytes
    let m = c.args.masks.now in
    let run = subst (LiesWithin PlainRun m c.args.at c.args.end) c.if-word-end.true c.in-Some.ensures in
    call_id-one (segment c.args.at c.args.end m) run.2

-- two plain words with `@` between them are a Call-ID
pub returns-in-Some-past_any_run : goal.returns-in-Some-past_any_run
returns-in-Some-past_any_run c = λ so.
    -- m is the text: the first word ends at `word`, where `@` stands, and the second one begins at `other`
    let m = c.args.masks.now in
    let end = c.args.end in
    let word = c.in-Some.word in
    let other = c.in-Some-past_byte.other in
    let run = subst (LiesWithin PlainRun m other end) (eqb-true _ _ so) c.in-Some-past_any_run.ensures in
    call_id-two (segment c.args.at end m)
    (then-stands PlainRun (Byte at_sign then PlainRun) m c.args.at end word end c.in-Some.ensures
    (then-stands (Byte at_sign) PlainRun m word end other end c.in-Some-past_byte.ensures run)).2
