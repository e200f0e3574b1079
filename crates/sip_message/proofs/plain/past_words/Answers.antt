use Rattle.sip_standard.specs.Text.{◌then◌}
use Rattle.sip_text.specs.Bytes.{space, Byte}
use Rattle.sip_message.specs.inner.AddressFronts.{Words}
use Rattle.sip_message.specs.inner.Plain.{PlainRun}
use Rattle.sip_message.proofs.PlainLemmas.{stands-as, then-stands, words-one, words-more}
use Rattle.sip_message.proofs.plain.past_words.Goals as goal

-- the first run of plain bytes alone is words
pub words-init : goal.words-init
words-init c = stands-as PlainRun Words c.args.masks.now c.args.at c.args.end c.in_ok-to.to words-one c.in_ok-to.ensures

-- words, a SP and one run of plain bytes more are words
pub words-preserved : goal.words-preserved
words-preserved c =
    -- m is the text: the words go up to `to`, a SP stands there, and a run of plain bytes from `word` to `next`
    let m = c.args.masks.now in
    stands-as (Words then Byte space then PlainRun) Words m c.args.at c.args.end c.in-Some-past_run.next words-more
    (then-stands Words (Byte space then PlainRun) m c.args.at c.args.end c.words.to c.in-Some-past_run.next c.words.invariant
    (then-stands (Byte space) PlainRun m c.words.to c.args.end c.in-Some.word c.in-Some-past_run.next c.in-Some.ensures c.in-Some-past_run.ensures))
