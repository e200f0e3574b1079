use Rattle.std.proofs.Common.{◌≡◌, ◌<◌, ◌^◌, sym, subst}
use Rattle.std.specs.Str.Parse.{digits_value}
use Rattle.sip_standard.specs.Values.{CSeqSays}
use Rattle.sip_message.specs.inner.Values.{Digits}
use Rattle.sip_message.specs.inner.Plain.{segment, LiesWithin, PlainRun}
use Rattle.sip_message.proofs.PlainValueLemmas.{cseq-plain}
use Rattle.sip_message.proofs.plain_values.plain_cseq.Goals as goal

-- a plain number, one blank and a token up to the end are a CSeq
pub returns : goal.returns
returns c =
    -- m is the text: the digits go from `at` to `digits`, a SP stands there, and the method begins at `method`
    let m = c.args.masks.now in
    let at = c.args.at in
    let end = c.args.end in
    let digits = c.in_ok-digits.digits in
    let method = c.in_ok-method.method in
    let number = c.in_ok-number.number in
    let same = c.text-text.ensures in
    -- the method goes to the end, and the digits write the number
    let run = subst (LiesWithin PlainRun m method end) c.if-to-end.false c.in_ok-to.ensures in
    let is = subst (λ t. Digits (segment at digits t) × (number ≡ digits_value 10 (segment at digits t)) × (number < 2 ^ 31)) same c.in_ok-number.ensures in
    subst (λ t. CSeqSays (number, segment method end t) (segment at end m)) (sym same)
    (cseq-plain m at end digits method number c.in_ok-digits.ensures c.in_ok-method.ensures run is.0 is.1 is.2)
