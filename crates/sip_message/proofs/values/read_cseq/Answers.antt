use Rattle.std.proofs.Common.{sym, subst}
use Rattle.std.proofs.lemmas.Bool.{both_ways}
use Rattle.std.proofs.lemmas.List.{take_rest}
use Rattle.sip_message.specs.inner.Values.{CSeqValue}
use Rattle.sip_message.specs.ValueParts.{cseq_parts}
use Rattle.sip_message.proofs.lemmas.value.CSeq.{same-cseq, cseq-large, cseq-no_digit, cseq-no_blank, cseq-method, cseq-is}
use Rattle.sip_message.proofs.values.read_cseq.Goals as goal
use Rattle.sip_message.specs.inner.Only.{IsOnlyValue}
use Rattle.sip_message.proofs.values.read_cseq.Goals.{then-len-eq0-via-then-len-eq0, then-len-eq0-via-else-len-eq0+then-blanks-eq0, then-len-eq0-via-else-len-eq0+else-blanks-eq0+then-not-is_token}

-- where the number is too great, the text is no CSeq
pub returns-in_err-number : goal.returns-in_err-number
returns-in_err-number c =
    -- the digits at the front write a number that is too great
    subst (IsOnlyValue CSeqValue cseq_parts c.args.text.now) (sym c.from_residual.ensures)
    (cseq-large c.args.text.now c.digits_len-len.result c.digits_len-len.ensures.run c.in_err-number.ensures)

-- without a digit at the front, a blank after the digits or a method after the blank, the text is no CSeq
pub returns-then-len-eq0 : goal.returns-then-len-eq0
returns-then-len-eq0 c = λ x is.
    -- n is how many digits stand at the front
    let text = c.args.text.now in
    let n = c.digits_len-len.result in
    let run = c.digits_len-len.ensures.run in
    let rest_is = take_rest text n in
    elim c.then-len-eq0.branch [
      -- no digit stands at the front
      | then-len-eq0-via-then-len-eq0 w ↦ cseq-no_digit text n run w.if-len-eq0.true x is
      -- no blank follows the digits
      | then-len-eq0-via-else-len-eq0+then-blanks-eq0 w ↦
          cseq-no_blank text _ n c.skip_lws-blanks.result run rest_is c.skip_lws-blanks.ensures.reads w.if-blanks-eq0.true x is
      -- no token follows the blank
      | then-len-eq0-via-else-len-eq0+else-blanks-eq0+then-not-is_token w ↦
          both_ways w.is_token.result w.if-not-is_token.true
          (w.is_token.ensures.1 (cseq-method text _ _ n c.skip_lws-blanks.result run rest_is (take_rest _ c.skip_lws-blanks.result) c.skip_lws-blanks.ensures.reads w.if-blanks-eq0.false x is))
    ]

-- digits, blanks and a method are the one CSeq of the text
pub returns : goal.returns
returns c =
    -- n is how many digits stand at the front, and `is` says that the text is a CSeq
    let text = c.args.text.now in
    let n = c.digits_len-len.result in
    let is = cseq-is text _ _ n c.skip_lws-blanks.result c.in_ok-number.number c.digits_len-len.ensures.run c.digits_len-len.ensures.within (take_rest text n) (take_rest _ c.skip_lws-blanks.result)
    c.if-len-eq0.false c.skip_lws-blanks.ensures.reads c.if-blanks-eq0.false (c.is_token.ensures.0 c.if-not-is_token.false) c.in_ok-number.ensures.0 c.in_ok-number.ensures.1 in
    (is, (λ x other. same-cseq text x _ other is))
