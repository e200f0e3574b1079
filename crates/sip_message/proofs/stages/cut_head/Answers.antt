use Rattle.std.proofs.Common.{◌+◌, take, sym, subst}
use Rattle.std.proofs.lemmas.List.{take_rest}
use Rattle.sip_standard.specs.Lines.{CutSays}
use Rattle.sip_message.specs.inner.Fronts.{pair_parts}
use Rattle.sip_message.proofs.lemmas.front.Cuts.{ReadAs}
use Rattle.sip_message.proofs.lemmas.lines.HeadEnd.{no-head, one-head}
use Rattle.sip_message.specs.inner.Only.{IsOnlyValue}
use Rattle.sip_message.proofs.stages.cut_head.Goals as goal

-- where no empty line stands in the bytes, they have no head
pub returns-in_err-at : goal.returns-in_err-at
returns-in_err-at c = subst (IsOnlyValue CutSays pair_parts c.args.bytes.now) (sym c.from_residual.ensures) (no-head c.args.bytes.now c.in_err-at.ensures)

-- the head ends before the empty line
pub returns : goal.returns
returns c =
    -- CRLF CRLF stands at the place `at`: the head has its first CRLF, and the body begins after its second
    let text = c.args.bytes.now in
    let at = c.in_ok-at.at in
    subst (λ b. ReadAs (CutSays text) (take (at + 2) text, b)) (sym (take_rest text (at + 4))) (one-head text at c.in_ok-at.ensures.0 c.in_ok-at.ensures.1)
