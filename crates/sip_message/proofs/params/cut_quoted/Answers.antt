use Rattle.std.proofs.Common.{take, sym, subst}
use Rattle.std.proofs.lemmas.List.{take_rest}
use Rattle.sip_message.specs.inner.Fronts.{pair_parts}
use Rattle.sip_message.specs.inner.ParamFronts.{QuotedFront}
use Rattle.sip_message.proofs.lemmas.front.Cuts.{ReadAs}
use Rattle.sip_message.proofs.lemmas.params.Value.{no-quoted, one-quoted_string}
use Rattle.sip_message.specs.inner.Only.{IsOnlyValue}
use Rattle.sip_message.proofs.params.cut_quoted.Goals as goal

-- where no quoted string stands at the front, none is read
pub returns-in_err-len : goal.returns-in_err-len
returns-in_err-len c =
    subst (IsOnlyValue QuotedFront pair_parts c.args.text.now) (sym c.from_residual-in_err-len.ensures)
    (no-quoted c.args.text.now c.in_err-len.ensures.reads)

-- the quoted string is cut off, and what follows it is left
pub returns : goal.returns
returns c =
    -- n is the length of the quoted string at the front
    let text = c.args.text.now in
    let n = c.in_ok-len.len in
    subst (λ t. ReadAs (QuotedFront text) (take n text, t)) (sym (take_rest text n))
    (one-quoted_string text c.in_ok-past.field-0.now n (sym c.in_ok-past.ensures) c.in_ok-len.ensures.reads)
