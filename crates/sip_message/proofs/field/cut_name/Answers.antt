use Rattle.std.proofs.Common.{sym, ap, ◌∙◌, subst}
use Rattle.sip_text.specs.Bytes.{colon}
use Rattle.sip_text.specs.inner.Cut.{past}
use Rattle.sip_message.specs.inner.Faults.{HasName}
use Rattle.sip_message.specs.inner.Names.{named_parts}
use Rattle.sip_message.proofs.lemmas.front.Cuts.{ReadAs}
use Rattle.sip_message.proofs.lemmas.field.Name.{named-no_token, named-no_colon, named-read}
use Rattle.sip_message.specs.inner.Only.{IsOnlyValue}
use Rattle.sip_message.proofs.field.cut_name.Goals as goal

-- no token stands at the front, so the line has no name
pub returns-in_err-name : goal.returns-in_err-name
returns-in_err-name c = subst (IsOnlyValue HasName named_parts c.args.line.now) (sym c.from_residual.ensures) (named-no_token c.args.line.now c.in_err-name.ensures)

-- where no colon follows the name, the line has no name
pub returns-in_err-rest : goal.returns-in_err-rest
returns-in_err-rest c =
    -- after the token and its blanks no colon stands
    subst (IsOnlyValue HasName named_parts c.args.line.now) (sym c.from_residual-in_err-rest.ensures)
    (named-no_colon c.args.line.now c.in_ok-name.name.now c.in_ok-name.rest.now c.in_ok-name.ensures (ap (past colon) (sym c.past_wsp.ensures) ∙ sym c.in_err-rest.ensures))

-- a name before blanks and a colon is the name of the field
pub returns : goal.returns
returns c =
    subst (λ n. ReadAs (HasName c.args.line.now) (n, c.in_ok-rest.rest.now)) (sym c.read_name.ensures)
    (named-read c.args.line.now c.in_ok-name.name.now c.in_ok-name.rest.now c.in_ok-rest.rest.now c.in_ok-name.ensures (ap (past colon) (sym c.past_wsp.ensures) ∙ sym c.in_ok-rest.ensures))
