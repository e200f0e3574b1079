use Rattle.std.proofs.Common.{sym, subst}
use Rattle.sip_message.specs.inner.ParamFronts.{ParamFront, param_parts}
use Rattle.sip_message.proofs.lemmas.front.Cuts.{stop, go-stop, go, last}
use Rattle.sip_message.specs.inner.Only.{IsOnlyValue}
use Rattle.sip_message.proofs.params.cut_param.Goals as goal

-- where no name follows the ";", no parameter is read
pub returns-in_err-name : goal.returns-in_err-name
returns-in_err-name c =
    -- the ";" is read, and then nothing (`go-stop`)
    subst (IsOnlyValue ParamFront param_parts c.args.text.now) (sym c.from_residual-in_err-name.ensures)
    (go-stop c.in_ok-past_mark.ensures (stop c.in_err-name.ensures))

-- where a "=" follows the name without a value, no parameter is read
pub returns-in_err-value : goal.returns-in_err-value
returns-in_err-value c =
    -- the ";" and the name are read, and then nothing
    subst (IsOnlyValue ParamFront param_parts c.args.text.now) (sym c.from_residual-in_err-value.ensures)
    (go-stop c.in_ok-past_mark.ensures (go-stop c.in_ok-name.ensures (stop c.in_err-value.ensures)))

-- a ";", a name and an optional value are a parameter
-- the proof is `go` for each step that reads, and `last` for the parameter that is made of what they read
pub returns : goal.returns
returns c = go c.in_ok-past_mark.ensures (go c.in_ok-name.ensures (go c.in_ok-value.ensures (last _)))
