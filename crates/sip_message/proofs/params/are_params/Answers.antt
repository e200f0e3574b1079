use Rattle.std.proofs.Common.{◌↔◌, IsTrue, sym, subst}
use Rattle.sip_message.specs.inner.ParamFronts.{GenericParams}
use Rattle.sip_message.proofs.lemmas.params.Reading.{decides-params}
use Rattle.sip_message.proofs.params.are_params.Goals as goal

-- the answer is whether nothing is left after the parameters that are read
pub returns : goal.returns
returns c =
    subst (λ b. IsTrue b ↔ GenericParams c.args.text.now) (sym c.is_empty.ensures)
    (decides-params c.args.text.now c.past_params.result.now c.past_params.ensures)
