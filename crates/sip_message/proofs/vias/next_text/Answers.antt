use Rattle.std.proofs.Common.{drop}
use Rattle.sip_message.specs.declared.name.Known.TheVariants as known_name
use Rattle.sip_message.specs.inner.Views.{slice_fields}
use Rattle.sip_message.proofs.lemmas.via.Elements.{next-behind, next-cut}
use Rattle.sip_message.specs.Field.{values}
use Rattle.sip_message.proofs.vias.next_text.Goals as goal

-- where a comma follows, what stands after it is the next text
pub returns-in-Some : goal.returns-in-Some
returns-in-Some c es left = next-behind _ _ _ c.in-Some.ensures

-- where no comma follows, the value of the next Via field is the next text
pub returns-in-None : goal.returns-in-None
returns-in-None c = next-cut c.args.rest.now _ (λ at. values known_name.Via (drop at (slice_fields c.args.fields))) c.in-None.ensures c.cut_value.result c.cut_value.ensures.values
