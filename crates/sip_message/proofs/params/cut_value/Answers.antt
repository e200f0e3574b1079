use Rattle.sip_message.specs.inner.Fronts.{pair_parts}
use Rattle.sip_message.proofs.lemmas.params.Value.{value-quoted, value-reference, value-bare}
use Rattle.sip_message.proofs.params.cut_value.Goals as goal

-- where a quoted string is read at the front, it is the value
pub returns-in-Some : goal.returns-in-Some
returns-in-Some c = value-quoted c.args.text.now c.in-Some.value.now c.in-Some.rest.now c.in-Some.ensures

-- where an IPv6 address in brackets is read at the front, it is the value
pub returns-in-Some-cut_reference : goal.returns-in-Some-cut_reference
returns-in-Some-cut_reference c =
    value-reference c.args.text.now c.in-Some-cut_reference.value.now c.in-Some-cut_reference.rest.now c.in-Some-cut_reference.ensures

-- the value is a token or an IPv6 address without brackets, or there is none
pub returns : goal.returns
returns c =
    value-bare pair_parts c.args.text.now c.cut_bare.result c.in_default.ensures c.in_default-cut_reference.ensures c.cut_bare.ensures
