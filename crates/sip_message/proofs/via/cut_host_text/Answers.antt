use Rattle.sip_message.specs.inner.Fronts.{pair_parts}
use Rattle.sip_message.proofs.lemmas.via.Host.{host-bracket, host-token}
use Rattle.sip_message.proofs.via.cut_host_text.Goals as goal

-- where something in brackets stands at the front, it is what may be a host
pub returns-in-Some : goal.returns-in-Some
returns-in-Some c = host-bracket c.args.text.now c.in-Some.part.now c.in-Some.rest.now c.in-Some.ensures

-- where nothing in brackets stands at the front, a token there is what may be a host
pub returns : goal.returns
returns c = host-token pair_parts c.args.text.now c.cut_token.result c.in_default.ensures c.cut_token.ensures
