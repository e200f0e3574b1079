use Rattle.std.proofs.Common.{sym, ◌∙◌}
use Rattle.sip_text.proofs.hosts.V6Lemmas.{v6-yes, v6-is}
use Rattle.sip_text.proofs.host.is_ipv6_address.Goals as goal

-- the text that the reader takes is an address, and each address is taken
pub returns : goal.returns
returns c = (
  λ is. v6-yes c.args.text.now (sym c.is_v6.ensures ∙ is),
  λ address. c.is_v6.ensures ∙ v6-is c.args.text.now address,
)
