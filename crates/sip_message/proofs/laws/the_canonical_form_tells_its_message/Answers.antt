use Rattle.sip_message.proofs.lemmas.says.Canonical.{canonical-tells, same-canonical}
use Rattle.sip_message.proofs.laws.the_canonical_form_tells_its_message.Goals as goal

-- the canonical form of what bytes tell tells the same, each name in full and each value in one line
pub returns-clause-told : goal.returns-clause-told
returns-clause-told c bytes (start, fields, body) = canonical-tells bytes start fields body

-- messages that tell the same have one canonical form
pub returns-clause-same : goal.returns-clause-same
returns-clause-same c = same-canonical
