use Rattle.sip_standard.specs.Solid.{solid}
use Rattle.sip_key.proofs.SolidLemmas.{same-items}
use Rattle.sip_key.proofs.solid.same_solid.Goals as goal

-- two texts are equal without their blanks exactly if they give the same bytes that are no blanks
pub returns-else-eq : goal.returns-else-eq
returns-else-eq c = same-items c.eq-else-eq.result (solid c.args.a.now) (solid c.args.b.now) c.eq-else-eq.ensures.ran
