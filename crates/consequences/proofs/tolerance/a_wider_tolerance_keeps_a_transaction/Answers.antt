use Rattle.sip_standard.specs.KeyMachine.{machine_of_key}
use Rattle.sip_standard.specs.VerdictOf.{events_for}
use Rattle.consequences.proofs.lemmas.tolerance.AllWider.{all-wider}
use Rattle.consequences.proofs.lemmas.tolerance.SeenKinds.{events-are-of-one-kind}
use Rattle.consequences.proofs.tolerance.a_wider_tolerance_keeps_a_transaction.Goals as goal

-- the run by the narrow tolerance is one by the wide one
pub returns : goal.returns
returns c = λ p early late input items end es key earlier later says seen runs.
    let one = events-are-of-one-kind says.format items es key says.order seen in
    let wider = all-wider p early late (machine_of_key p.rules key) (events_for key es) _ runs.0 earlier later one runs.1 in
    (wider.0, wider.1)
