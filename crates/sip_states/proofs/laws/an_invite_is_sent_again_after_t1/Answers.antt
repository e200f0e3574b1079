use Rattle.std.specs.Prelude.{◌∷◌, true}
use Rattle.sip_standard.specs.declared.role.Role.TheVariants.{Client}
use Rattle.sip_standard.specs.declared.rules.Rules.TheVariants.{R6026}
use Rattle.sip_standard.specs.KeyMachine.{machine_of, transaction_of}
use Rattle.sip_states.proofs.keyed.KeySetLaws.{coded_holds}
use Rattle.sip_states.proofs.runs.StandsLemmas.{stands-after}
use Rattle.sip_states.proofs.runs.ClientLaws.{invite_again}
use Rattle.sip_states.proofs.laws.an_invite_is_sent_again_after_t1.Goals as goal

-- what stands in the law is a run, of which the lemma speaks
pub returns : goal.returns
returns c =
    λ p first between e y first_sent first_kind sent kind stands.
    let machine = machine_of R6026 Client true in
    invite_again p first between e y first_sent first_kind sent kind ((stands-after (transaction_of machine).figure (coded_holds machine).is_figure p (first ∷ between) e y).0 stands)
