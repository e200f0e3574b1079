use Rattle.std.specs.Prelude.{◌∷◌, ◌++◌, true, false}
use Rattle.sip_standard.specs.declared.role.Role.TheVariants.{Client}
use Rattle.sip_standard.specs.declared.rules.Rules.TheVariants.{R6026}
use Rattle.sip_standard.specs.KeyMachine.{machine_of, transaction_of}
use Rattle.sip_states.proofs.keyed.KeySetLaws.{coded_holds}
use Rattle.sip_states.proofs.runs.StandsLemmas.{stands-after}
use Rattle.sip_states.proofs.runs.ClientLaws.{invite_after_final, plain_after_final}
use Rattle.sip_states.proofs.laws.after_a_final_response_a_client_sends_no_request.Goals as goal

-- what stands in the law is a run, of which the lemma speaks
pub returns-clause-invite : goal.returns-clause-invite
returns-clause-invite c =
    λ p before between rest request final e code y asked invite answered response is_final sent stands.
    let machine = machine_of R6026 Client true in
    invite_after_final p before between rest request final e code y asked invite answered response is_final sent
    ((stands-after (transaction_of machine).figure (coded_holds machine).is_figure p (before ++ request ∷ (between ++ final ∷ rest)) e y).0 stands)

-- a client of any other method sends nothing after a final response
pub returns-clause-plain : goal.returns-clause-plain
returns-clause-plain c =
    λ p rules before between rest request final e code y asked plain answered response is_final sent stands.
    let machine = machine_of rules Client false in
    plain_after_final p rules before between rest request final e code y asked plain answered response is_final sent
    ((stands-after (transaction_of machine).figure (coded_holds machine).is_figure p (before ++ request ∷ (between ++ final ∷ rest)) e y).0 stands)
