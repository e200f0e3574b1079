use Rattle.sip_standard.specs.declared.role.Role.TheVariants.{Server}
use Rattle.sip_standard.specs.KeyMachine.{machine_of, transaction_of}
use Rattle.sip_states.proofs.keyed.KeySetLaws.{coded_holds}
use Rattle.sip_states.proofs.runs.StandsLemmas.{stands-after}
use Rattle.sip_states.proofs.runs.ServerLaws.{server_sends_when_asked}
use Rattle.sip_states.proofs.laws.a_server_sends_when_it_was_asked.Goals as goal

-- what stands in the law is a run, of which the lemma speaks
pub returns : goal.returns
returns c = λ p rules invite events e y stands.
    let machine = machine_of rules Server invite in
    server_sends_when_asked p rules invite events e y ((stands-after (transaction_of machine).figure (coded_holds machine).is_figure p events e y).0 stands)
