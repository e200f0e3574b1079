use Rattle.sip_standard.specs.KeyMachine.{transaction_of}
use Rattle.sip_states.proofs.keyed.QuietLemmas.{restarts_once}
use Rattle.sip_states.proofs.laws.a_second_restart_changes_nothing.Goals as goal

-- the law is the lemma of restarts, with the figure of this machine
pub returns : goal.returns
returns c = λ machine x y z first second. restarts_once (transaction_of machine).figure x y z first second
