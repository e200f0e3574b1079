use Rattle.sip_standard.specs.KeyMachine.{transaction_of}
use Rattle.sip_states.proofs.keyed.KeySetLaws.{coded_holds}
use Rattle.sip_states.proofs.runs.StandsLemmas.{stands-fewer}
use Rattle.sip_states.proofs.laws.a_run_holds_one_over_fewer_events.Goals as goal

-- the law is the lemma of runs, with the figure of this machine
pub returns : goal.returns
returns c = λ p machine. stands-fewer (transaction_of machine).figure (coded_holds machine).is_figure p
