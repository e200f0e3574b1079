use Rattle.sip_standard.specs.KeyMachine.{transaction_of}
use Rattle.sip_states.proofs.keyed.KeySetLaws.{coded_holds}
use Rattle.sip_states.proofs.runs.StandsLemmas.{stands-wait_first, stands-wait, stands-gives}
use Rattle.sip_states.proofs.laws.by_waiting_and_stepping.Goals as goal

-- the laws of runs hold of the figure of each machine
pub returns : goal.returns
returns c =
    record {
      first = λ p machine. stands-wait_first (transaction_of machine).figure (coded_holds machine).is_figure p;
      next = λ p machine. stands-wait (transaction_of machine).figure (coded_holds machine).is_figure p;
      after = λ p machine. stands-gives (transaction_of machine).figure (coded_holds machine).is_figure p;
    }
