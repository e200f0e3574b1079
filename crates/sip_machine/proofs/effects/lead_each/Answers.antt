use Rattle.std.proofs.Common.{arith}
use Rattle.sip_machine.proofs.debts.DueLemmas.{counted-gain}
use Rattle.sip_machine.proofs.debts.DuesEachLemmas.{mapped-twice}
use Rattle.sip_machine.proofs.effects.lead_each.Goals as goal

-- each row owes what has not expired, and what the row of the machine adds
pub returns-in_ok-expire_each-in-Gains-clause-ok : goal.returns-in_ok-expire_each-in-Gains-clause-ok
returns-in_ok-expire_each-in-Gains-clause-ok c = grind (arith, mapped-twice, counted-gain)
