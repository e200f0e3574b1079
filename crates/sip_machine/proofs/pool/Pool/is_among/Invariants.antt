use Rattle.sip_machine.proofs.Words.{take}
use Rattle.sip_machine.proofs.pools.FirstLemmas.{IsNew}
use Rattle.sip_machine.proofs.pool.Pool.is_among.Given as goal

-- none of the rows before the index has the state
abbrev pub invariant-loop-row : goal.invariant-loop-row
invariant-loop-row g l = IsNew l.self (take l.row-index l.rows) l.at
