use Rattle.sip_machine.proofs.pools.FirstLemmas.{IsPicking}
use Rattle.sip_machine.proofs.pool.keep_phases.Given as goal

-- the phases at the first `to` rows stand in front, and the others where they stood
abbrev pub invariant-loop-to : goal.invariant-loop-to
invariant-loop-to g l = IsPicking l.initial.phases.items l.phases.items l.rows l.to
