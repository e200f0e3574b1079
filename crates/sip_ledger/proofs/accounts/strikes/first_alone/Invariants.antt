use Rattle.sip_ledger.proofs.Lemmas.{AreStruckToo, is_struck, take, ◌≤◌}
use Rattle.sip_ledger.proofs.accounts.strikes.first_alone.Given as goal

-- what the strikes before the index strike of what is left before `first`, the others strike too
abbrev pub invariant-loop-at : goal.invariant-loop-at
invariant-loop-at l = (l.from ≤ l.first) × (l.first ≤ l.end) × AreStruckToo l.gains (is_struck (take l.at l.strikes)) l.others l.from l.first
