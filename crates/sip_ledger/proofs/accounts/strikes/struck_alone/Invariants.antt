use Rattle.sip_ledger.proofs.Lemmas.{AreStruckToo, is_out, ◌-◌, ◌≤◌}
use Rattle.sip_ledger.proofs.accounts.strikes.struck_alone.Given as goal

-- what the strike strikes of what is left before the place, the others strike too
abbrev pub invariant-loop-place : goal.invariant-loop-place
invariant-loop-place l = (l.from ≤ l.place) × AreStruckToo l.gains (λ m k. is_out m k l.strike) l.others l.from l.place

-- each turn of the loop goes to a later place, up to the end of the strike
abbrev pub decreases-loop-place : goal.decreases-loop-place
decreases-loop-place l = l.to - l.place
