use Rattle.sip_machine.proofs.Words.{◌≡◌, ◌<◌, ℕ, [], owed_in}
use Rattle.sip_machine.proofs.dues.is_blank.Given as goal

-- the rows before `row` owe nothing
abbrev pub invariant-loop-row : goal.invariant-loop-row
invariant-loop-row l = (k : ℕ) → k < l.row → owed_in l.accounts k ≡ []
