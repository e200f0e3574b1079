use Rattle.sip_machine.proofs.Words.{◌≡◌, blank_rows}
use Rattle.sip_machine.proofs.dues.blank.Given as goal

-- there are `row` rows, and none of them owes anything
abbrev pub invariant-loop-row : goal.invariant-loop-row
invariant-loop-row l = l.accounts ≡ blank_rows l.row
