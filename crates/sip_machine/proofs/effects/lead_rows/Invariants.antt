use Rattle.std.specs.Prelude.{◌≡◌, ◌≤◌, filter}
use Rattle.sip_ledger.specs.Debts.{counts_at}
use Rattle.sip_machine.specs.inner.Turns.{changed_debts}
use Rattle.sip_ledger.proofs.lists.EachLemmas.{changing}
use Rattle.sip_machine.proofs.effects.lead_rows.Given as goal

-- the rows from `from` up to `row` owe what the change makes of what has not expired, and the others owe what they did
abbrev pub invariant-loop-row : goal.invariant-loop-row
invariant-loop-row l = (l.from ≤ l.row) × (l.dues ≡ changing (λ owes. changed_debts l.params l.moment l.change (filter (counts_at l.moment) owes)) l.from l.row l.initial.dues)
