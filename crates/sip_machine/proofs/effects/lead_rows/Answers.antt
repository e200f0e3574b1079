use Rattle.std.specs.Prelude.{filter, get_or, set, List, []}
use Rattle.std.proofs.Common.{arith, ◌∙◌, ap}
use Rattle.sip_ledger.specs.declared.debt.Debt.{Debt}
use Rattle.sip_ledger.specs.Debts.{counts_at}
use Rattle.sip_ledger.proofs.lists.EachLemmas.{changing-more}
use Rattle.sip_machine.specs.inner.Turns.{changed_debts}
use Rattle.sip_machine.proofs.effects.lead_rows.Goals as goal

-- one row more is led
pub loop-row-preserved : goal.loop-row-preserved
loop-row-preserved c =
    let leads : List Debt → List Debt = λ owes. changed_debts c.args.params.now c.args.moment c.args.change (filter (counts_at c.args.moment) owes) in
    let was = c.loop-row.invariant in
    let k = c.loop-row.row in
    (omega (arith, was.0), c.in_ok-lead.ensures.ok ∙ ap (λ rows. set rows k (leads (get_or rows k []))) was.1 ∙ changing-more leads c.args.from k c.args.dues.now [] was.0 (omega arith))
