use Rattle.sip_ledger.proofs.Lemmas.{ap, arith, changing-more, counts_at, filter, get_or, none-past, on_ok, set, [], ◌∙◌}
use Rattle.sip_ledger.proofs.accounts.Accounts.expire_each.Goals as goal

-- no debt has expired, so all rows stay as they are
pub returns-then-all_count-clause-ok : goal.returns-then-all_count-clause-ok
returns-then-all_count-clause-ok c =
    let s = c.self.inside in
    none-past s.gains s.strikes.items s.rows.items c.args.self.now c.args.from c.args.moment c.self.invariant.gained c.self.view_is c.if-all_count.ensures

-- after one row more, the rows up to it owe nothing whose deadline is past
pub loop-row-preserved : goal.loop-row-preserved
loop-row-preserved c =
    let was = c.loop-row.invariant in
    let k = c.loop-row.row in
    let lose = filter (counts_at c.args.moment) in
    let gone = on_ok c.expire.result _ (rw c.is_err.ensures.value at c.if-is_err.false) c.expire.ensures.ok in
    (omega (arith, was.0), gone ∙ ap (λ rows. set rows k (lose (get_or rows k []))) was.1 ∙ changing-more lose c.args.from k c.args.self.now [] was.0 (omega arith))
