use Rattle.sip_machine.proofs.pools.FirstLemmas.{first-told, first-again}
use Rattle.sip_machine.proofs.pool.Pool.first_of_few.Goals as goal
use Rattle.sip_machine.proofs.pool.Pool.first_of_few.Goals.{then-not-is_among+in_ok-push, else-not-is_among}

-- the rows are those up to here whose state has no equal before it
pub loop-at-preserved : goal.loop-at-preserved
loop-at-preserved g c =
    let xs = c.args.self.now in
    let at = c.loop-at.at in
    let rows = c.loop-at.rows.items in
    let first = c.loop-at.invariant in
    -- `c.loop-at.auto.at` says that `at` is not before `from`, where the loop begins
    let among = rw c.deref.ensures.value at c.is_among.ensures in
    -- the state has no equal among the first ones, or it has one
    elim c.if-not-is_among.branch [
      | then-not-is_among+in_ok-push w ↦
          rw (w.rows-is, w.in_ok-push.ensures.items) (first-told xs c.args.from at rows c.is_among.result c.loop-at.auto.at first among w.if-not-is_among.true)
      | else-not-is_among w ↦ rw w.rows-is (first-again xs c.args.from at rows first (λ x. (among x).0 w.if-not-is_among.false))
    ]
