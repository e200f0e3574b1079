-- At each turn of the loop (`c.loop-at.invariant`) part 0 says that the rows are the first ones, 1 that the slots have as many prints, 2 that they are theirs.
use Rattle.sip_machine.proofs.Words.{◌≡◌, ◌<◌, ◌+◌, ◌-◌, get_or, length, ◌∙◌, ap, sym, subst, arith, cases_lt, get_or_default, get_or_append_left, get_or_push, length_push, AreFirstOnes}
use Rattle.sip_machine.proofs.pools.FirstLemmas.{first-told, first-again}
use Rattle.sip_machine.proofs.pool.Pool.first_by.Goals as goal
use Rattle.sip_machine.proofs.pool.Pool.first_by.Goals.{then-not-is_repeat+in_ok-push+in_ok-push-2, else-not-is_repeat}

-- the rows are those up to here whose state has no equal before it, and the slots have the print of each
pub loop-at-preserved : goal.loop-at-preserved
loop-at-preserved g c =
    let xs = c.args.self.now in
    let at = c.loop-at.at in
    let from = c.args.from in
    let rows = c.loop-at.rows.items in
    let prints = c.args.prints.now in
    -- `kept` are the prints in the slots, and `print` is that of the state at hand
    let kept = c.loop-at.slots.prints in
    let print = get_or prints (at - from) 0 in
    -- the state has an equal before it exactly if one of the first ones is equal
    let (first, long, told) = c.loop-at.invariant in
    let repeats = rw c.deref.ensures.value at c.is_repeat.ensures in
    elim c.if-not-is_repeat.branch [
      -- no state before it is equal, so its row is one of the first ones
      | then-not-is_repeat+in_ok-push+in_ok-push-2 w ↦
          let more_rows = length_push rows at in
          let more_kept = length_push kept print in
          -- the rows have one more, and the print of each row stands beside it
          rw (w.rows-is, w.slots-is, w.in_ok-push.ensures.ok, w.in_ok-push-2.ensures.items) (
            first-told xs from at rows c.is_repeat.result c.loop-at.auto.at first repeats w.if-not-is_repeat.true,
            more_kept ∙ ap (λ n. n + 1) long ∙ sym more_rows,
            -- each row has its print, the new one too
            (λ k low. grind (arith, cases_lt k (length rows), get_or_append_left, get_or_push, told k)),
          )
      -- a state before it is equal, so the rows stay
      | else-not-is_repeat w ↦ rw (w.rows-is, w.slots-is) (first-again xs from at rows first (λ x. (repeats x).0 w.if-not-is_repeat.false), long, told)
    ]

-- at the end of the loop the rows are those of all states that have no equal before them
pub returns : goal.returns
returns g c =
    let end : c.loop-at.at ≡ length c.args.self.now = omega arith in
    subst (λ n. AreFirstOnes c.args.self.now c.args.from n c.loop-at.rows.items) end c.loop-at.invariant.0
