use Rattle.sip_machine.proofs.Words.{length, length-append, take-append_seam, drop-append_seam, ap, ◌≡◌, ◌++◌, List, filter, map, refl, ◌∙◌, ap₂, arith, Debt, counts_at, is_timely, from_to, on_ok, changed_debts, led_by, beside}
use Rattle.sip_machine.proofs.pools.PoolEachLemmas.{pushed-is}
use Rattle.sip_machine.proofs.pool.Pool.push_led_each.Goals as goal

-- the states between the indices whose debts are in time are pushed once more, as the turn leads them
pub returns-clause-ok : goal.returns-clause-ok
returns-clause-ok g c =
    let rows = c.self.inside.dues in
    let t = c.args.moment in
    let p = c.args.params.now in
    let leads : List Debt → List Debt = λ owes. changed_debts p t c.args.turn.change (filter (counts_at t) owes) in
    -- the rows whose debts are in time are pushed, changed as the row of the machine says
    let some = filter (is_timely t) (from_to c.args.from c.args.to rows) in
    let led = on_ok c.lead_each-led.result _ (rw c.is_err.ensures.value at c.if-is_err.false) c.lead_each-led.ensures.ok in
    let dues_is : c.lead_each-led.new.dues ≡ rows ++ map leads some
    = led ∙ rw (c.in_ok-push_timely.ensures.ok, c.len-before.ensures, take-append_seam, drop-append_seam) refl in
    -- as many phases are pushed as rows
    let phases_is = on_ok c.push_phases.result _ (rw c.is_err-else-is_err.ensures.value at c.if-is_err-2.false) c.push_phases.ensures.ok in
    ap₂ beside phases_is dues_is
    ∙ pushed-is c.args.turn.phase leads (led_by p t c.args.turn) (is_timely t) c.self.inside.phases.items rows c.args.self.now c.args.from c.args.to _ c.self.view_is c.self.invariant
    (omega (arith, ap length dues_is, length-append rows (map leads some), c.len.ensures, c.len-before.ensures)) (λ k x low. refl)
