use Rattle.sip_machine.proofs.Words.{length, length-append, ◌≡◌, ◌&&◌, Bool, List, All, filter, get_or, map, list_any, ◌∙◌, sym, ap, ap₂, arith, All-weaker, Debt, counts_at, is_payable, is_timely, paid_by, from_to, on_ok, CodeOwing, repaid_at, beside}
use Rattle.sip_machine.proofs.pools.PoolLemmas.{some-at, phase-at}
use Rattle.sip_machine.proofs.pools.PoolEachLemmas.{pushed-is}
use Rattle.sip_machine.proofs.pool.Pool.push_paid_each.Goals as goal

-- the states between the indices that can pay the message and are in time are pushed once more, with it paid
pub returns-clause-ok : goal.returns-clause-ok
returns-clause-ok g c =
    let rows = c.self.inside.dues in
    let xs = c.args.self.now in
    -- the message is sent at the moment t, and q is the phase of the states from one index up to another
    let t = c.args.moment in
    let message = c.args.message in
    let q = c.index-phase.result.now in
    let d = some-at xs c.args.from c.requires.from in
    -- the rows that can pay and are in time are pushed, with the message paid
    let can : List Debt → Bool = λ owes. list_any (is_payable message t) owes && is_timely t owes in
    let pays : List Debt → List Debt = λ owes. filter (counts_at t) (paid_by message t owes) in
    let count = c.len.ensures ∙ ap length c.in_ok-push_paid.ensures.ok ∙ length-append rows (map pays (filter can (from_to c.args.from c.args.to rows))) in
    let phases_is = on_ok c.push_phases.result _ (rw c.is_err.ensures.value at c.if-is_err.false) c.push_phases.ensures.ok in
    -- all states of the run have its phase, and the new ones are the old ones with the message paid; `Denot` is the type of the phases as clauses see them
    let phase = phase-at _ _ xs c.args.from q d c.self.view_is c.requires.from c.index-phase.ensures in
    let each : All (λ (x : CodeOwing g.row.P.Denot). record { phase = q; owes = pays x.owes } ≡ repaid_at t message x) (from_to c.args.from c.args.to xs)
    = All-weaker (λ x. x.phase ≡ (get_or xs c.args.from d).phase) (λ x. record { phase = q; owes = pays x.owes } ≡ repaid_at t message x)
    (λ x same. ap (λ p. record { phase = p; owes = pays x.owes }) (sym phase ∙ sym same)) (from_to c.args.from c.args.to xs) (c.requires.same d) in
    ap₂ beside phases_is c.in_ok-push_paid.ensures.ok
    ∙ pushed-is q pays (repaid_at t message) can c.self.inside.phases.items rows xs c.args.from c.args.to _ c.self.view_is c.self.invariant (omega (arith, count, c.len-before.ensures)) each
