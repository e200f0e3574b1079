use Rattle.std.specs.Prelude.{take}
use Rattle.std.proofs.lemmas.Result.{on_ok_weaker}
use Rattle.sip_machine.specs.NumberedEvent.{event_in}
use Rattle.sip_machine.specs.Rules.{FromSome}
use Rattle.sip_machine.proofs.pools.CoversLemmas.{HasFound}
use Rattle.sip_states.specs.inner.Ways.{GivesFrom}
use Rattle.sip_states.proofs.sets.Stepping.{Covers-iff, gives_some}
use Rattle.sip_states.proofs.steps.step_each.Goals as goal

-- what was found is what the event gives to the first states, which are `count`
pub returns-clause-gives : goal.returns-clause-gives
returns-clause-gives g c =
    let texts = c.args.book.now in
    let m = c.args.machine.now in
    let r = g.M.Machine.rules m in
    let e = event_in texts c.args.event.now in
    let some = take c.args.count c.args.pool.now in
    -- what each state gives is what the event gives from one of them
    on_ok_weaker c.successors_each.result
    (λ (has : HasFound g.M.Machine.names g.M.Machine.in_range g.M.Machine.seen texts (λ x. r.Take (g.M.Machine.seen texts x) e) some c.args.pool.now c.successors_each.new.pool).
    let (found, is, covers) = has in (
      found,
      is,
      Covers-iff g.M.Machine.names g.M.Machine.in_range g.M.Machine.seen texts (FromSome (λ x. r.Take (g.M.Machine.seen texts x) e) some)
          (GivesFrom g.M.Machine.seen texts r some e) (gives_some g.M.Machine.seen texts r e (g.met.M.Machine.lawful m) some) found covers,
    ))
    c.successors_each.ensures.gives
