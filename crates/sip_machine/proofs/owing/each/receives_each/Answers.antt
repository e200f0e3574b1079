-- In the answers m is the machine by its figure and its phases, p its times and e the event as the definitions have it.
use Rattle.std.specs.Prelude.{take}
use Rattle.std.proofs.lemmas.Result.{on_ok_weaker}
use Rattle.sip_machine.specs.NumberedEvent.{event_in}
use Rattle.sip_machine.specs.Rules.{FromSome}
use Rattle.sip_machine.specs.FigureRules.{TakeOf}
use Rattle.sip_machine.specs.Owing.{owing_seen, owing_names, OwingInRange}
use Rattle.sip_machine.specs.inner.Effects.{LeadsFrom}
use Rattle.sip_machine.proofs.pools.CoversLemmas.{HasFound, FromSome-same, Covers-same}
use Rattle.sip_machine.proofs.steps.OwingEachLemmas.{takes-received}
use Rattle.sip_machine.proofs.owing.each.receives_each.Goals as goal

-- what the states take of a received message is what the rows lead to, since receiving pays nothing
pub returns-clause-gives : goal.returns-clause-gives
returns-clause-gives g c =
    -- P holds of a state and of what it leads to, and `some` are the states that are asked
    let m = g.M.Phases in
    let texts = c.args.book.now in
    let p = m.times c.args.machine.now in
    let e = event_in texts c.args.event.now in
    let P = LeadsFrom m.figure p m.seen texts e in
    let old = c.args.pool.now in
    let some = take c.args.count old in
    -- what is found by the rows is what the states take
    on_ok_weaker c.leads_each.result
    (λ (has : HasFound (owing_names m.names) (OwingInRange m.in_range) (owing_seen m.seen) texts P some old c.leads_each.new.pool).
    let (added, is, covers) = has in (
      added,
      is,
      -- a state takes of a received message that to which its row leads, or itself where there is no row (`takes-received`)
      Covers-same (owing_names m.names) (OwingInRange m.in_range) (owing_seen m.seen) texts (FromSome P some)
          (FromSome (λ x. TakeOf m.figure p (owing_seen m.seen texts x) e) some)
          (FromSome-same P (λ x. TakeOf m.figure p (owing_seen m.seen texts x) e) (takes-received m.figure p m.seen texts e c.requires.action) some) added covers,
    ))
    c.leads_each.ensures.gives
