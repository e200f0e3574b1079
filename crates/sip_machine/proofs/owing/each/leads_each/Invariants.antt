use Rattle.std.specs.Prelude.{◌≤◌, ◌-◌, take}
use Rattle.sip_machine.specs.NumberedEvent.{event_in}
use Rattle.sip_machine.specs.Owing.{owing_seen, owing_names, OwingInRange}
use Rattle.sip_machine.specs.inner.Effects.{LeadsFrom}
use Rattle.sip_machine.proofs.pools.CoversLemmas.{HasFound}
use Rattle.sip_machine.proofs.owing.each.leads_each.Given as goal

-- the states to which rows of the event lead from the states before the index stand after the old ones
abbrev pub invariant-loop-at : goal.invariant-loop-at
invariant-loop-at g l =
    (l.at ≤ l.count) × HasFound (owing_names g.M.Phases.names) (OwingInRange g.M.Phases.in_range) (owing_seen g.M.Phases.seen) l.book
    (LeadsFrom g.M.Phases.figure (g.M.Phases.times l.machine) g.M.Phases.seen l.book (event_in l.book l.event)) (take l.at l.initial.pool) l.initial.pool l.pool

-- each turn of the loop asks some more of the `count` states
abbrev pub decreases-loop-at : goal.decreases-loop-at
decreases-loop-at g l = l.count - l.at
