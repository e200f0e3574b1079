use Rattle.std.specs.Prelude.{◌≤◌}
use Rattle.sip_ledger.specs.Lists.{from_to}
use Rattle.sip_machine.specs.NumberedEvent.{event_in}
use Rattle.sip_machine.specs.Owing.{owing_seen, owing_names, OwingInRange}
use Rattle.sip_machine.specs.inner.Effects.{RestsFrom}
use Rattle.sip_machine.proofs.pools.CoversLemmas.{HasFound}
use Rattle.sip_machine.proofs.owing.each.rests_rows.Given as goal

-- the states that the message leaves in their phase, of those from `from` up to the index, stand after the old ones
abbrev pub invariant-loop-at : goal.invariant-loop-at
invariant-loop-at g l =
    (l.from ≤ l.at) × (l.at ≤ l.to) × HasFound (owing_names g.M.Phases.names) (OwingInRange g.M.Phases.in_range) (owing_seen g.M.Phases.seen) l.book
    (RestsFrom g.M.Phases.figure (g.M.Phases.times l.machine) g.M.Phases.seen l.book (event_in l.book l.event)) (from_to l.from l.at l.initial.pool) l.initial.pool l.pool
