use Rattle.std.proofs.Common.{◌≡◌, take}
use Rattle.sip_verdict.specs.inner.TablesTracking.{MayPass, HearsEach}
use Rattle.sip_verdict.proofs.passing.hear_all.Given as goal

-- the transactions so far have heard the event, the outcome is the first trouble of these, and all may still pass the moment
abbrev pub invariant-loop-number : goal.invariant-loop-number
invariant-loop-number g l =
    record {
      -- times and keys are as before the loop, and no set is later than the event
      times_are : l.tables.times ≡ l.initial.tables.times;
      keys_are : l.tables.keys ≡ l.initial.tables.keys;
      may : MayPass l.book l.tables l.event.moment;
      heard : HearsEach l.book l.event (take l.number-index l.numbers) l.initial.tables l.fn.others l.tables l.outcome;
    }
