use Rattle.std.proofs.Common.{◌≡◌, ◌≢◌, ◌≤◌, List, AllPairs, length, drop}
use Rattle.sip_standard.specs.Key.{KeyParts}
use Rattle.sip_standard.specs.Times.{Times}
use Rattle.sip_standard.specs.Observation.{Observation}
use Rattle.sip_verdict.specs.Entries.{newest_moment}
use Rattle.sip_verdict.specs.inner.TablesTracking.{MayPass, is_among}
use Rattle.sip_verdict.specs.inner.Surveying.{AreWatched, ArePassing, AreConcerned}
use Rattle.sip_verdict.proofs.releasing.hear_numbers.Given as goal

-- the transactions so far have heard the event or were released; those that are left in the list can still hear it
abbrev pub invariant-loop-number : goal.invariant-loop-number
invariant-loop-number g l =
    record {
      -- times and keys are as before the loop, and there is a flag for each key
      times_are : l.tables.times ≡ l.initial.tables.times;
      keys_are : l.tables.keys ≡ l.initial.tables.keys;
      long : length l.troubled.deaf.items ≡ length l.tables.keys;
      may : MayPass l.book l.tables l.event.moment;
      -- what is watched and what is passing, but for those that are still to hear
      watched : AreWatched l.numbers l.initial.tables l.initial.troubled → AreWatched (drop l.number-index l.numbers) l.tables l.troubled;
      heard : (p : Times) (es : List (Observation KeyParts)) (e : Observation KeyParts) → l.initial.tables.times ≡ p → newest_moment es ≤ l.event.moment
          → AllPairs (λ i k. i ≢ k) l.numbers → AreConcerned l.book p es e l.event l.numbers l.initial.tables.keys
          → ArePassing l.book p es e (is_among l.numbers) l.initial.tables l.initial.troubled → ArePassing l.book p es e (is_among (drop l.number-index l.numbers)) l.tables l.troubled;
    }
