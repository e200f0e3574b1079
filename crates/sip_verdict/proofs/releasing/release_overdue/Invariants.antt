use Rattle.std.proofs.Common.{◌≡◌, ◌≤◌, ℕ, List, length}
use Rattle.sip_standard.specs.Key.{KeyParts}
use Rattle.sip_standard.specs.Times.{Times}
use Rattle.sip_machine.specs.Texts.{Texts}
use Rattle.sip_standard.specs.Observation.{Observation}
use Rattle.sip_verdict.specs.Entries.{newest_moment}
use Rattle.sip_verdict.specs.inner.TablesTracking.{MayPass}
use Rattle.sip_verdict.specs.inner.Surveying.{AreWatched, ArePassing, any}
use Rattle.sip_verdict.proofs.surveys.passing.Lasts.{lasts}
use Rattle.sip_verdict.proofs.releasing.release_overdue.Given as goal

-- the transactions that were released so far are in trouble; all may still pass the moment, and are watched and passing as before
abbrev pub invariant-loop-number : goal.invariant-loop-number
invariant-loop-number g l =
    record {
      -- times and keys are as before the loop, and there is a flag for each key
      times_are : l.tables.times ≡ l.initial.tables.times;
      keys_are : l.tables.keys ≡ l.initial.tables.keys;
      long : length l.troubled.deaf.items ≡ length l.tables.keys;
      -- what held before the loop holds of the tables and the trouble so far
      may : (texts : Texts) → MayPass texts l.initial.tables l.moment → MayPass texts l.tables l.moment;
      watched : (waits : List ℕ) → AreWatched waits l.initial.tables l.initial.troubled → AreWatched waits l.tables l.troubled;
      released : (texts : Texts) (p : Times) (es : List (Observation KeyParts)) (e : Observation KeyParts) (waits : List ℕ)
          → l.initial.tables.times ≡ p → newest_moment es ≤ l.moment → e.event.moment ≡ l.moment → MayPass texts l.initial.tables l.moment → AreWatched waits l.initial.tables l.initial.troubled
          → ArePassing texts p es e any l.initial.tables l.initial.troubled → ArePassing texts p es e any l.tables l.troubled;
    }

-- each turn of the loop releases a transaction, whose last moment is then no longer on record
abbrev pub decreases-loop-number : goal.decreases-loop-number
decreases-loop-number g l = lasts l.tables.records
