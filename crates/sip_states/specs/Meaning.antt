-- What a set of states of a machine means, and what its calls do.
use Rattle.std.specs.Prelude.{◌≡◌, ◌≤◌, ◌+◌, ℕ, Option, List, All, Contains, length, map}
use Rattle.sip_machine.specs.Texts.{Texts, IsBook}
use Rattle.sip_machine.specs.NumberedEvent.{NumberedEvent, event_in}
use Rattle.sip_machine.specs.Rules.{MachineRules, Knows, StandFor}
use Rattle.sip_states.specs.Waits.{Wait, RunGives, IsAgenda}
use Rattle.sip_standard.specs.VerdictOf.{widest}
use Rattle.sip_states.specs.Held.{Held, IsProper}

-- what a machine M with states S of the code means: the messages that a state names, what it stands for, whether its moments are in range, the
-- rules, the last moment of a state, and the ended state
pub record Meaning (X M S : Type 0) : Type 1 where
  pub names : S → List ℕ
  pub seen : Texts → S → X
  pub in_range : S → Type 0
  pub rules : M → MachineRules X
  pub until : M → S → Option ℕ
  pub ended : M → S

-- What follows is of sets of one machine, of which m says what they mean.
module _ {X M S : Type 0} (m : Meaning X M S) where
  -- the set keeps what every set keeps
  abbrev pub IsProperBy : Held M S → Type 0
  IsProperBy s = IsProper m.in_range m.until m.ended s

  -- the book has every message that the states of the set name
  abbrev pub IsKnown : Texts → Held M S → Type 0
  IsKnown texts s = All (Knows m.names texts) s.states

  -- the states in which one can stand at the moment, after standing in one of the set and waiting
  abbrev pub Waited : Texts → Held M S → ℕ → X → Type 0
  Waited texts s moment = Wait (m.rules s.machine) (Contains (map (m.seen texts) s.states)) s.moment moment

  -- the states in which one can stand after the event
  abbrev pub Given : Texts → Held M S → NumberedEvent → X → Type 0
  Given texts s e = RunGives (m.rules s.machine) (Waited texts s e.moment) (event_in texts e)

  -- the new set is the old one once it has waited until the moment
  pub record HasWaited (moment : ℕ) (old new : Held M S) : Type 0 where
    pub machine : new.machine ≡ old.machine
    pub at : new.moment ≡ moment
    pub states : (texts : Texts) → IsBook texts → IsKnown texts old →
        StandFor m.names m.in_range m.seen texts (Waited texts old moment) new.states
    pub one_more : length new.states ≤ length old.states + 1

  -- the new set is the old one once it has taken the event
  pub record HasTaken (texts : Texts) (e : NumberedEvent) (old new : Held M S) : Type 0 where
    pub machine : new.machine ≡ old.machine
    pub at : new.moment ≡ e.moment
    pub states : StandFor m.names m.in_range m.seen texts (Given texts old e) new.states
    pub few : length new.states ≤ widest

  -- a wait in the set can last until exactly the moments within the limit
  abbrev pub HasAgenda : Option ℕ → Held M S → Type 0
  HasAgenda limit s = (texts : Texts) → IsAgenda (m.rules s.machine) (Contains (map (m.seen texts) s.states)) s.moment limit
