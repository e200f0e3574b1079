-- A set of states of one of the machines.
use Rattle.std.specs.Prelude.{◌≡◌, ◌⊎◌, ℕ, Option, [], ◌∷◌}
use Rattle.sip_standard.specs.Key.{KeyParts}
use Rattle.sip_standard.specs.Times.{Times}
use Rattle.sip_machine.specs.Texts.{Texts}
use Rattle.sip_machine.specs.NumberedEvent.{NumberedEvent}
use Rattle.sip_phases.specs.inner.Coded.{idle_state, ended_state}
use Rattle.sip_standard.specs.VerdictOf.{IsWide}
use Rattle.sip_states.specs.Held.{Held}
use Rattle.sip_standard.specs.KeyMachine.{MachineKind, machine_of_key}
use Rattle.sip_states.specs.inner.KeySets.{coded_of, CodeOwingOf, set_of, meaning_of, by_machine, start_of_machine}
use Rattle.sip_states.specs.KeyRules.{OwingOf}
use Rattle.sip_states.specs.Meaning.{Meaning, IsProperBy, IsKnown, Given, HasWaited, HasTaken, HasAgenda}
use Rattle.sip_states.specs.declared.any_set.AnySet.{AnySet}

-- What follows is of a property P of a set, whichever machine it has.
module _ (P : (X M S : Type 0) → Meaning X M S → Held M S → Type 0) where
  -- P holds of a set of this machine
  abbrev pub OfHeld : (machine : MachineKind) → Held Times (CodeOwingOf machine) → Type 0
  OfHeld machine s = P (OwingOf machine) Times (CodeOwingOf machine) (meaning_of machine) s

  -- P holds of the set, as one of its machine
  abbrev pub OfSet : AnySet → Type 0
  OfSet set = by_machine OfHeld set

-- the set is of this machine, and P holds of what it holds
pub record IsSetOf (machine : MachineKind) (P : Held Times (CodeOwingOf machine) → Type 0) (set : AnySet) : Type 0 where
  pub held : Held Times (CodeOwingOf machine)
  pub is : set ≡ set_of machine held
  pub holds : P held

-- What follows is of a property P of two sets of one machine, whichever it is.
module _ (P : (X M S : Type 0) → Meaning X M S → Held M S → Held M S → Type 0) where
  -- P holds of two sets of this machine
  abbrev pub OfHelds : (machine : MachineKind) → Held Times (CodeOwingOf machine) → Held Times (CodeOwingOf machine) → Type 0
  OfHelds machine s t = P (OwingOf machine) Times (CodeOwingOf machine) (meaning_of machine) s t

  -- the new set is of the machine of the old one, and P holds of the two
  abbrev pub OfSets : AnySet → AnySet → Type 0
  OfSets set new = by_machine (λ machine s. IsSetOf machine (λ t. OfHelds machine s t) new) set

-- the moment of the set
abbrev pub moment_of : AnySet → ℕ
moment_of set = by_machine (λ machine s. s.moment) set

-- each state of the set is in it once, is in range and can wait at the set's moment, and there are no more than are followed
abbrev pub IsProperSet : AnySet → Type 0
IsProperSet set = OfSet (λ X M S m s. IsProperBy m s) set

-- the set has no state
abbrev pub IsEmpty : AnySet → Type 0
IsEmpty set = OfSet (λ X M S m s. s.states ≡ []) set

-- the book has every message that the states of the set name
abbrev pub IsKnownSet : Texts → AnySet → Type 0
IsKnownSet texts set = OfSet (λ X M S m s. IsKnown m texts s) set

-- the new set is the old one once it has waited until the moment
abbrev pub SetWaits : ℕ → AnySet → AnySet → Type 0
SetWaits moment old new = OfSets (λ X M S m s t. HasWaited m moment s t) old new

-- the new set is the old one once it has taken the event
abbrev pub SetTakes : Texts → NumberedEvent → AnySet → AnySet → Type 0
SetTakes texts e old new = OfSets (λ X M S m s t. HasTaken m texts e s t) old new

-- the event leads to more states than are followed
abbrev pub IsSetTooWide : Texts → NumberedEvent → AnySet → Type 0
IsSetTooWide texts e set = OfSet (λ X M S m s. IsWide (Given m texts s e)) set

-- a wait in the set can last until exactly the moments within the limit
abbrev pub IsAgendaOf : Option ℕ → AnySet → Type 0
IsAgendaOf limit set = OfSet (λ X M S m s. HasAgenda m limit s) set

-- the set has one state, which is the first one or the ended one
abbrev pub IsQuietIn : (machine : MachineKind) → Held Times (CodeOwingOf machine) → Type 0
IsQuietIn machine s = (s.states ≡ idle_state (coded_of machine) ∷ []) ⊎ (s.states ≡ ended_state (coded_of machine) ∷ [])

-- the set is quiet, so that a restart of the element leaves it as it is
abbrev pub IsQuietSet : AnySet → Type 0
IsQuietSet set = by_machine IsQuietIn set

-- the set that a key starts with
abbrev pub start_of : Times → KeyParts → AnySet
start_of p key = start_of_machine p (machine_of_key p.rules key)
