-- What a sweep over the sets of tables does: it lets them wait, and tells which messages they name.
use Rattle.std.specs.Prelude.{◌≡◌, ◌<◌, ◌⊎◌, ◌↔◌, ◌++◌, [], ℕ, List, Some, AllPairs, Any, Contains, flat_map, length, slice_get}
use Rattle.sip_standard.specs.Times.{Times}
use Rattle.sip_machine.specs.Owing.{owing_names}
use Rattle.sip_machine.specs.Naming.{AppendsAll}
use Rattle.sip_states.specs.Held.{Held}
use Rattle.sip_states.specs.Naming.{MayName}
use Rattle.sip_standard.specs.KeyMachine.{MachineKind}
use Rattle.sip_states.specs.inner.KeySets.{coded_of, CodeOwingOf, by_machine}
use Rattle.sip_states.specs.declared.any_set.AnySet.{AnySet}
use Rattle.sip_states.specs.AnySet.{SetWaits}
use Rattle.sip_states.specs.Tables.{Tabled}

-- the numbers of the messages that the states of a set of this machine name
abbrev pub names_of : (machine : MachineKind) → Held Times (CodeOwingOf machine) → List ℕ
names_of machine s = flat_map (owing_names (coded_of machine).names) s.states

-- the numbers of the messages that the states of any set name
abbrev pub numbers_of : AnySet → List ℕ
numbers_of set = by_machine names_of set

-- the numbers of the messages that the set names were appended, each at least once
abbrev pub AppendsNumbers : AnySet → List ℕ → List ℕ → Type 0
AppendsNumbers set old new = by_machine (λ machine s. AppendsAll (names_of machine s) old new) set

-- some state of the set may name the message with this number
abbrev pub SetMayName : ℕ → AnySet → Type 0
SetMayName number set = by_machine (λ machine s. Any (MayName (coded_of machine).names number) s.states) set

-- the set has waited until the moment; or it names no message, and is as before
abbrev pub IsAdvanced : ℕ → AnySet → AnySet → Type 0
IsAdvanced moment old new = SetWaits moment old new ⊎ ((new ≡ old) × (numbers_of old ≡ []))

-- nothing but the sets changes, and P holds of each set and what became of it
pub record ChangesSets (P : AnySet → AnySet → Type 0) (old new : Tabled) : Type 0 where
  pub times : new.times ≡ old.times
  pub keys : new.keys ≡ old.keys
  pub records : new.records ≡ old.records
  pub long : length new.sets ≡ length old.sets
  pub each : (n : ℕ) (before after : AnySet) → slice_get old.sets n ≡ Some before → slice_get new.sets n ≡ Some after → P before after

-- each set has waited until the moment, except for those that name no message, which may be as before
abbrev pub AdvancesAll : ℕ → Tabled → Tabled → Type 0
AdvancesAll moment old new = ChangesSets (IsAdvanced moment) old new

-- each set has waited until the moment, or is as before
abbrev pub AdvancesSome : ℕ → Tabled → Tabled → Type 0
AdvancesSome moment old new = ChangesSets (λ before after. IsAdvanced moment before after ⊎ (after ≡ before)) old new

-- the numbers of the messages that the sets name were appended, ascending and each once
abbrev pub AppendsNamed : Tabled → List ℕ → List ℕ → Type 0
AppendsNamed t old new =
    (added : List ℕ) × (new ≡ old ++ added) × AllPairs (λ a b. a < b) added × ((n : ℕ) → Contains added n ↔ Contains (flat_map numbers_of t.sets) n)
