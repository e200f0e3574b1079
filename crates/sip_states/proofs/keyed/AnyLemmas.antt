-- What `AnySet` says of its start, of waiting and of taking an event, put together from the clauses of `StateSet`.
use Rattle.std.proofs.Common.{◌≡◌, ◌≤◌, ◌+◌, ℕ, Result, Ok, Err, OnOk, length, refl, sym, ap, ◌∙◌}
use Rattle.sip_standard.specs.KeyMachine.{MachineKind, machine_of_key}
use Rattle.sip_standard.specs.Key.{KeyParts}
use Rattle.sip_standard.specs.Times.{Times}
use Rattle.sip_machine.specs.NumberedEvent.{NumberedEvent}
use Rattle.sip_machine.specs.Texts.{Texts, IsBook}
use Rattle.sip_machine.specs.Rules.{StandFor}
use Rattle.sip_standard.specs.VerdictOf.{widest}
use Rattle.sip_states.specs.Held.{Held}
use Rattle.sip_states.specs.inner.KeySets.{CodeOwingOf, set_of, each_set, by_machine, held_at_start, start_of_machine, meaning_of}
use Rattle.sip_states.proofs.keyed.KeySetLaws.{by_machine_is, of_machine}
use Rattle.sip_states.specs.Meaning.{IsKnown, Waited, Given, HasWaited, HasTaken}
use Rattle.sip_states.specs.AnySet.{start_of, IsSetOf}
use Rattle.sip_states.specs.declared.any_set.AnySet.{AnySet}

-- the machine of the set
abbrev kind_of : AnySet → MachineKind
kind_of set = by_machine (λ machine s. machine) set

-- the set is of the machine of the key, and holds what this machine starts with: so it is the set that the key starts with
pub has_started : (p : Times) (key : KeyParts) (set : AnySet) → machine_of_key p.rules key ≡ kind_of set → by_machine (λ machine s. s ≡ held_at_start p machine) set → set ≡ start_of p key
has_started p key set of_key at_start =
    each_set (λ any. machine_of_key p.rules key ≡ kind_of any → by_machine (λ machine s. s ≡ held_at_start p machine) any → any ≡ start_of p key)
    (λ machine s is holds.
    ap (set_of machine) (of_machine (λ kind held. held ≡ held_at_start p kind) machine s holds)
    ∙ ap (start_of_machine p) (sym (is ∙ by_machine_is (λ kind held. kind) machine s)))
    set of_key at_start

-- What follows is of a set of one machine: `old` is what it holds before a call, and `new` after it.
module _ {T E : Type 0} (machine : MachineKind) (old new : Held Times (CodeOwingOf machine)) where
  -- the clauses of `StateSet::advance`, taken together, say that the set has waited
  pub has_waited : (moment : ℕ) (r : Result T E)
      → OnOk r ((new.machine ≡ old.machine) × (new.moment ≡ moment))
      → OnOk r ((texts : Texts) → IsBook texts → IsKnown (meaning_of machine) texts old →
      StandFor (meaning_of machine).names (meaning_of machine).in_range (meaning_of machine).seen texts (Waited (meaning_of machine) texts old moment) new.states)
      → OnOk r (length new.states ≤ length old.states + 1)
      → OnOk r (IsSetOf machine (λ t. HasWaited (meaning_of machine) moment old t) (set_of machine new))
  has_waited moment (Ok x) at states one_more =
      record { held = new; is = refl; holds = record { machine = at.0; at = at.1; states = states; one_more = one_more } }
  has_waited moment (Err e) at states one_more = tt

  -- the clauses of `StateSet::take`, taken together, say that the set has taken the event
  pub has_taken : (texts : Texts) (e : NumberedEvent) (r : Result T E)
      → OnOk r ((new.machine ≡ old.machine) × (new.moment ≡ e.moment))
      → OnOk r (StandFor (meaning_of machine).names (meaning_of machine).in_range (meaning_of machine).seen texts (Given (meaning_of machine) texts old e) new.states)
      → OnOk r (length new.states ≤ widest)
      → OnOk r (IsSetOf machine (λ t. HasTaken (meaning_of machine) texts e old t) (set_of machine new))
  has_taken texts e (Ok x) at states few =
      record { held = new; is = refl; holds = record { machine = at.0; at = at.1; states = states; few = few } }
  has_taken texts e (Err _) at states few = tt
