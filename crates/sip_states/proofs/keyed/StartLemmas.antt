-- A key that starts anew: the set with which it comes can wait for ever and needs no mark.
use Rattle.std.proofs.Common.{ℕ, Bool, List, None, Contains, inl, inr, map, slice_set, refl, sym, subst}
use Rattle.sip_standard.specs.Key.{KeyParts}
use Rattle.sip_standard.specs.Times.{Times}
use Rattle.sip_machine.specs.Texts.{Texts}
use Rattle.sip_states.specs.Waits.{IsAgenda}
use Rattle.sip_standard.specs.KeyMachine.{MachineKind, machine_of_key}
use Rattle.sip_states.specs.inner.KeySets.{held_at_start, start_of_machine, meaning_of}
use Rattle.sip_states.specs.Meaning.{HasAgenda}
use Rattle.sip_states.specs.AnySet.{IsAgendaOf, start_of}
use Rattle.sip_states.specs.declared.any_set.AnySet.{AnySet}
use Rattle.sip_states.specs.inner.Marks.{ElseHolds}
use Rattle.sip_states.proofs.lists.Places.{set_place}
use Rattle.sip_states.proofs.keyed.ByMachine.{to_set}
use Rattle.sip_states.proofs.keyed.QuietLemmas.{quiet_still, waits_still}

-- What follows is of the set that a new key has, by its machine and the times p.
module _ (p : Times) (machine : MachineKind) where
  -- one can wait in the set of a new key for ever
  waits_on : (texts : Texts) → IsAgenda ((meaning_of machine).rules p) (Contains (map ((meaning_of machine).seen texts) (held_at_start p machine).states)) 0 None
  waits_on texts =
      let (x, one, still) = quiet_still p machine texts (held_at_start p machine) (inl refl) in
      subst (λ xs. IsAgenda ((meaning_of machine).rules p) (Contains (map ((meaning_of machine).seen texts) xs)) 0 None) (sym one)
      (λ n low. (λ run. tt, λ within. ((meaning_of machine).seen texts x, (waits_still p machine texts x still 0 n low ((meaning_of machine).seen texts x)).1 refl)))

  -- the set that a machine starts with can wait for ever
  start_waits : IsAgendaOf None (start_of_machine p machine)
  start_waits = to_set (λ X M S m s. HasAgenda m None s) machine (held_at_start p machine) waits_on

-- the set that a key starts with can wait for ever
pub start_endless : (p : Times) (key : KeyParts) → IsAgendaOf None (start_of p key)
start_endless p key = start_waits p (machine_of_key p.rules key)

-- P holds of the sets that are not marked once a set of which it holds is put at an index, marked or not
pub else_set : (P : AnySet → Type 0) (marks : List Bool) (sets : List AnySet) (index : ℕ) (set : AnySet) → P set → ElseHolds P marks sets → ElseHolds P marks (slice_set sets index set)
else_set P marks sets index set holds are n other at mark = elim (set_place sets index n set other at) [ inl here ↦ subst P here.1 holds | inr old ↦ are n other old.1 mark ]
