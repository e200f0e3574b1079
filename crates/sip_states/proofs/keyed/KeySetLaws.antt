-- Laws of the sets of each machine: the code has each machine as the standard has it, and what is given by the machine of a set is given of that machine.
use Rattle.std.specs.Prelude.{◌≡◌}
use Rattle.std.proofs.Common.{refl, subst, sym}
use Rattle.sip_standard.specs.Times.{Times}
use Rattle.sip_standard.specs.KeyMachine.{MachineKind, OfInvite, OfPlain, transaction_of}
use Rattle.sip_standard.specs.declared.role.Role.TheVariants.{Client}
use Rattle.sip_standard.specs.declared.rules.Rules.TheVariants.{R3261, R6026}
use Rattle.sip_standard.specs.PhaseWords.{words_of}
use Rattle.sip_phases.specs.inner.Coded.{IsCoded}
use Rattle.sip_states.specs.Held.{Held}
use Rattle.sip_states.specs.inner.KeySets.{code_of, coded_of, CodeOwingOf, set_of, by_machine}

-- the code has the figure of each machine
pub coded_holds : (machine : MachineKind) → IsCoded (transaction_of machine).figure (words_of machine) (coded_of machine)
coded_holds machine = (code_of machine).are_coded

-- `of`, asked by the machine of a set, is `of` of this machine where the set is made for it
pub by_machine_is {ℓ} : {A : Type ℓ} (of : (machine : MachineKind) → Held Times (CodeOwingOf machine) → A) (machine : MachineKind) (s : Held Times (CodeOwingOf machine)) → by_machine of (set_of machine s) ≡ of machine s
-- The last line is of every other machine: each of them computes as the three clients do.
by_machine_is of (OfInvite R6026 Client) s = refl
by_machine_is of (OfInvite R3261 Client) s = refl
by_machine_is of (OfPlain Client) s = refl
by_machine_is of machine s = refl

-- What follows is of a property P of a machine and of what its set holds.
module _ (P : (machine : MachineKind) → Held Times (CodeOwingOf machine) → Type 0) where
  -- where P holds of a set, asked by the machine that the set has, P holds of the machine for which the set was made
  pub of_machine : (machine : MachineKind) (s : Held Times (CodeOwingOf machine)) → by_machine P (set_of machine s) → P machine s
  of_machine machine s holds = subst (λ (T : Type 0). T) (by_machine_is P machine s) holds

  -- where P holds of a machine and what its set holds, P holds of the set, asked by the machine that the set has
  pub to_machine : (machine : MachineKind) (s : Held Times (CodeOwingOf machine)) → P machine s → by_machine P (set_of machine s)
  to_machine machine s holds = subst (λ (T : Type 0). T) (sym (by_machine_is P machine s)) holds
