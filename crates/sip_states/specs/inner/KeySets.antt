-- How the code represents the machine of each key, and the sets of its states.
use Rattle.std.specs.Prelude.{[], ◌∷◌}
use Rattle.sip_standard.specs.Times.{Times}
use Rattle.sip_machine.specs.Owing.{CodeOwing, owing_seen, owing_names, OwingInRange}
use Rattle.sip_machine.specs.FigureRules.{rules_of as rules_of_figure, until_of}
use Rattle.sip_phases.specs.inner.Coded.{Coded, IsCoded, idle_state, ended_state}
use Rattle.sip_phases.specs.inner.InviteClient.{invite_client_coded}
use Rattle.sip_phases.proofs.phases.InviteClientLaws.{invite_client_is_coded}
use Rattle.sip_phases.specs.inner.PlainClient.{plain_client_coded}
use Rattle.sip_phases.proofs.phases.PlainClientLaws.{plain_client_is_coded}
use Rattle.sip_phases.specs.inner.InviteServer.{invite_server_coded}
use Rattle.sip_phases.proofs.phases.InviteServerLaws.{invite_server_is_coded}
use Rattle.sip_phases.specs.inner.InviteClient3261.{invite_client_3261_coded}
use Rattle.sip_phases.proofs.phases.InviteClient3261Laws.{invite_client_3261_is_coded}
use Rattle.sip_phases.specs.inner.InviteServer3261.{invite_server_3261_coded}
use Rattle.sip_phases.proofs.phases.InviteServer3261Laws.{invite_server_3261_is_coded}
use Rattle.sip_phases.specs.inner.PlainServer.{plain_server_coded}
use Rattle.sip_phases.proofs.phases.PlainServerLaws.{plain_server_is_coded}
use Rattle.sip_states.specs.Held.{Held}
use Rattle.sip_states.specs.KeyRules.{OwingOf}
use Rattle.sip_states.specs.Meaning.{Meaning}
use Rattle.sip_states.specs.declared.any_set.AnySet.{AnySet}
use Rattle.sip_states.specs.declared.any_set.AnySet.TheVariants as sets
use Rattle.sip_standard.specs.KeyMachine.{MachineKind, OfInvite, OfPlain, transaction_of}
use Rattle.sip_standard.specs.declared.role.Role.TheVariants.{Client, Server}
use Rattle.sip_standard.specs.declared.rules.Rules.TheVariants.{R3261, R6026}
use Rattle.sip_standard.specs.PhaseWords.{words_of}

-- a machine as the code has it: its phases, that they are those of its figure, and the set of its states
pub record MachineCode (machine : MachineKind) : Type 1 where
  pub phases : Coded (transaction_of machine).Phase
  pub are_coded : IsCoded (transaction_of machine).figure (words_of machine) phases
  pub set : Held Times (CodeOwing phases.Code) → AnySet

-- each machine as the code has it
abbrev pub code_of : (machine : MachineKind) → MachineCode machine
code_of (OfInvite R6026 Client) = record { phases = invite_client_coded; are_coded = invite_client_is_coded; set = λ s. sets.InviteClient s }
code_of (OfInvite R6026 Server) = record { phases = invite_server_coded; are_coded = invite_server_is_coded; set = λ s. sets.InviteServer s }
code_of (OfInvite R3261 Client) = record { phases = invite_client_3261_coded; are_coded = invite_client_3261_is_coded; set = λ s. sets.InviteClient3261 s }
code_of (OfInvite R3261 Server) = record { phases = invite_server_3261_coded; are_coded = invite_server_3261_is_coded; set = λ s. sets.InviteServer3261 s }
code_of (OfPlain Client) = record { phases = plain_client_coded; are_coded = plain_client_is_coded; set = λ s. sets.PlainClient s }
code_of (OfPlain Server) = record { phases = plain_server_coded; are_coded = plain_server_is_coded; set = λ s. sets.PlainServer s }

-- how the code represents the machine
abbrev pub coded_of : (machine : MachineKind) → Coded (transaction_of machine).Phase
coded_of machine = (code_of machine).phases

-- a state of the machine as the code represents it
abbrev pub CodeOwingOf : MachineKind → Type 0
CodeOwingOf machine = CodeOwing (coded_of machine).Code

-- the set of this machine that holds these states
abbrev pub set_of : (machine : MachineKind) → Held Times (CodeOwingOf machine) → AnySet
set_of machine s = (code_of machine).set s

-- what the states of a machine mean
abbrev pub meaning_of : (machine : MachineKind) → Meaning (OwingOf machine) Times (CodeOwingOf machine)
meaning_of machine =
    let figure = (transaction_of machine).figure in
    let c = coded_of machine in
    record {
      names = owing_names c.names;
      seen = owing_seen c.seen;
      in_range = OwingInRange c.InRange;
      -- the rules by which it steps, how long it lasts, and its ended state
      rules = rules_of_figure figure;
      until = λ p x. until_of figure p (owing_seen c.seen [] x);
      ended = λ p. ended_state c;
    }

-- What follows is of what is given of the set of each machine.
module _ {ℓ} (P : AnySet → Type ℓ) (of : (machine : MachineKind) (s : Held Times (CodeOwingOf machine)) → P (set_of machine s)) where
  -- what is given of the set of each machine, given of any set
  abbrev pub each_set : (set : AnySet) → P set
  each_set (sets.InviteClient s) = of (OfInvite R6026 Client) s
  each_set (sets.InviteServer s) = of (OfInvite R6026 Server) s
  each_set (sets.InviteClient3261 s) = of (OfInvite R3261 Client) s
  each_set (sets.InviteServer3261 s) = of (OfInvite R3261 Server) s
  each_set (sets.PlainClient s) = of (OfPlain Client) s
  each_set (sets.PlainServer s) = of (OfPlain Server) s

-- what is given of the machine of the set and of what the set holds
abbrev pub by_machine {ℓ} : {A : Type ℓ} → ((machine : MachineKind) → Held Times (CodeOwingOf machine) → A) → AnySet → A
by_machine {A} of set = each_set (λ any. A) of set

-- what the set that a machine starts with holds: its first state, at moment 0
abbrev pub held_at_start : Times → (machine : MachineKind) → Held Times (CodeOwingOf machine)
held_at_start p machine = record { machine = p; moment = 0; states = idle_state (coded_of machine) ∷ [] }

-- the set that a machine starts with, as one of the sets of all machines
abbrev pub start_of_machine : Times → MachineKind → AnySet
start_of_machine p machine = set_of machine (held_at_start p machine)
