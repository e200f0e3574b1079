-- The machine of each key as rules.
use Rattle.sip_standard.specs.Times.{Times}
use Rattle.sip_standard.specs.Figure.{Owing}
use Rattle.sip_standard.specs.KeyMachine.{MachineKind, transaction_of}
use Rattle.sip_machine.specs.Rules.{MachineRules}
use Rattle.sip_machine.specs.FigureRules.{rules_of as rules_of_figure}

-- a state of the machine: a phase, and what is owed
abbrev pub OwingOf : MachineKind → Type 0
OwingOf machine = Owing (transaction_of machine).Phase

-- the rules of the machine with these times
abbrev pub key_rules : Times → (machine : MachineKind) → MachineRules (OwingOf machine)
key_rules p machine = rules_of_figure (transaction_of machine).figure p
