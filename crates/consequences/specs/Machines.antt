-- The machines of RFC 3261 section 17, by the rules that an element was built by.
use Rattle.std.specs.Prelude.{Bool}
use Rattle.sip_standard.specs.declared.role.Role.{Role}
use Rattle.sip_standard.specs.declared.rules.Rules.{Rules}
use Rattle.sip_standard.specs.Figure.{Figure, Owing}
use Rattle.sip_standard.specs.KeyMachine.{machine_of, transaction_of}

-- the figure of a role by these rules, for INVITE or for any other method
abbrev pub figure_of : (rules : Rules) (role : Role) (invite : Bool) → Figure (transaction_of (machine_of rules role invite)).Phase
figure_of rules role invite = (transaction_of (machine_of rules role invite)).figure

-- a state of a role by these rules, for INVITE or for any other method: a phase, and what is owed
abbrev pub StateOf : Rules → Role → Bool → Type 0
StateOf rules role invite = Owing (transaction_of (machine_of rules role invite)).Phase
