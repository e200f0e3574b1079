-- The states of the code, whose messages are numbers of a book, for any figure: they rest on what its phases stand for, what they name, and
-- which of them are in range.
use Rattle.std.specs.Prelude.{ℕ, List, [], ◌++◌}
use Rattle.sip_ledger.specs.declared.debt.Debt.{Debt}
use Rattle.sip_phases.specs.Texts.{Texts}
use Rattle.sip_phases.specs.Owes.{owes_seen, owes_names, OwesInRange}
use Rattle.sip_standard.specs.Figure.{Owing}

-- a state of the code: a phase, and what is owed, oldest cause first
pub record CodeOwing (S : Type 0) : Type 0 where
  pub phase : S
  pub owes : List Debt

-- the state of a phase where nothing is owed
abbrev pub at_rest : {S : Type 0} → S → CodeOwing S
at_rest phase = record { phase = phase; owes = [] }

-- the state that a state of the code stands for beside a book
abbrev pub owing_seen : {S X : Type 0} → (Texts → S → X) → Texts → CodeOwing S → Owing X
owing_seen seen texts x = record { phase = seen texts x.phase; owes = owes_seen texts x.owes }

-- the messages that a state names: those of its phase, and those that are owed
abbrev pub owing_names : {S : Type 0} → (S → List ℕ) → CodeOwing S → List ℕ
owing_names names x = names x.phase ++ owes_names x.owes

-- the moments of a state are within the limits: those of its phase, and the deadlines
abbrev pub OwingInRange : {S : Type 0} → (S → Type 0) → CodeOwing S → Type 0
OwingInRange InRange x = InRange x.phase × OwesInRange x.owes
