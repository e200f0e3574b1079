-- The text of a state, one line without its end. A message is told by a number.
use Rattle.std.specs.Prelude.{◌++◌, ℕ, Bool, true, false, Option, Some, None, List, codes, decimal}
use Rattle.std.specs.List.{flat_map}
use Rattle.sip_standard.specs.Debts.{Owed}
use Rattle.sip_standard.specs.Figure.{Owing}
use Rattle.sip_standard.specs.KeyMachine.{MachineKind, transaction_of}
use Rattle.sip_standard.specs.Told.{ToldField, Flag, Number, Message, Told, told_by}
use Rattle.sip_standard.specs.PhaseWords.{words_of}

-- a value with its name, after a blank
abbrev pub field : List ℕ → List ℕ → List ℕ
field name value = codes " " ++ name ++ codes "=" ++ value

-- a number with its name: a moment, an interval, or the number of a message
abbrev pub number_field : List ℕ → ℕ → List ℕ
number_field name value = field name (decimal value)

-- a number with its name, or `none` where there is no number
abbrev pub optional_field : List ℕ → Option ℕ → List ℕ
optional_field name None = field name (codes "none")
optional_field name (Some value) = number_field name value

-- a flag with its name, as `yes` or `no`
abbrev pub flag_field : List ℕ → Bool → List ℕ
flag_field name true = field name (codes "yes")
flag_field name false = field name (codes "no")

-- the text of a field of a phase
abbrev pub told_text : ToldField ℕ → List ℕ
told_text (Flag name is) = flag_field name is
told_text (Number name value) = optional_field name value
told_text (Message name number) = optional_field name number

-- the text of a phase: its name and its fields
abbrev pub phase_text : Told ℕ → List ℕ
phase_text told = told.name ++ flat_map told_text told.fields

-- the word for whether a debt must be sent
abbrev pub duty : Bool → List ℕ
duty true = codes "must"
duty false = codes "may"

-- the text of a debt: the number of its message, its deadline, and whether it must be sent
abbrev pub owed_field : ℕ → ℕ → Bool → List ℕ
owed_field message deadline must = field (codes "owes") (decimal message ++ codes "/" ++ decimal deadline ++ codes "/" ++ duty must)

-- the texts of debts, one after another
abbrev pub owes_fields : (List ℕ → ℕ) → List Owed → List ℕ
owes_fields number owes = flat_map (λ owed. owed_field (number owed.message) owed.deadline owed.must) owes

-- the text of a state of a machine: that of its phase, and those of its debts, whose messages are told by these numbers
abbrev pub state_text : (machine : MachineKind) → (List ℕ → ℕ) → Owing (transaction_of machine).Phase → List ℕ
state_text machine number x = phase_text (told_by number (words_of machine x.phase)) ++ owes_fields number x.owes
