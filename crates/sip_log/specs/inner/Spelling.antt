-- The line of an entry, byte by byte.
use Rattle.std.specs.Prelude.{◌++◌, ℕ, List, [], ◌∷◌, decimal}
use Rattle.sip_standard.specs.declared.action.Action.{Action}
use Rattle.sip_standard.specs.declared.action.Action.TheVariants.{Sent, Received, Failed, Mark, Restart}

-- SP in ASCII
abbrev pub space : ℕ
space = 32

-- the letter of an action in ASCII: S, R, F, M or Z
abbrev pub letter : Action → ℕ
letter Sent = 83
letter Received = 82
letter Failed = 70
letter Mark = 77
letter Restart = 90

-- what an entry's line has after its moment: SP and the length of the message, or nothing where it has no message
abbrev pub length_text : Action → ℕ → List ℕ
length_text Mark len = []
length_text Restart len = []
length_text action len = space ∷ decimal len

-- the line of an entry, without its LF: its letter, SP, its moment, and the length of its message
abbrev pub line_text : Action → ℕ → ℕ → List ℕ
line_text action moment len = letter action ∷ space ∷ decimal moment ++ length_text action len
