-- What a call answers: whether it gave what it is for.
use Rattle.std.specs.Prelude.{ℕ}

-- the call gave its answer
abbrev pub answered : ℕ
answered = 0

-- the call wants memory
abbrev pub no_memory : ℕ
no_memory = 1

-- the call gave its answer, but not all findings have room
abbrev pub no_room : ℕ
no_room = 2
