-- The failures of a program: the status of each, and when each can come.
use Rattle.std.specs.Prelude.{◌≡◌, ℕ, Bool, true, ⊤}
use Rattle.sip_standard.specs.declared.failure.Failure.{Failure}
use Rattle.sip_standard.specs.declared.failure.Failure.TheVariants.{Read, Write, Memory, Usage}

-- the status of a program without an answer: 5 where its words ask for nothing, and else 4
abbrev pub status_without : Failure → ℕ
status_without Read = 4
status_without Write = 4
status_without Memory = 4
status_without Usage = 5

-- why there is no answer: the reader has failed, the writer has, no memory is had, or the words ask for nothing, as `ask_nothing` says
abbrev pub IsCause : (ask_nothing : Type 0) (has_read_failed has_write_failed : Bool) → Failure → Type 0
IsCause ask_nothing has_read_failed has_write_failed Read = has_read_failed ≡ true
IsCause ask_nothing has_read_failed has_write_failed Write = has_write_failed ≡ true
IsCause ask_nothing has_read_failed has_write_failed Memory = ⊤
IsCause ask_nothing has_read_failed has_write_failed Usage = ask_nothing

-- the failure can come of answering a log, so that the words ask for something: `Usage` never can
abbrev pub Blames : (has_read_failed has_write_failed : Bool) → Failure → Type 0
Blames = IsCause ⊥
