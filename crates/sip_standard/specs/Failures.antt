-- Why there is no answer, by why there is no verdict and nothing is shown, and how that is told.
use Rattle.std.specs.Prelude.{ℕ, List, codes}
use Rattle.sip_standard.specs.declared.judge_error.JudgeError.{JudgeError}
use Rattle.sip_standard.specs.declared.judge_error.JudgeError.TheVariants as judging
use Rattle.sip_standard.specs.declared.show_error.ShowError.{ShowError}
use Rattle.sip_standard.specs.declared.show_error.ShowError.TheVariants as showing
use Rattle.sip_standard.specs.declared.failure.Failure.{Failure}
use Rattle.sip_standard.specs.declared.failure.Failure.TheVariants.{Read, Write, Memory, Usage}

-- how it is told that a log could not be judged
abbrev pub failure_of : JudgeError → Failure
failure_of judging.Io = Read
failure_of judging.Memory = Memory

-- how it is told that a log could not be shown
abbrev pub failure_to_show : ShowError → Failure
failure_to_show showing.Read = Read
failure_to_show showing.Write = Write
failure_to_show showing.Memory = Memory

-- the line that is written of a failure on the standard error
abbrev pub line_of : Failure → List ℕ
line_of Read = codes "siptrace: cannot read\n"
line_of Write = codes "siptrace: cannot write\n"
line_of Memory = codes "siptrace: out of memory\n"
line_of Usage = codes "siptrace: usage: siptrace [check FILE | show FILE | states FILE ENTRY]\n"
