-- How an error of reading a log is told by a verdict.
use Rattle.std.specs.Prelude.{Result, Ok, Err}
use Rattle.sip_log.specs.declared.log_error.LogError.{LogError}
use Rattle.sip_log.specs.declared.log_error.LogError.TheVariants as log
use Rattle.sip_standard.specs.declared.log_reason.LogReason.{LogReason}
use Rattle.sip_standard.specs.declared.log_reason.LogReason.TheVariants as reasons
use Rattle.sip_standard.specs.declared.judge_error.JudgeError.{JudgeError}
use Rattle.sip_standard.specs.declared.judge_error.JudgeError.TheVariants.{Io, Memory}

-- an error of reading a log is told as the reason of the log's fault, or as why there is no answer
abbrev pub told_as : LogError → Result LogReason JudgeError
told_as log.Header = Ok reasons.Header
told_as log.EntryLine = Ok reasons.EntryLine
told_as log.Truncated = Ok reasons.Truncated
told_as log.Order = Ok reasons.Order
told_as log.Limit = Ok reasons.Limit
told_as log.Io = Err Io
told_as log.Memory = Err Memory
told_as log.Failed = Err Io
