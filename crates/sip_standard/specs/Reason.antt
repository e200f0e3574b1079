-- The numbers and names of the faults.
use Rattle.std.specs.Prelude.{ℕ, List, codes}
use Rattle.sip_standard.specs.declared.fault.Reason.{Reason}
use Rattle.sip_standard.specs.declared.fault.Reason.TheVariants as reason
use Rattle.sip_standard.specs.declared.log_reason.LogReason.{LogReason}
use Rattle.sip_standard.specs.declared.log_reason.LogReason.TheVariants.{Header, EntryLine, Truncated, Order, Limit}

-- the number by which a verdict names the reason
abbrev pub reason_number : Reason → ℕ
reason_number reason.NoHeadEnd = 1
reason_number reason.BareLineEnd = 2
reason_number reason.StartLine = 3
reason_number reason.FieldLine = 4
reason_number reason.Value = 5
reason_number reason.Repeated = 6
reason_number reason.Missing = 7
reason_number reason.MethodMismatch = 8
reason_number reason.NoLength = 9
reason_number reason.ShortBody = 10
reason_number reason.LongBody = 11
reason_number reason.NoCookie = 12

-- the name that stands after the number
abbrev pub reason_name : Reason → List ℕ
reason_name reason.NoHeadEnd = codes "NoHeadEnd"
reason_name reason.BareLineEnd = codes "BareLineEnd"
reason_name reason.StartLine = codes "StartLine"
reason_name reason.FieldLine = codes "FieldLine"
reason_name reason.Value = codes "Value"
reason_name reason.Repeated = codes "Repeated"
reason_name reason.Missing = codes "Missing"
reason_name reason.MethodMismatch = codes "MethodMismatch"
reason_name reason.NoLength = codes "NoLength"
reason_name reason.ShortBody = codes "ShortBody"
reason_name reason.LongBody = codes "LongBody"
reason_name reason.NoCookie = codes "NoCookie"

-- the number of a log's fault, from 20 on, apart from those of messages
abbrev pub log_reason_number : LogReason → ℕ
log_reason_number Header = 20
log_reason_number EntryLine = 21
log_reason_number Truncated = 22
log_reason_number Order = 23
log_reason_number Limit = 24

-- the name of a log's fault
abbrev pub log_reason_name : LogReason → List ℕ
log_reason_name Header = codes "Header"
log_reason_name EntryLine = codes "EntryLine"
log_reason_name Truncated = codes "Truncated"
log_reason_name Order = codes "Order"
log_reason_name Limit = codes "Limit"
