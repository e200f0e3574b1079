-- The text of a verdict: one line, without its end.
use Rattle.std.specs.Prelude.{ℕ, List, ◌++◌, codes, decimal}
use Rattle.sip_standard.specs.declared.fault.Unit.TheVariants.{Head, Line, Body}
use Rattle.sip_standard.specs.Reason.{reason_number, reason_name, log_reason_number, log_reason_name}
use Rattle.sip_standard.specs.declared.verdict.Verdict.{Verdict}
use Rattle.sip_standard.specs.declared.verdict.Verdict.TheVariants.{Legal, Malformed, Breach, Undecided, LogFault}
use Rattle.sip_standard.specs.declared.fault as fault

-- the text of where a message has its fault
abbrev pub rendered_unit : fault.Unit.Unit → List ℕ
rendered_unit Head = codes "head"
rendered_unit (Line number) = codes "line " ++ decimal number
rendered_unit Body = codes "body"

-- the text of a verdict: a word or two for its kind, and its numbers
abbrev pub rendered : Verdict → List ℕ
rendered (Legal entries transactions) = codes "legal entries " ++ decimal entries ++ codes " transactions " ++ decimal transactions
rendered (Malformed entry f) =
    codes "malformed " ++ decimal entry ++ codes " " ++ rendered_unit f.unit ++ codes " " ++ decimal (reason_number f.reason)
    ++ codes " " ++ reason_name f.reason
rendered (Breach entry transaction) = codes "breach " ++ decimal entry ++ codes " transaction " ++ decimal transaction
rendered (Undecided entry transaction) = codes "undecided " ++ decimal entry ++ codes " transaction " ++ decimal transaction
rendered (LogFault entry reason) =
    codes "log fault " ++ decimal entry ++ codes " " ++ decimal (log_reason_number reason) ++ codes " " ++ log_reason_name reason
