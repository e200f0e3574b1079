-- A verdict, a finding and the sums of a survey, in plain numbers.
use Rattle.std.specs.Prelude.{ℕ}
use Rattle.sip_standard.specs.declared.fault.Unit.{Unit}
use Rattle.sip_standard.specs.declared.fault.Unit.TheVariants.{Head, Line, Body}
use Rattle.sip_standard.specs.Reason.{reason_number, log_reason_number}
use Rattle.sip_verdict.specs.declared.finding.Finding.{Finding}
use Rattle.sip_verdict.specs.declared.survey_end.SurveyEnd.{SurveyEnd}
use Rattle.sip_verdict.specs.declared.survey_end.SurveyEnd.TheVariants as ended
use Rattle.sip_standard.specs.declared.verdict.Verdict.{Verdict}
use Rattle.sip_standard.specs.declared.verdict.Verdict.TheVariants.{Legal, Malformed, Breach, Undecided, LogFault}
use Rattle.sip_verdict.specs.SurveyOf.{verdict_of}
use Rattle.c_siptrace.specs.declared.plain_summary.PlainSummary.{PlainSummary}
use Rattle.c_siptrace.specs.declared.plain_verdict.PlainVerdict.{PlainVerdict}

-- where a fault is: in the head, in a line or in the body
abbrev pub unit_number : Unit → ℕ
unit_number Head = 1
unit_number (Line line) = 2
unit_number Body = 3

-- the logical line of a fault, from 0 for the start line; 0 where the fault is in no line
abbrev pub line_of : Unit → ℕ
line_of Head = 0
line_of (Line line) = line
line_of Body = 0

-- the numbers of a verdict: its kind, how many entries and transactions a legal log has, the entry and the transaction of any other verdict, the
-- reason of a fault, its unit and its line; a number that a kind does not have is 0
abbrev pub numbers : ℕ → ℕ → ℕ → ℕ → ℕ → ℕ → ℕ → ℕ → PlainVerdict
numbers kind entries transactions entry transaction reason unit line =
    record { kind = kind; entries = entries; transactions = transactions; entry = entry; transaction = transaction; reason = reason; unit = unit; line = line }

-- the verdict in plain numbers: its kind is 1 for a legal log, 2 for a malformed message, 3 for a breach, 4 for an undecided log, 5 for a fault of the log
abbrev pub plain : Verdict → PlainVerdict
plain (Legal entries transactions) = numbers 1 entries transactions 0 0 0 0 0
plain (Malformed entry fault) = numbers 2 0 0 entry 0 (reason_number fault.reason) (unit_number fault.unit) (line_of fault.unit)
plain (Breach entry transaction) = numbers 3 0 0 entry transaction 0 0 0
plain (Undecided entry transaction) = numbers 4 0 0 entry transaction 0 0 0
plain (LogFault entry reason) = numbers 5 0 0 entry 0 (log_reason_number reason) 0 0

-- a finding in plain numbers: those of the verdict in the same words
abbrev pub plain_finding : Finding → PlainVerdict
plain_finding finding = plain (verdict_of finding)

-- the sums of a survey in plain numbers: how many findings there are, and how many entries and transactions the log has, or at which entry and for
-- what reason it cannot be read on; its end is 1 where the log was read to its end and else 2, and a number that this end does not have is 0
abbrev pub plain_summary : ℕ → SurveyEnd → PlainSummary
plain_summary findings (ended.Clean entries transactions) =
    record { findings = findings; end = 1; entries = entries; transactions = transactions; entry = 0; reason = 0 }
plain_summary findings (ended.LogFault entry reason) =
    record { findings = findings; end = 2; entries = 0; transactions = 0; entry = entry; reason = log_reason_number reason }
