-- The failures of the survey program: what each stands for, and its line.
use Rattle.std.specs.Prelude.{ℕ, List, codes}
use Rattle.sip_standard.specs.declared.failure.Failure.{Failure as SiptraceFailure}
use Rattle.sip_standard.specs.declared.failure.Failure.TheVariants as siptrace
use Rattle.sip_verdict.specs.declared.survey_error.SurveyError.{SurveyError}
use Rattle.sip_verdict.specs.declared.survey_error.SurveyError.TheVariants as surveying
use Rattle.sip_survey_program.specs.declared.failure.Failure.{Failure}
use Rattle.sip_survey_program.specs.declared.failure.Failure.TheVariants.{Read, Write, Memory, Usage}

-- the failure of the program that stands for this error of a survey
abbrev pub failure_of : SurveyError → Failure
failure_of surveying.Read = Read
failure_of surveying.Write = Write
failure_of surveying.Memory = Memory

-- the failure of `siptrace` of the same name, which has the same status and the same causes
abbrev pub as_siptrace : Failure → SiptraceFailure
as_siptrace Read = siptrace.Read
as_siptrace Write = siptrace.Write
as_siptrace Memory = siptrace.Memory
as_siptrace Usage = siptrace.Usage

-- the line on the standard error that tells the failure
abbrev pub line_of : Failure → List ℕ
line_of Read = codes "sipsurvey: cannot read\n"
line_of Write = codes "sipsurvey: cannot write\n"
line_of Memory = codes "sipsurvey: out of memory\n"
line_of Usage = codes "sipsurvey: usage: sipsurvey [--forget MILLISECONDS] [--part K/N] [FILE]\n"
