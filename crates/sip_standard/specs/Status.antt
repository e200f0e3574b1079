use Rattle.std.specs.Prelude.{ℕ}
use Rattle.sip_standard.specs.declared.verdict.Verdict.{Verdict}
use Rattle.sip_standard.specs.declared.verdict.Verdict.TheVariants as verdicts
use Rattle.sip_standard.specs.declared.listing.Listing.{Listing}
use Rattle.sip_standard.specs.declared.listing.Listing.TheVariants.{Text, Stopped, NoEntry}
use Rattle.sip_standard.specs.declared.shown.Shown.{Shown}
use Rattle.sip_standard.specs.declared.shown.Shown.TheVariants.{End, Malformed, LogFault}

-- the status of the program by its verdict: 0, all is well; 1, a message or a transaction is at fault; 2, the log cannot be read; 3, it is not decided
abbrev pub status_of : Verdict → ℕ
status_of (verdicts.Legal entries transactions) = 0
status_of (verdicts.Malformed entry fault) = 1
status_of (verdicts.Breach entry transaction) = 1
status_of (verdicts.LogFault entry reason) = 2
status_of (verdicts.Undecided entry transaction) = 3

-- the status of the program by how a log that it shows ends
abbrev pub status_of_shown : Shown → ℕ
status_of_shown (End entries) = 0
status_of_shown (Malformed entry fault) = 1
status_of_shown (LogFault entry reason) = 2

-- the status of the program by what it lists of an entry
abbrev pub status_of_listing : Listing → ℕ
status_of_listing (Text text) = 0
status_of_listing (Stopped verdict) = status_of verdict
status_of_listing NoEntry = 2
