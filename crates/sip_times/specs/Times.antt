-- Times under other rules, and times as the numbers that stand for them.
use Rattle.std.specs.Prelude.{◌+◌, ◌-◌, ℕ, Bool, true, false, nat_lt}
use Rattle.sip_standard.specs.declared.rules.Rules.{Rules}
use Rattle.sip_standard.specs.declared.rules.Rules.TheVariants.{R3261, R6026}
use Rattle.sip_standard.specs.Times.{Times}

-- the same times under other rules
abbrev pub under : Rules → Times → Times
under rules p = record { t1 = p.t1; t2 = p.t2; t4 = p.t4; early = p.early; late = p.late; rules = rules }

-- the number that stands for how late an element may act and for its rules: how late, and 32,768 more under the rules of RFC 3261
abbrev pub lateness_of : ℕ → Rules → ℕ
lateness_of late R6026 = late
lateness_of late R3261 = late + 32768

-- the times for which these numbers stand, where the first argument says whether the lateness is below 32,768
abbrev pub times_where : Bool → ℕ → ℕ → ℕ → ℕ → ℕ → Times
times_where true t1 t2 t4 early lateness = record { t1 = t1; t2 = t2; t4 = t4; early = early; late = lateness; rules = R6026 }
times_where false t1 t2 t4 early lateness = record { t1 = t1; t2 = t2; t4 = t4; early = early; late = lateness - 32768; rules = R3261 }

-- the times for which these numbers stand
abbrev pub times_of : ℕ → ℕ → ℕ → ℕ → ℕ → Times
times_of t1 t2 t4 early lateness = times_where (nat_lt lateness 32768) t1 t2 t4 early lateness
