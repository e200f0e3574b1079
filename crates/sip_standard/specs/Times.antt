-- The times of an element (RFC 3261, section 17).
use Rattle.std.specs.Prelude.{◌≤◌, ℕ}
use Rattle.sip_standard.specs.declared.rules.Rules.{Rules}

-- timers T1, T2 and T4 of RFC 3261 section 17, and how early and how late the element may act, all in milliseconds; and the rules that it was
-- built by: those of RFC 3261, or these with the Accepted states of RFC 6026 section 7
pub record Times : Type 0 where
  pub t1 : ℕ
  pub t2 : ℕ
  pub t4 : ℕ
  pub early : ℕ
  pub late : ℕ
  pub rules : Rules

-- the times are within the limits of a log's header (own): 1 to 10,000 ms for T1, to 60,000 for T2 and T4, 0 to 10,000 for how early and how late
pub record AreTimes (p : Times) : Type 0 where
  pub t1_low : 1 ≤ p.t1
  pub t1_high : p.t1 ≤ 10000
  pub t2_low : 1 ≤ p.t2
  pub t2_high : p.t2 ≤ 60000
  pub t4_low : 1 ≤ p.t4
  pub t4_high : p.t4 ≤ 60000
  pub early_high : p.early ≤ 10000
  pub late_high : p.late ≤ 10000

-- the last moment that a log can name, in milliseconds: the greatest number of 13 digits
abbrev pub last_moment : ℕ
last_moment = 9999999999999
