-- From when until when a timer may fire (RFC 3261, section 17).
use Rattle.std.specs.Prelude.{◌+◌, ◌-◌, ℕ, Option, Some}
use Rattle.sip_standard.specs.Times.{Times}

-- the first moment at which a timer that was set at s for d may fire: so much before s + d as an element may be early, but not before s
abbrev pub open_at : Times → ℕ → ℕ → ℕ
open_at p s d = s + (d - p.early)

-- the last moment at which a timer that was set at s for d may fire: so much after s + d as an element may be late; a deadline has d = 0
abbrev pub close_at : Times → ℕ → ℕ → ℕ
close_at p s d = s + d + p.late

-- the window of a timer that was set at s for d
abbrev pub window_at : Times → ℕ → ℕ → Option (ℕ × Option ℕ)
window_at p s d = Some (open_at p s d, Some (close_at p s d))
