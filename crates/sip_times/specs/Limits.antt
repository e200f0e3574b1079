-- Moments before a limit, and moments at which a timer may fire.
use Rattle.std.specs.Prelude.{◌≤◌, ℕ, Option, Some, None, ⊤}

-- m is not past the limit, if there is one
abbrev pub IsWithin : ℕ → Option ℕ → Type 0
IsWithin m None = ⊤
IsWithin m (Some last) = m ≤ last

-- h is in the window, if there is one: from its opening to its close
abbrev pub IsOpenAt : ℕ → Option (ℕ × Option ℕ) → Type 0
IsOpenAt h None = ⊥
IsOpenAt h (Some w) = (w.0 ≤ h) × IsWithin h w.1
