-- Which start line is that of a 100.
use Rattle.std.specs.Prelude.{◌≡◌, ℕ, List}
use Rattle.sip_standard.specs.StartLine.{StartLine, status}

-- the start line is that of a response 100
abbrev pub IsStatus100 : StartLine → Type 0
IsStatus100 start = (reason : List ℕ) × (start ≡ status 100 reason)
