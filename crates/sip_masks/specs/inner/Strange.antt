-- Bytes by which a name of a host is told.
use Rattle.std.specs.Prelude.{ℕ, Bool, not, bit_or}
use Rattle.std.specs.Int.{is_in_range}

-- a byte that is not from `-` up to `z` with the bit of small letters set; a plain byte that is none of these may stand in a name of a host
abbrev pub is_beyond : ℕ → Bool
is_beyond byte = not (is_in_range 45 122 (bit_or byte 32))
