-- Names as numbers of 8 bytes.
use Rattle.std.specs.Prelude.{ℕ, ◌-◌, List, ◌++◌, map, length, replicate}
use Rattle.std.specs.Int.{w64, from_le_bytes}
use lib.Bits.{bit_or}

-- the byte with the bit set in which a small letter differs from the great one
abbrev pub small : ℕ → ℕ
small byte = bit_or byte 32

-- 8 bytes that end with these, with NULs before them
abbrev pub filled : List ℕ → List ℕ
filled text = replicate (8 - length text) 0 ++ text

-- the number that a text of at most 8 bytes writes, whatever the case of its letters
abbrev pub number_of : List ℕ → ℕ
number_of text = from_le_bytes w64 (filled (map small text))
