-- The table of bytes in lower case, held against the definition.
use Rattle.std.proofs.Common.{◌≡◌, ℕ, ◌<◌, Bool, true, eqb, get_or, refl}
use Rattle.std.specs.Char.{to_ascii_lowercase}
use Rattle.std.proofs.lemmas.Bool.{agree_below, agree_below_at, eqb-true}
use Rattle.sip_part.specs.declared.lower.TheConstants.{LOWER}

-- the table has at the byte what the definition says
abbrev pub is_lower_at : ℕ → Bool
is_lower_at byte = eqb (get_or LOWER byte 0) (to_ascii_lowercase byte)

-- the table has the lower case of each of the 256 bytes, by computing
table-agrees : agree_below is_lower_at (λ _. true) 256 ≡ true
table-agrees = refl

-- the table has the lower case of each byte
pub table-is_lower : (byte : ℕ) → byte < 256 → get_or LOWER byte 0 ≡ to_ascii_lowercase byte
table-is_lower byte below = eqb-true (get_or LOWER byte 0) (to_ascii_lowercase byte) (agree_below_at is_lower_at (λ _. true) 256 byte table-agrees below)
