-- The table of the classes, held against the definition of each class.
use Rattle.std.proofs.Common.{◌≡◌, ℕ, ◌<◌, Bool, true, not, nat_eq, bit_and, get_or, refl}
use Rattle.std.proofs.lemmas.Bool.{agree_below, agree_below_at}
use Rattle.sip_text.specs.declared.class.Class.{Class}
use Rattle.sip_text.specs.declared.class.Class.TheVariants as variant
use Rattle.sip_text.specs.declared.class.TheConstants.{CLASSES}
use Rattle.sip_text.specs.inner.Class.{bit_of, is_in}

-- the table has the class's bit at the byte
abbrev pub table_has : Class → ℕ → Bool
table_has class byte = not (nat_eq (bit_and (get_or CLASSES byte 0) (bit_of class)) 0)

-- the table and the definition agree at each of the 256 bytes, by computing
table-agrees : (class : Class) → agree_below (table_has class) (is_in class) 256 ≡ true
table-agrees variant.Token = refl
table-agrees variant.Quoted = refl
table-agrees variant.Escaped = refl
table-agrees variant.Alphabetic = refl
table-agrees variant.Alphanumeric = refl
table-agrees variant.Label = refl
table-agrees variant.Digit = refl
table-agrees variant.HexDigit = refl
table-agrees variant.User = refl
table-agrees variant.Password = refl
table-agrees variant.Param = refl
table-agrees variant.Header = refl
table-agrees variant.Uric = refl
table-agrees variant.Scheme = refl

-- the table has the class's bit exactly at the bytes of the class
pub table-is_in : (class : Class) (byte : ℕ) → byte < 256 → table_has class byte ≡ is_in class byte
table-is_in class byte below =
    agree_below_at (table_has class) (is_in class) 256 byte (table-agrees class) below
