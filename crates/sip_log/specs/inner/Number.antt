-- The numbers of a log, in decimal digits.
use Rattle.std.specs.Prelude.{◌≡◌, ◌<◌, ℕ, List, length, min, slice_index}
use Rattle.std.specs.Str.Parse.{IsNumeral, digits_value}

-- the digit 0 in ASCII
abbrev pub digit_zero : ℕ
digit_zero = 48

-- digits that are a number: one, or more of which the first is not 0
abbrev pub IsPlain : List ℕ → Type 0
IsPlain text = (0 < length text) × (slice_index text 0 ≡ digit_zero → length text ≡ 1)

-- the text is a number of a log: 0, or a digit 1 to 9 and any further digits
pub record IsNumber (text : List ℕ) (n : ℕ) : Type 0 where
  pub digits : IsNumeral 10 text
  pub plain : slice_index text 0 ≡ digit_zero → length text ≡ 1
  pub value : n ≡ digits_value 10 text

-- a number as the code keeps it: one above 10^15 is kept as 10^15, which is above every limit of a log
abbrev pub cut : ℕ → ℕ
cut n = min n 1000000000000000
