-- The word for a part of a log.
use Rattle.std.specs.Prelude.{◌≡◌, ◌≢◌, ◌≤◌, ◌<◌, ◌^◌, ◌++◌, ℕ, List, Option, None, Some, decimal, codes}
use Rattle.sip_part.specs.Part.{PartOf}

-- the part has a number from 1 up to its count, and a word can name it
abbrev pub IsPart : PartOf → Type 0
IsPart part = (0 < part.number) × (part.number ≤ part.count) × (part.count < 2 ^ 32)

-- the word K/N for part K of N
abbrev pub part_word : PartOf → List ℕ
part_word part = decimal part.number ++ (codes "/" ++ decimal part.count)

-- the two words are the number of the part and the count of all parts; None stands for words that are not those of a part
abbrev pub IsPartBetween : List ℕ → List ℕ → Option PartOf → Type 0
IsPartBetween number count (Some part) = IsPart part × (number ≡ decimal part.number) × (count ≡ decimal part.count)
IsPartBetween number count None = (part : PartOf) → IsPart part → number ≡ decimal part.number → count ≢ decimal part.count
