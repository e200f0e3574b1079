-- The part of a log that is cut by branch into which a message falls.
use Rattle.std.specs.Prelude.{◌≡◌, ℕ, ◌+◌, ◌*◌, ◌%◌, ◌^◌, ◌==◌, Bool, List, [], Option, None, Some, fold, bit_xor}
use Rattle.sip_standard.specs.Case.{folded}
use Rattle.sip_standard.specs.declared.fault.Fault.{Fault}
use Rattle.sip_standard.specs.Outcome.{gives, stops}
use Rattle.sip_standard.specs.Says.{Said, Says}
use Rattle.sip_part.specs.Led.{led_branch}

-- the part with the number `number`, from 1, of `count` parts
pub record PartOf : Type 0 where
  pub number : ℕ
  pub count : ℕ

-- FNV-1a of 32 bits: the sum begins as 2166136261; for each byte it is joined with the byte by exclusive or, and then multiplied by 16777619
abbrev pub fnv1a : List ℕ → ℕ
fnv1a text = fold (λ sum byte. (bit_xor sum byte * 16777619) % 2 ^ 32) 2166136261 text

-- whether a branch, in lower case, falls into this part
abbrev pub falls_into : PartOf → List ℕ → Bool
falls_into part branch = fnv1a branch % part.count + 1 == part.number

-- a branch in lower case, as it is compared; no bytes where there is no branch
abbrev pub compared : Option (List ℕ) → List ℕ
compared None = []
compared (Some branch) = folded branch

-- the branch by which a message falls into its part: that of its top Via, or, of a message with a fault, the one that stands plainly in it
abbrev pub TellsBranch : List ℕ → List ℕ → Type 0
TellsBranch text branch =
    ((s : Said) → Says text (gives s) → branch ≡ compared s.via.branch)
    × ((fault : Fault) → Says text (stops fault) → branch ≡ compared (led_branch text))
