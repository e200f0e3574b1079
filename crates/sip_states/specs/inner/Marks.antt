-- Which indices are marked: they stand first in a list of all of them, and each has its place there.
use Rattle.std.specs.Prelude.{◌≡◌, ◌<◌, ◌≤◌, ℕ, Bool, true, false, Some, List, [], map, length, nat_lt, get_or, set, slice_get}
use Rattle.sip_states.specs.declared.any_set.AnySet.{AnySet}
use Rattle.sip_states.specs.AnySet.{IsQuietSet}
use Rattle.sip_states.specs.Sweep.{numbers_of}

-- whether each index is marked
abbrev pub marks : List ℕ → ℕ → List Bool
marks places count = map (λ place. nat_lt place count) places

-- the order has each index at the place that `places` gives for it
pub record IsPlaced (order places : List ℕ) (count : ℕ) : Type 0 where
  pub long : length places ≡ length order
  pub few : count ≤ length order
  pub placed : (i : ℕ) → i < length order → (get_or places i 0 < length order) × (get_or order (get_or places i 0) 0 ≡ i)
  pub ordered : (p : ℕ) → p < length order → (get_or order p 0 < length order) × (get_or places (get_or order p 0) 0 ≡ p)

-- the order with the indices at the two places exchanged
abbrev pub exchanged_order : List ℕ → ℕ → ℕ → List ℕ
exchanged_order order p q = set (set order p (get_or order q 0)) q (get_or order p 0)

-- the place of each index, with the places of the two indices exchanged
abbrev pub exchanged_places : List ℕ → List ℕ → ℕ → ℕ → List ℕ
exchanged_places order places p q = set (set places (get_or order p 0) q) (get_or order q 0) p

-- the marks of each index: whether its set may name a message, and whether a restart may change it
pub record Marked : Type 0 where
  pub named : List Bool
  pub moved : List Bool

-- the index is marked
abbrev pub IsMarked : List Bool → ℕ → Type 0
IsMarked marks index = slice_get marks index ≡ Some true

-- P holds of each set whose index is not marked
abbrev pub ElseHolds : (AnySet → Type 0) → List Bool → List AnySet → Type 0
ElseHolds P marks sets = (index : ℕ) (set : AnySet) → slice_get sets index ≡ Some set → slice_get marks index ≡ Some false → P set

-- each set whose index is not marked names no message
abbrev pub AreMarked : List Bool → List AnySet → Type 0
AreMarked marks sets = ElseHolds (λ set. numbers_of set ≡ []) marks sets

-- each set that `moved` does not mark is quiet, and each index that `marks` marks is marked by `moved` too
pub record AreMoved (moved marks : List Bool) (sets : List AnySet) : Type 0 where
  pub quiet : ElseHolds IsQuietSet moved sets
  pub within : (index : ℕ) → IsMarked marks index → IsMarked moved index
