-- Numbers, found again by a look at those alone that fall into the same slot.
use Rattle.std.specs.Prelude.{◌≡◌, ◌≢◌, ◌<◌, ◌≤◌, ◌-◌, ◌*◌, ◌/◌, ◌^◌, ℕ, Option, None, Some, List, get_or, length, map}
use Rattle.sip_machine.specs.declared.slots.SlotPrint.{SlotPrint}

-- prints by slots: for each slot the place of its newest print, all prints, and for each print the place of the one before it in its slot; places count from 1
pub record Slotted : Type 0 where
  pub newest : List ℕ
  pub prints : List ℕ
  pub olders : List ℕ

-- the prints by slots that the code keeps as a list of slots and a list of pairs
abbrev pub slotted : List ℕ → List SlotPrint → Slotted
slotted newest kept = record { newest = newest; prints = map (λ x. x.print) kept; olders = map (λ x. x.older) kept }

-- the slot of a print, where there are this many slots: its top bits tell it, as a print has 64 bits
abbrev pub slot_of : ℕ → ℕ → ℕ
slot_of slots print = print * slots / 2 ^ 64

-- the last index before the limit at which the print stands, and None if it stands at none
abbrev pub IsLastBefore : List ℕ → ℕ → ℕ → Option ℕ → Type 0
IsLastBefore prints print limit None = (k : ℕ) → k < limit → get_or prints k 0 ≢ print
IsLastBefore prints print limit (Some at) = (at < limit) × (get_or prints at 0 ≡ print) × ((k : ℕ) → at < k → k < limit → get_or prints k 0 ≢ print)

-- one past the last index before the limit whose print is of the slot, and 0 if there is none
pub record IsNewest (slots : ℕ) (prints : List ℕ) (slot limit newest : ℕ) : Type 0 where
  pub within : newest ≤ limit
  pub of_slot : 0 < newest → slot_of slots (get_or prints (newest - 1) 0) ≡ slot
  pub last : (k : ℕ) → newest ≤ k → k < limit → slot_of slots (get_or prints k 0) ≢ slot

-- for each slot its newest print is known, and for each print the one before it in its slot
pub record AreSlots (s : Slotted) : Type 0 where
  pub some : 0 < length s.newest
  pub long : length s.olders ≡ length s.prints
  pub newest_is : (slot : ℕ) → slot < length s.newest → IsNewest (length s.newest) s.prints slot (length s.prints) (get_or s.newest slot 0)
  pub older_is : (at : ℕ) → at < length s.prints → IsNewest (length s.newest) s.prints (slot_of (length s.newest) (get_or s.prints at 0)) at (get_or s.olders at 0)

-- the print before `next` is of the same slot as the print that is looked for, and between it and the limit none is equal to that
pub record IsReached (slots : ℕ) (prints : List ℕ) (print limit next : ℕ) : Type 0 where
  pub within : next ≤ limit
  pub of_slot : 0 < next → slot_of slots (get_or prints (next - 1) 0) ≡ slot_of slots print
  pub none : (k : ℕ) → next ≤ k → k < limit → get_or prints k 0 ≢ print
