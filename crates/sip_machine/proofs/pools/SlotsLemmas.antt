-- Prints by slots: how the newest print of each slot, and beside each print the one before it in its slot, lead to an equal print.
use Rattle.sip_machine.proofs.Words.{◌≡◌, ◌≢◌, ◌<◌, ◌+◌, ◌++◌, ◌∷◌, [], ℕ, List, get_or, length, arith, subst, set, nat_tests, get_or-map, length-map, length-set, length_push, get_or_append_left, get_or_push, get_or-set_same, get_or-set_other, cases_eq, cases_lt, SlotPrint, Slotted, AreSlots, IsNewest, IsReached, slot_of, slotted}

-- the print at a place is that of the pair there, which leads to the newest print of its slot before it
pub pair-at : (newest : List ℕ) (kept : List SlotPrint) (s : Slotted) (at : ℕ) (x : SlotPrint) → AreSlots (slotted newest kept) → slotted newest kept ≡ s → at < length s.prints →
    x ≡ get_or kept at x → (get_or s.prints at 0 ≡ x.print) × IsNewest (length s.newest) s.prints (slot_of (length s.newest) x.print) at x.older
pair-at newest kept s at x are is low here =
    let print : get_or s.prints at 0 ≡ x.print = grind (arith, get_or-map, length-map) in
    let older : get_or s.olders at 0 ≡ x.older = grind (arith, get_or-map, length-map) in
    (print, rw (print, older) at ((subst AreSlots is are).older_is at low))

-- What follows is of a print that is put under its slot.

-- where a print is put after the others, and its slot leads to it and it to the one before it in the slot, each leads rightly
pub slots-grow : (s : Slotted) (print slot newest : ℕ) → AreSlots s → slot ≡ slot_of (length s.newest) print → slot < length s.newest → newest ≡ length s.prints + 1 →
    AreSlots (record { newest = set s.newest slot newest; prints = s.prints ++ print ∷ []; olders = s.olders ++ get_or s.newest slot 0 ∷ [] })
slots-grow s print slot newest are is low count = grind (arith, nat_tests, length-set, length_push, cases_eq, get_or-set_same, get_or-set_other, cases_lt, get_or_append_left, get_or_push)

-- where the print that is reached is another one, the one before it in the slot is reached
pub reached-more : (slots : ℕ) (prints : List ℕ) (print limit next at here older : ℕ) → IsReached slots prints print limit next → next ≡ at + 1 → get_or prints at 0 ≡ here →
    IsNewest slots prints (slot_of slots here) at older → here ≢ print → IsReached slots prints print limit older
reached-more slots prints print limit next at here older reached is there newest apart = grind (arith, nat_tests, cases_lt)
