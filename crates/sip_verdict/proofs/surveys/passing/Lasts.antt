-- How many last moments are on record.
use Rattle.std.proofs.Common.{◌≡◌, ◌<◌, ◌+◌, ℕ, zero, suc, Option, Some, None, true, [], ◌∷◌, slice_set, slice_index_or, sym, refl, true≢false, arith}
use Rattle.sip_states.specs.Agenda.{Records, is_overdue}

-- 1 where a last moment is on record, and 0 where none is
abbrev one_last : Option (Option ℕ) → ℕ
one_last None = 0
one_last (Some None) = 0
one_last (Some (Some last)) = 1

-- how many last moments are on record
pub lasts : Records → ℕ
lasts [] = 0
lasts (r ∷ rs) = one_last r + lasts rs

-- a record that is overdue has a last moment
overdue_one : (moment : ℕ) (r : Option (Option ℕ)) → is_overdue moment r ≡ true → one_last r ≡ 1
overdue_one moment None is = absurd (true≢false (sym is))
overdue_one moment (Some None) is = absurd (true≢false (sym is))
overdue_one moment (Some (Some last)) is = refl

-- where an overdue last moment is taken off the record, one less is on it
pub one_less : (rs : Records) (i moment : ℕ) → is_overdue moment (slice_index_or rs i None) ≡ true → lasts (slice_set rs i (Some None)) < lasts rs
unfolding lasts
-- no record is overdue in an empty list; the one at the place i is the first, or one of the others
one_less [] i moment past = absurd (true≢false (sym past))
one_less (x ∷ rs) zero moment past = let is = overdue_one moment x past in omega (arith, is)
one_less (x ∷ rs) (suc i) moment past = let less = one_less rs i moment past in omega (arith, less)
