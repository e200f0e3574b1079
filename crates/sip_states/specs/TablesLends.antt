-- What tables hold once a set that they lent comes back.
use Rattle.std.specs.Prelude.{ℕ}
use Rattle.std.specs.Borrow.{Lends, MutBor, Fml, RattleType}
use Rattle.std.specs.declared.hash.Hasher as hasher
use Rattle.std.specs.declared.hash.BuildHasher as builder
use Rattle.sip_states.specs.declared.any_set.AnySet.{AnySet}
use Rattle.sip_states.specs.contracts.any_set.AnySet as any_set
use Rattle.sip_states.specs.contracts.tables.Tables as tables
use Rattle.sip_states.specs.Tables.{Tabled, with_set}

-- once the borrow ends, the tables are the old ones with the set that was left in it; S and H are the types of the seed and of its hasher, `build` and
-- `hash` what their contracts say, t the tables, and r the set that is lent
abbrev pub LendsSet : (S H : RattleType) → builder.Ghosts S.Denot H.Denot → hasher.Ghosts H.Denot → MutBor Tabled → ℕ → MutBor AnySet → Fml
LendsSet S H build hash t number r = Lends (tables.the_row S H build hash) any_set.the_row t r (with_set t.now number)
