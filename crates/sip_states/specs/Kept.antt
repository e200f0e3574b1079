-- Which elements of a list are kept, by a flag for each, and what is left of tables.
use Rattle.std.specs.Prelude.{Bool, true, false, List, [], ◌∷◌}
use Rattle.sip_states.specs.Tables.{Tabled}

-- the elements of the list whose flag is true, in their order
abbrev pub kept_of : {X : Type 0} → List Bool → List X → List X
kept_of [] xs = []
kept_of (b ∷ flags) [] = []
kept_of (true ∷ flags) (x ∷ xs) = x ∷ kept_of flags xs
kept_of (false ∷ flags) (x ∷ xs) = kept_of flags xs

-- the keys whose flag is true, each with its set and its last moment on record
abbrev pub kept_tables : List Bool → Tabled → Tabled
kept_tables flags t = record { times = t.times; keys = kept_of flags t.keys; sets = kept_of flags t.sets; records = kept_of flags t.records }
