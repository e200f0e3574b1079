use Rattle.std.specs.Prelude.{List, [], ◌∷◌, ◌++◌, ⊤}
use Rattle.sip_standard.specs.Key.{KeyParts}
use Rattle.sip_standard.specs.LogEntry.{Item}
use Rattle.sip_standard.specs.Observation.{Observation}
use Rattle.sip_standard.specs.VerdictOf.{Sees}

-- the observations of entries of a log, one after another, which come after those of the entries `before`
abbrev pub AreSeen : List (Observation KeyParts) → List Item → List (Observation KeyParts) → Type 0
AreSeen before [] [] = ⊤
AreSeen before [] (e ∷ es) = ⊥
AreSeen before (item ∷ items) [] = ⊥
AreSeen before (item ∷ items) (e ∷ es) = Sees before item e × AreSeen (before ++ e ∷ []) items es
