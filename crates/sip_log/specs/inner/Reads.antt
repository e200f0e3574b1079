-- What reads of a source add to the bytes that are held.
use Rattle.std.specs.Prelude.{◌≡◌, ◌++◌, ℕ, Bool, List, Option}
use Rattle.std.specs.Io.KnownBytes.{Consumes}

-- bytes came from the source and stand after those that were held, and no read failed
pub record Reads (held held2 : List ℕ) (left left2 : Option (List ℕ)) (failed failed2 : Bool) : Type 0 where
  pub came : List ℕ
  pub held_is : held2 ≡ held ++ came
  pub left_is : Consumes left left2 came
  pub fine : failed2 ≡ failed
