-- A fact that holds whatever a call answers holds where it answers an error.
use Rattle.std.proofs.Common.{Result, Ok, Err, OnErr}

-- a fact that holds anyway holds where a result is an error
pub always_err : {T E : Type 0} (r : Result T E) {P : Type 0} → P → OnErr r P
always_err (Ok x) holds = tt
always_err (Err e) holds = holds
