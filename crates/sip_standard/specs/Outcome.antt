-- What a reading comes to: a value, or the first fault.
use Rattle.std.specs.Prelude.{◌≡◌, ⊤}
use Rattle.sip_standard.specs.declared.fault.Fault.{Fault}

-- a value is given, or the reading stops at a fault
pub data Outcome (X : Type 0) : Type 0 where
  gives : X → Outcome X
  stops : Fault → Outcome X

-- the reading gives this value
abbrev pub Gives : {X : Type 0} → X → Outcome X → Type 0
Gives x out = out ≡ gives x

-- a value of which R holds is demanded; without one the fault stops the reading
abbrev pub Demand : {X : Type 0} → (X → Type 0) → Fault → Outcome X → Type 0
Demand R fault (gives x) = R x
Demand {X = X} R fault (stops f) = ((x : X) → ¬ (R x)) × (f ≡ fault)

-- the fact is demanded; without it the fault stops the reading
abbrev pub Holds : Type 0 → Fault → Outcome ⊤ → Type 0
Holds A fault = Demand (λ _. A) fault

-- the first step, and then, with what it gives, the second; a fault of the first stops both
pub data Then {X Y : Type 0} (S : Outcome X → Type 0) (T : X → Outcome Y → Type 0) (out : Outcome Y) : Type 0 where
  passes : (x : X) → S (gives x) → T x out → Then S T out
  stopped : (fault : Fault) → S (stops fault) → out ≡ stops fault → Then S T out
