-- The transactions that an entry concerns, as the code names them.
use Rattle.std.specs.Prelude.{ℕ, zero, suc, Bool, true, false, List, [], ◌∷◌, ◌++◌}
use Rattle.sip_verdict.specs.declared.concerned.Concerned.{Concerned}
use Rattle.sip_verdict.specs.declared.concerned.Concerned.TheVariants as concerned

-- each of the transactions that an entry names, its own first; where it concerns all, it names none
abbrev pub each : {T : Type 0} → Concerned T → List T
each concerned.None = []
each (concerned.Own own) = own ∷ []
each (concerned.OwnAndCancelled own cancelled) = own ∷ cancelled ∷ []
each concerned.All = []

-- whether an entry concerns all transactions
abbrev pub is_all : {T : Type 0} → Concerned T → Bool
is_all concerned.None = false
is_all (concerned.Own own) = false
is_all (concerned.OwnAndCancelled own cancelled) = false
is_all concerned.All = true

-- the numbers from 1 to `count`
abbrev pub up_to : ℕ → List ℕ
up_to zero = []
up_to (suc n) = up_to n ++ suc n ∷ []

-- the numbers of the transactions that an entry concerns, where there are `count` of them in all
abbrev pub listed : ℕ → Concerned ℕ → List ℕ
listed count concerned.None = []
listed count (concerned.Own own) = own ∷ []
listed count (concerned.OwnAndCancelled own cancelled) = own ∷ cancelled ∷ []
listed count concerned.All = up_to count
