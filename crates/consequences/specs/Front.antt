-- The front of a log that is in no trouble, and what a verdict says by itself.
use Rattle.std.specs.Prelude.{◌≡◌, ◌+◌, ◌⊎◌, ℕ, Some, None, List, [], ◌∷◌, ◌++◌, length, All, ⊤}
use Rattle.sip_standard.specs.Key.{KeyParts}
use Rattle.sip_standard.specs.Times.{Times}
use Rattle.sip_standard.specs.declared.fault.Fault.{Fault}
use Rattle.sip_standard.specs.LogEntry.{Item}
use Rattle.sip_standard.specs.LogSays.{LogEnd, Stops, LogSays, LacksHeader}
use Rattle.sip_standard.specs.declared.log_reason.LogReason.{LogReason}
use Rattle.sip_standard.specs.declared.log_reason.LogReason.TheVariants.{Header}
use Rattle.sip_standard.specs.Observation.{Observation}
use Rattle.sip_standard.specs.VerdictOf.{keys_in, Sees, RunsOver, IsWideAt, IsFirstKey, IsFine}

-- each transaction of these entries has a run over all of them
abbrev pub AllRun : Times → List (Observation KeyParts) → Type 0
AllRun p es = All (RunsOver p es) (keys_in es)

-- `es` is what is observed of the items that come after the entries `front`, one of each item in turn, and none of them is in trouble
abbrev pub GoWell : Times → List (Observation KeyParts) → List Item → List (Observation KeyParts) → Type 0
GoWell p front [] [] = ⊤
GoWell p front (item ∷ items) (e ∷ es) = Sees front item e × IsFine p front e × GoWell p (front ++ e ∷ []) items es
GoWell p front items es = ⊥

-- the log of the input has these times, its entry of this number is the first in trouble and is observed as e, and those before it are observed as `front`
pub record IsFirstInTrouble (input : List ℕ) (p : Times) (number : ℕ) (front : List (Observation KeyParts)) (e : Observation KeyParts) : Type 0 where
  pub before : List Item
  pub item : Item
  pub after : List Item
  pub end : LogEnd
  pub says : LogSays input p (before ++ item ∷ after) end
  pub well : GoWell p [] before front
  pub sees : Sees front item e
  pub numbered : number ≡ length front + 1

-- the message of the entry with this number has this fault, and no entry before it is in trouble
abbrev pub IsFirstFault : List ℕ → ℕ → Fault → Type 0
IsFirstFault input number fault =
    (p : Times) × (front : List (Observation KeyParts)) × (e : Observation KeyParts) × IsFirstInTrouble input p number front e × (e.fault ≡ Some fault)

-- after the entry with this number some transaction has no run, this is the first of them, and no entry before it is in trouble
abbrev pub IsFirstBreach : List ℕ → ℕ → ℕ → Type 0
IsFirstBreach input number transaction =
    (p : Times) × (front : List (Observation KeyParts)) × (e : Observation KeyParts) × IsFirstInTrouble input p number front e × (e.fault ≡ None)
    × IsFirstKey (λ key. ¬ (RunsOver p (front ++ e ∷ []) key)) (keys_in (front ++ e ∷ [])) transaction

-- after the entry with this number each transaction has a run, but some is too wide there, this is the first of them, and no entry before is in trouble
abbrev pub IsFirstWide : List ℕ → ℕ → ℕ → Type 0
IsFirstWide input number transaction =
    (p : Times) × (front : List (Observation KeyParts)) × (e : Observation KeyParts) × IsFirstInTrouble input p number front e × (e.fault ≡ None)
    × AllRun p (front ++ e ∷ []) × IsFirstKey (IsWideAt p front e) (keys_in (front ++ e ∷ [])) transaction

-- the input has no header, told as entry 0; or its entries go well up to the one with this number, which cannot be read for this reason
abbrev pub CannotBeRead : List ℕ → ℕ → LogReason → Type 0
CannotBeRead input number reason =
    ((number ≡ 0) × (reason ≡ Header) × LacksHeader input)
    ⊎ ((p : Times) × (items : List Item) × (front : List (Observation KeyParts)) × (fault : LogReason) × LogSays input p items (Stops fault)
    × GoWell p [] items front × (number ≡ length front + 1) × (reason ≡ fault))
