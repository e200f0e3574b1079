-- How something that is kept of each transaction follows the entries of a log, whatever it is.
use Rattle.std.specs.Prelude.{◌≡◌, ◌⊎◌, ◌++◌, [], ◌∷◌, ℕ, true, Option, Some, None, List, All, Contains, map, min, ⊤}
use Rattle.sip_standard.specs.MachineEvent.{MachineEvent}
use Rattle.sip_standard.specs.declared.verdict.Verdict.{Verdict}
use Rattle.sip_verdict.specs.declared.passing.Outcome.{Outcome}
use Rattle.sip_verdict.specs.declared.passing.Outcome.TheVariants as all
use Rattle.sip_standard.specs.Observation.{Observation}
use Rattle.sip_standard.specs.VerdictOf.{keys_in, events_for, RunsOver, IsWideAt, IsFirstKey, HasTrouble}
use Rattle.sip_verdict.specs.Entries.{concerns, newest_moment}
use Rattle.sip_verdict.specs.LegalLog.{IsGood}
use Rattle.sip_standard.specs.Key.{KeyParts}
use Rattle.sip_standard.specs.Times.{Times}

-- what is kept has a key, and two things may hold of it: it leads to the runs over events from a moment on, or it is just where the runs with one more stand
pub record Keeping (T : Type 0) : Type 1 where
  pub key : T → KeyParts
  pub Leads : T → List MachineEvent → ℕ → Type 0
  pub Stands : T → List MachineEvent → MachineEvent → Type 0

-- what is kept leads to the runs of its key over the entries, from the newest entry on
abbrev pub IsReady : {T : Type 0} → Keeping T → List (Observation KeyParts) → T → Type 0
IsReady k es t = k.Leads t (events_for (k.key t) es) (newest_moment es)

-- where the entry e after these concerns its key, what is kept is just where the runs that end with e stand
abbrev pub IsStanding : {T : Type 0} → Keeping T → List (Observation KeyParts) → Observation KeyParts → T → Type 0
IsStanding k es e t = concerns (k.key t) e ≡ true → k.Stands t (events_for (k.key t) es) e.event

-- the transactions are those of the entries and lead to their runs over them, and no entry is in trouble
pub record Tracks {T : Type 0} (p : Times) (k : Keeping T) (es : List (Observation KeyParts)) (ts : List T) : Type 0 where
  pub keys : map k.key ts ≡ keys_in es
  pub ready : All (IsReady k es) ts
  pub good : IsGood p es

-- the transactions are those of the entries and of the entry e, which they have not passed yet
pub record TracksBefore {T : Type 0} (p : Times) (k : Keeping T) (es : List (Observation KeyParts)) (e : Observation KeyParts) (ts : List T) : Type 0 where
  pub keys : map k.key ts ≡ keys_in (es ++ e ∷ [])
  pub ready : All (IsReady k es) ts
  pub good : IsGood p es

-- what is judged of the entry e after these: it is in no trouble, or this is its verdict
abbrev pub IsJudged : {T : Type 0} → Times → Keeping T → List (Observation KeyParts) → Observation KeyParts → List T → Option Verdict → Type 0
IsJudged p k es e ts None = Tracks p k (es ++ e ∷ []) ts × All (IsStanding k es e) ts
IsJudged p k es e ts (Some verdict) = HasTrouble p es e verdict

-- the key has a run over the entries and e, is not too wide, and what is kept of it leads on
pub record GoesOn {T : Type 0} (p : Times) (k : Keeping T) (es : List (Observation KeyParts)) (e : Observation KeyParts) (t : T) : Type 0 where
  pub runs : RunsOver p (es ++ e ∷ []) (k.key t)
  pub narrow : ¬ IsWideAt p es e (k.key t)
  pub ready : IsReady k (es ++ e ∷ []) t
  pub stands : IsStanding k es e t

-- what the entry e leaves of the runs of one transaction
abbrev pub IsPassed : {T : Type 0} → Times → Keeping T → List (Observation KeyParts) → Observation KeyParts → T → Outcome → Type 0
IsPassed p k es e t all.Fine = GoesOn p k es e t
IsPassed p k es e t (all.NoRun number) = ¬ RunsOver p (es ++ e ∷ []) (k.key t)
IsPassed p k es e t (all.TooWide number) = RunsOver p (es ++ e ∷ []) (k.key t) × IsWideAt p es e (k.key t)

-- what the entry e leaves of the runs of all transactions, with the number of the first one in trouble
abbrev pub IsOutcome : {T : Type 0} → Times → Keeping T → List (Observation KeyParts) → Observation KeyParts → List T → Outcome → Type 0
IsOutcome p k es e ts all.Fine = All (GoesOn p k es e) ts
IsOutcome p k es e ts (all.NoRun number) = IsFirstKey (λ key. ¬ RunsOver p (es ++ e ∷ []) key) (map k.key ts) number
IsOutcome p k es e ts (all.TooWide number) =
    All (RunsOver p (es ++ e ∷ [])) (map k.key ts) × IsFirstKey (IsWideAt p es e) (map k.key ts) number

-- the outcome that is of the transaction with this number: it is fine, or the number that is told is its own
abbrev pub IsOwnOutcome : ℕ → Outcome → Type 0
IsOwnOutcome number all.Fine = ⊤
IsOwnOutcome number (all.NoRun told) = told ≡ number
IsOwnOutcome number (all.TooWide told) = told ≡ number

-- the outcome where the transaction with this number, if there is one, waited too long
abbrev pub overdue_outcome : Option ℕ → Outcome
overdue_outcome None = all.Fine
overdue_outcome (Some number) = all.NoRun number

-- the outcome of two groups of transactions: the first one without a run, and if there is none the first one that is too wide
abbrev pub first_of : Outcome → Outcome → Outcome
first_of all.Fine b = b
first_of (all.NoRun i) all.Fine = all.NoRun i
first_of (all.NoRun i) (all.NoRun k) = all.NoRun (min i k)
first_of (all.NoRun i) (all.TooWide k) = all.NoRun i
first_of (all.TooWide i) all.Fine = all.TooWide i
first_of (all.TooWide i) (all.NoRun k) = all.NoRun k
first_of (all.TooWide i) (all.TooWide k) = all.TooWide (min i k)

-- the first list of transactions has one with the key of t, and the second is the same; or t is new, and the second has it at the end
abbrev pub IsTouched : {T : Type 0} → Keeping T → T → List T → List T → Type 0
IsTouched k fresh old new =
    ((new ≡ old) × Contains (map k.key old) (k.key fresh)) ⊎ (¬ Contains (map k.key old) (k.key fresh) × (new ≡ old ++ fresh ∷ []))
