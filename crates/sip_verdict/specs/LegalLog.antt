-- What a legal log is.
use Rattle.std.specs.Prelude.{◌≡◌, ℕ, false, List, [], ◌∷◌, ◌++◌, length, All, IfSome}
use Rattle.sip_standard.specs.Outcome.{gives}
use Rattle.sip_standard.specs.Says.{Said, Says}
use Rattle.sip_standard.specs.declared.role.Direction.{Direction}
use Rattle.sip_standard.specs.Key.{KeyParts}
use Rattle.sip_standard.specs.Times.{Times}
use Rattle.sip_standard.specs.Concerns.{lacks_cookie}
use Rattle.sip_standard.specs.LogEntry.{Item}
use Rattle.sip_standard.specs.LogSays.{Clean, LogSays}
use Rattle.sip_standard.specs.Observation.{Observation, direction_of}
use Rattle.sip_standard.specs.Seen.{AreSeen}
use Rattle.sip_standard.specs.VerdictOf.{keys_in, RunsOver, IsFine}

-- no entry is in trouble
abbrev pub IsGood : Times → List (Observation KeyParts) → Type 0
IsGood p es = (front : List (Observation KeyParts)) (e : Observation KeyParts) (rest : List (Observation KeyParts)) → es ≡ front ++ e ∷ rest → IsFine p front e

-- the bytes are a message of the grammar, RFC 3261 sections 7 and 25, with the cookie if it is a request that is sent, section 8.1.1.7
abbrev pub IsFormed : Direction → List ℕ → Type 0
IsFormed direction text = (s : Said) × Says text (gives s) × (lacks_cookie s direction ≡ false)

-- the log of the input is read whole and has this many entries, none of them in trouble and each with a message of the grammar if it has one, and
-- this many transactions, each with a run over all of them
pub record IsLegalLog (input : List ℕ) (entries transactions : ℕ) : Type 0 where
  pub times : Times
  pub items : List Item
  pub es : List (Observation KeyParts)
  pub whole : LogSays input times items Clean
  pub seen : AreSeen [] items es
  pub good : IsGood times es
  -- the log has so many entries and transactions
  pub entries_are : length es ≡ entries
  pub transactions_are : length (keys_in es) ≡ transactions
  pub runs : All (RunsOver times es) (keys_in es)
  pub formed : All (λ item. IfSome (direction_of item.action) (λ direction. IsFormed direction item.text)) items
