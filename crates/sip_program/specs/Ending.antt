-- How a program ends: its status, and what it tells on the standard error. `F` is the type of its failures, and a run ends with a status or one of these.
use Rattle.std.specs.Prelude.{◌≡◌, ℕ, Bool, false, List, [], Option, Result, Ok, Err, MatchResult}
use Rattle.std.specs.Io.KnownBytes.{Appends}

-- the status of an answer, or the status that says why there is none
abbrev pub status_at_end : {F : Type 0} → (status_without : F → ℕ) → Result ℕ F → ℕ
status_at_end status_without (Ok status) = status
status_at_end status_without (Err failure) = status_without failure

-- what is told of how a run ends: nothing where it has an answer, and else the line of why it has none
abbrev pub told_at_end : {F : Type 0} → (line_of : F → List ℕ) → Result ℕ F → List ℕ
told_at_end line_of (Ok status) = []
told_at_end line_of (Err failure) = line_of failure

-- the program ends with the status of its run, and has told why there is no answer, unless the standard error has failed
-- `is_answer` says which status an answer has, and `is_cause` why there can be none; the standard error has got `before` and then `after`, where that is known
pub record IsEnd {F : Type 0} (is_answer : ℕ → Type 0) (is_cause : F → Type 0) (status_without : F → ℕ) (line_of : F → List ℕ)
    (before after : Option (List ℕ)) (has_telling_failed : Bool) (status : ℕ) : Type 0 where
  pub ended : Result ℕ F
  pub is_run : MatchResult ended is_answer is_cause
  pub ends : status ≡ status_at_end status_without ended
  pub told : has_telling_failed ≡ false → Appends before after (told_at_end line_of ended)
