-- What a survey of a log that forgets transactions as it goes finds and writes.
use Rattle.std.specs.Prelude.{◌≡◌, ◌≤◌, ◌+◌, ◌⊎◌, ℕ, Bool, Option, List, [], ◌∷◌, ◌++◌, length, take}
use Rattle.sip_standard.specs.Key.{KeyParts}
use Rattle.sip_standard.specs.Times.{Times}
use Rattle.sip_standard.specs.LogEntry.{Item}
use Rattle.sip_standard.specs.LogSays.{LogEnd, LacksHeader}
use Rattle.sip_standard.specs.Observation.{Observation}
use Rattle.sip_standard.specs.VerdictOf.{keys_in, Sees}
use Rattle.sip_standard.specs.declared.log_reason.LogReason.TheVariants.{Header, Limit}
use Rattle.sip_log.specs.Stream.{StreamSays}
use Rattle.sip_part.specs.Part.{PartOf}
use Rattle.sip_verdict.specs.declared.finding.Finding.{Finding}
use Rattle.sip_verdict.specs.declared.survey_end.SurveyEnd.{SurveyEnd}
use Rattle.sip_verdict.specs.declared.survey_end.SurveyEnd.TheVariants as ended
use Rattle.sip_verdict.specs.Entries.{newest_moment}
use Rattle.sip_verdict.specs.Forgetting.{ForgetsUpTo, remembered}
use Rattle.sip_verdict.specs.Room.{HasRoom}
use Rattle.sip_verdict.specs.SurveyOf.{AreFoundAt, IsSurveyAfter}
use Rattle.sip_verdict.specs.SurveyParts.{IsTaken}
use Rattle.sip_verdict.specs.SurveyText.{IsTextOf, end_text}

-- each entry with a number up to `until` came at least `age` milliseconds before the newest
abbrev pub IsLongAgo : (age until : ℕ) → List (Observation KeyParts) → Type 0
IsLongAgo age until es = newest_moment (take until es) + age ≤ newest_moment es

-- what is left of the entries: they as they are, or without transactions that are over and whose last entry came at least `age` milliseconds ago
abbrev pub IsLeftOf : (age : ℕ) → Times → (es left : List (Observation KeyParts)) → Type 0
IsLeftOf age p es left =
    (left ≡ es) ⊎ ((until : ℕ) × (kept : KeyParts → Bool) × IsLongAgo age until es × ForgetsUpTo until p es kept × (left ≡ remembered kept es))

-- what is found at the entries that come after these, with its lines, each entry being judged after what is left of those before it; and how they end:
-- also where the survey has no room for the next entry, which it does not take
abbrev pub IsToldAfter : (age : ℕ) → Option PartOf → Times → List (Observation KeyParts) → List Item → LogEnd → List Finding → SurveyEnd → (lines : List ℕ) → Type 0
IsToldAfter age part p es [] close found end lines = IsSurveyAfter p es [] close found end × (lines ≡ [])
IsToldAfter age part p es (item ∷ items) close found end lines =
    (left : List (Observation KeyParts)) × IsLeftOf age p es left
    × ((¬ (HasRoom (length left) (length (keys_in left))) × (found ≡ []) × (end ≡ ended.LogFault (length left + 1) Limit) × (lines ≡ []))
    ⊎ (HasRoom (length left) (length (keys_in left))
    × ((taken : Item) × (e : Observation KeyParts) × (here : List Finding) × (later : List Finding) × (text : List ℕ) × (more : List ℕ)
    × IsTaken part item taken × Sees left taken e × AreFoundAt p left e here × IsTextOf (left ++ e ∷ []) here text
    × (found ≡ here ++ later) × (lines ≡ text ++ more) × IsToldAfter age part p (left ++ e ∷ []) items close later end more)))

-- the survey of an input of any number of entries, or of a part, that may forget transactions so long after their last entry, and its text
abbrev pub IsToldForgetting : (age : ℕ) → Option PartOf → List ℕ → List Finding → SurveyEnd → List ℕ → Type 0
IsToldForgetting age part input found end text =
    (LacksHeader input × (found ≡ []) × (end ≡ ended.LogFault 0 Header) × (text ≡ end_text end 0))
    ⊎ ((p : Times) × (items : List Item) × (close : LogEnd) × (lines : List ℕ) × StreamSays input p items close
    × IsToldAfter age part p [] items close found end lines × (text ≡ lines ++ end_text end (length found)))
