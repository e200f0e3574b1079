-- What the surveys of all parts of a log find together, beside the survey of the whole log.
use Rattle.std.specs.Prelude.{◌≡◌, ◌<◌, ◌≤◌, ℕ, List, Contains}
use Rattle.sip_standard.specs.declared.fault.Fault.{Fault}
use Rattle.sip_standard.specs.Key.{KeyParts}
use Rattle.sip_standard.specs.Observation.{Observation}
use Rattle.sip_standard.specs.VerdictOf.{keys_in}
use Rattle.sip_part.specs.Part.{PartOf, falls_into}
use Rattle.sip_verdict.specs.declared.finding.Finding.{Finding}
use Rattle.sip_verdict.specs.declared.finding.Finding.TheVariants.{Malformed, Breach, Undecided}
use Rattle.sip_verdict.specs.declared.survey_end.SurveyEnd.{SurveyEnd}
use Rattle.sip_verdict.specs.SurveyLaws.{Names, chosen_in}
use Rattle.sip_verdict.specs.SurveyParts.{IsPartSurveyOf}

-- the part with this number of so many
abbrev pub numbered : (count number : ℕ) → PartOf
numbered count number = record { number = number; count = count }

-- one of so many parts has this number
abbrev pub IsNumber : (count number : ℕ) → Type 0
IsNumber count number = (0 < number) × (number ≤ count)

-- the survey of each part of the input finds what `parts` has at the number of the part
abbrev pub AreFoundInParts : (input : List ℕ) (count : ℕ) (parts : ℕ → List Finding) → Type 0
AreFoundInParts input count parts = (number : ℕ) → IsNumber count number → (end : SurveyEnd) × IsPartSurveyOf (numbered count number) input (parts number) end

-- what the whole finds one of the parts finds, what a part finds the whole finds, and no two parts find it
abbrev pub IsSharedOut : (count : ℕ) (in_whole : Type 0) (in_part : ℕ → Type 0) → Type 0
IsSharedOut count in_whole in_part =
    (in_whole → (number : ℕ) × IsNumber count number × in_part number)
    × ((number : ℕ) → IsNumber count number → in_part number → in_whole)
    × ((number other : ℕ) → IsNumber count number → IsNumber count other → in_part number → in_part other → number ≡ other)

-- the keys of the part with this number, in the order in which they first appear
abbrev pub part_keys : (count number : ℕ) → List (Observation KeyParts) → List KeyParts
part_keys count number = chosen_in (λ key. falls_into (numbered count number) key.branch)

-- the parts find together what the whole finds of these entries: each fault, and each transaction in trouble at its entry
pub record AreTogether (count : ℕ) (es : List (Observation KeyParts)) (found : List Finding) (parts : ℕ → List Finding) : Type 0 where
  pub faults : (entry : ℕ) (fault : Fault) → IsSharedOut count (Contains found (Malformed entry fault)) (λ number. Contains (parts number) (Malformed entry fault))
  pub breaches : (entry : ℕ) (key : KeyParts)
      → IsSharedOut count (Names (λ n t. Breach n t) keys_in es found key entry) (λ number. Names (λ n t. Breach n t) (part_keys count number) es (parts number) key entry)
  pub undecided : (entry : ℕ) (key : KeyParts)
      → IsSharedOut count (Names (λ n t. Undecided n t) keys_in es found key entry) (λ number. Names (λ n t. Undecided n t) (part_keys count number) es (parts number) key entry)
