-- What words ask of the survey program.
use Rattle.std.specs.Prelude.{◌≡◌, ◌≢◌, ◌<◌, ◌^◌, ◌++◌, ℕ, Bool, false, List, [], ◌∷◌, Option, None, Some, IfSome, codes, decimal, bytes_eq}
use Rattle.sip_part.specs.Part.{PartOf}
use Rattle.sip_survey_program.specs.PartWords.{IsPart, part_word}
use Rattle.sip_survey_program.specs.declared.words.Log.{Log}
use Rattle.sip_survey_program.specs.declared.words.Log.TheVariants.{Input, File}
use Rattle.sip_survey_program.specs.declared.words.Asked.{Asked}

-- the words that name the log
abbrev pub log_words : Log → List (List ℕ)
log_words Input = []
log_words (File file) = file.now ∷ []

-- the words that name the part
abbrev pub part_words : Option PartOf → List (List ℕ)
part_words None = []
part_words (Some part) = codes "--part" ∷ part_word part ∷ []

-- the words that ask for a survey that forgets
abbrev pub forget_words : Option ℕ → List (List ℕ)
forget_words None = []
forget_words (Some age) = codes "--forget" ∷ decimal age ∷ []

-- the words that ask for this survey
abbrev pub words_for : Asked → List (List ℕ)
words_for asked = forget_words asked.forget ++ part_words asked.part ++ log_words asked.log

-- words can name the part, and the milliseconds after which a survey may forget
abbrev pub CanBeNamed : Asked → Type 0
CanBeNamed asked = IfSome asked.part IsPart × IfSome asked.forget (λ age. age < 2 ^ 32)

-- the log that words name; None stands for words that name none
abbrev pub IsLogFor : List (List ℕ) → Option Log → Type 0
IsLogFor words (Some log) = words ≡ log_words log
IsLogFor words None = (log : Log) → words ≢ log_words log

-- whether the words begin with the given one, and one word more comes after it
abbrev pub begin_with : List ℕ → List (List ℕ) → Bool
begin_with first [] = false
begin_with first (word ∷ []) = false
begin_with first (word ∷ next ∷ more) = bytes_eq word first

-- what words ask for that come after the words about forgetting; None stands for words that ask for nothing
abbrev pub IsRestFor : Option ℕ → List (List ℕ) → Option Asked → Type 0
IsRestFor forget words (Some asked) = (words ≡ part_words asked.part ++ log_words asked.log) × IfSome asked.part IsPart × (asked.forget ≡ forget)
IsRestFor forget words None = (asked : Asked) → IfSome asked.part IsPart → words ≢ part_words asked.part ++ log_words asked.log

-- what words ask for; None stands for words that ask for nothing
abbrev pub IsAskedBy : List (List ℕ) → Option Asked → Type 0
IsAskedBy words (Some asked) = (words ≡ words_for asked) × CanBeNamed asked
IsAskedBy words None = (asked : Asked) → CanBeNamed asked → words ≢ words_for asked
