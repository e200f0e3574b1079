-- The lines of a header, one after another.
use Rattle.std.specs.Prelude.{◌≡◌, ◌≢◌, ◌⊎◌, ◌++◌, ℕ, List, [], ◌∷◌, codes}
use Rattle.sip_standard.specs.Times.{Times, AreTimes}
use Rattle.sip_times.specs.Times.{under}
use Rattle.sip_standard.specs.declared.rules.Rules.{Rules}
use Rattle.sip_standard.specs.declared.rules.Rules.TheVariants.{R6026}
use Rattle.sip_standard.specs.declared.format.Format.{Format}
use Rattle.sip_standard.specs.declared.format.Format.TheVariants.{One, Two}
use Rattle.sip_standard.specs.declared.log_reason.LogReason.TheVariants as faults
use Rattle.sip_standard.specs.LogSays.{line_feed}
use Rattle.sip_log.specs.inner.Spelling.{space}
use Rattle.sip_standard.specs.LogHeader.{RulesLine}
use Rattle.sip_log.specs.Next.{Next, gives, stops}
use Rattle.sip_log.specs.inner.Number.{IsNumber}

-- the text is empty, or begins with a blank
abbrev pub Parted : List ℕ → Type 0
Parted behind = (behind ≡ []) ⊎ ((more : List ℕ) × (behind ≡ space ∷ more))

-- the text is a word, a number, and a rest that is empty or begins with a blank
pub record NumberAfter (word text : List ℕ) (n : ℕ) (behind : List ℕ) : Type 0 where
  pub number : List ℕ
  pub number_is : IsNumber number n
  pub parted : Parted behind
  pub whole : text ≡ word ++ (number ++ behind)

-- the text is the end of line 2: `tolerance N`, or in format 2 `early N late N`
abbrev pub Tolerances : Format → List ℕ → ℕ → ℕ → Type 0
Tolerances One text early late = NumberAfter (codes " tolerance ") text late [] × (early ≡ late)
Tolerances Two text early late = (rest : List ℕ) × NumberAfter (codes " early ") text early rest × NumberAfter (codes " late ") rest late []

-- the line is line 2: `t1 N t2 N t4 N` and the tolerances; the rules are those of RFC 6026, which a third line may change
pub record TimesLine (format : Format) (line : List ℕ) (p : Times) : Type 0 where
  -- rest1, rest2 and rest3 are what follows t1, t2 and t4 in the line
  pub rest1 : List ℕ
  pub rest2 : List ℕ
  pub rest3 : List ℕ
  pub t1_is : NumberAfter (codes "t1 ") line p.t1 rest1
  pub t2_is : NumberAfter (codes " t2 ") rest1 p.t2 rest2
  pub t4_is : NumberAfter (codes " t4 ") rest2 p.t4 rest3
  pub tolerances : Tolerances format rest3 p.early p.late
  pub rules : p.rules ≡ R6026

-- the rest begins with line 2, whose times are within their limits
pub record TimesFront (format : Format) (rest : List ℕ) (p : Times) (behind : List ℕ) : Type 0 where
  pub line : List ℕ
  pub times : TimesLine format line p
  pub within : AreTimes p
  pub whole : rest ≡ line ++ line_feed ∷ behind

-- line 1 of this format, with its line feed
abbrev pub title_text : Format → List ℕ
title_text One = codes "sip-trace 1\n"
title_text Two = codes "sip-trace 2\n"

-- what comes after line 2: the rules, and the rest after them
abbrev pub ComesThird : Format → Times → List ℕ → Next (Format × Times) → Type 0
ComesThird format p rest next = (rules : Rules) × (behind : List ℕ) × RulesLine rules rest behind × (next ≡ gives (format, under rules p) behind)

-- what comes after line 1: line 2 and what comes after it, or the fault `Header` where there is none
abbrev pub ComesSecond : Format → List ℕ → Next (Format × Times) → Type 0
ComesSecond format rest next =
    ((p : Times) × (behind : List ℕ) × TimesFront format rest p behind × ComesThird format p behind next)
    ⊎ (((p : Times) (behind : List ℕ) → ¬ (TimesFront format rest p behind)) × (next ≡ stops faults.Header))

-- what comes first in an input: line 1 and what comes after it, or the fault `Header` where there is none
abbrev pub HeaderComes : List ℕ → Next (Format × Times) → Type 0
HeaderComes input next =
    ((format : Format) × (rest : List ℕ) × (input ≡ title_text format ++ rest) × ComesSecond format rest next)
    ⊎ (((format : Format) (rest : List ℕ) → input ≢ title_text format ++ rest) × (next ≡ stops faults.Header))
