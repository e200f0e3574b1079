-- Log formats 1 and 2: the texts of a header.
use Rattle.std.specs.Prelude.{◌≡◌, ◌≢◌, ◌⊎◌, ◌++◌, ℕ, List, codes, decimal}
use Rattle.sip_standard.specs.Times.{Times, AreTimes}
use Rattle.sip_standard.specs.declared.rules.Rules.{Rules}
use Rattle.sip_standard.specs.declared.rules.Rules.TheVariants.{R3261, R6026}
use Rattle.sip_standard.specs.declared.format.Format.{Format}
use Rattle.sip_standard.specs.declared.format.Format.TheVariants.{One, Two}

-- the timers in line 2 of a header: t1 N t2 N t4 N
abbrev pub timers_text : Times → List ℕ
timers_text p = codes "t1 " ++ decimal p.t1 ++ codes " t2 " ++ decimal p.t2 ++ codes " t4 " ++ decimal p.t4

-- lines 1 and 2 of a header: sip-trace 1, LF, the timers, tolerance N, LF; in format 2 sip-trace 2, LF, the timers, early N late N, LF
abbrev pub lines_text : Format → Times → List ℕ
lines_text One p = codes "sip-trace 1\n" ++ timers_text p ++ codes " tolerance " ++ decimal p.late ++ codes "\n"
lines_text Two p = codes "sip-trace 2\n" ++ timers_text p ++ codes " early " ++ decimal p.early ++ codes " late " ++ decimal p.late ++ codes "\n"

-- line 3 of a header, the rules
abbrev pub rules_text : Rules → List ℕ
rules_text R3261 = codes "rules 3261\n"
rules_text R6026 = codes "rules 6026\n"

-- what stands after line 2: the line of these rules and the rest; or the rest alone, which begins with no such line, where they are those of RFC 6026
abbrev pub RulesLine : Rules → List ℕ → List ℕ → Type 0
RulesLine rules text rest =
    (text ≡ rules_text rules ++ rest) ⊎ ((rules ≡ R6026) × (text ≡ rest) × ((other : Rules) (more : List ℕ) → text ≢ rules_text other ++ more))

-- a header at the front of an input: lines 1 and 2, the times within their limits and with one tolerance in format 1, and the rules
pub record Header (format : Format) (p : Times) (input behind : List ℕ) : Type 0 where
  pub times : AreTimes p
  pub one : format ≡ One → p.early ≡ p.late
  pub rest : List ℕ
  pub lines : input ≡ lines_text format p ++ rest
  pub rules : RulesLine p.rules rest behind
