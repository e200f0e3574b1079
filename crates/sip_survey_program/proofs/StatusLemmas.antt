-- The status of a survey is told by how many findings there are, and how many of them are of a transaction that is followed no further.
use Rattle.std.proofs.Common.{◌≡◌, ◌≢◌, ◌≤◌, refl, ℕ, suc, true, false, List, [], ◌∷◌, length, filter, if◌then◌else◌, ap, sym, arith}
use Rattle.std.specs.List.{list_all}
use Rattle.sip_verdict.specs.declared.finding.Finding.{Finding}
use Rattle.sip_verdict.specs.declared.finding.Finding.TheVariants.{Malformed, Breach, Undecided}
use Rattle.sip_verdict.specs.declared.survey_end.SurveyEnd.TheVariants.{Clean}
use Rattle.sip_verdict.specs.SurveyText.{is_undecided}
use Rattle.sip_survey_program.specs.Status.{status_of}

-- at most all findings are of a transaction that is followed no further
few : (found : List Finding) → length (filter is_undecided found) ≤ length found
few [] = omega arith
few (Malformed entry fault ∷ found) = let few = few found in omega (arith, few)
few (Breach entry transaction ∷ found) = let few = few found in omega (arith, few)
few (Undecided entry transaction ∷ found) = let few = few found in omega (arith, few)

-- where as many findings as there are say that a transaction is followed no further, all of them do
all : (found : List Finding) → length (filter is_undecided found) ≡ length found → list_all is_undecided found ≡ true
all [] same = refl
all (Malformed entry fault ∷ found) same = let few = few found in absurd (omega (arith, few, same))
all (Breach entry transaction ∷ found) same = let few = few found in absurd (omega (arith, few, same))
all (Undecided entry transaction ∷ found) same = all found (omega (arith, same))

-- where fewer findings than there are say that a transaction is followed no further, not all of them do
not-all : (found : List Finding) → length (filter is_undecided found) ≢ length found → list_all is_undecided found ≡ false
not-all [] other = absurd (other refl)
not-all (Malformed entry fault ∷ found) other = refl
not-all (Breach entry transaction ∷ found) other = refl
not-all (Undecided entry transaction ∷ found) other = not-all found (λ same. other (ap suc same))

-- where there are findings, and all say that a transaction is followed no further, the status is 3
pub undecided-alone : (found : List Finding) (entries transactions : ℕ) → 0 ≢ length found → length (filter is_undecided found) ≡ length found → 3 ≡ status_of found (Clean entries transactions)
undecided-alone [] entries transactions some same = absurd (some refl)
undecided-alone (f ∷ found) entries transactions some same = sym (ap (λ b. if b then 3 else 1) (all (f ∷ found) same))

-- where there are findings, and not all say that a transaction is followed no further, the status is 1
pub more-than-undecided : (found : List Finding) (entries transactions : ℕ) → 0 ≢ length found → length (filter is_undecided found) ≢ length found → 1 ≡ status_of found (Clean entries transactions)
more-than-undecided [] entries transactions some other = absurd (some refl)
more-than-undecided (f ∷ found) entries transactions some other = sym (ap (λ b. if b then 3 else 1) (not-all (f ∷ found) other))
