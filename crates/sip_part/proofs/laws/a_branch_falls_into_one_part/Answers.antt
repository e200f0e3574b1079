use Rattle.std.proofs.Common.{◌∙◌, ◌+◌, ◌%◌, refl, sym, arith}
use Rattle.std.proofs.lemmas.Bool.{eqb-true, eq-eqb}
use Rattle.sip_part.specs.Part.{fnv1a}
use Rattle.sip_part.proofs.laws.a_branch_falls_into_one_part.Goals as goal

-- the part is one more than what is left of the hash by the number of parts; since this is below the count, it is a number of a part
pub returns-clause-one : goal.returns-clause-one
returns-clause-one c = λ branch count some. (fnv1a branch % count + 1, omega arith, omega arith, eq-eqb (fnv1a branch % count + 1) (fnv1a branch % count + 1) refl)

-- two parts into which a branch falls are the same, since the hash of the branch tells the part
pub returns-clause-alone : goal.returns-clause-alone
returns-clause-alone c = λ branch count i j one other. sym (eqb-true (fnv1a branch % count + 1) i one) ∙ eqb-true (fnv1a branch % count + 1) j other
