use Rattle.std.proofs.Common.{◌≡◌, ◌<◌, ◌≤◌, ◌^◌, ◌∙◌, ℕ, List, Option, Some, None, MatchOption, sym, ap, arith}
use Rattle.std.specs.Prelude.{decimal}
use Rattle.std.proofs.lemmas.Fmt.{decimal_injective}
use Rattle.sip_part.specs.Part.{PartOf}
use Rattle.sip_survey_program.specs.PartWords.{IsPartBetween}
use Rattle.sip_survey_program.proofs.part_word.part_between.Goals as goal

-- In the answers `part` is a part that the two words are said to name: `is` says that it is one, `one` and `two` that its numbers are the words.

-- what stands before the slash is no number
pub returns-in_err-number : goal.returns-in_err-number
returns-in_err-number c = rw c.from_residual.ensures (λ part is one two. c.in_err-number.ensures part.number (omega (arith, is)) one)

-- what stands after the slash is no number
pub returns-in_err-count : goal.returns-in_err-count
returns-in_err-count c = rw c.from_residual-in_err-count.ensures (λ part is one two. c.in_err-count.ensures part.count (omega (arith, is)) two)

-- where two words are numbers, the part of these numbers is the part that the words name, if there is one
-- a and b are the words of the numbers k and n, and r is the part, if there is one
made : (a b : List ℕ) (k n : ℕ) (r : Option PartOf) → k < 2 ^ 32 → n < 2 ^ 32 → a ≡ decimal k → b ≡ decimal n
    → MatchOption r (¬ ((0 < k) × (k ≤ n))) (λ part. (part ≡ record { number = k; count = n }) × (0 < k) × (k ≤ n)) → IsPartBetween a b r
-- where there is no part, a part with these numbers would be within the limits
made a b k n None low high a_is b_is none = λ part is one two.
    let first : k ≡ part.number = decimal_injective k part.number (omega (arith, low)) (omega (arith, is)) (sym a_is ∙ one) in
    let second : n ≡ part.count = decimal_injective n part.count (omega (arith, high)) (omega (arith, is)) (sym b_is ∙ two) in
    none (omega (arith, is, first), omega (arith, is, first, second))
-- where there is one, it has the numbers k and n
made a b k n (Some part) low high a_is b_is (same, some, within) =
    let number : part.number ≡ k = ap (λ p. p.number) same in
    let count : part.count ≡ n = ap (λ p. p.count) same in
    ((omega (arith, number, some), omega (arith, number, count, within), omega (arith, count, high)), a_is ∙ ap decimal (sym number), b_is ∙ ap decimal (sym count))

-- where both words are numbers, the part is the one of these
pub returns : goal.returns
returns c =
    made c.args.number.now c.args.count.now c.in_ok-number.number c.in_ok-count.count c.new.result c.in_ok-number.ensures.0 c.in_ok-count.ensures.0 c.in_ok-number.ensures.1 c.in_ok-count.ensures.1 c.new.ensures
