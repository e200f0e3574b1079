use Rattle.std.proofs.Common.{◌≡◌, ◌≢◌, ◌<◌, ◌∙◌, ◌++◌, ◌∷◌, ℕ, List, length, Option, Some, None, sym, ap, subst, arith}
use Rattle.std.specs.Prelude.{decimal}
use Rattle.std.specs.List.{position_or_len, before_first, after_first}
use Rattle.sip_part.specs.Part.{PartOf}
use Rattle.sip_program.specs.WordFor.{IsWordFor}
use Rattle.sip_survey_program.specs.PartWords.{IsPart, IsPartBetween, part_word}
use Rattle.sip_survey_program.proofs.Slashes.{is_slash, has_slash, number_before, number_after, split_slash}
use Rattle.sip_survey_program.proofs.part_word.part_of.Goals as goal

-- a word without a slash is that of no part
without : (word : List ℕ) → position_or_len is_slash word ≡ length word → (part : PartOf) → IsPart part → word ≢ part_word part
without word none part is same =
    has_slash part.number part.count (omega (arith, is)) (subst (λ w. position_or_len is_slash w ≡ length w) same none)

-- where the word has a slash, the part between its two numbers is the part of the word
-- `a` and `b` are what stands before the slash and after it, and `r` is the part that these two name, if they name one
whole : (word a b : List ℕ) (r : Option PartOf) → position_or_len is_slash word < length word → a ≡ before_first is_slash word → b ≡ after_first is_slash word → IsPartBetween a b r → IsWordFor IsPart part_word word r
whole word a b (Some part) within front rest (is, one, two) =
    (is, split_slash word within ∙ ap (λ t. t ++ 47 ∷ after_first is_slash word) (sym front ∙ one) ∙ ap (λ t. decimal part.number ++ 47 ∷ t) (sym rest ∙ two))
-- the word of a part would have the part's numbers before and after its first slash, and these name no part
whole word a b None within front rest none = λ part is same.
    none part is (front ∙ ap (before_first is_slash) same ∙ number_before part.number part.count (omega (arith, is)))
    (rest ∙ ap (after_first is_slash) same ∙ number_after part.number part.count (omega (arith, is)))

-- A slash is one byte, so that the clause `byte` of `split_once` tells of it. Its first argument is that it is below 128, and its second that the
-- search is for this byte. What it tells: of a word without a slash that `position_or_len` gives its end, and of any other word that it gives a place
-- within the word, and which are the parts before and after it.

-- a word without a slash is that of no part
pub returns-in_err-number : goal.returns-in_err-number
returns-in_err-number c = rw c.from_residual.ensures (without c.args.word.now (c.in_err-number.ensures.byte (omega arith) (λ w o f. f)))

-- where the word has a slash, the part is the one between its two numbers
pub returns : goal.returns
returns c =
    let parts = c.in_ok-number.ensures.byte (omega arith) (λ w o f. f) in
    whole c.args.word.now c.in_ok-number.number.now c.in_ok-number.count.now c.part_between.result parts.2 parts.0 parts.1 c.part_between.ensures
