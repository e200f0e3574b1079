use Rattle.std.proofs.Common.{◌≡◌, ◌∙◌, ◌∷◌, true, ℕ, List, codes, drop, map, string_bytes, refl, sym, ap, rules}
use Rattle.std.proofs.lemmas.List.{take_rest}
use Rattle.sip_survey_program.specs.PartWords.{part_word}
use Rattle.sip_survey_program.specs.Asked.{begin_with}
use Rattle.sip_survey_program.proofs.AskedLemmas.{split_first}
use Rattle.sip_survey_program.proofs.asking.rest_of.Goals as goal

-- the words are `--part`, its word, and what the others ask for
-- `names` says that the words begin with `--part`, `split` what they are then, and `part` that the second word is that of the part
pub returns : goal.returns
returns c =
    let words = c.args.words.now in
    let names : begin_with (codes "--part") (map string_bytes words) ≡ true = search rules in
    let part = c.in_ok-part.ensures in
    let split = split_first string_bytes (codes "--part") words c.index-words-1.result names c.index-words-1.is in
    -- the words are those that would be written for what is asked, its part can be named, and it forgets as was given
    let log = ap (map string_bytes) (sym (take_rest words 2)) ∙ c.in_ok-log-2.ensures in (
      split ∙ ap (λ (w : List ℕ). codes "--part" ∷ w ∷ map string_bytes (drop 2 words)) (sym c.as_str.ensures.value ∙ part.1)
          ∙ ap (λ (t : List (List ℕ)). codes "--part" ∷ part_word c.in_ok-part.part ∷ t) log,
      part.0,
      refl,
    )
