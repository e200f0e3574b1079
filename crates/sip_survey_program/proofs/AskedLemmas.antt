-- What words ask for that begin with `--part` or `--forget` and one word more.
use Rattle.std.proofs.Common.{◌≡◌, ◌≢◌, ◌<◌, ◌^◌, ◌∙◌, ℕ, true, false, List, [], ◌∷◌, ◌++◌, Option, None, Some, IfSome, map, drop, get_or, codes, refl, sym, ap, subst, true≢false}
use Rattle.std.specs.Prelude.{decimal}
use Rattle.std.proofs.lemmas.Bool.{false≢true}
use Rattle.std.proofs.lemmas.Slice.Eq.{bytes_eq-Decides}
use Rattle.sip_part.specs.Part.{PartOf}
use Rattle.sip_survey_program.specs.declared.words.Asked.{Asked}
use Rattle.sip_survey_program.specs.declared.words.Log.{Log}
use Rattle.sip_survey_program.specs.declared.words.Log.TheVariants.{Input, File}
use Rattle.sip_survey_program.specs.Asked.{CanBeNamed, IsAskedBy, IsRestFor, begin_with, forget_words, log_words, part_words, words_for}

-- What follows is of words of any type X, of which f gives the text.
module _ {X : Type 0} (f : X → List ℕ) where
  -- words of which the first is the given one are this word, the one after it, and the others
  pub split_first : (first : List ℕ) (words : List X) (b : X) → begin_with first (map f words) ≡ true → b ≡ get_or words 1 b → map f words ≡ first ∷ f b ∷ map f (drop 2 words)
  split_first first [] b begins second = absurd (cc)
  split_first first (x ∷ []) b begins second = absurd (cc)
  split_first first (x ∷ y ∷ more) b begins second =
      let is : f x ≡ first = (bytes_eq-Decides (f x) first).0 begins in
      ap (λ w. w ∷ f y ∷ map f more) is ∙ ap (λ w. first ∷ f w ∷ map f more) (sym second)

-- the words that ask for the same part and log, by a survey that forgets as `forget` says
abbrev Forgetting : Asked → Option ℕ → List (List ℕ)
Forgetting asked forget = forget_words forget ++ part_words asked.part ++ log_words asked.log

-- words that do not begin with `--forget` ask for what their rest asks for, by a survey that forgets nothing
-- `is`, `part` and `none` say of what the rest asks for: its words, that its part can be named, and that it forgets nothing
pub without_forget : (words : List (List ℕ)) (r : Option Asked) → begin_with (codes "--forget") words ≡ false → IsRestFor None words r → IsAskedBy words r
without_forget words (Some asked) other (is, part, none) =
    (is ∙ ap (Forgetting asked) (sym none), (part, subst (λ o. IfSome o (λ age. age < 2 ^ 32)) (sym none) tt))
without_forget words None other never = λ asked can same. by asked can same asked.forget refl
  where
    -- no request has these words: they do not begin with `--forget`, and the words of a survey that forgets do
    by : (asked : Asked) → CanBeNamed asked → words ≡ words_for asked → (forget : Option ℕ) → asked.forget ≡ forget → ⊥
    -- what is asked for forgets nothing, since the words would else begin with `--forget`
    by asked can same None is = never asked can.0 (same ∙ ap (Forgetting asked) is)
    by asked can same (Some age) is =
        let whole : words ≡ codes "--forget" ∷ decimal age ∷ (part_words asked.part ++ log_words asked.log) = same ∙ ap (Forgetting asked) is in
        let begins : begin_with (codes "--forget") words ≡ true = ap (begin_with (codes "--forget")) whole in
        true≢false (sym begins ∙ other)

-- what the words `--forget`, `second` and `more` ask for: a survey that forgets after the milliseconds of `second`, of the part and log of `more`
record Forgets (asked : Asked) (second : List ℕ) (more : List (List ℕ)) : Type 0 where
  pub age : ℕ
  pub is : asked.forget ≡ Some age
  pub word : second ≡ decimal age
  pub others : more ≡ part_words asked.part ++ log_words asked.log

-- where words that begin with `--forget` ask for something, they ask for a survey that forgets, by the word after it
forgets : (asked : Asked) (second : List ℕ) (more : List (List ℕ)) → codes "--forget" ∷ second ∷ more ≡ words_for asked → Forgets asked second more
forgets asked second more same =
    let (age, is, next, rest) = by asked.forget asked.part asked.log refl same in
    record { age = age; is = is; word = next; others = rest }
  where
    -- the words begin with `--forget`, so the survey forgets by the age after it
    by : (forget : Option ℕ) (part : Option PartOf) (log : Log) → asked.forget ≡ forget → codes "--forget" ∷ second ∷ more ≡ forget_words forget ++ part_words part ++ log_words log
        → (age : ℕ) × (asked.forget ≡ Some age) × (second ≡ decimal age) × (more ≡ part_words part ++ log_words log)
    -- without an age the words would begin with something else
    by None None Input is words = absurd (cc)
    by None None (File file) is words = absurd (cc)
    by None (Some part) log is words = absurd (false≢true (ap (begin_with (codes "--part")) words))
    -- with an age it stands after `--forget`
    by (Some age) part log is words =
        let next : second ≡ decimal age = cc in
        let rest : more ≡ part_words part ++ log_words log = cc in
        (age, is, next, rest)

-- words of which the first is `--forget` and the second is the number `age` ask for what the others ask for, by a survey that forgets
-- `whole` says what the words are, `low` that the age can be named, and `next` that the second word is the age
pub with_forget : (words : List (List ℕ)) (second : List ℕ) (more : List (List ℕ)) (age : ℕ) (r : Option Asked) → words ≡ codes "--forget" ∷ second ∷ more → age < 2 ^ 32 → second ≡ decimal age → IsRestFor (Some age) more r → IsAskedBy words r
with_forget words second more age (Some asked) whole low next (is, part, forget) = (
  whole ∙ ap (λ w. codes "--forget" ∷ w ∷ more) next ∙ ap (λ ws. codes "--forget" ∷ decimal age ∷ ws) is ∙ ap (Forgetting asked) (sym forget),
  (part, subst (λ o. IfSome o (λ n. n < 2 ^ 32)) (sym forget) low),
)
with_forget words second more age None whole low next never = λ asked can same. never asked can.0 (forgets asked second more (sym whole ∙ same)).others

-- words of which the first is `--forget` and the second is no number below 2^32 ask for nothing
pub no_forget : (words : List (List ℕ)) (second : List ℕ) (more : List (List ℕ)) → words ≡ codes "--forget" ∷ second ∷ more → ((age : ℕ) → age < 2 ^ 32 → second ≢ decimal age) → IsAskedBy words None
no_forget words second more whole none = λ asked can same.
    let f = forgets asked second more (sym whole ∙ same) in
    none f.age (subst (λ o. IfSome o (λ n. n < 2 ^ 32)) f.is can.1) f.word
