-- Words are told by the bytes of each, at its place.
-- In the lemmas f gives the bytes of a word, and a word is told by its place: `a ≡ get_or words 0 a` says that there is one at 0, which is a, or none.
use Rattle.std.proofs.Common.{◌≡◌, ◌≢◌, ℕ, ◌<◌, ◌≤◌, false, List, [], ◌∷◌, codes, length, map, get_or, ap, sym, ◌∙◌, arith}
use Rattle.std.specs.Prelude.{bytes_eq, decimal}
use Rattle.std.proofs.lemmas.Bool.{both_ways}
use Rattle.std.proofs.lemmas.List.{length-map}
use Rattle.std.proofs.lemmas.Slice.Eq.{bytes_eq-Decides}
use Rattle.sip_standard.specs.declared.asked.Asked.{Asked}
use Rattle.sip_standard.specs.declared.asked.Asked.TheVariants.{Input, Check, Show, States}
use Rattle.sip_standard.specs.Asked.{words_for}

-- two words are the first and the second one, each told by its bytes
pub two-words : {X : Type 0} (f : X → List ℕ) (words : List X) (a b : X) (first second : List ℕ) →
    2 ≤ length words → length words < 3 → a ≡ get_or words 0 a → b ≡ get_or words 1 b → first ≡ f a → second ≡ f b →
    map f words ≡ first ∷ second ∷ []
-- there are neither fewer words than two nor more
two-words f [] a b first second some few is-a is-b is-first is-second = absurd (omega arith)
two-words f (x ∷ []) a b first second some few is-a is-b is-first is-second = absurd (omega arith)
two-words f (x ∷ y ∷ []) a b first second some few is-a is-b is-first is-second =
    ap (λ word. word ∷ f y ∷ []) (sym (is-first ∙ ap f is-a)) ∙ ap (λ word. first ∷ word ∷ []) (sym (is-second ∙ ap f is-b))
two-words f (x ∷ y ∷ z ∷ rest) a b first second some few is-a is-b is-first is-second = absurd (omega arith)

-- three words are the first, the second and the third one, each told by its bytes
-- a, b and c are the words, and f gives the bytes of a word
pub three-words : {X : Type 0} (f : X → List ℕ) (words : List X) (a b c : X) (first second third : List ℕ) →
    3 ≤ length words → length words < 4 → a ≡ get_or words 0 a → b ≡ get_or words 1 b → c ≡ get_or words 2 c → first ≡ f a → second ≡ f b → third ≡ f c →
    map f words ≡ first ∷ second ∷ third ∷ []
three-words f [] a b c first second third some few is-a is-b is-c is-first is-second is-third = absurd (omega arith)
-- the first word is told by its bytes, and the two after it by `two-words`
three-words f (x ∷ words) a b c first second third some few is-a is-b is-c is-first is-second is-third =
    ap (λ word. word ∷ map f words) (sym (is-first ∙ ap f is-a)) ∙ ap (λ more. first ∷ more) (two-words f words b c second third (omega arith) (omega arith) is-b is-c is-second is-third)

-- where words are told by a list of texts, the first word is told by the first text
first-word : {X : Type 0} (f : X → List ℕ) (words : List X) (a : X) (first : List ℕ) (rest : List (List ℕ)) → a ≡ get_or words 0 a → map f words ≡ first ∷ rest → f a ≡ first
first-word f [] a first rest is same = cc
first-word f (x ∷ words) a first rest is same = ap f is ∙ (let e : f x ≡ first = cc in e)

-- words whose first one is not told by the wanted text are not told by texts that begin with it; a is the first word, and `text` its bytes
not-word : {X : Type 0} (f : X → List ℕ) (words : List X) (a : X) (text wanted : List ℕ) (rest : List (List ℕ)) → a ≡ get_or words 0 a → text ≡ f a → false ≡ bytes_eq text wanted → map f words ≡ wanted ∷ rest → ⊥
not-word f words a text wanted rest is told differ same =
    both_ways (bytes_eq text wanted) (sym differ) ((bytes_eq-Decides text wanted).1 (told ∙ first-word f words a wanted rest is same))

-- where the texts of words are other texts, there are as many words as those
as-many : {X : Type 0} (f : X → List ℕ) (words : List X) (others : List (List ℕ)) → map f words ≡ others → length words ≡ length others
as-many f words others same = sym (length-map words f) ∙ ap length same

-- one word, and more than three words, ask for nothing
-- `same` says that the words are those that would ask for `asked`; each arm is one of the four things to ask for, and has 0, 2, 2 or 3 words
pub not-long : {X : Type 0} (f : X → List ℕ) (words : List X) → 0 ≢ length words → 2 ≢ length words → 3 ≢ length words → (asked : Asked) → map f words ≡ words_for asked → ⊥
not-long f words none two three Input same = none (sym (as-many f words [] same))
not-long f words none two three (Check file) same = two (sym (as-many f words (words_for (Check file)) same))
not-long f words none two three (Show file) same = two (sym (as-many f words (words_for (Show file)) same))
not-long f words none two three (States file entry) same = three (sym (as-many f words (words_for (States file entry)) same))

-- two words ask for nothing where the first is neither `check` nor `show`
-- a and b are both the first word, which the code reads once for each of its two tests, and s and t are its bytes
-- what asks for the standard input has no words, a file to check or to show has a first word of its own, and an entry to list has three words
pub not-two : {X : Type 0} (f : X → List ℕ) (words : List X) (a b : X) (s t : List ℕ) → 2 ≤ length words → length words < 3 → a ≡ get_or words 0 a → b ≡ get_or words 0 b → s ≡ f a → t ≡ f b
    → false ≡ bytes_eq s (codes "check") → false ≡ bytes_eq t (codes "show") → (asked : Asked) → map f words ≡ words_for asked → ⊥
not-two f words a b s t some few is-a is-b told-a told-b check show Input same = let many = as-many f words [] same in omega (arith, many, some)
not-two f words a b s t some few is-a is-b told-a told-b check show (Check file) same = not-word f words a s (codes "check") (file.now ∷ []) is-a told-a check same
not-two f words a b s t some few is-a is-b told-a told-b check show (Show file) same = not-word f words b t (codes "show") (file.now ∷ []) is-b told-b show same
not-two f words a b s t some few is-a is-b told-a told-b check show (States file entry) same = let many = as-many f words (words_for (States file entry)) same in omega (arith, many, few)

-- three words ask for nothing where the first is not `states`; a is the first word, and s its bytes
-- no words and two words are fewer than three, and what lists an entry has `states` first
pub not-three : {X : Type 0} (f : X → List ℕ) (words : List X) (a : X) (s : List ℕ) → 3 ≤ length words → a ≡ get_or words 0 a → s ≡ f a → false ≡ bytes_eq s (codes "states") → (asked : Asked)
    → map f words ≡ words_for asked → ⊥
not-three f words a s some is told states Input same = let many = as-many f words [] same in omega (arith, many, some)
not-three f words a s some is told states (Check file) same = let many = as-many f words (words_for (Check file)) same in omega (arith, many, some)
not-three f words a s some is told states (Show file) same = let many = as-many f words (words_for (Show file)) same in omega (arith, many, some)
not-three f words a s some is told states (States file entry) same = not-word f words a s (codes "states") (file.now ∷ decimal entry ∷ []) is told states same
