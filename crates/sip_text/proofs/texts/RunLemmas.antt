-- Runs of bytes of one class: the longest front that passes a test.
-- In the lemmas us are pieces and v what follows them; n, m, k and l are lengths of fronts, and r and s, as Bools, what two tests say.
use Rattle.std.proofs.Common.{◌≡◌, ℕ, ◌+◌, ◌≤◌, ◌⊎◌, Bool, true, false, List, [], ◌∷◌, ◌++◌, length, cond, nat_eq, refl, sym, ap, ◌∙◌, inl, inr, arith}
use Rattle.std.specs.List.{AllByRecursion, concat, prefix_len, list_all}
use Rattle.std.proofs.lemmas.Bool.{and_from, and_parts, eq-eqb, eqb-true}
use Rattle.std.proofs.lemmas.List.{append-nil}
use Rattle.std.proofs.lemmas.List.Sums.{prefix_len-le-length}
use Rattle.sip_standard.specs.Text.{One, Many, OneOrMore}
use Rattle.sip_text.specs.Front.{HasFront, IsLongestFront}
use Rattle.sip_text.proofs.texts.ManyLemmas.{many-cons, many-nil, many-some, front-whole}

-- all bytes of a run of bytes of the class pass the test
pub run-list_all : (test : ℕ → Bool) (text : List ℕ) → Many (One test) text → list_all test text ≡ true
run-list_all test text many = ap (list_all test) many.2 ∙ go many.0 many.1
  where
    -- texts of one byte each that passes the test make a text whose bytes pass
    go : (us : List (List ℕ)) → AllByRecursion (One test) us → list_all test (concat us) ≡ true
    go [] all = refl
    go (u ∷ us) all =
        ap (λ t. list_all test (t ++ concat us)) all.0.2 ∙ and_from _ _ all.0.1 (go us all.1)

-- a text all bytes of which pass the test is a run of bytes of the class
pub list_all-run : (test : ℕ → Bool) (text : List ℕ) → list_all test text ≡ true → Many (One test) text
list_all-run test [] all = many-nil (One test)
list_all-run test (b ∷ text) all =
    let parts = and_parts (test b) (list_all test text) all in
    many-cons (One test) (b ∷ []) text (b, parts.0, refl) (list_all-run test text parts.1)

-- the first `prefix_len` bytes of a text are a run of bytes of the class
pub run-front : (test : ℕ → Bool) (text : List ℕ) → HasFront (Many (One test)) text (prefix_len test text)
run-front test [] = ([], [], many-nil (One test), refl, refl)
run-front test (b ∷ text) = at (run-front test text) (test b) refl
  where
    -- the claim holds whether or not the first byte passes the test
    at : HasFront (Many (One test)) text (prefix_len test text) → (passes : Bool) → test b ≡ passes → HasFront (Many (One test)) (b ∷ text) (cond passes (1 + prefix_len test text) 0)
    -- the first byte passes, so it begins the run; or it fails, and there is no run
    at rest true is = (
      b ∷ rest.0,
      rest.1,
      many-cons (One test) (b ∷ []) rest.0 (b, is, refl) rest.2,
      ap (λ t. b ∷ t) rest.3,
      omega (arith, rest.4),
    )
    -- the first byte fails, and the run has no byte
    at rest false is = ([], b ∷ text, many-nil (One test), refl, refl)

-- no run of bytes of the class at the front of a text is longer than `prefix_len`
pub run-longest : (test : ℕ → Bool) (text : List ℕ) (n : ℕ) → HasFront (Many (One test)) text n → n ≤ prefix_len test text
run-longest test text n front =
    let same : prefix_len test text ≡ prefix_len test (concat front.2.0 ++ front.1) =
    ap (prefix_len test) (front.3 ∙ ap (λ t. t ++ front.1) front.2.2) in
    omega (arith, same, go front.2.0 front.1 front.2.1, front.4, ap length front.2.2)
  where
    -- a run is no longer than `prefix_len` says, since each of its bytes passes and is counted
    go : (us : List (List ℕ)) (v : List ℕ) → AllByRecursion (One test) us → length (concat us) ≤ prefix_len test (concat us ++ v)
    go [] v all = omega arith
    go (u ∷ us) v all =
        let first : prefix_len test ((u ++ concat us) ++ v) ≡ 1 + prefix_len test (concat us ++ v) =
        ap (λ t. prefix_len test ((t ++ concat us) ++ v)) all.0.2
        ∙ ap (λ passes. cond passes (1 + prefix_len test (concat us ++ v)) 0) all.0.1 in
        omega (arith, first, go us v all.1, ap (λ t. length (t ++ concat us)) all.0.2)

-- the longest front of a text that is one or more bytes of the class has the length `prefix_len`, and there is none where that is 0
pub longest-run : (test : ℕ → Bool) (text : List ℕ) → IsLongestFront (OneOrMore (One test)) text (prefix_len test text)
longest-run test text = record {
  front = front text;
  longest = λ m other. run-longest test text m (other.0, other.1, many-some (One test) other.0 other.2, other.3, other.4);
}
  -- the first byte passes and begins the run, or there is none
  where
    -- the longest run at the front of a text has `prefix_len` bytes, or this is 0
    front : (xs : List ℕ) → (prefix_len test xs ≡ 0) ⊎ HasFront (OneOrMore (One test)) xs (prefix_len test xs)
    front [] = inl refl
    front (b ∷ xs) = at (test b) refl
      where
        -- the run of the bytes after the first one
        rest : HasFront (Many (One test)) xs (prefix_len test xs)
        rest = run-front test xs

        -- the claim holds whether or not the first byte passes the test
        at : (passes : Bool) → test b ≡ passes → (cond passes (1 + prefix_len test xs) 0 ≡ 0) ⊎ HasFront (OneOrMore (One test)) (b ∷ xs) (cond passes (1 + prefix_len test xs) 0)
        -- the first byte passes, and begins the run
        at true is = inr (
          b ∷ rest.0,
          rest.1,
          (b ∷ [], rest.0, (b, is, refl), rest.2, refl),
          ap (λ t. b ∷ t) rest.3,
          omega (arith, rest.4),
        )
        -- the first byte fails, and the run has no byte
        at false is = inl refl

-- two longest fronts of one text are equally long
pub longest-same : (P : List ℕ → Type 0) (text : List ℕ) (n m : ℕ) → IsLongestFront P text n → IsLongestFront P text m → n ≡ m
longest-same P text n m one other = omega (arith, within n m one.front other, within m n other.front one)
  where
    -- one longest front is not longer than another
    within : (k l : ℕ) → (k ≡ 0) ⊎ HasFront P text k → IsLongestFront P text l → k ≤ l
    within k l (inl none) longest = omega (arith, none)
    within k l (inr front) longest = longest.longest k front

-- the longest run is the whole text exactly if the text passes the test throughout
pub run-whole : (test : ℕ → Bool) (text : List ℕ) (n : ℕ) → n ≡ prefix_len test text → nat_eq n (length text) ≡ list_all test text
run-whole test text n is = agree (nat_eq n (length text)) (list_all test text)
    (λ whole. run-list_all test text (front-whole (Many (One test)) text (prefix_len test text) (run-front test text) (sym is ∙ eqb-true n (length text) whole)))
    (λ all.
    let front : HasFront (Many (One test)) text (length text) = (text, [], list_all-run test text all, sym (append-nil text), refl) in
    eq-eqb n (length text) (omega (arith, is, run-longest test text (length text) front, prefix_len-le-length test text)))
  where
    -- two tests of which each passes where the other does are the same
    agree : (r s : Bool) → (r ≡ true → s ≡ true) → (s ≡ true → r ≡ true) → r ≡ s
    agree true s there back = sym (there refl)
    agree false false there back = refl
    agree false true there back = back refl
