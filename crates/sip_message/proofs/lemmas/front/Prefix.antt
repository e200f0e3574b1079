-- The longest front of bytes that pass a test, and what it leaves.
use Rattle.std.proofs.Common.{◌≡◌, ℕ, suc, ◌+◌, Bool, true, false, cond, List, [], ◌∷◌, take, drop, refl, sym, subst, inl, inr, arith}
use Rattle.std.specs.List.{prefix_len}
use Rattle.sip_standard.specs.Text.{One, Many, OneOrMore}
use Rattle.sip_text.proofs.texts.ManyLemmas.{many-nil, many-cons, some-many}
use Rattle.sip_message.proofs.lemmas.text.Cuts.{All, Stops}

-- all bytes of the longest front that passes a test pass it, and what is left begins with no byte that does
pub prefix-cut : (test : ℕ → Bool) (text : List ℕ) → All test (take (prefix_len test text) text) × Stops test (drop (prefix_len test text) text)
prefix-cut test [] = (tt, tt)
prefix-cut test (b ∷ text) = at (prefix-cut test text) (test b) refl
  where
    -- the claim holds whether or not b passes the test
    at : All test (take (prefix_len test text) text) × Stops test (drop (prefix_len test text) text) → (x : Bool) → test b ≡ x → All test (take (cond x (1 + prefix_len test text) 0) (b ∷ text)) × Stops test (drop (cond x (1 + prefix_len test text) 0) (b ∷ text))
    -- b does not pass, so the front is empty
    at more false is = (tt, is)
    -- b passes, so it is the first of the front
    at more true is =
        let next : 1 + prefix_len test text ≡ suc (prefix_len test text) = omega arith in
        subst (λ n. All test (take n (b ∷ text)) × Stops test (drop n (b ∷ text))) (sym next) ((is, more.0), more.1)

-- the first n bytes of a text, where n is the length of its longest front that passes, pass, and what is left begins with no byte that does
pub prefix-at : (test : ℕ → Bool) (text : List ℕ) (n : ℕ) → n ≡ prefix_len test text → All test (take n text) × Stops test (drop n text)
prefix-at test text n is = subst (λ m. All test (take m text) × Stops test (drop m text)) (sym is) (prefix-cut test text)

-- bytes that all pass a test are a run of bytes that pass it
pub all-run : (test : ℕ → Bool) (u : List ℕ) → All test u → Many (One test) u
all-run test [] all = many-nil (One test)
all-run test (b ∷ u) all = many-cons (One test) (b ∷ []) u (b, all.0, refl) (all-run test u all.1)

-- bytes that all pass a test are, where there is one, one or more bytes that pass it
pub all-some : (test : ℕ → Bool) (u : List ℕ) → All test u → (u ≡ [] → ⊥) → OneOrMore (One test) u
all-some test u all some = elim (some-many (One test) u (all-run test u all)) [
  -- there is a byte, so there is one that passes
  | inl none ↦ absurd (some none)
  | inr many ↦ many
]
