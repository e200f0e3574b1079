-- A text cut in two, in two ways.
-- In the lemmas u and v are the two parts of a text by the one cut, and x and y those by the other; z is what is left of the longer first part after b.
use Rattle.std.proofs.Common.{◌≡◌, ℕ, Bool, true, false, List, [], ◌∷◌, ◌++◌, length, refl, sym, ap, ◌∙◌, subst, arith}
use Rattle.std.specs.Prelude.{⊤}
use Rattle.std.specs.List.{AllByRecursion}
use Rattle.std.proofs.lemmas.List.{length-append}
use Rattle.std.proofs.lemmas.Bool.{both_ways}
use Rattle.sip_text.proofs.texts.ManyLemmas.{append_cancel_both}

-- of the fronts u and x of one text, the one is the other, or begins it
pub data Cuts (u v x y : List ℕ) : Type 0 where
  first_longer : (b : ℕ) (z : List ℕ) → u ≡ x ++ b ∷ z → y ≡ b ∷ z ++ v → Cuts u v x y
  same_length : u ≡ x → v ≡ y → Cuts u v x y
  second_longer : (b : ℕ) (z : List ℕ) → x ≡ u ++ b ∷ z → v ≡ b ∷ z ++ y → Cuts u v x y

-- where u and v make the same text as x and y, the one front is the other, or begins it
pub two_cuts : (u v x y : List ℕ) → u ++ v ≡ x ++ y → Cuts u v x y
two_cuts [] v [] y same = same_length refl same
two_cuts [] v (a ∷ x) y same = second_longer a x refl same
two_cuts (a ∷ u) v [] y same = first_longer a u refl (sym same)
-- both have a first byte, which is the same
two_cuts (a ∷ u) v (b ∷ x) y same = more (two_cuts u v x y tails)
  where
    -- the first bytes are equal
    heads : a ≡ b
    heads = cc

    -- what follows the first bytes is equal
    tails : u ++ v ≡ x ++ y
    tails = cc

    -- one more byte before both fronts leaves them as they are to each other
    more : Cuts u v x y → Cuts (a ∷ u) v (b ∷ x) y
    more (first_longer c z longer is) = first_longer c z (ap (λ t. t ∷ u) heads ∙ ap (λ t. b ∷ t) longer) is
    more (same_length left right) = same_length (ap (λ t. t ∷ u) heads ∙ ap (λ t. b ∷ t) left) right
    more (second_longer c z longer is) = second_longer c z (ap (λ t. t ∷ x) (sym heads) ∙ ap (λ t. a ∷ t) longer) is

-- the text does not begin with a byte that passes the test
abbrev pub Stops : (ℕ → Bool) → List ℕ → Type 0
Stops test [] = ⊤
Stops test (b ∷ text) = test b ≡ false

-- each byte of the text passes the test
abbrev pub All : (ℕ → Bool) → List ℕ → Type 0
All test text = AllByRecursion (λ b. test b ≡ true) text

-- where all bytes of two texts in a row pass the test, those of the first do
pub all_left : (test : ℕ → Bool) (u v : List ℕ) → All test (u ++ v) → All test u
-- of no bytes nothing is asked
all_left test [] v all = tt
all_left test (b ∷ u) v all = (all.0, all_left test u v all.1)

-- where all bytes of two texts in a row pass the test, those of the second do
pub all_right : (test : ℕ → Bool) (u v : List ℕ) → All test (u ++ v) → All test v
-- all bytes stand in the second text
all_right test [] v all = all
all_right test (b ∷ u) v all = all_right test u v all.1

-- where the bytes of both texts pass the test, those of the whole do
pub all_both : (test : ℕ → Bool) (u v : List ℕ) → All test u → All test v → All test (u ++ v)
all_both test [] v left right = right
all_both test (b ∷ u) v left right = (left.0, all_both test u v left.1 right)

-- a text has one longest front of bytes that pass
-- u and x are this front, and v and y what is left, by two cuts of the text
pub same_front : (test : ℕ → Bool) (u v x y : List ℕ) → All test u → All test x → Stops test v → Stops test y → u ++ v ≡ x ++ y → (u ≡ x) × (v ≡ y)
same_front test u v x y us xs v_stops y_stops same = at (two_cuts u v x y same)
  where
    -- neither front is longer, since the next byte would pass and fail the test
    at : Cuts u v x y → (u ≡ x) × (v ≡ y)
    at (same_length left right) = (left, right)
    at (first_longer b z longer is) =
        absurd (both_ways (test b) (subst (Stops test) is y_stops) (all_right test x (b ∷ z) (subst (All test) longer us)).0)
    at (second_longer b z longer is) =
        absurd (both_ways (test b) (subst (Stops test) is v_stops) (all_right test u (b ∷ z) (subst (All test) longer xs)).0)

-- where u and v make the same text as x and y, and v is as long as y, u is x and v is y
pub same_by_end : (u v x y : List ℕ) → length v ≡ length y → u ++ v ≡ x ++ y → (u ≡ x) × (v ≡ y)
same_by_end u v x y lens same =
    -- the texts are of one length, so the first parts are, too
    append_cancel_both u v x y (omega (arith, ap length same, length-append u v, length-append x y, lens)) same
