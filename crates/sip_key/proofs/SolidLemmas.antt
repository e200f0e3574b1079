-- Iterators over bytes that are compared.
use Rattle.std.specs.Prelude.{◌≡◌, ◌↔◌, ◌==◌, ℕ, Bool, true, false, IsTrue, List, [], ◌∷◌, ◌++◌, Option, None, Some, MatchOption, IfSome, refl}
use Rattle.std.specs.List.{AllZip}
use Rattle.std.specs.Iterator.{YieldsFirst, Yields, ComparesItemsByEq}
use Rattle.std.proofs.Common.{sym, ◌∙◌, ap, ap₂}
use Rattle.std.proofs.lemmas.Bool.{eqb-true, eqb-false}

-- what a step of an iterator yields, the iterator being seen as the list of its items
abbrev Steps : List ℕ → Option ℕ → List ℕ → Type 0
Steps = YieldsFirst (λ it. it)

-- what an iterator yielded stood before what it has left
yielded : (s t xs : List ℕ) → Yields Steps s xs t → s ≡ xs ++ t
yielded s t [] e = e
yielded s t (x ∷ xs) e = e.1 ∙ ap (λ r. x ∷ r) (yielded e.0 t xs e.2)

-- lists that begin with equal items are the same exactly if their rests are; P is what tells whether the rests are the same
-- xs and ys are the equal items, and t and w the rests
same-behind : (P : Type 0) (xs ys t w : List ℕ) → AllZip (λ x y. (x == y) ≡ true) xs ys → (P ↔ (t ≡ w)) → P ↔ (xs ++ t ≡ ys ++ w)
-- one list cannot end before the other; where both go on, the equal items are the same
same-behind P [] [] t w z h = h
same-behind P [] (y ∷ ys) t w z h = absurd z
same-behind P (x ∷ xs) [] t w z h = absurd z
same-behind P (x ∷ xs) (y ∷ ys) t w z h =
    let more = same-behind P xs ys t w z.1 h in
    (λ p. ap₂ ◌∷◌ (eqb-true x y z.0) (more.0 p), λ e. more.1 (let tail : xs ++ t ≡ ys ++ w = cc in tail))

-- an empty text has no first byte
not-cons : (x : ℕ) (xs t : List ℕ) → t ≡ [] → t ≡ x ∷ xs → ⊥
not-cons x xs t e f = let both : [] ≡ x ∷ xs = sym e ∙ f in cc

-- false is not true
no : false ≡ true → ⊥
no e = cc

-- where two iterators stopped at their first difference or at their ends, the answer tells whether what they had left was the same
-- t and w are the rests, o and p what the next steps yielded of them, and u and v what these steps left
last-same : (r : Bool) (o p : Option ℕ) (t u w v : List ℕ) → Steps t o u → Steps w p v
    → MatchOption o (MatchOption p (r ≡ true) (λ _. r ≡ false)) (λ x. (r ≡ false) × IfSome p (λ y. (x == y) ≡ false)) → IsTrue r ↔ (t ≡ w)
-- where both end, both rests are empty; where one alone ends, or two different items come, the rests are not the same; h forbids each other answer r
last-same true None None t u w v a b h = (λ _. a.0 ∙ sym b.0, λ _. refl)
last-same false None None t u w v a b h = cc
last-same true None (Some y) t u w v a b h = cc
last-same false None (Some y) t u w v a b h = (λ never. absurd (no never), λ e. absurd (not-cons y v t a.0 (e ∙ b)))
-- one of the two iterators ended and the other did not, or both gave bytes that differ: the answer is false, and the rests differ
last-same true (Some x) None t u w v a b h = cc
last-same false (Some x) None t u w v a b h = (λ never. absurd (no never), λ e. absurd (not-cons x u w b.0 (sym e ∙ a)))
last-same true (Some x) (Some y) t u w v a b h = let none : true ≡ false = h.0 in cc
last-same false (Some x) (Some y) t u w v a b h =
    (λ never. absurd (no never), λ e. let both : x ∷ u ≡ y ∷ v = sym a ∙ e ∙ b in let same : x ≡ y = cc in absurd (eqb-false x y h.1 same))

-- the comparison of two iterators by their items answers whether the lists of their items are the same
-- r is the answer, and xs and ys are what the two iterators have left
pub same-items : (r : Bool) (xs ys : List ℕ) → ComparesItemsByEq Steps (λ (other it : List ℕ). it ≡ other) Steps xs ys (λ x y. x == y) r → IsTrue r ↔ (xs ≡ ys)
-- the comparison has walked over the items cs and bs, with t and w left of the two lists; o and p are the last items that it asked for, and u and v what was
-- left then
same-items r xs ys (it, cs, bs, o, p, u, v, is, (t, a, end), (w, b, last), zip, h) =
    let same = same-behind (IsTrue r) cs bs t w zip (last-same r o p t u w v end last h) in
    let one = yielded xs t cs a in
    let other = sym is ∙ yielded it w bs b in
    (λ true_is. one ∙ same.0 true_is ∙ sym other, λ e. same.1 (sym one ∙ e ∙ other))
