-- Lemmas of a list that is cut at the first place where a byte stands.
use Rattle.std.proofs.Common.{◌≡◌, ◌≢◌, ◌⊎◌, inl, inr, Option, unwrap_or, subst, ℕ, zero, suc, ◌+◌, ◌<◌, ◌≤◌, List, [], ◌∷◌, ◌++◌, length, take, drop, get_or, Some, None, true, not, ◌==◌, refl, sym, ap, ◌∙◌, arith, drop-cons, add-one, append_assoc}
use Rattle.std.proofs.lemmas.List.{take-append-drop, get_or-take, length-take, length-append, append-nil, append_cancel_left}
use Rattle.std.proofs.Math.Seq.{get_or-append_seam, take-length, drop-length}
use borrow.Author.Tests.{eq-eqb, eqb-true}
use Rattle.std.specs.List.{list_all}
use Rattle.std.proofs.lemmas.Bool.{and_parts}
use mathlib.Core.Bool.{true≢false}
use Rattle.memchr.specs.Find.{IsFirstByte, is_byte}

-- the byte m is nowhere in xs
pub record Lacks (m : ℕ) (xs : List ℕ) : Type 0 where
  pub nowhere : (k : ℕ) → k < length xs → get_or xs k 0 ≢ m

-- the list is empty, or begins with m
abbrev pub Begins : ℕ → List ℕ → Type 0
Begins m xs = (xs ≡ []) ⊎ ((more : List ℕ) × (xs ≡ m ∷ more))

-- xs is front, then the first m of it, and then back
pub record Cut (m : ℕ) (xs front back : List ℕ) : Type 0 where
  pub whole : xs ≡ front ++ m ∷ back
  pub first : Lacks m front

-- where a text lacks a byte, its rest lacks the byte
Lacks-tail : (m x : ℕ) (xs : List ℕ) → Lacks m (x ∷ xs) → Lacks m xs
Lacks-tail m x xs lacks = record { nowhere = λ k inside. lacks.nowhere (suc k) (omega arith) }

-- where m is neither an element nor in the list after it, it is not in both together
pub Lacks-cons : (m x : ℕ) (xs : List ℕ) → x ≢ m → Lacks m xs → Lacks m (x ∷ xs)
Lacks-cons m x xs other lacks = record { nowhere = at }
  where
    -- neither the first element nor one after it is m
    at : (k : ℕ) → k < length (x ∷ xs) → get_or (x ∷ xs) k 0 ≢ m
    at zero inside = other
    at (suc k) inside = lacks.nowhere k (omega arith)

-- where m is in neither of two lists, it is not in the one list that they make
pub Lacks-append : (m : ℕ) (xs ys : List ℕ) → Lacks m xs → Lacks m ys → Lacks m (xs ++ ys)
Lacks-append m [] ys first second = second
Lacks-append m (x ∷ xs) ys first second =
    Lacks-cons m x (xs ++ ys) (first.nowhere 0 (omega arith)) (Lacks-append m xs ys (Lacks-tail m x xs first) second)

-- where a test that computes finds each element of a list to be other than m, m is nowhere in the list
pub Lacks-word : (m : ℕ) (xs : List ℕ) → list_all (λ x. not (x == m)) xs ≡ true → Lacks m xs
Lacks-word m [] pass = record { nowhere = λ k inside. absurd (omega arith) }
Lacks-word m (x ∷ xs) pass =
    let parts = and_parts (not (x == m)) _ pass in
    Lacks-cons m x xs (λ same. true≢false (sym parts.0 ∙ ap not (eq-eqb x m same))) (Lacks-word m xs parts.1)

-- a list is cut at its first m in one way only
pub cut-one : (m : ℕ) (front back front2 back2 : List ℕ) → Lacks m front → Lacks m front2
    → front ++ m ∷ back ≡ front2 ++ m ∷ back2 → (front ≡ front2) × (back ≡ back2)
-- where the one front is empty, m comes first, and so the other is empty
cut-one m [] back [] back2 lacks lacks2 same = (refl, cc)
cut-one m [] back (y ∷ ys) back2 lacks lacks2 same = absurd (lacks2.nowhere 0 (omega arith) (cc))
cut-one m (x ∷ xs) back [] back2 lacks lacks2 same = absurd (lacks.nowhere 0 (omega arith) (cc))
-- x and y are the first bytes, which are the same
cut-one m (x ∷ xs) back (y ∷ ys) back2 lacks lacks2 same =
    let head : x ≡ y = cc in
    let tail : xs ++ m ∷ back ≡ ys ++ m ∷ back2 = cc in
    let rest = cut-one m xs back ys back2 (Lacks-tail m x xs lacks) (Lacks-tail m y ys lacks2) tail in
    (cc, rest.1)

-- where a search finds the first m at the place k, the list is cut there
pub first-cut : (m : ℕ) (xs : List ℕ) (k : ℕ) → IsFirstByte (is_byte m) xs (Some k) → Cut m xs (take k xs) (drop (k + 1) xs)
first-cut m xs k (before, here) =
    let inside : k < length xs = before.high in
    let byte : get_or xs k 0 ≡ m = eqb-true _ m here in
    let parts : drop k xs ≡ m ∷ drop (k + 1) xs = drop-cons xs k 0 inside ∙ ap (λ x. x ∷ drop (suc k) xs) byte ∙ ap (λ (n : ℕ). m ∷ drop n xs) (sym (add-one k)) in
    -- the list is what stands before, m and the rest, and m stands nowhere before
    record {
      whole = sym (take-append-drop k xs) ∙ ap (λ (t : List ℕ). take k xs ++ t) parts;
      first = record {
        nowhere = λ j short same.
            let low : j < k = omega (arith, length-take k xs) in
            before.before j (omega arith) low (eq-eqb _ m (sym (get_or-take k xs j 0 low) ∙ same));
      };
    }

-- where a search finds no m, m is nowhere in the list
pub first-none : (m : ℕ) (xs : List ℕ) → IsFirstByte (is_byte m) xs None → Lacks m xs
first-none m xs none = record { nowhere = λ j inside e. none j (omega arith) inside (eq-eqb _ m e) }

-- a list in which m is nowhere is not made of a front, m and a back
pub Lacks-cut : (m : ℕ) (xs front back : List ℕ) → Lacks m xs → xs ≢ front ++ m ∷ back
Lacks-cut m xs front back lacks whole =
    let len = ap length whole ∙ length-append front (m ∷ back) in
    lacks.nowhere (length front) (omega (arith, len)) (ap (λ (t : List ℕ). get_or t (length front) 0) whole ∙ get_or-append_seam front m back 0)

-- a list of at least two elements is its first two and the rest
pub two-front : (xs : List ℕ) → 2 ≤ length xs → xs ≡ get_or xs 0 0 ∷ get_or xs 1 0 ∷ drop 2 xs
two-front [] long = absurd (omega arith)
two-front (x ∷ []) long = absurd (omega arith)
two-front (x ∷ y ∷ xs) long = refl

-- a list is the part before a place, the element there, and the part after it
pub cut-at : (xs : List ℕ) (k : ℕ) → k < length xs → xs ≡ take k xs ++ get_or xs k 0 ∷ drop (k + 1) xs
cut-at xs k inside =
    sym (take-append-drop k xs) ∙ ap (λ (t : List ℕ). take k xs ++ t) (drop-cons xs k 0 inside ∙ ap (λ (n : ℕ). get_or xs k 0 ∷ drop n xs) (sym (add-one k)))

-- where a list is front, m and back, the list with more after it is front, m, and back with more after it
pub cut-more : (front back : List ℕ) (m : ℕ) (xs ys : List ℕ) → xs ≡ front ++ m ∷ back → xs ++ ys ≡ front ++ m ∷ (back ++ ys)
cut-more front back m xs ys whole = ap (λ (t : List ℕ). t ++ ys) whole ∙ append_assoc front (m ∷ back) ys

-- the first m among the first bytes of a list is the first one of the list
pub first-of-front : (m most : ℕ) (xs : List ℕ) (k : ℕ) → IsFirstByte (is_byte m) (take most xs) (Some k) → IsFirstByte (is_byte m) xs (Some k)
first-of-front m most xs k (before, here) =
    let inside : k < length (take most xs) = before.high in
    let len = length-take most xs in
    -- each place of the front has the element of the whole list
    let at : (j : ℕ) → j < k + 1 → get_or (take most xs) j 0 ≡ get_or xs j 0 = λ j low. get_or-take most xs j 0 (omega arith) in (
      record {
        low = before.low;
        high = omega arith;
        before = λ j low under same. before.before j low under (ap (is_byte m) (at j (omega arith)) ∙ same);
      },
      ap (is_byte m) (sym (at k (omega arith))) ∙ here,
    )

-- a list has only one part before its first m, or its end, and only one rest from there on
pub part-one : (m : ℕ) (front back front2 back2 : List ℕ) → Lacks m front → Lacks m front2 → Begins m back → Begins m back2
    → front ++ back ≡ front2 ++ back2 → (front ≡ front2) × (back ≡ back2)
-- after neither part an m follows, so both are the whole list
part-one m front back front2 back2 lacks lacks2 (inl none) (inl none2) same =
    (sym (append-nil front) ∙ ap (λ (t : List ℕ). front ++ t) (sym none) ∙ same ∙ ap (λ (t : List ℕ). front2 ++ t) none2 ∙ append-nil front2, none ∙ sym none2)
-- only one of the two parts goes on to an m: this cannot be, since the other part would have that m too
part-one m front back front2 back2 lacks lacks2 (inl none) (inr more2) same =
    absurd (Lacks-cut m front front2 more2.0 lacks
    (sym (append-nil front) ∙ ap (λ (t : List ℕ). front ++ t) (sym none) ∙ same ∙ ap (λ (t : List ℕ). front2 ++ t) more2.1))
part-one m front back front2 back2 lacks lacks2 (inr more) (inl none2) same =
    absurd (Lacks-cut m front2 front more.0 lacks2
    (sym (append-nil front2) ∙ ap (λ (t : List ℕ). front2 ++ t) (sym none2) ∙ sym same ∙ ap (λ (t : List ℕ). front ++ t) more.1))
-- both go on to their first m, which is the same one
part-one m front back front2 back2 lacks lacks2 (inr more) (inr more2) same =
    let cut = cut-one m front more.0 front2 more2.0 lacks lacks2
    (ap (λ (t : List ℕ). front ++ t) (sym more.1) ∙ same ∙ ap (λ (t : List ℕ). front2 ++ t) more2.1) in
    (cut.0, more.1 ∙ ap (λ (t : List ℕ). m ∷ t) cut.1 ∙ sym more2.1)

-- the part before the first m that a search finds, or the whole list where it finds none, has no m
pub part-found : (m : ℕ) (xs : List ℕ) (r : Option ℕ) → IsFirstByte (is_byte m) xs r
    → Lacks m (take (unwrap_or r (length xs)) xs) × Begins m (drop (unwrap_or r (length xs)) xs)
part-found m xs None none =
    (subst (Lacks m) (sym (take-length xs)) (first-none m xs none), inl (drop-length xs))
part-found m xs (Some k) found =
    let at = first-cut m xs k found in
    (at.first, inr (drop (k + 1) xs, drop-from at))
  where
    -- from k on stand the m and what follows it
    drop-from : Cut m xs (take k xs) (drop (k + 1) xs) → drop k xs ≡ m ∷ drop (k + 1) xs
    drop-from at = append_cancel_left (take k xs) _ _ (take-append-drop k xs ∙ at.whole)
