-- Rising numbers and a part of them: where both have as many between two bounds, they are the same there.
-- In the lemmas n is the first of some rising numbers and ns are the others; m is a number that is looked for, or the first of the part, whose others are ms.
-- `count_by p xs` is how many elements pass; `IsPartitionPoint P Q xs i` says that P holds of those before i and Q of those from i on;
-- `IsNonDecreasingBy f xs` that what f gives never falls.
use Prim.Native.Nat.{zero, suc}
use Rattle.std.specs.Prelude.{◌≡◌, ◌≢◌, ◌<◌, ◌≤◌, ◌+◌, ◌-◌, ◌&&◌, ℕ, Bool, true, false, List, [], ◌∷◌, AllPairs, Contains, length, map, nat_le, nat_lt}
use Rattle.std.specs.List.{count_by}
use Rattle.std.specs.List.Sorted.{IsNonDecreasingBy, IsPartitionPoint}
use Rattle.std.proofs.Common.{inl, inr, refl, sym, ◌∙◌, ap, ap₂, subst, arith, cond, get_or}
use Rattle.std.proofs.lemmas.Bool.{cases_lt}
use Rattle.std.proofs.lemmas.Bool.Decides.{eqb_tells, nat_tests}
use Rattle.std.proofs.lemmas.List.{get_or-map, length-map}
use Rattle.std.proofs.lemmas.List.Elements.{Contains-append_right}
use Rattle.std.proofs.lemmas.List.Sums.{sum_by-cons, get_or-le-sum_by}
use Rattle.sip_machine.specs.inner.Tos.{count_between}
use Rattle.sip_machine.proofs.texts.TextLaws.{Contains-nil, Contains-cons_cases}

-- where the values that f gives rise along a list, they never fall
pub rises_weakly : {X : Type 0} (f : X → ℕ) (xs : List X) → AllPairs (λ a b. f a < f b) xs → IsNonDecreasingBy f xs
rises_weakly f xs up = grind (arith, nat_tests, cases_lt)

-- where the values of a mapped list rise, those of the list rise
pub AllPairs-of_map : {X Y : Type 0} (f : X → Y) (g : Y → ℕ) (xs : List X) → AllPairs (λ a b. g a < g b) (map f xs) → AllPairs (λ a b. g (f a) < g (f b)) xs
AllPairs-of_map f g xs up = λ i j d lt low.
    let high : j < length (map f xs) = rw length-map low in
    let less : g (get_or (map f xs) i (f d)) < g (get_or (map f xs) j (f d)) = up i j (f d) lt high in
    rw (get_or-map f xs i d (f d) (omega (arith, lt, low)), get_or-map f xs j d (f d) low) at less

-- to map twice is to map by both functions at once
pub map-map : {X Y : Type 0} (f : X → Y) (g : Y → ℕ) (xs : List X) → map g (map f xs) ≡ map (λ x. g (f x)) xs
map-map f g [] = refl
map-map f g (x ∷ xs) = ap (λ ns. g (f x) ∷ ns) (map-map f g xs)

-- of x and others, those that pass are one more where x passes, and else as many as of the others
count-cons : {X : Type 0} (p : X → Bool) (x : X) (xs : List X) → count_by p (x ∷ xs) ≡ cond (p x) 1 0 + count_by p xs
count-cons p x xs = sum_by-cons (λ x. cond (p x) 1 0) x xs

-- where the elements that pass stand first in a list, as many pass as stand before the first that does not
pub count-parted : {X : Type 0} (p : X → Bool) (xs : List X) (i : ℕ) → i ≤ length xs → IsPartitionPoint (λ x. p x ≡ true) (λ x. p x ≡ false) xs i → count_by p xs ≡ i
count-parted p [] i low parts = omega (arith, low)
-- the first element does not pass, and so none of the others does
count-parted p (x ∷ xs) zero low parts =
    let here : p x ≡ false = parts.1 0 x (omega arith) (omega arith) in
    let rest = count-parted p xs zero (omega arith) (λ k d le lt. absurd (omega (arith, lt)), λ k d le lt. parts.1 (suc k) d (omega arith) (omega (arith, lt))) in
    count-cons p x xs ∙ ap₂ (λ b n. cond b 1 0 + n) here rest
-- the first element passes, and so do i of the others
count-parted p (x ∷ xs) (suc i) low parts =
    let here : p x ≡ true = parts.0 0 x (omega arith) (omega arith) in
    let rest = count-parted p xs i (omega (arith, low)) (λ k d le lt. parts.0 (suc k) d (omega arith) (omega (arith, lt)), λ k d le lt. parts.1 (suc k) d (omega (arith, le)) (omega (arith, lt))) in
    let next : 1 + i ≡ suc i = omega arith in
    count-cons p x xs ∙ ap₂ (λ b n. cond b 1 0 + n) here rest ∙ next

-- as many elements have a number that passes as there are numbers that pass
count-map : {X : Type 0} (f : X → ℕ) (p : ℕ → Bool) (xs : List X) → count_by p (map f xs) ≡ count_by (λ x. p (f x)) xs
count-map f p [] = refl
count-map f p (x ∷ xs) = count-cons p (f x) (map f xs) ∙ ap (λ n. cond (p (f x)) 1 0 + n) (count-map f p xs) ∙ sym (count-cons (λ x. p (f x)) x xs)

-- from the place where numbers reach `low` to the place where they pass `high` there are as many elements as have numbers between the two
pub count_between-parted : {X : Type 0} (f : X → ℕ) (xs : List X) (low high from to : ℕ) → from ≤ length xs → to ≤ length xs →
    IsPartitionPoint (λ x. nat_lt (f x) low ≡ true) (λ x. nat_lt (f x) low ≡ false) xs from → IsPartitionPoint (λ x. nat_le (f x) high ≡ true) (λ x. nat_le (f x) high ≡ false) xs to →
    to - from ≡ count_between low high (map f xs)
count_between-parted f xs low high from to within within' parts parts' =
    -- `to` elements have numbers up to high, and `from` of them have numbers below low
    sym (ap₂ (λ n m. n - m)
    (count-map f (λ n. nat_le n high) xs ∙ count-parted (λ x. nat_le (f x) high) xs to within' parts')
    (count-map f (λ n. nat_lt n low) xs ∙ count-parted (λ x. nat_lt (f x) low) xs from within parts))

-- the number is from low up to high
abbrev pub between : ℕ → ℕ → ℕ → Bool
between low high n = nat_le low n && nat_le n high

-- 1 where a test is true, and else 0
abbrev one_of : Bool → ℕ
one_of b = cond b 1 0

-- how many of the numbers are from low up to high
abbrev pub many : ℕ → ℕ → List ℕ → ℕ
many low high ns = count_by (between low high) ns

-- one number counts among those up to high where it is from low up to high, or below low
one-is : (low high n : ℕ) → low ≤ high → cond (between low high n) 1 0 + cond (nat_lt n low) 1 0 ≡ cond (nat_le n high) 1 0
one-is low high n le = grind (arith, nat_tests)

-- the numbers from low up to high, and those below low, are those up to high
many-is : (low high : ℕ) (ns : List ℕ) → low ≤ high → many low high ns + count_by (λ n. nat_lt n low) ns ≡ count_by (λ n. nat_le n high) ns
many-is low high [] le = refl
many-is low high (n ∷ ns) le =
    -- the first number is counted alike on both sides, the others are by the lemma itself, and each of the three counts is that of n and of the others
    let one = one-is low high n le in
    let rest = many-is low high ns le in
    let a = count-cons (between low high) n ns in
    let b = count-cons (λ n. nat_lt n low) n ns in
    let e = count-cons (λ n. nat_le n high) n ns in
    omega (arith, one, rest, a, b, e)

-- those up to high without those below low are the numbers from low up to high
pub count_between-is : (low high : ℕ) (ns : List ℕ) → low ≤ high → count_between low high ns ≡ many low high ns
count_between-is low high ns le =
    let all = many-is low high ns le in
    omega (arith, all)

-- where one of the numbers is from low up to high, there are some
many-some : (low high : ℕ) (ns : List ℕ) (n : ℕ) → Contains ns n → low ≤ n → n ≤ high → 0 < many low high ns
many-some low high ns n (k, within, at) le le' =
    -- the count is a sum of ones, so it is no less than what the number n, which is counted, adds to it
    let some = get_or-le-sum_by (λ n. cond (between low high n) 1 0) ns k n within in
    let here : between low high n ≡ true = grind (arith, nat_tests) in
    let one : one_of (between low high (get_or ns k n)) ≡ 1 = ap (λ m. one_of (between low high m)) at ∙ ap one_of here in
    omega (arith, some, one)

-- a number after n in a list that rises is above n
above : (n : ℕ) (ns : List ℕ) (m : ℕ) → AllPairs (λ a b. a < b) (n ∷ ns) → Contains ns m → n < m
above n ns m up (k, within, at) = subst (λ x. n < x) at (up 0 (suc k) m (omega arith) (omega (arith, within)))

-- where numbers rise, those after the first rise
rest_rises : (n : ℕ) (ns : List ℕ) → AllPairs (λ a b. a < b) (n ∷ ns) → AllPairs (λ a b. a < b) ns
rest_rises n ns up = λ i j d lt low. up (suc i) (suc j) d (omega (arith, lt)) (omega (arith, low))

-- where each number of ms is n or one of ns, and none is n, each is one of ns
-- m is any number of ms
among_rest : (n : ℕ) (ns ms : List ℕ) → ((m : ℕ) → Contains ms m → Contains (n ∷ ns) m) → ((m : ℕ) → Contains ms m → n ≢ m) → (m : ℕ) → Contains ms m → Contains ns m
among_rest n ns ms all other m has =
    elim (Contains-cons_cases n ns m (all m has)) [
      | inl same ↦ absurd (other m has same)
      | inr rest ↦ rest
    ]

-- what is in the rest of a list is in the list
-- m is the first element, ms are the rest, and x is in it
tail_in : (m : ℕ) (ms : List ℕ) (x : ℕ) → Contains ms x → Contains (m ∷ ms) x
tail_in m ms x has = Contains-append_right (m ∷ []) ms x has

-- the first element of a list is in it
head_in : (m : ℕ) (ms : List ℕ) → Contains (m ∷ ms) m
head_in m ms = (0, omega arith, refl)

-- where ms rises, and each of it is one of n and ns, which rise, and its first is not n, each of it is one of ns
all_behind : (n m : ℕ) (ns ms : List ℕ) → AllPairs (λ a b. a < b) (n ∷ ns) → AllPairs (λ a b. a < b) (m ∷ ms) → ((x : ℕ) → Contains (m ∷ ms) x → Contains (n ∷ ns) x) → n ≢ m →
    (x : ℕ) → Contains (m ∷ ms) x → Contains ns x
all_behind n m ns ms up up' all other =
    -- the first of ms is one of ns, so it is above n; all others are above it, so none of them is n either
    let first : Contains ns m = elim (Contains-cons_cases n ns m (all m (head_in m ms))) [ inl same ↦ absurd (other same) | inr rest ↦ rest ] in
    let low : n < m = above n ns m up first in
    among_rest n ns (m ∷ ms) all (λ x has same. elim (Contains-cons_cases m ms x has) [
      | inl is ↦ omega (arith, low, same, is)
      | inr rest ↦ (let lt = above m ms x up' rest in omega (arith, low, same, lt))
    ])

-- where each number of ms is one of ns, and both rise, no more of ms than of ns are from low up to high
many-among : (low high : ℕ) (ns ms : List ℕ) → AllPairs (λ a b. a < b) ns → AllPairs (λ a b. a < b) ms → ((x : ℕ) → Contains ms x → Contains ns x) → many low high ms ≤ many low high ns
many-among low high [] [] up up' all = omega arith
many-among low high [] (m ∷ ms) up up' all = absurd (Contains-nil m (all m (head_in m ms)))
many-among low high (n ∷ ns) [] up up' all = omega arith
many-among low high (n ∷ ns) (m ∷ ms) up up' all =
    let a = count-cons (between low high) n ns in
    let b = count-cons (between low high) m ms in
    -- the first number of both is the same, or that of ns is not among ms
    elim (eqb_tells n m) [
      | inl same ↦
          let rest = many-among low high ns ms (rest_rises n ns up) (rest_rises m ms up')
          (among_rest n ns ms (λ x has. all x (tail_in m ms x has)) (λ x has is. (let lt = above m ms x up' has in omega (arith, lt, is, same.1)))) in
          let one : one_of (between low high n) ≡ one_of (between low high m) = ap (λ x. one_of (between low high x)) same.1 in
          omega (arith, a, b, rest, one)
      -- the number that only ns has counts for ns alone
      | inr other ↦
          let rest = many-among low high ns (m ∷ ms) (rest_rises n ns up) up' (all_behind n m ns ms up up' all other.1) in
          omega (arith, a, rest)
    ]

-- where ms are a part of ns, both rise, and as many of both lie from low up to high, each of ns from low up to high is one of ms
-- x is one of ns that lies there, so one of ms does too, and neither list is empty
pub among-all : (low high : ℕ) (ns ms : List ℕ) → AllPairs (λ a b. a < b) ns → AllPairs (λ a b. a < b) ms → ((x : ℕ) → Contains ms x → Contains ns x) →
    many low high ns ≤ many low high ms → (x : ℕ) → Contains ns x → low ≤ x → x ≤ high → Contains ms x
among-all low high [] ms up up' all few x has le le' = absurd (Contains-nil x has)
among-all low high (n ∷ ns) [] up up' all few x has le le' = absurd (let some = many-some low high (n ∷ ns) x has le le' in omega (arith, some, few))
among-all low high (n ∷ ns) (m ∷ ms) up up' all few x has le le' =
    let a = count-cons (between low high) n ns in
    let b = count-cons (between low high) m ms in
    -- the first number of both is the same: it is x, or x is among the others
    elim (eqb_tells n m) [
      | inl same ↦
          -- same: n and m are one number, and x is it or one of the others
          let one : one_of (between low high n) ≡ one_of (between low high m) = ap (λ x. one_of (between low high x)) same.1 in
          elim (Contains-cons_cases n ns x has) [
            | inl is ↦ subst (Contains (m ∷ ms)) (sym same.1 ∙ is) (head_in m ms)
            | inr rest ↦
                tail_in m ms x (among-all low high ns ms (rest_rises n ns up) (rest_rises m ms up')
                (among_rest n ns ms (λ x has. all x (tail_in m ms x has)) (λ x has is. (let lt = above m ms x up' has in omega (arith, lt, is, same.1))))
                (omega (arith, a, b, few, one)) x rest le le')
          ]
      -- the first number of ns is not in ms: it lies outside, since else ns would have more
      | inr other ↦
          let behind = all_behind n m ns ms up up' all other.1 in
          let most = many-among low high ns (m ∷ ms) (rest_rises n ns up) up' behind in
          elim (Contains-cons_cases n ns x has) [
            -- x is the first number of ns, or among the others
            | inl is ↦
                let here : between low high n ≡ true = rw is (grind (arith, nat_tests)) in
                let one : one_of (between low high n) ≡ 1 = ap one_of here in
                absurd (omega (arith, a, one, most, few))
            | inr rest ↦ among-all low high ns (m ∷ ms) (rest_rises n ns up) up' behind (omega (arith, a, few)) x rest le le'
          ]
    ]
