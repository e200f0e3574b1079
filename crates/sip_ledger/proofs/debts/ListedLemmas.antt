-- The debts of a list of entries: `o` tells which places are owed, and `m` which of them must be sent.
use Rattle.sip_ledger.proofs.Words.{blank, cond_both, common_steps, nat_tests, ◌≡◌, ℕ, suc, ◌+◌, ◌<◌, ◌≤◌, Bool, true, false, ◌&&◌, ◌||◌, cond, List, [], ◌∷◌, ◌++◌, length, take, drop, get_or, map, filter, refl, sym, ap, ◌∙◌, subst, arith, ap₂, All, nat_le, append-nil, drop_more, length-drop, length-take-le, take-append-drop, take-take, take_more, get_or_default, All-nil, All-cons, Debt, Entry, counts_at, softened_debt, debt_of, debts_from, IsGap}

-- the debts of two lists of entries together are those of the first list and those of the second, whose places follow
pub listed-append : (o m : ℕ → Bool) (i : ℕ) (xs ys : List Entry) → debts_from o m i (xs ++ ys) ≡ debts_from o m i xs ++ debts_from o m (i + length xs) ys
listed-append o m i [] ys = let none : i ≡ i + 0 = omega arith in ap (λ n. debts_from o m n ys) none
listed-append o m i (x ∷ xs) ys = grind (arith, nat_tests, listed-append o m (i + 1) xs ys)

-- where the same places are owed and must be sent, the debts are the same
pub listed-same : (o m o' m' : ℕ → Bool) (i : ℕ) (xs : List Entry) → ((k : ℕ) → i ≤ k → k < i + length xs → (o k ≡ o' k) × (m k ≡ m' k)) →
    debts_from o m i xs ≡ debts_from o' m' i xs
listed-same o m o' m' i [] agree = refl
listed-same o m o' m' i (x ∷ xs) agree = grind (arith, nat_tests, listed-same o m o' m' (i + 1) xs)

-- where no place of the entries is owed, there are no debts
pub listed-none : (o m : ℕ → Bool) (i : ℕ) (xs : List Entry) → ((k : ℕ) → i ≤ k → k < i + length xs → o k ≡ false) → debts_from o m i xs ≡ []
listed-none o m i [] none = refl
listed-none o m i (x ∷ xs) none = grind (arith, nat_tests, listed-none o m (i + 1) xs)

-- where P holds of the debt of each place that is owed, it holds of all debts
pub listed-All : (P : Debt → Type 0) (o m : ℕ → Bool) (i : ℕ) (xs : List Entry) →
    ((j : ℕ) (e : Entry) → j < length xs → o (i + j) ≡ true → P (debt_of (get_or xs j e) (m (i + j)))) → All P (debts_from o m i xs)
listed-All P o m i [] each = All-nil P
listed-All P o m i (x ∷ xs) each =
    let none : i + 0 ≡ i = omega arith in
    let rest = listed-All P o m (i + 1) xs (λ j e below is. grind (arith, each (suc j) e)) in
    cond_both (o i) (debt_of x (m i) ∷ debts_from o m (i + 1) xs) (debts_from o m (i + 1) xs) (All P)
    (λ is. All-cons P (debt_of x (m i)) (debts_from o m (i + 1) xs) (subst (λ n. P (debt_of x (m n))) none (each 0 x (omega arith) (ap o none ∙ is))) rest)
    (λ _. rest)

-- where P holds of the debt of each place that is owed, it holds of all debts that these places have
pub listed-each : (P : Debt → Type 0) (o m : ℕ → Bool) (entries : List Entry) → ((k : ℕ) → k < length entries → o k ≡ true → P (debt_of (get_or entries k blank) (m k))) →
    All P (debts_from o m 0 entries)
listed-each P o m entries each = listed-All P o m 0 entries (λ j e below set.
    let here : 0 + j ≡ j = omega arith in
    subst P (ap₂ debt_of (get_or_default entries j blank e below) (ap m (sym here))) (each j below (ap o (sym here) ∙ set)))

-- the debts of the places before k
abbrev pub front : (ℕ → Bool) → (ℕ → Bool) → List Entry → ℕ → List Debt
front o m entries k = debts_from o m 0 (take k entries)

-- the debts of the places from k on
abbrev pub back : (ℕ → Bool) → (ℕ → Bool) → List Entry → ℕ → List Debt
back o m entries k = debts_from o m k (drop k entries)

-- all debts are those before k and those from k on
pub parts : (o m : ℕ → Bool) (entries : List Entry) (k : ℕ) → k ≤ length entries → debts_from o m 0 entries ≡ front o m entries k ++ back o m entries k
parts o m entries k within =
    let long : 0 + length (take k entries) ≡ k = omega (arith, length-take-le k entries within) in
    ap (debts_from o m 0) (sym (take-append-drop k entries)) ∙ listed-append o m 0 (take k entries) (drop k entries)
    ∙ ap (λ n. front o m entries k ++ debts_from o m n (drop k entries)) long

-- where k is owed, the debts from k on are its debt and those from k + 1 on, and else those from k + 1 on
pub back-at : (o m : ℕ → Bool) (entries : List Entry) (k : ℕ) (e : Entry) → k < length entries →
    back o m entries k ≡ cond (o k) (debt_of (get_or entries k e) (m k) ∷ back o m entries (k + 1)) (back o m entries (k + 1))
back-at o m entries k e within = ap (debts_from o m k) (drop_more entries k e within)

-- where k is owed, the debts from k on are its debt and those from k + 1 on
pub back-set : (o m : ℕ → Bool) (entries : List Entry) (k : ℕ) (e : Entry) → k < length entries → o k ≡ true →
    back o m entries k ≡ debt_of (get_or entries k e) (m k) ∷ back o m entries (k + 1)
back-set o m entries k e within is = grind (arith, nat_tests, common_steps, back-at)

-- where the same places before k are owed and must be sent, the debts before k are the same
pub front-same : (o m o' m' : ℕ → Bool) (entries : List Entry) (k : ℕ) → k ≤ length entries → ((j : ℕ) → j < k → (o j ≡ o' j) × (m j ≡ m' j)) →
    front o m entries k ≡ front o' m' entries k
front-same o m o' m' entries k within agree = grind (arith, nat_tests, listed-same, length-take-le)

-- where the places that stay owed are those whose debts count still at t, the debts are those that count still
pub listed-counting : (t : ℕ) (o m o' : ℕ → Bool) (i : ℕ) (xs : List Entry) →
    ((j : ℕ) (e : Entry) → j < length xs → o' (i + j) ≡ (o (i + j) && (m (i + j) || nat_le t (get_or xs j e).deadline))) →
    debts_from o' m i xs ≡ filter (counts_at t) (debts_from o m i xs)
listed-counting t o m o' i [] each = refl
listed-counting t o m o' i (x ∷ xs) each =
    let none : i ≡ i + 0 = omega arith in
    let here : o' i ≡ (o i && (m i || nat_le t x.deadline)) = subst (λ n. o' n ≡ (o n && (m n || nat_le t x.deadline))) (sym none) (each 0 x (omega arith)) in
    let rest : debts_from o' m (i + 1) xs ≡ filter (counts_at t) (debts_from o m (i + 1) xs) = listed-counting t o m o' (i + 1) xs (λ j e below. grind (arith, each (suc j) e)) in
    grind (arith, nat_tests, here, rest)

-- where nothing that is owed must be sent any more, the debts are the softened ones
pub listed-softened : (o m m' : ℕ → Bool) (i : ℕ) (xs : List Entry) → ((k : ℕ) → o k ≡ true → m' k ≡ false) → debts_from o m' i xs ≡ map softened_debt (debts_from o m i xs)
listed-softened o m m' i [] none = refl
listed-softened o m m' i (x ∷ xs) none = grind (arith, nat_tests, none i, listed-softened o m m' (i + 1) xs none)

-- where no place from `from` up to `at` is owed, the debts before `at` are those before `from`
pub front-gap : (o m : ℕ → Bool) (entries : List Entry) (from at : ℕ) → from ≤ at → at ≤ length entries → IsGap o from at →
    front o m entries at ≡ front o m entries from
front-gap o m entries from at order within gap =
    let xs = take at entries in
    let none : back o m xs from ≡ [] = listed-none o m from (drop from xs) (λ k low high. gap k low (omega (arith, high, order, length-drop from xs, length-take-le at entries within))) in
    grind (arith, parts o m xs from, none, append-nil, take-take, length-take-le)

-- where the next place from `from` on that is owed is `at`, the debts before `at + 1` are those before `from` and its own
pub front-next : (o m : ℕ → Bool) (entries : List Entry) (from at : ℕ) (e : Entry) → from ≤ at → at < length entries → IsGap o from at → o at ≡ true →
    front o m entries (at + 1) ≡ front o m entries from ++ debt_of (get_or entries at e) (m at) ∷ []
front-next o m entries from at e order within gap set = grind (arith, nat_tests, common_steps, length-take-le, take_more, listed-append, front-gap)

-- where the debts before a place are the same, and the same of the next n places are owed and must be sent, the debts before these n are the same
pub front-on : (o m o' m' : ℕ → Bool) (entries : List Entry) (at n : ℕ) → at + n ≤ length entries → front o m entries at ≡ front o' m' entries at →
    ((k : ℕ) → at ≤ k → k < at + n → (o k ≡ o' k) × (m k ≡ m' k)) → front o m entries (at + n) ≡ front o' m' entries (at + n)
front-on o m o' m' entries at n within same agree =
    let xs = take (at + n) entries in
    let rest : back o m xs at ≡ back o' m' xs at = grind (arith, listed-same, length-take-le, length-drop) in
    grind (arith, parts o m xs at, parts o' m' xs at, rest, take-take, length-take-le)
