-- Which messages states name: what their phases name, and what they owe.
use Prim.Native.Nat.{suc, zero}
use Rattle.std.specs.Prelude.{◌≡◌, ◌||◌, ◌<◌, ◌≤◌, ◌==◌, ℕ, Bool, true, false, List, [], ◌∷◌, ◌++◌, All, Contains, flat_map, get_or, length, take, ◌↔◌}
use Rattle.std.proofs.Common.{refl, sym, ◌∙◌, ap, subst, inl, inr, arith, append-nil, append_assoc, take-append-drop, true≢false}
use Rattle.std.proofs.lemmas.Bool.{cases_eq, eq-eqb, ne_eqb, or_left, or_right}
use Rattle.std.proofs.lemmas.List.{length-drop, length-take-le, take-take}
use Rattle.std.proofs.lemmas.List.Concat.{flat_map-append}
use Rattle.std.proofs.lemmas.List.Elements.{All-contains, All-head, All-tail, Contains-append_cases, Contains-append_left, Contains-append_right, Contains-get_or}
use Rattle.sip_ledger.specs.declared.debt.Debt.{Debt}
use Rattle.sip_ledger.specs.Accounts.{AppendsOwed, owes_message, some_owes}
use Rattle.sip_ledger.specs.Lists.{from_to}
use Rattle.sip_machine.specs.Naming.{AppendsAll}
use Rattle.sip_machine.specs.Owes.{owes_names}
use Rattle.sip_machine.specs.Owing.{CodeOwing, owing_names}
use Rattle.sip_machine.specs.inner.Dues.{blank_rows}
use Rattle.sip_machine.specs.inner.Pools.{beside}
use Rattle.sip_machine.proofs.texts.TextLaws.{Contains-nil, Contains-cons_cases}

-- where a message is among those of some debts, the test finds a debt of it
named-owed : (m : ℕ) (debts : List Debt) → Contains (owes_names debts) m → owes_message m debts ≡ true
named-owed m [] there = absurd (Contains-nil m there)
named-owed m (debt ∷ debts) there = elim (Contains-cons_cases debt.message (owes_names debts) m there) [
  | inl same ↦ or_left (debt.message == m) (owes_message m debts) (eq-eqb debt.message m same)
  | inr rest ↦ or_right (debt.message == m) (owes_message m debts) (named-owed m debts rest)
]

-- where the test finds a debt of a message, the message is among those that the debts name
owed-named : (m : ℕ) (debts : List Debt) → owes_message m debts ≡ true → Contains (owes_names debts) m
owed-named m [] is = absurd (true≢false (sym is))
owed-named m (debt ∷ debts) is = elim (cases_eq debt.message m) [
  | inl same ↦ subst (Contains (owes_names (debt ∷ debts))) same (Contains-get_or (owes_names (debt ∷ debts)) 0 m (omega arith))
  | inr other ↦ Contains-append_right (debt.message ∷ []) (owes_names debts) m (owed-named m debts (sym (ap (λ b. b || owes_message m debts) (ne_eqb debt.message m other)) ∙ is))
]

-- where a message is among those of some rows, the test finds a row that owes it
named-some : (m : ℕ) (rows : List (List Debt)) → Contains (flat_map owes_names rows) m → some_owes m rows ≡ true
named-some m [] there = absurd (Contains-nil m there)
named-some m (owes ∷ rows) there = elim (Contains-append_cases (owes_names owes) (flat_map owes_names rows) m there) [
  | inl here ↦ or_left (owes_message m owes) (some_owes m rows) (named-owed m owes here)
  | inr later ↦ or_right (owes_message m owes) (some_owes m rows) (named-some m rows later)
]

-- where this row or a later one owes the message, the message is named by some row; b says whether this row owes it
some-step : (m : ℕ) (owes : List Debt) (rows : List (List Debt)) (b : Bool) → owes_message m owes ≡ b → (b || some_owes m rows) ≡ true →
    (some_owes m rows ≡ true → Contains (flat_map owes_names rows) m) → Contains (flat_map owes_names (owes ∷ rows)) m
some-step m owes rows true here is later = Contains-append_left (owes_names owes) (flat_map owes_names rows) m (owed-named m owes here)
some-step m owes rows false here is later = Contains-append_right (owes_names owes) (flat_map owes_names rows) m (later is)

-- a message that some row owes is among those that the rows name
some-named : (m : ℕ) (rows : List (List Debt)) → some_owes m rows ≡ true → Contains (flat_map owes_names rows) m
some-named m [] is = absurd (true≢false (sym is))
some-named m (owes ∷ rows) is = some-step m owes rows (owes_message m owes) refl is (some-named m rows)

-- to append the messages that rows owe is to append the names of their debts
pub owed-appends : (rows : List (List Debt)) (old new : List ℕ) → AppendsOwed rows old new → AppendsAll (flat_map owes_names rows) old new
owed-appends rows old new a = (a.names, a.whole, λ m. (λ there. some-named m rows ((a.each m).0 there), λ there. (a.each m).1 (named-some m rows there)))

-- What follows is of the messages that one row owes, each once.
module _ (P : ℕ → Type 0) (debts : List Debt) (old names : List ℕ) (none : old ≡ []) (owed : AppendsOwed (debts ∷ []) old names) where
  -- the names are those of the debts
  same : (n : ℕ) → Contains names n ↔ Contains (owes_names debts) n
  same =
      let all = owed-appends (debts ∷ []) [] names (subst (λ ns. AppendsOwed (debts ∷ []) ns names) none owed) in
      subst (λ ns. (n : ℕ) → Contains ns n ↔ Contains (owes_names debts) n) (sym all.1) (subst (λ ds. (n : ℕ) → Contains all.0 n ↔ Contains ds n) (append-nil (owes_names debts)) all.2)

  -- what holds of each debt's message holds of each name
  pub all-named : All P (owes_names debts) → All P names
  all-named all = λ k n within. All-contains P (owes_names debts) (get_or names k n) all ((same (get_or names k n)).0 (Contains-get_or names k n within))

  -- what holds of each name holds of each debt's message
  pub all-owed : All P names → All P (owes_names debts)
  all-owed all = λ k n within. let m = get_or (owes_names debts) k n in All-contains P names m all ((same m).1 (Contains-get_or (owes_names debts) k n within))

-- rows that owe nothing name nothing
none-named : (count : ℕ) → flat_map owes_names (blank_rows count) ≡ []
none-named zero = refl
none-named (suc count) = none-named count

-- rows that owe nothing append no name
pub none-appends : (count : ℕ) (old : List ℕ) → AppendsAll (flat_map owes_names (blank_rows count)) old old
none-appends count old =
    ([], sym (append-nil old), λ m. (λ there. absurd (Contains-nil m there), λ there. absurd (Contains-nil m (subst (λ ns. Contains ns m) (none-named count) there))))

-- What follows is of the states of one machine: `names` gives the numbers of the messages that a phase names.
module _ {S : Type 0} (names : S → List ℕ) where
  -- what a state's phase names
  abbrev phase_names : CodeOwing S → List ℕ
  phase_names x = names x.phase

  -- what a state's debts name
  abbrev debt_names : CodeOwing S → List ℕ
  debt_names x = owes_names x.owes

  -- what the phases of states name, and what they owe, is what the states name
  parts-named : (xs : List (CodeOwing S)) (n : ℕ) → Contains (flat_map phase_names xs ++ flat_map debt_names xs) n → Contains (flat_map (owing_names names) xs) n
  parts-named [] n there = there
  parts-named (x ∷ xs) n there =
      let one = owing_names names x in
      let rest = flat_map (owing_names names) xs in
      elim (Contains-append_cases (phase_names x ++ flat_map phase_names xs) (debt_names x ++ flat_map debt_names xs) n there) [
        -- the number is named by a phase: that of the first state, or of a later one
        | inl phase ↦ elim (Contains-append_cases (phase_names x) (flat_map phase_names xs) n phase) [
          | inl here ↦ Contains-append_left one rest n (Contains-append_left (phase_names x) (debt_names x) n here)
          | inr later ↦ Contains-append_right one rest n (parts-named xs n (Contains-append_left (flat_map phase_names xs) (flat_map debt_names xs) n later))
        ]
        -- the number is owed: by the first state, or by a later one
        | inr owed ↦ elim (Contains-append_cases (debt_names x) (flat_map debt_names xs) n owed) [
          | inl here ↦ Contains-append_left one rest n (Contains-append_right (phase_names x) (debt_names x) n here)
          | inr later ↦ Contains-append_right one rest n (parts-named xs n (Contains-append_right (flat_map phase_names xs) (flat_map debt_names xs) n later))
        ]
      ]

  -- what states name is named by the phase or by a debt of one of them
  named-parts : (xs : List (CodeOwing S)) (n : ℕ) → Contains (flat_map (owing_names names) xs) n → Contains (flat_map phase_names xs ++ flat_map debt_names xs) n
  named-parts [] n there = there
  named-parts (x ∷ xs) n there =
      let phases = phase_names x ++ flat_map phase_names xs in
      let debts = debt_names x ++ flat_map debt_names xs in
      elim (Contains-append_cases (owing_names names x) (flat_map (owing_names names) xs) n there) [
        -- the first state names it, by its phase or by a debt
        | inl one ↦ elim (Contains-append_cases (phase_names x) (debt_names x) n one) [
          | inl phase ↦ Contains-append_left phases debts n (Contains-append_left (phase_names x) (flat_map phase_names xs) n phase)
          | inr owed ↦ Contains-append_right phases debts n (Contains-append_left (debt_names x) (flat_map debt_names xs) n owed)
        ]
        -- a later state names it, by its phase or by a debt
        | inr later ↦ elim (Contains-append_cases (flat_map phase_names xs) (flat_map debt_names xs) n (named-parts xs n later)) [
          | inl phase ↦ Contains-append_left phases debts n (Contains-append_right (phase_names x) (flat_map phase_names xs) n phase)
          | inr owed ↦ Contains-append_right phases debts n (Contains-append_right (debt_names x) (flat_map debt_names xs) n owed)
        ]
      ]

  -- what the debts of a pool's states name is what its rows name
  debts-beside : (phases : List S) (rows : List (List Debt)) → length rows ≡ length phases → flat_map debt_names (beside phases rows) ≡ flat_map owes_names rows
  debts-beside [] [] even = refl
  debts-beside [] (row ∷ rows) even = absurd (omega (arith, even))
  debts-beside (phase ∷ phases) [] even = absurd (omega (arith, even))
  debts-beside (phase ∷ phases) (row ∷ rows) even = ap (λ ns. owes_names row ++ ns) (debts-beside phases rows (omega (arith, even)))

  -- what phases name is appended, and then what is owed beside them
  pub pool-appends : (phases : List S) (rows : List (List Debt)) (old mid new : List ℕ) → length rows ≡ length phases → AppendsAll (flat_map phase_names (beside phases rows)) old mid →
      AppendsAll (flat_map owes_names rows) mid new → AppendsAll (flat_map (owing_names names) (beside phases rows)) old new
  pool-appends phases rows old mid new even first second =
      let xs = beside phases rows in
      let debts = debts-beside phases rows even in (
        -- the numbers that were appended are those of the phases and then those of the debts
        first.0 ++ second.0,
        second.1 ∙ ap (λ ns. ns ++ second.0) first.1 ∙ append_assoc old first.0 second.0,
        λ n. (
          λ there. parts-named xs n (elim (Contains-append_cases first.0 second.0 n there) [
            | inl phase ↦ Contains-append_left (flat_map phase_names xs) (flat_map debt_names xs) n ((first.2 n).0 phase)
            | inr owed ↦ Contains-append_right (flat_map phase_names xs) (flat_map debt_names xs) n (subst (λ ns. Contains ns n) (sym debts) ((second.2 n).0 owed))
          ]),
          -- what a phase names stands in the first part, and what is owed in the second
          λ there. elim (Contains-append_cases (flat_map phase_names xs) (flat_map debt_names xs) n (named-parts xs n there)) [
            | inl phase ↦ Contains-append_left first.0 second.0 n ((first.2 n).1 phase)
            | inr owed ↦ Contains-append_right first.0 second.0 n ((second.2 n).1 (subst (λ ns. Contains ns n) debts owed))
          ],
        ),
      )

  -- states in one phase name what that phase names
  same-named : (xs : List (CodeOwing S)) (phase : S) (n : ℕ) → All (λ x. x.phase ≡ phase) xs → Contains (flat_map phase_names xs) n → Contains (names phase) n
  same-named [] phase n same there = absurd (Contains-nil n there)
  same-named (x ∷ xs) phase n same there = elim (Contains-append_cases (phase_names x) (flat_map phase_names xs) n there) [
    | inl here ↦ subst (λ p. Contains (names p) n) (All-head (λ (y : CodeOwing S). y.phase ≡ phase) x xs same) here
    | inr later ↦ same-named xs phase n (All-tail (λ (y : CodeOwing S). y.phase ≡ phase) x xs same) later
  ]

  -- what a phase names is named by states that all have that phase, if there are any
  named-same : (xs : List (CodeOwing S)) (phase : S) (n : ℕ) → All (λ x. x.phase ≡ phase) xs → 0 < length xs → Contains (names phase) n → Contains (flat_map phase_names xs) n
  named-same [] phase n same some there = absurd (omega (arith, some))
  named-same (x ∷ xs) phase n same some there =
      Contains-append_left (phase_names x) (flat_map phase_names xs) n (subst (λ p. Contains (names p) n) (sym (All-head (λ (y : CodeOwing S). y.phase ≡ phase) x xs same)) there)

  -- where what a further run of states of one phase names is appended, what all states up to its end name was appended
  pub run-appends : (xs : List (CodeOwing S)) (at end : ℕ) (phase : S) (old mid new : List ℕ) → at < end → end ≤ length xs → AppendsAll (flat_map phase_names (take at xs)) old mid →
      All (λ x. x.phase ≡ phase) (from_to at end xs) → new ≡ mid ++ names phase → AppendsAll (flat_map phase_names (take end xs)) old new
  run-appends xs at end phase old mid new low within first same is =
      let ys = from_to at end xs in
      -- the run adds the states from its begin to its end
      let long : 0 < length ys = omega (arith, low, length-drop at (take end xs), length-take-le end xs within) in
      let before : take at (take end xs) ≡ take at xs = take-take at end xs (omega (arith, low)) in
      let split : take end xs ≡ take at xs ++ ys = sym (take-append-drop at (take end xs)) ∙ ap (λ l. l ++ ys) before in
      let whole : flat_map phase_names (take end xs) ≡ flat_map phase_names (take at xs) ++ flat_map phase_names ys = ap (flat_map phase_names) split ∙ flat_map-append phase_names (take at xs) ys in (
        first.0 ++ names phase,
        is ∙ ap (λ ns. ns ++ names phase) first.1 ∙ append_assoc old first.0 (names phase),
        -- each of its states has the one phase, which names what was appended
        λ n. (
          λ there. subst (λ ns. Contains ns n) (sym whole) (elim (Contains-append_cases first.0 (names phase) n there) [
            | inl early ↦ Contains-append_left (flat_map phase_names (take at xs)) (flat_map phase_names ys) n ((first.2 n).0 early)
            | inr here ↦ Contains-append_right (flat_map phase_names (take at xs)) (flat_map phase_names ys) n (named-same ys phase n same long here)
          ]),
          -- what the states up to the end name was appended for the earlier ones, or for this run
          λ there. elim (Contains-append_cases (flat_map phase_names (take at xs)) (flat_map phase_names ys) n (subst (λ ns. Contains ns n) whole there)) [
            | inl early ↦ Contains-append_left first.0 (names phase) n ((first.2 n).1 early)
            | inr here ↦ Contains-append_right first.0 (names phase) n (same-named ys phase n same here)
          ],
        ),
      )
