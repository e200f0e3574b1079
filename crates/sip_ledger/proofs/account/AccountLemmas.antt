-- Accounts stay accounts, and owe what they owed, while gains and strikes grow, are let go or are dropped.
use Rattle.sip_ledger.proofs.Words.{◌+◌, max, min, ◌≡◌, ℕ, ◌<◌, ◌≤◌, ◌&&◌, true, false, List, [], ◌∷◌, length, take, refl, sym, ap, ◌∙◌, arith, nat_tests, All, nat_le, cases_eq, cases_lt, le-leb, le-ltb, lt-leb, ne_eqb, true≢false, false_from_ne_true, and-false, and-true, get_or_append_left, length-take, take-take, All-cons, All-head, All-nil, All-tail, All-weaker, Debt, Account, Gains, Strike, debts_print, AreGains, AreSameGains, IsAccount, IsDropped, IsGain, IsLetGo, KeepsAccounts, account_debts, accounts_debts, entries_of, entry_at, is_left, is_struck, must_at, owes_at, holds, numbers_of}
use Rattle.sip_ledger.proofs.debts.ListedLemmas.{listed-same, listed-none}
use Rattle.sip_ledger.proofs.gains.LeftLemmas.{entries_long, left-kept, listed-alike, owed-left, left-as}

-- the debts of an account stay when strikes are put after the others
pub kept-debts : (gains : Gains) (old new : List Strike) (a : Account) → take (length old) new ≡ old → a.last ≤ length old →
    account_debts gains new a ≡ account_debts gains old a
unfolding account_debts owes_at
kept-debts gains old new a kept last = grind (arith, listed-same, nat_tests, take-take)

-- an account stays one when strikes are put after the others
pub kept-account : (gains : Gains) (old new : List Strike) (a : Account) → take (length old) new ≡ old → IsAccount gains old a → IsAccount gains new a
unfolding owes_at
kept-account gains old new a kept is = grind (arith, nat_tests, kept-debts, length-take, take-take)

-- the account is one over other gains and strikes too, and owes what it owed
abbrev pub Stays : Gains → Gains → List Strike → List Strike → Account → Type 0
Stays old new strikes strikes' a = IsAccount new strikes' a × (account_debts new strikes' a ≡ account_debts old strikes a)

-- where each of the accounts stays, they all do, with the debts that they had
each-stays : (old new : Gains) (strikes strikes' : List Strike) (rows : List Account) → All (Stays old new strikes strikes') rows →
    All (IsAccount new strikes') rows × (accounts_debts new strikes' rows ≡ accounts_debts old strikes rows)
each-stays old new strikes strikes' [] each = (All-nil (IsAccount new strikes'), refl)
each-stays old new strikes strikes' (a ∷ rows) each = grind (arith, nat_tests, All-head, All-tail, All-cons, each-stays old new strikes strikes' rows (All-tail (Stays old new strikes strikes') a rows each))

-- where strikes are appended, accounts stay accounts and owe what they owed
pub kept-all : (gains : Gains) (old new : List Strike) (rows : List Account) → take (length old) new ≡ old → All (IsAccount gains old) rows →
    All (IsAccount gains new) rows × (accounts_debts gains new rows ≡ accounts_debts gains old rows)
kept-all gains old new rows kept each =
    each-stays gains gains old new rows (All-weaker (IsAccount gains old) (Stays gains gains old new) (λ a is. (kept-account gains old new a kept is, kept-debts gains old new a kept is.last)) rows each)

-- two accounts with the same `soft` must send the same gains
pub soft-must : (gains : Gains) (a b : Account) (k : ℕ) → b.soft ≡ a.soft → must_at gains b k ≡ must_at gains a k
unfolding must_at
soft-must gains a b k soft = ap (λ s. numbers_of gains.musts k && nat_le s k) soft

-- a gain below `soft` need not be sent
pub must-below : (gains : Gains) (a : Account) (k : ℕ) → k < a.soft → false ≡ must_at gains a k
unfolding must_at
must-below gains a k low = sym (ap (λ b. numbers_of gains.musts k && b) (lt-leb a.soft k low) ∙ and-false (numbers_of gains.musts k))

-- a gain from `soft` on must be sent if it must be as it was gained
pub must-from : (gains : Gains) (a : Account) (k : ℕ) → a.soft ≤ k → numbers_of gains.musts k ≡ must_at gains a k
unfolding must_at
must-from gains a k high = sym (ap (λ b. numbers_of gains.musts k && b) (le-leb a.soft k high) ∙ and-true (numbers_of gains.musts k))

-- two accounts must send the same gains at a place up to whose neighbours both are soft alike
pub must-alike : (gains : Gains) (one other : Account) (from to k : ℕ) → from ≤ k → k < to → min (max one.soft from) to ≡ min (max other.soft from) to →
    must_at gains one k ≡ must_at gains other k
unfolding must_at
must-alike gains one other from to k low high alike = grind (arith, nat_tests)

-- an account owes nothing at its end or after it
pub past-end : (gains : Gains) (strikes : List Strike) (a : Account) (k : ℕ) → a.end ≤ k → owes_at gains strikes a k ≡ false
unfolding owes_at
past-end gains strikes a k past = grind (arith, le-ltb, and-false)

-- what an account owes lies below its end
pub owed-within : (gains : Gains) (strikes : List Strike) (a : Account) (k : ℕ) → owes_at gains strikes a k ≡ true → k < a.end
owed-within gains strikes a k is = grind (arith, nat_tests, cases_lt, true≢false, past-end)

-- what was gained from the start of an account up to its end is kept, where it owes something
pub kept-start : (gains : Gains) (strikes : List Strike) (a : Account) → AreGains gains → IsAccount gains strikes a → a.start < a.end →
    (gains.end ≤ a.start + length gains.entries.items) × (a.end ≤ gains.end)
kept-start gains strikes a are is some = grind (arith, nat_tests, left-kept, owed-left, entries_long)

-- where an entry is the same among old and new gains, and is left in both or in neither, an account owes it in both or in neither
owes-over : (old new : Gains) (strikes : List Strike) (a : Account) (k : ℕ) → entry_at (entries_of new) k ≡ entry_at (entries_of old) k → is_left new k ≡ is_left old k →
    owes_at new strikes a k ≡ owes_at old strikes a k
unfolding owes_at
owes-over old new strikes a k entry left = grind (arith, nat_tests)

-- an account owes over the new gains what it owes over the old ones
pub record OwesAlike (old new : Gains) (strikes : List Strike) (a : Account) : Type 0 where
  pub owes : (k : ℕ) → owes_at new strikes a k ≡ owes_at old strikes a k
  pub same : (k : ℕ) → owes_at old strikes a k ≡ true → (entry_at (entries_of new) k ≡ entry_at (entries_of old) k) × (numbers_of new.musts k ≡ numbers_of old.musts k)

-- an account that owes alike over old and new gains has the same debts
over-debts : (old new : Gains) (strikes : List Strike) (a : Account) → length (entries_of old) ≤ length (entries_of new) → a.end ≤ length (entries_of old) →
    OwesAlike old new strikes a → account_debts new strikes a ≡ account_debts old strikes a
unfolding account_debts must_at
over-debts old new strikes a long end alike =
    listed-alike (owes_at new strikes a) (must_at new a) (owes_at old strikes a) (must_at old a) 0 (entries_of new) (entries_of old) long
    (λ j past. past-end new strikes a (0 + j) (omega (arith, past, end))) (λ j below. alike.owes (0 + j)) (λ j below is. grind arith)

-- accounts that owe alike over old and new gains stay accounts, with the same debts
pub over-all : (old new : Gains) (strikes : List Strike) (rows : List Account) → length (entries_of old) ≤ length (entries_of new) → All (OwesAlike old new strikes) rows →
    All (IsAccount old strikes) rows → All (IsAccount new strikes) rows × (accounts_debts new strikes rows ≡ accounts_debts old strikes rows)
over-all old new strikes rows long alike each = grind (arith, nat_tests, each-stays, over-debts)

-- accounts are kept over gains that are the same
pub same-keeps : (old new : Gains) → AreSameGains old new → KeepsAccounts old new
same-keeps old new same = record {
  each = λ strikes accounts are. over-all old new strikes accounts (omega (arith, ap length same.entries)) (λ k d below. grind (arith, owes-over, left-as)) are;
}

-- an account owes alike where a gain is let go that it does not owe
pub let_go-alike : (old new : Gains) (strikes : List Strike) (a : Account) (place : ℕ) → IsLetGo place old new → owes_at old strikes a place ≡ false → OwesAlike old new strikes a
unfolding is_left
let_go-alike old new strikes a place gone unowed = grind (arith, nat_tests, cases_eq, owes-over, left-as, true≢false, false_from_ne_true, owed-left)

-- an account owes alike where gains are dropped of which nothing is left
pub dropped-alike : (old new : Gains) (strikes : List Strike) (a : Account) (place : ℕ) → IsDropped place old new → ((m k : ℕ) → k < place → holds old.messages m k ≡ false) →
    OwesAlike old new strikes a
unfolding is_left
dropped-alike old new strikes a place dropped none = grind (arith, nat_tests, cases_lt, owes-over, left-as, true≢false, false_from_ne_true, owed-left)

-- an account that ends before a new gain owes alike with it
pub grown-alike : (old new : Gains) (debt : Debt) (strikes : List Strike) (a : Account) → IsGain debt old new → a.end ≤ length (entries_of old) → OwesAlike old new strikes a
grown-alike old new debt strikes a gain end = grind (arith, nat_tests, cases_lt, ne_eqb, and-false, owes-over, left-as, past-end, owed-within, get_or_append_left)

-- an account that ends where it starts has no debts
pub empty-debts : (gains : Gains) (strikes : List Strike) (a : Account) → a.end ≤ a.start → account_debts gains strikes a ≡ []
unfolding account_debts owes_at
empty-debts gains strikes a none = grind (arith, nat_tests, listed-none, cases_lt, lt-leb, past-end)

-- the account that owes nothing is one over any gains
pub empty-account : (gains : Gains) (strikes : List Strike) → IsAccount gains strikes (record { start = 0; end = 0; soft = 0; first = 0; last = 0; print = 0 })
unfolding is_struck debts_print
empty-account gains strikes = grind (arith, nat_tests, empty-debts)

-- lemmas for the prover under one name: what must be sent, by the place
pub ruleset must_by_place = (must-below, must-from)

-- lemmas for the prover under one name: what was gained from the start of an account on is kept
pub ruleset kept_by_place = (kept-start, entries_long)
