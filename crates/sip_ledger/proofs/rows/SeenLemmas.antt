-- Accounts as contracts see them: a list of what each row owes, and the messages that rows owe.
use Rattle.sip_ledger.proofs.Words.{◌≡◌, ℕ, ◌+◌, ◌<◌, ◌≤◌, ◌==◌, true, false, List, [], ◌∷◌, ◌++◌, length, get_or, get_or-map, map, refl, sym, subst, ap, ◌∙◌, arith, nat_tests, All, Contains, list_any, and-true, cases_eq, cases_lt, eqb-true, false_from_ne_true, le-leb, true≢false, append_assoc, get_or_append_left, get_or_default, get_or_push, length_push, All-get_or, All-map, Contains-append_left, Contains-push, Contains-push_cases, list_any_at, list_any_none, All-cons, All-nil, Debt, Account, Gains, Strike, AppendsOwed, owes_message, some_owes, is_payable, Rise, account_debts, accounts_debts, entries_of, entry_at, must_at, owes_at, holds, common_steps, ◌≢◌, take, set, IsTrue, Option, Some, None, IfSome, IfNone, Result, Ok, Err, IsErr, OnErr, ◌↔◌, is_err, is_some, eq-eqb, drop_min, All-weaker, sum_by-cons, debts_print, owed_in, softened_account, softened_debt, debt_deadlines, earliest, IsNextGain, AreAccounts, AreGains, IsAccount, IsFirstPayable, KeepsAccounts, pays_at, map-append, map-set, length-map, take-map, drop-map, All-take, All-drop, All-push, All-set}
use Rattle.sip_ledger.proofs.debts.ListedLemmas.{listed-each, listed-softened}
use Rattle.sip_ledger.proofs.account.AccountLemmas.{kept-start, empty-account, empty-debts, kept-all, must-below, owed-within}
use Rattle.sip_ledger.proofs.gains.LeftLemmas.{entries_long, held_left, owed-left}
use Rattle.sip_ledger.proofs.debts.OwedLemmas.{listed-any}
use Rattle.sip_ledger.proofs.account.FindLemmas.{unpaid-account}
use Rattle.sip_ledger.proofs.account.ToldLemmas.{told-start}

-- what holds is said of an answer that is an error
pub on-error : {T E P : Type 0} (r : Result T E) → IsErr r → P → OnErr r P
on-error (Ok x) is p = tt
on-error (Err e) is p = p

-- what is said of an error holds where there is one
pub on-err : {T E : Type 0} (r : Result T E) (P : Type 0) → is_err r ≡ true → OnErr r P → P
on-err (Ok x) P is p = absurd (true≢false (sym is))
on-err (Err e) P is p = p

-- what stands in a row is an account, and its debts are those that contracts see there
pub account-at : {gains : Gains} {strikes : List Strike} {rows : List Account} {seen : List (List Debt)} (row : ℕ) (a : Account) → AreAccounts gains strikes rows →
    accounts_debts gains strikes rows ≡ seen → row < length seen → a ≡ get_or rows row a → IsAccount gains strikes a × (account_debts gains strikes a ≡ owed_in seen row)
account-at {gains} {strikes} {rows} row a are view inside is =
    let within : row < length rows = omega (arith, inside, ap length view, length-map rows (account_debts gains strikes)) in (
      subst (IsAccount gains strikes) (sym is) (All-get_or (IsAccount gains strikes) rows row a within are.each),
      ap (account_debts gains strikes) is ∙ sym (get_or-map (account_debts gains strikes) rows row a [] within) ∙ ap (λ owes. owed_in owes row) view,
    )

-- What follows is of accounts that stay, but for one of them, over more strikes or gains.
module _ {gains : Gains} {strikes : List Strike} {rows : List Account} where
  -- where an account comes in the place of one, it owes there what it owes, and the others owe what they owed
  pub changed : (new : List Strike) (row : ℕ) (b : Account) → take (length strikes) new ≡ strikes → AreAccounts gains strikes rows → IsAccount gains new b →
      AreAccounts gains new (set rows row b) × (accounts_debts gains new (set rows row b) ≡ set (accounts_debts gains strikes rows) row (account_debts gains new b))
  changed new row b kept are account = grind (arith, kept-all gains strikes new rows kept, All-set (IsAccount gains new) rows row b account, map-set)

  -- where no account changes, and the strikes may have grown, all owe what they owed
  pub unchanged : (new : List Strike) → take (length strikes) new ≡ strikes → AreAccounts gains strikes rows →
      AreAccounts gains new rows × (accounts_debts gains new rows ≡ accounts_debts gains strikes rows)
  unchanged new kept are = let all = kept-all gains strikes new rows kept are.each in grind (arith, all)

  -- where the gains may have grown, all owe what they owed
  pub over-to : (new : Gains) → KeepsAccounts gains new → AreGains new → AreAccounts gains strikes rows →
      AreAccounts new strikes rows × (accounts_debts new strikes rows ≡ accounts_debts gains strikes rows)
  over-to new keeps gained are = let all = keeps.each strikes rows are.each in (record { gained = gained; each = all.0 }, all.1)

-- the debts of a softened account are the softened ones
soft-debts : (gains : Gains) (strikes : List Strike) (a : Account) (place : ℕ) → a.end ≤ place →
    account_debts gains strikes (softened_account place a) ≡ map softened_debt (account_debts gains strikes a)
unfolding account_debts owes_at
soft-debts gains strikes a place end =
    listed-softened (owes_at gains strikes a) (must_at gains a) (must_at gains (softened_account place a)) 0 (entries_of gains)
    (λ k owed. sym (must-below gains (softened_account place a) k (omega (arith, owed-within gains strikes a k owed, end))))

-- a softened account is an account, and has the softened debts
pub softened-account : (gains : Gains) (strikes : List Strike) (a : Account) (place : ℕ) → place ≤ length (entries_of gains) → a.end ≤ place → IsAccount gains strikes a →
    IsAccount gains strikes (softened_account place a) × (account_debts gains strikes (softened_account place a) ≡ map softened_debt (account_debts gains strikes a))
unfolding debts_print owes_at
softened-account gains strikes a place within end is = grind (arith, nat_tests, soft-debts, common_steps, sum_by-cons)

-- where no debt must be sent, the softened ones are the same
softened-same : (debts : List Debt) → earliest (debt_deadlines debts) ≡ None → map softened_debt debts ≡ debts
softened-same [] none = refl
softened-same (debt ∷ debts) none = grind (arith, nat_tests, softened-same debts)

-- an account that owes nothing that must be sent owes the same where this is looked for from the place on at which it gains next, and can gain there
pub eased-account : (gains : Gains) (strikes : List Strike) (a : Account) (debt : Debt) (place : ℕ) → AreGains gains → IsAccount gains strikes a → IsNextGain gains strikes a debt place →
    None ≡ earliest (debt_deadlines (account_debts gains strikes a)) → IsAccount gains strikes (softened_account place a) × IsNextGain gains strikes (softened_account place a) debt place
    × (account_debts gains strikes (softened_account place a) ≡ account_debts gains strikes a)
eased-account gains strikes a debt place gained is next none =
    let soft = softened-account gains strikes a place (omega (arith, next.gain.within)) next.end is in
    (soft.0, record { gain = next.gain; end = next.end; soft = omega arith; free = next.free }, soft.1 ∙ softened-same (account_debts gains strikes a) (sym none))

-- an account that does not end where it starts owes something
nothing-owed : (gains : Gains) (strikes : List Strike) (a : Account) → IsAccount gains strikes a → a.start ≢ a.end → account_debts gains strikes a ≢ []
unfolding account_debts
nothing-owed gains strikes a is other none =
    let some = listed-any (λ (debt : Debt). true) (entries_of gains) (owes_at gains strikes a) (must_at gains a) a.start (omega (arith, is.order, is.end, other)) (is.begins (omega (arith, is.order, other))) refl in
    true≢false (sym some ∙ ap (list_any (λ (debt : Debt). true)) none)

-- an account owes nothing exactly if it ends where it starts
pub owes-nothing : (gains : Gains) (strikes : List Strike) (a : Account) (debts : List Debt) → IsAccount gains strikes a → account_debts gains strikes a ≡ debts →
    IsTrue (a.start == a.end) ↔ (debts ≡ [])
owes-nothing gains strikes a debts is owes = grind (arith, nat_tests, empty-debts, eqb-true, cases_eq, eq-eqb, nothing-owed)

-- a send pays one of the debts of an account exactly if a first one is found
pub can-pay : (gains : Gains) (strikes : List Strike) (a : Account) (message t : ℕ) (found : Option ℕ) → IsAccount gains strikes a →
    IfSome found (IsFirstPayable (entries_of gains) (owes_at gains strikes a) message t) →
    IfNone found ((k : ℕ) → owes_at gains strikes a k ≡ true → pays_at (entries_of gains) message t k ≡ false) →
    is_some found ≡ list_any (is_payable message t) (account_debts gains strikes a)
unfolding account_debts
can-pay gains strikes a message t (Some place) is some none = grind (arith, nat_tests, listed-any, owed-within)
can-pay gains strikes a message t None is some none = grind (arith, nat_tests, list_any_none, All-weaker, false_from_ne_true, unpaid-account)

-- lemmas for the prover under one name: what contracts see of rows of which one changes or comes
pub ruleset of_changed_row = (nat_tests, common_steps, account-at, map-set, map-append, All-set, All-push, length-map, empty-account, empty-debts)

-- lemmas for the prover under one name: what contracts see of rows of which one owes something else
pub ruleset of_other_row = (nat_tests, common_steps, account-at, changed, unchanged, on-error)

-- lemmas for the prover under one name: what contracts see of rows, by their accounts
pub ruleset of_rows = (length-map, account-at, All-cons, All-nil, can-pay, on-err, on-error, over-to, unchanged, All-take, take-map, All-drop, drop-map, drop_min)

-- lemmas for the prover under one name: what a row owes first
pub ruleset first_of_rows = (nat_tests, common_steps, account-at, length-map, empty-debts, entries_long, kept-start, told-start)

-- a send at moment 0 can pay each debt of its message
pub payable-owes : (message : ℕ) (debts : List Debt) → list_any (is_payable message 0) debts ≡ owes_message message debts
payable-owes message [] = refl
payable-owes message (debt ∷ debts) = grind (arith, nat_tests, le-leb, and-true, payable-owes message debts)

-- where one of the accounts owes the message, some row does
pub named-here : (gains : Gains) (strikes : List Strike) (rows : List Account) (message at : ℕ) (none : Account) → at < length rows →
    owes_message message (account_debts gains strikes (get_or rows at none)) ≡ true → some_owes message (accounts_debts gains strikes rows) ≡ true
named-here gains strikes rows message at none inside is =
    grind (arith, length-map, list_any_at (owes_message message) (accounts_debts gains strikes rows) at [], get_or-map (account_debts gains strikes) rows at none [])

-- where none of the accounts owes the message, none of their lists of debts has it
pub named-nowhere : (gains : Gains) (strikes : List Strike) (rows : List Account) (message : ℕ) → All (λ a. owes_message message (account_debts gains strikes a) ≡ false) rows →
    some_owes message (accounts_debts gains strikes rows) ≡ false
named-nowhere gains strikes rows message none =
    list_any_none (owes_message message) (map (account_debts gains strikes) rows) (All-map (λ owes. owes_message message owes ≡ false) (account_debts gains strikes) rows none)

-- a message of which nothing is left is owed by none of the accounts
pub unleft-unnamed : (gains : Gains) (strikes : List Strike) (rows : List Account) (message : ℕ) → ((k : ℕ) → holds gains.messages message k ≡ false) →
    some_owes message (accounts_debts gains strikes rows) ≡ false
unfolding account_debts
unleft-unnamed gains strikes rows message none = named-nowhere gains strikes rows message (λ k d below.
    let a = get_or rows k d in
    list_any_none (λ (debt : Debt). debt.message == message) (account_debts gains strikes a)
    (listed-each (λ (debt : Debt). (debt.message == message) ≡ false) (owes_at gains strikes a) (must_at gains a) (entries_of gains)
    (λ j inside owed. grind (arith, nat_tests, true≢false, held_left gains message j, owed-left gains strikes a j owed, none j))))

-- the messages below one that rows owe are told
pub record AreNamedTo (rows : List (List Debt)) (low : ℕ) (old new : List ℕ) : Type 0 where
  pub names : List ℕ
  pub whole : new ≡ old ++ names
  pub rise : Rise names
  pub below : (m : ℕ) → Contains names m → m < low
  pub owed : (m : ℕ) → Contains names m → some_owes m rows ≡ true
  pub all : (m : ℕ) → m < low → some_owes m rows ≡ true → Contains names m

-- AreNamedTo goes on over messages that are not owed
pub named-past : (rows : List (List Debt)) (low message : ℕ) (old new : List ℕ) → AreNamedTo rows low old new → low ≤ message →
    ((m : ℕ) → low ≤ m → m < message → some_owes m rows ≡ false) → some_owes message rows ≡ false → AreNamedTo rows (message + 1) old new
named-past rows low message old new are order between none =
    let all : (m : ℕ) → m < message + 1 → some_owes m rows ≡ true → Contains are.names m = λ m early is. grind (arith, nat_tests, cases_lt, cases_eq, true≢false, are.all m, between m) in
    record { names = are.names; whole = are.whole; rise = are.rise; below = λ m there. grind (arith, are.below m there); owed = are.owed; all = all }

-- AreNamedTo goes on with the next message that is owed, once it is told
pub named-more : (rows : List (List Debt)) (low message : ℕ) (old new now : List ℕ) → AreNamedTo rows low old new → low ≤ message →
    ((m : ℕ) → low ≤ m → m < message → some_owes m rows ≡ false) → some_owes message rows ≡ true → now ≡ new ++ message ∷ [] → AreNamedTo rows (message + 1) old now
named-more rows low message old new now are order between some is = record {
  names = are.names ++ message ∷ [];
  whole = is ∙ ap (λ l. l ++ message ∷ []) are.whole ∙ append_assoc old are.names (message ∷ []);
  -- the numbers rise with one more that is above all of them
  rise = λ i k early late.
      let within = λ (i : ℕ) (low : i < length are.names). are.below (get_or are.names i 0) (i, low, get_or_default are.names i (get_or are.names i 0) 0 low) in
      grind (arith, nat_tests, cases_lt, get_or_append_left, length_push, get_or_push, are.rise i k, within i);
  below = λ m there. grind (arith, Contains-push_cases are.names message m there, are.below m);
  owed = λ m there. grind (arith, Contains-push_cases are.names message m there, are.owed m);
  -- what is owed below the message was told before, what is owed of it is told now, and between the two nothing is owed
  all = λ m early owed. grind (arith, nat_tests, cases_lt, cases_eq, true≢false, Contains-append_left are.names (message ∷ []) m, Contains-push are.names message, are.all m, between m);
}

-- where no message from `low` on is owed, all that are owed are told
pub named-all : (rows : List (List Debt)) (low : ℕ) (old new : List ℕ) → AreNamedTo rows low old new → ((m : ℕ) → low ≤ m → some_owes m rows ≡ false) → AppendsOwed rows old new
named-all rows low old new are none = grind (arith, nat_tests, cases_lt, true≢false)

-- where what is left of messages lies between two numbers, the messages of all that rows owe do
pub spanned : (gains : Gains) (strikes : List Strike) (rows : List Account) (low high : ℕ) → ((m k : ℕ) → holds gains.messages m k ≡ true → (low ≤ m) × (m ≤ high)) →
    All (All (λ (debt : Debt). (low ≤ debt.message) × (debt.message ≤ high))) (accounts_debts gains strikes rows)
unfolding account_debts
spanned gains strikes rows low high within =
    All-map (All (λ (debt : Debt). (low ≤ debt.message) × (debt.message ≤ high))) (account_debts gains strikes) rows (λ k d below.
    let a = get_or rows k d in
    listed-each (λ (debt : Debt). (low ≤ debt.message) × (debt.message ≤ high)) (owes_at gains strikes a) (must_at gains a) (entries_of gains)
    (λ j inside owed. within (entry_at (entries_of gains) j).message j (held_left gains (entry_at (entries_of gains) j).message j refl ∙ owed-left gains strikes a j owed)))

-- lemmas for the prover under one name: what is named, message by message
pub ruleset named_by_message = (named-all, named-more, named-past, unleft-unnamed, payable-owes, can-pay, named-here, named-nowhere, All-get_or, get_or_default)
