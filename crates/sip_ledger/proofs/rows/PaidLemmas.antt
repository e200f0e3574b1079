-- Many rows gain a debt, lose what is past, place by place, or are paid and put after the others.
-- Of places o tells which are owed at first, o' and o'' which later, and m which must be sent; t is a moment.
use Rattle.sip_ledger.proofs.Words.{◌≡◌, ℕ, ◌+◌, ◌<◌, ◌≤◌, ◌&&◌, ◌||◌, Bool, true, false, List, length, take, filter, arith, nat_tests, nat_le, and-false, cases_eq, cases_lt, lt-leb, take-length, get_or_default, Entry, Account, Gains, Strike, counts_at, AreGains, IsAccount, IsExpiredTo, IsUndropped, IsWithout, account_debts, entries_of, entry_at, must_at, owes_at, [], ◌∷◌, ◌++◌, drop, get_or, set, map, refl, sym, ap, ◌∙◌, All, fold, min, le-leb, or_right, All-get_or, All-head, All-map, All-push, All-tail, Debt, debt_deadlines, is_timely, AreAccounts, KeepsAccounts, accounts_debts, common_steps, cond, Option, Some, None, IfSome, option_to_list, list_any, take-append_seam, append-nil, append_assoc, get_or_append_left, length-append, length-map, map-append, owed_in, paid_rows, is_payable, paid_by, from_to}
use Rattle.sip_ledger.proofs.gains.LeftLemmas.{entries_long, rising_kept, left-kept, owed-left}
use Rattle.sip_ledger.proofs.debts.ListedLemmas.{listed-counting, listed-same, listed-each}
use Rattle.sip_ledger.proofs.account.AccountLemmas.{empty-debts, kept-start, past-end, soft-must}
use Rattle.sip_ledger.proofs.account.WithoutLemmas.{before-start}
use Rattle.sip_ledger.proofs.lists.EachLemmas.{changing, changing-front, changing-length, changing-more, changing-all, unchanged-each, from_to-end, passing-more}
use Rattle.sip_ledger.proofs.rows.SeenLemmas.{changed, on-error, over-to, unchanged, account-at, can-pay}
use Rattle.sip_ledger.proofs.debts.OwedLemmas.{unpaid-is}
use Rattle.sip_ledger.proofs.account.FindLemmas.{paid-account, unpaid-account}

-- what is owed, with one debt more
abbrev pub with_debt : Debt → List Debt → List Debt
with_debt debt owes = owes ++ debt ∷ []

-- the rows from `from` up to k have gained the debt, and the others owe what they owed
pub record HaveGained (debt : Debt) (from k : ℕ) (old : List (List Debt)) (gains : Gains) (strikes : List Strike) (rows : List Account) : Type 0 where
  pub accounts : AreAccounts gains strikes rows
  pub debts : accounts_debts gains strikes rows ≡ changing (with_debt debt) from k old

-- What follows is of the rows from `from` up to k, which gain a debt one after the other.
module _ {debt : Debt} {from k : ℕ} {old : List (List Debt)} {gains : Gains} {strikes : List Strike} {rows : List Account} where
  -- HaveGained stays true over more gains
  pub gained-over : (new : Gains) → KeepsAccounts gains new → AreGains new → HaveGained debt from k old gains strikes rows → HaveGained debt from k old new strikes rows
  gained-over new keeps gained are = grind (arith, over-to)

  -- HaveGained stays true over more strikes
  pub gained-grown : (new : List Strike) → take (length strikes) new ≡ strikes → HaveGained debt from k old gains strikes rows → HaveGained debt from k old gains new rows
  gained-grown new kept are = let all = unchanged new kept are.accounts in grind (arith, all)

  -- HaveGained stays true with one row more that gains the debt
  pub gained-more : (new : List Strike) (a b : Account) → take (length strikes) new ≡ strikes → HaveGained debt from k old gains strikes rows → from ≤ k → k < length old →
      a ≡ get_or rows k a → IsAccount gains new b → account_debts gains new b ≡ with_debt debt (account_debts gains strikes a) →
      HaveGained debt from (k + 1) old gains new (set rows k b)
  gained-more new a b kept are low within is account debts =
      let inside : k < length (changing (with_debt debt) from k old) = omega (arith, within, changing-length (with_debt debt) from k old low) in
      let at = account-at k a are.accounts are.debts inside is in
      let all = changed new k b kept are.accounts account in
      record { accounts = all.0; debts = grind (arith, all, at, are.debts, changing-more (with_debt debt) from k old [] low within) }

-- where no debt is past, none goes
kept-late : (t : ℕ) (xs : List Debt) → All (λ d. t ≤ d.deadline) xs → filter (counts_at t) xs ≡ xs
kept-late t [] all = refl
kept-late t (x ∷ xs) all = grind (arith, nat_tests, or_right x.must (nat_le t x.deadline) (le-leb t x.deadline (All-head (λ (d : Debt). t ≤ d.deadline) x xs all)), kept-late t xs (All-tail (λ (d : Debt). t ≤ d.deadline) x xs all))

-- where no gain that is kept is past, no debt of an account is
debts-late : (gains : Gains) (strikes : List Strike) (a : Account) (t : ℕ) → AreGains gains → ((k : ℕ) → IsUndropped gains k → t ≤ (entry_at (entries_of gains) k).deadline) →
    All (λ (d : Debt). t ≤ d.deadline) (account_debts gains strikes a)
unfolding account_debts
debts-late gains strikes a t are late =
    listed-each (λ (d : Debt). t ≤ d.deadline) (owes_at gains strikes a) (must_at gains a) (entries_of gains) (λ k below owed. late k (left-kept gains k are (owed-left gains strikes a k owed)))

-- where no gain that is kept is past, an account has no debt that goes
pub none-goes : (gains : Gains) (strikes : List Strike) (a : Account) (t : ℕ) → AreGains gains → ((k : ℕ) → IsUndropped gains k → t ≤ (entry_at (entries_of gains) k).deadline) →
    filter (counts_at t) (account_debts gains strikes a) ≡ account_debts gains strikes a
none-goes gains strikes a t are late = kept-late t (account_debts gains strikes a) (debts-late gains strikes a t are late)

-- where no gain that is kept is past, what many rows owe is as it is once what is past is dropped from some
pub none-past : (gains : Gains) (strikes : List Strike) (rows : List Account) (seen : List (List Debt)) (from t : ℕ) → AreGains gains → accounts_debts gains strikes rows ≡ seen →
    ((k : ℕ) → IsUndropped gains k → t ≤ (entry_at (entries_of gains) k).deadline) → seen ≡ take from seen ++ map (filter (counts_at t)) (drop from seen)
none-past gains strikes rows seen from t are view late =
    let none = All-map (λ (owes : List Debt). filter (counts_at t) owes ≡ owes) (account_debts gains strikes) rows (λ k d below. none-goes gains strikes (get_or rows k d) t are late) in grind (arith, none, unchanged-each, All-get_or)

-- where no debt is past, the least of a moment that is not past and of the deadlines of what must be sent is not past
least-late : (t x : ℕ) (debts : List Debt) → t ≤ x → All (λ d. t ≤ d.deadline) debts → t ≤ fold min x (debt_deadlines debts)
least-late t x [] low all = low
least-late t x (d ∷ debts) low all = grind (arith, nat_tests, All-head (λ d. t ≤ d.deadline) d debts all, All-tail (λ d. t ≤ d.deadline) d debts all, least-late t x debts, least-late t (min x d.deadline) debts)

-- where no debt is past, nothing that must be sent is
timely-all : (t : ℕ) (debts : List Debt) → All (λ d. t ≤ d.deadline) debts → is_timely t debts ≡ true
timely-all t [] all = refl
timely-all t (d ∷ debts) all = grind (arith, nat_tests, le-leb, All-head (λ d. t ≤ d.deadline) d debts all, All-tail (λ d. t ≤ d.deadline) d debts all, least-late t d.deadline debts, timely-all t debts)

-- where no gain is past, a row is timely
pub none_late : (gains : Gains) (strikes : List Strike) (a : Account) (t : ℕ) → AreGains gains → ((k : ℕ) → IsUndropped gains k → t ≤ (entry_at (entries_of gains) k).deadline) →
    is_timely t (account_debts gains strikes a) ≡ true
none_late gains strikes a t are late = timely-all t (account_debts gains strikes a) (debts-late gains strikes a t are late)

-- lemmas for the prover under one name: what rows owe once some of them have gained a debt
pub ruleset gained_by_rows = (nat_tests, common_steps, changing-all, length-map, changing-front, gained-grown, gained-more, gained-over, on-error)

-- a row with no debt that the send pays is left out
pub other-row : (message t : ℕ) (owes : List Debt) → list_any (is_payable message t) owes ≡ false → [] ≡ paid_rows message t (owes ∷ [])
other-row message t owes none = ap (λ b. map (λ owes. filter (counts_at t) (paid_by message t owes)) (cond b (owes ∷ []) [])) (sym (ap (λ b. b && is_timely t owes) none))

-- the paid rows up to the next one are those up to this one, and this one if it is paid
next-left : (message t from k : ℕ) (old : List (List Debt)) (owes : List Debt) (d : List (List Debt)) → d ≡ paid_rows message t (owes ∷ []) → owes ≡ owed_in old k → from ≤ k →
    k < length old → paid_rows message t (from_to from k old) ++ d ≡ paid_rows message t (from_to from (k + 1) old)
next-left message t from k old owes d debts same low within = grind (arith, nat_tests, common_steps, passing-more, map-append)

-- the accounts owe what the old rows owed, and after them what is left to each paid row from `from` up to k
pub record ArePaidTo (gains : Gains) (message t from k : ℕ) (old : List (List Debt)) (strikes : List Strike) (rows : List Account) : Type 0 where
  pub accounts : AreAccounts gains strikes rows
  pub debts : accounts_debts gains strikes rows ≡ old ++ paid_rows message t (from_to from k old)

-- What follows is of the rows from `from` up to k, of which a send of a message at the moment t pays a debt one after the other.
module _ {gains : Gains} {message t from k : ℕ} {old : List (List Debt)} {strikes : List Strike} {rows : List Account} where
  -- a row of the old ones is one of the accounts, with the debts that it had
  pub account-there : (row : ℕ) (a : Account) → ArePaidTo gains message t from k old strikes rows → row < length old → a ≡ get_or rows row a →
      IsAccount gains strikes a × (account_debts gains strikes a ≡ owed_in old row)
  account-there row a are within is =
      let more = paid_rows message t (from_to from k old) in
      let at = account-at row a are.accounts are.debts (omega (arith, within, length-append old more)) is in
      (at.0, at.1 ∙ get_or_append_left old more [] row within)

  -- ArePaidTo stays true where strikes are put after the others
  pub paid-grown : (new : List Strike) → take (length strikes) new ≡ strikes → ArePaidTo gains message t from k old strikes rows → ArePaidTo gains message t from k old new rows
  paid-grown new kept are = let all = unchanged new kept are.accounts in grind (arith, all)

  -- ArePaidTo goes on with the next row, which is put after the others if it is paid
  pub paid-next : (owes : List Debt) (left : Option Account) → ArePaidTo gains message t from k old strikes rows → IfSome left (IsAccount gains strikes) →
      map (account_debts gains strikes) (option_to_list left) ≡ paid_rows message t (owes ∷ []) → owes ≡ owed_in old k → from ≤ k → k < length old →
      ArePaidTo gains message t from (k + 1) old strikes (rows ++ option_to_list left)
  paid-next owes None are is debts same low within = grind (arith, append-nil, next-left message t from k old owes [])
  paid-next owes (Some b) are is debts same low within = record {
    accounts = record { gained = are.accounts.gained; each = All-push (IsAccount gains strikes) rows b are.accounts.each is };
    debts = grind (arith, map-append, append_assoc, next-left message t from k old owes (account_debts gains strikes b ∷ []));
  }

-- lemmas for the prover under one name: what a send pays of one row
pub ruleset paid_of_row = (paid-account, unpaid-account, unpaid-is, other-row, can-pay)

-- lemmas for the prover under one name: what a send pays of many rows
pub ruleset paid_of_rows = (from_to-end, length-map, account-there, length-append, paid-grown, paid-next, take-append_seam, on-error)

-- where the gain at the place is past, may be sent, and is taken out, the account has expired one place further
pub goes : (t : ℕ) (entries : List Entry) (m o o' o'' : ℕ → Bool) (place : ℕ) → IsExpiredTo t entries m o o' place → (entry_at entries place).deadline < t → m place ≡ false →
    IsWithout place o' o'' → IsExpiredTo t entries m o o'' (place + 1)
goes t entries m o o' o'' place was late may without = grind (arith, nat_tests, cases_eq, and-false, lt-leb)

-- an account that owes at each place just what counts still at t has the debts that count at t
finished : (gains : Gains) (old new : List Strike) (a b : Account) (t : ℕ) → b.soft ≡ a.soft →
    ((k : ℕ) → k < length (entries_of gains) → owes_at gains new b k ≡ (owes_at gains old a k && (must_at gains a k || nat_le t (entry_at (entries_of gains) k).deadline))) →
    account_debts gains new b ≡ filter (counts_at t) (account_debts gains old a)
unfolding account_debts
finished gains old new a b t soft each = grind (arith, listed-same, soft-must, listed-counting, get_or_default)

-- an account that has expired up to its end has the debts that count at t
pub expired-end : (gains : Gains) (old new : List Strike) (a b : Account) (t place : ℕ) → b.soft ≡ a.soft → b.end ≤ place →
    IsExpiredTo t (entries_of gains) (must_at gains a) (owes_at gains old a) (owes_at gains new b) place →
    account_debts gains new b ≡ filter (counts_at t) (account_debts gains old a)
expired-end gains old new a b t place soft end is =
    finished gains old new a b t soft (λ k within. grind (arith, nat_tests, cases_lt, past-end, is.gone k, is.later k))

-- where deadlines rise, and that of this place is not past, the account has expired whole
pub expired-rising : (gains : Gains) (old new : List Strike) (a b : Account) (t place : ℕ) → b.soft ≡ a.soft → AreGains gains → gains.rises ≡ true → IsUndropped gains place →
    t ≤ (entry_at (entries_of gains) place).deadline → IsExpiredTo t (entries_of gains) (must_at gains a) (owes_at gains old a) (owes_at gains new b) place →
    account_debts gains new b ≡ filter (counts_at t) (account_debts gains old a)
expired-rising gains old new a b t place soft gained rises kept early is =
    let count = entries_long gains gained.long in
    finished gains old new a b t soft (λ k within. grind (arith, nat_tests, cases_lt, count, rising_kept gains place k gained rises kept, is.gone k, is.later k))

-- the account b is a, without what is past at t before the place
pub record IsExpiring (gains : Gains) (old new : List Strike) (a b : Account) (t place : ℕ) : Type 0 where
  pub kept : take (length old) new ≡ old
  pub low : a.start ≤ place
  pub account : IsAccount gains new b
  pub soft : b.soft ≡ a.soft
  pub gone : IsExpiredTo t (entries_of gains) (must_at gains a) (owes_at gains old a) (owes_at gains new b) place

-- lemmas for the prover under one name: what is owed once what is past is dropped
pub ruleset expired_by_place = (soft-must, goes, take-length, empty-debts, entries_long, kept-start, expired-end, expired-rising, before-start, none-goes)
