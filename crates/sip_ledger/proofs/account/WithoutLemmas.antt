-- An account loses one of its debts, or gains one: a is the account before and b after it, and `old` and `new` are the strikes before and after it.
-- w is the worth of the debt that is lost, and `print` the print without it, or that the new account has that print.
use Rattle.sip_ledger.proofs.Words.{◌≡◌, ◌≢◌, ℕ, ◌+◌, ◌<◌, ◌≤◌, ◌%◌, ◌^◌, ◌&&◌, true, false, List, [], ◌∷◌, ◌++◌, length, get_or, sym, ap, ◌∙◌, arith, nat_tests, nat_le, and_right, cases_lt, le-leb, lt-leb, lt-ltb, and-false, or-false, or-true, get_or_push, length-append, sum_by_push, mod-add-mod, Debt, Account, Gains, Strike, debts_print, worth_of, debt_of, IsAccount, IsAfter, IsGain, IsNextGain, IsStruck, KeepsAccounts, account_debts, entries_of, entry_at, is_left, is_struck, must_at, owes_at, strikes_of, numbers_of, common_steps, ◌-◌, lit<, eq-eqb, ne_eqb, true≢false, sum_by-append, sum_by-cons, mod_below, add-mod_right, mod-eq_of_lt, IsWithout}
use Rattle.sip_ledger.proofs.debts.OwedLemmas.{gained-debts, IsCut, cut-at}
use Rattle.sip_ledger.proofs.gains.LeftLemmas.{entries_long, held_left, left-kept, owed-left}
use Rattle.sip_ledger.proofs.account.AccountLemmas.{grown-alike, over-all, past-end, owed-within, same-keeps, soft-must}

-- the print of debts, with the worth of the one that was taken out, is the print of those of before
pub cut-print : {before after : List Debt} (debt : Debt) (old new : List Debt) → IsCut before debt after old new → (w : ℕ) → w ≡ worth_of debt.message debt.deadline →
    (debts_print new + w) % 2 ^ 64 ≡ debts_print old
unfolding debts_print
cut-print {before} {after} debt old new cut w is = grind (arith, nat_tests, common_steps, mod-add-mod, sum_by-append, sum_by-cons)

-- a print is a number of 64 bits: it is a remainder by 2^64, which is not 0 (`lit< tt`)
pub print-fits : (debts : List Debt) → debts_print debts < 2 ^ 64
unfolding debts_print
print-fits debts = mod_below _ (2 ^ 64) (lit< tt)

-- a number that was added modulo 2^64 can be taken away again
taken-print : (q w : ℕ) → q < 2 ^ 64 → w < 2 ^ 64 → ((q + w) % 2 ^ 64 + (2 ^ 64 - w)) % 2 ^ 64 ≡ q
taken-print q w fits less = grind (arith, nat_tests, mod-add-mod, add-mod_right, mod-eq_of_lt)

-- an account owes nothing before its start
pub before-start : (gains : Gains) (strikes : List Strike) (a : Account) (k : ℕ) → k < a.start → owes_at gains strikes a k ≡ false
unfolding owes_at
before-start gains strikes a k early = grind (arith, lt-leb)

-- a worth is a number of 64 bits: it is a remainder by 2^64, which is not 0 (`lit< tt`)
pub worth-fits : (m d : ℕ) → worth_of m d < 2 ^ 64
unfolding worth_of
worth-fits m d = mod_below _ (2 ^ 64) (lit< tt)

-- What follows is of an account that loses what it owes at a place.
module _ (gains : Gains) (old : List Strike) (a : Account) (place w print : ℕ) (is : IsAccount gains old a) (owed : owes_at gains old a place ≡ true)
    (worth : w ≡ worth_of (entry_at (entries_of gains) place).message (entry_at (entries_of gains) place).deadline) (printed : print ≡ (a.print + (2 ^ 64 - w)) % 2 ^ 64) where
  -- b is an account, and owes the others
  abbrev pub Loses : List Strike → Account → Type 0
  Loses new b = IsAccount gains new b × IsWithout place (owes_at gains old a) (owes_at gains new b)

  -- an account without one of its gains is an account, and owes the debts without that one
  without-account : (new : List Strike) (b : Account) → IsWithout place (owes_at gains old a) (owes_at gains new b) → b.soft ≡ a.soft → b.start ≤ b.end → b.end ≤ a.end → b.first ≤ b.last →
      b.last ≤ length new → ((m k : ℕ) → length (entries_of gains) ≤ k → is_struck (strikes_of new b) m k ≡ false) → (b.start < b.end → owes_at gains new b b.start ≡ true) → b.print ≡ print →
      IsAccount gains new b
  unfolding account_debts
  without-account new b without soft order end first last bound begins same =
      -- the debts are those of before without one, and the number made of them is without its share
      let cut = cut-at (entries_of gains) (owes_at gains old a) (must_at gains a) (owes_at gains new b) (must_at gains b) place (omega (arith, owed-within gains old a place owed, is.end)) owed without
      (λ k. soft-must gains a b k soft) in
      let less : w < 2 ^ 64 = rw worth (worth-fits (entry_at (entries_of gains) place).message (entry_at (entries_of gains) place).deadline) in
      let all = same ∙ printed ∙ ap (λ n. (n + (2 ^ 64 - w)) % 2 ^ 64) (is.print ∙ sym (cut-print (debt_of (entry_at (entries_of gains) place) (must_at gains a place)) (account_debts gains old a) (account_debts gains new b) cut w worth))
      ∙ taken-print (debts_print (account_debts gains new b)) w (print-fits (account_debts gains new b)) less in
      grind (arith, all)

  -- an account without its first debt begins with the next one
  pub without-first : (next : ℕ) → place ≡ a.start → IsAfter gains old a (place + 1) next → Loses old (record a { start = next; print = print })
  unfolding owes_at
  without-first next here after =
      let b : Account = record a { start = next; print = print } in
      let without : IsWithout place (owes_at gains old a) (owes_at gains old b) = grind (arith, nat_tests, before-start, cases_lt, le-leb, after.before) in
      (grind (arith, nat_tests, without-account old b, without, without.others next), without)

  -- an account without its last debt ends before it
  pub without-last : place ≢ a.start → place + 1 ≡ a.end → Loses old (record a { end = place; print = print })
  unfolding owes_at
  without-last later last =
      let b : Account = record a { end = place; print = print } in
      let without : IsWithout place (owes_at gains old a) (owes_at gains old b) = grind (arith, nat_tests, past-end, before-start, cases_lt, lt-ltb) in
      (grind (arith, nat_tests, cases_lt, true≢false, before-start, without-account old b, without, without.others a.start), without)

  -- an account without a debt between others has one strike more
  pub without-middle : (new : List Strike) (b : Account) → place ≢ a.start → IsStruck gains place (place + 1) old new a b → Loses new (record b { print = print })
  unfolding owes_at
  without-middle new b later struck =
      let c : Account = record b { print = print } in
      let without : IsWithout place (owes_at gains old a) (owes_at gains new c) = grind (arith, nat_tests, eq-eqb, or-true, and_right, and-false, cases_lt, before-start, ne_eqb, or-false) in
      (grind (arith, nat_tests, cases_lt, true≢false, before-start, without-account new c, without, without.others a.start), without)

-- the print of debts with one debt more is their print and the worth of that debt
pub print-more : (debts : List Debt) (debt : Debt) → debts_print (debts ++ debt ∷ []) ≡ (debts_print debts + worth_of debt.message debt.deadline) % 2 ^ 64
unfolding debts_print
print-more debts debt = grind (arith, sum_by_push, mod-add-mod)

-- an account that owes what was gained at one place more, after all that it owes, has that debt more, and is an account
pub gained-account : (gains : Gains) (old new : List Strike) (a b : Account) (debt : Debt) (place : ℕ) → IsAccount gains old a → IsNextGain gains old a debt place →
    owes_at gains new b place ≡ true → ((k : ℕ) → k ≢ place → owes_at gains new b k ≡ owes_at gains old a k) →
    b.soft ≡ a.soft → b.start ≤ place → b.end ≡ place + 1 → b.first ≤ b.last → b.last ≤ length new →
    ((m k : ℕ) → length (entries_of gains) ≤ k → is_struck (strikes_of new b) m k ≡ false) → (b.start < b.end → owes_at gains new b b.start ≡ true) →
    b.print ≡ (a.print + worth_of debt.message debt.deadline) % 2 ^ 64 →
    IsAccount gains new b × (account_debts gains new b ≡ account_debts gains old a ++ debt ∷ [])
unfolding account_debts must_at
gained-account gains old new a b debt place is next here others soft low end first last bound begins print =
    let entries = (entries_of gains) in
    -- the debt at the place is the one that was gained
    let due : must_at gains b place ≡ debt.must = grind (arith, nat_tests) in
    let same : debt_of (entry_at entries place) (must_at gains b place) ≡ debt = grind arith in
    let debts : account_debts gains new b ≡ account_debts gains old a ++ debt ∷ [] =
    gained-debts entries (owes_at gains old a) (must_at gains a) (owes_at gains new b) (must_at gains b) place next.gain.within
    (λ k past. past-end gains old a k (omega (arith, past, next.end))) here others
    (λ k other. ap (λ s. numbers_of gains.musts k && nat_le s k) soft)
    ∙ ap (λ d. account_debts gains old a ++ d ∷ []) same in
    -- it stands after all others, and the account is right with it
    let account : IsAccount gains new b = grind (arith, print-more) in
    (account, debts)

-- an account that owes nothing, and gains at a place, owes that gain alone
pub first-gain : (gains : Gains) (old new : List Strike) (a b : Account) (debt : Debt) (place : ℕ) → IsAccount gains old a → IsNextGain gains old a debt place → a.start ≡ a.end →
    b ≡ record { start = place; end = place + 1; soft = a.soft; first = 0; last = 0; print = b.print } → b.print ≡ (a.print + worth_of debt.message debt.deadline) % 2 ^ 64 →
    IsAccount gains new b × (account_debts gains new b ≡ account_debts gains old a ++ debt ∷ [])
unfolding owes_at is_struck
first-gain gains old new a b debt place is next none same print =
    -- the new account has no strikes and owes this place alone, and the old one owed nothing
    let own : strikes_of new b ≡ [] = grind arith in
    let here : owes_at gains new b place ≡ true = grind (arith, nat_tests, held_left) in
    let others : (k : ℕ) → k ≢ place → owes_at gains new b k ≡ owes_at gains old a k = grind (arith, before-start, past-end) in
    gained-account gains old new a b debt place is next here others (grind arith) (grind arith) (grind arith) (grind arith) (grind arith) (grind arith) (grind arith) print

-- an account that owes something gains at a place, where the gains between its end and the place are struck
pub more-gain : (gains : Gains) (old new : List Strike) (a p b : Account) (debt : Debt) (place : ℕ) → IsAccount gains old a → IsNextGain gains old a debt place → a.start ≢ a.end →
    IsStruck gains a.end place old new a p → b ≡ record p { end = place + 1; print = b.print } → b.print ≡ (a.print + worth_of debt.message debt.deadline) % 2 ^ 64 →
    IsAccount gains new b × (account_debts gains new b ≡ account_debts gains old a ++ debt ∷ [])
unfolding owes_at
more-gain gains old new a p b debt place is next some passed same print =
    -- the account begins where it did and ends with the place
    let order = is.order in
    let start : b.start ≡ a.start = ap (λ (x : Account). x.start) same ∙ ap (λ (x : Account). x.start) passed.same in
    let end : b.end ≡ place + 1 = ap (λ (x : Account). x.end) same in
    let own : strikes_of new b ≡ strikes_of new p = grind arith in
    -- the account owes the place, and of the other places those that it owed
    let left : is_left gains place ≡ true = sym (held_left gains debt.message place next.gain.message) ∙ next.gain.left in
    let free : is_struck (strikes_of new b) (entry_at (entries_of gains) place).message place ≡ false = grind (arith, nat_tests) in
    let here : owes_at gains new b place ≡ true = grind (arith, nat_tests) in
    let others : (k : ℕ) → k ≢ place → owes_at gains new b k ≡ owes_at gains old a k =
    λ k other. grind (arith, nat_tests, cases_lt, before-start, lt-leb, or-false, le-leb, lt-ltb, or-true, and_right, and-false, past-end) in
    gained-account gains old new a b debt place is next here others (grind arith) (grind arith) end (grind arith) (grind arith) (grind arith)
    (λ _. let other : a.start ≢ place = omega (arith, order, next.end, some) in
    ap (owes_at gains new b) start ∙ others a.start other ∙ is.begins (omega (arith, order, some)))
    print

-- the newest gain comes after all that an account owes, so the account can gain it next
pub new-gain : (old new : Gains) (strikes : List Strike) (a : Account) (debt : Debt) → IsGain debt old new → IsAccount old strikes a → IsNextGain new strikes a debt (length (entries_of old))
new-gain old new strikes a debt gain is = grind (arith, nat_tests, length-append, get_or_push)

-- accounts keep what they owe when a gain comes
pub gain-keeps : (old new : Gains) (debt : Debt) → IsGain debt old new → KeepsAccounts old new
gain-keeps old new debt gain =
    let more = length-append (entries_of old) ((record { message = debt.message; deadline = debt.deadline }) ∷ []) in
    record {
      each = λ strikes accounts are.
          over-all old new strikes accounts (omega (arith, ap length gain.entries, more)) (λ k d below. grown-alike old new debt strikes (get_or accounts k d) gain (are k d below).end) are;
    }

-- lemmas for the prover under one name: accounts keep what they owe, whether a gain comes or memory is refused
pub ruleset gains_keep = (nat_tests, common_steps, entries_long, gain-keeps, new-gain, same-keeps)

-- lemmas for the prover under one name: an account without what it owes at one place
pub ruleset lost_at_place = (entries_long, left-kept, owed-left, owed-within, without-first, without-last, without-middle)
