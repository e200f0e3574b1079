-- The first debt of an account that a send at the moment t pays, of one message or of those that pass a test: k and `at` are places of gains.
use Rattle.sip_ledger.proofs.Words.{◌≡◌, ◌≢◌, ℕ, ◌<◌, ◌≤◌, ◌==◌, ◌&&◌, Bool, true, false, not, List, length, ◌+◌, refl, sym, ap, ◌∙◌, arith, All, All-weaker, IfNone, IfSome, IsTrue, MatchOption, Option, None, Some, nat_le, cases_lt, lt-ltb, true≢false, nat_tests, Entry, Account, Gains, Strike, IsFirstPaid, PaysSome, is_payable, AreGains, IsAccount, IsFirstHeld, IsFirstPaying, IsFirstPayable, IsUndropped, IsWithout, PaysSomeAt, account_debts, entries_of, entry_at, must_at, owes_at, pays_at, sooner, IsNextLeft, holds, ap₂, and-false, and_right, cases_eq, eq-eqb, le-leb, lt-leb, ne_eqb, paid_by, is_left, is_struck, strikes_of, eqb-true, subst}
use Rattle.std.specs.Option.{option_eq}
use lib.Dec.{eqb}
use Rattle.sip_numbers.specs.Numbers.{IsFirstInBoth}
use Rattle.sip_ledger.proofs.debts.ListedLemmas.{listed-each}
use Rattle.sip_ledger.proofs.debts.OwedLemmas.{removed, paid-behind, paid-is}
use Rattle.sip_ledger.proofs.gains.LeftLemmas.{held_left, left-kept, owed-left}
use Rattle.sip_ledger.proofs.account.AccountLemmas.{kept-start, owed-within, past-end, soft-must}
use Rattle.sip_ledger.proofs.account.WithoutLemmas.{before-start}

-- a send of the message does not pay a gain of another message
pub unnamed-unpaid : (entries : List Entry) (message t k : ℕ) → (entry_at entries k).message ≢ message → pays_at entries message t k ≡ false
unnamed-unpaid entries message t k other = ap (λ b. b && nat_le t (entry_at entries k).deadline) (ne_eqb (entry_at entries k).message message other)

-- a send of a message at t pays a gain of that message whose deadline is not past
pub named-pays : (entries : List Entry) (message t k : ℕ) → (entry_at entries k).message ≡ message → t ≤ (entry_at entries k).deadline → pays_at entries message t k ≡ true
named-pays entries message t k is early = ap₂ (λ a b. a && b) (eq-eqb (entry_at entries k).message message is) (le-leb t (entry_at entries k).deadline early)

-- the search for a debt of the message has come to the place `from`: nothing that the account owes before it is paid by a send of the message at t
pub record IsSoughtTo (gains : Gains) (strikes : List Strike) (a : Account) (message t from : ℕ) : Type 0 where
  pub low : a.start ≤ from
  pub before : (k : ℕ) → k < from → owes_at gains strikes a k ≡ true → pays_at (entries_of gains) message t k ≡ false

-- What follows is of a search that has come to one place, and goes on from there.
module _ {gains : Gains} {strikes : List Strike} {a : Account} {message t from : ℕ} (was : IsSoughtTo gains strikes a message t from) where
  -- on to the next place at which the message is left
  pub sought-at : (at : ℕ) → from ≤ at → ((k : ℕ) → from ≤ k → k < at → holds gains.messages message k ≡ false) → IsSoughtTo gains strikes a message t at
  sought-at at order others = record {
    low = omega (arith, was.low, order);
    before = λ k early owed. grind (arith, nat_tests, cases_lt, cases_eq, true≢false, held_left gains message k, owed-left gains strikes a k owed, unnamed-unpaid, was.before k, others k);
  }

  -- over places at which the message is struck
  pub sought-struck : (to : ℕ) → from < to → ((k : ℕ) → from ≤ k → k < to → is_struck (strikes_of strikes a) message k ≡ true) → IsSoughtTo gains strikes a message t to
  unfolding owes_at
  sought-struck to order struck = record {
    low = omega (arith, was.low, order);
    before = λ k early owed. grind (arith, nat_tests, cases_lt, cases_eq, true≢false, unnamed-unpaid, and_right, and-false, was.before k, struck k);
  }

  -- over a gain that is past
  pub sought-late : (entry_at (entries_of gains) from).deadline < t → IsSoughtTo gains strikes a message t (from + 1)
  sought-late late = record { low = omega (arith, was.low); before = λ k early owed. grind (arith, nat_tests, cases_eq, lt-leb, and-false, was.before k) }

  -- the first gain of the message that is left, not struck and not past is the first debt that a send pays
  pub first-payable : from < a.end → (entry_at (entries_of gains) from).message ≡ message → holds gains.messages message from ≡ true → is_struck (strikes_of strikes a) message from ≡ false →
      t ≤ (entry_at (entries_of gains) from).deadline → IsFirstPayable (entries_of gains) (owes_at gains strikes a) message t from
  unfolding owes_at
  first-payable high is held free early = grind (arith, nat_tests, held_left, named-pays, le-leb, lt-ltb, was.low, was.before)

-- where the first debt that a send pays is taken out of an account, the account owes the debts that the payment leaves
pub paid-account : (gains : Gains) (old new : List Strike) (a b : Account) (message t place : ℕ) → IsAccount gains old a →
    IsFirstPayable (entries_of gains) (owes_at gains old a) message t place →
    IsWithout place (owes_at gains old a) (owes_at gains new b) → b.soft ≡ a.soft →
    account_debts gains new b ≡ paid_by message t (account_debts gains old a)
unfolding account_debts
paid-account gains old new a b message t place is found without soft =
    let one = removed (λ debt. IsTrue (is_payable message t debt)) (entries_of gains) (owes_at gains old a) (must_at gains a) (owes_at gains new b) (must_at gains b) place in
    grind (arith, nat_tests, one, paid-is message t, owed-within, soft-must, true≢false)

-- where a send pays nothing that an account owes, it pays none of its debts
pub unpaid-account : (gains : Gains) (strikes : List Strike) (a : Account) (message t : ℕ) →
    ((k : ℕ) → owes_at gains strikes a k ≡ true → pays_at (entries_of gains) message t k ≡ false) →
    All (λ debt. ¬ (IsTrue (is_payable message t debt))) (account_debts gains strikes a)
unfolding account_debts
unpaid-account gains strikes a message t none =
    listed-each (λ debt. ¬ (IsTrue (is_payable message t debt))) (owes_at gains strikes a) (must_at gains a) (entries_of gains) (λ k below owed pays. true≢false (sym pays ∙ none k owed))

-- from its start on and before its end an account owes what is not gone
pub owes-inside : (gains : Gains) (strikes : List Strike) (a : Account) (k : ℕ) → a.start ≤ k → k < a.end → owes_at gains strikes a k ≡ (is_left gains k && not (is_struck (strikes_of strikes a) (entry_at (entries_of gains) k).message k))
unfolding owes_at
owes-inside gains strikes a k low high = grind (arith, le-leb, lt-ltb)

-- lemmas for the prover under one name: whether an account owes what was gained at a place
pub ruleset owed_at_place = (nat_tests, cases_eq, cases_lt, true≢false, past-end, before-start, owed-left, owes-inside, kept-start)

-- a gain that a send pays is of its message, and not past
pays-parts : (message t : ℕ) (entry : Entry) → (entry.message == message && nat_le t entry.deadline) ≡ true → (entry.message ≡ message) × (t ≤ entry.deadline)
pays-parts message t entry pays = (grind (arith, nat_tests), grind (arith, nat_tests))

-- `first` is the first place that a send at t of a message that passes the test pays, as far as messages are below `from`: what is owed and paid before it
-- has a message from there on
pub record IsFirstTo (entries : List Entry) (owes : ℕ → Bool) (test : ℕ → Bool) (t from : ℕ) (first : Option ℕ) : Type 0 where
  pub is : IfSome first (λ p. (owes p ≡ true) × PaysSomeAt entries test t p)
  pub rest : (k : ℕ) → IfSome first (λ p. k < p) → owes k ≡ true → PaysSomeAt entries test t k → from ≤ (entry_at entries k).message

-- What follows is of the search of `find_first`: of one account, the test of messages, the moment t, and the message from which the search goes on.
module _ (gains : Gains) (strikes : List Strike) (a : Account) {test : ℕ → Bool} {t from : ℕ} where
  -- the first place so far is the first of all where nothing that is owed has a message from `from` on that passes the test
  pub first-all : (first : Option ℕ) → IsFirstTo (entries_of gains) (owes_at gains strikes a) test t from first →
      ((k : ℕ) → IfSome first (λ p. k < p) → owes_at gains strikes a k ≡ true → test (entry_at (entries_of gains) k).message ≡ true → ¬ (from ≤ (entry_at (entries_of gains) k).message)) →
      IsFirstPaying (entries_of gains) (owes_at gains strikes a) test t first
  first-all None was none = λ k owed pays. none k tt owed pays.0 (was.rest k tt owed pays)
  first-all (Some p) was none = (was.is.0, was.is.1, λ k early owed pays. none k early owed pays.0 (was.rest k early owed pays))

  -- where the next message that passes the test and is left does not pay a gain that a message from there on pays, that is a greater one
  passed : {message : ℕ} (k : ℕ) → IsNextLeft gains.messages test from message → owes_at gains strikes a k ≡ true → from ≤ (entry_at (entries_of gains) k).message →
      PaysSomeAt (entries_of gains) test t k → pays_at (entries_of gains) message t k ≡ false → message + 1 ≤ (entry_at (entries_of gains) k).message
  passed {message} k next owed low pays unpaid =
      let m = (entry_at (entries_of gains) k).message in
      grind (arith, nat_tests, cases_lt, cases_eq, true≢false, next.none_before m k, held_left gains m k, owed-left, named-pays (entries_of gains) message t k)

  -- the next message is gone through too with the first place that is found for it
  pub one-found : {message : ℕ} (first place : Option ℕ) → IsFirstTo (entries_of gains) (owes_at gains strikes a) test t from first → IsNextLeft gains.messages test from message →
      IfSome place (IsFirstPayable (entries_of gains) (owes_at gains strikes a) message t) → IfNone place ((k : ℕ) → owes_at gains strikes a k ≡ true → pays_at (entries_of gains) message t k ≡ false) →
      IsFirstTo (entries_of gains) (owes_at gains strikes a) test t (message + 1) (sooner first place)
  one-found None None was next found none = record { is = tt; rest = λ k early owed pays. passed k next owed (was.rest k tt owed pays) pays (none k owed) }
  one-found None (Some q) was next found none = record {
    is = grind (arith, nat_tests, pays-parts);
    rest = λ k early owed pays. passed k next owed (was.rest k tt owed pays) pays (found.before k early owed);
  }
  one-found (Some p) None was next found none = record { is = was.is; rest = λ k early owed pays. passed k next owed (was.rest k early owed pays) pays (none k owed) }
  one-found (Some p) (Some q) was next found none = record {
    is = grind (arith, nat_tests, cases_lt, pays-parts);
    rest = λ k early owed pays. passed k next owed (was.rest k (omega arith) owed pays) pays (found.before k (omega arith) owed);
  }

  -- where nothing is left of messages from `from` on that pass the test, what was found is the first of all
  pub first-left : (first : Option ℕ) → IsFirstTo (entries_of gains) (owes_at gains strikes a) test t from first → ((m k : ℕ) → from ≤ m → test m ≡ true → holds gains.messages m k ≡ false) →
      IsFirstPaying (entries_of gains) (owes_at gains strikes a) test t first
  first-left first was none = first-all first was (λ k early owed passes low.
      let m = (entry_at (entries_of gains) k).message in grind (arith, true≢false, none m k, held_left gains m k, owed-left))

-- the place of a debt that is found is kept
pub found-kept : (gains : Gains) (strikes : List Strike) (a : Account) (message t : ℕ) (place : Option ℕ) → AreGains gains →
    IfSome place (IsFirstPayable (entries_of gains) (owes_at gains strikes a) message t) → IfSome place (IsUndropped gains)
found-kept gains strikes a message t None gained found = tt
found-kept gains strikes a message t (Some p) gained found = left-kept gains p gained (owed-left gains strikes a p found.owed)

-- where no gain before the place of a message has a greater one, nothing greater comes before what is found
pub newest-first : (gains : Gains) (strikes : List Strike) (a : Account) {test : ℕ → Bool} {t : ℕ} (message : ℕ) (first place : Option ℕ) → AreGains gains →
    IfSome place (IsFirstPayable (entries_of gains) (owes_at gains strikes a) message t) →
    MatchOption place ⊥ (λ p. (k : ℕ) → k ≤ p → IsUndropped gains k → (entry_at (entries_of gains) k).message ≤ (entry_at (entries_of gains) p).message) →
    IsFirstTo (entries_of gains) (owes_at gains strikes a) test t (message + 1) (sooner first place) → IsFirstPaying (entries_of gains) (owes_at gains strikes a) test t (sooner first place)
newest-first gains strikes a message first None gained found newest was = absurd newest
newest-first gains strikes a message first (Some p) gained found newest was = first-all gains strikes a (sooner first (Some p)) was (λ k early owed under low. grind (arith, nat_tests, pays-parts, left-kept, owed-left))

-- where a test finds the number itself first, the number passes it
pub found-self : (test : ℕ → Bool) (number : ℕ) (found : Option ℕ) → true ≡ option_eq eqb found (Some number) → IfSome found (IsFirstInBoth test test number) → test number ≡ true
found-self test number None same first = absurd (true≢false same)
found-self test number (Some n) same first = subst (λ k. test k ≡ true) (eqb-true n number (sym same)) first.in_one

-- where the account owes the first place of all at which a message that passes the test is left, and a send pays that, it is the first that a send pays
pub led-first : (gains : Gains) (strikes : List Strike) (a : Account) {test : ℕ → Bool} {t place message : ℕ} → AreGains gains → IsFirstHeld gains.messages test (place, message) →
    owes_at gains strikes a place ≡ true → t ≤ (entry_at (entries_of gains) place).deadline → test message ≡ true →
    IsFirstPaying (entries_of gains) (owes_at gains strikes a) test t (Some place)
led-first gains strikes a {test} {t} {place} {message} gained led owed early passes =
    let is = (gained.messages message place led.held).1 in (
      owed,
      (subst (λ n. test n ≡ true) (sym is) passes, early),
      λ k before its pays. omega (arith, before, led.first (entry_at (entries_of gains) k).message k pays.0 (held_left gains _ k refl ∙ owed-left gains strikes a k its)),
    )

-- What follows is of one account, and what a send at the moment t of a message that passes the test pays of it.
module _ (gains : Gains) (strikes : List Strike) (a : Account) (test : ℕ → Bool) (t : ℕ) where
  -- whether the account owes what was gained at a place
  abbrev owed : ℕ → Bool
  owed = owes_at gains strikes a

  -- a send of the message at the first place takes out the first debt that a message that passes the test pays
  pub first-account : (place : ℕ) → IsAccount gains strikes a → IsFirstPaying (entries_of gains) owed test t (Some place) →
      IsFirstPaid (PaysSome test t) t (account_debts gains strikes a) (Some (entry_at (entries_of gains) place).message)
  unfolding account_debts
  first-account place is found =
      let entries = entries_of gains in
      let must = must_at gains a in
      let message = (entry_at entries place).message in
      -- without the place the account owes the other places
      let less : ℕ → Bool = λ k. owed k && not (k == place) in
      let inside : place < length entries = omega (arith, owed-within gains strikes a place found.0, is.end) in
      let without : IsWithout place owed less = grind (arith, nat_tests) in
      let one = removed (PaysSome test t) entries owed must less must place inside found.0 without (λ k. refl) found.1 found.2 in
      -- a send of that message pays none of the debts before it, and the debt at the place
      let none = All-weaker (λ debt. ¬ (PaysSome test t debt)) (λ debt. ¬ (IsTrue (is_payable message t debt)))
      (λ debt not pays. not (grind (arith, nat_tests, found.1.0), grind (arith, nat_tests))) one.before one.none_before in
      let rest = ap (paid_by message t) one.whole ∙ paid-behind message t one.before one.first one.after none (named-pays entries message t place refl found.1.1) in
      (record { before = one.before; first = one.first; after = one.after; whole = one.whole; holds = one.holds; none_before = one.none_before; rest = rest }, refl)

  -- where no message that passes the test pays a gain that is owed, none pays a debt
  pub none-account : IsFirstPaying (entries_of gains) owed test t None → All (λ debt. ¬ (PaysSome test t debt)) (account_debts gains strikes a)
  unfolding account_debts
  none-account none = listed-each (λ debt. ¬ (PaysSome test t debt)) owed (must_at gains a) (entries_of gains) (λ k below here. none k here)

-- lemmas for the prover under one name: the first place that some messages pay
pub ruleset found_of_some = (first-left, found-kept)
