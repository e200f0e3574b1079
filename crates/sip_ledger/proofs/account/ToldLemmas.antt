-- What an account owes, place by place: its debts, whether another account owes the same, and the least deadline of what it must send.
use Rattle.sip_ledger.proofs.Words.{blank, All, All-head, All-tail, fold, IfSome, list_any, MatchOption, max, min, ◌≡◌, ◌≢◌, ℕ, ◌+◌, ◌<◌, ◌≤◌, ◌==◌, ◌&&◌, ◌||◌, Bool, true, false, List, [], ◌∷◌, ◌++◌, length, refl, sym, ap, ◌∙◌, arith, append-nil, nat_tests, IsTrue, Option, Some, None, ◌↔◌, option_to_list, cases_eq, cases_lt, eq-eqb, eqb-true, false_from_ne_true, true≢false, append_cancel_left, length-append, length-take-le, slice_get, Debt, Account, Gains, Strike, debt_deadlines, earliest, debt_of, AreGains, IsAccount, IsAfter, SharesNext, account_debts, entries_of, entry_at, is_left, is_struck, must_at, owes_at, strikes_of, numbers_of, drop}
use Rattle.sip_ledger.proofs.debts.OwedLemmas.{listed-any}
use Rattle.sip_ledger.proofs.gains.LeftLemmas.{left-kept, owed-left, rising_kept}
use Rattle.sip_ledger.proofs.debts.ListedLemmas.{back, back-set, front, front-gap, front-next, front-on, listed-each, listed-none, listed-same, parts}
use Rattle.sip_ledger.proofs.account.AccountLemmas.{kept-start, must-alike, must-below, must-from, owed-within, past-end, soft-must}
use Rattle.sip_ledger.proofs.account.WithoutLemmas.{before-start}

-- the debts are what an account owes before a place, at which it owes something or ends
pub record IsToldTo (gains : Gains) (strikes : List Strike) (a : Account) (place : ℕ) (debts : List Debt) : Type 0 where
  pub told : debts ≡ front (owes_at gains strikes a) (must_at gains a) (entries_of gains) place
  pub low : a.start ≤ place
  pub end : place ≤ a.end
  pub owed : place < a.end → owes_at gains strikes a place ≡ true

-- What follows is of one account a, by the list of what was gained and by what was struck from it.
module _ {gains : Gains} {strikes : List Strike} {a : Account} where
  -- an account owes nothing before its start
  pub told-none : {debts : List Debt} → IsAccount gains strikes a → debts ≡ [] → IsToldTo gains strikes a a.start debts
  told-none is none = grind (arith, nat_tests, listed-none, before-start, length-take-le)

  -- before the next place it owes one debt more: that of this place
  pub told-more : {place next : ℕ} {debt : Debt} {debts more : List Debt} → IsAccount gains strikes a → IsToldTo gains strikes a place debts → place < a.end → IsAfter gains strikes a (place + 1) next →
      debt ≡ debt_of (entry_at (entries_of gains) place) (must_at gains a place) → more ≡ debts ++ debt ∷ [] → IsToldTo gains strikes a next more
  told-more {place} {next} is was inside after debt_is more_is = grind (arith, nat_tests, front-gap, front-next)

  -- before the place after this one it owes one debt more: that of this place
  told-push : {place : ℕ} {debt : Debt} {debts : List Debt} → IsAccount gains strikes a → IsToldTo gains strikes a place debts → place < a.end →
      debt ≡ debt_of (entry_at (entries_of gains) place) (must_at gains a place) → debts ++ debt ∷ [] ≡ front (owes_at gains strikes a) (must_at gains a) (entries_of gains) (place + 1)
  told-push {place} is was inside debt_is = grind (arith, was.told, debt_is, front-next (owes_at gains strikes a) (must_at gains a) (entries_of gains) place place blank)

  -- what it owes is what it owes before a place and from there on
  pub told-split : {place : ℕ} {debts : List Debt} → IsAccount gains strikes a → IsToldTo gains strikes a place debts →
      account_debts gains strikes a ≡ debts ++ back (owes_at gains strikes a) (must_at gains a) (entries_of gains) place
  unfolding account_debts
  told-split {place} is was = grind (arith, parts)

  -- what it owes is what it owes before a place of it, the debt of that place, and what it owes after it
  pub told-here : {place : ℕ} {debts : List Debt} → IsAccount gains strikes a → IsToldTo gains strikes a place debts → place < a.end →
      account_debts gains strikes a
      ≡ debts ++ debt_of (entry_at (entries_of gains) place) (must_at gains a place) ∷ back (owes_at gains strikes a) (must_at gains a) (entries_of gains) (place + 1)
  told-here {place} {debts} is was inside = grind (arith, told-split is was, back-set (owes_at gains strikes a) (must_at gains a) (entries_of gains) place blank)

  -- before its end it owes all of its debts
  pub told-all : {place : ℕ} {debts : List Debt} → IsAccount gains strikes a → IsToldTo gains strikes a place debts → a.end ≤ place → debts ≡ account_debts gains strikes a
  told-all {place} {debts} is was past =
      let none : back (owes_at gains strikes a) (must_at gains a) (entries_of gains) place ≡ [] =
      listed-none (owes_at gains strikes a) (must_at gains a) place (drop place (entries_of gains)) (λ k low high. past-end gains strikes a k (omega (arith, low, past))) in
      sym (told-split is was ∙ ap (λ l. debts ++ l) none ∙ append-nil debts)

  -- what it owes first is the debt of the place where it starts
  pub told-start : IsAccount gains strikes a → a.start < a.end → slice_get (account_debts gains strikes a) 0 ≡ Some (debt_of (entry_at (entries_of gains) a.start) (must_at gains a a.start))
  told-start is some = ap (λ l. slice_get l 0) (told-here is (told-none is refl) some)

-- an account with something left does not owe what an account at its end owes
longer : {gains : Gains} {strikes : List Strike} {one other : Account} {at beside : ℕ} {debts : List Debt} → IsAccount gains strikes one → IsAccount gains strikes other →
    IsToldTo gains strikes one at debts → IsToldTo gains strikes other beside debts → at < one.end → other.end ≤ beside → account_debts gains strikes one ≢ account_debts gains strikes other
longer {gains} {strikes} {one} {other} {at} {beside} {debts} is is_other told told_beside inside past same =
    let more = debt_of (entry_at (entries_of gains) at) (must_at gains one at) ∷ back (owes_at gains strikes one) (must_at gains one) (entries_of gains) (at + 1) in
    let equal : debts ++ more ≡ debts = sym (told-here is told inside) ∙ same ∙ sym (told-all is_other told_beside past) in
    absurd (omega (arith, ap length equal, length-append debts more))

-- both accounts owe the same before their places, at which each owes something or ends
pub record AreAt (gains : Gains) (strikes : List Strike) (one other : Account) (at beside : ℕ) : Type 0 where
  pub debts : List Debt
  pub told : IsToldTo gains strikes one at debts
  pub told_beside : IsToldTo gains strikes other beside debts

-- What follows is of two accounts that are compared, `one` and `other`, by one list of gains and what was struck from it.
module _ {gains : Gains} {strikes : List Strike} {one other : Account} (is : IsAccount gains strikes one) (is_other : IsAccount gains strikes other) where
  -- AreAt goes on with the next places of both accounts after what they share, where both owe the same debt at their places
  pub at-more : {at beside n next next_beside : ℕ} (d : Debt) → AreAt gains strikes one other at beside → at < one.end → beside < other.end →
      d ≡ debt_of (entry_at (entries_of gains) at) (must_at gains one at) → d ≡ debt_of (entry_at (entries_of gains) beside) (must_at gains other beside) →
      SharesNext gains strikes one other (at + 1) (beside + 1) n → IsAfter gains strikes one (at + 1 + n) next → IsAfter gains strikes other (beside + 1 + n) next_beside →
      AreAt gains strikes one other next next_beside
  at-more {at} {beside} {n} {next} {next_beside} d are inside inside_beside here there shares after after_beside =
      let same : front (owes_at gains strikes one) (must_at gains one) (entries_of gains) (at + 1 + n) ≡ front (owes_at gains strikes other) (must_at gains other) (entries_of gains) (beside + 1 + n) =
      grind (arith, nat_tests, told-push is are.told inside here, told-push is_other are.told_beside inside_beside there, front-on) in record {
        debts = front (owes_at gains strikes one) (must_at gains one) (entries_of gains) next;
        told = record { told = refl; low = omega (arith, are.told.low, after.within); end = after.within.1; owed = after.is };
        told_beside = record { told = grind (arith, same, front-gap); low = omega (arith, are.told_beside.low, after_beside.within); end = after_beside.within.1; owed = after_beside.is };
      }

  -- accounts that owe different debts at their places do not owe the same
  pub at-apart : {at beside : ℕ} → AreAt gains strikes one other at beside → at < one.end → beside < other.end →
      debt_of (entry_at (entries_of gains) at) (must_at gains one at) ≢ debt_of (entry_at (entries_of gains) beside) (must_at gains other beside) →
      account_debts gains strikes one ≢ account_debts gains strikes other
  at-apart {at} {beside} are inside inside_beside apart same =
      let rest = back (owes_at gains strikes one) (must_at gains one) (entries_of gains) (at + 1) in
      let rest_beside = back (owes_at gains strikes other) (must_at gains other) (entries_of gains) (beside + 1) in
      -- before the places both owe the same debts, so if all are the same, so are the debts at the places
      let equal = append_cancel_left are.debts (debt_of (entry_at (entries_of gains) at) (must_at gains one at) ∷ rest)
      (debt_of (entry_at (entries_of gains) beside) (must_at gains other beside) ∷ rest_beside)
      (sym (told-here is are.told inside) ∙ same ∙ told-here is_other are.told_beside inside_beside) in
      apart (cc equal)

  -- where one account is at its end, both owe the same exactly if the other one is at its end too
  pub end-same : {at beside : ℕ} → AreAt gains strikes one other at beside → at ≡ one.end → IsTrue (beside == other.end) ↔ (account_debts gains strikes one ≡ account_debts gains strikes other)
  end-same {at} {beside} are here = (
    λ same. sym (told-all is are.told (omega (arith, here))) ∙ told-all is_other are.told_beside (let there = eqb-true beside other.end same in omega (arith, there)),
    λ same. grind (arith, nat_tests, cases_eq, eq-eqb, longer is_other is are.told_beside are.told),
  )

  -- where one account is not at its end and the other is, they do not owe the same
  pub end-other : {at beside : ℕ} → AreAt gains strikes one other at beside → at ≢ one.end → other.end ≤ beside →
      IsTrue (at == one.end) ↔ (account_debts gains strikes one ≡ account_debts gains strikes other)
  end-other {at} are short past = grind (arith, nat_tests, longer is is_other are.told are.told_beside)

-- accounts that strike alike what is left at a place, which is in both, owe it alike
pub alike-struck : (gains : Gains) (strikes : List Strike) (one other : Account) (k : ℕ) → (one.start ≤ k) × (k < one.end) → (other.start ≤ k) × (k < other.end) →
    (is_left gains k ≡ true → is_struck (strikes_of strikes one) (entry_at (entries_of gains) k).message k ≡ true → is_struck (strikes_of strikes other) (entry_at (entries_of gains) k).message k ≡ true) →
    (is_left gains k ≡ true → is_struck (strikes_of strikes other) (entry_at (entries_of gains) k).message k ≡ true → is_struck (strikes_of strikes one) (entry_at (entries_of gains) k).message k ≡ true) →
    owes_at gains strikes one k ≡ owes_at gains strikes other k
unfolding owes_at
alike-struck gains strikes one other k in_one in_other too too_other = grind (arith, nat_tests, false_from_ne_true)

-- accounts with the same places and the same strikes owe the same
pub alike-debts : (gains : Gains) (strikes : List Strike) (one other : Account) → one.start ≡ other.start → one.end ≡ other.end → one.soft ≡ other.soft →
    strikes_of strikes one ≡ strikes_of strikes other → account_debts gains strikes one ≡ account_debts gains strikes other
unfolding account_debts owes_at
alike-debts gains strikes one other start end soft own = grind (arith, nat_tests, listed-same, soft-must)

-- lemmas for the prover under one name: at which places two accounts owe the same, and whether they do so at all
pub ruleset shared_by_places = (alike-struck, must-alike, alike-debts, kept-start, told-none)

-- whether one of the debts must be sent, and until this moment
unfoldable pub has_due : ℕ → List Debt → Bool
has_due moment debts = list_any (λ debt. debt.must && debt.deadline == moment) debts

-- the debt need not be sent, or not before m
abbrev IsLate : ℕ → Debt → Type 0
IsLate m debt = debt.must ≡ true → m ≤ debt.deadline

-- the least of a moment and of the deadlines of what must be sent is m where it or one of them is m, and none is below m
least-fold : (x m : ℕ) (debts : List Debt) → m ≤ x → All (IsLate m) debts → (x == m || has_due m debts) ≡ true → fold min x (debt_deadlines debts) ≡ m
unfolding has_due
least-fold x m [] low all is = grind (arith, nat_tests)
least-fold x m (d ∷ debts) low all is = grind (arith, nat_tests, All-head (IsLate m) d debts all, All-tail (IsLate m) d debts all, least-fold x m debts, least-fold (min x d.deadline) m debts)

-- a moment is the least deadline of what must be sent where it is that of one such debt, and none has an earlier one
least-is : (m : ℕ) (debts : List Debt) → All (IsLate m) debts → has_due m debts ≡ true → Some m ≡ earliest (debt_deadlines debts)
unfolding has_due
least-is m [] all is = absurd (true≢false (sym is))
least-is m (d ∷ debts) all is = grind (arith, nat_tests, All-head (IsLate m) d debts all, All-tail (IsLate m) d debts all, least-fold d.deadline m debts, least-is m debts)

-- where no debt must be sent, there is no least deadline
least-none : (debts : List Debt) → All (λ d. d.must ≡ false) debts → None ≡ earliest (debt_deadlines debts)
least-none [] none = refl
least-none (d ∷ debts) none = grind (arith, nat_tests, All-head (λ d. d.must ≡ false) d debts none, least-none debts (All-tail (λ d. d.must ≡ false) d debts none))

-- `least` is the least deadline of what the account must send before the place; where deadlines rise there is none yet
pub record IsLeastTo (gains : Gains) (strikes : List Strike) (a : Account) (from : ℕ) (least : Option ℕ) : Type 0 where
  pub is : IfSome least (λ m. has_due m (account_debts gains strikes a) ≡ true)
  pub low : (k : ℕ) → k < from → owes_at gains strikes a k ≡ true → must_at gains a k ≡ true → MatchOption least ⊥ (λ m. m ≤ (entry_at (entries_of gains) k).deadline)
  pub soft : a.soft ≤ from
  pub none : gains.rises ≡ true → least ≡ None

-- a gain that must be sent was gained so, at `soft` or after it
must-parts : (gains : Gains) (a : Account) (k : ℕ) → must_at gains a k ≡ true → (numbers_of gains.musts k ≡ true) × (a.soft ≤ k)
must-parts gains a k is = grind (arith, nat_tests, cases_lt, false_from_ne_true, true≢false, must-below, must-from)

-- What follows is of one account and what it must send, over places from `from` up to `at`.
module _ (gains : Gains) (strikes : List Strike) (a : Account) where
  -- what is owed and must be sent at a place is a debt that must be sent
  due-there : (k : ℕ) → IsAccount gains strikes a → owes_at gains strikes a k ≡ true → must_at gains a k ≡ true →
      has_due (entry_at (entries_of gains) k).deadline (account_debts gains strikes a) ≡ true
  unfolding account_debts has_due
  due-there k is owed must = grind (arith, nat_tests, listed-any, owed-within, eq-eqb)

  -- a moment is the least deadline where it is that of a debt that must be sent, and no place that is owed and must be sent has an earlier one
  least-of : (m : ℕ) → has_due m (account_debts gains strikes a) ≡ true → ((k : ℕ) → owes_at gains strikes a k ≡ true → must_at gains a k ≡ true → m ≤ (entry_at (entries_of gains) k).deadline) →
      Some m ≡ earliest (debt_deadlines (account_debts gains strikes a))
  unfolding account_debts
  least-of m is low =
      least-is m (account_debts gains strikes a) (listed-each (IsLate m) (owes_at gains strikes a) (must_at gains a) (entries_of gains) (λ k below. low k)) is

  -- IsLeastTo holds at the later one of the start and the `soft` of an account, with no deadline
  pub least-first : (from : ℕ) → a.soft ≤ from → from ≤ max a.start a.soft → IsLeastTo gains strikes a from None
  least-first from soft low = grind (arith, nat_tests, cases_lt, true≢false, before-start, must-parts)

  -- where deadlines rise, and nothing before a place is owed and must be sent, what is owed there and must be sent has the least deadline
  pub leading : (at : ℕ) → AreGains gains → IsAccount gains strikes a → gains.rises ≡ true → owes_at gains strikes a at ≡ true → must_at gains a at ≡ true →
      ((k : ℕ) → k < at → owes_at gains strikes a k ≡ true → ¬ (must_at gains a k ≡ true)) → Some (entry_at (entries_of gains) at).deadline ≡ earliest (debt_deadlines (account_debts gains strikes a))
  leading at are is rises owed must none =
      least-of (entry_at (entries_of gains) at).deadline (due-there at is owed must) (λ k owed_k must_k. grind (arith, nat_tests, cases_lt, left-kept, owed-left, none k, rising_kept gains at k are rises))

  -- where nothing that must be sent was gained from `from` up to the account's end, the least deadline so far is that of all
  pub least-last : {from : ℕ} (at : ℕ) (least : Option ℕ) → IsLeastTo gains strikes a from least → ((k : ℕ) → from ≤ k → k < at → numbers_of gains.musts k ≡ false) → a.end ≤ at →
      least ≡ earliest (debt_deadlines (account_debts gains strikes a))
  unfolding account_debts
  least-last at None was gap past =
      least-none (account_debts gains strikes a) (listed-each (λ d. d.must ≡ false) (owes_at gains strikes a) (must_at gains a) (entries_of gains) (λ k below owed.
      false_from_ne_true (must_at gains a k) (λ must. grind (arith, nat_tests, cases_lt, true≢false, owed-within, must-parts gains a k must, was.low k))))
  least-last at (Some m) was gap past = least-of m was.is (λ k owed must. grind (arith, nat_tests, cases_lt, true≢false, owed-within, must-parts gains a k must, was.low k))

-- What follows is of an account of which the least deadline is known before the place `from`, and from there up to `at` nothing was gained that must be sent.
module _ {gains : Gains} {strikes : List Strike} {a : Account} {from at : ℕ} {least : Option ℕ} (was : IsLeastTo gains strikes a from least) (order : from ≤ at)
    (gap : (k : ℕ) → from ≤ k → k < at → numbers_of gains.musts k ≡ false) where
  -- IsLeastTo goes on over a place that the account does not owe
  pub least-passed : owes_at gains strikes a at ≡ false → IsLeastTo gains strikes a (at + 1) least
  least-passed unowed = grind (arith, nat_tests, cases_lt, cases_eq, true≢false, must-parts, was, gap)

  -- IsLeastTo goes on over a place that is owed and must be sent, with its deadline among the others
  pub least-found : {moment : ℕ} → IsAccount gains strikes a → numbers_of gains.musts at ≡ true → owes_at gains strikes a at ≡ true →
      Some moment ≡ earliest ((entry_at (entries_of gains) at).deadline ∷ option_to_list least) → gains.rises ≡ false → IsLeastTo gains strikes a (at + 1) (Some moment)
  least-found account held owed is falls =
      let there = due-there gains strikes a at account owed (sym (must-from gains a at (omega (arith, was.soft, order))) ∙ held) in
      grind (arith, nat_tests, cases_lt, cases_eq, true≢false, must-parts, there, was, gap)

  -- where deadlines rise, the first one that is found is the least of all
  pub least-first_due : {moment : ℕ} → AreGains gains → IsAccount gains strikes a → numbers_of gains.musts at ≡ true → owes_at gains strikes a at ≡ true →
      Some moment ≡ earliest ((entry_at (entries_of gains) at).deadline ∷ option_to_list least) → gains.rises ≡ true → Some moment ≡ earliest (debt_deadlines (account_debts gains strikes a))
  least-first_due gained is held owed here rises = grind (arith, nat_tests, cases_lt, true≢false, must-parts, must-from, leading, was, gap)

-- lemmas for the prover under one name: what an account owes, from debt to debt
pub ruleset told_by_place = (kept-start, told-none, told-all)

-- lemmas for the prover under one name: the least deadline of what an account must send first
pub ruleset led_by_start = (before-start, kept-start, leading)
