-- Which gains the strikes of an account strike, once strikes are longer, written anew or looked for, and gains are let go: m is a message, and k a place.
-- sm is the message of a strike, and mp that of the gain at a place.
use Rattle.sip_ledger.proofs.Words.{◌≡◌, ℕ, zero, suc, ◌+◌, ◌-◌, ◌<◌, ◌≤◌, ◌==◌, ◌&&◌, ◌||◌, Bool, true, false, List, [], ◌∷◌, ◌++◌, length, take, drop, get_or, set, filter, refl, sym, ap, ap₂, ◌∙◌, arith, nat_le, nat_lt, list_any, or-false, or_assoc, true≢false, nat_tests, list_any-append, list_any_at, take-append_seam, drop-append_seam, drop-append-le, drop-set-add, get_or_default, get_or-drop, length-drop, take-append-le, take-set-le, take_more, Account, Strike, Gains, IsWritten, Reaches, StrikeToo, entries_of, entry_at, is_left, is_struck, strikes_of, is_out, All, cases_eq, cases_lt, All-push, All-weaker, AreGains, AreKept, IsClearedTo, IsDropped, IsLetGo, StartFrom, owes_at, common_steps, map, max, false_from_ne_true, or_parts, append_assoc, map-append, All-get_or, AreAppended, AreMoved, AreStruckToo, IsAccount, IsMoved, StrikesNoneFrom, account_debts, holds}
use Rattle.sip_ledger.proofs.gains.LeftLemmas.{held_left}
use Rattle.sip_ledger.proofs.account.AccountLemmas.{OwesAlike, dropped-alike, let_go-alike, over-all, past-end, kept-all, soft-must}
use Rattle.sip_ledger.proofs.account.WithoutLemmas.{before-start}
use Rattle.sip_ledger.proofs.debts.ListedLemmas.{listed-same}

-- those of the strikes that end after the place `start`
abbrev pub ending : ℕ → List Strike → List Strike
ending start strikes = filter (λ s. nat_lt start s.to) strikes

-- strikes that end at the start or before it may be left out: the others strike the same from there on
any-ending : (m k start : ℕ) (xs : List Strike) → start ≤ k → list_any (is_out m k) (ending start xs) ≡ list_any (is_out m k) xs
any-ending m k start [] above = refl
any-ending m k start (s ∷ xs) above = grind (arith, nat_tests, any-ending m k start xs above)

-- where no strike passes a test, none of those that end after the start does
none-ending : (p : Strike → Bool) (start : ℕ) (xs : List Strike) → list_any p xs ≡ false → list_any p (ending start xs) ≡ false
none-ending p start [] none = refl
none-ending p start (s ∷ xs) none = grind (arith, none-ending p start xs)

-- where the strike at a place is replaced, some strike passes if one did before, or if q holds
any-set : (p : Strike → Bool) (q : Bool) (xs : List Strike) (at : ℕ) (s : Strike) → at < length xs → p s ≡ (p (get_or xs at s) || q) →
    list_any p (set xs at s) ≡ (list_any p xs || q)
any-set p q [] at s within same = grind arith
any-set p q (x ∷ xs) zero s within same = grind arith
any-set p q (x ∷ xs) (suc at) s within same = grind (arith, any-set p q xs at s)

-- a strike strikes nothing at its end or after it
pub struck-by_end : (m k sm from to : ℕ) → to ≤ k → (sm == m && (nat_le from k && nat_lt k to)) ≡ false
struck-by_end m k sm from to past = grind (arith, nat_tests)

-- where a strike is made longer up to a place, its message is struck from its old end up to there too
lengthened : (place m k : ℕ) (old : List Strike) (at : ℕ) (was : Strike) → at < length old → was ≡ get_or old at was → was.to ≤ place →
    is_struck (set old at (record { message = was.message; from = was.from; to = place + 1 })) m k
    ≡ (is_struck old m k || is_out m k (record { message = was.message; from = max was.from was.to; to = place + 1 }))
unfolding is_struck
lengthened place m k old at was within is low =
    let longer : Strike = record { message = was.message; from = was.from; to = place + 1 } in
    any-set (is_out m k) (is_out m k (record { message = was.message; from = max was.from was.to; to = place + 1 })) old at longer within
    (grind (arith, nat_tests, get_or_default old at was longer within))

-- from the end of a strike up to the place that it reaches, only the gain at that place is left of its message
longer-there : (gains : Gains) (place k : ℕ) (s : Strike) → Reaches gains place s → is_left gains k ≡ true →
    is_out (entry_at (entries_of gains) k).message k (record { message = s.message; from = max s.from s.to; to = place + 1 }) ≡ (k == place)
longer-there gains place k s reaches left =
    let mp = (entry_at (entries_of gains) place).message in grind (arith, nat_tests, true≢false, held_left gains mp k, reaches.between k, cases_eq)

-- strikes with one more strike what they struck and what the new one strikes
pub struck-push : (xs : List Strike) (s : Strike) (m k : ℕ) → is_struck (xs ++ s ∷ []) m k ≡ (is_struck xs m k || is_out m k s)
unfolding is_struck
struck-push xs s m k = list_any-append (is_out m k) xs (s ∷ []) ∙ ap (λ b. list_any (is_out m k) xs || b) (or-false (is_out m k s))

-- one strike more strikes what the others did, and what it strikes itself
pub struck-next : (xs : List Strike) (at m k : ℕ) (d : Strike) → at < length xs → is_struck (take (at + 1) xs) m k ≡ (is_struck (take at xs) m k || is_out m k (get_or xs at d))
struck-next xs at m k d within = ap (λ l. is_struck l m k) (take_more xs at d within) ∙ struck-push (take at xs) (get_or xs at d) m k

-- where one of the strikes from `first` on reaches up to the place, and is made longer, they strike the gain at the place too
pub longer_too : (gains : Gains) (place first at : ℕ) (old : List Strike) (was : Strike) → Reaches gains place was → was ≡ get_or old at was → first ≤ at → at < length old →
    StrikeToo gains place first old (set old at (record { message = was.message; from = was.from; to = place + 1 }))
longer_too gains place first at old was reaches is low within =
    -- `own` are the strikes from `first` on, and i is the index of the longer one among them
    let own = drop first old in
    let i = at - first in
    let longer : Strike = record { message = was.message; from = was.from; to = place + 1 } in
    let here : at ≡ first + i = omega (arith, low) in
    let inside : i < length own = omega (arith, within, length-drop first old) in
    let there : was ≡ get_or own i was = is ∙ ap (λ n. get_or old n was) here ∙ sym (get_or-drop first old i was) in
    let whole : set old at longer ≡ set old (first + i) longer = ap (λ n. set old n longer) here in
    let rest : drop first (set old at longer) ≡ set own i longer = ap (drop first) whole ∙ drop-set-add first old i longer in
    -- the strikes before `first` are as they were
    record {
      before = ap (take first) whole ∙ take-set-le first old (first + i) longer (omega arith);
      struck = λ k left. rw rest (lengthened place (entry_at (entries_of gains) k).message k own i was inside there reaches.to ∙ ap (λ b. is_struck own (entry_at (entries_of gains) k).message k || b) (longer-there gains place k was reaches left));
      bound = λ m k past none. rw rest (lengthened place m k own i was inside there reaches.to ∙ grind (arith, nat_tests, none, struck-by_end m k was.message (max was.from was.to) (place + 1)));
    }

-- where a new strike of the place is put after the others, the strikes strike the gain at the place too
pub more_too : (gains : Gains) (place first : ℕ) (old new : List Strike) → first ≤ length old →
    new ≡ old ++ (record { message = (entry_at (entries_of gains) place).message; from = place; to = place + 1 }) ∷ [] → StrikeToo gains place first old new
more_too gains place first old new within is = grind (arith, nat_tests, drop-append-le, take-append-le, struck-push, struck-by_end)

-- IsWritten holds once the account's strikes are written
pub written-none : (gains : Gains) (from : ℕ) (old new : List Strike) (a : Account) → new ≡ old ++ ending a.start (strikes_of old a) → IsWritten gains from from old new a
unfolding is_struck
written-none gains from old new a is = grind (arith, nat_tests, drop-append_seam, take-append_seam, any-ending, none-ending, or-false)

-- IsWritten goes on with the gain at the next place, where it is struck too
pub written-more : (gains : Gains) (from at : ℕ) (old one new : List Strike) (a : Account) → IsWritten gains from at old one a → StrikeToo gains at (length old) one new → from ≤ at →
    at < length (entries_of gains) → IsWritten gains from (at + 1) old new a
written-more gains from at old one new a w too low inside = grind (arith, nat_tests, or_assoc, cases_eq, cases_lt)

-- no strikes strike nothing
pub none-struck : (m k : ℕ) → is_struck [] m k ≡ false
unfolding is_struck
none-struck m k = refl

-- where neither the first i strikes nor the next one strikes the place, the first i + 1 do not strike it
pub struck-more : (xs : List Strike) (i m k : ℕ) (s : Strike) → i < length xs → is_struck (take i xs) m k ≡ false → is_out m k (get_or xs i s) ≡ false →
    is_struck (take (i + 1) xs) m k ≡ false
struck-more xs i m k s within none not = struck-next xs i m k s within ∙ ap₂ (λ a b. a || b) none not

-- what a strike strikes is of its message, and stands at its places
pub out-parts : (m sm from to k : ℕ) → (sm == m && (nat_le from k && nat_lt k to)) ≡ true → (sm ≡ m) × (from ≤ k) × (k < to)
out-parts m sm from to k is = (grind (arith, nat_tests), grind (arith, nat_tests), grind (arith, nat_tests))

-- where a strike strikes a place, it strikes each place from there up to its end
pub out-struck : (xs : List Strike) (i m k : ℕ) (s : Strike) → i < length xs → is_out m k (get_or xs i s) ≡ true →
    (k < (get_or xs i s).to) × ((j : ℕ) → k ≤ j → j < (get_or xs i s).to → is_struck xs m j ≡ true)
unfolding is_struck
out-struck xs i m k s within out = grind (arith, nat_tests, list_any_at, out-parts m (get_or xs i s).message (get_or xs i s).from (get_or xs i s).to k out)

-- what a strike strikes of what is left up to the place `to`, others strike too, where they do so before an earlier place, from which on nothing of its
-- message is left up to another one, from which on they strike it
pub alone-on : (gains : Gains) (s : Strike) (others : List Strike) (from place at to : ℕ) → AreStruckToo gains (λ m k. is_out m k s) others from place →
    ((k : ℕ) → place ≤ k → k < at → holds gains.messages s.message k ≡ false) → ((k : ℕ) → at ≤ k → k < to → k < s.to → is_struck others s.message k ≡ true) →
    AreStruckToo gains (λ m k. is_out m k s) others from to
unfolding is_left
alone-on gains s others from place at to was none struck = λ k low high left out.
    let parts = out-parts (entry_at (entries_of gains) k).message s.message s.from s.to k out in
    grind (arith, nat_tests, cases_lt, true≢false, parts, was k low, none k, struck k)

-- what one strike more strikes, others strike too
pub alone-more : (gains : Gains) (xs others : List Strike) (at from to to' : ℕ) (d : Strike) → at < length xs → AreStruckToo gains (is_struck (take at xs)) others from to → to' ≤ to →
    AreStruckToo gains (λ m k. is_out m k (get_or xs at d)) others from to' → AreStruckToo gains (is_struck (take (at + 1) xs)) others from to'
alone-more gains xs others at from to to' d within was less more = λ k low high left struck.
    grind (arith, nat_tests, or_parts, struck-next xs at (entry_at (entries_of gains) k).message k d within, was k, more k)

-- what one of the others strikes, they strike
pub alone-none : (gains : Gains) (others : List Strike) (at from to : ℕ) (d : Strike) → at < length others → AreStruckToo gains (λ m k. is_out m k (get_or others at d)) others from to
alone-none gains others at from to d within = λ k low high left out. (out-struck others at (entry_at (entries_of gains) k).message k d within out).1 k (omega arith) (out-struck others at (entry_at (entries_of gains) k).message k d within out).0

-- lemmas for the prover under one name: what some of the strikes strike
pub ruleset struck_by_some = (none-struck, out-struck, struck-more)

-- AreAppended goes on with a strike that is written
pub appended-more : (gains : Gains) (from : ℕ) (strikes old new new' : List Strike) (at : ℕ) (d : Strike) → at < length strikes → AreAppended gains from (take at strikes) old new →
    new' ≡ new ++ get_or strikes at d ∷ [] → AreAppended gains from (take (at + 1) strikes) old new'
appended-more gains from strikes old new new' at d within was is = grind (arith, nat_tests, common_steps, append_assoc, struck-push, struck-next, or_parts)

-- AreAppended goes on with a strike that is left out, since it strikes nothing that is left
pub appended-fewer : (gains : Gains) (from : ℕ) (strikes old new : List Strike) (at : ℕ) (d : Strike) → at < length strikes → AreAppended gains from (take at strikes) old new →
    StrikesNoneFrom gains from (get_or strikes at d) → AreAppended gains from (take (at + 1) strikes) old new
appended-fewer gains from strikes old new at d within was free =
    let next : (m k : ℕ) → is_struck (take (at + 1) strikes) m k ≡ (is_struck (take at strikes) m k || is_out m k (get_or strikes at d)) = λ m k. struck-next strikes at m k d within in
    record { more = was.more; whole = was.whole; thinned = grind (arith, nat_tests, next, was.thinned, free) }

-- a strike strikes nothing that is left from the place on, where nothing of its message is left at its places from there on
pub strikes-none : (gains : Gains) (place low : ℕ) (s : Strike) → low ≤ max s.from place → ((k : ℕ) → low ≤ k → k < s.to → holds gains.messages s.message k ≡ false) → StrikesNoneFrom gains place s
strikes-none gains place low s within none k above left =
    let m = (entry_at (entries_of gains) k).message in
    false_from_ne_true (is_out m k s) (λ out.
    let (same, from, high) = out-parts m s.message s.from s.to k out in
    true≢false (sym (held_left gains s.message k (sym same) ∙ left) ∙ none k (omega (arith, from, above, within)) high))

-- a moved account has the same debts
moved-debts : (gains : Gains) (strikes old new : List Strike) (a b : Account) → IsMoved gains strikes old new a b → account_debts gains new b ≡ account_debts gains strikes a
unfolding account_debts owes_at
moved-debts gains strikes old new a b moved = grind (arith, listed-same, soft-must, nat_tests, cases_lt, before-start)

-- a moved account is an account over the new strikes
moved-account : (gains : Gains) (strikes old new : List Strike) (a b : Account) → IsMoved gains strikes old new a b → IsAccount gains strikes a → IsAccount gains new b
unfolding owes_at
moved-account gains strikes old new a b moved is = grind (arith, nat_tests, moved-debts, cases_lt, before-start)

-- AreMoved goes on with one account more, once it is moved
pub moved-more : (gains : Gains) (strikes old new : List Strike) (rows rows' : List Account) (at : ℕ) (d b : Account) → at < length rows → AreMoved gains strikes (take at rows) old rows' →
    IsMoved gains strikes old new (get_or rows at d) b → All (IsAccount gains strikes) rows → AreMoved gains strikes (take (at + 1) rows) new (rows' ++ b ∷ [])
moved-more gains strikes old new rows rows' at d b within was moved each =
    let is = All-get_or (IsAccount gains strikes) rows at d within each in
    let kept = kept-all gains old new rows' moved.kept was.each in
    -- the account that was moved is right and owes the same, and so do those before it
    record {
      each = All-push (IsAccount gains new) rows' b kept.0 (moved-account gains strikes old new (get_or rows at d) b moved is);
      debts = map-append (account_debts gains new) rows' (b ∷ [])
          ∙ ap₂ (λ l d. l ++ d ∷ []) (kept.1 ∙ was.debts) (moved-debts gains strikes old new (get_or rows at d) b moved)
          ∙ sym (ap (map (account_debts gains strikes)) (take_more rows at d within) ∙ map-append (account_debts gains strikes) (take at rows) (get_or rows at d ∷ []));
    }

-- all accounts are kept where a gain is let go that none of them owes
pub kept-less : {first old new : Gains} {strikes : List Strike} {rows : List Account} {place : ℕ} → AreKept strikes rows first old → IsLetGo place old new →
    All (λ a. owes_at old strikes a place ≡ false) rows → AreKept strikes rows first new
kept-less {first} {old} {new} {strikes} {rows} {place} was gone unowed =
    let alike = All-weaker (λ a. owes_at old strikes a place ≡ false) (OwesAlike old new strikes) (λ a none. let_go-alike old new strikes a place gone none) rows unowed in
    grind (arith, over-all old new strikes rows, alike)

-- no account owes anything before the place from which on all start
pub none-before : (gains : Gains) (strikes : List Strike) (rows : List Account) (place k : ℕ) → StartFrom place rows → k < place → All (λ a. owes_at gains strikes a k ≡ false) rows
none-before gains strikes rows place k from early = grind (arith, nat_tests, All-weaker, cases_lt, before-start, past-end)

-- where the gain at the next place is let go, and all accounts start after it, the gains are cleared one place further
pub cleared-more : {first old new : Gains} {strikes : List Strike} {rows : List Account} (start place : ℕ) → IsClearedTo place strikes rows first old → IsLetGo place old new →
    StartFrom start rows → place < start → IsClearedTo (place + 1) strikes rows first new
cleared-more {first} {old} {new} {strikes} {rows} start place was gone from early =
    let kept = kept-less was.kept gone (none-before old strikes rows start place from early) in
    grind (arith, nat_tests, cases_eq, kept, gone, was)

-- all accounts are kept where gains are dropped that are cleared
pub cleared-dropped : {first old new : Gains} {strikes : List Strike} {rows : List Account} {place : ℕ} → IsClearedTo place strikes rows first old → IsDropped place old new → AreGains new →
    AreKept strikes rows first new
cleared-dropped {first} {old} {new} {strikes} {rows} {place} was dropped are =
    let all = over-all old new strikes rows (omega (arith, dropped.long)) (λ k d below. dropped-alike old new strikes (get_or rows k d) place dropped was.none) was.kept.accounts.each in
    record { accounts = record { gained = are; each = all.0 }; debts = all.1 ∙ was.kept.debts }
