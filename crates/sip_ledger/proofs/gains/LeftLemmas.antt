-- The pairs of messages and places; which gains are left, whether their deadlines rise, what is known beside each by its flags, and what changes of that when gains come, are let go or are dropped.
use Rattle.sip_ledger.proofs.Words.{leb-true, nat_tests, ◌-◌, ◌<◌, ◌≤◌, List, [], ◌∷◌, ◌++◌, length, get_or, arith, cases_lt, cases_eq, get_or_append_left, get_or_push, length_push, Entry, AreRising, ◌≡◌, ◌≢◌, ℕ, Bool, ◌+◌, true, false, drop, set, ap, ◌∙◌, get_or-drop, get_or-set_other, get_or-set_same, length-append, length-drop, length-set, Debt, Gains, AreFlags, AreSameGains, IsDropped, IsGain, IsUndropped, IsLetGo, blank, entries_of, entry_at, is_left, no_flags, holds, suc, ◌^◌, ◌==◌, ◌&&◌, cond, sym, eq-eqb, false_from_ne_true, ne_eqb, true≢false, and-false, append_assoc, get_or-append_right, get_or_default, get_or_past, length-replicate, numbers_of, Account, Strike, debts_from, AreGains, IsNoted, owes_at, refl, pair_cmp, is_eq, is_gt, BTreeSet, IsKeyRangeOf, IsLowerBound, IsUpperBound, Included, Unbounded, UpdatesBy, IsFrom}
use Rattle.sip_ledger.proofs.debts.ListedLemmas.{listed-none}

-- where one pair comes or goes, all others are held as before
pub held_updated : (s n : BTreeSet (ℕ × ℕ)) (message place : ℕ) (here : Bool) → UpdatesBy pair_cmp (pair_cmp (message, place)) s n here →
    (m k : ℕ) → holds n.keys m k ≡ cond (m == message && k == place) here (holds s.keys m k)
unfolding holds
held_updated s n message place here updates m k =
    let same : is_eq (pair_cmp (message, place) (m, k)) ≡ (m == message && k == place) = grind (arith, nat_tests) in
    updates.0 (m, k) ∙ ap (λ x. cond x here (holds s.keys m k)) same

-- a pair from there on does not compare as greater
not_gt-from : (a b c d : ℕ) → IsFrom a b c d → is_gt (pair_cmp (a, b) (c, d)) ≡ false
not_gt-from a b c d h = let k = h.messages in let n = h.places in grind (arith, nat_tests)

-- the first pair of a range is the first from there on
pub range-first : (s : BTreeSet (ℕ × ℕ)) (message place : ℕ) (p : ℕ × ℕ) (rest : List (ℕ × ℕ)) → IsKeyRangeOf pair_cmp (Included (message, place)) Unbounded s (p ∷ rest) →
    (m k : ℕ) → holds s.keys m k ≡ true → IsFrom message place m k → IsFrom p.0 p.1 m k
unfolding holds
range-first s message place p rest h m k held from = grind (arith, nat_tests, not_gt-from)

-- where a range is empty, there is no pair from there on
pub range-none : (s : BTreeSet (ℕ × ℕ)) (message place : ℕ) → IsKeyRangeOf pair_cmp (Included (message, place)) Unbounded s [] → (m k : ℕ) → IsFrom message place m k → holds s.keys m k ≡ false
unfolding holds
range-none s message place h m k after = h.5 refl (m, k) (not_gt-from message place m k after, tt)

-- no message is below that of the first pair
pub least-held : (s : BTreeSet (ℕ × ℕ)) (first : ℕ × ℕ) → IsLowerBound pair_cmp s first → (m k : ℕ) → holds s.keys m k ≡ true → first.0 ≤ m
unfolding holds
least-held s first least m k held = grind (arith, nat_tests)

-- all messages lie between that of the first pair and that of the last one
pub span-held : (s : BTreeSet (ℕ × ℕ)) (first last : ℕ × ℕ) → IsLowerBound pair_cmp s first → IsUpperBound pair_cmp s last →
    (m k : ℕ) → holds s.keys m k ≡ true → (first.0 ≤ m) × (m ≤ last.0)
unfolding holds
span-held s first last least greatest m k held = (least-held s first least m k held, grind (arith, nat_tests))

-- where there are no pairs, nothing stands under a message
pub none_held : (pairs : List (ℕ × ℕ)) → ¬ (0 < length pairs) → (m k : ℕ) → ¬ (holds pairs m k ≡ true)
unfolding holds
none_held [] none m k held = true≢false (sym held)
none_held (pair ∷ pairs) none m k held = none (omega arith)

-- there are as many entries as there were gains
pub entries_long : (gains : Gains) → length gains.entries.items ≤ gains.end → length (entries_of gains) ≡ gains.end
unfolding entries_of
entries_long gains long = grind (arith, nat_tests, length-append, length-replicate)

-- a gain that is kept stands after the blanks, at the index of its place
pub entry-kept : (gains : Gains) (k : ℕ) → length gains.entries.items ≤ gains.end → IsUndropped gains k →
    entry_at (entries_of gains) k ≡ get_or gains.entries.items (k - (gains.end - length gains.entries.items)) blank
unfolding entries_of
entry-kept gains k long kept = grind (arith, get_or-append_right, length-replicate)

-- a gain that is left is kept
pub left-kept : (gains : Gains) (k : ℕ) → AreGains gains → is_left gains k ≡ true → IsUndropped gains k
unfolding is_left
left-kept gains k are left = (are.messages (entry_at (entries_of gains) k).message k left).0

-- a gain stands under its message exactly if it is left
pub held_left : (gains : Gains) (m k : ℕ) → (entry_at (entries_of gains) k).message ≡ m → holds gains.messages m k ≡ is_left gains k
unfolding is_left
held_left gains m k is = sym (ap (λ n. holds gains.messages n k) is)

-- deadlines rise over what is kept
pub rising_kept : (gains : Gains) (i k : ℕ) → AreGains gains → gains.rises ≡ true → IsUndropped gains i → i ≤ k → k < gains.end →
    (entry_at (entries_of gains) i).deadline ≤ (entry_at (entries_of gains) k).deadline
rising_kept gains i k are rises kept order within = grind (arith, nat_tests, entry-kept)

-- a gain that is owed is left
pub owed-left : (gains : Gains) (strikes : List Strike) (a : Account) (k : ℕ) → owes_at gains strikes a k ≡ true → is_left gains k ≡ true
unfolding owes_at
owed-left gains strikes a k is = grind (arith, nat_tests, true≢false)

-- whether a gain is left depends on its entry and the index alone
pub left-as : (old new : Gains) (k : ℕ) → entry_at (entries_of new) k ≡ entry_at (entries_of old) k → ((m : ℕ) → holds new.messages m k ≡ holds old.messages m k) → is_left new k ≡ is_left old k
unfolding is_left
left-as old new k same messages = ap (λ (e : Entry). holds new.messages e.message k) same ∙ messages (entry_at (entries_of old) k).message

-- where a gain comes with its flags, and its place is noted, the new gain is theirs
pub gains-more : (old new : Gains) (debt : Debt) (newest : Bool) → AreGains old → new.entries.items ≡ old.entries.items ++ (record { message = debt.message; deadline = debt.deadline }) ∷ [] →
    new.flags.items ≡ old.flags.items ++ (record { must = debt.must; left = true; newest = newest }) ∷ [] → new.end ≡ old.end + 1 → new.end < 2 ^ 64 →
    IsNoted old.end debt old.messages new.messages old.musts new.musts → (newest ≡ true → old.highest ≤ debt.message) →
    (new.rises ≡ true → AreRising (old.entries.items ++ (record { message = debt.message; deadline = debt.deadline }) ∷ [])) → old.highest ≤ new.highest → debt.message ≤ new.highest → IsGain debt old new
unfolding entries_of is_left
gains-more old new debt newest are entries flags end small noted top rises higher own =
    -- all entries are the old ones and the new one
    let all : entries_of new ≡ entries_of old ++ (record { message = debt.message; deadline = debt.deadline }) ∷ [] =
    grind (arith, nat_tests, length-append, append_assoc) in
    let count = entries_long old are.long in
    let longer = length-append old.entries.items ((record { message = debt.message; deadline = debt.deadline }) ∷ []) in
    let right : AreFlags new = grind (arith, nat_tests, length-append, get_or_push, get_or_append_left, cases_eq, ne_eqb, and-false, eq-eqb, left-as, all, count) in
    record {
      gained = grind (arith, nat_tests, cases_eq, false_from_ne_true, ne_eqb, and-false, get_or_push, get_or_append_left, all, count, entries, longer, rises, right);
      entries = all;
      noted = rw count noted;
    }

-- where the entries, the flags and the places under the messages stay, the gains are the same
pub gains-same : (old new : Gains) → AreGains old → new.entries.items ≡ old.entries.items → new.flags.items ≡ old.flags.items → new.end ≡ old.end →
    ((m k : ℕ) → holds new.messages m k ≡ holds old.messages m k) → ((k : ℕ) → numbers_of new.musts k ≡ numbers_of old.musts k) → new.rises ≡ old.rises → new.highest ≡ old.highest →
    AreSameGains old new
unfolding entries_of
gains-same old new are entries flags end messages musts rises highest = grind (arith, nat_tests, left-as)

-- where a gain is taken from under its message, and its flags are blank then, it is let go
pub gains-let_go : (old new : Gains) (place : ℕ) → AreGains old → IsUndropped old place → new.entries.items ≡ old.entries.items →
    new.flags.items ≡ set old.flags.items (place - (old.end - length old.entries.items)) no_flags → new.end ≡ old.end → new.rises ≡ old.rises → new.highest ≡ old.highest →
    ((m k : ℕ) → holds new.messages m k ≡ cond (m == (entry_at (entries_of old) place).message && k == place) false (holds old.messages m k)) →
    ((k : ℕ) → numbers_of new.musts k ≡ cond (k == place) false (numbers_of old.musts k)) → IsLetGo place old new
unfolding entries_of is_left
gains-let_go old new place are kept entries flags end rises highest messages musts =
    let here : (m : ℕ) → holds new.messages m place ≡ false = λ m. grind (arith, nat_tests, cases_eq, eq-eqb, false_from_ne_true, true≢false, are.messages m place, messages m place) in
    let others : (m k : ℕ) → k ≢ place → holds new.messages m k ≡ holds old.messages m k = λ m k other. grind (arith, nat_tests, ne_eqb, and-false, messages m k) in
    let right : AreFlags new = grind (arith, nat_tests, get_or-set_same, get_or-set_other, length-set, cases_eq, eq-eqb, ne_eqb, left-as, here, others) in
    grind (arith, nat_tests, cases_eq, eq-eqb, ne_eqb, false_from_ne_true, and-false, true≢false, here, others, right)

-- where the first gains are dropped, none of which is left, with their flags, the gains are right still
pub gains-dropped : (old new : Gains) (place count : ℕ) → AreGains old → count + (old.end - length old.entries.items) ≡ place → place ≤ old.end →
    new.entries.items ≡ drop count old.entries.items → new.flags.items ≡ drop count old.flags.items → new.end ≡ old.end → new.messages ≡ old.messages → new.musts ≡ old.musts →
    new.rises ≡ old.rises → new.highest ≡ old.highest → ((m k : ℕ) → k < place → holds old.messages m k ≡ false) → AreGains new × IsDropped place old new
gains-dropped old new place count are here within entries flags end messages musts rises highest none =
    let dropped : IsDropped place old new = grind (arith, nat_tests, length-drop, cases_lt, entry-kept, get_or-drop, entries_long, true≢false, get_or_past) in
    let right : AreFlags new = grind (arith, nat_tests, length-drop, get_or-drop, left-as, dropped) in
    (grind (arith, nat_tests, length-drop, cases_lt, entry-kept, get_or-drop, entries_long, true≢false, get_or_past, right), dropped)

-- two lists of entries, of which the first may be longer, have the same debts where the same places are owed and have the same entries there: o and o' tell
-- which places of each are owed, and m and m' which must be sent
pub listed-alike : (o m o' m' : ℕ → Bool) (i : ℕ) (xs ys : List Entry) → length ys ≤ length xs → ((j : ℕ) → length ys ≤ j → o (i + j) ≡ false) → ((j : ℕ) → j < length ys → o (i + j) ≡ o' (i + j)) →
    ((j : ℕ) → j < length ys → o (i + j) ≡ true → (get_or xs j blank ≡ get_or ys j blank) × (m (i + j) ≡ m' (i + j))) → debts_from o m i xs ≡ debts_from o' m' i ys
listed-alike o m o' m' i xs [] long none same alike = listed-none o m i xs (λ k low high. let here : i + (k - i) ≡ k = omega (arith, low) in grind (arith, here, none (k - i)))
listed-alike o m o' m' i [] (y ∷ ys) long none same alike = absurd (omega (arith, long))
listed-alike o m o' m' i (x ∷ xs) (y ∷ ys) long none same alike =
    let rest : debts_from o m (i + 1) xs ≡ debts_from o' m' (i + 1) ys =
    listed-alike o m o' m' (i + 1) xs ys (omega (arith, long)) (λ j past. grind (arith, none (suc j))) (λ j below. grind (arith, same (suc j))) (λ j below is. grind (arith, alike (suc j))) in
    grind (arith, same 0, alike 0)

-- where deadlines never fall, and that of a further entry is not before the last, those with it never fall
pub rising-push : (entries : List Entry) (entry : Entry) → AreRising entries → ((e : Entry) → 0 < length entries → (get_or entries (length entries - 1) e).deadline ≤ entry.deadline) →
    AreRising (entries ++ entry ∷ [])
rising-push entries entry rises last i k e order below = grind (arith, nat_tests, cases_lt, cases_eq, length_push, get_or_push entries entry e, get_or_append_left entries (entry ∷ []) e, rises i k e, rises i (length entries - 1) e, last e)

-- lemmas for the prover under one name: deadlines rise with one more
pub ruleset rising_by_one = (get_or_default, leb-true, nat_tests, rising-push)

-- lemmas for the prover under one name: nothing was gained
pub ruleset none_gained_yet = (nat_tests, true≢false)

-- lemmas for the prover under one name: the gain at a place
pub ruleset entry_by_place = (entry-kept, get_or_default)
