-- The first and the last entry of each transaction stay right when one entry more comes.
use Rattle.std.proofs.Common.{◌≡◌, ◌≢◌, ◌≤◌, ◌<◌, ◌+◌, ◌-◌, ◌⊎◌, ◌||◌, inl, inr, ℕ, Bool, true, false, nat_eq, Option, Some, None, IfSome, MatchOption, List, [], ◌∷◌, ◌++◌, All, AllPairs, Contains, length, slice_get, length-append, append_assoc, refl, sym, ap, ◌∙◌, subst, arith}
use Rattle.std.specs.Prelude.{bytes_eq, codes, fold, flat_map, max}
use Rattle.std.specs.List.{list_any}
use Rattle.std.specs.Cmp.{unsigned_Decides}
use Rattle.std.proofs.lemmas.Bool.{false≢true, ltb-true}
use Rattle.std.proofs.lemmas.List.{length-set}
use Rattle.std.proofs.lemmas.List.Elements.{All-cons, All-nil, All-push}
use Rattle.std.proofs.lemmas.List.Folds.{list_any-append}
use Rattle.std.proofs.lemmas.Option.{slice_get_within, get_or_from_slice_get, slice_get-get_or}
use Rattle.std.specs.Slice.{IsItemAt}
use Rattle.std.specs.Borrow.{Bor}
use Rattle.sip_standard.specs.declared.role.Direction.{Direction}
use Rattle.sip_standard.specs.Branch.{cookie_branch}
use Rattle.sip_standard.specs.Concerns.{Concerns, is_sent}
use Rattle.sip_standard.specs.Key.{KeyParts, same_key}
use Rattle.sip_standard.specs.LogEntry.{Item, has_message}
use Rattle.sip_standard.specs.declared.fault.Fault.{Fault}
use Rattle.sip_standard.specs.Outcome.{gives, stops}
use Rattle.sip_standard.specs.Says.{Said, Says}
use Rattle.sip_part.specs.Led.{led_branch}
use Rattle.sip_part.proofs.Fields.{led_found}
use Rattle.sip_states.specs.Tables.{Tabled, Touches}
use Rattle.sip_states.proofs.lists.Places.{set_place, push_place}
use Rattle.sip_verdict.specs.Entries.{concerns}
use Rattle.sip_verdict.specs.declared.histories.Histories.{Histories}
use Rattle.sip_verdict.specs.declared.histories.History.{History}
use Rattle.sip_standard.specs.Observation.{Observation, ObservesMessage, has_fault, has_no_cookie, is_heard, silent_observation}
use Rattle.sip_verdict.specs.inner.Keyed.{with_key}
use Rattle.sip_standard.specs.VerdictOf.{keys_in, Sees}
use Rattle.sip_message.proofs.lemmas.says.Reading.{said-one}
use Rattle.sip_verdict.specs.SurveyText.{IsFirstEntryOf, IsLastEntryOf}
use Rattle.sip_verdict.specs.Surveys.{IsHistoryOf, AreHistories}
use Rattle.sip_verdict.specs.inner.Histories.{SpellsBranch, Notes, NotesEach}
use Rattle.sip_verdict.specs.inner.TablesTracking.{TouchesEach, is_among}
use Rattle.sip_verdict.proofs.judges.ObservingLemmas.{no_keys, went}
use Rattle.sip_verdict.proofs.keys.Keys.{among-fold, contains-among, not_among, or_false, keys_in-push, keys_in-none, keys_in-all}
use Rattle.sip_verdict.proofs.verdicts.MessageUnique.{fault_says_none}
use Rattle.sip_verdict.proofs.surveys.passing.Begun.{AreMore, more_each, none_more, touched_keys}
use Rattle.sip_verdict.proofs.tables.TablesPassing.{at_place}
use Rattle.sip_verdict.proofs.tables.TablesTouching.{have_numbers, same_numbers}

-- entries as they are observed
abbrev pub Entries : Type 0
Entries = List (Observation KeyParts)

-- a disjunction with false is its first test
or_none : (b : Bool) → (b || false) ≡ b
or_none true = refl
or_none false = refl

-- a disjunction with true is true
or_some : (b : Bool) → (b || true) ≡ true
or_some true = refl
or_some false = refl

-- where the option holds x, and P holds of x, P holds of what the option holds
pub IfSome-at : {A : Type 0} (o : Option A) (P : A → Type 0) (x : A) → o ≡ Some x → P x → IfSome o P
IfSome-at o P x is holds = subst (λ a. IfSome a P) (sym is) holds

-- the history that is looked up at a place stands there in the list
-- r is what is found at the place i of the histories xs, b the history that is lent, and ys the same list
pub history_at : (xs ys : List History) (i : ℕ) (r : Option (Bor History)) (b : Bor History) → IsItemAt xs i r → xs ≡ ys → r ≡ Some b → slice_get ys i ≡ Some b.now
history_at xs ys i None b item same is = absurd cc
history_at xs ys i (Some a) b item same is =
    let low : i < length xs = ltb-true i (length xs) (sym item.0) in
    let alike : a ≡ b = cc in
    ap (λ zs. slice_get zs i) (sym same) ∙ slice_get-get_or xs i a.now low ∙ ap Some (sym item.1) ∙ ap (λ x. Some x.now) alike

-- the first entry of a transaction stays the first when one entry more comes
first_more : (es : Entries) (e : Observation KeyParts) (key : KeyParts) (n : ℕ) (branch : List ℕ) → IsFirstEntryOf es key n branch → IsFirstEntryOf (es ++ e ∷ []) key n branch
first_more es e key n branch (before, o, after, whole, is, none, counts, says) =
    (before, o, after ++ e ∷ [], ap (λ xs. xs ++ e ∷ []) whole ∙ append_assoc before (o ∷ after) (e ∷ []), is, none, counts, says)

-- an entry that does not concern the transaction leaves its last entry as it was
last_more : (es : Entries) (e : Observation KeyParts) (key : KeyParts) (n : ℕ) → concerns key e ≡ false → IsLastEntryOf es key n → IsLastEntryOf (es ++ e ∷ []) key n
last_more es e key n other (before, o, after, whole, is, none, counts) =
    (before, o, after ++ e ∷ [], ap (λ xs. xs ++ e ∷ []) whole ∙ append_assoc before (o ∷ after) (e ∷ []), is, All-push (λ x. concerns key x ≡ false) after e none other, counts)

-- an entry that concerns the transaction is its last entry, with the number after all others
last_here : (es : Entries) (e : Observation KeyParts) (key : KeyParts) (n : ℕ) → concerns key e ≡ true → n ≡ length es + 1 → IsLastEntryOf (es ++ e ∷ []) key n
last_here es e key n is counts = (es, e, [], refl, is, All-nil (λ x. concerns key x ≡ false), counts)

-- the number of a transaction's last entry is at most the count of the entries
last_low : (es : Entries) (key : KeyParts) (n : ℕ) → IsLastEntryOf es key n → n ≤ length es
last_low es key n (before, o, after, whole, is, none, counts) = let long = ap length whole ∙ length-append before (o ∷ after) in omega (arith, long, counts)

-- where a key is none of those that the entries name, no entry concerns it
pub none_in : (key : KeyParts) (es : Entries) → list_any (same_key key) (flat_map (λ e. e.keys) es) ≡ false → All (λ o. concerns key o ≡ false) es
none_in key [] none = All-nil (λ o. concerns key o ≡ false)
none_in key (e ∷ es) none =
    let (here, later) = or_false _ _ (sym (list_any-append (same_key key) e.keys (flat_map (λ f. f.keys) es)) ∙ none) in
    All-cons (λ o. concerns key o ≡ false) e es here (none_in key es later)

-- where a key is none of the keys of the log so far, no entry concerns it
none_of : (key : KeyParts) (es : Entries) → ¬ Contains (keys_in es) key → All (λ o. concerns key o ≡ false) es
none_of key es none =
    none_in key es (among-fold key [] (flat_map (λ e. e.keys) es) (not_among key (keys_in es) none)).1

-- before the first entry, no histories are the histories of all transactions
pub none_yet : (b : Histories) → b.each.items ≡ [] → b.restart ≡ 0 → AreHistories [] b
none_yet b none restart = record { long = ap length none; restart = omega (arith, restart); each = λ n key k at. absurd cc }

-- an entry that concerns no transaction leaves the histories right as they are
pub silent_histories : (es : Entries) (e : Observation KeyParts) (b : Histories) → e.keys ≡ [] → AreHistories es b → AreHistories (es ++ e ∷ []) b
silent_histories es e b none h =
    -- the keys stay the same, since the entry has none
    let same = keys_in-none es e none in
    record {
      long = h.long ∙ ap length (sym same);
      restart = (let long = length-append es (e ∷ []) in let low = h.restart in omega arith);
      each = λ n key k at here.
          -- `one` is the history of the key as it was, which has the same first and last entry
          let one = h.each n key k (ap (λ ks. slice_get ks n) (sym same) ∙ at) here in
          record { first = first_more es e key k.first k.branch.items one.first; last = last_more es e key (max k.last b.restart) (ap (list_any (same_key key)) none) one.last };
    }

-- after a restart the histories are right with the restart's number in them
pub restart_histories : (es : Entries) (e : Observation KeyParts) (b c : Histories) (number : ℕ) → e.keys ≡ keys_in es → number ≡ length es + 1 → c.each.items ≡ b.each.items → c.restart ≡ number
    → AreHistories es b → AreHistories (es ++ e ∷ []) c
restart_histories es e b c number all counts kept newest h =
    let same = keys_in-all es e all in
    record {
      long = ap length kept ∙ h.long ∙ ap length (sym same);
      restart = (let long = length-append es (e ∷ []) in omega (arith, newest, counts));
      -- each key has its history as before
      each = λ n key k at here.
          let was : slice_get (keys_in es) n ≡ Some key = ap (λ ks. slice_get ks n) (sym same) ∙ at in
          let one = h.each n key k was (ap (λ hs. slice_get hs n) (sym kept) ∙ here) in
          -- the last entry of the key is the restart, which concerns all keys
          let low = last_low es key (max k.last b.restart) one.last in
          let is : concerns key e ≡ true = contains-among key e.keys
          (subst (λ ks. Contains ks key) (sym all) (n, slice_get_within (keys_in es) n key was, get_or_from_slice_get (keys_in es) n key key was)) in
          record { first = first_more es e key k.first k.branch.items one.first; last = last_here es e key (max k.last c.restart) is (omega (arith, low, newest, counts)) };
    }

-- What follows is of what one note leaves at a place of the histories.

-- the history at the place i tells the entry as its last one, where the entry was noted there, and is the one that stood there where it was not
abbrev IsAt : ℕ → List ℕ → List History → ℕ → History → Bool → Type 0
IsAt entry text old i h true =
    (h.last ≡ entry)
    × (((k : History) × (slice_get old i ≡ Some k) × (h.branch.items ≡ k.branch.items) × (h.first ≡ k.first)) ⊎ ((length old ≤ i) × (h.first ≡ entry) × SpellsBranch text h.branch.items))
IsAt entry text old i h false = slice_get old i ≡ Some h

-- What follows is of the note of one entry, by its number, and the text of its message.
module _ (entry : ℕ) (text : List ℕ) where
  -- where a key was looked up and its number noted, there are as many histories as keys, and the number is at most one above those before
  -- n is the key's number; t and u are the tables before and after it was looked up
  note_long : (key : KeyParts) (n : ℕ) (t u : Tabled) (old new : List History) → Touches key n t u → length old ≡ length t.keys → Notes entry text n old new → (length new ≡ length u.keys) × (0 < n) × (n ≤ length old + 1)
  -- the key was there, and its history was written anew
  note_long key n t u old new (inl (has, same)) long (inl h) = (
    ap length h.is ∙ length-set old (n - 1) h.after ∙ long ∙ ap (λ x. length x.keys) (sym same),
    has.0,
    (let within = slice_get_within t.keys (n - 1) key has.1 in omega (arith, long)),
  )
  -- a known key has a history, so that none is begun; and a new key has none that could be written anew
  note_long key n t u old new (inl (has, same)) long (inr h) = (let within = slice_get_within t.keys (n - 1) key has.1 in let beyond = h.beyond in absurd (omega (arith, long)))
  note_long key n t u old new (inr (none, counts, is)) long (inl h) = (let within = slice_get_within old (n - 1) h.before h.was in absurd (omega (arith, long, counts)))
  -- the key is new, and so is its history
  note_long key n t u old new (inr (none, counts, is)) long (inr h) = (
    ap length h.is ∙ length-append old (h.begun ∷ []) ∙ ap (λ x. x + 1) long ∙ sym (length-append t.keys (key ∷ [])) ∙ ap (λ x. length x.keys) (sym is),
    omega (arith, counts),
    omega (arith, counts, long),
  )

  -- after a note under the number n, the history at each place is as `IsAt` says
  note_at : (n : ℕ) (old new : List History) → 0 < n → n ≤ length old + 1 → Notes entry text n old new → (i : ℕ) (h : History) → slice_get new i ≡ Some h → IsAt entry text old i h (nat_eq (i + 1) n)
  note_at n old new low high (inl note) i h here = by (nat_eq (i + 1) n) refl (set_place old (n - 1) i note.after h (ap (λ hs. slice_get hs i) (sym note.is) ∙ here))
    where
      -- the history at the place is right after the note: it is the one that was noted, or it was there before
      by : (b : Bool) → nat_eq (i + 1) n ≡ b → ((i ≡ n - 1) × (note.after ≡ h)) ⊎ ((i ≢ n - 1) × (slice_get old i ≡ Some h)) → IsAt entry text old i h b
      -- the history under the number is the one that was noted
      by true same (inl (at, is)) = (
        sym (ap (λ k. k.last) is) ∙ note.last,
        inl (note.before, ap (slice_get old) at ∙ note.was, sym (ap (λ k. k.branch.items) is) ∙ note.branch, sym (ap (λ k. k.first) is) ∙ note.first),
      )
      -- at another place the history is as it was
      by true same (inr (other, was)) = absurd (other (omega (arith, (unsigned_Decides (i + 1) n).0 same)))
      by false other (inl (at, is)) = absurd (false≢true (sym other ∙ (unsigned_Decides (i + 1) n).1 (omega (arith, at, low))))
      by false other (inr (differs, was)) = was
  note_at n old new low high (inr note) i h here = by (nat_eq (i + 1) n) refl (push_place old note.begun i h (ap (λ hs. slice_get hs i) (sym note.is) ∙ here))
    where
      -- the history at the place is right after a new one was begun, whether or not the place is that of the new one
      -- the new history stands after all others, so that its place is past them, and only its number is n
      by : (b : Bool) → nat_eq (i + 1) n ≡ b → (slice_get old i ≡ Some h) ⊎ ((i ≡ length old) × (note.begun ≡ h)) → IsAt entry text old i h b
      by true same (inl was) = (let within = slice_get_within old i h was in let beyond = note.beyond in absurd (omega (arith, (unsigned_Decides (i + 1) n).0 same)))
      by true same (inr (at, is)) = (
        sym (ap (λ k. k.last) is) ∙ note.last,
        inr (omega (arith, at), sym (ap (λ k. k.first) is) ∙ note.first, subst (λ k. SpellsBranch text k.branch.items) is note.branch),
      )
      by false other (inl was) = was
      by false other (inr (at, is)) = (let beyond = note.beyond in absurd (false≢true (sym other ∙ (unsigned_Decides (i + 1) n).1 (omega (arith, at)))))

  -- a note takes no history away
  long_note : (n : ℕ) (old new : List History) → Notes entry text n old new → length old ≤ length new
  long_note n old new (inl h) = (let long = ap length h.is ∙ length-set old (n - 1) h.after in omega arith)
  long_note n old new (inr h) = (let long = ap length h.is ∙ length-append old (h.begun ∷ []) in omega arith)

  -- notes of keys that were looked up, one after another, leave as many histories as there are keys
  -- ns are the numbers of the keys ks; t and u are the tables before and after these were looked up
  pub notes_long : (ks : List KeyParts) (ns : List ℕ) (t u : Tabled) (old new : List History) → TouchesEach ks ns t u → length old ≡ length t.keys → NotesEach entry text ns old new → length new ≡ length u.keys
  notes_long [] [] t u old new same long is = ap length is ∙ long ∙ ap (λ x. length x.keys) (sym same)
  -- there are as many keys as numbers
  notes_long [] (n ∷ ns) t u old new touched long notes = absurd touched
  notes_long (k ∷ ks) [] t u old new touched long notes = absurd touched
  notes_long (k ∷ ks) (n ∷ ns) t u old new (between, one, rest) long (mid, note, notes) = notes_long ks ns between u mid new rest (note_long k n t between old mid one long note).0 notes

  -- after the entry was noted under numbers, the history at a place is the noted one if its number is among them, and else the old one
  -- ns are the numbers of the keys ks; t and u are the tables before and after these were looked up
  pub notes_at : (ks : List KeyParts) (ns : List ℕ) (t u : Tabled) (old new : List History) → TouchesEach ks ns t u → length old ≡ length t.keys → NotesEach entry text ns old new
      → (i : ℕ) (h : History) → slice_get new i ≡ Some h → IsAt entry text old i h (is_among ns (i + 1))
  -- no key is left, and no history changed; there are as many numbers as keys
  notes_at [] [] t u old new same long is i h here = ap (λ hs. slice_get hs i) (sym is) ∙ here
  notes_at [] (n ∷ ns) t u old new touched long notes i h here = absurd touched
  notes_at (k ∷ ks) [] t u old new touched long notes i h here = absurd touched
  notes_at (k ∷ ks) (n ∷ ns) t u old new (between, one, rest) long (mid, note, notes) i h here =
      -- the first key's number was noted, and then those of the others
      let (as_long, low, high) = note_long k n t between old mid one long note in
      by (is_among ns (i + 1)) (notes_at ks ns between u mid new rest as_long notes i h here) (note_at n old mid low high note i)
    where
      -- the history at the place is right after all notes, whether or not the number of the place is among the others
      by : (b : Bool) → IsAt entry text mid i h b → ((j : History) → slice_get mid i ≡ Some j → IsAt entry text old i j (nat_eq (i + 1) n)) → IsAt entry text old i h (nat_eq (i + 1) n || b)
      -- the number is not among the others: the history is what the first key's note left
      by false was step = subst (IsAt entry text old i h) (sym (or_none (nat_eq (i + 1) n))) (step h was)
      -- the notes of the others wrote the history j anew, which the first key's note left; its branch and its first entry stay
      by true (last, inl (j, was, branch, first)) step = subst (IsAt entry text old i h) (sym (or_some (nat_eq (i + 1) n))) (last, back (nat_eq (i + 1) n) (step j was))
        where
          -- the history h at the place is right after both notes, whether or not the number of the place was noted first
          back : (b : Bool) → IsAt entry text old i j b → ((k : History) × (slice_get old i ≡ Some k) × (h.branch.items ≡ k.branch.items) × (h.first ≡ k.first)) ⊎ ((length old ≤ i) × (h.first ≡ entry) × SpellsBranch text h.branch.items)
          back false same = inl (j, same, branch, first)
          back true (_, inl (o, same, o_branch, o_first)) = inl (o, same, branch ∙ o_branch, first ∙ o_first)
          back true (_, inr (beyond, o_first, spells)) = inr (beyond, first ∙ o_first, subst (SpellsBranch text) (sym branch) spells)
      -- the notes of the others began the history, past all those that the first key's note left
      by true (last, inr (beyond, first, spells)) step =
          subst (IsAt entry text old i h) (sym (or_some (nat_eq (i + 1) n))) (last, inr ((let grows = long_note n old mid note in omega (arith, beyond)), first, spells))

-- What follows is of an entry e after the entries es: its keys ks were looked up, which made the tables t to w and gave the numbers ns;
-- b are the histories before it was noted, and c after it.
module _ (es : Entries) (e : Observation KeyParts) (b c : Histories) (number : ℕ) (text : List ℕ) (t w : Tabled) (ks : List KeyParts) (ns : List ℕ)
    (h : AreHistories es b) (t_keys : t.keys ≡ keys_in es) (sets : length t.sets ≡ length t.keys) (counts : number ≡ length es + 1) (touched : TouchesEach ks ns t w) (apart : AllPairs (λ x y. x ≢ y) w.keys)
    (notes : NotesEach number text ns b.each.items c.each.items) (same_restart : c.restart ≡ b.restart) (keys : e.keys ≡ ks)
    (says : (key : KeyParts) → concerns key e ≡ true → (s : Said) × Says text (gives s) × ((branch : List ℕ) × (s.via.branch ≡ Some branch))) (told : e.event.text ≡ text) where
  -- the keys of the new tables are those of the entries and e
  w_keys : w.keys ≡ keys_in (es ++ e ∷ [])
  w_keys = touched_keys ks ns t w touched ∙ ap (λ xs. fold with_key xs ks) t_keys ∙ ap (fold with_key (keys_in es)) (sym keys) ∙ sym (keys_in-push es e)

  -- there were as many histories as keys before the entry
  t_long : length b.each.items ≡ length t.keys
  t_long = h.long ∙ ap length (sym t_keys)

  -- each key of the new tables is an old one, or comes after the old ones and is none of them
  more : AreMore t w
  more = more_each t ks ns t w (none_more t sets) touched

  -- a key at a place of the new tables is the old one there, or stands after the old ones and is none of them
  old_or_new : (n : ℕ) (key : KeyParts) → slice_get w.keys n ≡ Some key → (slice_get (keys_in es) n ≡ Some key) ⊎ ((length t.keys ≤ n) × ¬ Contains (keys_in es) key)
  old_or_new n key at =
      let within = slice_get_within w.keys n key at in
      let (s, there) = at_place w.sets n (let as_long = more.long in omega arith) in
      elim (more.each n key s at there) [ inl x ↦ inl (ap (λ xs. slice_get xs n) (sym t_keys) ∙ x.0) | inr x ↦ inr (x.0, λ has. x.2 (subst (λ xs. Contains xs key) (sym t_keys) has)) ]

  -- the entry is the first one of a key that is new and that the entry concerns
  begun : (key : KeyParts) (branch : List ℕ) → ¬ Contains (keys_in es) key → concerns key e ≡ true → SpellsBranch text branch → (n : ℕ) → n ≡ number → IsFirstEntryOf (es ++ e ∷ []) key n branch
  begun key branch none is spells n n_is =
      let (s, said, (there, has)) = says key is in
      let same : branch ≡ there = subst (λ o. IfSome o (λ x. branch ≡ x)) has (spells s said) in
      (es, e, [], refl, is, none_of key es none, n_is ∙ counts, (s, subst (λ x. Says x (gives s)) (sym told) said, has ∙ ap Some (sym same)))

  -- the histories tell the first and the last entry of each transaction, with the entry that was noted
  pub heard_histories : AreHistories (es ++ e ∷ []) c
  heard_histories = record {
    long = notes_long number text ks ns t w b.each.items c.each.items touched t_long notes ∙ ap length w_keys;
    restart = (let long = length-append es (e ∷ []) in let low = h.restart in omega (arith, same_restart));
    each = λ n key k at here.
        -- the key stands at n in the new tables (`there`), and the entry concerns it exactly if its number was noted (`is`)
        let there : slice_get w.keys n ≡ Some key = ap (λ xs. slice_get xs n) w_keys ∙ at in
        let is : concerns key e ≡ is_among ns (n + 1) = ap (list_any (same_key key)) keys ∙ same_numbers w.keys apart ns ks (have_numbers ks ns t w touched) n key there in
        by n key k (is_among ns (n + 1)) is (notes_at number text ks ns t w b.each.items c.each.items touched t_long notes n k here) (old_or_new n key there);
  }
    where
      -- the last entry is the newest, which is not before the last restart
      newest : (k : History) → k.last ≡ number → max k.last c.restart ≡ length es + 1
      newest k last = (let low = h.restart in omega (arith, last, counts, same_restart))

      -- k is the history of the key, whether or not the entry concerns the transaction, and whether or not its key is new
      by : (n : ℕ) (key : KeyParts) (k : History) (is : Bool) → concerns key e ≡ is → IsAt number text b.each.items n k is → (slice_get (keys_in es) n ≡ Some key) ⊎ ((length t.keys ≤ n) × ¬ Contains (keys_in es) key)
          → IsHistoryOf (es ++ e ∷ []) c.restart key k
      -- the entry does not concern the transaction, so its history stays
      by n key k false other was (inl at) =
          let one = h.each n key k at was in
          record { first = first_more es e key k.first k.branch.items one.first; last = subst (λ r. IsLastEntryOf (es ++ e ∷ []) key (max k.last r)) (sym same_restart) (last_more es e key (max k.last b.restart) other one.last) }
      -- a key that is new has no history yet
      by n key k false other was (inr (beyond, none)) = (let within = slice_get_within b.each.items n k was in absurd (omega (arith, t_long)))
      -- the entry is its last one now
      by n key k true is (last, inl (o, was, branch, first)) (inl at) =
          let one = h.each n key o at was in
          record {
            first = subst (λ x. IsFirstEntryOf (es ++ e ∷ []) key x k.branch.items) (sym first) (subst (IsFirstEntryOf (es ++ e ∷ []) key o.first) (sym branch) (first_more es e key o.first o.branch.items one.first));
            last = last_here es e key (max k.last c.restart) is (newest k last);
          }
      -- a key that is new had no history
      by n key k true is (last, inl (o, was, branch, first)) (inr (beyond, none)) = (let within = slice_get_within b.each.items n o was in absurd (omega (arith, t_long)))
      -- the key is new, so the entry is its first and its last one
      by n key k true is (last, inr (beyond, first, spells)) (inl at) = (let within = slice_get_within (keys_in es) n key at in let long = h.long in absurd (omega arith))
      by n key k true is (last, inr (beyond, first, spells)) (inr (low, none)) =
          record { first = begun key k.branch.items none is spells k.first first; last = last_here es e key (max k.last c.restart) is (newest k last) }

-- a message that concerns some key has a branch
branch_of : (s : Said) (direction : Direction) (keys : List KeyParts) → Concerns s direction keys → keys ≢ [] → (branch : List ℕ) × (s.via.branch ≡ Some branch)
branch_of s direction keys concerns some = by s.via.branch refl
  where
    -- a message that concerns a key has a branch
    by : (branch : Option (List ℕ)) → s.via.branch ≡ branch → (b : List ℕ) × (branch ≡ Some b)
    by (Some b) is = (b, refl)
    by None is = absurd (some (concerns ∙ no_keys _ _ (is_sent (λ method. bytes_eq method (codes "CANCEL")) s.start direction) (cookie_branch s.via.branch) (ap cookie_branch is)))

-- a list of keys in which the test finds a key is not empty
some_keys : (key : KeyParts) (keys : List KeyParts) → list_any (same_key key) keys ≡ true → keys ≢ []
some_keys key keys is none = false≢true (sym (ap (list_any (same_key key)) none) ∙ is)

-- an entry whose message concerns a key has a message with a branch
-- a message with a fault, or whose branch has no cookie, concerns no key
heard_says : (direction : Direction) (i : Item) (e : Observation KeyParts) → ObservesMessage direction i e → (key : KeyParts) → concerns key e ≡ true
    → (s : Said) × Says i.text (gives s) × ((branch : List ℕ) × (s.via.branch ≡ Some branch))
heard_says direction i e (has_fault fault says is) key of = absurd (some_keys key e.keys of (ap (λ o. o.keys) is))
heard_says direction i e (has_no_cookie s says lacks is) key of = absurd (some_keys key e.keys of (ap (λ o. o.keys) is))
heard_says direction i e (is_heard s keys says fine concerns is) key of =
    (s, says, branch_of s direction keys concerns (some_keys key keys (sym (ap (λ o. list_any (same_key key) o.keys) is) ∙ of)))

-- an entry with a message that concerns a key has a message with a branch
pub message_says : (es : Entries) (i : Item) (e : Observation KeyParts) → has_message i.action ≡ true → Sees es i e → (key : KeyParts) → concerns key e ≡ true
    → (s : Said) × Says i.text (gives s) × ((branch : List ℕ) × (s.via.branch ≡ Some branch))
message_says es i e says seen key of =
    let (direction, goes) = went i.action says in
    heard_says direction i e (subst (λ d. MatchOption d (e ≡ silent_observation i.action i.moment (keys_in es)) (λ way. ObservesMessage way i e)) goes seen) key of

-- the numbers that keys got when they were looked up are above 0
-- ns are the numbers of the keys ks; t and u are the tables before and after these were looked up
pub touched_low : (ks : List KeyParts) (ns : List ℕ) (t u : Tabled) → TouchesEach ks ns t u → All (λ n. 0 < n) ns
touched_low [] [] t u same = All-nil (λ n. 0 < n)
-- there are as many keys as numbers
touched_low [] (n ∷ ns) t u touched = absurd touched
touched_low (k ∷ ks) [] t u touched = absurd touched
touched_low (k ∷ ks) (n ∷ ns) t u (between, one, rest) = All-cons (λ i. 0 < i) n ns (low one) (touched_low ks ns between u rest)
  where
    -- a key that was known has a number, and a new one gets the next
    low : Touches k n t between → 0 < n
    low (inl known) = known.0.0
    low (inr (none, counts, is)) = omega (arith, counts)

-- where a text leads to a branch, it spells this branch
pub led_spells : (text branch : List ℕ) → led_branch text ≡ Some branch → SpellsBranch text branch
led_spells text branch led s says = subst (λ o. IfSome o (λ spelled. branch ≡ spelled)) (sym (led_found text branch s says led)) refl

-- of a message that is read, the branch of its top Via is the one that it spells
pub read_spells : (text : List ℕ) (r : Said) (branch : Option (List ℕ)) (spelled : List ℕ) → Says text (gives r) → r.via.branch ≡ branch → IfSome branch (λ b. spelled ≡ b) → SpellsBranch text spelled
read_spells text r branch spelled says is told s other = by s.via.branch (ap (λ x. x.via.branch) (said-one text s r other says) ∙ is)
  where
    -- the branch that is told is the one of the top Via
    by : (o : Option (List ℕ)) → o ≡ branch → IfSome o (λ b. spelled ≡ b)
    by o same = subst (λ x. IfSome x (λ b. spelled ≡ b)) (sym same) told

-- a text with a fault spells any branch, since it is no message that has one
pub fault_spells : (text : List ℕ) (fault : Fault) (spelled : List ℕ) → Says text (stops fault) → SpellsBranch text spelled
fault_spells text fault spelled has s says = absurd (fault_says_none text fault s has says)
