-- What a survey keeps where some of its transactions are forgotten.
-- In the lemmas n is the place or the number of a key, b and c are what is recorded of the transactions before and after, and t and u the tables.
use Rattle.std.proofs.Common.{◌≡◌, ◌≢◌, ◌≤◌, ◌↔◌, ◌+◌, ◌⊎◌, inl, inr, ℕ, zero, suc, Bool, true, false, cond, Option, Some, None, List, [], ◌∷◌, ◌++◌, All, AllPairs, length, slice_get, refl, sym, ap, ◌∙◌, subst, arith, append-nil, append_assoc, length-append, true≢false}
use Rattle.std.specs.Prelude.{filter, flat_map, max, not, IsTrue}
use Rattle.std.specs.List.{list_any}
use Rattle.std.proofs.lemmas.Bool.{false≢true}
use Rattle.std.proofs.lemmas.List.{append_cancel_left, length-map, map-append}
use Rattle.std.proofs.lemmas.List.Elements.{All-nil, All-cons, All-head, All-tail}
use Rattle.std.proofs.lemmas.Option.{slice_get_within, slice_get-get_or}
use Rattle.sip_standard.proofs.Few.{AllPairs-head, AllPairs-tail}
use Rattle.sip_standard.specs.Key.{KeyParts, same_key}
use Rattle.sip_standard.proofs.SameKey.{same_key-decides}
use Rattle.sip_standard.specs.Times.{Times}
use Rattle.sip_standard.specs.KeyMachine.{machine_of_key}
use Rattle.sip_standard.specs.Observation.{Observation}
use Rattle.sip_standard.specs.VerdictOf.{keys_in, events_for}
use Rattle.sip_machine.specs.Texts.{Texts, Keeps}
use Rattle.sip_states.specs.AnySet.{moment_of, IsKnownSet, IsQuietSet}
use Rattle.sip_states.specs.Tables.{Tabled}
use Rattle.sip_states.specs.Kept.{kept_of, kept_tables}
use Rattle.sip_states.specs.declared.any_set.AnySet.{AnySet}
use Rattle.sip_states.proofs.lists.Kept.{place_of, kept_at, kept_long, kept_few}
use Rattle.sip_states.proofs.lists.Places.{push_place}
use Rattle.sip_verdict.specs.declared.histories.Histories.{Histories}
use Rattle.sip_verdict.specs.declared.histories.History.{History}
use Rattle.sip_verdict.specs.declared.troubled.Troubled.{Troubled}
use Rattle.sip_verdict.specs.Forgetting.{remembered, IsOver, ForgetsUpTo}
use Rattle.sip_verdict.specs.Entries.{concerns, newest_moment}
use Rattle.sip_verdict.specs.SurveyText.{IsFirstEntryOf, IsLastEntryOf}
use Rattle.sip_verdict.specs.Surveys.{IsHistoryOf, AreHistories}
use Rattle.sip_verdict.specs.inner.Forgetting.{IsPast, AreFlags, AreQuietIfOver, TellsPast}
use Rattle.sip_verdict.specs.inner.Surveying.{AreWatched, IsFollowed, TablesSurvey}
use Rattle.sip_verdict.specs.inner.TablesTracking.{LeadsOf, MayPass, MayTake, IsOnRecord, AllAreOnRecord}
use Rattle.sip_verdict.proofs.keys.Keys.{among-contains, among-fold}
use Rattle.sip_verdict.proofs.keys.Splitting.{split_compare}
use Rattle.sip_verdict.proofs.surveys.parts.Cutting.{among_chosen, keys_cut, newest_cut, events_cut, sound_cut}
use Rattle.sip_verdict.proofs.surveys.kept.Histories.{none_in}
use Rattle.sip_verdict.proofs.surveys.forgetting.Quiet.{quiet_over}
use Rattle.sip_verdict.proofs.surveys.forgetting.Remembered.{zip_remembered, order_kept}
use Rattle.sip_verdict.proofs.tables.TablesPassing.{at_place, All-place, All-places}
use Rattle.sip_verdict.proofs.verdicts.Unique.{All-middle}

-- whether a key is kept: as its flag says where it is among the keys, and kept where it is not or has no flag
abbrev pub kept_by : List Bool → List KeyParts → KeyParts → Bool
kept_by [] keys key = true
kept_by (b ∷ flags) [] key = true
kept_by (b ∷ flags) (k ∷ keys) key = cond (same_key key k) b (kept_by flags keys key)

-- where all keys differ, a key at a place is kept as the flag at the same place says
pub kept_by_at : (flags : List Bool) (keys : List KeyParts) → AllPairs (λ a b. a ≢ b) keys → (n : ℕ) (key : KeyParts) (b : Bool) → slice_get keys n ≡ Some key → slice_get flags n ≡ Some b → kept_by flags keys key ≡ b
-- without a flag or a key nothing stands at the place
kept_by_at [] keys apart n key b at flag = absurd cc
kept_by_at (c ∷ flags) [] apart n key b at flag = absurd cc
-- the key is the first one, k, and b is its flag c
kept_by_at (c ∷ flags) (k ∷ keys) apart zero key b at flag =
    let same : k ≡ key = cc in
    let is : c ≡ b = cc in
    ap (λ t. cond t c (kept_by flags keys key)) ((same_key-decides key k).1 (sym same)) ∙ is
-- the key is a later one, and so another than k
kept_by_at (c ∷ flags) (k ∷ keys) apart (suc n) key b at flag =
    go (same_key key k) refl (kept_by_at flags keys (AllPairs-tail (λ a b. a ≢ b) k keys apart) n key b at flag)
  where
    -- the flag of the key is b, whether or not the first key is the one that is looked for
    -- the first key is not equal to a later one, since all keys differ
    go : (t : Bool) → same_key key k ≡ t → kept_by flags keys key ≡ b → cond (same_key key k) c (kept_by flags keys key) ≡ b
    go true e rest = absurd (All-place (λ x. k ≢ x) keys n key at (AllPairs-head (λ a b. a ≢ b) k keys apart) (sym ((same_key-decides key k).0 e)))
    go false e rest = ap (λ t. cond t c (kept_by flags keys key)) e ∙ rest

-- a key that is not kept stands at some place, and its flag is false
-- a key without a flag is kept
pub kept_by_not : (flags : List Bool) (keys : List KeyParts) (key : KeyParts) → kept_by flags keys key ≡ false → (n : ℕ) × (slice_get keys n ≡ Some key) × (slice_get flags n ≡ Some false)
kept_by_not [] keys key gone = absurd (true≢false gone)
kept_by_not (b ∷ flags) [] key gone = absurd (true≢false gone)
kept_by_not (b ∷ flags) (k ∷ keys) key gone = go (same_key key k) refl (λ still. kept_by_not flags keys key still)
  where
    -- a key that is not kept stands at a place whose flag is false, whether or not the first key is this one
    -- the key is the first one, and that one's flag is false; or it is a later one
    go : (t : Bool) → same_key key k ≡ t → (kept_by flags keys key ≡ false → (n : ℕ) × (slice_get keys n ≡ Some key) × (slice_get flags n ≡ Some false))
        → (n : ℕ) × (slice_get (k ∷ keys) n ≡ Some key) × (slice_get (b ∷ flags) n ≡ Some false)
    go true e rest = (0, ap Some (sym ((same_key-decides key k).0 e)), ap Some (sym (ap (λ t. cond t b (kept_by flags keys key)) e) ∙ gone))
    go false e rest = let (n, at, flag) = rest (sym (ap (λ t. cond t b (kept_by flags keys key)) e) ∙ gone) in (suc n, at, flag)

-- where a test says of each key what its flag says, it keeps the keys that the flags keep
filter_flags : (test : KeyParts → Bool) (flags : List Bool) (keys : List KeyParts) → length flags ≡ length keys
    → ((n : ℕ) (key : KeyParts) (b : Bool) → slice_get keys n ≡ Some key → slice_get flags n ≡ Some b → test key ≡ b) → filter test keys ≡ kept_of flags keys
filter_flags test [] [] long says = refl
-- there are as many flags as keys
filter_flags test [] (k ∷ keys) long says = absurd (omega (arith, long))
filter_flags test (b ∷ flags) [] long says = absurd (omega (arith, long))
-- the first key is on both sides where its flag keeps it, and on neither where not
filter_flags test (true ∷ flags) (k ∷ keys) long says =
    ap (λ t. cond t (k ∷ filter test keys) (filter test keys)) (says 0 k true refl refl) ∙ ap (λ l. k ∷ l) (filter_flags test flags keys (omega (arith, long)) (λ n key b at flag. says (suc n) key b at flag))
filter_flags test (false ∷ flags) (k ∷ keys) long says =
    ap (λ t. cond t (k ∷ filter test keys) (filter test keys)) (says 0 k false refl refl) ∙ filter_flags test flags keys (omega (arith, long)) (λ n key b at flag. says (suc n) key b at flag)

-- where each transaction so far has its flag, and the next one gets its own, all of them have
pub flags_more : (until : ℕ) (t : Tabled) (b : Histories) (flags : List Bool) (is_past : Bool)
    → ((set : AnySet) (h : History) → slice_get t.sets (length flags) ≡ Some set → slice_get b.each.items (length flags) ≡ Some h → IsTrue is_past ↔ IsPast until b.restart set h)
    → TellsPast until t b flags → TellsPast until t b (flags ++ not is_past ∷ [])
flags_more until t b flags is_past says each n is_kept set h flag at of = go (push_place flags (not is_past) n is_kept flag)
  where
    -- the new flag is false exactly if the transaction is past
    turned : (past : Bool) → (not past ≡ false) ↔ IsTrue past
    turned true = (λ e. refl, λ e. refl)
    turned false = (λ e. absurd (true≢false e), λ e. absurd (false≢true e))

    -- the flag says whether the transaction is past, be it one of those so far or the new one
    go : (slice_get flags n ≡ Some is_kept) ⊎ ((n ≡ length flags) × (not is_past ≡ is_kept)) → (is_kept ≡ false) ↔ IsPast until b.restart set h
    go (inl old) = each n is_kept set h old at of
    go (inr (last, is)) =
        let both = says set h (subst (λ k. slice_get t.sets k ≡ Some set) last at) (subst (λ k. slice_get b.each.items k ≡ Some h) last of) in
        (λ e. both.0 ((turned is_past).0 (is ∙ e)), λ past. sym is ∙ (turned is_past).1 (both.1 past))

-- what holds of all elements holds of those that are kept
pub All-kept : {A : Type 0} (P : A → Type 0) (flags : List Bool) (xs : List A) → All P xs → All P (kept_of flags xs)
All-kept P flags xs all = All-places P (kept_of flags xs) (λ n x at. All-place P xs (place_of flags n) x (kept_at flags xs n x at).0 all)

-- What follows is of one key that is kept: `kept` says which are.
module _ (kept : KeyParts → Bool) (key : KeyParts) (is : kept key ≡ true) where
  -- an entry without the keys that are not kept is of a kept key exactly if the entry is
  same_of : (e : Observation KeyParts) → concerns key (record { fault = e.fault; event = e.event; keys = filter kept e.keys }) ≡ concerns key e
  same_of e = among_chosen kept key is e.keys

  -- where no entry concerns the key, none concerns it as it is remembered
  none_of : (es : List (Observation KeyParts)) → All (λ o. concerns key o ≡ false) es → All (λ o. concerns key o ≡ false) (remembered kept es)
  none_of [] all = All-nil (λ o. concerns key o ≡ false)
  none_of (e ∷ es) all =
      All-cons (λ o. concerns key o ≡ false) (record { fault = e.fault; event = e.event; keys = filter kept e.keys }) (remembered kept es)
      (same_of e ∙ All-head (λ o. concerns key o ≡ false) e es all) (none_of es (All-tail (λ o. concerns key o ≡ false) e es all))

  -- an entry as it is remembered: with the kept keys alone
  abbrev one : Observation KeyParts → Observation KeyParts
  one e = record { fault = e.fault; event = e.event; keys = filter kept e.keys }

  -- where an entry is the first of the key, it is the first of the key as the entries are remembered
  first_kept : (es : List (Observation KeyParts)) (n : ℕ) (branch : List ℕ) → IsFirstEntryOf es key n branch → IsFirstEntryOf (remembered kept es) key n branch
  first_kept es n branch (before, e, after, whole, at, none, counts, says) =
      (remembered kept before, one e, remembered kept after, ap (remembered kept) whole ∙ map-append one before (e ∷ after), same_of e ∙ at, none_of before none, counts ∙ ap (λ k. k + 1) (sym (length-map before one)), says)

  -- where an entry is the last of the key, it is the last of the key as the entries are remembered
  last_kept : (es : List (Observation KeyParts)) (n : ℕ) → IsLastEntryOf es key n → IsLastEntryOf (remembered kept es) key n
  last_kept es n (before, e, after, whole, at, none, counts) =
      (remembered kept before, one e, remembered kept after, ap (remembered kept) whole ∙ map-append one before (e ∷ after), same_of e ∙ at, none_of after none, counts ∙ ap (λ k. k + 1) (sym (length-map before one)))

  -- a history of the key is its history as the entries are remembered
  history_kept : (es : List (Observation KeyParts)) (restart : ℕ) (h : History) → IsHistoryOf es restart key h → IsHistoryOf (remembered kept es) restart key h
  history_kept es restart h told = record { first = first_kept es h.first h.branch.items told.first; last = last_kept es (max h.last restart) told.last }

  -- a set that follows the entries for the key follows what is remembered of them
  followed_kept : (texts : Texts) (p : Times) (es : List (Observation KeyParts)) (set : AnySet) (d : Bool) → IsFollowed texts p es key set d → IsFollowed texts p (remembered kept es) key set d
  -- the transaction is in trouble over what is remembered too, and its set leads to the runs over no event at the same moment
  followed_kept texts p es set true (leads, unsound) =
      let zip = zip_remembered kept es in (
        subst (λ m. LeadsOf texts p (machine_of_key p.rules key) [] m set) (sym (newest_cut kept 0 es (remembered kept es) zip)) leads,
        λ sound. unsound ((sound_cut kept key is p es (remembered kept es) zip).1 sound),
      )
  -- the transaction is in no trouble, and its set leads to the same runs
  followed_kept texts p es set false (leads, sound) =
      let zip = zip_remembered kept es in (
        subst (λ m. LeadsOf texts p (machine_of_key p.rules key) (events_for key (remembered kept es)) m set) (sym (newest_cut kept 0 es (remembered kept es) zip))
            (subst (λ events. LeadsOf texts p (machine_of_key p.rules key) events (newest_moment es) set) (sym (events_cut kept key is es (remembered kept es) zip)) leads),
        (sound_cut kept key is p es (remembered kept es) zip).0 sound,
      )

-- no entry of a transaction comes after its last one
last_not_after : (es : List (Observation KeyParts)) (key : KeyParts) (m n : ℕ) → IsLastEntryOf es key m → IsLastEntryOf es key n → n ≤ m
-- e is the last entry with b before it and a after it, and f is the other one with c before it and d after it
last_not_after es key m n (b, e, a, whole, is, none, counts) (c, f, d, other, at, last, number) = by (split_compare b a c d e f (sym whole ∙ other))
  where
    -- n is at most m, for the entry with number n is the last one or stands before it
    by : ((b ≡ c) × (e ≡ f)) ⊎ (((zs : List (Observation KeyParts)) × (c ≡ b ++ e ∷ zs)) ⊎ ((zs : List (Observation KeyParts)) × (b ≡ c ++ f ∷ zs))) → n ≤ m
    by (inl same) = omega (arith, counts, number, ap length same.0)
    -- f after e would be among the entries a, none of which has the key, and f has it; an f before e has a lower number
    by (inr (inl (zs, later))) =
        let tail : e ∷ a ≡ (e ∷ zs) ++ f ∷ d = append_cancel_left b (e ∷ a) ((e ∷ zs) ++ f ∷ d) (sym whole ∙ other ∙ ap (λ xs. xs ++ f ∷ d) later ∙ append_assoc b (e ∷ zs) (f ∷ d)) in
        let after : a ≡ zs ++ f ∷ d = cc in
        absurd (false≢true (sym (All-middle (λ o. concerns key o ≡ false) zs d f (subst (All (λ o. concerns key o ≡ false)) after none)) ∙ at))
    by (inr (inr (zs, earlier))) = omega (arith, counts, number, simp length-append at (ap length earlier))

-- a key that an entry concerns stands at some place among the keys of the entries
key_of : (p : Times) (es : List (Observation KeyParts)) (key : KeyParts) (last : ℕ) → IsLastEntryOf es key last → (n : ℕ) × (slice_get (keys_in es) n ≡ Some key)
key_of p es key last (before, e, after, whole, is, none, counts) = by (list_any (same_key key) (keys_in es)) refl
  where
    -- the key stands at some place of the keys, since an entry concerns it
    by : (b : Bool) → list_any (same_key key) (keys_in es) ≡ b → (n : ℕ) × (slice_get (keys_in es) n ≡ Some key)
    by true among = let (n, inside, there) = among-contains key (keys_in es) among in (n, slice_get-get_or (keys_in es) n key inside ∙ ap Some there)
    -- else no entry would concern the key, but e does
    by false lacks =
        let all = none_in key es (among-fold key [] (flat_map (λ o. o.keys) es) lacks).1 in
        absurd (false≢true (sym (All-middle (λ o. concerns key o ≡ false) before after e (subst (All (λ o. concerns key o ≡ false)) whole all)) ∙ is))

-- as many entries are remembered as there were
pub long_kept : (kept : KeyParts → Bool) (es : List (Observation KeyParts)) → length (remembered kept es) ≡ length es
long_kept kept [] = refl
long_kept kept (e ∷ es) = ap suc (long_kept kept es)

-- the newest moment is the same where some transactions are forgotten
pub newest_kept : (kept : KeyParts → Bool) (es : List (Observation KeyParts)) → newest_moment (remembered kept es) ≡ newest_moment es
newest_kept kept es = newest_cut kept 0 es (remembered kept es) (zip_remembered kept es)

-- What follows is of tables whose sets have waited.

-- where the sets have waited until a moment that may pass, the next entry may be taken as before
pub take_waited : (old new : Texts) (t u : Tabled) (number moment : ℕ) → new ≡ old → u.keys ≡ t.keys → MayPass new u moment → AllAreOnRecord u → MayTake old t number moment → MayTake new u number moment
take_waited old new t u number moment book keys passes recorded may = record {
  passes = passes;
  recorded = recorded;
  numbered = λ n keeps. may.numbered n (subst (λ b. Keeps b n) book keeps);
  some = λ n keeps. may.some n (subst (λ b. Keeps b n) book keeps);
  few = (let few = may.few in let same = ap length keys in omega (arith, few, same));
}

-- tables with the same keys and records are watched as those before were
-- t are the tables before, u those after, and b is the trouble
pub watched_waited : (t u : Tabled) (b : Troubled) → u.keys ≡ t.keys → u.records ≡ t.records → AllAreOnRecord u → AreWatched [] t b → AreWatched [] u b
watched_waited t u b keys records recorded h =
    record { long = h.long ∙ sym (ap length keys); recorded = recorded; silent = λ n is. ap (λ rs. slice_get rs n) records ∙ h.silent n is }

-- What follows is of the tables t, of which the keys with a set flag are kept.
module _ (flags : List Bool) (t : Tabled) (long : length flags ≡ length t.keys) (apart : AllPairs (λ a b. a ≢ b) t.keys) where
  -- whether a key is kept by the flags, which are those of the tables' keys
  abbrev pub kept : KeyParts → Bool
  kept = kept_by flags t.keys

  -- the keys that are kept are those whose flag is true
  keys_kept : filter (kept_by flags t.keys) t.keys ≡ kept_of flags t.keys
  keys_kept = filter_flags (kept_by flags t.keys) flags t.keys long (λ n key b at flag. kept_by_at flags t.keys apart n key b at flag)

  -- each key that is left after forgetting is kept
  is_kept : (n : ℕ) (key : KeyParts) → slice_get (kept_of flags t.keys) n ≡ Some key → kept_by flags t.keys key ≡ true
  is_kept n key at = let (there, flag) = kept_at flags t.keys n key at in kept_by_at flags t.keys apart (place_of flags n) key true there flag

  -- the keys that are left in the tables are the keys of what is remembered of the entries
  keys_left : (es : List (Observation KeyParts)) → t.keys ≡ keys_in es → kept_of flags t.keys ≡ keys_in (remembered kept es)
  keys_left es are = sym keys_kept ∙ ap (filter kept) are ∙ sym (keys_cut kept es (remembered kept es) (zip_remembered kept es))

  -- where tables survey the entries, what is left of the tables surveys what is remembered of the entries
  pub survey_kept : (texts : Texts) (es : List (Observation KeyParts)) (deaf : List Bool) → TablesSurvey texts es t deaf → TablesSurvey texts (remembered kept es) (kept_tables flags t) (kept_of flags deaf)
  survey_kept texts es deaf tracks = record {
    order = subst (AllPairs (λ a b. a.event.moment ≤ b.event.moment)) (append-nil (remembered kept es)) (order_kept kept es [] (subst (AllPairs (λ a b. a.event.moment ≤ b.event.moment)) (sym (append-nil es)) tracks.order));
    keys = keys_left es tracks.keys;
    each = λ n key set d at here is.
        -- m is the place that the nth kept key had before
        let m = place_of flags n in
        followed_kept kept key (is_kept n key at) texts t.times es set d
        (tracks.each m key set d (kept_at flags t.keys n key at).0 (kept_at flags t.sets n set here).0 (kept_at flags deaf n d is).0);
  }

  -- the histories that are left are those of what is remembered of the entries
  pub histories_kept : (es : List (Observation KeyParts)) (b c : Histories) → t.keys ≡ keys_in es → c.each.items ≡ kept_of flags b.each.items → c.restart ≡ b.restart → AreHistories es b → AreHistories (remembered kept es) c
  histories_kept es b c are items restart h = record {
    long = ap length items ∙ kept_long flags b.each.items t.keys (h.long ∙ ap length (sym are)) ∙ ap length (keys_left es are);
    restart = (let low = h.restart in omega (arith, low, restart, long_kept kept es));
    each = λ n key k at here.
        -- the history under a number is that of the key in the tables before
        let m = place_of flags n in
        let there = subst (λ ks. slice_get ks n ≡ Some key) (sym (keys_left es are)) at in
        subst (λ r. IsHistoryOf (remembered kept es) r key k) (sym restart)
        (history_kept kept key (is_kept n key there) es b.restart k
        (h.each m key k (ap (λ ks. slice_get ks m) (sym are) ∙ (kept_at flags t.keys n key there).0) (kept_at flags b.each.items n k (subst (λ ks. slice_get ks n ≡ Some k) items here)).0));
  }

  -- where an entry may pass the tables, it may pass what is left of them
  pub pass_kept : (texts : Texts) (moment : ℕ) → MayPass texts t moment → MayPass texts (kept_tables flags t) moment
  pass_kept texts moment may = record {
    order = All-kept (λ set. moment_of set ≤ moment) flags t.sets may.order;
    known = All-kept (IsKnownSet texts) flags t.sets may.known;
    long = kept_long flags t.sets t.keys may.long;
  }

  -- where each last moment of the tables is on record, each of what is left is
  pub recorded_kept : AllAreOnRecord t → AllAreOnRecord (kept_tables flags t)
  recorded_kept h = record {
    long = kept_long flags t.records t.keys h.long;
    each = λ n set recorded at here. by n set recorded (h.each (place_of flags n) set recorded (kept_at flags t.sets n set at).0 (kept_at flags t.records n recorded here).0);
  }
    where
      -- a last moment on record is so at each place, since none may be missing
      by : (n : ℕ) (set : AnySet) (recorded : Option (Option ℕ)) → IsOnRecord [] (place_of flags n + 1) set recorded → IsOnRecord [] (n + 1) set recorded
      by n set (Some limit) on = on
      by n set None on = on

  -- the tables that are left may take the next entry
  pub take_kept : (texts : Texts) (number moment : ℕ) → MayTake texts t number moment → MayTake texts (kept_tables flags t) number moment
  take_kept texts number moment may = record {
    passes = pass_kept texts moment may.passes;
    recorded = recorded_kept may.recorded;
    numbered = may.numbered;
    some = may.some;
    few = (let low = kept_few flags t.keys in let few = may.few in omega (arith, low, few));
  }

  -- where the tables are watched, what is left of them is watched, with the flags of trouble that are left
  pub watched_kept : (b c : Troubled) → c.deaf.items ≡ kept_of flags b.deaf.items → AreWatched [] t b → AreWatched [] (kept_tables flags t) c
  watched_kept b c deaf h = record {
    long = ap length deaf ∙ kept_long flags b.deaf.items t.keys h.long;
    recorded = recorded_kept h.recorded;
    silent = λ n is.
        -- n is a place in what is left, and m the place there before: the transaction there was in trouble, and no last moment of it is on record
        let m = place_of flags n in
        let was = (kept_at flags b.deaf.items n true (subst (λ ds. slice_get ds n ≡ Some true) deaf is)).0 in
        let (recorded, at) = at_place (kept_of flags t.records) n (let l = slice_get_within (kept_of flags b.deaf.items) n true (subst (λ ds. slice_get ds n ≡ Some true) deaf is) in let k = kept_long flags b.deaf.items t.records (h.long ∙ sym h.recorded.long) in omega (arith, l, k)) in
        at ∙ sym (kept_at flags t.records n recorded at).0 ∙ h.silent m was;
  }

  -- What follows is of the transactions that are forgotten, by their flags: `deaf` says which are in trouble, and b has the entries that each of them had.
  module _ (texts : Texts) (es : List (Observation KeyParts)) (deaf : List Bool) (b : Histories) (until moment : ℕ) (says : AreFlags until t b flags) (tracks : TablesSurvey texts es t deaf)
      (as_many : length deaf ≡ length t.keys) (may : MayPass texts t moment) (newest : newest_moment es ≡ moment) (told : AreHistories es b) where
    -- each key has a set, a flag of trouble and a history, and its set follows the entries
    -- n is the key's place; d is the flag there, and h the history
    at_key : (n : ℕ) (key : KeyParts) → slice_get t.keys n ≡ Some key → (set : AnySet) × (d : Bool) × (h : History) × (slice_get t.sets n ≡ Some set) × (slice_get deaf n ≡ Some d) × (slice_get b.each.items n ≡ Some h)
    at_key n key at =
        let inside = slice_get_within t.keys n key at in
        let (set, here) = at_place t.sets n (let l = may.long in omega (arith, inside, l)) in
        let (d, is) = at_place deaf n (omega (arith, inside, as_many)) in
        let (h, of) = at_place b.each.items n (let l = told.long in let k = ap length tracks.keys in omega (arith, inside, l, k)) in
        (set, d, h, here, is, of)

    -- a key whose set is quiet, or which is in trouble, is over
    -- a deaf transaction is in trouble; a quiet set of any other says that it is idle again or has ended
    over_by : (key : KeyParts) (set : AnySet) (d : Bool) → IsFollowed texts t.times es key set d → moment_of set ≤ newest_moment es → IsQuietSet set → IsOver t.times es key
    over_by key set true (leads, unsound) low quiet = inl unsound
    over_by key set false (leads, sound) low quiet = inr (quiet_over texts t.times (machine_of_key t.times.rules key) (events_for key es) (newest_moment es) set leads low quiet)

    -- a key that is not kept is over, and its last entry has a number up to `until`
    forgotten : (key : KeyParts) → kept key ≡ false → IsOver t.times es key × ((last : ℕ) × IsLastEntryOf es key last × (last ≤ until))
    forgotten key gone =
        let (n, at, flag) = kept_by_not flags t.keys key gone in
        let (set, d, h, here, is, of) = at_key n key at in
        -- the false flag says that the set is quiet (past.0) and that the last entry has a number up to `until` (past.1)
        let past = (says.each n false set h flag here of).0 refl in
        let low = subst (λ m. moment_of set ≤ m) (sym newest) (All-place (λ s. moment_of s ≤ moment) t.sets n set here may.order) in (
          over_by key set d (tracks.each n key set d at here is) low past.0,
          (max h.last b.restart, (told.each n key h (ap (λ ks. slice_get ks n) (sym tracks.keys) ∙ at) of).last, past.1),
        )

    -- What follows needs that the set of each transaction that is over is quiet: a transaction that is over, and has no later entry, is not kept.
    module _ (over_quiet : AreQuietIfOver es t) where
      -- a key that is over, and whose last entry has a number up to `until`, is not kept
      remembers : (key : KeyParts) → IsOver t.times es key → (last : ℕ) → IsLastEntryOf es key last → last ≤ until → kept key ≡ false
      remembers key over last is_last low =
          let (n, there) = key_of t.times es key last is_last in
          let at : slice_get t.keys n ≡ Some key = ap (λ ks. slice_get ks n) tracks.keys ∙ there in
          let (set, d, h, here, is, of) = at_key n key at in
          let (flag, flagged) = at_place flags n (let inside = slice_get_within t.keys n key at in omega (arith, inside, long)) in
          -- the history's last entry is the last one, so that its number is not above `until`; and the set is quiet: so the flag is false
          let not_later = last_not_after es key last (max h.last b.restart) is_last (told.each n key h there of).last in
          kept_by_at flags t.keys apart n key flag at flagged ∙ (says.each n flag set h flagged here of).1 (over_quiet n key set at here over, omega (arith, not_later, low))

      -- what is not kept is just what is over and has its last entry up to `until`
      pub forgets_kept : ForgetsUpTo until t.times es kept
      forgets_kept key = (forgotten key, λ both. remembers key both.0 both.1.0 both.1.1 both.1.2)
