-- What is known of the transactions while an entry passes, when some sets are still to hear its event.
-- In the lemmas n is the place of a key, s the set there and r its record, and t and u are the tables before and after.
use Rattle.std.proofs.Common.{◌≡◌, ◌≢◌, ◌≤◌, ◌<◌, ◌+◌, ◌-◌, ◌⊎◌, ◌||◌, inl, inr, ℕ, suc, Bool, true, false, Option, Some, None, List, [], ◌∷◌, ◌++◌, All, AllPairs, IsTrue, map, length, position, get_or, slice_get, refl, sym, ap, ◌∙◌, subst, arith}
use Rattle.std.specs.List.{position_or_len}
use Rattle.std.specs.Option.{option_map}
use Rattle.std.proofs.lemmas.Bool.{false≢true}
use Rattle.std.proofs.lemmas.List.Elements.{All-head, All-tail}
use Rattle.std.proofs.lemmas.Grind.{common_steps}
use Rattle.std.proofs.lemmas.List.Quantifiers.{position-Some}
use Rattle.std.proofs.lemmas.List.Sums.{fails_before_first}
use Rattle.std.proofs.lemmas.Option.{slice_get_within, slice_get-get_or}
use Rattle.sip_standard.specs.Key.{KeyParts}
use Rattle.sip_standard.specs.Times.{Times}
use Rattle.sip_machine.specs.Texts.{Texts}
use Rattle.sip_machine.specs.NumberedEvent.{NumberedEvent, event_in}
use Rattle.sip_standard.specs.KeyMachine.{machine_of_key}
use Rattle.sip_states.specs.AnySet.{moment_of}
use Rattle.sip_states.specs.Agenda.{is_overdue}
use Rattle.sip_states.specs.Tables.{Tabled, IsGiven, due_of}
use Rattle.sip_states.specs.declared.any_set.AnySet.{AnySet}
use Rattle.sip_states.proofs.lists.Places.{set_place}
use Rattle.sip_verdict.specs.declared.passing.Hearing.{Hearing}
use Rattle.sip_verdict.specs.declared.passing.Outcome.{Outcome}
use Rattle.sip_verdict.specs.declared.passing.Outcome.TheVariants as all
use Rattle.sip_standard.specs.Observation.{Observation}
use Rattle.sip_standard.specs.VerdictOf.{events_for, RunsOver, IsWideAt, IsFirstKey}
use Rattle.sip_verdict.specs.Entries.{concerns, newest_moment}
use Rattle.sip_verdict.specs.inner.Stepping.{RunsUntil, IsStepped}
use Rattle.sip_verdict.specs.inner.Tracking.{Keeping, IsReady, IsStanding, GoesOn, IsPassed, IsOutcome, IsOwnOutcome, overdue_outcome, first_of}
use Rattle.sip_verdict.specs.inner.TablesTracking.{LeadsOf, StandsOf, key_keeping, transactions_of, is_among, concerns_number, AreTold, MayPass, MayHear, AreHearers, AreOnRecord, Hears, HearsEach}
use Rattle.sip_verdict.specs.inner.Concerned.{each, is_all}
use Rattle.sip_verdict.proofs.verdicts.Outcomes.{IsFirstAmong, Says, says_fewer, says_both, both_fine, first_at}
use Rattle.sip_verdict.proofs.keys.Overdue.{overdue_none, in_time_some}
use Rattle.sip_verdict.proofs.keys.QuietSets.{leads_later, quiet_stepped}
use Rattle.sip_verdict.proofs.keys.Stepped.{own_passed, other_passed, run_still}
use Rattle.sip_verdict.proofs.tables.TablesPassing.{at_place, All-place, All-places, zip-place, place-zip, keys_are, among_not, among_first, among_rest, first_apart, leaves_keys, leaves_sets, heard_given}

-- where a test passes at no place of a list, no element passes it
pub All-position_None : {X : Type 0} (p : X → Bool) (xs : List X) → position p xs ≡ None → All (λ x. ¬ (IsTrue (p x))) xs
All-position_None p xs e k d low passes =
    let none : length xs ≤ position_or_len p xs = grind (arith, common_steps) in
    false≢true (sym (fails_before_first p xs k d (omega arith)) ∙ passes)

-- where all numbers of a list differ, those after the first differ
pub AllPairs-tail : (n : ℕ) (ns : List ℕ) → AllPairs (λ a b. a ≢ b) (n ∷ ns) → AllPairs (λ a b. a ≢ b) ns
AllPairs-tail n ns apart i j d less low = apart (suc i) (suc j) d (omega arith) (omega arith)

-- a test that is not true is false
pub not_passing : (b : Bool) → ¬ (b ≡ true) → b ≡ false
not_passing true h = absurd (h refl)
not_passing false h = refl

-- What follows is of one entry e after the entries es, by the times p, where some transactions have passed it and others have not; `keys` are all keys.
module _ (texts : Texts) (p : Times) (es : List (Observation KeyParts)) (e : Observation KeyParts) (keys : List KeyParts) where
  -- what is kept of a key is a set of its machine
  abbrev k : Keeping (KeyParts × AnySet)
  k = key_keeping texts p

  -- the key has a run over the entries and e
  abbrev HasOne : KeyParts → Type 0
  HasOne key = RunsOver p (es ++ e ∷ []) key

  -- the sets with the numbers `waits` are still to hear the event, and `outcome` is that of all other keys, whose sets lead on where it says no trouble
  pub record IsHalfway (waits : List ℕ) (t : Tabled) (outcome : Outcome) : Type 0 where
    pub same : t.keys ≡ keys
    pub says : Says HasOne (IsWideAt p es e) keys (λ n. is_among waits (n + 1) ≡ false) outcome
    pub waiting : (n : ℕ) (key : KeyParts) (s : AnySet) → slice_get keys n ≡ Some key → slice_get t.sets n ≡ Some s → is_among waits (n + 1) ≡ true → (concerns key e ≡ true) × IsReady k es (key, s)
    pub passed : outcome ≡ all.Fine → (n : ℕ) (key : KeyParts) (s : AnySet) → slice_get keys n ≡ Some key → slice_get t.sets n ≡ Some s → is_among waits (n + 1) ≡ false
        → IsReady k (es ++ e ∷ []) (key, s) × IsStanding k es e (key, s)

  -- What follows is of tables in which no set is still to hear the event.
  module _ (t : Tabled) (long : length t.sets ≡ length t.keys) where
    -- the keys of the transactions are the keys
    names : (h : t.keys ≡ keys) → map (λ x. x.0) (transactions_of t) ≡ keys
    names h = keys_are t long ∙ h

    -- the first key at any place is the first of the transactions' keys
    first : (P : KeyParts → Type 0) (number : ℕ) → t.keys ≡ keys → IsFirstAmong P keys (λ n. false ≡ false) number → IsFirstKey P (map (λ x. x.0) (transactions_of t)) number
    first P number h f =
        subst (λ ks. IsFirstKey P ks number) (sym (names h))
        (subst (IsFirstKey P keys) (sym f.counts) (first_at P keys f.place f.key f.at f.holds (λ n key low at. f.earlier n key low at refl)))

    -- where none is still to hear, the outcome so far is that of all
    pub halfway_all : (outcome : Outcome) → IsHalfway [] t outcome → IsOutcome p k es e (transactions_of t) outcome
    halfway_all all.Fine h = All-places (GoesOn p k es e) (transactions_of t) goes
      where
        -- each transaction goes on at the entry
        goes : (n : ℕ) (x : KeyParts × AnySet) → slice_get (transactions_of t) n ≡ Some x → GoesOn p k es e x
        goes n x at =
            let there = place-zip t.keys t.sets n x at in
            let key = subst (λ ks. slice_get ks n ≡ Some x.0) h.same there.0 in
            let says = h.says n x.0 key refl in
            -- the key has a run and is not too wide, and its set leads on
            let passed = h.passed refl n x.0 x.1 key there.1 refl in
            record { runs = says.0; narrow = says.1; ready = passed.0; stands = passed.1 }
    -- where a key is in trouble, the first such key among those that have passed is the first of all
    halfway_all (all.NoRun number) h = first (λ key. ¬ HasOne key) number h.same h.says
    halfway_all (all.TooWide number) h = (
      subst (All HasOne) (sym (names h.same)) (All-places HasOne keys (λ n key at. h.says.0 n key at refl)),
      first (IsWideAt p es e) number h.same h.says.1,
    )

  -- What follows is of one set more that hears the event, that with this number; those of ns are still to hear it. The tables were t and are u,
  -- `outcome` is how the hearing had come out so far, and `one` how it comes out for this set.
  -- `once`: the number is not among ns; h: how it stood before this set heard the event; `own`: what the hearing did to this set.
  module _ (event : NumberedEvent) (is_event : (n : ℕ) (key : KeyParts) → slice_get keys n ≡ Some key → e.event ≡ event_in texts event) (number : ℕ) (ns : List ℕ) (once : is_among ns number ≡ false) (late : newest_moment es ≤ event.moment) (t u : Tabled) (outcome : Outcome)
      (h : IsHalfway (number ∷ ns) t outcome) (given : IsGiven t number) (one : Outcome) (own : Hears texts event number t u one) where
    -- the place of the set
    abbrev place : ℕ
    place = number - 1

    -- the number of the set is its place and one
    next : number - 1 + 1 ≡ number
    next = (let low = given.low in omega arith)

    -- the key at the place
    mine : (key : KeyParts) × (slice_get keys place ≡ Some key)
    mine = at_place keys (number - 1) (omega (arith, next, given.high, ap length h.same))

    -- the event concerns the key, whose set was ready for it
    before : (concerns mine.0 e ≡ true) × IsReady k es (mine.0, own.before)
    before = h.waiting place mine.0 own.before mine.1 own.was (among_first (place + 1) number ns next)

    -- the outcome `one` says what the event leaves of the runs of the key
    left : IsPassed p k es e (mine.0, own.after) one
    left =
        own_passed p k es e (mine.0, own.after) before.0 one
        (subst (λ f. IsStepped p (machine_of_key p.rules mine.0) (events_for mine.0 es) f (λ fs. LeadsOf texts p (machine_of_key p.rules mine.0) fs f.moment own.after)
        (λ f. StandsOf texts p (machine_of_key p.rules mine.0) (events_for mine.0 es) f own.after) one) (sym (is_event place mine.0 mine.1))
        (own.stepped p (machine_of_key p.rules mine.0) (events_for mine.0 es) (newest_moment es) late before.1))

    -- the key at the place is this one
    mine_is : (n : ℕ) (key : KeyParts) → slice_get keys n ≡ Some key → n ≡ place → mine.0 ≡ key
    mine_is n key at same = let both : Some mine.0 ≡ Some key = sym mine.1 ∙ ap (slice_get keys) (sym same) ∙ at in cc

    -- of the one key, its own outcome says what the event left of its runs
    -- g says how the key passed, and the claim is of the key at this place alone: no key before it is at the place
    own_says : (o : Outcome) → IsOwnOutcome number o → IsPassed p k es e (mine.0, own.after) o → Says HasOne (IsWideAt p es e) keys (λ n. n ≡ place) o
    own_says all.Fine is g = λ n key at same. (subst HasOne (mine_is n key at same) g.runs, λ wide. g.narrow (subst (IsWideAt p es e) (sym (mine_is n key at same)) wide))
    own_says (all.NoRun told) is g = record { place = place; counts = is ∙ sym next; key = mine.0; at = mine.1; holds = g; earlier = λ n key low at same. absurd (omega (arith, low, same)) }
    own_says (all.TooWide told) is g = (
      λ n key at same. subst HasOne (mine_is n key at same) g.0,
      record { place = place; counts = is ∙ sym next; key = mine.0; at = mine.1; holds = g.1; earlier = λ n key low at same. absurd (omega (arith, low, same)) },
    )

    -- a set at a place is the one that has heard the event, or the one that stood there before
    other : (n : ℕ) (s : AnySet) → slice_get u.sets n ≡ Some s → ((n ≡ place) × (own.after ≡ s)) ⊎ ((n ≢ place) × (slice_get t.sets n ≡ Some s))
    other n s at = set_place t.sets place n own.after s (ap (λ xs. slice_get xs n) (sym (leaves_sets number own.after one t u own.leaves)) ∙ at)

    -- a set that is not to hear the event any more was not to hear it, or has just heard it
    no_more : (n : ℕ) → is_among ns (n + 1) ≡ false → (is_among (number ∷ ns) (n + 1) ≡ false) ⊎ (n ≡ place)
    no_more n none = elim (among_not (n + 1) number ns none) [ inl old ↦ inl old | inr same ↦ inr (omega (arith, next, same)) ]

    -- a set that is still to hear the event is ready for it as before
    more_waiting : (n : ℕ) (key : KeyParts) (s : AnySet) → slice_get keys n ≡ Some key → slice_get u.sets n ≡ Some s → is_among ns (n + 1) ≡ true → (concerns key e ≡ true) × IsReady k es (key, s)
    more_waiting n key s at here still =
        elim (other n s here) [
          | inl a ↦ absurd (false≢true (sym once ∙ ap (is_among ns) (omega (arith, a.0, next)) ∙ still))
          | inr b ↦ h.waiting n key s at b.1 (among_rest (n + 1) number ns still)
        ]

    -- where no trouble is found so far, each set that is not to hear the event any more leads on
    more_passed : first_of outcome one ≡ all.Fine → (n : ℕ) (key : KeyParts) (s : AnySet) → slice_get keys n ≡ Some key → slice_get u.sets n ≡ Some s
        → is_among ns (n + 1) ≡ false → IsReady k (es ++ e ∷ []) (key, s) × IsStanding k es e (key, s)
    more_passed fine n key s at here none = go (other n s here) (no_more n none)
      where
        -- the set is ready for later entries and stands after this one: it has just heard the entry, or it waits or has passed
        go : ((n ≡ place) × (own.after ≡ s)) ⊎ ((n ≢ place) × (slice_get t.sets n ≡ Some s)) → (is_among (number ∷ ns) (n + 1) ≡ false) ⊎ (n ≡ place) → IsReady k (es ++ e ∷ []) (key, s) × IsStanding k es e (key, s)
        go (inl a) w =
            let g : GoesOn p k es e (mine.0, own.after) = subst (IsPassed p k es e (mine.0, own.after)) (both_fine outcome one fine).1 left in
            subst (λ x. IsReady k (es ++ e ∷ []) x × IsStanding k es e x) (λ i. (mine_is n key at a.0 i, a.1 i)) (g.ready, g.stands)
        go (inr b) (inl old) = h.passed (both_fine outcome one fine).0 n key s at b.1 old
        -- the set would stand at the place of the one that heard, and not there
        go (inr b) (inr same) = absurd (b.0 same)

    -- after the set has heard the event, the other sets that are to hear it are ready, and the outcome is joined with its own
    one_more : IsHalfway ns u (first_of outcome one)
    one_more = record {
      same = leaves_keys number own.after one t u own.leaves ∙ h.same;
      says = says_fewer HasOne (IsWideAt p es e) keys (λ n. (is_among (number ∷ ns) (n + 1) ≡ false) ⊎ (n ≡ place)) (λ n. is_among ns (n + 1) ≡ false) no_more (first_of outcome one)
          (says_both HasOne (IsWideAt p es e) keys (λ n. is_among (number ∷ ns) (n + 1) ≡ false) (λ n. n ≡ place) outcome one h.says (own_says one own.numbered left));
      waiting = more_waiting;
      passed = more_passed;
    }

  -- where sets hear the event one after another, the outcome after all of them is that of all keys
  -- ns are the numbers of the transactions; t and `before` are the tables and the outcome before, and u and `after` those after
  pub halfway_each : (event : NumberedEvent) → ((n : ℕ) (key : KeyParts) → slice_get keys n ≡ Some key → e.event ≡ event_in texts event) → newest_moment es ≤ event.moment → (ns : List ℕ) (t u : Tabled) (before after : Outcome) → IsHalfway ns t before → All (IsGiven t) ns
      → AllPairs (λ a b. a ≢ b) ns → HearsEach texts event ns t before u after → IsHalfway [] u after
  halfway_each event is_event late [] t u before after h given apart (same, fine) = subst (λ o. IsHalfway [] u o) (sym fine) (subst (λ x. IsHalfway [] x before) (sym same) h)
  -- the first of the sets has heard the event, and the others hear it one after another
  halfway_each event is_event late (n ∷ ns) t u before after h given apart (between, one, first, rest) =
      halfway_each event is_event late ns between u (first_of before one) after
      (one_more event is_event n ns (first_apart n ns apart) late t between before h (All-head (IsGiven t) n ns given) one first)
      (heard_given texts event n t between one first ns (All-tail (IsGiven t) n ns given)) (AllPairs-tail n ns apart) rest

-- What follows is of the tables t, in which no set has heard the event of the entry e yet: `numbers` are those of the sets that are to hear it.
-- `recorded`: only these sets may lack a last moment; `told`: each key is told the event or waits; `heard`: the event concerns these sets; `others`: each
-- other key is not concerned, or goes on over e.
module _ (texts : Texts) (p : Times) (es : List (Observation KeyParts)) (e : Observation KeyParts) (moment : ℕ) (hearing : Option Hearing) (t : Tabled) (may : MayPass texts t moment)
    (numbers : List ℕ) (recorded : AreOnRecord numbers t) (told : AreTold texts t.keys moment hearing e) (ready : All (IsReady (key_keeping texts p) es) (transactions_of t))
    (newest : newest_moment es ≤ moment) (heard : (number : ℕ) → is_among numbers number ≡ true → concerns_number hearing number ≡ true)
    (others : (n : ℕ) (key : KeyParts) (s : AnySet) → slice_get t.keys n ≡ Some key → slice_get t.sets n ≡ Some s → is_among numbers (n + 1) ≡ false
    → (concerns_number hearing (n + 1) ≡ false) ⊎ GoesOn p (key_keeping texts p) es e (key, s)) where
  -- What follows is of the key with the number n, its set s and its last moment on record.
  module _ (n : ℕ) (key : KeyParts) (s : AnySet) (at : slice_get t.keys n ≡ Some key) (here : slice_get t.sets n ≡ Some s) where
    -- the set of the key leads to the runs over its events
    leads : LeadsOf texts p (machine_of_key p.rules key) (events_for key es) (newest_moment es) s
    leads = All-place (IsReady (key_keeping texts p) es) (transactions_of t) n (key, s) (zip-place t.keys t.sets n key s at here) ready

    -- the set has waited no longer than until the moment
    low : moment_of s ≤ moment
    low = All-place (λ x. moment_of x ≤ moment) t.sets n s here may.order

    -- the moment of the entry is the moment until which the others wait
    at_moment : e.event.moment ≡ moment
    at_moment = (told n key at).at

    -- a key whose last moment on record is past has no run over the entries and e
    -- a key without a record is not overdue
    late : (r : Option (Option ℕ)) → slice_get t.records n ≡ Some r → is_overdue moment r ≡ true → ¬ RunsOver p (es ++ e ∷ []) key
    late None on is = absurd (false≢true is)
    late (Some limit) on is = λ run.
        overdue_none texts p (machine_of_key p.rules key) (events_for key es) (newest_moment es) s leads limit (recorded.each n s (Some limit) here on) moment newest low is
        (subst (RunsUntil p (machine_of_key p.rules key) (events_for key es)) at_moment (run_still p (key_keeping texts p) es e (key, s) run))

    -- a key whose last moment is not past, and that is not to hear the event, goes on over e
    -- only a key that is to hear the event lacks a record
    in_time : (r : Option (Option ℕ)) → slice_get t.records n ≡ Some r → is_overdue moment r ≡ false → is_among numbers (n + 1) ≡ false → GoesOn p (key_keeping texts p) es e (key, s)
    in_time None on is other = absurd (false≢true (sym other ∙ recorded.each n s None here on))
    in_time (Some limit) on is other = elim (others n key s at here other) [ inl apart ↦ waits_on apart | inr goes ↦ goes ]
      where
        -- a set that the event does not concern goes on, since its last moment is not past
        waits_on : concerns_number hearing (n + 1) ≡ false → GoesOn p (key_keeping texts p) es e (key, s)
        waits_on apart =
            other_passed p (key_keeping texts p) es e (key, s) ((told n key at).concerned ∙ apart)
            (subst (RunsUntil p (machine_of_key p.rules key) (events_for key es)) (sym at_moment)
            (in_time_some texts p (machine_of_key p.rules key) (events_for key es) (newest_moment es) s leads limit (recorded.each n s (Some limit) here on) moment newest low is))
            (leads_later texts p (machine_of_key p.rules key) (events_for key es) (newest_moment es) e.event.moment s (omega (arith, newest, at_moment)) leads)

  -- each key has a set at its place
  set_of_key : (n : ℕ) (key : KeyParts) → slice_get t.keys n ≡ Some key → (s : AnySet) × (slice_get t.sets n ≡ Some s)
  set_of_key n key at = at_place t.sets n (let within = slice_get_within t.keys n key at in let long = may.long in omega arith)

  -- each key has a last moment on record at its place
  record_of_key : (n : ℕ) (key : KeyParts) → slice_get t.keys n ≡ Some key → (r : Option (Option ℕ)) × (slice_get t.records n ≡ Some r)
  record_of_key n key at = at_place t.records n (let within = slice_get_within t.keys n key at in let long = recorded.long in omega arith)

  -- a transaction that is still to hear the entry is concerned by it and ready
  waiting : (n : ℕ) (key : KeyParts) (s : AnySet) → slice_get t.keys n ≡ Some key → slice_get t.sets n ≡ Some s → is_among numbers (n + 1) ≡ true
      → (concerns key e ≡ true) × IsReady (key_keeping texts p) es (key, s)
  waiting n key s at here own = ((told n key at).concerned ∙ heard (n + 1) own, leads n key s at here)

  -- What follows is of tables in which no last moment is past.
  module _ (nothing : (n : ℕ) (r : Option (Option ℕ)) → slice_get t.records n ≡ Some r → is_overdue moment r ≡ false) where
    -- a transaction that is not to hear the event goes on, since its last moment is not past
    goes : (n : ℕ) (key : KeyParts) (s : AnySet) → slice_get t.keys n ≡ Some key → slice_get t.sets n ≡ Some s → is_among numbers (n + 1) ≡ false → GoesOn p (key_keeping texts p) es e (key, s)
    goes n key s at here other = let (r, on) = record_of_key n key at in in_time n key s at here r on (nothing n r on) other

    -- where no last moment is past, the outcome of all keys that are not to hear the event is no trouble
    none_due : IsHalfway texts p es e t.keys numbers t all.Fine
    none_due = record {
      same = refl;
      says = λ n key at other. (let (s, here) = set_of_key n key at in let g = goes n key s at here other in (g.runs, g.narrow));
      waiting = waiting;
      passed = λ fine n key s at here other. (let g = goes n key s at here other in (g.ready, g.stands));
    }

  -- What follows is of the first key whose last moment is past, the one at i.
  module _ (i : ℕ) (low : i < length t.records) (late_is : is_overdue moment (get_or t.records i None) ≡ true) (earlier : (n : ℕ) → n < i → is_overdue moment (get_or t.records n None) ≡ false) where
    -- where a last moment is past, the outcome is that the first such key has no run
    first_due : IsHalfway texts p es e t.keys numbers t (all.NoRun (i + 1))
    first_due =
        let (key, at) = at_place t.keys i (let long = recorded.long in omega arith) in
        let (s, here) = set_of_key i key at in
        record {
          same = refl;
          says = record {
            -- the first key whose last moment is past has no run
            place = i;
            counts = refl;
            key = key;
            at = at;
            holds = late i key s at here (get_or t.records i None) (slice_get-get_or t.records i None low) late_is;
            -- the keys before it have a run
            earlier = λ n k below there other none. (let (x, was) = set_of_key n k there in
                none (in_time n k x there was (get_or t.records n None) (slice_get-get_or t.records n None (omega arith)) (earlier n below) other).runs);
          };
          waiting = waiting;
          passed = λ fine. absurd cc;
        }

  -- before any set hears the event, the outcome of the other keys says which of them is overdue first, or that all go on
  pub halfway_start : IsHalfway texts p es e t.keys numbers t (overdue_outcome (due_of t moment))
  halfway_start = go (position (is_overdue moment) t.records) refl
    where
      -- the entry is halfway passed with the outcome of the search, whether a record is found overdue or none is
      go : (found : Option ℕ) → position (is_overdue moment) t.records ≡ found → IsHalfway texts p es e t.keys numbers t (overdue_outcome (option_map (λ i. i + 1) found))
      go None is = none_due (nowhere t.records is)
        where
          -- where no record is found overdue, none is
          -- rs are the records, and r is the one at the place n
          nowhere : (rs : List (Option (Option ℕ))) → position (is_overdue moment) rs ≡ None → (n : ℕ) (r : Option (Option ℕ)) → slice_get rs n ≡ Some r → is_overdue moment r ≡ false
          nowhere rs is n r at = not_passing (is_overdue moment r) (All-place (λ x. ¬ IsTrue (is_overdue moment x)) rs n r at (All-position_None (is_overdue moment) rs is))
      go (Some i) is = let found = position-Some (is_overdue moment) t.records i None is in first_due i found.0 found.1 found.2

  -- where an entry concerns no key, the outcome of all says which key is overdue first, or that all go on
  pub mark_outcome : numbers ≡ [] → IsOutcome p (key_keeping texts p) es e (transactions_of t) (overdue_outcome (due_of t moment))
  mark_outcome none =
      halfway_all texts p es e t.keys t may.long (overdue_outcome (due_of t moment))
      (subst (λ ns. IsHalfway texts p es e t.keys ns t (overdue_outcome (due_of t moment))) none halfway_start)

  -- where each transaction that an entry concerns has heard the event, the outcome of all is the outcome after them
  pub heard_outcome : (event : NumberedEvent) → ((n : ℕ) (key : KeyParts) → slice_get t.keys n ≡ Some key → e.event ≡ event_in texts event) → newest_moment es ≤ event.moment → All (IsGiven t) numbers → AllPairs (λ a b. a ≢ b) numbers → (u : Tabled)
      → length u.sets ≡ length u.keys → (outcome : Outcome) → HearsEach texts event numbers t (overdue_outcome (due_of t moment)) u outcome
      → IsOutcome p (key_keeping texts p) es e (transactions_of u) outcome
  heard_outcome event is_event late given apart u long outcome heard_each =
      halfway_all texts p es e t.keys u long outcome
      (halfway_each texts p es e t.keys event is_event late numbers t u (overdue_outcome (due_of t moment)) outcome halfway_start given apart heard_each)

-- a key whose set does not hear the event is not concerned, or its set is quiet and passes the restart as it is
pub quiet_others : (texts : Texts) (p : Times) (es : List (Observation KeyParts)) (e : Observation KeyParts) (moment : ℕ) (h : Hearing) (t : Tabled) → MayPass texts t moment → AreTold texts t.keys moment (Some h) e
    → All (IsReady (key_keeping texts p) es) (transactions_of t) → newest_moment es ≤ moment → MayHear texts t moment h → (numbers : List ℕ) → AreHearers t h.concerned numbers
    → (n : ℕ) (key : KeyParts) (s : AnySet) → slice_get t.keys n ≡ Some key → slice_get t.sets n ≡ Some s → is_among numbers (n + 1) ≡ false
    → (concerns_number (Some h) (n + 1) ≡ false) ⊎ GoesOn p (key_keeping texts p) es e (key, s)
quiet_others texts p es e moment h t may told ready newest hear numbers hearers n key s at here none = by_all (is_all h.concerned) refl
  where
    -- what the tables keep of a transaction
    k : Keeping (KeyParts × AnySet)
    k = key_keeping texts p

    -- the number is not among those that the event concerns
    not_named : is_among (each h.concerned) (n + 1) ≡ false
    not_named = not_passing (is_among (each h.concerned) (n + 1)) (λ among. false≢true (sym none ∙ hearers.named (n + 1) among))

    -- at a restart a quiet set goes on
    goes : is_all h.concerned ≡ true → GoesOn p k es e (key, s)
    goes every =
        let leads = All-place (IsReady k es) (transactions_of t) n (key, s) (zip-place t.keys t.sets n key s at here) ready in
        let low = All-place (λ x. moment_of x ≤ moment) t.sets n s here may.order in
        let machine = machine_of_key p.rules key in
        let events = events_for key es in
        -- the set is quiet, since it need not hear the restart, and so it passes it as it is
        let stepped = quiet_stepped texts p machine events (newest_moment es) s leads (hearers.others every n s here none) h.event (hear.restart every) (omega (arith, newest, hear.at)) (omega (arith, low, hear.at)) in
        own_passed p k es e (key, s) ((told n key at).concerned ∙ ap (λ b. b || is_among (each h.concerned) (n + 1)) every) all.Fine
        (subst (λ f. IsStepped p machine events f (λ fs. LeadsOf texts p machine fs f.moment s) (λ g. StandsOf texts p machine events g s) all.Fine) (sym (told n key at).event) stepped)

    -- the event does not concern the transaction, or the transaction goes on, whether or not the event is a restart, which concerns all
    by_all : (b : Bool) → is_all h.concerned ≡ b → (concerns_number (Some h) (n + 1) ≡ false) ⊎ GoesOn p k es e (key, s)
    by_all true all = inr (goes all)
    by_all false some = inl (ap (λ b. b || is_among (each h.concerned) (n + 1)) some ∙ not_named)
