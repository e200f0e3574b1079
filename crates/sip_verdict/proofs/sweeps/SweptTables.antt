-- After a sweep the tables follow the same entries beside the smaller book.
use Rattle.std.proofs.Common.{◌≡◌, ◌≤◌, ◌<◌, ◌↔◌, inl, inr, ℕ, Option, Some, None, List, [], ◌++◌, All, AllPairs, Contains, map, length, slice_get, get_or, sym, ap, ◌∙◌, subst, arith}
use Rattle.std.specs.List.{flat_map}
use Rattle.std.proofs.lemmas.List.Elements.{All-contains, Contains-get_or}
use Rattle.std.proofs.lemmas.Option.{slice_get_within, get_or_from_slice_get, slice_get-get_or}
use Rattle.sip_standard.specs.Key.{KeyParts}
use Rattle.sip_machine.specs.Texts.{Texts, IsBook, Keeps}
use Rattle.sip_machine.specs.Retained.{only}
use Rattle.sip_machine.specs.Rules.{Knows}
use Rattle.sip_machine.proofs.texts.RetainLemmas.{only-Keeps}
use Rattle.sip_standard.specs.KeyMachine.{machine_of_key}
use Rattle.sip_states.specs.Meaning.{HasWaited, IsKnown}
use Rattle.sip_states.specs.AnySet.{moment_of, SetWaits, IsKnownSet}
use Rattle.sip_states.specs.inner.KeySets.{meaning_of}
use Rattle.sip_states.specs.Sweep.{numbers_of, IsAdvanced, AdvancesAll, AppendsNamed}
use Rattle.sip_states.specs.Tables.{Tabled}
use Rattle.sip_states.specs.declared.any_set.AnySet.{AnySet}
use Rattle.sip_states.proofs.lists.Listed.{Contains-none}
use Rattle.sip_standard.specs.Observation.{Observation}
use Rattle.sip_standard.specs.VerdictOf.{events_for}
use Rattle.sip_verdict.specs.Entries.{newest_moment}
use Rattle.sip_verdict.specs.inner.Tracking.{IsReady, Tracks}
use Rattle.sip_verdict.specs.inner.TablesTracking.{key_keeping, transactions_of, TablesTrack, MayPass, IsOnRecord, AllAreOnRecord}
use Rattle.sip_states.proofs.keyed.ByMachine.{some_machine, moment_is, numbers_are, of_set, to_set, of_sets}
use Rattle.sip_verdict.proofs.tables.TablesPassing.{at_place, All-place, All-places, zip-place, place-zip, keys_are}
use Rattle.sip_states.proofs.keyed.NamesLemmas.{Contains-flat_map, Contains-from_flat_map}
use Rattle.sip_verdict.proofs.sweeps.SweptSets.{swept_leads, swept_agenda}

-- where the list of numbers began empty, the numbers that were appended are the whole list
pub named_is : (t : Tabled) (start out : List ℕ) → start ≡ [] → AppendsNamed t start out → (numbers : List ℕ) → numbers ≡ out
    → AllPairs (λ a b. a < b) numbers × ((n : ℕ) → Contains numbers n ↔ Contains (flat_map numbers_of t.sets) n)
named_is t start out none (added, is, rising, same) numbers are =
    let all : numbers ≡ added = are ∙ is ∙ ap (λ xs. xs ++ added) none in
    (subst (AllPairs (λ a b. a < b)) (sym all) rising, λ n. subst (λ xs. Contains xs n ↔ Contains (flat_map numbers_of t.sets) n) (sym all) (same n))

-- What follows is of a sweep of the book `texts`: t are the tables before, u after all sets have waited until the moment, and `numbers` what the sets name.
-- `up` says that the numbers rise, and `same` that they are just those that the sets of u name.
module _ (texts : Texts) (book : IsBook texts) (t u : Tabled) (moment : ℕ) (advances : AdvancesAll moment t u) (may : MayPass texts t moment)
    (numbers : List ℕ) (up : AllPairs (λ a b. a < b) numbers) (same : (n : ℕ) → Contains numbers n ↔ Contains (flat_map numbers_of u.sets) n) where
  -- the set that stood at the place before the sweep
  pub before : (n : ℕ) (new : AnySet) → slice_get u.sets n ≡ Some new → (old : AnySet) × (slice_get t.sets n ≡ Some old)
  before n new at = at_place t.sets n (let low = slice_get_within u.sets n new at in let long = advances.long in omega arith)

  -- each message that a set names after the sweep is among the numbers
  pub within : (n : ℕ) (new : AnySet) → slice_get u.sets n ≡ Some new → (k : ℕ) → Contains (numbers_of new) k → Contains numbers k
  within n new at k has = (same k).1 (Contains-flat_map numbers_of u.sets new k (n, slice_get_within u.sets n new at, get_or_from_slice_get u.sets n new new at) has)

  -- no set has a moment after that of the sweep
  pub swept_order : All (λ set. moment_of set ≤ moment) u.sets
  swept_order = All-places (λ set. moment_of set ≤ moment) u.sets (λ n new at.
      let (old, was) = before n new at in
      go old new (All-place (λ set. moment_of set ≤ moment) t.sets n old was may.order) (advances.each n old new was at))
    where
      -- the moment of the set is not after this one
      go : (old new : AnySet) → moment_of old ≤ moment → IsAdvanced moment old new → moment_of new ≤ moment
      -- a set that has waited is at the moment, and another one is as it was
      go old new low (inl waits) =
          let (machine, s, is) = some_machine old in
          let (v, new_is, waited) = of_sets (λ X M S m s u. HasWaited m moment s u) machine s new (subst (λ o. SetWaits moment o new) is waits) in
          let at : moment_of new ≡ moment = ap moment_of new_is ∙ moment_is machine v ∙ waited.at in
          omega (arith, at)
      go old new low (inr stays) = subst (λ s. moment_of s ≤ moment) (sym stays.0) low

  -- each message that the sets name was kept before the sweep
  pub swept_kept : All (Keeps texts) numbers
  swept_kept = All-of numbers (λ k has.
      -- the set `new` at the place n names the message k after the sweep, and `old` is what it was before
      (let (new, (n, low, is), in_set) = Contains-from_flat_map numbers_of u.sets k ((same k).0 has) in
      let at : slice_get u.sets n ≡ Some new = slice_get-get_or u.sets n new low ∙ ap Some is in
      let (old, was) = before n new at in
      go k old new (All-place (IsKnownSet texts) t.sets n old was may.known) (advances.each n old new was at) in_set))
    where
      -- what holds of each number of a list holds of all
      All-of : (xs : List ℕ) → ((k : ℕ) → Contains xs k → Keeps texts k) → All (Keeps texts) xs
      All-of xs each k d low = each (get_or xs k d) (Contains-get_or xs k d low)

      -- each message that a set names after the wait was kept before
      go : (k : ℕ) (old new : AnySet) → IsKnownSet texts old → IsAdvanced moment old new → Contains (numbers_of new) k → Keeps texts k
      -- the set stayed as it was, and names nothing
      go k old new known (inr (stays, silent)) has = absurd (Contains-none k (subst (λ ns. Contains ns k) (ap numbers_of stays ∙ silent) has))
      go k old new known (inl waits) has =
          -- the set waited: s is the old set and v the new one, seen with its machine
          let (machine, s, is) = some_machine old in
          let names = (meaning_of machine).names in
          let (v, new_is, waited) = of_sets (λ X M S m s u. HasWaited m moment s u) machine s new (subst (λ o. SetWaits moment o new) is waits) in
          let stand = waited.states texts book (of_set (λ X M S m s. IsKnown m texts s) machine s (subst (IsKnownSet texts) is known)) in
          -- x is the state of v that names the message k
          let (x, among, named) = Contains-from_flat_map names v.states k (subst (λ ns. Contains ns k) (ap numbers_of new_is ∙ numbers_are machine v) has) in
          All-contains (Keeps texts) (names x) k (All-contains (Knows names texts) v.states x stand.known among) named

  -- What follows is of a book that has all messages that the sets name.
  module _ (kept : All (Keeps texts) numbers) where
    -- the swept book keeps each message that the sets name
    pub swept_known : All (IsKnownSet (only numbers texts)) u.sets
    swept_known = All-places (IsKnownSet (only numbers texts)) u.sets (λ n new at.
        let (machine, s, is) = some_machine new in
        -- s is the set `new` at place n, seen with its machine, and a state has the names of the messages that it needs
        let names = (meaning_of machine).names in
        let known : IsKnown (meaning_of machine) (only numbers texts) s = λ k d low i e low_i.
        -- x is the state at place k of s, and `number` the number at place i of its names: a set names it, so that it is kept
        (let x = get_or s.states k d in
        let number = get_or (names x) i e in
        let has = Contains-flat_map names s.states x number (Contains-get_or s.states k d low) (Contains-get_or (names x) i e low_i) in
        only-Keeps texts numbers book up kept number (within n new at number (subst (λ ns. Contains ns number) (sym (ap numbers_of is ∙ numbers_are machine s)) has))) in
        subst (IsKnownSet (only numbers texts)) (sym is) (to_set (λ X M S m s. IsKnown m (only numbers texts) s) machine s known))

    -- after the sweep the sets may pass an entry at the moment
    pub swept_may : MayPass (only numbers texts) u moment
    swept_may = record { order = swept_order; known = swept_known; long = advances.long ∙ may.long ∙ sym (ap length advances.keys) }

    -- tables that follow the entries follow them after the sweep, beside the swept book
    pub swept_track : (es : List (Observation KeyParts)) → TablesTrack texts es t → TablesTrack (only numbers texts) es u
    swept_track es tracks =
        let keys : map (λ x. x.0) (transactions_of u) ≡ map (λ x. x.0) (transactions_of t) =
        keys_are u (advances.long ∙ may.long ∙ sym (ap length advances.keys)) ∙ advances.keys ∙ sym (keys_are t may.long) in
        let p = t.times in
        subst (λ q. Tracks q (key_keeping (only numbers texts) q) es (transactions_of u)) (sym advances.times) (record {
          keys = keys ∙ tracks.keys;
          -- each set leads to its runs beside the smaller book
          ready = All-places (IsReady (key_keeping (only numbers texts) p) es) (transactions_of u) (λ n x at.
              let there = place-zip u.keys u.sets n x at in
              let (old, was) = before n x.1 there.1 in
              let key_at : slice_get t.keys n ≡ Some x.0 = ap (λ ks. slice_get ks n) (sym advances.keys) ∙ there.0 in
              let leads = All-place (IsReady (key_keeping texts p) es) (transactions_of t) n (x.0, old) (zip-place t.keys t.sets n x.0 old key_at was) tracks.ready in
              -- the set at the place, once it has waited, leads to the runs of its key
              swept_leads texts numbers book up kept p (machine_of_key p.rules x.0) (events_for x.0 es) (newest_moment es) moment old x.1 (All-place (λ set. moment_of set ≤ moment) t.sets n old was may.order)
              (advances.each n old x.1 was there.1) (within n x.1 there.1) leads);
          good = tracks.good;
        })

  -- where each last moment is on record, it is on record after the sweep
  pub swept_recorded : AllAreOnRecord t → AllAreOnRecord u
  swept_recorded recorded = record {
    long = ap length advances.records ∙ recorded.long ∙ sym (ap length advances.keys);
    each = λ n new r at here.
        -- `old` is the set before the wait: what is on record of it is right of the set after the wait
        let (old, was) = before n new at in
        let there : slice_get t.records n ≡ Some r = ap (λ rs. slice_get rs n) (sym advances.records) ∙ here in
        go r old new (All-place (λ set. moment_of set ≤ moment) t.sets n old was may.order) (All-place (IsKnownSet texts) t.sets n old was may.known) (advances.each n old new was at)
        (recorded.each n old r was there);
  }
    where
      -- the last moment on record of one set is still right after the wait
      go : (r : Option (Option ℕ)) (old new : AnySet) → moment_of old ≤ moment → IsKnownSet texts old → IsAdvanced moment old new → IsOnRecord [] 0 old r → IsOnRecord [] 0 new r
      go None old new low known advanced h = h
      go (Some limit) old new low known advanced h = swept_agenda texts book moment old new low advanced known limit h
