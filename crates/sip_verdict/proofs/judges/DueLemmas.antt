-- All transactions of a judge can wait until the earliest last moment on record, and not longer.
-- In the lemmas n is the place of a key, s the set there, and r its record.
use Rattle.std.proofs.Common.{◌≡◌, ◌≤◌, ◌+◌, ◌∙◌, ◌↔◌, ℕ, true, false, Option, Some, None, IsTrue, List, All, position, get_or, slice_get, refl, sym, subst, arith}
use Rattle.std.specs.Option.{option_map}
use Rattle.std.proofs.lemmas.Bool.{false≢true}
use Rattle.std.proofs.lemmas.List.Quantifiers.{position-Some}
use Rattle.std.proofs.lemmas.Option.{slice_get_within, slice_get-get_or}
use Rattle.sip_standard.specs.Key.{KeyParts}
use Rattle.sip_machine.specs.Texts.{Texts}
use Rattle.sip_states.specs.Agenda.{is_overdue}
use Rattle.sip_states.specs.AnySet.{moment_of}
use Rattle.sip_standard.specs.KeyMachine.{machine_of_key}
use Rattle.sip_states.specs.Tables.{Tabled, due_of}
use Rattle.sip_states.specs.declared.any_set.AnySet.{AnySet}
use Rattle.sip_verdict.specs.Judging.{Judging, StandsFor, CanWaitUntil}
use Rattle.sip_standard.specs.Observation.{Observation}
use Rattle.sip_standard.specs.VerdictOf.{keys_in, events_for}
use Rattle.sip_verdict.specs.Entries.{newest_moment}
use Rattle.sip_verdict.specs.inner.Stepping.{RunsUntil}
use Rattle.sip_verdict.specs.inner.TablesTracking.{LeadsOf, key_keeping, transactions_of, MayPass, MayTake, AllAreOnRecord, TablesTrack}
use Rattle.sip_verdict.specs.inner.Tracking.{IsReady}
use Rattle.sip_verdict.proofs.tables.Halfway.{All-position_None, not_passing}
use Rattle.sip_verdict.proofs.keys.Overdue.{overdue_none, in_time_some}
use Rattle.sip_verdict.proofs.tables.TablesPassing.{at_place, All-place, All-places, zip-place, keys_are}

-- What follows is of the tables t, which track the entries es and which an entry at `from` may pass.
-- At `moment`, which is not earlier, no transaction need have done anything more.
module _ (texts : Texts) (t : Tabled) (es : List (Observation KeyParts)) (from : ℕ) (may : MayPass texts t from) (recorded : AllAreOnRecord t) (tracks : TablesTrack texts es t) (moment : ℕ)
    (newest : newest_moment es ≤ moment) (later : from ≤ moment) where
  -- the key has a run over the entries that stands at the moment
  abbrev Runs : KeyParts → Type 0
  Runs key = RunsUntil t.times (machine_of_key t.times.rules key) (events_for key es) moment

  -- What follows is of the key with the number n, its set s and its last moment on record.
  module _ (n : ℕ) (key : KeyParts) (s : AnySet) (at : slice_get t.keys n ≡ Some key) (here : slice_get t.sets n ≡ Some s) where
    -- the set of the key leads to the runs over its events
    leads : LeadsOf texts t.times (machine_of_key t.times.rules key) (events_for key es) (newest_moment es) s
    leads = All-place (IsReady (key_keeping texts t.times) es) (transactions_of t) n (key, s) (zip-place t.keys t.sets n key s at here) tracks.ready

    -- the set has waited no longer than until the moment
    low : moment_of s ≤ moment
    low = let h = All-place (λ x. moment_of x ≤ from) t.sets n s here may.order in omega (arith, h, later)

    -- a key whose last moment on record is past has no run that stands at the moment
    -- a key without a record is not overdue
    late : (r : Option (Option ℕ)) → slice_get t.records n ≡ Some r → is_overdue moment r ≡ true → ¬ Runs key
    late None on is = absurd (false≢true is)
    late (Some limit) on is = λ run.
        overdue_none texts t.times (machine_of_key t.times.rules key) (events_for key es) (newest_moment es) s leads limit (recorded.each n s (Some limit) here on) moment newest low is run

    -- a key whose last moment on record is not past has a run that stands at the moment
    -- each key has a last moment on record
    in_time : (r : Option (Option ℕ)) → slice_get t.records n ≡ Some r → is_overdue moment r ≡ false → Runs key
    in_time None on is = absurd (false≢true (recorded.each n s None here on))
    in_time (Some limit) on is =
        in_time_some texts t.times (machine_of_key t.times.rules key) (events_for key es) (newest_moment es) s leads limit (recorded.each n s (Some limit) here on) moment newest low is

  -- each key has a set
  set_of_key : (n : ℕ) (key : KeyParts) → slice_get t.keys n ≡ Some key → (s : AnySet) × (slice_get t.sets n ≡ Some s)
  set_of_key n key at = at_place t.sets n (let within = slice_get_within t.keys n key at in let long = may.long in omega arith)

  -- each key has a last moment on record
  record_of_key : (n : ℕ) (key : KeyParts) → slice_get t.keys n ≡ Some key → (r : Option (Option ℕ)) × (slice_get t.records n ≡ Some r)
  record_of_key n key at = at_place t.records n (let within = slice_get_within t.keys n key at in let long = recorded.long in omega arith)

  -- the keys of the tables are those of the entries
  keys_of_all : t.keys ≡ keys_in es
  keys_of_all = sym (keys_are t may.long) ∙ tracks.keys

  -- where no last moment is past, each transaction can wait until the moment
  none_waits : due_of t moment ≡ None → CanWaitUntil t.times es moment
  none_waits none = subst (All Runs) keys_of_all (All-places Runs t.keys (λ n key at. let (s, here) = set_of_key n key at in let (r, on) = record_of_key n key at in in_time n key s at here r on (nothing (position (is_overdue moment) t.records) refl none n r on)))
    where
      -- where no record is found overdue, none is
      nothing : (found : Option ℕ) → position (is_overdue moment) t.records ≡ found → option_map (λ i. i + 1) found ≡ None → (n : ℕ) (r : Option (Option ℕ)) → slice_get t.records n ≡ Some r → is_overdue moment r ≡ false
      nothing None is e n r on = not_passing (is_overdue moment r) (All-place (λ x. ¬ (IsTrue (is_overdue moment x))) t.records n r on (All-position_None (is_overdue moment) t.records is))
      -- the search found none, as is given
      nothing (Some i) is e n r on = absurd cc

  -- where each transaction can wait until the moment, no last moment is past
  waits_none : CanWaitUntil t.times es moment → due_of t moment ≡ None
  waits_none waits = go (position (is_overdue moment) t.records) refl
    where
      -- no record is found overdue, since none is
      go : (found : Option ℕ) → position (is_overdue moment) t.records ≡ found → option_map (λ i. i + 1) found ≡ None
      go None is = refl
      go (Some i) is =
          let found = position-Some (is_overdue moment) t.records i None is in
          let (key, at) = at_place t.keys i (let long = recorded.long in omega (arith, found.0)) in
          let (s, here) = set_of_key i key at in
          -- the key of that record would have no run at the moment, while each has one
          absurd (late i key s at here (get_or t.records i None) (slice_get-get_or t.records i None found.0) found.1 (All-place Runs t.keys i key at (subst (All Runs) (sym keys_of_all) waits)))

  -- where P holds exactly if no last moment is past, each transaction can wait until the moment exactly if P holds
  pub waits_until : (P : Type 0) → ((due_of t moment ≡ None) ↔ P) → CanWaitUntil t.times es moment ↔ P
  waits_until P due = (λ waits. due.0 (waits_none waits), λ h. none_waits (due.1 h))

-- for a judge that may take the next entry, all transactions can wait until a moment exactly if no last moment on record is past at it
pub judge_waits : (j : Judging) (es : List (Observation KeyParts)) → StandsFor j es → MayTake j.texts j.tables (j.number + 1) j.moment → (moment : ℕ) → j.moment ≤ moment
    → (P : Type 0) → ((due_of j.tables moment ≡ None) ↔ P) → CanWaitUntil j.tables.times es moment ↔ P
judge_waits j es stands may moment later P due =
    waits_until j.texts j.tables es j.moment may.passes may.recorded stands.follows.tracks moment (subst (λ n. n ≤ moment) stands.moment later) later P due
