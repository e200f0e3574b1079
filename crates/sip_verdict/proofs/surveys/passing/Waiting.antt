-- The transactions of a survey that do not hear an entry's event wait, once none is overdue.
-- In the lemmas n is the place of a key, s its set, and d whether it is deaf.
use Rattle.std.proofs.Common.{◌≡◌, ◌≤◌, ◌+◌, ◌⊎◌, ◌||◌, inl, inr, ℕ, Bool, true, false, Option, Some, None, List, [], IsTrue, MatchBool, position, slice_get, refl, sym, ap, ◌∙◌, subst, arith}
use Rattle.std.specs.Option.{option_map}
use Rattle.std.proofs.lemmas.Bool.{false≢true}
use Rattle.std.proofs.lemmas.List.Elements.{All-weaker}
use Rattle.std.proofs.lemmas.Option.{slice_get_within}
use Rattle.sip_standard.specs.Key.{KeyParts}
use Rattle.sip_standard.specs.Times.{Times}
use Rattle.sip_machine.specs.Texts.{Texts}
use Rattle.sip_states.specs.Agenda.{Records, is_overdue}
use Rattle.sip_states.specs.AnySet.{moment_of}
use Rattle.sip_states.specs.Tables.{Tabled, IsGiven, due_of}
use Rattle.sip_states.specs.declared.any_set.AnySet.{AnySet}
use Rattle.sip_verdict.specs.declared.passing.Hearing.{Hearing}
use Rattle.sip_verdict.specs.declared.troubled.Troubled.{Troubled}
use Rattle.sip_standard.specs.Observation.{Observation}
use Rattle.sip_verdict.specs.Entries.{concerns, newest_moment}
use Rattle.sip_verdict.specs.inner.Concerned.{each, is_all}
use Rattle.sip_verdict.specs.inner.Tracking.{Keeping, IsReady, GoesOn}
use Rattle.sip_verdict.specs.inner.TablesTracking.{key_keeping, is_among, AreTold, MayPass, MayHear, AreHearers}
use Rattle.sip_verdict.specs.inner.Surveying.{AreWatched, IsPassing, ArePassing, AreConcerned, any}
use Rattle.sip_verdict.proofs.tables.Halfway.{All-position_None, not_passing}
use Rattle.sip_verdict.proofs.keys.KeyPassing.{in_time_goes, quiet_goes}
use Rattle.sip_verdict.proofs.tables.TablesPassing.{at_place, All-place, given_still}

-- where no transaction is due, no last moment on record is past
-- rs are the records, and r is the one at the place n
none_past : (moment : ℕ) (rs : Records) → option_map (λ index. index + 1) (position (is_overdue moment) rs) ≡ None → (n : ℕ) (r : Option (Option ℕ)) → slice_get rs n ≡ Some r → is_overdue moment r ≡ false
none_past moment rs none n r at = not_passing (is_overdue moment r) (All-place (λ x. ¬ IsTrue (is_overdue moment x)) rs n r at (All-position_None (is_overdue moment) rs (unmapped (position (is_overdue moment) rs) none)))
  where
    -- where no number comes of the index, there is no index
    unmapped : (o : Option ℕ) → option_map (λ index. index + 1) o ≡ None → o ≡ None
    unmapped None h = refl
    unmapped (Some i) h = absurd cc

-- a flag is true or false
decided : (b : Bool) → (b ≡ true) ⊎ (b ≡ false)
decided true = inl refl
decided false = inr refl

-- What follows is of the entry e at a moment until which each transaction that is in no trouble can wait: t are the tables, and b says which are in trouble.
module _ (texts : Texts) (p : Times) (es : List (Observation KeyParts)) (e : Observation KeyParts) (moment : ℕ) (late : newest_moment es ≤ moment) (now : e.event.moment ≡ moment) (t : Tabled) (b : Troubled)
    (may : MayPass texts t moment) (none : due_of t moment ≡ None) (h : ArePassing texts p es e any t b) where
  -- what is kept of each key: its set, beside these texts
  abbrev k : Keeping (KeyParts × AnySet)
  k = key_keeping texts p

  -- the entry is not before the newest of the entries
  since : newest_moment es ≤ e.event.moment
  since = subst (λ n. newest_moment es ≤ n) (sym now) late

  -- What follows is of the numbers `waits` of the transactions that are to hear the entry.
  module _ (waits : List ℕ) (watched : AreWatched waits t b)
      (others : (n : ℕ) (key : KeyParts) (s : AnySet) → slice_get t.keys n ≡ Some key → slice_get t.sets n ≡ Some s → is_among waits (n + 1) ≡ false → IsReady k es (key, s)
      → (concerns key e ≡ false) ⊎ GoesOn p k es e (key, s)) where
    -- a key that is ready, and not to hear the entry, goes on over it
    goes : (n : ℕ) (key : KeyParts) (s : AnySet) → slice_get t.keys n ≡ Some key → slice_get t.sets n ≡ Some s → is_among waits (n + 1) ≡ false → IsReady k es (key, s) → GoesOn p k es e (key, s)
    goes n key s at here other ready = by (others n key s at here other ready)
      where
        -- the set has its last moment on record, and that is not past, so it goes on
        -- only a set that is to hear the event has nothing on record, and this one is not to hear it
        recorded : (r : Option (Option ℕ)) → slice_get t.records n ≡ Some r → concerns key e ≡ false → GoesOn p k es e (key, s)
        recorded None on apart = absurd (false≢true (sym other ∙ watched.recorded.each n s None here on))
        recorded (Some limit) on apart =
            in_time_goes texts p es e key s ready since (subst (λ i. moment_of s ≤ i) (sym now) (All-place (λ x. moment_of x ≤ moment) t.sets n s here may.order)) limit (watched.recorded.each n s (Some limit) here on)
            (ap (λ i. is_overdue i (Some limit)) now ∙ none_past moment t.records none n (Some limit) on) apart

        -- the key goes on as is known; or the entry does not concern it, and its record says that it can wait
        by : (concerns key e ≡ false) ⊎ GoesOn p k es e (key, s) → GoesOn p k es e (key, s)
        by (inr g) = g
        by (inl apart) = let r = at_place t.records n (let within = slice_get_within t.keys n key at in let long = watched.recorded.long in omega arith) in recorded r.0 r.1 apart

    -- the transactions with these numbers alone are still to hear the event
    pub to_hear : ArePassing texts p es e (is_among waits) t b
    to_hear = record { broken = h.broken; wide = h.wide; each = λ n key s d at here is. one n key s d at here (h.each n key s d at here is) }
      where
        -- a deaf transaction does not hear the entry, and any other one has passed it or waits
        one : (n : ℕ) (key : KeyParts) (s : AnySet) (d : Bool) → slice_get t.keys n ≡ Some key → slice_get t.sets n ≡ Some s → IsPassing texts p es e any b (n + 1) key s d → IsPassing texts p es e (is_among waits) b (n + 1) key s d
        one n key s true at here g = g
        one n key s false at here (sound, ready) = (sound, by (is_among waits (n + 1)) refl)
          where
            -- the set is ready for the entry, or has gone on over it, as the number is one of those that are to hear or not
            by : (w : Bool) → is_among waits (n + 1) ≡ w → MatchBool w (IsReady k es (key, s)) (GoesOn p k es e (key, s))
            by true is = ready
            by false is = goes n key s at here is ready

-- where an entry concerns no key and no transaction is due, all transactions have waited until it
pub mark_passes : (texts : Texts) (p : Times) (es : List (Observation KeyParts)) (e : Observation KeyParts) (moment : ℕ) → newest_moment es ≤ moment → e.event.moment ≡ moment → (t : Tabled) (b : Troubled) → MayPass texts t moment → due_of t moment ≡ None
    → AreTold texts t.keys moment None e → AreWatched [] t b → ArePassing texts p es e any t b → ArePassing texts p es e (is_among []) t b
mark_passes texts p es e moment late now t b may none told watched h =
    to_hear texts p es e moment late now t b may none h [] watched (λ n key s at here other ready. inl ((told n key at).concerned))

-- What follows is of an entry with an event, `hearing`: the transactions that do not hear it wait, and `numbers` are those of the transactions that do.
module _ (texts : Texts) (p : Times) (es : List (Observation KeyParts)) (e : Observation KeyParts) (moment : ℕ) (late : newest_moment es ≤ moment) (now : e.event.moment ≡ moment) (t : Tabled) (b : Troubled)
    (may : MayPass texts t moment) (none : due_of t moment ≡ None) (h : ArePassing texts p es e any t b) (hearing : Hearing) (told : AreTold texts t.keys moment (Some hearing) e) (hear : MayHear texts t moment hearing)
    (numbers : List ℕ) (hearers : AreHearers t hearing.concerned numbers) (watched : AreWatched numbers t b) where
  -- a key that is not to hear the event is not concerned by it, or goes on over it since its set is quiet and the event a restart
  left : (n : ℕ) (key : KeyParts) (s : AnySet) → slice_get t.keys n ≡ Some key → slice_get t.sets n ≡ Some s → is_among numbers (n + 1) ≡ false → IsReady (key_keeping texts p) es (key, s)
      → (concerns key e ≡ false) ⊎ GoesOn p (key_keeping texts p) es e (key, s)
  left n key s at here other ready = by (is_all hearing.concerned) refl
    where
      -- the number is not among those that the entry concerns
      unnamed : is_among (each hearing.concerned) (n + 1) ≡ false
      unnamed = not_passing (is_among (each hearing.concerned) (n + 1)) (λ among. false≢true (sym other ∙ hearers.named (n + 1) among))

      -- the entry does not concern the key, or the key goes on, whether or not the event is a restart, which concerns all
      by : (a : Bool) → is_all hearing.concerned ≡ a → (concerns key e ≡ false) ⊎ GoesOn p (key_keeping texts p) es e (key, s)
      -- no restart: the entry concerns just the keys with its numbers, and this number is none of them
      by false some = inl ((told n key at).concerned ∙ ap (λ a. a || is_among (each hearing.concerned) (n + 1)) some ∙ unnamed)
      -- a restart, which concerns all: a transaction that does not hear it has a quiet set, which goes on over it
      by true all = inr (quiet_goes texts p es e key s ready (subst (λ i. newest_moment es ≤ i) (sym now) late)
          (subst (λ i. moment_of s ≤ i) (sym now) (All-place (λ x. moment_of x ≤ moment) t.sets n s here may.order))
          hearing.event (told n key at).event (hear.restart all) (hearers.others all n s here other)
          ((told n key at).concerned ∙ ap (λ a. a || is_among (each hearing.concerned) (n + 1)) all))

  -- all transactions that are not to hear the event have waited until it
  pub event_waits : ArePassing texts p es e (is_among numbers) t b
  event_waits = to_hear texts p es e moment late now t b may none h numbers watched left

  -- the event concerns the keys with these numbers
  pub event_concerns : AreConcerned texts p es e hearing.event numbers t.keys
  event_concerns n key at among = ((told n key at).event, (told n key at).concerned ∙ hearers.heard (n + 1) among)

-- an event that may be heard by tables may be heard by other tables with the same keys
-- t and u are the tables, and h is the event as it may be heard
pub hear_still : (texts : Texts) (t u : Tabled) (moment : ℕ) (h : Hearing) → u.keys ≡ t.keys → MayHear texts t moment h → MayHear texts u moment h
hear_still texts t u moment h keys may =
    record { fits = may.fits; at = may.at; given = All-weaker (IsGiven t) (IsGiven u) (λ n g. given_still n t u keys g) (each h.concerned) may.given; apart = may.apart; restart = may.restart }
