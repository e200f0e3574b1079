-- One transaction of a survey hears the event of an entry, or has waited too long for it.
-- In the lemmas n is the place of a key, s its set, and d whether it is deaf.
use Rattle.std.proofs.Common.{◌≡◌, ◌≢◌, ◌≤◌, ◌<◌, ◌+◌, ◌-◌, ◌⊎◌, inl, inr, ℕ, Bool, true, false, Option, Some, None, List, [], ◌∷◌, ◌++◌, MatchBool, length, slice_get, slice_set, slice_index_or, refl, sym, ap, ◌∙◌, subst, true≢false, arith}
use Rattle.std.proofs.lemmas.Option.{slice_get-get_or}
use Rattle.sip_standard.specs.Key.{KeyParts}
use Rattle.sip_standard.specs.Times.{Times}
use Rattle.sip_machine.specs.Texts.{Texts}
use Rattle.sip_machine.specs.NumberedEvent.{NumberedEvent, event_in}
use Rattle.sip_standard.specs.MachineEvent.{MachineEvent}
use Rattle.sip_standard.specs.KeyMachine.{MachineKind, machine_of_key}
use Rattle.sip_states.specs.Agenda.{is_overdue}
use Rattle.sip_states.specs.AnySet.{moment_of, start_of}
use Rattle.sip_states.specs.Tables.{Tabled, IsGiven}
use Rattle.sip_states.specs.declared.any_set.AnySet.{AnySet}
use Rattle.sip_states.proofs.lists.Places.{set_place}
use Rattle.sip_verdict.specs.declared.passing.Outcome.{Outcome}
use Rattle.sip_verdict.specs.declared.passing.Outcome.TheVariants as all
use Rattle.sip_verdict.specs.declared.troubled.Troubled.{Troubled}
use Rattle.sip_standard.specs.Observation.{Observation}
use Rattle.sip_standard.specs.VerdictOf.{RunsOver}
use Rattle.sip_verdict.specs.Entries.{newest_moment}
use Rattle.sip_verdict.specs.SurveyOf.{IsSound, Breaks}
use Rattle.sip_verdict.specs.inner.Stepping.{IsStepped}
use Rattle.sip_verdict.specs.inner.Tracking.{Keeping, IsReady, GoesOn, IsPassed}
use Rattle.sip_verdict.specs.inner.TablesTracking.{LeadsOf, StandsOf, key_keeping, is_among, MayPass}
use Rattle.sip_verdict.specs.inner.Surveying.{AreWatched, IsPassing, ArePassing, AreConcerned, any}
use Rattle.sip_verdict.proofs.keys.KeyPassing.{heard_left, overdue_breaks}
use Rattle.sip_verdict.proofs.tables.TablesPassing.{at_place, All-place, among_first}
use Rattle.sip_verdict.proofs.tables.TablesTouching.{starts}
use Rattle.sip_verdict.proofs.surveys.passing.Passing.{among_cons, same_at, passed_on, released_broken, released_wide, stays}

-- What follows is of the tables t, and of u, in which the set of the key `own`, which has this number, has started anew by the times q.
module _ (texts : Texts) (p q : Times) (moment : ℕ) (t u : Tabled) (number : ℕ) (own : KeyParts) (at : slice_get t.keys (number - 1) ≡ Some own) (rules : q ≡ p)
    (sets : u.sets ≡ slice_set t.sets (number - 1) (start_of q own)) where
  -- the set at a place of the new tables is the one that started anew, which leads to the runs over no event, or it is the set that was there
  pub begins_anew : (n : ℕ) (s : AnySet) → slice_get u.sets n ≡ Some s → ((n ≡ number - 1) × ((key : KeyParts) → slice_get t.keys (number - 1) ≡ Some key → LeadsOf texts p (machine_of_key p.rules key) [] moment s))
      ⊎ ((n ≢ number - 1) × (slice_get t.sets n ≡ Some s))
  begins_anew n s here = by (set_place t.sets (number - 1) n (start_of q own) s (ap (λ xs. slice_get xs n) (sym sets) ∙ here))
    where
      -- the set leads to the runs over no event at the place that started anew, and elsewhere it is the set that was there
      by : ((n ≡ number - 1) × (start_of q own ≡ s)) ⊎ ((n ≢ number - 1) × (slice_get t.sets n ≡ Some s))
          → ((n ≡ number - 1) × ((key : KeyParts) → slice_get t.keys (number - 1) ≡ Some key → LeadsOf texts p (machine_of_key p.rules key) [] moment s)) ⊎ ((n ≢ number - 1) × (slice_get t.sets n ≡ Some s))
      -- at the place it is the set that started anew
      by (inl (same, is)) = inl (
        same,
        λ key there.
            subst (LeadsOf texts p (machine_of_key p.rules key) [] moment) (ap (λ k. start_of p k) (same_at t.keys (number - 1) key own there at) ∙ ap (λ r. start_of r own) (sym rules) ∙ is) (starts texts p key moment),
      )
      by (inr other) = inr other

-- What follows is of one transaction of the tables t, by its number, and the entry e that it hears after the entries es; b says which transactions are in
-- trouble.
module _ (texts : Texts) (p : Times) (es : List (Observation KeyParts)) (e : Observation KeyParts) (t : Tabled) (b : Troubled) (number : ℕ) (given : IsGiven t number) where
  -- what is kept of each key: its set, beside these texts
  abbrev k : Keeping (KeyParts × AnySet)
  k = key_keeping texts p

  -- the place of the transaction's set, which counts from 0
  abbrev place : ℕ
  place = number - 1

  -- the number is one more than the place
  back : number - 1 + 1 ≡ number
  back = (let low = given.low in omega arith)

  -- a transaction in trouble passes the entry as it is
  pub deaf_on : (waits : List ℕ) → slice_get b.deaf.items (number - 1) ≡ Some true → ArePassing texts p es e (is_among (number ∷ waits)) t b → ArePassing texts p es e (is_among waits) t b
  deaf_on waits deaf h = record { broken = h.broken; wide = h.wide; each = λ n key s d at here is. one n key s d at here is (h.each n key s d at here is) }
    where
      -- a deaf transaction hears nothing, and any other one has passed or waits
      -- n is the place of the key, s its set and d whether it is deaf
      one : (n : ℕ) (key : KeyParts) (s : AnySet) (d : Bool) → slice_get t.keys n ≡ Some key → slice_get t.sets n ≡ Some s → slice_get b.deaf.items n ≡ Some d
          → IsPassing texts p es e (is_among (number ∷ waits)) b (n + 1) key s d → IsPassing texts p es e (is_among waits) b (n + 1) key s d
      -- a transaction in trouble has passed as it is
      one n key s true at here is g = g
      -- one in no trouble is another one, since this one is deaf; so it is among those that wait as before
      one n key s false at here is g =
          let other : n ≢ number - 1 = λ same. true≢false (same_at b.deaf.items n true false (ap (slice_get b.deaf.items) same ∙ deaf) is) in
          stays texts p es e (is_among (number ∷ waits)) (is_among waits) b b (n + 1) key s false (among_cons (n + 1) number waits (λ same. other (omega (arith, same)))) (λ among. among) g

  -- What follows is of a transaction in no trouble that hears the event before those of `waits`: its set was `before`, is `after`, and the hearing came out
  -- as `outcome`.
  module _ (waits : List ℕ) (event : NumberedEvent) (late : newest_moment es ≤ event.moment) (once : is_among waits number ≡ false) (concerned : AreConcerned texts p es e event (number ∷ waits) t.keys)
      (h : ArePassing texts p es e (is_among (number ∷ waits)) t b) (hearing : slice_get b.deaf.items (number - 1) ≡ Some false) (before after : AnySet) (was : slice_get t.sets (number - 1) ≡ Some before) (outcome : Outcome)
      (stepped : (q : Times) (kind : MachineKind) (fs : List MachineEvent) (from : ℕ) → from ≤ event.moment → LeadsOf texts q kind fs from before
      → IsStepped q kind fs (event_in texts event) (λ gs. LeadsOf texts q kind gs event.moment after) (λ g. StandsOf texts q kind fs g after) outcome) where
    -- the key was in no trouble over the entries, and `outcome` is what the entry leaves of its runs
    left : (key : KeyParts) → slice_get t.keys (number - 1) ≡ Some key → IsSound p es key × IsPassed p k es e (key, after) outcome
    left key at =
        -- the transaction waits for the event, so before it the key is in no trouble and its set is ready
        let among = among_first (place + 1) number waits back in
        let own = h.each place key before false at was hearing in
        let ready : IsReady k es (key, before) = subst (λ x. MatchBool x (IsReady k es (key, before)) (GoesOn p k es e (key, before))) among own.1 in
        -- the entry has this event and concerns the key; so what the step of the set came out as is what the entry leaves of the key's runs
        let told = concerned place key at among in
        let now : newest_moment es ≤ e.event.moment = subst (λ f. newest_moment es ≤ f.moment) (sym told.0) late in
        (own.0, heard_left texts p es e key before ready now event told.0 told.1 after outcome stepped)

    -- another transaction waits for the event as before
    apart : (n : ℕ) → n ≢ number - 1 → is_among (number ∷ waits) (n + 1) ≡ is_among waits (n + 1)
    apart n other = among_cons (n + 1) number waits (λ same. other (omega (arith, same)))

    -- where the runs of the transaction go on, all transactions are passing the entry still, and this one has heard it
    pub heard_on : outcome ≡ all.Fine → (u : Tabled) → u.keys ≡ t.keys → u.sets ≡ slice_set t.sets (number - 1) after → ArePassing texts p es e (is_among waits) u b
    heard_on fine u keys sets =
        passed_on texts p es e t u b (is_among (number ∷ waits)) (is_among waits) number given keys apart h after sets hearing once
        (λ key at. let l = left key at in (l.0, subst (IsPassed p k es e (key, after)) fine l.1))

    -- where the transaction has no run any more, its set starts anew, it is among the broken, and all are passing the entry still
    -- u and c are the tables and the trouble after the event, q the times by which the set starts, and `own` the transaction's key
    pub heard_broken : {told : ℕ} → outcome ≡ all.NoRun told → (u : Tabled) (c : Troubled) (q : Times) (own : KeyParts) → slice_get t.keys (number - 1) ≡ Some own → q ≡ p → u.keys ≡ t.keys → u.sets ≡ slice_set t.sets (number - 1) (start_of q own)
        → c.deaf.items ≡ slice_set b.deaf.items (number - 1) true → c.broken.items ≡ b.broken.items ++ number ∷ [] → c.wide.items ≡ b.wide.items → ArePassing texts p es e (is_among waits) u c
    heard_broken none u c q own at rules keys sets deaf added kept =
        released_broken texts p es e t u b (is_among (number ∷ waits)) (is_among waits) number given keys apart h c (begins_anew texts p q e.event.moment t u number own at rules sets) deaf added kept
        (λ key there. let l = left key there in (l.0, subst (IsPassed p k es e (key, after)) none l.1))

    -- where the transaction is too wide, its set starts anew, it is among the wide, and all are passing the entry still
    -- u and c are the tables and the trouble after the event, q the times by which the set starts, and `own` the transaction's key
    pub heard_wide : {told : ℕ} → outcome ≡ all.TooWide told → (u : Tabled) (c : Troubled) (q : Times) (own : KeyParts) → slice_get t.keys (number - 1) ≡ Some own → q ≡ p → u.keys ≡ t.keys → u.sets ≡ slice_set t.sets (number - 1) (start_of q own)
        → c.deaf.items ≡ slice_set b.deaf.items (number - 1) true → c.wide.items ≡ b.wide.items ++ number ∷ [] → c.broken.items ≡ b.broken.items → ArePassing texts p es e (is_among waits) u c
    heard_wide many u c q own at rules keys sets deaf added kept =
        released_wide texts p es e t u b (is_among (number ∷ waits)) (is_among waits) number given keys apart h c (begins_anew texts p q e.event.moment t u number own at rules sets) deaf added kept
        (λ key there. let l = left key there in let w = subst (IsPassed p k es e (key, after)) many l.1 in ((l.0, w.1), w.0))

  -- What follows is of a transaction that has waited longer than it can; those of `waits` are still to hear the entry.
  module _ (moment : ℕ) (waits : List ℕ) (late : newest_moment es ≤ moment) (now : e.event.moment ≡ moment) (may : MayPass texts t moment) (watched : AreWatched waits t b)
      (past : is_overdue moment (slice_index_or t.records (number - 1) None) ≡ true) (h : ArePassing texts p es e any t b) where
    -- the transaction has a last moment on record
    in_records : number - 1 < length t.records
    in_records = (let high = given.high in let low = given.low in let long = watched.recorded.long in omega arith)

    -- what the record has at its place
    there : slice_get t.records (number - 1) ≡ Some (slice_index_or t.records (number - 1) None)
    there = slice_get-get_or t.records (number - 1) None in_records

    -- a transaction that has waited longer than it can was in no trouble
    pub overdue_hears : slice_get b.deaf.items (number - 1) ≡ Some false
    overdue_hears =
        let (d, is) = at_place b.deaf.items (number - 1) (let low = in_records in let long = watched.long in let as_long = watched.recorded.long in omega arith) in by d is
      where
        -- the transaction is not deaf
        by : (d : Bool) → slice_get b.deaf.items (number - 1) ≡ Some d → slice_get b.deaf.items (number - 1) ≡ Some false
        by false is = is
        -- a deaf transaction has no last moment on record, and such a record is never overdue
        by true is = absurd (true≢false (sym past ∙ ap (is_overdue moment) (same_at t.records (number - 1) _ (Some None) there (watched.silent (number - 1) is))))

    -- a transaction that has waited longer than it can breaks at the entry
    breaks : (key : KeyParts) → slice_get t.keys (number - 1) ≡ Some key → Breaks p es e key
    breaks key at =
        let (s, here) = at_place t.sets (number - 1) (let low = in_records in let long = may.long in let as_long = watched.recorded.long in omega arith) in
        let own = h.each (number - 1) key s false at here overdue_hears in
        (own.0, by s own.1 here (slice_index_or t.records (number - 1) None) there past)
      -- the last moment of the transaction is on record, and it is past
      where
        -- a set whose last moment on record is past has no run
        by : (s : AnySet) → IsReady k es (key, s) → slice_get t.sets (number - 1) ≡ Some s → (r : Option (Option ℕ)) → slice_get t.records (number - 1) ≡ Some r → is_overdue moment r ≡ true → ¬ RunsOver p (es ++ e ∷ []) key
        -- a transaction without a record is not overdue
        by s ready here None on is = absurd (true≢false (sym is))
        -- the record is the last moment until which the set can wait; that is past, so the key has no run over the entry
        by s ready here (Some limit) on is =
            overdue_breaks texts p es e key s ready (subst (λ n. newest_moment es ≤ n) (sym now) late) (subst (λ n. moment_of s ≤ n) (sym now) (All-place (λ x. moment_of x ≤ moment) t.sets (number - 1) s here may.order))
            limit (watched.recorded.each (number - 1) s (Some limit) here on) (subst (λ n. is_overdue n (Some limit) ≡ true) (sym now) is)

    -- a transaction that has waited longer than it can starts anew and is among the broken, and all are passing the entry still
    -- u and c are the tables and the trouble after the entry, q the times by which the set starts, and `own` the transaction's key
    pub overdue_broken : (u : Tabled) (c : Troubled) (q : Times) (own : KeyParts) → slice_get t.keys (number - 1) ≡ Some own → q ≡ p → u.keys ≡ t.keys → u.sets ≡ slice_set t.sets (number - 1) (start_of q own)
        → c.deaf.items ≡ slice_set b.deaf.items (number - 1) true → c.broken.items ≡ b.broken.items ++ number ∷ [] → c.wide.items ≡ b.wide.items → ArePassing texts p es e any u c
    overdue_broken u c q own at rules keys sets deaf added kept =
        released_broken texts p es e t u b any any number given keys (λ n other. refl) h c (begins_anew texts p q e.event.moment t u number own at rules sets) deaf added kept breaks
