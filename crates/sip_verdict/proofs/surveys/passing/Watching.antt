-- What is on record of the transactions of a survey, and that an entry may pass them.
-- In the lemmas t and u are the tables before and after, and b and c what was and is in trouble.
use Rattle.std.proofs.Common.{◌≡◌, ◌≢◌, ◌≤◌, ◌<◌, ◌+◌, ◌-◌, ◌⊎◌, inl, inr, ℕ, true, false, Option, Some, None, List, ◌∷◌, All, length, slice_get, slice_set, sym, ap, ◌∙◌, subst, true≢false, arith}
use Rattle.std.proofs.lemmas.List.{length-set}
use Rattle.std.proofs.lemmas.List.Elements.{All-set}
use Rattle.std.proofs.lemmas.Option.{same_Some}
use Rattle.sip_standard.specs.Key.{KeyParts}
use Rattle.sip_standard.specs.Times.{Times}
use Rattle.sip_machine.specs.Texts.{Texts}
use Rattle.sip_states.specs.AnySet.{moment_of, start_of, IsAgendaOf, IsKnownSet}
use Rattle.sip_states.specs.Tables.{Tabled, IsGiven}
use Rattle.sip_states.specs.declared.any_set.AnySet.{AnySet}
use Rattle.sip_states.proofs.lists.Places.{set_place, set_other, set_here, set_twice}
use Rattle.sip_verdict.specs.declared.troubled.Troubled.{Troubled}
use Rattle.sip_verdict.specs.inner.TablesTracking.{is_among, IsOnRecord, MayPass}
use Rattle.sip_verdict.specs.inner.Surveying.{AreWatched}
use Rattle.sip_verdict.proofs.tables.TablesPassing.{among_one, among_rest, settled, recorded_more, set-other}
use Rattle.sip_verdict.proofs.tables.TablesTouching.{start_at, start_known}

-- the record without a last moment is not one with a last moment
none_some : {A : Type 0} (x : A) → Some None ≡ Some (Some x) → ⊥
none_some x h = cc

-- What follows is of one transaction of the tables t, the first of those that are still to hear the event: those of `waits` come after it.
-- b says which transactions are in trouble.
module _ (t : Tabled) (b : Troubled) (number : ℕ) (waits : List ℕ) (given : IsGiven t number) (h : AreWatched (number ∷ waits) t b) where
  -- the place of the transaction, which counts from 0
  abbrev place : ℕ
  place = number - 1

  -- the transaction has a flag that says whether it is deaf
  inside : number - 1 < length b.deaf.items
  inside = (let low = given.low in let high = given.high in let long = h.long in omega arith)

  -- where a transaction hears the event and goes on, all are watched still, and it is no longer to hear
  pub watched_on : (u : Tabled) (after : AnySet) (limit : Option ℕ) → IsAgendaOf limit after → slice_get b.deaf.items (number - 1) ≡ Some false
      → u.keys ≡ t.keys → u.sets ≡ slice_set t.sets (number - 1) after → u.records ≡ slice_set t.records (number - 1) (Some limit) → AreWatched waits u b
  watched_on u after limit agenda hearing keys sets records = record {
    long = h.long ∙ ap length (sym keys);
    recorded = settled t number waits given.low after limit agenda h.recorded u keys sets records;
    -- a transaction in trouble is another one, since this one hears; so its record is as it was
    silent = λ n deaf. ap (λ rs. slice_get rs n) records
        ∙ set_other t.records place n (Some limit) (Some None) (λ same. true≢false (same_Some true false (sym deaf ∙ ap (slice_get b.deaf.items) same ∙ hearing))) (h.silent n deaf);
  }

  -- where a transaction is in trouble, all are watched still when it is no longer to hear
  pub watched_deaf : slice_get b.deaf.items (number - 1) ≡ Some true → AreWatched waits t b
  watched_deaf deaf = record {
    long = h.long;
    recorded = record { long = h.recorded.long; each = λ n s r at here. one n s r here (h.recorded.each n s r at here) };
    silent = h.silent;
  }
    where
      -- each record is right, that of the transaction itself and that of another one
      -- n is the place of the transaction, s its set and r its record
      one : (n : ℕ) (s : AnySet) (r : Option (Option ℕ)) → slice_get t.records n ≡ Some r → IsOnRecord (number ∷ waits) (n + 1) s r → IsOnRecord waits (n + 1) s r
      -- a last moment that is on record stays so
      one n s (Some limit) here kept = kept
      -- where nothing is on record, the set is to hear the event; the transaction itself is in trouble, and has on record that it has no last moment
      one n s None here kept = among_one (n + 1) number waits kept (λ same.
          let at : n ≡ number - 1 = omega (arith, same) in
          absurd (none_some None (sym here ∙ ap (slice_get t.records) at ∙ h.silent place deaf)))

  -- where a transaction comes into trouble and its last moment is taken off the record, all are watched still
  pub watched_off : (u : Tabled) (c : Troubled) (after : AnySet) → IsAgendaOf None after → c.deaf.items ≡ slice_set b.deaf.items (number - 1) true
      → u.keys ≡ t.keys → u.sets ≡ slice_set t.sets (number - 1) after → u.records ≡ slice_set t.records (number - 1) (Some None) → AreWatched waits u c
  watched_off u c after agenda deaf keys sets records = record {
    long = ap length deaf ∙ length-set b.deaf.items place true ∙ h.long ∙ ap length (sym keys);
    recorded = settled t number waits given.low after None agenda h.recorded u keys sets records;
    -- a transaction in trouble is this one now, or was in trouble before
    silent = λ n is. ap (λ rs. slice_get rs n) records ∙ one n (set_place b.deaf.items place n true true (ap (λ ds. slice_get ds n) (sym deaf) ∙ is));
  }
    where
      -- no last moment is on record of the transaction itself, nor of another one in trouble
      -- the transaction's own record is the one that was put in; another record is as it was
      one : (n : ℕ) → ((n ≡ place) × (true ≡ true)) ⊎ ((n ≢ place) × (slice_get b.deaf.items n ≡ Some true)) → slice_get (slice_set t.records place (Some None)) n ≡ Some (Some None)
      one n (inl (same, same_too)) = ap (slice_get (slice_set t.records place (Some None))) same ∙ set_here t.records place (Some None) (let low = inside in let long = h.long in let as_long = h.recorded.long in omega arith)
      one n (inr (other, is)) = set_other t.records place n (Some None) (Some None) other (h.silent n is)

-- where an overdue transaction comes into trouble and its last moment is taken off the record, all are watched still
-- t and b are the tables and the trouble before, and u and c those after
pub watched_released : (t u : Tabled) (b c : Troubled) (number : ℕ) (waits : List ℕ) → IsGiven t number → AreWatched waits t b → (after : AnySet) → IsAgendaOf None after → c.deaf.items ≡ slice_set b.deaf.items (number - 1) true
    → u.keys ≡ t.keys → u.sets ≡ slice_set t.sets (number - 1) after → u.records ≡ slice_set t.records (number - 1) (Some None) → AreWatched waits u c
watched_released t u b c number waits given h after agenda deaf keys sets records =
    watched_off t b number waits given (record { long = h.long; recorded = recorded_more waits (number ∷ waits) t (λ n among. among_rest n number waits among) h.recorded; silent = h.silent })
    u c after agenda deaf keys sets records

-- a set that starts anew is the same whatever set it replaces
pub anew_sets : (t u : Tabled) (number : ℕ) (mid : AnySet) (key : KeyParts) → u.sets ≡ slice_set (slice_set t.sets (number - 1) mid) (number - 1) (start_of t.times key) → u.sets ≡ slice_set t.sets (number - 1) (start_of t.times key)
anew_sets t u number mid key sets = sets ∙ set_twice t.sets (number - 1) mid (start_of t.times key)

-- where the set of a transaction was replaced, each other set is as it was
-- t and u are the tables before and after, and n is the place of another transaction
pub others_still : (t u : Tabled) (number : ℕ) (after : AnySet) → IsGiven t number → u.sets ≡ slice_set t.sets (number - 1) after → (n : ℕ) → n + 1 ≢ number → slice_get u.sets n ≡ slice_get t.sets n
others_still t u number after given sets n other =
    let low = given.low in ap (λ xs. slice_get xs n) sets ∙ set-other t.sets (number - 1) n after (λ same. other (omega (arith, same, low)))

-- where an entry may pass tables, it may pass them with another set that has no later moment and names only messages of the book
pub passes_with : (texts : Texts) (t u : Tabled) (place moment : ℕ) (after : AnySet) → MayPass texts t moment → moment_of after ≤ moment → IsKnownSet texts after → u.keys ≡ t.keys → u.sets ≡ slice_set t.sets place after → MayPass texts u moment
passes_with texts t u place moment after may low known keys sets = record {
  order = subst (All (λ set. moment_of set ≤ moment)) (sym sets) (All-set (λ set. moment_of set ≤ moment) t.sets place after low may.order);
  known = subst (All (IsKnownSet texts)) (sym sets) (All-set (IsKnownSet texts) t.sets place after known may.known);
  long = ap length sets ∙ length-set t.sets place after ∙ may.long ∙ ap length (sym keys);
}

-- where an entry may pass tables, it may pass them with a set that starts anew
-- t and u are the tables before and after, and q is the times by which the set starts
pub passes_anew : (texts : Texts) (t u : Tabled) (place moment : ℕ) (key : KeyParts) (q : Times) → MayPass texts t moment → u.keys ≡ t.keys → u.sets ≡ slice_set t.sets place (start_of q key) → MayPass texts u moment
passes_anew texts t u place moment key q may keys sets =
    passes_with texts t u place moment (start_of q key) may (let at = start_at q key in omega arith) (start_known texts q key) keys sets

-- transactions that are watched while few are still to hear are watched while more are
-- t and b are the tables and the trouble
pub watched_more : (few more : List ℕ) (t : Tabled) (b : Troubled) → ((n : ℕ) → is_among few n ≡ true → is_among more n ≡ true) → AreWatched few t b → AreWatched more t b
watched_more few more t b among h = record { long = h.long; recorded = recorded_more few more t among h.recorded; silent = h.silent }
