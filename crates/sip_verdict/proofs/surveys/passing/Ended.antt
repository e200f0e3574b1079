-- What is known of the transactions of a survey after they have passed an entry, and what is found at it.
-- In the lemmas d is whether a transaction is deaf, s its set, and x and y are two entries.
use Rattle.std.proofs.Common.{◌≡◌, ◌≤◌, ◌+◌, ◌-◌, ◌⊎◌, inl, inr, ℕ, zero, suc, Bool, true, false, Some, List, [], ◌∷◌, ◌++◌, Contains, length, slice_get, All, append-nil, refl, sym, ap, ◌∙◌, subst, arith}
use Rattle.std.proofs.lemmas.Option.{slice_get_within}
use Rattle.std.proofs.lemmas.List.Elements.{All-contains}
use Rattle.sip_standard.specs.Key.{KeyParts}
use Rattle.sip_standard.specs.Times.{Times}
use Rattle.sip_machine.specs.Texts.{Texts}
use Rattle.sip_standard.specs.KeyMachine.{machine_of_key}
use Rattle.sip_states.specs.Tables.{Tabled}
use Rattle.sip_states.specs.declared.any_set.AnySet.{AnySet}
use Rattle.sip_verdict.specs.declared.troubled.Troubled.{Troubled}
use Rattle.sip_standard.specs.Observation.{Observation}
use Rattle.sip_verdict.specs.Entries.{newest_moment}
use Rattle.sip_standard.specs.VerdictOf.{keys_in, RunsOver, IsWideAt}
use Rattle.sip_verdict.specs.SurveyOf.{IsSound, Breaks, Widens, HoldsOf, AreFoundAt}
use Rattle.sip_verdict.specs.inner.TablesTracking.{LeadsOf, is_among}
use Rattle.sip_verdict.specs.inner.Surveying.{IsNumberOf, IsFollowed, IsOrdered, TablesSurvey, IsPassing, ArePassing, AreAscending}
use Rattle.sip_verdict.proofs.keys.Keys.{newest_moment-push}
use Rattle.sip_states.proofs.lists.Listed.{Contains-none, Contains-cons}
use Rattle.sip_states.proofs.lists.Places.{middle_place}
use Rattle.sip_verdict.proofs.keys.FewerEntries.{newest-to}
use Rattle.sip_verdict.proofs.tables.TablesPassing.{at_place}
use Rattle.sip_verdict.proofs.surveys.found.Numbers.{AreNumbers}
use Rattle.sip_verdict.proofs.surveys.found.FoundParts.{listed, listed_found}
use Rattle.sip_verdict.proofs.surveys.found.Ordered.{ordered_append}
use Rattle.sip_verdict.proofs.surveys.found.OneFinding.{sound_fewer}
use Rattle.sip_verdict.proofs.surveys.found.Sound.{sound_push}
use Rattle.sip_verdict.proofs.surveys.passing.Wide.{wide_runs}
use Rattle.sip_verdict.proofs.surveys.passing.Passing.{same_at}

-- entries in order are in order with one more that is not before the newest
pub ordered_push : (es : List (Observation KeyParts)) (e : Observation KeyParts) → IsOrdered es → newest_moment es ≤ e.event.moment → IsOrdered (es ++ e ∷ [])
ordered_push es e order late = ordered_append (λ a b. a.event.moment ≤ b.event.moment) es (e ∷ []) order (λ i j d low high. absurd (omega (arith, low, high))) across
  where
    -- each entry is at most as late as the newest
    to : All (λ a. a.event.moment ≤ newest_moment es) es
    to = newest-to 0 es [] (subst IsOrdered (sym (append-nil es)) order)

    -- a list of one element has only that one
    last : (y : Observation KeyParts) → (e ≡ y) ⊎ Contains [] y → e ≡ y
    last y (inl same) = same
    last y (inr none) = absurd (Contains-none y none)

    -- each of the entries is before the new one
    across : (x y : Observation KeyParts) → Contains es x → Contains (e ∷ []) y → x.event.moment ≤ y.event.moment
    across x y h g =
        let low = All-contains (λ a. a.event.moment ≤ newest_moment es) es x to h in
        subst (λ z. x.event.moment ≤ z.event.moment) (last y (Contains-cons e [] y g)) (omega (arith, low, late))

-- a list with x at the place i is the elements before it, x, and the elements after it
split_at : {A : Type 0} (xs : List A) (i : ℕ) (x : A) → slice_get xs i ≡ Some x → (before : List A) × (rest : List A) × (xs ≡ before ++ x ∷ rest) × (length before ≡ i)
split_at [] i x at = absurd cc
split_at (u ∷ xs) zero x at = ([], xs, (let same : u ≡ x = cc in ap (λ y. y ∷ xs) same), refl)
split_at (u ∷ xs) (suc i) x at = let (before, rest, is, long) = split_at xs i x at in (u ∷ before, rest, ap (λ ys. u ∷ ys) is, ap suc long)

-- What follows is of a property P of keys, by the numbers of the keys.
module _ (P : KeyParts → Type 0) (keys : List KeyParts) where
  -- where P holds of the key that stands under the number n, it holds of the key with the number n
  number_holds : (n : ℕ) → IsNumberOf P keys n → HoldsOf P keys n
  number_holds n h = let (before, rest, is, long) = split_at keys (n - 1) h.key h.at in (before, h.key, rest, is, h.holds, (let low = h.low in omega (arith, low, long)))

  -- where P holds of the key with the number n, that key stands under n
  holds_at : (n : ℕ) → HoldsOf P keys n → (key : KeyParts) × (slice_get keys (n - 1) ≡ Some key) × P key × (n - 1 + 1 ≡ n)
  holds_at n (before, key, rest, is, holds, number) =
      let place : length before ≡ n - 1 = omega (arith, number) in
      (key, ap (λ ks. slice_get ks (n - 1)) is ∙ subst (λ i. slice_get (before ++ key ∷ rest) i ≡ Some key) place (middle_place before key rest), holds, omega (arith, number))

-- What follows is of the tables t, in which each transaction has passed the entry e after the entries es; b says which are in trouble.
module _ (texts : Texts) (es : List (Observation KeyParts)) (e : Observation KeyParts) (t : Tabled) (b : Troubled) (p : Times) (order : IsOrdered es) (late : newest_moment es ≤ e.event.moment)
    (keys : t.keys ≡ keys_in (es ++ e ∷ [])) (sets : length t.sets ≡ length t.keys) (long : length b.deaf.items ≡ length t.keys) (h : ArePassing texts p es e (is_among []) t b) where
  -- a transaction that was in trouble, or came into it at the entry e, is not sound over the entries and e
  unsound : (n : ℕ) (key : KeyParts) → slice_get t.keys n ≡ Some key → ¬ (IsSound p es key) ⊎ (Contains b.broken.items (n + 1) ⊎ Contains b.wide.items (n + 1)) → ¬ (IsSound p (es ++ e ∷ []) key)
  -- a transaction in trouble before is not sound with an entry more; one that broke has no run now; one that is too wide is followed no further
  unsound n key at (inl before) sound = before (sound_fewer p key es (e ∷ []) (ordered_push es e order late) sound)
  unsound n key at (inr (inl has)) sound =
      let own = h.broken (n + 1) has in
      own.holds.1 (subst (RunsOver p (es ++ e ∷ [])) (same_at t.keys n key own.key at (ap (slice_get t.keys) (omega arith) ∙ own.at)) sound.0)
  unsound n key at (inr (inr has)) sound =
      let own = h.wide (n + 1) has in
      sound.1 es e [] refl (subst (IsWideAt p es e) (sym (same_at t.keys n key own.key at (ap (slice_get t.keys) (omega arith) ∙ own.at))) own.holds.0.1)

  -- after the entry e has passed, the tables survey the entries and e
  pub ended_tracks : t.times ≡ p → TablesSurvey texts (es ++ e ∷ []) t b.deaf.items
  ended_tracks times = record {
    order = ordered_push es e order late;
    keys = keys;
    each = λ n key s d at here is. subst (λ q. IsFollowed texts q (es ++ e ∷ []) key s d) (sym times) (by n key s d at (h.each n key s d at here is));
  }
    where
      -- a transaction that passed the entry is followed after it, in trouble or not
      -- n is the place of the key, s its set and d whether it is deaf
      by : (n : ℕ) (key : KeyParts) (s : AnySet) (d : Bool) → slice_get t.keys n ≡ Some key → IsPassing texts p es e (is_among []) b (n + 1) key s d → IsFollowed texts p (es ++ e ∷ []) key s d
      by n key s true at (leads, troubled) = (subst (λ m. LeadsOf texts p (machine_of_key p.rules key) [] m s) (sym (newest_moment-push es e)) leads, unsound n key at troubled)
      by n key s false at (sound, goes) =
          (goes.ready, sound_push p es e key sound goes.runs goes.narrow)

  -- each key has a set and a flag, of which it is known how they passed the entry
  -- n is the place of the key, s its set and d whether it is deaf
  found_key : (n : ℕ) (key : KeyParts) → slice_get t.keys n ≡ Some key → (d : Bool) × (s : AnySet) × IsPassing texts p es e (is_among []) b (n + 1) key s d
  found_key n key at =
      let within = slice_get_within t.keys n key at in
      let (s, here) = at_place t.sets n (omega (arith, within, sets)) in
      let (d, is) = at_place b.deaf.items n (omega (arith, within, long)) in
      (d, s, h.each n key s d at here is)

  -- where P holds of the key with a number, it holds of each key that stands under it
  one_key : (P : KeyParts → Type 0) (n : ℕ) (key : KeyParts) → slice_get t.keys n ≡ Some key → IsNumberOf P t.keys (n + 1) → P key
  one_key P n key at own = subst P (sym (same_at t.keys n key own.key at (ap (slice_get t.keys) (omega arith) ∙ own.at))) own.holds

  -- a key that breaks at the entry is among those that came into trouble so
  all_broken : (n : ℕ) (key : KeyParts) → slice_get t.keys n ≡ Some key → Breaks p es e key → Contains b.broken.items (n + 1)
  all_broken n key at (sound, none) = let (d, s, g) = found_key n key at in by d s g
    where
      -- the transaction has passed the entry, and breaks there, so its number is among the broken ones
      -- it was in no trouble before, so that it is deaf only since this entry; were it too wide, or did it go on, it would have a run over the entry
      by : (d : Bool) (s : AnySet) → IsPassing texts p es e (is_among []) b (n + 1) key s d → Contains b.broken.items (n + 1)
      by true s (leads, inl before) = absurd (before sound)
      by true s (leads, inr (inl has)) = has
      by true s (leads, inr (inr has)) = absurd (none (one_key (λ k. Widens p es e k × RunsOver p (es ++ e ∷ []) k) n key at (h.wide (n + 1) has)).1)
      by false s (still, goes) = absurd (none goes.runs)

  -- a key that is followed no further from the entry is among those that came into trouble so
  all_wide : (n : ℕ) (key : KeyParts) → slice_get t.keys n ≡ Some key → Widens p es e key → Contains b.wide.items (n + 1)
  all_wide n key at (sound, wide) = let (d, s, g) = found_key n key at in by d s g
    where
      -- the transaction has passed the entry, and is too wide there, so its number is among the wide ones
      -- it was in no trouble before, so that it is deaf only since this entry; what is too wide does not break, nor does it go on
      by : (d : Bool) (s : AnySet) → IsPassing texts p es e (is_among []) b (n + 1) key s d → Contains b.wide.items (n + 1)
      by true s (leads, inl before) = absurd (before sound)
      by true s (leads, inr (inl has)) = absurd ((one_key (Breaks p es e) n key at (h.broken (n + 1) has)).1 (wide_runs p es e key wide))
      by true s (leads, inr (inr has)) = has
      by false s (still, goes) = absurd (goes.narrow wide)

  -- What follows is of the numbers of the transactions that came into trouble at the entry, in ascending order: `broken` have no run more, and `wide` are
  -- followed no further.
  module _ (broken wide : List ℕ) (broken_is : AreAscending b.broken.items broken) (wide_is : AreAscending b.wide.items wide) where
    -- the numbers of the broken are those of the keys that break at the entry, each once and in order
    breaks : AreNumbers (Breaks p es e) t.keys broken
    breaks = (
      broken_is.0,
      λ n. (
        -- a number among them is that of a key that breaks, and the number of each key that breaks is among them
        λ has. number_holds (Breaks p es e) t.keys n (h.broken n ((broken_is.1 n).0 has)),
        λ holds. let (key, at, is, next) = holds_at (Breaks p es e) t.keys n holds in (broken_is.1 n).1 (subst (Contains b.broken.items) next (all_broken (n - 1) key at is)),
      ),
    )

    -- the numbers of the wide are those of the keys that are followed no further, each once and in order
    widens : AreNumbers (Widens p es e) t.keys wide
    widens = (
      wide_is.0,
      λ n. (
        -- a number among them is that of a key that is followed no further, and the number of each such key is among them
        λ has. let own = h.wide n ((wide_is.1 n).0 has) in number_holds (Widens p es e) t.keys n (record { low = own.low; key = own.key; at = own.at; holds = own.holds.0 }),
        λ holds. let (key, at, is, next) = holds_at (Widens p es e) t.keys n holds in (wide_is.1 n).1 (subst (Contains b.wide.items) next (all_wide (n - 1) key at is)),
      ),
    )

    -- just what came into trouble, with the fault of the entry, is found at the entry
    pub ended_found : (entry : ℕ) → entry ≡ length es + 1 → AreFoundAt p es e (listed entry e.fault broken wide)
    ended_found entry counts =
        listed_found p es e entry counts broken wide (subst (λ ks. AreNumbers (Breaks p es e) ks broken) keys breaks) (subst (λ ks. AreNumbers (Widens p es e) ks wide) keys widens)
