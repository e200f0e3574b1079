-- Messages and sets that follow entries follow one entry more, and follow the same entries after a sweep.
use Rattle.std.proofs.Common.{◌≡◌, ◌<◌, ◌≤◌, ◌+◌, ◌∙◌, ℕ, zero, suc, Option, Some, None, MatchOption, List, [], ◌∷◌, ◌++◌, AllPairs, length, get_or, refl, sym, ap, subst, append_assoc, arith}
use Rattle.std.proofs.lemmas.List.{append-nil}
use Rattle.std.proofs.lemmas.List.Elements.{Contains-get_or}
use Rattle.std.proofs.lemmas.Slice.Zip.{firsts-zip}
use Rattle.sip_standard.specs.declared.role.Direction.{Direction}
use Rattle.sip_standard.specs.Key.{KeyParts}
use Rattle.sip_standard.specs.Times.{Times}
use Rattle.sip_machine.specs.Texts.{Texts, IsBook, Keeps}
use Rattle.sip_standard.specs.KeyMachine.{machine_of_key}
use Rattle.sip_states.specs.Tables.{Tabled}
use Rattle.sip_states.proofs.lists.Listed.{Contains-none, Contains-map}
use Rattle.sip_standard.specs.LogEntry.{Item}
use Rattle.sip_standard.specs.declared.verdict.Verdict.{Verdict}
use Rattle.sip_standard.specs.Observation.{Observation, silent_observation, ObservesMessage, direction_of, has_fault, has_no_cookie, is_heard}
use Rattle.sip_verdict.specs.Entries.{newest_moment}
use Rattle.sip_standard.specs.declared.action.Action.{Action}
use Rattle.sip_standard.specs.declared.action.Action.TheVariants.{Sent, Received, Failed, Mark, Restart}
use Rattle.sip_standard.specs.VerdictOf.{keys_in, Sees}
use Rattle.sip_verdict.specs.Named.{IsNamed, AreMany, WereNamed}
use Rattle.sip_verdict.specs.Judging.{AreFollowed}
use Rattle.sip_verdict.specs.inner.Sweeping.{AreFollowedOn}
use Rattle.sip_verdict.specs.inner.Tracking.{Tracks, IsJudged}
use Rattle.sip_verdict.specs.inner.TablesTracking.{key_keeping, transactions_of, TablesTrack, MayPass, AllAreOnRecord, MayTake}
use Rattle.sip_verdict.proofs.keys.Keys.{newest_moment-push}
use Rattle.sip_verdict.proofs.tables.TrackingLemmas.{tracks_none}
use Rattle.sip_verdict.proofs.tables.NamedTables.{no_events_silent}

-- What follows is of how many messages a book keeps.

-- where the numbers of a book ascend, none of them is below its place
not_below : (texts : Texts) → AllPairs (λ a b. a.0 < b.0) texts → (d : ℕ × List ℕ) (i : ℕ) → i < length texts → i ≤ (get_or texts i d).0
not_below texts rising d zero low = omega arith
not_below texts rising d (suc i) low =
    -- its number is above that of the message before it, which is not below its own place
    let before = not_below texts rising d i (omega (arith, low)) in
    let more = rising i (suc i) d (omega arith) low in
    omega (arith, before, more)

-- a book whose numbers are all below this one keeps at most this many messages
pub book_few : (texts : Texts) → IsBook texts → (number : ℕ) → ((n : ℕ) → Keeps texts n → n < number) → length texts ≤ number
book_few texts book number below = go (length texts) refl
  where
    -- there are at most as many messages as this number: the book has none, or its newest number is below it
    go : (count : ℕ) → length texts ≡ count → length texts ≤ number
    go zero size = omega (arith, size)
    go (suc last) size =
        -- the last message has at least the number of those before it
        let low : last < length texts = omega (arith, size) in
        let kept = get_or texts last (0, []) in
        let high = not_below texts book.rising (0, []) last low in
        let under = below kept.0 (Contains-map (λ k. k.0) texts kept (Contains-get_or texts last (0, []) low)) in
        omega (arith, size, high, under)

-- What follows is of the messages that are named.

-- the messages that are named after all entries are among the counts of what was named
pub now_named : (Named : List (Observation KeyParts) → List ℕ → Type 0) (es : List (Observation KeyParts)) (count : ℕ) → AreMany (Named es) count → WereNamed Named es count
now_named Named es count many = record { front = es; rest = []; whole = sym (append-nil es); many = many }

-- a count of what was named stays one when one entry more comes
pub more_named : (Named : List (Observation KeyParts) → List ℕ → Type 0) (es : List (Observation KeyParts)) (e : Observation KeyParts) (count : ℕ) → WereNamed Named es count
    → WereNamed Named (es ++ e ∷ []) count
more_named Named es e count w = record { front = w.front; rest = w.rest ++ e ∷ []; whole = ap (λ xs. xs ++ e ∷ []) w.whole ∙ append_assoc w.front w.rest (e ∷ []); many = w.many }

-- no message is named before the first entry
none_named : (p : Times) → AreMany (IsNamed p []) 0
none_named p = record {
  texts = [];
  distinct = λ i j d lt low. absurd (omega (arith, low));
  just = λ text. (λ h. absurd (Contains-none text h), λ h. absurd (no_events_silent p 0 (machine_of_key p.rules h.0) [] text refl h.1));
  counts = refl;
}

-- What follows shows that what is observed of an entry has the moment of its item.

-- a message is seen at the moment of its entry
pub heard_moment : (direction : Direction) (i : Item) (e : Observation KeyParts) → ObservesMessage direction i e → e.event.moment ≡ i.moment
heard_moment direction i e (has_fault fault has is) = ap (λ x. x.event.moment) is
heard_moment direction i e (has_no_cookie r reads lacks is) = ap (λ x. x.event.moment) is
heard_moment direction i e (is_heard r keys reads fine concerns is) = ap (λ x. x.event.moment) is

-- an entry without a message is observed at its moment
silent_moment : (a : Action) (moment : ℕ) (keys : List KeyParts) → (silent_observation a moment keys).event.moment ≡ moment
silent_moment Sent moment keys = refl
silent_moment Received moment keys = refl
silent_moment Failed moment keys = refl
silent_moment Mark moment keys = refl
silent_moment Restart moment keys = refl

-- an entry is observed at the moment of its item, whichever way its message went
moment_going : (direction : Option Direction) (i : Item) (keys : List KeyParts) (e : Observation KeyParts) → MatchOption direction (e ≡ silent_observation i.action i.moment keys) (λ way. ObservesMessage way i e)
    → e.event.moment ≡ i.moment
moment_going None i keys e seen = ap (λ x. x.event.moment) seen ∙ silent_moment i.action i.moment keys
moment_going (Some direction) i keys e seen = heard_moment direction i e seen

-- after an entry the newest moment is that of the entry
pub observed_moment : (es : List (Observation KeyParts)) (i : Item) (e : Observation KeyParts) → Sees es i e → newest_moment (es ++ e ∷ []) ≡ i.moment
observed_moment es i e seen = newest_moment-push es e ∙ moment_going (direction_of i.action) i (keys_in es) e seen

-- What follows is of messages and sets that follow entries.

-- an empty book and empty tables follow no entries
pub followed_none : (p : Times) (texts : Texts) (t : Tabled) → texts ≡ [] → t ≡ record { times = p; keys = []; sets = []; records = [] } → AreFollowed texts t 0 []
followed_none p texts t none empty =
    subst (λ b. AreFollowed b t 0 []) (sym none) (subst (λ u. AreFollowed [] u 0 []) (sym empty) (record {
      tracks = tracks_none p (key_keeping [] p);
      named = now_named (IsNamed p) [] 0 (none_named p);
      few = omega arith;
    }))

-- there are as many transactions as keys of the entries
pub followed_keys : (texts : Texts) (t : Tabled) (es : List (Observation KeyParts)) → length t.sets ≡ length t.keys → TablesTrack texts es t → length t.keys ≡ length (keys_in es)
followed_keys texts t es long tracks = ap length (sym (firsts-zip t.keys t.sets long) ∙ tracks.keys)

-- What follows is of one entry i: `old` and t are the book and the tables before it, `mid` and u after it, before the sweep.
module _ (old mid : Texts) (t u : Tabled) (times : u.times ≡ t.times) (number : ℕ) (i : Item) where
  -- what was judged of the entry after those that the old messages and sets follow, as the new ones follow it
  abbrev Says : Option Verdict → Type 0
  Says verdict = (es : List (Observation KeyParts)) → TablesTrack old es t → number ≡ length es + 1 → newest_moment es ≤ i.moment
      → (e : Observation KeyParts) × Sees es i e × IsJudged t.times (key_keeping mid t.times) es e (transactions_of u) verdict

  -- where the entry is in no trouble, the new sets track the entries and it
  tracks_on : (es : List (Observation KeyParts)) (e : Observation KeyParts) → IsJudged t.times (key_keeping mid t.times) es e (transactions_of u) None → TablesTrack mid (es ++ e ∷ []) u
  tracks_on es e judged = subst (λ p. Tracks p (key_keeping mid p) (es ++ e ∷ []) (transactions_of u)) (sym times) judged.0

  -- where the entry is in no trouble and few messages are kept, what is kept follows the entry too
  pub followed_kept : Says None → (left : ℕ) → length mid ≤ left + left + 64 → (es : List (Observation KeyParts)) → AreFollowed old t left es → number ≡ length es + 1 → newest_moment es ≤ i.moment
      → (e : Observation KeyParts) × Sees es i e × AreFollowedOn mid u left es e None
  followed_kept says left few es follows counts order =
      let h = says es follows.tracks counts order in (
        h.0,
        h.1,
        -- few messages are kept still, as many as were left by the last sweep and as many again
        record {
          tracks = tracks_on es h.0 h.2;
          named = subst (λ p. WereNamed (IsNamed p) (es ++ h.0 ∷ []) left) (sym times) (more_named (IsNamed t.times) es h.0 left follows.named);
          few = few;
        },
      )

  -- where the entry is in no trouble and the book was swept, what is left follows the entry too
  -- `tracks`: the sweep keeps what the tables track; `named`: the book then has as many messages as are named; `now` counts them
  pub followed_swept : Says None → (texts : Texts) (v : Tabled) → v.times ≡ u.times → ((es : List (Observation KeyParts)) → TablesTrack mid es u → TablesTrack texts es v)
      → ((es : List (Observation KeyParts)) → TablesTrack mid es u → newest_moment es ≡ i.moment → AreMany (IsNamed u.times es) (length texts))
      → (now : ℕ) → now ≡ length texts → (left : ℕ) (es : List (Observation KeyParts)) → AreFollowed old t left es → number ≡ length es + 1 → newest_moment es ≤ i.moment
      → (e : Observation KeyParts) × Sees es i e × AreFollowedOn texts v now es e None
  followed_swept says texts v same tracks named now is left es follows counts order =
      let h = says es follows.tracks counts order in
      let on = tracks_on es h.0 h.2 in
      -- as many messages are kept as are named now
      let many = named (es ++ h.0 ∷ []) on (observed_moment es i h.0 h.1) in (
        h.0,
        h.1,
        record {
          tracks = tracks (es ++ h.0 ∷ []) on;
          named = subst (λ n. WereNamed (IsNamed v.times) (es ++ h.0 ∷ []) n) (sym is)
              (subst (λ p. WereNamed (IsNamed p) (es ++ h.0 ∷ []) (length texts)) (sym same) (now_named (IsNamed u.times) (es ++ h.0 ∷ []) (length texts) many));
          -- no more messages are kept than are named
          few = omega (arith, is);
        },
      )

-- where the book was swept, the next entry may be taken by what is left
-- t and u are the tables before and after the sweep
pub swept_take : (old texts : Texts) (t u : Tabled) (number moment : ℕ) → MayTake old t number moment → MayPass texts u moment → AllAreOnRecord u → ((n : ℕ) → Keeps texts n → Keeps old n) → u.keys ≡ t.keys
    → MayTake texts u number moment
swept_take old texts t u number moment may passes recorded fewer keys = record {
  passes = passes;
  recorded = recorded;
  -- the book has no message that is new, and the tables have the same keys
  numbered = λ n keeps. may.numbered n (fewer n keeps);
  some = λ n keeps. may.some n (fewer n keeps);
  few = subst (λ ks. length ks + 2 ≤ number + number) (sym keys) may.few;
}
