-- What a walk adds to the entries that were judged, and what it answers.
-- In the lemmas `says` is what a judge promises of the entry in hand, whatever entries come before it; of a listing, also whatever items come after it.
use Rattle.std.proofs.Common.{◌≡◌, inl, inr, ◌<◌, ◌≤◌, ◌+◌, ◌∙◌, ℕ, Option, Some, None, Result, Ok, Err, IsSomeAnd, IfSome, IfNone, IfOk, OnOk, List, [], ◌∷◌, ◌++◌, length, refl, sym, ap, subst, arith}
use Rattle.std.proofs.lemmas.List.{append-nil, length_push}
use Rattle.sip_standard.specs.Key.{KeyParts}
use Rattle.sip_standard.specs.Times.{Times}
use Rattle.sip_machine.specs.Texts.{Texts}
use Rattle.sip_states.specs.Tables.{Tabled}
use Rattle.sip_log.specs.declared.entry.Entry.{Entry}
use Rattle.sip_standard.specs.LogEntry.{Item}
use Rattle.sip_standard.specs.LogSays.{LogEnd, Clean, Stops, LogSays}
use Rattle.sip_log.specs.Told.{item}
use Rattle.sip_log.proofs.answers.ReadingLemmas.{IfSome-map}
use Rattle.sip_standard.specs.declared.log_reason.LogReason.{LogReason}
use Rattle.sip_standard.specs.declared.verdict.Verdict.{Verdict}
use Rattle.sip_standard.specs.declared.verdict.Verdict.TheVariants.{Legal, Malformed, Breach, Undecided, LogFault as FaultOfLog}
use Rattle.sip_standard.specs.declared.listing.Listing.{Listing}
use Rattle.sip_standard.specs.declared.listing.Listing.TheVariants.{Text, Stopped, NoEntry}
use Rattle.sip_standard.specs.Observation.{Observation}
use Rattle.sip_standard.specs.Seen.{AreSeen}
use Rattle.sip_verdict.specs.Entries.{newest_moment}
use Rattle.sip_verdict.specs.LegalLog.{IsGood}
use Rattle.sip_standard.specs.VerdictOf.{keys_in, IsVerdictAfter, IsVerdictOf, Sees, HasTrouble}
use Rattle.sip_standard.specs.ListingOf.{first_entry, trouble_of, IsListingOf}
use Rattle.sip_verdict.specs.declared.walking.Aim.{Aim}
use Rattle.sip_verdict.specs.declared.walking.Aim.TheVariants as aim
use Rattle.sip_verdict.specs.Judging.{AreFollowed}
use Rattle.sip_verdict.specs.inner.Sweeping.{AreFollowedOn}
use Rattle.sip_verdict.specs.inner.Tracking.{Tracks, IsJudged}
use Rattle.sip_verdict.specs.inner.TablesTracking.{key_keeping, transactions_of, TablesTrack}
use Rattle.sip_verdict.specs.inner.Numbering.{AreNumbered, StaysNumbered, IsListedEntry}
use Rattle.sip_verdict.specs.inner.Walking.{HasRead, FollowsAim, FollowsOn, JudgesOn, Walks, WalksTo, listed_after}
use Rattle.sip_verdict.proofs.sweeps.FollowedLemmas.{observed_moment, followed_none, followed_keys}
use Rattle.sip_verdict.proofs.judges.JudgingLemmas.{seen-push, judges_front, judged_ends, judged_trouble}
use Rattle.sip_verdict.proofs.listings.NumberingLemmas.{numbered_start}
use Rattle.sip_verdict.proofs.listings.WalkingLemmas.{read_log}
use Rattle.sip_log.specs.Reading as log

-- What follows is of what is kept of the entries.

-- before the first entry, no messages and no transactions follow no entries
follows_none : (way : Aim) (p : Times) (texts : Texts) (t : Tabled) → texts ≡ [] → t ≡ record { times = p; keys = []; sets = []; records = [] } → FollowsAim way texts t 0 [] []
follows_none aim.End p texts t none empty = followed_none p texts t none empty
follows_none (aim.Entry number) p texts t none empty = ((followed_none p texts t none empty).tracks, numbered_start texts none)

-- a walk that has read the header has walked over no entries
pub walks_start : (way : Aim) (start : Option (List ℕ)) (now : log.ReaderState) (p : Times) (texts : Texts) (t : Tabled) → texts ≡ [] → t ≡ record { times = p; keys = []; sets = []; records = [] }
    → HasRead start p [] now → Walks way start now 0 0 texts t
walks_start way start now p texts t none empty read = record {
  items = [];
  es = [];
  observed = tt;
  -- no entry was read, and the tables are empty
  follows = follows_none way p texts t none empty;
  long = refl;
  counts = refl;
  read = subst (λ u. HasRead start u.times [] now) (sym empty) read;
  newest = omega arith;
}

-- whatever the aim is, the tables follow the entries
tracks_of : (way : Aim) (texts : Texts) (t : Tabled) (left : ℕ) (items : List Item) (es : List (Observation KeyParts)) → FollowsAim way texts t left items es → TablesTrack texts es t
tracks_of aim.End texts t left items es follows = follows.tracks
tracks_of (aim.Entry number) texts t left items es follows = follows.0

-- What follows is of an entry e that is judged: before it the book is `old`, the tables are t and `left` messages were named after one entry;
-- after it they are `new`, u and `rest`.

module _ (old new : Texts) (t u : Tabled) (left rest : ℕ) (e : Entry) where
  -- where the aim is the end, a book and tables that go on over the entry do so as the walk asks, or the verdict of the entry is given
  end_on : (items : List Item) (es : List (Observation KeyParts)) (seen : Observation KeyParts) (verdict : Option Verdict) → AreFollowedOn new u rest es seen verdict
      → FollowsOn aim.End new u rest items (item e) es seen verdict
  end_on items es seen None follows = follows
  end_on items es seen (Some v) trouble = trouble

  -- where the aim is the end, an entry is judged with few messages kept
  pub judges_end : (way : Aim) → way ≡ aim.End → (verdict : Option Verdict)
      → ((es : List (Observation KeyParts)) → AreFollowed old t left es → e.number ≡ length es + 1 → newest_moment es ≤ e.moment
      → (seen : Observation KeyParts) × Sees es (item e) seen × AreFollowedOn new u rest es seen verdict)
      → JudgesOn way old t left new u rest e verdict
  judges_end way is verdict says =
      subst (λ a. JudgesOn a old t left new u rest e verdict) (sym is)
      -- h is what is seen of the entry, that it is seen so, and that it is followed, or its verdict
      (λ items es follows long next order. let h = says es follows next order in (h.0, h.1, end_on items es h.0 verdict h.2))

  -- a book that numbers the messages of the entries numbers those of the entry too, where the aim is an entry, or the verdict of the entry is given
  entry_on : (number : ℕ) (items : List Item) (es : List (Observation KeyParts)) (seen : Observation KeyParts) (verdict : Option Verdict) → AreNumbered items old → e.number ≡ length items + 1
      → u.times ≡ t.times → IfNone verdict (StaysNumbered (item e) e.number old new) → IsJudged t.times (key_keeping new t.times) es seen (transactions_of u) verdict
      → FollowsOn (aim.Entry number) new u rest items (item e) es seen verdict
  entry_on number items es seen None numbered next times stays judged = (subst (λ p. Tracks p (key_keeping new p) (es ++ seen ∷ []) (transactions_of u)) (sym times) judged.0, stays items numbered next)
  entry_on number items es seen (Some v) numbered next times stays trouble = subst (λ p. HasTrouble p es seen v) (sym times) trouble

  -- where the aim is an entry, an entry is judged with each message kept under its first entry's number
  pub judges_entry : {E : Type 0} (way : Aim) (number : ℕ) → way ≡ aim.Entry number → (result : Result (Option Verdict) E) → OnOk result (u.times ≡ t.times)
      → IfOk result (λ verdict. IfNone verdict (StaysNumbered (item e) e.number old new))
      → IfOk result (λ verdict. (es : List (Observation KeyParts)) → TablesTrack old es t → e.number ≡ length es + 1 → newest_moment es ≤ e.moment
      → (seen : Observation KeyParts) × Sees es (item e) seen × IsJudged t.times (key_keeping new t.times) es seen (transactions_of u) verdict)
      → IfOk result (JudgesOn way old t left new u rest e)
  -- an error judges nothing
  judges_entry way number is (Err error) times stays says = tt
  judges_entry way number is (Ok verdict) times stays says =
      -- h is what is seen of the entry, with its verdict
      subst (λ a. JudgesOn a old t left new u rest e verdict) (sym is) (λ items es follows long next order.
      let h = says es follows.0 next order in
      (h.0, h.1, entry_on number items es h.0 verdict follows.1 (next ∙ ap (λ n. n + 1) (sym long)) times stays h.2))

-- What follows is of verdicts.

-- the verdict of trouble at the entry e after these entries names the number of e
-- only the fault of a message, a breach and what is undecided tell of trouble at an entry, each with the entry's number
trouble_at : (p : Times) (es : List (Observation KeyParts)) (e : Observation KeyParts) (v : Verdict) → HasTrouble p es e v → trouble_of v ≡ Some (length es + 1)
trouble_at p es e (Legal whole transactions) is = absurd is
trouble_at p es e (Malformed entry fault) is = ap Some is.0
trouble_at p es e (Breach entry transaction) is = ap Some is.0
trouble_at p es e (Undecided entry transaction) is = ap Some is.0
trouble_at p es e (FaultOfLog entry reason) is = absurd is

-- where a walk ends with the verdict of trouble before its aim, this verdict is what is listed
-- a legal log has no trouble, and every other verdict is listed as it is
listed_trouble : (v : Verdict) (k : ℕ) → trouble_of v ≡ Some k → listed_after v ≡ Stopped v
listed_trouble (Legal whole transactions) k at = cc
listed_trouble (Malformed entry fault) k at = refl
listed_trouble (Breach entry transaction) k at = refl
listed_trouble (Undecided entry transaction) k at = refl
listed_trouble (FaultOfLog entry reason) k at = refl

-- a verdict of trouble at an entry that is not after the aim is what is listed of the aim
-- v is the verdict, of trouble at entry k, and n is the aim
stops_at : (input : List ℕ) (v : Verdict) (k n : ℕ) → trouble_of v ≡ Some k → k ≤ n → IsVerdictOf input v → IsListingOf input n (Stopped v)
stops_at input v k n at low is = (is, subst (λ o. IsSomeAnd o (λ k. k ≤ n)) (sym at) low)

-- a walk that meets trouble not after its aim answers rightly with the verdict of the input
-- v is the verdict, of trouble at entry k, and n is the entry of an aim
pub walks_stop : (way : Aim) (start : Option (List ℕ)) (v : Verdict) (k : ℕ) → trouble_of v ≡ Some k → ((n : ℕ) → way ≡ aim.Entry n → k ≤ n) → IfSome start (λ input. IsVerdictOf input v)
    → WalksTo way start (Err v)
walks_stop aim.End start v k at low is = is
walks_stop (aim.Entry n) start v k at low is =
    IfSome-map start (λ input. IsVerdictOf input v) (λ input. IsListingOf input n (listed_after v))
    (λ input verdict. subst (IsListingOf input n) (sym (listed_trouble v k at)) (stops_at input v k n at (low n refl) verdict)) is

-- a walk that reads a legal log with no entry at its aim answers rightly that the log is legal
walks_through : (way : Aim) (start : Option (List ℕ)) (count many : ℕ) → ((n : ℕ) → way ≡ aim.Entry n → count < n) → IfSome start (λ input. IsVerdictOf input (Legal count many))
    → WalksTo way start (Err (Legal count many))
walks_through aim.End start count many low is = is
walks_through (aim.Entry n) start count many low is =
    IfSome-map start (λ input. IsVerdictOf input (Legal count many)) (λ input. IsListingOf input n NoEntry) (λ input verdict. inr (count, many, verdict, low n refl)) is

-- a log with a header has no entry 0
pub none_listed : (way : Aim) (start : Option (List ℕ)) (p : Times) (now : log.ReaderState) → HasRead start p [] now → way ≡ aim.Entry 0 → WalksTo way start (Ok NoEntry)
none_listed way start p now read zero =
    subst (λ a. WalksTo a start (Ok NoEntry)) (sym zero)
    (IfSome-map start (λ input. (more : List Item) × (end : LogEnd) × LogSays input p more end) (λ input. IsListingOf input 0 NoEntry) (λ input l. inl (refl, (p, l.0, l.1, l.2)))
    (read_log start p [] now read))

-- entries of which none is in trouble, read to the end of their log, are legal
legal_until : (p : Times) (items : List Item) (es : List (Observation KeyParts)) (count : ℕ) → AreSeen [] items es → IsGood p es → count ≡ length es
    → IsVerdictAfter p [] items Clean (Legal count (length (keys_in es)))
legal_until p items es count observed good counts =
    let v : Verdict = Legal count (length (keys_in es)) in
    subst (λ all. IsVerdictAfter p [] all Clean v) (append-nil items) (judges_front p Clean v [] items [] es observed good (ap (λ n. Legal n (length (keys_in es))) counts))

-- What follows is of a walk that has read `count` entries on its way to its aim, `way`: its reader is in the state `now`, its book is `texts`,
-- its tables are t, and `left` messages were named after one of the entries.
module _ (way : Aim) (start : Option (List ℕ)) (now : log.ReaderState) (count left : ℕ) (texts : Texts) (t : Tabled) (walks : Walks way start now count left texts t) where
  -- the tables track the entries that were read on the walk
  tracks : TablesTrack texts walks.es t
  tracks = tracks_of way texts t left walks.items walks.es walks.follows

  -- where the log ends before the aim, the walk answers rightly that it is legal
  pub walks_end : (many : ℕ) → many ≡ length t.keys → length t.sets ≡ length t.keys → ((n : ℕ) → way ≡ aim.Entry n → count < n) → IfSome start (λ input. LogSays input t.times walks.items Clean)
      → WalksTo way start (Err (Legal count many))
  walks_end many keys long low logs =
      walks_through way start count many low (judged_ends t.times start walks.items walks.es walks.observed tracks.good Clean (Legal count many)
      (ap (λ c. Legal c many) walks.counts ∙ ap (Legal (length walks.es)) (keys ∙ followed_keys texts t walks.es long tracks)) logs)

  -- where the log cannot be read on before the aim, the walk answers rightly with the fault of the log
  pub walks_fault : (reason : LogReason) → ((n : ℕ) → way ≡ aim.Entry n → count < n) → (fault : LogReason) × (reason ≡ fault) × IfSome start (λ input. LogSays input t.times walks.items (Stops fault))
      → WalksTo way start (Err (FaultOfLog (count + 1) reason))
  walks_fault reason low (fault, is, logs) =
      walks_stop way start (FaultOfLog (count + 1) reason) (count + 1) refl (λ n same. (let before = low n same in omega (arith, before)))
      (judged_ends t.times start walks.items walks.es walks.observed tracks.good (Stops fault) (FaultOfLog (count + 1) reason)
      (ap (λ c. FaultOfLog (c + 1) reason) walks.counts ∙ ap (FaultOfLog (length walks.es + 1)) is) logs)

  -- What follows is of one entry e more on the walk; `new` is the state of the reader after it.
  module _ (e : Entry) (next : e.number ≡ count + 1) (order : now.last ≤ e.moment) (new : log.ReaderState) (read : HasRead start t.times (walks.items ++ item e ∷ []) new) where
    -- the next entry has the number after those that were walked
    number_is : e.number ≡ length walks.es + 1
    number_is = next ∙ ap (λ n. n + 1) walks.counts

    -- the next entry is not before the newest moment
    in_order : newest_moment walks.es ≤ e.moment
    in_order = (let newest = walks.newest in omega (arith, newest, order))

    -- where the next entry is in no trouble, the walk goes on over it
    pub walks_on : (left2 : ℕ) (texts2 : Texts) (u : Tabled) → JudgesOn way texts t left texts2 u left2 e None → u.times ≡ t.times → new.last ≡ e.moment → Walks way start new e.number left2 texts2 u
    walks_on left2 texts2 u says times last =
        let h = says walks.items walks.es walks.follows walks.long number_is in_order in
        record {
          -- the entry was read after the others, and what is kept follows it too
          items = walks.items ++ item e ∷ [];
          es = walks.es ++ h.0 ∷ [];
          observed = seen-push [] walks.items walks.es (item e) h.0 walks.observed h.1;
          follows = h.2;
          -- one entry more was read and counted, and none is later than the place of the reader
          long = length_push walks.items (item e) ∙ ap (λ n. n + 1) walks.long ∙ sym (length_push walks.es h.0);
          counts = number_is ∙ sym (length_push walks.es h.0);
          read = subst (λ p. HasRead start p (walks.items ++ item e ∷ []) new) (sym times) read;
          newest = omega (arith, observed_moment walks.es (item e) h.0 h.1, last);
        }

    -- where the next entry is in trouble, the walk answers rightly with the verdict of the entry
    -- texts2, u and left2 are the book, the tables and what is left after the entry, and v is its verdict
    pub walks_trouble : (left2 : ℕ) (texts2 : Texts) (u : Tabled) (v : Verdict) → JudgesOn way texts t left texts2 u left2 e (Some v) → u.times ≡ t.times → ((n : ℕ) → way ≡ aim.Entry n → count < n) → WalksTo way start (Err v)
    walks_trouble left2 texts2 u v says times low =
        let h = says walks.items walks.es walks.follows walks.long number_is in_order in
        let is = subst (λ p. HasTrouble p walks.es h.0 v) times h.2 in
        walks_stop way start v (length walks.es + 1) (trouble_at t.times walks.es h.0 v is) (λ n same. (let before = low n same in let counts = walks.counts in omega (arith, before, counts)))
        (judged_trouble t.times start walks.items walks.es walks.observed tracks.good (item e) new read h.0 h.1 v is)

    -- what is listed of the entry e, whatever comes after it in the log, is what is listed of it in the input
    listed_at : (listing : Listing)
        → ((more : List Item) → (seen : Observation KeyParts) × Sees walks.es (item e) seen × IsListedEntry t.times (first_entry ((walks.items ++ item e ∷ []) ++ more)) walks.es seen listing)
        → IfSome start (λ input. IsListingOf input e.number listing)
    -- an entry that stands in the log is never listed as one that is not there
    listed_at NoEntry says = absurd (says []).2
    -- an entry in trouble: the verdict on the log is what is listed
    listed_at (Stopped v) says =
        let h = says [] in
        IfSome-map start (λ input. IsVerdictOf input v) (λ input. IsListingOf input e.number (Stopped v))
        (λ input verdict. stops_at input v (length walks.es + 1) e.number (trouble_at t.times walks.es h.0 v h.2) (omega (arith, number_is)) verdict)
        (judged_trouble t.times start walks.items walks.es walks.observed tracks.good (item e) new read h.0 h.1 v h.2)
    -- an entry without trouble: its listing stands in each log that goes on from what was read
    listed_at (Text text) says =
        IfSome-map start (λ input. (more : List Item) × (end : LogEnd) × LogSays input t.times ((walks.items ++ item e ∷ []) ++ more) end) (λ input. IsListingOf input e.number (Text text)) (λ input l.
        -- h is what is observed of the entry e, and l a log that goes on from what was read
        let h = says l.0 in
        let observed = seen-push [] walks.items walks.es (item e) h.0 walks.observed h.1 in
        record {
          -- l tells the log of the input: its items up to this one, the rest, and its end
          times = t.times;
          items = walks.items ++ item e ∷ [];
          rest = l.0;
          end = l.1;
          log = l.2;
          -- up to the entry the log is legal, and the text is that of its transactions
          transactions = length (keys_in (walks.es ++ h.0 ∷ []));
          legal = legal_until t.times (walks.items ++ item e ∷ []) (walks.es ++ h.0 ∷ []) e.number observed h.2.0 (number_is ∙ sym (length_push walks.es h.0));
          front = walks.es;
          e = h.0;
          seen = observed;
          told = h.2.1;
        })
        (read_log start t.times (walks.items ++ item e ∷ []) new read)

    -- where the next entry is the aim, the walk answers rightly with what is listed of it
    pub walks_listed : (listing : Listing) → way ≡ aim.Entry e.number
        → ((es : List (Observation KeyParts)) (items more : List Item) → TablesTrack texts es t → AreNumbered items texts → AreSeen [] items es → length items ≡ length es → e.number ≡ length es + 1
        → newest_moment es ≤ e.moment
        → (seen : Observation KeyParts) × Sees es (item e) seen
        × IsListedEntry t.times (first_entry ((items ++ item e ∷ []) ++ more)) es seen listing)
        → WalksTo way start (Ok listing)
    walks_listed listing here says =
        -- the aim is this entry, so what follows is told of a walk to it, and what is listed of it is the answer
        let follows = subst (λ a. FollowsAim a texts t left walks.items walks.es) here walks.follows in
        subst (λ a. WalksTo a start (Ok listing)) (sym here)
        (listed_at listing (λ more. says walks.es walks.items more follows.0 follows.1 walks.observed walks.long number_is in_order))
