-- Tables of a survey whose sets have all waited until the newest moment: they follow the same entries, and a transaction that is over has a quiet set.
-- In the lemmas n is the place of a key, r its record, and d whether it is deaf.
use Rattle.std.proofs.Common.{◌≡◌, ◌≤◌, ◌+◌, ◌↔◌, inl, inr, ℕ, Bool, true, false, Option, Some, None, List, [], ◌∷◌, Contains, length, map, slice_get, refl, sym, ap, ◌∙◌, subst, arith}
use Rattle.std.proofs.lemmas.List.Elements.{All-head}
use Rattle.std.proofs.lemmas.Option.{slice_get_within}
use Rattle.sip_standard.specs.Key.{KeyParts}
use Rattle.sip_standard.specs.Times.{Times}
use Rattle.sip_standard.specs.MachineEvent.{MachineEvent}
use Rattle.sip_standard.specs.Figure.{Owing, quiet}
use Rattle.sip_standard.specs.Stands.{Stands}
use Rattle.sip_standard.specs.KeyMachine.{MachineKind, machine_of_key, transaction_of}
use Rattle.sip_standard.specs.Observation.{Observation}
use Rattle.sip_standard.specs.VerdictOf.{events_for}
use Rattle.sip_machine.specs.Texts.{Texts, IsBook}
use Rattle.sip_machine.specs.Rules.{StandFor, Knows}
use Rattle.sip_phases.proofs.states.OwingLaws.{owing_apart}
use Rattle.sip_states.specs.Held.{Held}
use Rattle.sip_states.specs.Waits.{Wait}
use Rattle.sip_states.specs.Meaning.{IsKnown, HasWaited}
use Rattle.sip_states.specs.inner.KeySets.{coded_of, CodeOwingOf, set_of, meaning_of}
use Rattle.sip_states.specs.KeyRules.{OwingOf}
use Rattle.sip_states.proofs.keyed.KeySetLaws.{coded_holds, to_machine}
use Rattle.sip_states.specs.AnySet.{moment_of, IsKnownSet, IsQuietIn, IsQuietSet, SetWaits}
use Rattle.sip_states.specs.Sweep.{ChangesSets}
use Rattle.sip_states.specs.Tables.{Tabled}
use Rattle.sip_states.specs.declared.any_set.AnySet.{AnySet}
use Rattle.sip_states.proofs.keyed.ByMachine.{first_of, last_of, first_is_of, last_is_of, first_knows, last_knows, lawful_of, moment_is, some_machine, of_set, to_set, of_sets}
use Rattle.sip_states.proofs.lists.Listed.{Contains-here, Contains-there, Contains-none}
use Rattle.sip_verdict.specs.Forgetting.{HasEnded, IsOver}
use Rattle.sip_verdict.specs.Entries.{newest_moment}
use Rattle.sip_verdict.specs.SurveyLaws.{IsIdleAgain}
use Rattle.sip_verdict.specs.inner.Forgetting.{AreQuietIfOver}
use Rattle.sip_verdict.specs.inner.Leads.{Leads}
use Rattle.sip_verdict.specs.inner.Surveying.{IsFollowed, TablesSurvey}
use Rattle.sip_verdict.specs.inner.TablesTracking.{LeadsBy, LeadsOf, MayPass, IsOnRecord, AllAreOnRecord}
use Rattle.sip_verdict.proofs.keys.Leading.{iff_trans}
use Rattle.sip_verdict.proofs.surveys.forgetting.Remembered.{idle_begun}
use Rattle.sip_verdict.proofs.sweeps.SweptSets.{swept_agenda, waited_leads}
use Rattle.sip_verdict.proofs.tables.TablesPassing.{at_place, All-place, All-places}

-- What follows is of states that stand for one thing alone: only y does, so they are one state. P says for what the states stand, `seen` for what each one
-- does.
module _ {X S : Type 0} (names : S → List ℕ) (InRange : S → Type 0) (seen : Texts → S → X) (texts : Texts)
    (apart : (x y : S) → Knows names texts x → Knows names texts y → seen texts x ≡ seen texts y → x ≡ y) (P : X → Type 0) (y : S)
    (only : (z : X) → P z ↔ (z ≡ seen texts y)) (known : Knows names texts y) where
  -- where a list of states stands for what y stands for and for nothing else, it is y alone
  alone : (xs : List S) → StandFor names InRange seen texts P xs → xs ≡ y ∷ []
  -- a list without states stands for nothing, and one state in it stands for what y does
  alone [] stand = absurd (Contains-none (seen texts y) ((stand.members (seen texts y)).1 ((only (seen texts y)).1 refl)))
  alone (x ∷ []) stand =
      let is = (only (seen texts x)).0 ((stand.members (seen texts x)).0 (Contains-here (seen texts x) [])) in
      ap (λ z. z ∷ []) (apart x y (All-head (Knows names texts) x [] stand.known) known is)
  -- two states in it, x and z, would stand for the same
  alone (x ∷ z ∷ xs) stand =
      let first = (only (seen texts x)).0 ((stand.members (seen texts x)).0 (Contains-here (seen texts x) (map (seen texts) (z ∷ xs)))) in
      let second
      = (only (seen texts z)).0 ((stand.members (seen texts z)).0 (Contains-there (seen texts x) (map (seen texts) (z ∷ xs)) (seen texts z) (Contains-here (seen texts z) (map (seen texts) xs)))) in
      absurd (stand.distinct 0 1 (seen texts x) (omega arith) (omega arith) (first ∙ sym second))

-- What follows is of a set that has waited until a moment.

-- the book keeps the messages that the set names, and the moment of the set is that until which it waited
waited_known : (texts : Texts) → IsBook texts → (moment : ℕ) (old new : AnySet) → SetWaits moment old new → IsKnownSet texts old → IsKnownSet texts new × (moment_of new ≡ moment)
waited_known texts book moment old new waits known =
    -- s is the set before the wait, by its machine, and t after it; the states of t stand for runs, so that the book has what they name
    let (machine, s, is) = some_machine old in
    let (t, new_is, waited) = of_sets (λ X M S m s u. HasWaited m moment s u) machine s new (subst (λ o. SetWaits moment o new) is waits) in
    let stand = waited.states texts book (of_set (λ X M S m s. IsKnown m texts s) machine s (subst (IsKnownSet texts) is known)) in
    (subst (IsKnownSet texts) (sym new_is) (to_set (λ X M S m s. IsKnown m texts s) machine t stand.known), ap moment_of new_is ∙ moment_is machine t ∙ waited.at)

-- What follows is of the set of one transaction over the events: `old` before it has waited until the moment, and `new` after it.
module _ (texts : Texts) (book : IsBook texts) (p : Times) (machine : MachineKind) (events : List MachineEvent) (from moment : ℕ) (late : from ≤ moment) (old new : AnySet)
    (low : moment_of old ≤ moment) (waits : SetWaits moment old new) where
  -- the states of the set that has waited stand for just where the runs stand at the moment, and the set leads to these runs
  pub record Stood : Type 0 where
    pub held : Held Times (CodeOwingOf machine)
    pub is : new ≡ set_of machine held
    pub leads : LeadsBy (meaning_of machine) texts p (Stands (transaction_of machine).figure p events) from held
    pub stand : StandFor (meaning_of machine).names (meaning_of machine).in_range (meaning_of machine).seen texts (Stands (transaction_of machine).figure p events moment) held.states

  -- a set that leads to the runs and then waits stands for just where the runs stand at the moment
  stood : LeadsOf texts p machine events from old → Stood
  stood (s, is, leads) =
      let m = meaning_of machine in
      let (t, new_is, waited) = of_sets (λ X M S m s u. HasWaited m moment s u) machine s new (subst (λ o. SetWaits moment o new) is waits) in
      let not_later : s.moment ≤ moment = subst (λ n. n ≤ moment) (ap moment_of is ∙ moment_is machine s) low in
      -- the waited states stand for where the runs that wait until the moment stand
      let stand = subst (λ q. StandFor m.names m.in_range m.seen texts (Wait (m.rules q) (Contains (map (m.seen texts) s.states)) s.moment moment) t.states) leads.machine_is (waited.states texts book leads.leads.known) in
      -- the states after the wait lead to the runs until the moment too
      let on = waited_leads m.names m.in_range m.seen texts (m.rules p) (lawful_of machine p) (Stands (transaction_of machine).figure p events) from s.moment moment s.states t.states not_later leads.leads stand in
      record {
        held = t;
        is = new_is;
        leads = record { machine_is = waited.machine ∙ leads.machine_is; leads = subst (λ n. Leads m.names m.seen texts (m.rules p) (Stands (transaction_of machine).figure p events) from n t.states) (sym waited.at) on };
        -- the states of the set stand for those of the runs
        stand = record {
          members = λ x. iff_trans (stand.members x) (leads.leads.runs moment x late not_later);
          distinct = stand.distinct;
          known = stand.known;
          in_range = stand.in_range;
        };
      }

  -- a set that leads to the runs leads to them after it has waited
  waited_on : LeadsOf texts p machine events from old → LeadsOf texts p machine events from new
  waited_on leads = let s = stood leads in (s.held, s.is, s.leads)

  -- where a run stands in the state q and none stands in another, the set that has waited has the one state that stands for q
  one_state : (y : CodeOwingOf machine) (q : Owing (transaction_of machine).Phase) → (meaning_of machine).seen texts y ≡ q → Knows (meaning_of machine).names texts y
      → Stands (transaction_of machine).figure p events moment q × ((x : Owing (transaction_of machine).Phase) → Stands (transaction_of machine).figure p events moment x → x ≡ q)
      → (s : Stood) → s.held.states ≡ y ∷ []
  one_state y q is known (some, only) s =
      let f = (transaction_of machine).figure in
      -- a run stands at the moment in q alone
      let both : (x : OwingOf machine) → Stands f p events moment x ↔ (x ≡ (meaning_of machine).seen texts y) =
      λ x. (λ stands. only x stands ∙ sym is, λ same. subst (λ z. Stands f p events moment z) (sym (same ∙ is)) some) in
      alone (meaning_of machine).names (meaning_of machine).in_range (meaning_of machine).seen texts
      (λ a b a_known b_known same. owing_apart (coded_of machine).names (coded_of machine).seen texts ((coded_holds machine).apart texts) a b book a_known b_known same)
      (Stands f p events moment) y both known s.held.states s.stand

  -- a set that has waited is quiet where the transaction is idle again
  idle_quiet : LeadsOf texts p machine events from old → IsIdleAgain machine p events moment → IsQuietSet new
  idle_quiet leads again =
      let s = stood leads in
      subst IsQuietSet (sym s.is) (to_machine IsQuietIn machine s.held (inl (one_state (first_of machine) (quiet (transaction_of machine).figure.idle) (first_is_of machine texts p) (first_knows machine texts) again s)))

  -- a set that has waited is quiet where the transaction has ended
  ended_quiet : LeadsOf texts p machine events from old → HasEnded machine p events moment → IsQuietSet new
  ended_quiet leads ended =
      let s = stood leads in
      subst IsQuietSet (sym s.is) (to_machine IsQuietIn machine s.held (inr (one_state (last_of machine) (quiet (transaction_of machine).figure.ended) (last_is_of machine texts p) (last_knows machine texts) ended s)))

-- What follows is of all sets of the tables: t are the tables before all sets have waited until the moment, and u after it.

module _ (texts : Texts) (book : IsBook texts) (t u : Tabled) (moment : ℕ) (waited : ChangesSets (SetWaits moment) t u) (may : MayPass texts t moment) where
  -- the set that stood at the place before the wait
  before : (n : ℕ) (new : AnySet) → slice_get u.sets n ≡ Some new → (old : AnySet) × (slice_get t.sets n ≡ Some old)
  before n new at = at_place t.sets n (let inside = slice_get_within u.sets n new at in let long = waited.long in omega (arith, inside, long))

  -- no set stood at a later moment before the wait
  low : (n : ℕ) (old : AnySet) → slice_get t.sets n ≡ Some old → moment_of old ≤ moment
  low n old was = All-place (λ set. moment_of set ≤ moment) t.sets n old was may.order

  -- the book kept what each set named before the wait
  known : (n : ℕ) (old : AnySet) → slice_get t.sets n ≡ Some old → IsKnownSet texts old
  known n old was = All-place (IsKnownSet texts) t.sets n old was may.known

  -- after the wait each set stands at the moment, and the book keeps what it names
  one_known : (n : ℕ) (new : AnySet) → slice_get u.sets n ≡ Some new → IsKnownSet texts new × (moment_of new ≡ moment)
  one_known n new at = let (old, was) = before n new at in waited_known texts book moment old new (waited.each n old new was at) (known n old was)

  -- an entry may pass the tables whose sets have waited
  pub waited_may : MayPass texts u moment
  waited_may = record {
    order = All-places (λ set. moment_of set ≤ moment) u.sets (λ n new at. (let is = (one_known n new at).1 in omega (arith, is)));
    known = All-places (IsKnownSet texts) u.sets (λ n new at. (one_known n new at).0);
    long = waited.long ∙ may.long ∙ sym (ap length waited.keys);
  }

  -- where each last moment is on record, it is on record after the sets have waited
  pub waited_recorded : AllAreOnRecord t → AllAreOnRecord u
  waited_recorded recorded = record {
    long = ap length waited.records ∙ recorded.long ∙ sym (ap length waited.keys);
    each = λ n new r at here.
        -- the records did not change in the wait, so that r is right for the set before it
        let (old, was) = before n new at in
        let there : slice_get t.records n ≡ Some r = ap (λ rs. slice_get rs n) (sym waited.records) ∙ here in
        go n r old new was at (recorded.each n old r was there);
  }
    where
      -- the last moment on record of one set is still right after the wait
      go : (n : ℕ) (r : Option (Option ℕ)) (old new : AnySet) → slice_get t.sets n ≡ Some old → slice_get u.sets n ≡ Some new → IsOnRecord [] (n + 1) old r → IsOnRecord [] (n + 1) new r
      go n None old new was at h = h
      go n (Some limit) old new was at h = swept_agenda texts book moment old new (low n old was) (inl (waited.each n old new was at)) (known n old was) limit h

  -- What follows is of the tables t, which track the entries es, and the tables u after all sets have waited; `deaf` says which transactions are in trouble.
  module _ (es : List (Observation KeyParts)) (deaf : List Bool) (tracks : TablesSurvey texts es t deaf) (newest : newest_moment es ≡ moment) (as_many : length deaf ≡ length t.keys) where
    -- no entry is after the moment
    late : newest_moment es ≤ moment
    late = omega (arith, newest)

    -- a set that has waited leads to the runs to which it led
    on : (n : ℕ) (old new : AnySet) → slice_get t.sets n ≡ Some old → slice_get u.sets n ≡ Some new → (machine : MachineKind) (events : List MachineEvent)
        → LeadsOf texts t.times machine events (newest_moment es) old → LeadsOf texts t.times machine events (newest_moment es) new
    on n old new was at machine events leads = waited_on texts book t.times machine events (newest_moment es) moment late old new (low n old was) (waited.each n old new was at) leads

    -- a set that has waited follows the entries that it followed
    follows : (n : ℕ) (old new : AnySet) → slice_get t.sets n ≡ Some old → slice_get u.sets n ≡ Some new → (key : KeyParts) (d : Bool) → IsFollowed texts t.times es key old d → IsFollowed texts t.times es key new d
    follows n old new was at key true (leads, unsound) = (on n old new was at (machine_of_key t.times.rules key) [] leads, unsound)
    follows n old new was at key false (leads, sound) = (on n old new was at (machine_of_key t.times.rules key) (events_for key es) leads, sound)

    -- the tables whose sets have waited survey the same entries
    pub waited_survey : TablesSurvey texts es u deaf
    waited_survey = record {
      order = tracks.order;
      keys = waited.keys ∙ tracks.keys;
      each = λ n key new d at here is.
          -- the set that stood at the place before the wait followed the entries, and so does the one after it
          let (old, was) = before n new here in
          subst (λ q. IsFollowed texts q es key new d) (sym waited.times)
          (follows n old new was here key d (tracks.each n key old d (ap (λ ks. slice_get ks n) (sym waited.keys) ∙ at) was is));
    }

    -- after the wait a transaction that is over has a quiet set
    pub waited_over : AreQuietIfOver es u
    waited_over n key new at here over =
        let (old, was) = before n new here in
        let key_at : slice_get t.keys n ≡ Some key = ap (λ ks. slice_get ks n) (sym waited.keys) ∙ at in
        let (d, is) = at_place deaf n (let inside = slice_get_within t.keys n key key_at in omega (arith, inside, as_many)) in
        by n old new was here key d (tracks.each n key old d key_at was is) (subst (λ q. IsOver q es key) waited.times over)
      where
        -- a set whose runs stand in idle alone is quiet after the wait
        idle : (n : ℕ) (old new : AnySet) → slice_get t.sets n ≡ Some old → slice_get u.sets n ≡ Some new → (machine : MachineKind) (events : List MachineEvent)
            → LeadsOf texts t.times machine events (newest_moment es) old → IsIdleAgain machine t.times events (newest_moment es) → IsQuietSet new
        idle n old new was at machine events leads again =
            idle_quiet texts book t.times machine events (newest_moment es) moment late old new (low n old was) (waited.each n old new was at) leads (subst (IsIdleAgain machine t.times events) newest again)

        -- a set whose transaction has ended is quiet after the wait
        ended : (n : ℕ) (old new : AnySet) → slice_get t.sets n ≡ Some old → slice_get u.sets n ≡ Some new → (machine : MachineKind) (events : List MachineEvent)
            → LeadsOf texts t.times machine events (newest_moment es) old → HasEnded machine t.times events (newest_moment es) → IsQuietSet new
        ended n old new was at machine events leads is_over =
            ended_quiet texts book t.times machine events (newest_moment es) moment late old new (low n old was) (waited.each n old new was at) leads (subst (HasEnded machine t.times events) newest is_over)

        -- the set of a transaction that is over is quiet: the transaction is in trouble, idle again, or ended
        -- the set of a deaf transaction leads to the runs over no event, which stand in idle
        by : (n : ℕ) (old new : AnySet) → slice_get t.sets n ≡ Some old → slice_get u.sets n ≡ Some new → (key : KeyParts) (d : Bool) → IsFollowed texts t.times es key old d → IsOver t.times es key → IsQuietSet new
        by n old new was at key true (leads, unsound) over = idle n old new was at (machine_of_key t.times.rules key) [] leads (idle_begun (machine_of_key t.times.rules key) t.times (newest_moment es))
        by n old new was at key false (leads, sound) (inl unsound) = absurd (unsound sound)
        by n old new was at key false (leads, sound) (inr (inl again)) = idle n old new was at (machine_of_key t.times.rules key) (events_for key es) leads again
        by n old new was at key false (leads, sound) (inr (inr is_over)) = ended n old new was at (machine_of_key t.times.rules key) (events_for key es) leads is_over
