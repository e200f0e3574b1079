-- In a sweep the sets wait, and the book keeps what they name: the sets lead to the same runs, and their last moments stay.
-- In the lemmas r are the rules of a machine, `at`, h and moment are moments, x is a state, and a and b are two books.
-- Of one transaction s is the set before the wait, t the set after it, m what the states of its machine mean, and n the number of a message.
use Rattle.std.proofs.Common.{◌≡◌, ◌≤◌, ◌<◌, ◌↔◌, inl, inr, ℕ, Option, List, All, AllPairs, Contains, map, get_or, refl, sym, ap, ◌∙◌, subst, arith}
use Rattle.std.specs.List.{flat_map}
use Rattle.std.proofs.lemmas.List.Elements.{Contains-get_or}
use Rattle.sip_standard.specs.Times.{Times}
use Rattle.sip_machine.specs.Texts.{Texts, IsBook, Keeps, text_of}
use Rattle.sip_machine.specs.Retained.{only}
use Rattle.sip_standard.specs.MachineEvent.{MachineEvent}
use Rattle.sip_machine.specs.Limits.{IsWithin, IsOpenAt}
use Rattle.sip_machine.specs.Rules.{MachineRules, IsLawful, StandFor}
use Rattle.sip_phases.proofs.states.OwingLaws.{window_same, until_same}
use Rattle.sip_machine.proofs.texts.RetainLemmas.{only-Keeps, text_of-only}
use Rattle.sip_states.specs.Waits.{Wait, IsAgenda}
use Rattle.sip_standard.specs.KeyMachine.{MachineKind, transaction_of}
use Rattle.sip_standard.specs.Stands.{Stands}
use Rattle.sip_states.specs.inner.KeySets.{coded_of, CodeOwingOf, meaning_of}
use Rattle.sip_states.proofs.keyed.KeySetLaws.{coded_holds}
use Rattle.sip_states.specs.Meaning.{IsKnown, HasWaited, HasAgenda}
use Rattle.sip_states.specs.AnySet.{moment_of, SetWaits, IsKnownSet, IsAgendaOf}
use Rattle.sip_states.specs.Sweep.{numbers_of, IsAdvanced}
use Rattle.sip_states.specs.declared.any_set.AnySet.{AnySet}
use Rattle.sip_states.proofs.lists.Listed.{Contains-map, Contains-from_map}
use Rattle.sip_states.proofs.sets.Waiting.{Wait-iff}
use Rattle.sip_states.proofs.lists.Twice.{Wait-twice}
use Rattle.sip_verdict.specs.inner.Leads.{Leads}
use Rattle.sip_verdict.specs.inner.TablesTracking.{LeadsOf}
use Rattle.sip_verdict.proofs.keys.Leading.{iff_trans, Leads-book}
use Rattle.sip_states.proofs.keyed.ByMachine.{some_machine, lawful_of, moment_is, numbers_are, of_set, to_set, of_sets, seen_by_names_of}
use Rattle.sip_states.proofs.keyed.NamesLemmas.{Contains-flat_map}

-- a set that leads to the runs leads to them after it has waited until a later moment
pub waited_leads : {X S : Type 0} (names : S → List ℕ) (InRange : S → Type 0) (seen : Texts → S → X) (texts : Texts) (r : MachineRules X) → IsLawful r → (Runs : ℕ → X → Type 0) (from at moment : ℕ) (old new : List S) → at ≤ moment
    → Leads names seen texts r Runs from at old → StandFor names InRange seen texts (Wait r (Contains (map (seen texts) old)) at moment) new → Leads names seen texts r Runs from moment new
waited_leads names InRange seen texts r lawful Runs from at moment old new low leads stand = record {
  -- to wait on from the new states is to wait from the old ones, and that is where the runs stand
  known = stand.known;
  runs = λ n x late later.
      iff_trans (Wait-iff r (Contains (map (seen texts) new)) (Wait r (Contains (map (seen texts) old)) at moment) stand.members moment n x)
      (iff_trans (Wait-twice r lawful (Contains (map (seen texts) old)) at moment n low later x) (leads.runs n x late (omega (arith, low, later))));
}

-- a set leads to the same runs beside the book with some of its messages alone, where these are all that the set names
-- a and b are any two books that agree on what the state x names
pub kept_leads : {X S : Type 0} (names : S → List ℕ) (seen : Texts → S → X) → ((a b : Texts) (x : S) → ((n : ℕ) → Contains (names x) n → text_of a n ≡ text_of b n) → seen a x ≡ seen b x)
    → (texts : Texts) (numbers : List ℕ) → IsBook texts → AllPairs (λ a b. a < b) numbers → All (Keeps texts) numbers → (r : MachineRules X) (Runs : ℕ → X → Type 0) (from moment : ℕ) (states : List S)
    → ((n : ℕ) → Contains (flat_map names states) n → Contains numbers n) → Leads names seen texts r Runs from moment states → Leads names seen (only numbers texts) r Runs from moment states
kept_leads names seen by_names texts numbers book up kept r Runs from moment states within leads =
    Leads-book names seen by_names texts (only numbers texts) r Runs from moment states
    (λ k d low n has.
    -- what a state names is among the numbers, so that the smaller book has it, with the same bytes
    (let among : Contains numbers n = within n (Contains-flat_map names states (get_or states k d) n (Contains-get_or states k d low) has) in
    (only-Keeps texts numbers book up kept n among, sym (text_of-only texts numbers book up kept n among)))) leads

-- What follows is of the set of one transaction, and a book of which the messages with these numbers alone are kept.
-- `up` says that the numbers rise, and `kept` that the book has a message under each.
module _ (texts : Texts) (numbers : List ℕ) (book : IsBook texts) (up : AllPairs (λ a b. a < b) numbers) (kept : All (Keeps texts) numbers) (p : Times) (machine : MachineKind) (events : List MachineEvent) (from : ℕ) where
  -- a set of the tables that has waited leads to the same runs beside the book with some of its messages alone, where these are all that it names
  pub swept_leads : (moment : ℕ) (old new : AnySet) → moment_of old ≤ moment → IsAdvanced moment old new → ((n : ℕ) → Contains (numbers_of new) n → Contains numbers n)
      → LeadsOf texts p machine events from old → LeadsOf (only numbers texts) p machine events from new
  swept_leads moment old new low (inl waits) within (s, is, leads) =
      let m = meaning_of machine in
      let (t, new_is, waited) = of_sets (λ X M S m s u. HasWaited m moment s u) machine s new (subst (λ o. SetWaits moment o new) is waits) in
      let not_later : s.moment ≤ moment = subst (λ n. n ≤ moment) (ap moment_of is ∙ moment_is machine s) low in
      -- the set that has waited leads to the same runs
      let stand = subst (λ q. StandFor m.names m.in_range m.seen texts (Wait (m.rules q) (Contains (map (m.seen texts) s.states)) s.moment moment) t.states) leads.machine_is (waited.states texts book leads.leads.known) in
      let leads_on = waited_leads m.names m.in_range m.seen texts (m.rules p) (lawful_of machine p) (Stands (transaction_of machine).figure p events) from s.moment moment s.states t.states not_later leads.leads stand in
      let here = subst (λ n. Leads m.names m.seen texts (m.rules p) (Stands (transaction_of machine).figure p events) from n t.states) (sym waited.at) leads_on in (
        t,
        new_is,
        -- the states of the set mean the same beside the messages that are kept
        record {
          machine_is = waited.machine ∙ leads.machine_is;
          leads = kept_leads m.names m.seen (seen_by_names_of machine) texts numbers book up kept (m.rules p) (Stands (transaction_of machine).figure p events) from t.moment t.states
              (λ n has. within n (subst (λ ns. Contains ns n) (sym (ap numbers_of new_is ∙ numbers_are machine t)) has)) here;
        },
      )
  swept_leads moment old new low (inr (same, silent)) within (s, is, leads) =
      let m = meaning_of machine in (
        -- the set did not wait, and names nothing
        s,
        same ∙ is,
        record {
          machine_is = leads.machine_is;
          leads = kept_leads m.names m.seen (seen_by_names_of machine) texts numbers book up kept (m.rules p) (Stands (transaction_of machine).figure p events) from s.moment s.states
              (λ n has. within n (subst (λ ns. Contains ns n) (sym (ap numbers_of (same ∙ is) ∙ numbers_are machine s)) has)) leads.leads;
        },
      )

-- What follows shows that the end of a wait does not depend on the book: by the rules r what a state stands for, as `seen` gives it, may end in the same
-- window and wait until the same moment beside each book.

module _ {X S : Type 0} (seen : Texts → S → X) (r : MachineRules X) (window_same : (a b : Texts) (x : S) → r.window (seen a x) ≡ r.window (seen b x))
    (until_same : (a b : Texts) (x : S) → r.until (seen a x) ≡ r.until (seen b x)) where
  -- where some state comes of a wait beside one book, some state comes of it beside the other
  -- a and b are the books, h is the moment of the states, and y a state of the rules at the moment m
  some_wait : (a b : Texts) (states : List S) (h m : ℕ) → ((y : X) × Wait r (Contains (map (seen a) states)) h m y) → (y : X) × Wait r (Contains (map (seen b) states)) h m y
  some_wait a b states h m (y, wait) = go wait
    where
      -- the run waits on by the other book, whether it stays or ends
      go : Wait r (Contains (map (seen a) states)) h m y → (y : X) × Wait r (Contains (map (seen b) states)) h m y
      go (inl stays) =
          -- the state stays: it can be waited in until the same moment beside both books
          let (x, among, is) = Contains-from_map (seen a) states y stays.among in (
            seen b x,
            inl (record {
              among = Contains-map (seen b) states x among;
              reached = stays.reached;
              waits = subst (IsWithin m) (ap r.until (sym is) ∙ until_same a b x) stays.waits;
            }),
          )
      -- the state ends within its window, which is the same beside both books
      go (inr ends) =
          let (x, among, is) = Contains-from_map (seen a) states ends.start ends.among in (
            r.ended,
            inr (record {
              start = seen b x;
              among = Contains-map (seen b) states x among;
              -- it ends at the same moment, in the same window
              at = ends.at;
              after = ends.after;
              before = ends.before;
              hides = record {
                opened = subst (IsOpenAt ends.at) (ap r.window (sym is) ∙ window_same a b x) ends.hides.opened;
                waited = subst (IsWithin ends.at) (ap r.until (sym is) ∙ until_same a b x) ends.hides.waited;
                gives = refl;
              };
            }),
          )

  -- a last moment beside one book is one beside the other
  pub agenda_any : (a b : Texts) (states : List S) (h : ℕ) (limit : Option ℕ) → IsAgenda r (Contains (map (seen a) states)) h limit → IsAgenda r (Contains (map (seen b) states)) h limit
  agenda_any a b states h limit agenda m low = (λ some. (agenda m low).0 (some_wait b a states h m some), λ within. some_wait a b states h m ((agenda m low).1 within))

-- until when a wait from a set can last is the same after the set has waited
pub agenda_waited : {X S : Type 0} (names : S → List ℕ) (InRange : S → Type 0) (seen : Texts → S → X) (texts : Texts) (r : MachineRules X) → IsLawful r → (at moment : ℕ) (old new : List S) → at ≤ moment
    → StandFor names InRange seen texts (Wait r (Contains (map (seen texts) old)) at moment) new → (limit : Option ℕ) → IsAgenda r (Contains (map (seen texts) old)) at limit
    → IsAgenda r (Contains (map (seen texts) new)) moment limit
agenda_waited {X} names InRange seen texts r lawful at moment old new low stand limit agenda n later =
    -- to wait until the moment and then until n is to wait until n
    let same : (x : X) → Wait r (Contains (map (seen texts) new)) moment n x ↔ Wait r (Contains (map (seen texts) old)) at n x = λ x.
    iff_trans (Wait-iff r (Contains (map (seen texts) new)) (Wait r (Contains (map (seen texts) old)) at moment) stand.members moment n x) (Wait-twice r lawful (Contains (map (seen texts) old)) at moment n low later x) in
    let lasts = agenda n (omega (arith, low, later)) in
    (λ some. lasts.0 (some.0, (same some.0).0 some.1), λ within. let some = lasts.1 within in (some.0, (same some.0).1 some.1))

-- the timers of a state do not depend on the book
window_of : (machine : MachineKind) (p : Times) (a b : Texts) (x : CodeOwingOf machine) → ((meaning_of machine).rules p).window ((meaning_of machine).seen a x) ≡ ((meaning_of machine).rules p).window ((meaning_of machine).seen b x)
window_of machine p a b x = window_same (transaction_of machine).figure (coded_of machine).seen a b p x ((coded_holds machine).window_same a b p x.phase)

-- until when a state can be waited in does not depend on the book
until_of : (machine : MachineKind) (p : Times) (a b : Texts) (x : CodeOwingOf machine) → ((meaning_of machine).rules p).until ((meaning_of machine).seen a x) ≡ ((meaning_of machine).rules p).until ((meaning_of machine).seen b x)
until_of machine p a b x = until_same (transaction_of machine).figure (coded_of machine).seen a b p x ((coded_holds machine).closes_same a b p x.phase)

-- where a last moment is on record of a set, it is that of the set after a sweep
-- the set was not made to wait, and is as it was; or it has waited
pub swept_agenda : (texts : Texts) → IsBook texts → (moment : ℕ) (old new : AnySet) → moment_of old ≤ moment → IsAdvanced moment old new
    → IsKnownSet texts old → (limit : Option ℕ) → IsAgendaOf limit old → IsAgendaOf limit new
swept_agenda texts book moment old new low (inr (same, silent)) known limit agenda = subst (IsAgendaOf limit) (sym same) agenda
swept_agenda texts book moment old new low (inl waits) known limit agenda =
    let (machine, s, is) = some_machine old in
    -- the set s has waited until the moment, and t is what it has become
    let m = meaning_of machine in
    let known_s = of_set (λ X M S m s. IsKnown m texts s) machine s (subst (IsKnownSet texts) is known) in
    let (t, new_is, waited) = of_sets (λ X M S m s u. HasWaited m moment s u) machine s new (subst (λ o. SetWaits moment o new) is waits) in
    let not_later : s.moment ≤ moment = subst (λ n. n ≤ moment) (ap moment_of is ∙ moment_is machine s) low in
    -- the states of t stand for those in which a wait from s ends; the last moment was right of s, and so it is right of t, beside this book and any other
    let r = m.rules s.machine in
    let stand = waited.states texts book known_s in
    let was : IsAgenda r (Contains (map (m.seen texts) s.states)) s.moment limit = of_set (λ X M S m s. HasAgenda m limit s) machine s (subst (IsAgendaOf limit) is agenda) texts in
    let now : IsAgenda r (Contains (map (m.seen texts) t.states)) moment limit = agenda_waited m.names m.in_range m.seen texts r (lawful_of machine s.machine) s.moment moment s.states t.states not_later stand limit was in
    subst (IsAgendaOf limit) (sym new_is) (to_set (λ X M S m s. HasAgenda m limit s) machine t (λ other.
    subst (λ q. IsAgenda (m.rules q) (Contains (map (m.seen other) t.states)) t.moment limit) (sym waited.machine)
    (subst (λ n. IsAgenda r (Contains (map (m.seen other) t.states)) n limit) (sym waited.at)
    (agenda_any m.seen r (window_of machine s.machine) (until_of machine s.machine) texts other t.states moment limit now))))
