-- Where no set names the newest message, it can be dropped: the sets name kept messages still, and lead and stand as before.
-- In the lemmas n is the number of a message or the place of a set, s a set of a machine, and t and u are the tables before and after.
use Rattle.std.proofs.Common.{◌≡◌, ◌<◌, ◌+◌, ◌-◌, ◌⊎◌, inl, inr, ℕ, Bool, true, false, Option, Some, None, List, [], ◌∷◌, ◌++◌, All, Contains, get_or, slice_get, refl, sym, ap, ◌∙◌, subst, arith}
use Rattle.std.specs.List.{flat_map}
use Rattle.std.proofs.lemmas.Bool.{false≢true}
use Rattle.std.proofs.lemmas.Bool.Decides.{eqb_tells}
use Rattle.std.proofs.lemmas.List.Elements.{All-contains, All-head, All-tail, All-weaker, Contains-append_left, Contains-get_or}
use Rattle.sip_standard.specs.Key.{KeyParts}
use Rattle.sip_standard.specs.Times.{Times}
use Rattle.sip_standard.specs.MachineEvent.{MachineEvent}
use Rattle.sip_standard.specs.KeyMachine.{MachineKind, machine_of_key, transaction_of}
use Rattle.sip_standard.specs.Observation.{Observation}
use Rattle.sip_machine.specs.Texts.{Texts, Keeps, text_of}
use Rattle.sip_machine.specs.Rules.{Knows}
use Rattle.sip_machine.proofs.rules.RuleLaws.{AgreeOn, StandFor-book}
use Rattle.sip_machine.proofs.texts.TextLaws.{Keeps-grow, Keeps-grow_cases, text_of-grow}
use Rattle.sip_states.specs.inner.KeySets.{CodeOwingOf, set_of, meaning_of}
use Rattle.sip_standard.specs.Stands.{Stands, StandsAfter}
use Rattle.sip_states.specs.Held.{Held}
use Rattle.sip_states.specs.Meaning.{IsKnown}
use Rattle.sip_states.specs.AnySet.{IsKnownSet}
use Rattle.sip_states.specs.Sweep.{numbers_of}
use Rattle.sip_states.specs.Tables.{Tabled}
use Rattle.sip_states.specs.declared.any_set.AnySet.{AnySet}
use Rattle.sip_states.proofs.keyed.ByMachine.{seen_by_names_of, some_machine, numbers_are, of_set, to_set}
use Rattle.sip_standard.specs.VerdictOf.{events_for}
use Rattle.sip_verdict.specs.Entries.{newest_moment}
use Rattle.sip_verdict.specs.inner.Concerned.{each, is_all}
use Rattle.sip_verdict.specs.inner.Tracking.{IsReady, IsStanding, IsJudged}
use Rattle.sip_verdict.specs.inner.TablesTracking.{LeadsOf, StandsOf, key_keeping, transactions_of, is_among, concerns_number, LeavesOthers, OthersAre, NamesNot, DropsUnnamed, MayTake}
use Rattle.sip_verdict.specs.declared.concerned.Concerned.{Concerned}
use Rattle.sip_verdict.specs.declared.passing.Hearing.{Hearing}
use Rattle.sip_verdict.proofs.keys.Leading.{Leads-book}
use Rattle.sip_states.proofs.keyed.NamesLemmas.{Contains-flat_map, Contains-from_flat_map}
use Rattle.sip_verdict.proofs.sweeps.SweptBook.{same_within}
use Rattle.sip_verdict.proofs.tables.TablesPassing.{All-place, All-places, place-zip, among_one}

-- a set that an event does not concern has only messages that were kept before it
pub others_known : (texts : Texts) (concerned : Concerned ℕ) (hearing : Option Hearing) (t u : Tabled) → All (IsKnownSet texts) t.sets → LeavesOthers hearing t u
    → ((n : ℕ) → is_all concerned ≡ false → is_among (each concerned) n ≡ false → concerns_number hearing n ≡ false) → OthersAre (IsKnownSet texts) concerned u
others_known texts concerned hearing t u known leaves apart some n set among at =
    All-place (IsKnownSet texts) t.sets n set (sym (leaves n (apart (n + 1) some among)) ∙ at) known

-- a set names no message whose number is above all that are kept
pub known_unnamed : (texts : Texts) (number : ℕ) → ((n : ℕ) → Keeps texts n → n < number) → (set : AnySet) → IsKnownSet texts set → ¬ Contains (numbers_of set) number
known_unnamed texts number below set known has =
    -- s is the set as one of its machine: x would be a state of it that names the number, which the book would keep, so that it would be below itself
    let (machine, s, is) = some_machine set in
    let names = (meaning_of machine).names in
    let (x, among, named) = Contains-from_flat_map names s.states number (subst (λ ns. Contains ns number) (ap numbers_of is ∙ numbers_are machine s) has) in
    let knows = of_set (λ X M S m s. IsKnown m texts s) machine s (subst (IsKnownSet texts) is known) in
    let low = below number (All-contains (Keeps texts) (names x) number (All-contains (Knows names texts) s.states x knows among) named) in
    omega (arith, low)

-- What follows is of the newest message of a book, by its number and its bytes, which is dropped: `new` are the texts without it.
module _ (number : ℕ) (bytes : List ℕ) (new : Texts) where
  -- the texts with the newest message, which is dropped
  abbrev old : Texts
  old = new ++ (number, bytes) ∷ []

  -- a state of a set of this machine that does not name the dropped message names only messages that are kept still
  agree : (machine : MachineKind) (s : Held Times (CodeOwingOf machine)) → ((n : ℕ) → Contains (flat_map (meaning_of machine).names s.states) n → n ≡ number → ⊥) → All (Knows (meaning_of machine).names old) s.states
      → All (AgreeOn (meaning_of machine).names old new) s.states
  agree machine s unnamed knows k d low n has =
      let names = (meaning_of machine).names in
      let x = get_or s.states k d in
      -- x is the state at the place k, and the old book keeps the message n that it names
      let kept = All-contains (Keeps old) (names x) n (knows k d low) has in
      go (Keeps-grow_cases new number bytes n kept)
    where
      -- the book without the dropped message keeps each that is named, with the same text: it is not the dropped one
      go : Keeps new n ⊎ (number ≡ n) → Keeps new n × (text_of old n ≡ text_of new n)
      go (inl keeps) = (keeps, text_of-grow new number bytes n keeps)
      go (inr same) = absurd (unnamed n (Contains-flat_map (meaning_of machine).names s.states (get_or s.states k d) n (Contains-get_or s.states k d low) has) (sym same))

  -- a set of this machine that does not name the dropped message has only states that do not name it
  unnamed_of : (machine : MachineKind) (s : Held Times (CodeOwingOf machine)) (set : AnySet) → set ≡ set_of machine s → ¬ Contains (numbers_of set) number
      → (n : ℕ) → Contains (flat_map (meaning_of machine).names s.states) n → n ≡ number → ⊥
  unnamed_of machine s set is unnamed n has same =
      unnamed (subst (λ ns. Contains ns number) (sym (ap numbers_of is ∙ numbers_are machine s)) (subst (Contains (flat_map (meaning_of machine).names s.states)) same has))

  -- a set that does not name the dropped message names only messages that are kept still
  pub unnamed_known : (set : AnySet) → ¬ Contains (numbers_of set) number → IsKnownSet old set → IsKnownSet new set
  unnamed_known set unnamed known =
      -- s is the set as one of its machine: both books have what each of its states names
      let (machine, s, is) = some_machine set in
      let m = meaning_of machine in
      let knows = of_set (λ X M S m s. IsKnown m old s) machine s (subst (IsKnownSet old) is known) in
      let agrees = agree machine s (unnamed_of machine s set is unnamed) knows in
      subst (IsKnownSet new) (sym is) (to_set (λ X M S m s. IsKnown m new s) machine s
      (All-weaker (AgreeOn m.names old new) (Knows m.names new) (λ x at k d low. (at (get_or (m.names x) k d) (Contains-get_or (m.names x) k d low)).0) s.states agrees))

  -- a set that does not name the dropped message leads to the same runs without it
  pub unnamed_leads : (p : Times) (machine : MachineKind) (events : List MachineEvent) (from : ℕ) (set : AnySet) → ¬ Contains (numbers_of set) number → LeadsOf old p machine events from set → LeadsOf new p machine events from set
  unnamed_leads p machine events from set unnamed (s, is, leads) =
      let m = meaning_of machine in (
        s,
        is,
        record {
          -- the set has the same machine, and its states stand for the same without the message
          machine_is = leads.machine_is;
          leads = Leads-book m.names m.seen (seen_by_names_of machine) old new (m.rules p) (Stands (transaction_of machine).figure p events) from s.moment s.states (agree machine s (unnamed_of machine s set is unnamed) leads.leads.known) leads.leads;
        },
      )

  -- a set that does not name the dropped message stands for the same last states without it
  pub unnamed_stands : (p : Times) (machine : MachineKind) (events : List MachineEvent) (e : MachineEvent) (set : AnySet) → ¬ Contains (numbers_of set) number → StandsOf old p machine events e set → StandsOf new p machine events e set
  unnamed_stands p machine events e set unnamed (s, is, stand) =
      let m = meaning_of machine in (
        s,
        is,
        StandFor-book m.names m.in_range m.seen (seen_by_names_of machine) old new (StandsAfter (transaction_of machine).figure p events e) s.states (agree machine s (unnamed_of machine s set is unnamed) stand.known) stand,
      )

  -- What follows is of the tables t, none of whose sets names the dropped message, each set beside its key.
  module _ (p : Times) (es : List (Observation KeyParts)) (t : Tabled) (unnamed : All (λ set. ¬ Contains (numbers_of set) number) t.sets) where
    -- the set at a place does not name the message
    unnamed_at : (n : ℕ) (x : KeyParts × AnySet) → slice_get (transactions_of t) n ≡ Some x → ¬ Contains (numbers_of x.1) number
    unnamed_at n x at = All-place (λ set. ¬ Contains (numbers_of set) number) t.sets n x.1 (place-zip t.keys t.sets n x at).1 unnamed

    -- each set leads to the same runs beside the book without the message
    unnamed_ready : All (IsReady (key_keeping old p) es) (transactions_of t) → All (IsReady (key_keeping new p) es) (transactions_of t)
    unnamed_ready ready = All-places (IsReady (key_keeping new p) es) (transactions_of t) (λ n x at.
        unnamed_leads p (machine_of_key p.rules x.0) (events_for x.0 es) (newest_moment es) x.1 (unnamed_at n x at) (All-place (IsReady (key_keeping old p) es) (transactions_of t) n x at ready))

    -- each set stands for the same last states beside the book without the message
    unnamed_standing : (e : Observation KeyParts) → All (IsStanding (key_keeping old p) es e) (transactions_of t) → All (IsStanding (key_keeping new p) es e) (transactions_of t)
    unnamed_standing e stand = All-places (IsStanding (key_keeping new p) es e) (transactions_of t) (λ n x at concerned.
        unnamed_stands p (machine_of_key p.rules x.0) (events_for x.0 es) e.event x.1 (unnamed_at n x at)
        (All-place (IsStanding (key_keeping old p) es e) (transactions_of t) n x at stand concerned))

-- an entry in no trouble is judged as before, where a message that no set names was dropped after it
pub dropped_judged : (number : ℕ) (texts_before new : Texts) (p : Times) (es : List (Observation KeyParts)) (e : Observation KeyParts) (t : Tabled) → DropsUnnamed t.sets number texts_before new
    → IsJudged p (key_keeping texts_before p) es e (transactions_of t) None → IsJudged p (key_keeping new p) es e (transactions_of t) None
dropped_judged number texts_before new p es e t (inl same) judged = subst (λ texts. IsJudged p (key_keeping texts p) es e (transactions_of t) None) (sym same) judged
dropped_judged number texts_before new p es e t (inr (bytes, is, unnamed)) judged =
    let before = subst (λ texts. IsJudged p (key_keeping texts p) es e (transactions_of t) None) is judged in (
      record { keys = before.0.keys; ready = unnamed_ready number bytes new p (es ++ e ∷ []) t unnamed before.0.ready; good = before.0.good },
      unnamed_standing number bytes new p es t unnamed e before.1,
    )

-- the next entry may be taken as before, where a message that no set names was dropped
pub dropped_take : (number : ℕ) (texts_before new : Texts) (t : Tabled) (next moment : ℕ) → DropsUnnamed t.sets number texts_before new → MayTake texts_before t next moment → MayTake new t next moment
dropped_take number texts_before new t next moment (inl same) may = subst (λ texts. MayTake texts t next moment) (sym same) may
dropped_take number texts_before new t next moment (inr (bytes, is, unnamed)) may =
    let before = subst (λ texts. MayTake texts t next moment) is may in
    -- no set names the message, so the book has still all that they name
    record {
      passes = record {
        order = before.passes.order;
        known = λ k d low. unnamed_known number bytes new (get_or t.sets k d) (unnamed k d low) (before.passes.known k d low);
        long = before.passes.long;
      };
      recorded = before.recorded;
      -- the numbers of the book were there before
      numbered = λ n keeps. before.numbered n (Keeps-grow new number bytes n keeps);
      some = λ n keeps. before.some n (Keeps-grow new number bytes n keeps);
      few = before.few;
    }

-- where the newest message was dropped, or none was, each message that is left was kept before
pub dropped_within : (sets : List AnySet) (number : ℕ) (texts_before new : Texts) → DropsUnnamed sets number texts_before new → All (Contains texts_before) new
dropped_within sets number texts_before new (inl same) = same_within texts_before new same
dropped_within sets number texts_before new (inr (bytes, is, unnamed)) = λ k d low.
    subst (λ texts. Contains texts (get_or new k d)) (sym is) (Contains-append_left new ((number, bytes) ∷ []) (get_or new k d) (Contains-get_or new k d low))

-- where none of the transactions with these numbers names a message, none of their sets does
-- an empty list has no number; a set is that of the first number, or of one of the others
these_unnamed : (message : ℕ) (t : Tabled) (numbers : List ℕ) → All (NamesNot t message) numbers → (n : ℕ) (set : AnySet) → is_among numbers (n + 1) ≡ true → slice_get t.sets n ≡ Some set
    → ¬ Contains (numbers_of set) message
these_unnamed message t [] none n set among at = absurd (false≢true among)
these_unnamed message t (m ∷ ms) none n set among at =
    elim (eqb_tells (n + 1) m) [
      | inl same ↦
          let here : n ≡ m - 1 = omega (arith, same.1) in
          All-head (NamesNot t message) m ms none set (subst (λ k. slice_get t.sets k ≡ Some set) here at)
      | inr other ↦ these_unnamed message t ms (All-tail (NamesNot t message) m ms none) n set (among_one (n + 1) m ms among other.1) at
    ]

-- a transaction whose set does not name a message does not name it
pub names_not : (message number : ℕ) (t : Tabled) (set : AnySet) → slice_get t.sets (number - 1) ≡ Some set → ¬ Contains (numbers_of set) message → NamesNot t message number
names_not message number t set at none other is =
    let same : Some set ≡ Some other = sym at ∙ is in
    let one : set ≡ other = cc in
    subst (λ s. ¬ Contains (numbers_of s) message) one none

-- where no set but those of the entry's transactions names the message, and none of the entry's does, no set names it
pub all_unnamed : (number : ℕ) (concerned : Concerned ℕ) (t : Tabled) → is_all concerned ≡ false → OthersAre (λ set. ¬ Contains (numbers_of set) number) concerned t
    → All (NamesNot t number) (each concerned)
    → All (λ set. ¬ Contains (numbers_of set) number) t.sets
all_unnamed number concerned t some others these = All-places (λ set. ¬ Contains (numbers_of set) number) t.sets (λ n set at. go n set at (is_among (each concerned) (n + 1)) refl)
  where
    -- no set names the message, whether or not it is of a transaction that the entry concerns
    go : (n : ℕ) (set : AnySet) → slice_get t.sets n ≡ Some set → (b : Bool) → is_among (each concerned) (n + 1) ≡ b → ¬ Contains (numbers_of set) number
    go n set at true among = these_unnamed number t (each concerned) these n set among at
    go n set at false among = others some n set among at
