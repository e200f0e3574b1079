-- What an event leaves of the runs of a transaction of any machine.
-- In the proofs o is the old set and n the new one, each as a set of its machine, and m is what the states of the machine mean.
use Rattle.std.proofs.Common.{◌≡◌, ◌≢◌, ◌≤◌, ℕ, List, [], ◌∷◌, ◌++◌, sym, ap, ◌∙◌, subst}
use Rattle.sip_standard.specs.Times.{Times}
use Rattle.sip_machine.specs.Texts.{Texts}
use Rattle.sip_machine.specs.NumberedEvent.{NumberedEvent, event_in}
use Rattle.sip_standard.specs.MachineEvent.{MachineEvent}
use Rattle.sip_standard.specs.VerdictOf.{IsWide}
use Rattle.sip_standard.specs.Stands.{Stands, StandsAfter}
use Rattle.sip_states.specs.Held.{Held}
use Rattle.sip_standard.specs.KeyMachine.{MachineKind, transaction_of}
use Rattle.sip_states.specs.inner.KeySets.{CodeOwingOf, set_of, meaning_of}
use Rattle.sip_states.specs.KeyRules.{OwingOf}
use Rattle.sip_states.specs.Meaning.{IsKnown, Given, HasTaken}
use Rattle.sip_states.specs.AnySet.{moment_of, IsEmpty, IsKnownSet, SetTakes, IsSetTooWide}
use Rattle.sip_states.specs.declared.any_set.AnySet.{AnySet}
use Rattle.sip_verdict.specs.declared.passing.Outcome.TheVariants as all
use Rattle.sip_verdict.specs.inner.Stepping.{RunsUntil, IsStepped}
use Rattle.sip_verdict.specs.inner.TablesTracking.{LeadsOf, StandsOf}
use Rattle.sip_verdict.proofs.keys.Hearing.{heard_none, heard_some, heard_wide}
use Rattle.sip_verdict.proofs.keys.RunsStand.{stands_next, stands_given}
use Rattle.sip_states.proofs.keyed.ByMachine.{lawful_of, moment_is, some_machine, of_set, to_set, of_sets}

-- the set that is left after an event is a set of the same machine
after_event : (texts : Texts) (e : NumberedEvent) (machine : MachineKind) (s : Held Times (CodeOwingOf machine)) (old new : AnySet) → old ≡ set_of machine s → SetTakes texts e old new
    → (t : Held Times (CodeOwingOf machine)) × (new ≡ set_of machine t) × HasTaken (meaning_of machine) texts e s t
after_event texts e machine s old new is takes = of_sets (λ X M S m a b. HasTaken m texts e a b) machine s new (subst (λ set. SetTakes texts e set new) is takes)

-- an event leaves a set that names only messages that the book keeps
pub takes_known : (texts : Texts) (e : NumberedEvent) (old new : AnySet) → SetTakes texts e old new → IsKnownSet texts new
takes_known texts e old new takes =
    let o = some_machine old in
    let n = after_event texts e o.0 o.1 old new o.2 takes in
    subst (IsKnownSet texts) (sym n.1) (to_set (λ X M S m s. IsKnown m texts s) o.0 n.0 n.2.states.known)

-- a set of a machine is empty where it has no state
none_of : (machine : MachineKind) (t : Held Times (CodeOwingOf machine)) (new : AnySet) → new ≡ set_of machine t → IsEmpty new → t.states ≡ []
none_of machine t new is none = of_set (λ X M S m s. s.states ≡ []) machine t (subst IsEmpty is none)

-- a set of a machine that is not empty has a state
some_of : (machine : MachineKind) (t : Held Times (CodeOwingOf machine)) (new : AnySet) → new ≡ set_of machine t → ¬ IsEmpty new → t.states ≢ []
some_of machine t new is some none = some (subst IsEmpty (sym is) (to_set (λ X M S m s. s.states ≡ []) machine t none))

-- What follows is of one transaction: `old` is its set, which leads to its runs over the events, and `new` its set after one event more.
module _ (texts : Texts) (p : Times) (machine : MachineKind) (events : List MachineEvent) (from : ℕ) (old new : AnySet) (leads : LeadsOf texts p machine events from old) where
  -- the moment of the states of the old set is not after the event
  low_of : (moment : ℕ) → moment_of old ≤ moment → leads.0.moment ≤ moment
  low_of moment low = subst (λ m. m ≤ moment) (ap moment_of leads.1 ∙ moment_is machine leads.0) low

  -- What follows is of e, an event that the transaction hears at the moment of the set or later.
  module _ (e : NumberedEvent) (late : from ≤ e.moment) (low : moment_of old ≤ e.moment) where
    -- the event as the definitions have it
    abbrev f : MachineEvent
    f = event_in texts e

    -- where e leads from where the runs over the events stand at its moment
    abbrev After : OwingOf machine → Type 0
    After = StandsAfter (transaction_of machine).figure p events f

    -- where the runs over the events and e stand
    abbrev Next : ℕ → OwingOf machine → Type 0
    Next = Stands (transaction_of machine).figure p (events ++ f ∷ [])

    -- where no state is left, no run takes the event
    pub hears_none : SetTakes texts e old new → IsEmpty new → ¬ RunsUntil p machine (events ++ event_in texts e ∷ []) e.moment
    hears_none takes none =
        let n = after_event texts e machine leads.0 old new leads.1 takes in
        let m = meaning_of machine in
        heard_none m.names m.in_range m.seen m.rules (lawful_of machine) texts p (Stands (transaction_of machine).figure p events) from leads.0 n.0 leads.2 f After Next (stands_given p machine events f) (stands_next p machine events f)
        late (low_of e.moment low) n.2.states (none_of machine n.0 new n.1 none)

    -- where states are left, and not too many, the runs go on
    pub hears_some : SetTakes texts e old new → ¬ IsEmpty new → IsStepped p machine events (event_in texts e) (λ es. LeadsOf texts p machine es e.moment new) (λ g. StandsOf texts p machine events g new) all.Fine
    hears_some takes some =
        -- n.0 are the states after the event, as those of the machine; m is what the machine means, and h says how its runs go on
        let n = after_event texts e machine leads.0 old new leads.1 takes in
        let m = meaning_of machine in
        let h = heard_some m.names m.in_range m.seen m.rules (lawful_of machine) texts p (Stands (transaction_of machine).figure p events) from leads.0 n.0 leads.2 f After Next (stands_given p machine events f)
        (stands_next p machine events f) late (low_of e.moment low) n.2.states n.2.machine n.2.at (some_of machine n.0 new n.1 some) n.2.few in
        (h.0, h.1, (n.0, n.1, h.2), (n.0, n.1, h.3))

    -- where too many states come out, there is a run over the event, and the last states are too many
    pub hears_wide : IsSetTooWide texts e old → RunsUntil p machine (events ++ event_in texts e ∷ []) e.moment × IsWide (StandsAfter (transaction_of machine).figure p events (event_in texts e))
    hears_wide wide =
        let m = meaning_of machine in
        heard_wide m.names m.in_range m.seen m.rules (lawful_of machine) texts p (Stands (transaction_of machine).figure p events) from leads.0 leads.0 leads.2 f After Next (stands_given p machine events f)
        (stands_next p machine events f) late (low_of e.moment low)
        (of_set (λ X M S m s. IsWide (Given m texts s e)) machine leads.0 (subst (IsSetTooWide texts e) leads.1 wide))
