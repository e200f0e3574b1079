-- What one entry leaves of a key whose set leads to its runs.
-- In the lemmas es is what was observed of the entries before e, q are any times, and fs and gs are events.
use Rattle.std.proofs.Common.{◌≡◌, ◌≤◌, ℕ, true, false, Option, Some, List, [], ◌∷◌, ◌++◌, sym, subst}
use Rattle.sip_standard.specs.declared.action.Action.TheVariants.{Restart}
use Rattle.sip_standard.specs.Key.{KeyParts}
use Rattle.sip_standard.specs.Times.{Times}
use Rattle.sip_machine.specs.Texts.{Texts}
use Rattle.sip_machine.specs.NumberedEvent.{NumberedEvent, event_in}
use Rattle.sip_standard.specs.MachineEvent.{MachineEvent}
use Rattle.sip_standard.specs.KeyMachine.{MachineKind, machine_of_key}
use Rattle.sip_states.specs.Agenda.{is_overdue}
use Rattle.sip_states.specs.AnySet.{moment_of, IsQuietSet, IsAgendaOf}
use Rattle.sip_states.specs.declared.any_set.AnySet.{AnySet}
use Rattle.sip_verdict.specs.declared.passing.Outcome.{Outcome}
use Rattle.sip_verdict.specs.declared.passing.Outcome.TheVariants as all
use Rattle.sip_standard.specs.Observation.{Observation}
use Rattle.sip_standard.specs.VerdictOf.{events_for, RunsOver}
use Rattle.sip_verdict.specs.Entries.{concerns, newest_moment}
use Rattle.sip_verdict.specs.inner.Stepping.{IsStepped}
use Rattle.sip_verdict.specs.inner.Tracking.{Keeping, IsReady, GoesOn, IsPassed}
use Rattle.sip_verdict.specs.inner.TablesTracking.{LeadsOf, StandsOf, key_keeping}
use Rattle.sip_verdict.proofs.keys.Overdue.{overdue_none, in_time_some}
use Rattle.sip_verdict.proofs.keys.QuietSets.{leads_later, quiet_stepped}
use Rattle.sip_verdict.proofs.keys.Stepped.{own_passed, other_passed, run_still}

-- What follows is of one transaction, whose set s is ready for the entry e.
module _ (texts : Texts) (p : Times) (es : List (Observation KeyParts)) (e : Observation KeyParts) (key : KeyParts) (s : AnySet)
    (ready : IsReady (key_keeping texts p) es (key, s)) (late : newest_moment es ≤ e.event.moment) where
  -- what is kept of each key: its set, beside these texts
  abbrev k : Keeping (KeyParts × AnySet)
  k = key_keeping texts p

  -- the machine of the key
  abbrev machine : MachineKind
  machine = machine_of_key p.rules key

  -- the events of the key in the entries
  abbrev events : List MachineEvent
  events = events_for key es

  -- what an event leaves of the runs of the key, where `after` is its set then
  abbrev Steps : MachineEvent → AnySet → Outcome → Type 0
  Steps f after outcome = IsStepped p machine events f (λ fs. LeadsOf texts p machine fs f.moment after) (λ g. StandsOf texts p machine events g after) outcome

  -- where the set has heard the entry's event, what the event leaves of the set's runs is what the entry leaves of the key's
  -- `stepped` says so of the set beside any times, machine and events to which it leads
  pub heard_left : (event : NumberedEvent) → e.event ≡ event_in texts event → concerns key e ≡ true → (after : AnySet) (outcome : Outcome)
      → ((q : Times) (kind : MachineKind) (fs : List MachineEvent) (from : ℕ) → from ≤ event.moment → LeadsOf texts q kind fs from s
      → IsStepped q kind fs (event_in texts event) (λ gs. LeadsOf texts q kind gs event.moment after) (λ g. StandsOf texts q kind fs g after) outcome)
      → IsPassed p k es e (key, after) outcome
  heard_left event is concerned after outcome stepped =
      own_passed p k es e (key, after) concerned outcome
      (subst (λ f. Steps f after outcome) (sym is) (stepped p machine events (newest_moment es) (subst (λ f. newest_moment es ≤ f.moment) is late) ready))

  -- What follows is of an entry that is not before the moment of the set.
  module _ (low : moment_of s ≤ e.event.moment) where
    -- where the last moment of the set is past at the entry, the key has no run over it
    pub overdue_breaks : (limit : Option ℕ) → IsAgendaOf limit s → is_overdue e.event.moment (Some limit) ≡ true → ¬ RunsOver p (es ++ e ∷ []) key
    overdue_breaks limit agenda past run =
        overdue_none texts p machine events (newest_moment es) s ready limit agenda e.event.moment late low past (run_still p k es e (key, s) run)

    -- where the last moment of the set is not past at an entry that does not concern the key, the key goes on over it
    pub in_time_goes : (limit : Option ℕ) → IsAgendaOf limit s → is_overdue e.event.moment (Some limit) ≡ false → concerns key e ≡ false → GoesOn p k es e (key, s)
    in_time_goes limit agenda in_time apart =
        other_passed p k es e (key, s) apart (in_time_some texts p machine events (newest_moment es) s ready limit agenda e.event.moment late low in_time)
        (leads_later texts p machine events (newest_moment es) e.event.moment s late ready)

    -- a key with a quiet set goes on over a restart, and its set stays as it is
    pub quiet_goes : (event : NumberedEvent) → e.event ≡ event_in texts event → event.action ≡ Restart → IsQuietSet s → concerns key e ≡ true → GoesOn p k es e (key, s)
    quiet_goes event is restart quiet concerned =
        own_passed p k es e (key, s) concerned all.Fine
        (subst (λ f. Steps f s all.Fine) (sym is)
        (quiet_stepped texts p machine events (newest_moment es) s ready quiet event restart (subst (λ f. newest_moment es ≤ f.moment) is late) (subst (λ f. moment_of s ≤ f.moment) is low)))
