-- What an event leaves of the runs of a transaction is what its entry leaves of the key.
use Rattle.std.proofs.Common.{◌≡◌, Bool, true, false, List, [], ◌∷◌, ◌++◌, refl, sym, ◌∙◌, subst}
use Rattle.std.proofs.lemmas.Bool.{false≢true}
use Rattle.sip_standard.specs.Key.{KeyParts}
use Rattle.sip_standard.specs.Times.{Times}
use Rattle.sip_standard.specs.MachineEvent.{MachineEvent}
use Rattle.sip_standard.specs.KeyMachine.{MachineKind, machine_of_key}
use Rattle.sip_verdict.specs.declared.passing.Outcome.{Outcome}
use Rattle.sip_verdict.specs.declared.passing.Outcome.TheVariants as all
use Rattle.sip_standard.specs.Observation.{Observation}
use Rattle.sip_standard.specs.VerdictOf.{events_for, RunsOver}
use Rattle.sip_verdict.specs.Entries.{concerns}
use Rattle.sip_verdict.specs.inner.Stepping.{RunsUntil, IsStepped}
use Rattle.sip_verdict.specs.inner.Tracking.{Keeping, GoesOn, IsPassed}
use Rattle.sip_verdict.proofs.keys.Keys.{events_for-concerned, events_for-other, newest_moment-push}
use Rattle.sip_verdict.proofs.keys.Overdue.{run_before}

-- What follows is of one transaction t, of which k says what is kept, and the entry e after the entries es.
module _ {T : Type 0} (p : Times) (k : Keeping T) (es : List (Observation KeyParts)) (e : Observation KeyParts) (t : T) where
  -- the machine of the transaction's key
  abbrev machine : MachineKind
  machine = machine_of_key p.rules (k.key t)

  -- where a run over the key's events stands at the moment of e, the key has a run over the entries and e
  runs_key : (events : List MachineEvent) → events_for (k.key t) (es ++ e ∷ []) ≡ events → RunsUntil p machine events e.event.moment → RunsOver p (es ++ e ∷ []) (k.key t)
  runs_key events at run =
      subst (λ now. RunsUntil p machine (events_for (k.key t) (es ++ e ∷ [])) now) (sym (newest_moment-push es e)) (subst (λ fs. RunsUntil p machine fs e.event.moment) (sym at) run)

  -- where the key has a run over the entries and e, a run over its events stands at the moment of e
  key_runs : (events : List MachineEvent) → events_for (k.key t) (es ++ e ∷ []) ≡ events → RunsOver p (es ++ e ∷ []) (k.key t) → RunsUntil p machine events e.event.moment
  key_runs events at run =
      subst (λ fs. RunsUntil p machine fs e.event.moment) at (subst (λ now. RunsUntil p machine (events_for (k.key t) (es ++ e ∷ [])) now) (newest_moment-push es e) run)

  -- What follows is of an entry e that concerns the key.
  module _ (concerned : concerns (k.key t) e ≡ true) where
    -- the events of the key are those before and that of e
    own : events_for (k.key t) (es ++ e ∷ []) ≡ events_for (k.key t) es ++ e.event ∷ []
    own = events_for-concerned (k.key t) es e concerned

    -- what the event of e leaves of the runs of the key's machine is what e leaves of the key
    pub own_passed : (outcome : Outcome) → IsStepped p machine (events_for (k.key t) es) e.event (λ fs. k.Leads t fs e.event.moment) (k.Stands t (events_for (k.key t) es)) outcome → IsPassed p k es e t outcome
    -- some state is left, and not too many
    own_passed all.Fine h = record {
      runs = runs_key _ own h.0;
      narrow = λ wide. h.1 wide.1;
      ready = subst (k.Leads t (events_for (k.key t) (es ++ e ∷ []))) (sym (newest_moment-push es e)) (subst (λ fs. k.Leads t fs e.event.moment) (sym own) h.2);
      stands = λ concerned. h.3;
    }
    -- no state is left, so that a run over the entry cannot be; or there are too many
    own_passed (all.NoRun number) h = λ run. h (key_runs _ own run)
    own_passed (all.TooWide number) h = (runs_key _ own h.0, (concerned, h.1))

  -- What follows is of an entry e that does not concern the key: the key goes on if one of its runs can wait until e.
  module _ (unconcerned : concerns (k.key t) e ≡ false) where
    -- the events of the key are those before
    other : events_for (k.key t) (es ++ e ∷ []) ≡ events_for (k.key t) es
    other = events_for-other (k.key t) es e unconcerned

    -- where a run over the key's events waits until e, and the transaction leads on, the key goes on over e
    pub other_passed : RunsUntil p machine (events_for (k.key t) es) e.event.moment → k.Leads t (events_for (k.key t) es) e.event.moment → GoesOn p k es e t
    other_passed run leads = record {
      runs = runs_key _ other run;
      narrow = λ wide. absurd (false≢true (sym unconcerned ∙ wide.0));
      ready = subst (k.Leads t (events_for (k.key t) (es ++ e ∷ []))) (sym (newest_moment-push es e)) (subst (λ fs. k.Leads t fs e.event.moment) (sym other) leads);
      stands = λ concerned. absurd (false≢true (sym unconcerned ∙ concerned));
    }

  -- where the key has a run over the entries and e, a run over its events before e waits until e
  pub run_still : RunsOver p (es ++ e ∷ []) (k.key t) → RunsUntil p machine (events_for (k.key t) es) e.event.moment
  run_still run = go (concerns (k.key t) e) refl
    where
      -- there is a run over the events so far that waits until the entry, whether or not the entry concerns the transaction
      go : (b : Bool) → concerns (k.key t) e ≡ b → RunsUntil p machine (events_for (k.key t) es) e.event.moment
      go true concerned = run_before p machine (events_for (k.key t) es) e.event e.event.moment (key_runs _ (own concerned) run)
      go false unconcerned = key_runs _ (other unconcerned) run
