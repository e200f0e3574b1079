-- How long the runs of a key can wait, by the last moment that is on record of its set.
use Rattle.std.proofs.Common.{◌≡◌, ◌≤◌, ◌↔◌, inl, inr, ℕ, true, false, Option, Some, None, List, [], ◌∷◌, ◌++◌, Contains, map, ap, ◌∙◌, subst, arith}
use Rattle.std.proofs.lemmas.Bool.{ltb-true, ltb-false, false≢true}
use Rattle.sip_standard.specs.Times.{Times}
use Rattle.sip_machine.specs.Texts.{Texts}
use Rattle.sip_standard.specs.MachineEvent.{MachineEvent}
use Rattle.sip_machine.specs.Limits.{IsWithin}
use Rattle.sip_states.specs.Waits.{IsAgenda}
use Rattle.sip_standard.specs.KeyMachine.{MachineKind}
use Rattle.sip_states.specs.Meaning.{HasAgenda}
use Rattle.sip_states.specs.AnySet.{moment_of, IsAgendaOf}
use Rattle.sip_states.specs.inner.KeySets.{meaning_of}
use Rattle.sip_states.specs.Agenda.{is_overdue}
use Rattle.sip_states.specs.declared.any_set.AnySet.{AnySet}
use Rattle.sip_verdict.proofs.keys.RunsStand.{stands_next}
use Rattle.sip_verdict.specs.inner.Stepping.{RunsUntil}
use Rattle.sip_verdict.specs.inner.TablesTracking.{LeadsOf}
use Rattle.sip_states.proofs.keyed.ByMachine.{moment_is, of_set}

-- where a run over the events and e stands somewhere, a run over the events stands at the moment of e
pub run_before : (p : Times) (machine : MachineKind) (events : List MachineEvent) (e : MachineEvent) (n : ℕ) → RunsUntil p machine (events ++ e ∷ []) n → RunsUntil p machine events e.moment
run_before p machine events e n (y, run) =
    -- a run over the events and e waits from where it stood after e, and it came there from where it stood before e, at the moment of e
    elim ((stands_next p machine events e n y).0 run) [
      | inl s ↦ let (x, before, led) = s.among in (x, before)
      | inr d ↦ let (x, before, led) = d.among in (x, before)
    ]

-- What follows is of the set of one transaction, of `limit`, the last moment on record to which it can wait, and of a moment that comes.
module _ (texts : Texts) (p : Times) (machine : MachineKind) (events : List MachineEvent) (from : ℕ) (set : AnySet) (leads : LeadsOf texts p machine events from set) (limit : Option ℕ) (agenda : IsAgendaOf limit set)
    (moment : ℕ) (late : from ≤ moment) (low : moment_of set ≤ moment) where
  -- from the states of the set a run can wait until a moment exactly if the moment is within the limit
  waits : IsAgenda ((meaning_of machine).rules p) (Contains (map ((meaning_of machine).seen texts) leads.0.states)) leads.0.moment limit
  waits =
      subst (λ q. IsAgenda ((meaning_of machine).rules q) (Contains (map ((meaning_of machine).seen texts) leads.0.states)) leads.0.moment limit) leads.2.machine_is
      (of_set (λ X M S m s. HasAgenda m limit s) machine leads.0 (subst (IsAgendaOf limit) leads.1 agenda) texts)

  -- the moment of the set's states is not after the moment to which it waits
  not_later : leads.0.moment ≤ moment
  not_later = subst (λ m. m ≤ moment) (ap moment_of leads.1 ∙ moment_is machine leads.0) low

  -- a run over the events stands at the moment exactly if the moment is within the limit
  runs_within : RunsUntil p machine events moment ↔ IsWithin moment limit
  runs_within = (
    λ run. (waits moment not_later).0 (run.0, (leads.2.leads.runs moment run.0 late not_later).1 run.1),
    λ within. let wait = (waits moment not_later).1 within in (wait.0, (leads.2.leads.runs moment wait.0 late not_later).0 wait.1),
  )

  -- where the limit is past at the moment, no run over the events stands then
  pub overdue_none : is_overdue moment (Some limit) ≡ true → ¬ RunsUntil p machine events moment
  overdue_none past run = go limit past (runs_within.0 run)
    where
      -- a moment is not past a last moment and within it at once
      go : (l : Option ℕ) → is_overdue moment (Some l) ≡ true → IsWithin moment l → ⊥
      go None past within = false≢true past
      go (Some last) past within = omega (arith, ltb-true last moment past, within)

  -- where the limit is not past at the moment, some run over the events stands then
  pub in_time_some : is_overdue moment (Some limit) ≡ false → RunsUntil p machine events moment
  in_time_some in_time = runs_within.1 (go limit in_time)
    where
      -- a moment that is not past the last moment is within it
      go : (l : Option ℕ) → is_overdue moment (Some l) ≡ false → IsWithin moment l
      go None in_time = tt
      go (Some last) in_time = omega (arith, ltb-false last moment in_time)
