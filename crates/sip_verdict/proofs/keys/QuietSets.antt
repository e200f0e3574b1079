-- A set that is quiet passes a restart as it is.
use Rattle.std.proofs.Common.{◌≡◌, ◌≢◌, ◌≤◌, ◌↔◌, ℕ, List, [], ◌∷◌, ◌++◌, Contains, map, length, refl, sym, ap, ◌∙◌, subst, arith}
use Rattle.sip_standard.specs.declared.action.Action.TheVariants.{Restart}
use Rattle.sip_standard.specs.Times.{Times}
use Rattle.sip_machine.specs.Texts.{Texts}
use Rattle.sip_machine.specs.NumberedEvent.{NumberedEvent, event_in}
use Rattle.sip_standard.specs.MachineEvent.{MachineEvent}
use Rattle.sip_machine.specs.Rules.{MachineRules, StandFor}
use Rattle.sip_states.specs.Waits.{Wait, RunGives}
use Rattle.sip_states.specs.Held.{Held}
use Rattle.sip_standard.specs.KeyMachine.{MachineKind, transaction_of}
use Rattle.sip_standard.specs.Stands.{Stands, StandsAfter}
use Rattle.sip_states.specs.inner.KeySets.{CodeOwingOf, meaning_of}
use Rattle.sip_states.specs.KeyRules.{OwingOf}
use Rattle.sip_states.specs.AnySet.{moment_of, IsQuietSet}
use Rattle.sip_states.specs.declared.any_set.AnySet.{AnySet}
use Rattle.sip_states.proofs.keyed.ByMachine.{lawful_of, moment_is, quiet_in}
use Rattle.sip_states.proofs.keyed.QuietLemmas.{quiet_still, waits_still, restart_still}
use Rattle.sip_verdict.specs.declared.passing.Outcome.TheVariants as all
use Rattle.sip_verdict.specs.inner.Stepping.{IsStepped}
use Rattle.sip_verdict.specs.inner.TablesTracking.{LeadsOf, StandsOf}
use Rattle.sip_verdict.proofs.keys.Hearing.{heard_some}
use Rattle.sip_verdict.proofs.keys.Leading.{iff_trans, iff_sym, Leads-later}
use Rattle.sip_verdict.proofs.keys.RunsStand.{stands_next, stands_given}

-- a set that leads to the runs from one moment on leads to them from any later moment on
pub leads_later : (texts : Texts) (p : Times) (machine : MachineKind) (events : List MachineEvent) (from later : ℕ) (set : AnySet) → from ≤ later → LeadsOf texts p machine events from set → LeadsOf texts p machine events later set
leads_later texts p machine events from later set low (s, is, leads) =
    let m = meaning_of machine in
    (s, is, record { machine_is = leads.machine_is; leads = Leads-later m.names m.seen texts (m.rules p) (Stands (transaction_of machine).figure p events) from later s.moment s.states low leads.leads })

-- What follows is of the quiet set of one transaction, and a restart e.
module _ (texts : Texts) (p : Times) (machine : MachineKind) (events : List MachineEvent) (from : ℕ) (set : AnySet) (leads : LeadsOf texts p machine events from set) (quiet : IsQuietSet set)
    (e : NumberedEvent) (is : e.action ≡ Restart) (late : from ≤ e.moment) (low : moment_of set ≤ e.moment) where
  -- the states of the set that lead to the runs
  abbrev held : Held Times (CodeOwingOf machine)
  held = leads.0

  -- the rules of the machine, for states as texts have them
  abbrev r : MachineRules (OwingOf machine)
  r = (meaning_of machine).rules p

  -- the states of the set, at the moment of the restart
  abbrev new : Held Times (CodeOwingOf machine)
  new = record { machine = held.machine; moment = e.moment; states = held.states }

  -- the moment of the states is not after that of the restart
  not_later : held.moment ≤ e.moment
  not_later = subst (λ m. m ≤ e.moment) (ap moment_of leads.1 ∙ moment_is machine held) low

  -- where a quiet set takes a restart, there are runs still, and the set as it was leads to them and holds just their last states
  pub quiet_stepped : IsStepped p machine events (event_in texts e) (λ es. LeadsOf texts p machine es e.moment set) (λ f. StandsOf texts p machine events f set) all.Fine
  quiet_stepped =
      let m = meaning_of machine in
      -- x is the one state of the set, `one` says that it is the only one, and `still` that no wait and no restart leads it elsewhere
      let (x, one, still) = quiet_still p machine texts held (quiet_in machine held (subst IsQuietSet leads.1 quiet)) in
      -- the restart leads from the one state to that state alone
      let gives : StandFor m.names m.in_range m.seen texts (RunGives r (Wait r (Contains (map (m.seen texts) held.states)) held.moment e.moment) (event_in texts e)) held.states =
      subst (λ xs. StandFor m.names m.in_range m.seen texts (RunGives r (Wait r (Contains (map (m.seen texts) xs)) held.moment e.moment) (event_in texts e)) xs) (sym one)
      (restart_still p machine texts x still held.moment (event_in texts e) is not_later) in
      let own = subst (λ q. StandFor m.names m.in_range m.seen texts (RunGives (m.rules q) (Wait (m.rules q) (Contains (map (m.seen texts) held.states)) held.moment e.moment) (event_in texts e)) held.states)
      (sym leads.2.machine_is) gives in
      -- the set has a state, so the runs go on
      let some : held.states ≢ [] = λ none. (let never : x ∷ [] ≡ [] = sym one ∙ none in cc) in
      let h = heard_some m.names m.in_range m.seen m.rules (lawful_of machine) texts p (Stands (transaction_of machine).figure p events) from held new leads.2 (event_in texts e)
      (StandsAfter (transaction_of machine).figure p events (event_in texts e)) (Stands (transaction_of machine).figure p (events ++ event_in texts e ∷ []))
      (stands_given p machine events (event_in texts e)) (stands_next p machine events (event_in texts e)) late not_later own refl refl some (omega (arith, ap length one)) in
      let same : (n : ℕ) → e.moment ≤ n → (y : OwingOf machine) → Wait r (Contains (map (m.seen texts) held.states)) held.moment n y ↔ Wait r (Contains (map (m.seen texts) held.states)) e.moment n y
      = λ n reached y. subst (λ xs. Wait r (Contains (map (m.seen texts) xs)) held.moment n y ↔ Wait r (Contains (map (m.seen texts) xs)) e.moment n y) (sym one)
      -- the set as it was stands where the new one does, since its state is still
      (iff_trans (waits_still p machine texts x still held.moment n (omega (arith, not_later, reached)) y) (iff_sym (waits_still p machine texts x still e.moment n reached y))) in (
        h.0,
        h.1,
        (
          held,
          leads.1,
          -- the set has the same machine after the restart, and leads to the runs over one event more
          record {
            machine_is = leads.2.machine_is;
            leads = record { known = h.2.leads.known; runs = λ n y reached after. iff_trans (same n reached y) (h.2.leads.runs n y reached reached) };
          },
        ),
        (held, leads.1, h.3),
      )
