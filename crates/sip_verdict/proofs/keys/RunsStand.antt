-- The runs of a machine stand where waiting and stepping lead, from the first state on.
use Rattle.std.proofs.Common.{◌≡◌, ◌↔◌, ℕ, List, [], ◌∷◌, ◌++◌}
use Rattle.sip_standard.specs.Times.{Times}
use Rattle.sip_standard.specs.MachineEvent.{MachineEvent}
use Rattle.sip_standard.specs.KeyMachine.{MachineKind, transaction_of}
use Rattle.sip_standard.specs.Stands.{Stands, StandsAfter}
use Rattle.sip_states.specs.Waits.{Wait, RunGives}
use Rattle.sip_states.specs.KeyRules.{OwingOf, key_rules}
use Rattle.sip_states.proofs.keyed.KeySetLaws.{coded_holds}
use Rattle.sip_states.proofs.runs.StandsLemmas.{stands-wait_first, stands-wait, stands-gives}

-- What follows is of the runs of one machine by the times p.
module _ (p : Times) (machine : MachineKind) where
  -- a run over no event stands where one can wait from the first state
  pub stands_first : (n : ℕ) (x : OwingOf machine) → Stands (transaction_of machine).figure p [] n x ↔ Wait (key_rules p machine) (λ y. y ≡ (key_rules p machine).first) 0 n x
  stands_first n x = stands-wait_first (transaction_of machine).figure (coded_holds machine).is_figure p n x

  -- What follows is of the events before e, and of e.
  module _ (events : List MachineEvent) (e : MachineEvent) where
    -- a run over them and e stands where one can wait from the states to which e leads
    pub stands_next : (n : ℕ) (x : OwingOf machine)
        → Stands (transaction_of machine).figure p (events ++ e ∷ []) n x ↔ Wait (key_rules p machine) (StandsAfter (transaction_of machine).figure p events e) e.moment n x
    stands_next n x = stands-wait (transaction_of machine).figure (coded_holds machine).is_figure p events e n x

    -- e leads to what it gives from where the runs over the events before it stand
    pub stands_given : (x : OwingOf machine)
        → StandsAfter (transaction_of machine).figure p events e x ↔ RunGives (key_rules p machine) (Stands (transaction_of machine).figure p events e.moment) e x
    stands_given x = stands-gives (transaction_of machine).figure (coded_holds machine).is_figure p events e x
