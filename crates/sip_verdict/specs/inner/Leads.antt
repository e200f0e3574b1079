-- Sets of states that stand for all runs over some events.
use Rattle.std.specs.Prelude.{◌≤◌, ◌↔◌, ℕ, List, All, Contains, map}
use Rattle.sip_machine.specs.Texts.{Texts}
use Rattle.sip_machine.specs.Rules.{MachineRules, Knows}
use Rattle.sip_states.specs.Waits.{Wait}

-- the states of a set at a moment say, of that moment and of each later one, exactly where the runs stand: `Runs n x` says that one stands in x at n
pub record Leads {X S : Type 0} (names : S → List ℕ) (seen : Texts → S → X) (texts : Texts) (r : MachineRules X) (Runs : ℕ → X → Type 0) (from moment : ℕ) (states : List S) : Type 0 where
  pub known : All (Knows names texts) states
  pub runs : (n : ℕ) (x : X) → from ≤ n → moment ≤ n → Wait r (Contains (map (seen texts) states)) moment n x ↔ Runs n x
