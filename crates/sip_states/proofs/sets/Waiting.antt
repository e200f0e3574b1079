-- Lemmas of waits, and of the limits within which they last.
use Rattle.std.proofs.Common.{◌≡◌, ◌≤◌, ◌↔◌, inl, inr, ℕ, Option, Some, None, arith}
use Rattle.sip_machine.specs.Limits.{IsWithin, IsOpenAt}
use Rattle.sip_standard.specs.MachineEvent.{MachineEvent}
use Rattle.sip_machine.specs.Rules.{MachineRules, IsLawful, Hide}
use Rattle.sip_states.specs.Waits.{Wait, RunGives}

-- a moment that is within a limit is within it at every earlier moment
pub IsWithin-earlier : (m n : ℕ) (limit : Option ℕ) → m ≤ n → IsWithin n limit → IsWithin m limit
IsWithin-earlier m n None low h = tt
IsWithin-earlier m n (Some last) low h = omega arith

-- where there is no limit, every moment is within it
pub IsWithin-none : (m : ℕ) (limit : Option ℕ) → limit ≡ None → IsWithin m limit
IsWithin-none m limit e = rw e tt

-- where there is no window, no moment is in it
pub IsOpenAt-none : (m : ℕ) (window : Option (ℕ × Option ℕ)) → window ≡ None → IsOpenAt m window → ⊥
IsOpenAt-none m window e h = rw e at h

-- What follows is of states S by the rules r of a machine.
module _ {X : Type 0} (r : MachineRules X) where
  -- a wait from a set is a wait from any set that has its states
  -- S and T are the sets, at the moment h, and y is a state to which they lead at the moment m
  waits_too : (S T : X → Type 0) → ((x : X) → S x → T x) → (h m : ℕ) (y : X) → Wait r S h m y → Wait r T h m y
  waits_too S T has h m y (inl s) = inl (record { among = has y s.among; reached = s.reached; waits = s.waits })
  waits_too S T has h m y (inr e) = inr (record { start = e.start; among = has e.start e.among; at = e.at; after = e.after; before = e.before; hides = e.hides })

  -- waits from two sets with the same states lead to the same states
  pub Wait-iff : (S T : X → Type 0) → ((x : X) → S x ↔ T x) → (h m : ℕ) (y : X) → Wait r S h m y ↔ Wait r T h m y
  Wait-iff S T same h m y = (waits_too S T (λ x. (same x).0) h m y, waits_too T S (λ x. (same x).1) h m y)

  -- an event gives the same from two sets with the same states
  -- S and T are the sets, and y is a state to which the event e leads
  pub Gives-iff : (S T : X → Type 0) → ((x : X) → S x ↔ T x) → (e : MachineEvent) (y : X) → RunGives r S e y ↔ RunGives r T e y
  Gives-iff S T same e y = (
    λ g. record { before = g.before; among = (same g.before).0 g.among; takes = g.takes },
    λ g. record { before = g.before; among = (same g.before).1 g.among; takes = g.takes },
  )

-- by lawful rules r the ended state cannot end again
-- x ends at the moment h and leads to y, and y would end at the moment k and lead to z
pub ends_once : {X : Type 0} (r : MachineRules X) → IsLawful r → (x : X) (h k : ℕ) (y z : X) → Hide r x h y → Hide r y k z → ⊥
ends_once r lawful x h k y z first second = IsOpenAt-none k (r.window y) (rw first.gives lawful.ended_has_no_end) second.opened
