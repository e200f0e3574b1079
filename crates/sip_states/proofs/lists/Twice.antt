-- Two waits, one after the other, lead to the same states as one wait over the whole time.
use Rattle.std.proofs.Common.{◌≤◌, ◌↔◌, inl, inr, ℕ, arith}
use Rattle.std.proofs.Math.Decide.{dec_le}
use Rattle.sip_machine.specs.Rules.{MachineRules, IsLawful, Waits}
use Rattle.sip_states.specs.Waits.{StaysFrom, EndsFrom, Wait}
use Rattle.sip_states.proofs.sets.Waiting.{IsWithin-earlier, IsWithin-none, ends_once}

-- What follows is of two waits, one from h until m and one from there until n, by the rules r of a machine: P says in which states the first may begin.
module _ {X : Type 0} (r : MachineRules X) (lawful : IsLawful r) (P : X → Type 0) (h m n : ℕ) (low : h ≤ m) (high : m ≤ n) where
  -- a wait until m and then staying until n is one wait until n
  stay_after : (y : X) → Wait r P h m y → Waits r y n → Wait r P h n y
  stay_after y w waits =
      elim w [
        | inl s ↦ inl (record { among = s.among; reached = omega arith; waits = waits })
        | inr e ↦ inr (record { start = e.start; among = e.among; at = e.at; after = e.after; before = let k = e.before in omega arith; hides = e.hides })
      ]

  -- a wait until m and then an end by n is one wait until n
  end_after : (y : X) → EndsFrom r (Wait r P h m) m n y → Wait r P h n y
  end_after y e =
      elim e.among [
        | inl s ↦ inr (record { start = e.start; among = s.among; at = e.at; after = let k = e.after in omega arith; before = e.before; hides = e.hides })
        | inr first ↦ absurd (ends_once r lawful first.start first.at e.at e.start y first.hides e.hides)
      ]

  -- a state that stays from h to n is one in which one stands at m and which stays from there
  stay_twice : (y : X) → StaysFrom r P h n y → Wait r (Wait r P h m) m n y
  stay_twice y s =
      inl
      (record {
        among = inl (record { among = s.among; reached = low; waits = IsWithin-earlier m n (r.until y) high s.waits });
        reached = high;
        waits = s.waits;
      })

  -- an end between h and n is one by m, after which the ended state stays, or one after m
  end_twice : (y : X) → (e : EndsFrom r P h n y) → Dec (e.at ≤ m) → Wait r (Wait r P h m) m n y
  -- an end by m is one of the first wait, and the state after it has no end of its own, so that it waits until n
  end_twice y e (yes by) =
      inl
      (record {
        among = inr (record { start = e.start; among = e.among; at = e.at; after = e.after; before = by; hides = e.hides });
        reached = high;
        waits = IsWithin-none n (r.until y) (rw e.hides.gives lawful.ended_stays);
      })
  -- an end after m is one of the second wait, and its state waits until m before
  end_twice y e (no later) =
      let past : m ≤ e.at = omega arith in
      inr
      (record {
        -- the state waited until m before it ended
        start = e.start;
        among = inl (record { among = e.among; reached = low; waits = IsWithin-earlier m e.at (r.until e.start) past e.hides.waited });
        at = e.at;
        after = past;
        before = e.before;
        hides = e.hides;
      })

  -- a wait until m and then one until n lead to the same states as one wait until n
  pub Wait-twice : (y : X) → Wait r (Wait r P h m) m n y ↔ Wait r P h n y
  Wait-twice y = (
    λ w. elim w [ inl s ↦ stay_after y s.among s.waits | inr e ↦ end_after y e ],
    λ w. elim w [ inl s ↦ stay_twice y s | inr e ↦ end_twice y e (dec_le e.at m) ],
  )
