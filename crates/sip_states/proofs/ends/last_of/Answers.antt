use Rattle.std.proofs.Common.{inl, inr}
use Rattle.sip_states.proofs.ends.last_of.Goals as goal

-- the state cannot end, so one can wait as long as it stays
pub returns-in-None : goal.returns-in-None
returns-in-None g c = λ d m low. (
  λ reach. elim reach [ inl stays ↦ rw (c.until.ensures d) stays | inr can ↦ absurd (c.in-None.ensures d can.at can.is) ],
  λ within. inl (rw (c.until.ensures d) at within),
)
