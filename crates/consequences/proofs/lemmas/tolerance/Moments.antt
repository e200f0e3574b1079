-- What a wider tolerance leaves of moments: timers fire earlier and later.
use Rattle.std.proofs.Common.{◌≤◌, ℕ, Bool, true, false, List, [], ◌∷◌, All, arith, if◌then◌else◌}
use Rattle.std.proofs.lemmas.List.Elements.{All-nil, All-cons, All-head}
use Rattle.sip_standard.specs.Times.{Times}
use Rattle.sip_standard.specs.Window.{open_at, close_at}
use Rattle.sip_standard.specs.MachineEvent.{MachineEvent}
use Rattle.sip_standard.specs.Retransmits.{Retransmits}
use Rattle.consequences.specs.Tolerance.{tolerant}

-- what is in time by the times p is in time by q, whose tolerance is wider
-- h is a moment
pub record IsMoreTolerant (p q : Times) : Type 0 where
  -- what is sent again in time by the times p is sent in time by q
  pub retransmits : (reliable : Bool) (message : List ℕ) (set interval : ℕ) (e : MachineEvent) → Retransmits p reliable message set interval e → Retransmits q reliable message set interval e
  -- a window that has opened by p has opened by q, and one that has not closed by p has not closed by q
  pub opens : (set duration h : ℕ) → open_at p set duration ≤ h → open_at q set duration ≤ h
  pub closes : (set duration h : ℕ) → h ≤ close_at p set duration → h ≤ close_at q set duration
  -- what must be sent again by p need not be sent again earlier by q
  pub repeats : (reliable : Bool) (set interval h : ℕ) → All (λ last. h ≤ last) (if reliable then [] else close_at p set interval ∷ []) → All (λ last. h ≤ last) (if reliable then [] else close_at q set interval ∷ [])

-- What follows is of the times p, and of q, the same with a wider tolerance: `early` and `late` are how early and how late an element may act by q.
module _ (p : Times) (early late : ℕ) (earlier : p.early ≤ early) (later : p.late ≤ late) where
  -- the times with the wider tolerance
  abbrev q : Times
  q = tolerant early late p

  -- what is sent again in time by the times p is sent in time by the wider times q
  retransmits : (reliable : Bool) (message : List ℕ) (set interval : ℕ) (e : MachineEvent) → Retransmits p reliable message set interval e → Retransmits q reliable message set interval e
  retransmits reliable message set interval e h = let fires = h.fires in record { same = h.same; unreliable = h.unreliable; fires = omega (arith, fires, earlier) }

  -- a window that has opened by the times p has opened by the wider times q
  opens-earlier : (set duration h : ℕ) → open_at p set duration ≤ h → open_at q set duration ≤ h
  opens-earlier set duration h opening = omega (arith, opening, earlier)

  -- a window that has not closed by the times p has not closed by the wider times q
  closes-later : (set duration h : ℕ) → h ≤ close_at p set duration → h ≤ close_at q set duration
  closes-later set duration h closing = omega (arith, closing, later)

  -- what must be sent again by the times p need not be sent again earlier by the wider times q
  repeats-later : (reliable : Bool) (set interval h : ℕ) → All (λ last. h ≤ last) (if reliable then [] else close_at p set interval ∷ []) → All (λ last. h ≤ last) (if reliable then [] else close_at q set interval ∷ [])
  repeats-later true set interval h all = All-nil (λ last. h ≤ last)
  repeats-later false set interval h all =
      All-cons (λ last. h ≤ last) (close_at q set interval) [] (closes-later set interval h (All-head (λ last. h ≤ last) (close_at p set interval) [] all)) (All-nil (λ last. h ≤ last))

  -- the times q have the wider tolerance
  pub is-more-tolerant : IsMoreTolerant p q
  is-more-tolerant = record { retransmits = retransmits; opens = opens-earlier; closes = closes-later; repeats = repeats-later }
