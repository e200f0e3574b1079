-- An INVITE server that has just got its INVITE answers it within 200 ms.
-- In the lemmas x is the phase or the state before a step and y the state after it, k is the kind of a message, row is where a row leads, m is a moment, and
-- h is a moment or what is known of a row.
-- In cases of `Emits` a message that is sent has a row (`row`, `is_row`, `to`), or pays a debt (`left`, `pays`), or changes nothing (`stays`,
-- `same`), which only the INVITE server by RFC 3261 alone lets it (Stays). In cases of `Steps` a message that is received has a row, or has none and
-- changes nothing (`none`, `same`).
use Rattle.std.proofs.Common.{◌≡◌, ◌≤◌, ◌<◌, ◌⊎◌, inl, inr, ℕ, Bool, true, false, Option, None, IsSomeAnd, List, [], ◌∷◌, ◌++◌, All, refl, sym, ap, subst, ◌∙◌, arith}
use Rattle.std.specs.List.{Any}
use Rattle.std.proofs.lemmas.List.Elements.{All-head}
use Rattle.sip_standard.specs.declared.action.Action.{Action}
use Rattle.sip_standard.specs.declared.action.Action.TheVariants.{Sent, Received, Failed, Mark, Restart}
use Rattle.sip_standard.specs.declared.kind.Method.TheVariants.{Invite}
use Rattle.sip_standard.specs.declared.kind.Kind.{Kind}
use Rattle.sip_standard.specs.declared.kind.Kind.TheVariants.{Request, Response}
use Rattle.sip_standard.specs.Times.{Times}
use Rattle.sip_standard.specs.Window.{close_at}
use Rattle.sip_standard.specs.MachineEvent.{MachineEvent}
use Rattle.sip_standard.specs.Kind.{IsSuccess}
use Rattle.sip_standard.specs.Figure.{Figure, keeps, Owing, changed, quiet, Follows, Emits, Fails, Steps, Takes, Lasts, MayEnd}
use Rattle.sip_standard.specs.InviteServer.{InviteServerPhase, Idle, Proceeding, Accepted, Completed, Confirmed}
use Rattle.sip_standard.specs.InviteServer as corrected
use Rattle.sip_standard.specs.Stands.{Stands}
use Rattle.consequences.specs.Events.{GetsRequest, SendsResponse, IsAnyCode, IsRestart}
use Rattle.consequences.proofs.lemmas.server.Asleep.{IsAsleep, IsInvite, nothing-to-pay, sleeps-on}
use Rattle.consequences.proofs.lemmas.run.Lists.{any-last, any-earlier}
use Rattle.consequences.proofs.lemmas.run.Running.{IsKept, step-of, stands-run, Cut, cut, run-keeps}
use Rattle.consequences.proofs.lemmas.server.InviteServers.{Row, IsServer, ReceivedRow, comes, again, again_after, acknowledged, received-row, SentRow, provisional, success, unsuccessful, success_again, repeats, sent-row}

-- What follows is of an INVITE server with the figure f and the times p, whose transaction begins with `invite`.
-- `held` tells which of its phases is which phase of the corrected INVITE server.
module _ {X : Type 0} (f : Figure X) (p : Times) (held : InviteServerPhase → X) (is : IsServer f p held) (invite : MachineEvent) where
  -- the event has the property P, and comes within 200 ms of the INVITE and as much as an element may be late
  abbrev InTime : (MachineEvent → Type 0) → MachineEvent → Type 0
  InTime P e = P e × (e.moment ≤ close_at p invite.moment 200)

  -- the server has sent nothing yet and still has time to, or it has sent a response in time, or the element started again in time
  abbrev Waits : List MachineEvent → ℕ → Owing X → Type 0
  Waits es m y =
      ((reliable : Bool) × (y ≡ quiet (held (Proceeding reliable invite.moment None))) × (m ≤ close_at p invite.moment 200))
      ⊎ Any (InTime (SendsResponse IsAnyCode)) es ⊎ Any (InTime IsRestart) es

  -- while the server has sent nothing, no received message has a row
  -- each row is of another phase: idle, proceeding with a response before, or completed
  no-row : (reliable : Bool) (set : ℕ) (x : InviteServerPhase) (k : Kind) (e : MachineEvent) (row : Row) → x ≡ Proceeding reliable set None → ¬ (ReceivedRow x k e row)
  no-row reliable set x k e row here (comes _) = cc
  no-row reliable set x k e row here (again _ r s last must) = cc
  no-row reliable set x k e row here (again_after _ r final s repeat interval) = cc
  no-row reliable set x k e row here (acknowledged _ r final s repeat interval) = cc

  -- what a row sends while the server has sent nothing is a response
  is-response : (x : InviteServerPhase) (k : Kind) (e : MachineEvent) (row : Row) → SentRow p x k e row → (reliable : Bool) (set : ℕ) → x ≡ Proceeding reliable set None → (code : ℕ) × (k ≡ Response code) × IsAnyCode code
  -- in proceeding a row sends a provisional response, a 2xx, or one of 300 to 699
  is-response _ _ _ _ (provisional _ r s last code is_provisional) reliable set here = (code, refl, (is_provisional.0, omega (arith, is_provisional.1)))
  is-response _ _ _ _ (success _ r s last code is_success) reliable set here = (code, refl, (omega (arith, is_success.0), omega (arith, is_success.1)))
  is-response _ _ _ _ (unsuccessful _ r s last code is_unsuccessful) reliable set here = (code, refl, (omega (arith, is_unsuccessful.0), is_unsuccessful.1))
  -- in accepted and completed a response was sent before
  is-response _ _ _ _ (success_again _ s code is_success) reliable set here = absurd (other here)
    where
      -- accepted is not proceeding
      other : ¬ (Accepted s ≡ Proceeding reliable set None)
      other same = cc
  is-response _ _ _ _ (repeats _ r final s repeat interval k same) reliable set here = absurd (other here)
    where
      -- completed is not proceeding
      other : ¬ (Completed r final s repeat interval ≡ Proceeding reliable set None)
      other same = cc

  -- what the server sends within 200 ms is a response in time
  sends : (reliable : Bool) (es : List MachineEvent) (e : MachineEvent) (y : Owing X) → e.moment ≤ close_at p invite.moment 200 → (e.action ≡ Sent) ⊎ (e.action ≡ Failed)
      → Emits f p e (quiet (held (Proceeding reliable invite.moment None))) y → Any (InTime (SendsResponse IsAnyCode)) (es ++ e ∷ [])
  sends reliable es e y low out (inl (row, is_row, to)) = by (is.sent (Proceeding reliable invite.moment None) e.kind e row is_row)
    where
      -- each row of proceeding sends a response in time
      by : ((r : Row) × corrected.Sends p (Proceeding reliable invite.moment None) e.kind e r × (row ≡ (held r.0, r.1)))
          ⊎ ((r : Bool) × (set : ℕ) × (last : Option (List ℕ)) × (Proceeding reliable invite.moment None ≡ Proceeding r set last) × ((code : ℕ) × (e.kind ≡ Response code) × IsSuccess code))
          → Any (InTime (SendsResponse IsAnyCode)) (es ++ e ∷ [])
      -- the row is one of proceeding, so what it sends is a response
      by (inl (r, is_r, leads)) =
          any-last (InTime (SendsResponse IsAnyCode)) es e
          ((out, is-response (Proceeding reliable invite.moment None) e.kind e r (sent-row p (Proceeding reliable invite.moment None) e.kind e r is_r) reliable invite.moment refl), low)
      by (inr (r, set, last, here, (code, kind, is_success))) =
          any-last (InTime (SendsResponse IsAnyCode)) es e ((out, (code, kind, (omega (arith, is_success.0), omega (arith, is_success.1)))), low)
  -- nothing is owed that could be paid, and nothing stays by itself
  sends reliable es e y low out (inr (inl (left, pays, to))) = absurd (nothing-to-pay _ left pays)
  sends reliable es e y low out (inr (inr (stays, same))) = absurd (is.unmoved (Proceeding reliable invite.moment None) e.kind stays)

  -- what is refused within 200 ms counts as a response in time
  fails : (ends : Bool) (reliable : Bool) (es : List MachineEvent) (e : MachineEvent) (y : Owing X) → e.moment ≤ close_at p invite.moment 200 → e.action ≡ Failed
      → Fails ends f p e (quiet (held (Proceeding reliable invite.moment None))) y → Any (InTime (SendsResponse IsAnyCode)) (es ++ e ∷ [])
  fails true reliable es e y low was h = sends reliable es e h.0.0 low (inr was) h.0.1
  fails false reliable es e y low was h = sends reliable es e y low (inr was) h

  -- a step within 200 ms leaves the server as it waits, or is a response or a restart in time
  steps : (a : Action) (reliable : Bool) (es : List MachineEvent) (e : MachineEvent) (y : Owing X) → e.moment ≤ close_at p invite.moment 200 → e.action ≡ a
      → Steps f p a e (quiet (held (Proceeding reliable invite.moment None))) y → Waits (es ++ e ∷ []) e.moment y
  -- no row of a received message leads from proceeding; where there is none, the server waits as before
  steps Received reliable es e y low was (inl (row, is_row, to)) =
      let (r, is_r, leads) = is.received (Proceeding reliable invite.moment None) e.kind e row is_row in
      absurd (no-row reliable invite.moment (Proceeding reliable invite.moment None) e.kind e r refl (received-row p (Proceeding reliable invite.moment None) e.kind e r is_r))
  steps Received reliable es e y low was (inr (none, same)) = inl (reliable, same, low)
  -- what is sent or refused is the response, and it comes in time
  steps Sent reliable es e y low was h = inr (inl (sends reliable es e y low (inl was) h))
  steps Failed reliable es e y low was h = inr (inl (fails (f.ends_refused (held (Proceeding reliable invite.moment None)) e.kind) reliable es e y low was h))
  -- a mark is no step of a transaction, and a restart comes in time
  steps Mark reliable es e y low was h = absurd h
  steps Restart reliable es e y low was h = inr (inr (any-last (InTime IsRestart) es e (was, low)))

  -- while the server has sent nothing, it lasts no longer than 200 ms and as much as an element may be late
  in-time : (reliable : Bool) (x : Owing X) (m : ℕ) → x ≡ quiet (held (Proceeding reliable invite.moment None)) → Lasts f p x m → m ≤ close_at p invite.moment 200
  in-time reliable x m same lasts =
      All-head (λ last. m ≤ last) (close_at p invite.moment 200) [] (subst (All (λ last. m ≤ last)) (is.sends_by (Proceeding reliable invite.moment None)) (subst (λ z. Lasts f p z m) same lasts).1)

  -- along a run the server goes on to wait within its time, unless a response or a restart came in time
  waits-kept : IsKept f p Waits
  waits-kept = record { as_it_waits = as_it_waits; as_it_ends = as_it_ends; as_it_takes = as_it_takes }
    where
      -- Waits stays true as time passes
      -- the run stands in x from the moment h until the moment m
      as_it_waits : (es : List MachineEvent) (h m : ℕ) (x : Owing X) → Waits es h x → h ≤ m → Lasts f p x m → Waits es m x
      as_it_waits es h m x (inl (reliable, same, low)) later lasts = inl (reliable, same, in-time reliable x m same lasts)
      as_it_waits es h m x (inr found) later lasts = inr found

      -- Waits stays true where the transaction ends
      as_it_ends : (es : List MachineEvent) (h : ℕ) (x : Owing X) → Waits es h x → MayEnd f p x h → Waits es h (quiet f.ended)
      as_it_ends es h x (inl (reliable, same, low)) may =
          absurd (subst (λ window. IsSomeAnd window (λ w. w.0 ≤ h)) (is.window (Proceeding reliable invite.moment None)) (subst (λ z. MayEnd f p z h) same may).0)
      as_it_ends es h x (inr later) may = inr later

      -- Waits stays true after an event
      as_it_takes : (es : List MachineEvent) (e : MachineEvent) (x y : Owing X) → Waits es e.moment x → Takes f p x e y → Waits (es ++ e ∷ []) e.moment y
      as_it_takes es e x y (inl (reliable, same, low)) take = steps e.action reliable es e y low refl (subst (λ z. Takes f p z e y) same take)
      as_it_takes es e x y (inr (inl sent)) take = inr (inl (any-earlier (InTime (SendsResponse IsAnyCode)) es (e ∷ []) sent))
      as_it_takes es e x y (inr (inr restarted)) take = inr (inr (any-earlier (InTime IsRestart) es (e ∷ []) restarted))

  -- What follows is of a server that sleeps until an INVITE comes.
  module _ (asleep : IsAsleep f p IsInvite) where
    -- the first INVITE leads to proceeding, where nothing was sent yet
    opens : (x y : Owing X) → x ≡ quiet f.idle → GetsRequest Invite invite → Takes f p x invite y → y ≡ quiet (held (Proceeding invite.reliable invite.moment None))
    opens x y same gets take = by (step-of f p Received invite (quiet (held Idle)) y gets.0 (subst (λ z. Takes f p z invite y) (same ∙ ap quiet is.idle) take))
      where
        -- the row of an INVITE in idle leads to proceeding
        row-of : (k : Kind) (r : Row) → k ≡ Request Invite → ReceivedRow Idle k invite r → r ≡ (Proceeding invite.reliable invite.moment None, keeps)
        row-of _ _ kind (comes _) = refl

        -- the server has this row for the INVITE
        opening : f.Receives p (held Idle) invite.kind invite (held (Proceeding invite.reliable invite.moment None), keeps)
        opening = subst (λ k. f.Receives p (held Idle) k invite (held (Proceeding invite.reliable invite.moment None), keeps)) (sym gets.1) (is.opened invite)

        -- the INVITE leads to proceeding: it has a row in idle, so the state does not stay as it is
        by : Follows (f.Receives p (held Idle) invite.kind invite) p invite (quiet (held Idle)) y ⊎ (((z : Owing X) → ¬ (Follows (f.Receives p (held Idle) invite.kind invite) p invite (quiet (held Idle)) z)) × (y ≡ quiet (held Idle)))
            → y ≡ quiet (held (Proceeding invite.reliable invite.moment None))
        by (inl (row, is_row, to)) =
            let (r, is_r, leads) = is.received Idle invite.kind invite row is_row in
            let r_is = row-of invite.kind r gets.1 (received-row p Idle invite.kind invite r is_r) in
            to ∙ ap (λ s. record { phase = s.0; owes = changed p invite.moment s.1 [] }) (leads ∙ ap (λ s. (held s.0, s.1)) r_is)
        by (inr (none, stays)) = absurd (none (quiet (held (Proceeding invite.reliable invite.moment None))) ((held (Proceeding invite.reliable invite.moment None), keeps), opening, refl))

    -- later than 200 ms and as much as an element may be late after the first INVITE, a response was sent in time, or the element started again in time
    pub answered-in-time : (before after : List MachineEvent) (m : ℕ) (y : Owing X) → All (λ g. ¬ (GetsRequest Invite g)) before → GetsRequest Invite invite →
        Stands f p (before ++ invite ∷ after) m y → close_at p invite.moment 200 < m → Any (InTime (SendsResponse IsAnyCode)) after ⊎ Any (InTime IsRestart) after
    answered-in-time before after m y none gets stands late = by-cut (cut f p (quiet f.idle) 0 before invite after m y (stands-run f p (before ++ invite ∷ after) m y stands))
      where
        -- m is after 200 ms, so the server waits no more: a response or a restart came in time
        by : Waits after m y → Any (InTime (SendsResponse IsAnyCode)) after ⊎ Any (InTime IsRestart) after
        by (inl (reliable, same, low)) = absurd (omega (arith, low, late))
        by (inr found) = found

        -- the run is cut at the INVITE
        by-cut : Cut f p (quiet f.idle) 0 before invite after m y → Any (InTime (SendsResponse IsAnyCode)) after ⊎ Any (InTime IsRestart) after
        by-cut found =
            let slept = sleeps-on f p IsInvite asleep before (quiet f.idle) 0 invite.moment found.from refl none found.leads in
            by (run-keeps f p Waits waits-kept after found.to invite.moment m y (inl (invite.reliable, opens found.from found.to slept gets found.step, omega arith)) found.goes)
