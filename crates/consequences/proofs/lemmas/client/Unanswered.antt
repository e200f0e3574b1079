-- An INVITE client before a response has come: it sends no CANCEL, and ends by timer B.
-- In the lemmas x is the phase or the state before a step and y the state after it, k is the kind of a message, row is where a row leads, m is a moment, and
-- h is a moment or what is known of a row.
-- es are the events so far; w is what a client that calls has: its request, when it was first sent, and when it is sent again.
-- In cases of `Emits` a message that is sent has a row (`row`, `is_row`, `to`), or pays a debt (`left`, `pays`), or changes nothing (`stays`,
-- `same`), which only the INVITE server by RFC 3261 alone lets it (Stays). In cases of `Steps` a message that is received has a row, or has none and
-- changes nothing (`none`, `same`), and a restart leaves idle as it is (`idle`) and ends any other phase (`other`).
-- `Unit {0}` holds anyway, by `tt`.
use Rattle.std.proofs.Common.{◌≡◌, ◌≤◌, ◌<◌, ◌*◌, ◌⊎◌, inl, inr, ℕ, Bool, true, false, Some, None, List, [], ◌∷◌, ◌++◌, All, refl, sym, ap, subst, ◌∙◌, arith}
use Rattle.std.specs.List.{Any}
use Rattle.std.proofs.lemmas.List.{append-nil}
use Rattle.sip_standard.specs.declared.action.Action.{Action}
use Rattle.sip_standard.specs.declared.action.Action.TheVariants.{Sent, Received, Failed, Mark, Restart}
use Rattle.sip_standard.specs.declared.kind.Method.TheVariants.{Invite, Ack, Cancel}
use Rattle.sip_standard.specs.declared.kind.Kind.{Kind}
use Rattle.sip_standard.specs.declared.kind.Kind.TheVariants.{Request}
use Rattle.sip_standard.specs.Times.{Times}
use Rattle.sip_standard.specs.Window.{open_at, close_at}
use Rattle.sip_standard.specs.MachineEvent.{MachineEvent}
use Rattle.sip_standard.specs.Waiting.{Waiting}
use Rattle.sip_standard.specs.Kind.{IsProvisional, IsSuccess, IsUnsuccessful}
use Rattle.sip_standard.specs.Debts.{Owed}
use Rattle.sip_standard.specs.Figure.{Figure, keeps, gains, Owing, quiet, Emits, Fails, Steps, Takes, Lasts, MayEnd}
use Rattle.sip_standard.specs.InviteClient.{InviteClientPhase, Idle, Ended, Calling, Proceeding, Accepted, Completed, Sends, ends_refused}
use Rattle.sip_standard.specs.Stands.{Stands, StandsAfter}
use Rattle.consequences.specs.Events.{SendsRequest, GetsResponse, IsAnyCode, IsRefused, IsRestart}
use Rattle.sip_phases.proofs.debts.DebtLaws.{All-front}
use Rattle.consequences.proofs.lemmas.run.Lists.{any-last, any-earlier, any-none, All-last}
use Rattle.consequences.proofs.lemmas.client.Once.{IsInvited, invites-once, over-emits, over-steps}
use Rattle.consequences.proofs.lemmas.run.Running.{Runs, IsKept, left_at, step-of, stands-run, Cut, cut, run-keeps}
use Rattle.consequences.proofs.lemmas.client.InviteClients.{Row, Receiving, client, IsDone, Answers, IsReceiving, pays-nothing, sends-idle, sends-calling, sends-proceeding, sends-accepted, sends-completed, sends-ended}

-- an INVITE is no CANCEL
no-cancel : ¬ (Request Invite ≡ Request Cancel)
no-cancel is = cc

-- the phase is idle or ended, in neither of which the client waits for a response
abbrev IsUnasked : InviteClientPhase → Type 0
IsUnasked Idle = Unit {0}
IsUnasked Ended = Unit {0}
IsUnasked x = ⊥

-- the phase is calling, and began with this INVITE
abbrev pub CallsFrom : MachineEvent → InviteClientPhase → Type 0
CallsFrom invite (Calling w) = (w.start ≡ invite.moment) × (w.request ≡ invite.text) × (w.reliable ≡ invite.reliable)
CallsFrom invite x = ⊥

-- a client in completed does not call
not-calling : {A : Type 0} (x : InviteClientPhase) (reliable : Bool) (request : List ℕ) (set : ℕ) (invite : MachineEvent) → x ≡ Completed reliable request set → CallsFrom invite x → A
not-calling x reliable request set invite is calls = absurd (subst (CallsFrom invite) is calls)

-- What follows is of an INVITE client: R are its rows for responses, and p its times.
module _ (R : Receiving) (is : IsReceiving R) (p : Times) where
  -- the figure of this client
  abbrev f : Figure InviteClientPhase
  f = client R

  -- where no INVITE was sent so far, the phase is idle or ended
  abbrev Before : List MachineEvent → ℕ → Owing InviteClientPhase → Type 0
  Before es m y = All (λ g. ¬ (SendsRequest Invite g)) es → IsUnasked y.phase

  -- what is sent, unless it is an INVITE, leads from idle or ended to idle or ended
  -- a debt that is paid leaves the phase as it is; so does what is no INVITE in idle, and a CANCEL in ended
  unasked-emits : (e : MachineEvent) (x : InviteClientPhase) (owes : List Owed) (y : Owing InviteClientPhase) → IsUnasked x → ¬ (e.kind ≡ Request Invite) → Emits f p e (record { phase = x; owes = owes }) y → IsUnasked y.phase
  unasked-emits e x owes y from never (inr (inl (left, pays, to))) = rw to from
  unasked-emits e x owes y from never (inr (inr (stays, same))) = absurd stays
  unasked-emits e Idle owes y from never (inl (row, is_row, to)) = by (sends-idle p e.kind e row is_row)
    where
      -- the client has sent no INVITE after the row: in idle an INVITE has a row, but none is sent here
      by : ((e.kind ≡ Request Invite) × (row ≡ (Calling (record { reliable = e.reliable; request = e.text; start = e.moment; set = e.moment; interval = p.t1 }), keeps)))
          ⊎ (¬ (e.kind ≡ Request Invite) × (row ≡ (Idle, keeps))) → IsUnasked y.phase
      by (inl (invite, leads)) = absurd (never invite)
      by (inr (other, leads)) = rw (to, leads) tt
  unasked-emits e Ended owes y from never (inl (row, is_row, to)) = rw (to, (sends-ended p e.kind e row is_row).1) tt
  unasked-emits e x owes y from never (inl row) = absurd from

  -- what is refused leads from idle or ended to idle or ended
  unasked-fails : (ends : Bool) (e : MachineEvent) (x : InviteClientPhase) (owes : List Owed) (y : Owing InviteClientPhase) → ends_refused x e.kind ≡ ends → IsUnasked x
      → Fails ends f p e (record { phase = x; owes = owes }) y → IsUnasked y.phase
  unasked-fails true e x owes y ends from fails = rw fails.1 tt
  unasked-fails false e x owes y ends from fails = unasked-emits e x owes y from (λ invite. ended-by-an-invite x (ap (ends_refused x) (sym invite) ∙ ends)) fails
    where
      -- in no phase does the client outlive an INVITE that is refused
      ended-by-an-invite : (x : InviteClientPhase) → ¬ (ends_refused x (Request Invite) ≡ false)
      ended-by-an-invite x is = cc

  -- a step, unless it sends an INVITE, leads from idle or ended to idle or ended
  unasked-steps : (a : Action) (e : MachineEvent) (x : InviteClientPhase) (owes : List Owed) (y : Owing InviteClientPhase) → e.action ≡ a → IsUnasked x → ¬ (SendsRequest Invite e)
      → Steps f p a e (record { phase = x; owes = owes }) y → IsUnasked y.phase
  -- in idle and in ended no received message has a row, so that the phase stays
  unasked-steps Received e Idle owes y was from never (inl (row, is_row, to)) = absurd (is.idle p e.kind e row is_row)
  unasked-steps Received e Ended owes y was from never (inl (row, is_row, to)) = absurd (is.ended p e.kind e row is_row)
  unasked-steps Received e x owes y was from never (inl row) = absurd from
  unasked-steps Received e x owes y was from never (inr (none, same)) = rw same from
  -- what is sent or refused leads to idle or ended, and so does a restart; a mark is no step
  unasked-steps Sent e x owes y was from never emits = unasked-emits e x owes y from (λ invite. never (was, invite)) emits
  unasked-steps Failed e x owes y was from never fails = unasked-fails (ends_refused x e.kind) e x owes y refl from fails
  unasked-steps Mark e x owes y was from never h = absurd h
  unasked-steps Restart e x owes y was from never (inl (idle, to)) = rw to tt
  unasked-steps Restart e x owes y was from never (inr (other, to)) = rw to tt

  -- a run without an INVITE that is sent keeps the phase idle or ended
  before-kept : IsKept f p Before
  before-kept = record {
    as_it_waits = λ es h m x holds low lasts. holds;
    as_it_ends = λ es h x holds may all. tt;
    as_it_takes = λ es e x y holds take all.
        unasked-steps e.action e x.phase (left_at e x) y refl (holds (All-front (λ g. ¬ (SendsRequest Invite g)) es (e ∷ []) all)) (All-last (λ g. ¬ (SendsRequest Invite g)) es e all) take;
  }

  -- the first INVITE that is sent leads to calling, as the phase that began with it
  pub begins-calling : (before : List MachineEvent) (invite : MachineEvent) (x y : Owing InviteClientPhase) → All (λ g. ¬ (SendsRequest Invite g)) before → SendsRequest Invite invite
      → Runs f p (quiet Idle) 0 before invite.moment x → Takes f p x invite y → CallsFrom invite y.phase
  begins-calling before invite x y none sent run take =
      by x.phase (left_at invite x) (run-keeps f p Before before-kept before (quiet Idle) 0 invite.moment x (λ all. tt) run none)
      (step-of f p Sent invite x y sent.0 take)
    where
      -- the row of the INVITE leads to calling, with the INVITE's bytes and moment
      by_row : (row : Row) (owes : List Owed) → ((invite.kind ≡ Request Invite) × (row ≡ (Calling (record { reliable = invite.reliable; request = invite.text; start = invite.moment; set = invite.moment; interval = p.t1 }), keeps)))
          ⊎ (¬ (invite.kind ≡ Request Invite) × (row ≡ (Idle, keeps))) → CallsFrom invite row.0
      by_row row owes (inl (is_invite, leads)) = rw leads (refl, refl, refl)
      by_row row owes (inr (other, leads)) = absurd (other sent.1)

      -- after the INVITE the client calls with it: an INVITE is sent by a row, since nothing is owed before it
      -- in idle the INVITE has its row; the ended phase sends a CANCEL alone, and from any other phase it does not come
      by : (phase : InviteClientPhase) (owes : List Owed) → IsUnasked phase → Emits f p invite (record { phase = phase; owes = owes }) y → CallsFrom invite y.phase
      by Idle owes from (inl (row, is_row, to)) = rw to (by_row row owes (sends-idle p invite.kind invite row is_row))
      by Ended owes from (inl (row, is_row, to)) = absurd (no-cancel (sym sent.1 ∙ (sends-ended p invite.kind invite row is_row).0))
      by phase owes from (inr (inl (left, pays, to))) = absurd (no-ack (sym sent.1 ∙ (pays-nothing phase invite.kind invite pays.first.message pays.holds.0).4))
        where
          -- an INVITE is no ACK, which alone pays a debt
          no-ack : ¬ (Request Invite ≡ Request Ack)
          no-ack is = cc
      by phase owes from (inr (inr (stays, same))) = absurd stays
      by phase owes from (inl row) = absurd from

  -- what a client that calls receives with a row is a response of some code
  response-came : (es : List MachineEvent) (e : MachineEvent) (w : Waiting) (row : Row) → e.action ≡ Received → R p (Calling w) e.kind e row → Any (GetsResponse IsAnyCode) (es ++ e ∷ [])
  response-came es e w row was is_row = by (is.calling p w e.kind e row is_row)
    where
      -- each of the three rows is of a code from 100 to 699
      any : (code : ℕ) → (IsProvisional code × (row ≡ (Proceeding w.reliable w.request None, keeps))) ⊎ (IsSuccess code × IsDone row.0)
          ⊎ (IsUnsuccessful code × (row ≡ (Completed w.reliable w.request e.moment, gains true e.text))) → IsAnyCode code
      any code (inl h) = (h.0.0, omega (arith, h.0.1))
      any code (inr (inl h)) = (omega (arith, h.0.0), omega (arith, h.0.1))
      any code (inr (inr h)) = (omega (arith, h.0.0), h.0.1)

      -- a response has come: the row is that of a provisional response, a 2xx, or one of 300 to 699
      by : Answers w.reliable w.request e.kind e row → Any (GetsResponse IsAnyCode) (es ++ e ∷ [])
      by (code, kind, leads) = any-last (GetsResponse IsAnyCode) es e (was, (code, kind, any code leads))

  -- What follows is of one INVITE that was sent.
  module _ (invite : MachineEvent) where
    -- the client need not wait: a response came, a message was refused, the element started again, or timer B may have fired
    abbrev Over : List MachineEvent → ℕ → Type 0
    Over es m = Any (GetsResponse IsAnyCode) es ⊎ Any (λ g. IsRefused g ⊎ IsRestart g) es ⊎ (open_at p invite.moment (64 * p.t1) ≤ m)

    -- Over stays true after more events, and later
    over-later : (es more : List MachineEvent) (h m : ℕ) → h ≤ m → Over es h → Over (es ++ more) m
    over-later es more h m low (inl came) = inl (any-earlier (GetsResponse IsAnyCode) es more came)
    over-later es more h m low (inr (inl broke)) = inr (inl (any-earlier (λ g. IsRefused g ⊎ IsRestart g) es more broke))
    over-later es more h m low (inr (inr late)) = inr (inr (omega (arith, low, late)))

    -- the client still calls from the INVITE on, or need not wait
    abbrev Calls : List MachineEvent → ℕ → Owing InviteClientPhase → Type 0
    Calls es m y = CallsFrom invite y.phase ⊎ Over es m

    -- a calling client may end only when timer B may have fired
    calls-ends : (es : List MachineEvent) (h : ℕ) (x : InviteClientPhase) (owes : List Owed) → CallsFrom invite x → MayEnd f p (record { phase = x; owes = owes }) h → Over es h
    calls-ends es h (Calling w) owes calls may = inr (inr (subst (λ m. open_at p m (64 * p.t1) ≤ h) calls.0 may.0))
    calls-ends es h x owes calls may = absurd calls

    -- what is sent in calling is the INVITE, and the phase stays calling
    -- a debt is paid in completed alone, and so not in calling, where the INVITE is sent again by its row
    calls-emits : (es : List MachineEvent) (e : MachineEvent) (x : InviteClientPhase) (owes : List Owed) (y : Owing InviteClientPhase) → CallsFrom invite x
        → Emits f p e (record { phase = x; owes = owes }) y → (e.kind ≡ Request Invite) × CallsFrom invite y.phase
    calls-emits es e x owes y calls (inr (inl (left, pays, to))) =
        let pay = pays-nothing x e.kind e pays.first.message pays.holds.0 in not-calling x pay.0 pay.1 pay.2 invite pay.3 calls
    calls-emits es e x owes y calls (inr (inr (stays, same))) = absurd stays
    calls-emits es e (Calling w) owes y calls (inl (row, is_row, to)) = let sends = sends-calling p w e.kind e row is_row in (sends.0, rw (to, sends.2) calls)
    calls-emits es e x owes y calls (inl row) = absurd calls

    -- a step leaves the client calling, or it need not wait any more
    calls-steps : (a : Action) (es : List MachineEvent) (e : MachineEvent) (x : InviteClientPhase) (owes : List Owed) (y : Owing InviteClientPhase) → e.action ≡ a → CallsFrom invite x
        → Steps f p a e (record { phase = x; owes = owes }) y → Calls (es ++ e ∷ []) e.moment y
    -- a response has come; without a row the client stays calling
    calls-steps Received es e (Calling w) owes y was calls (inl (row, is_row, to)) = inr (inl (response-came es e w row was is_row))
    calls-steps Received es e x owes y was calls (inl row) = absurd calls
    calls-steps Received es e x owes y was calls (inr (none, same)) = inl (rw same calls)
    -- a repeat of the INVITE leaves it calling; a refused send, and a restart, end the wait
    calls-steps Sent es e x owes y was calls emits = inl (calls-emits es e x owes y calls emits).1
    calls-steps Failed es e x owes y was calls fails = inr (inr (inl (any-last (λ g. IsRefused g ⊎ IsRestart g) es e (inl was))))
    calls-steps Mark es e x owes y was calls h = absurd h
    calls-steps Restart es e x owes y was calls h = inr (inr (inl (any-last (λ g. IsRefused g ⊎ IsRestart g) es e (inr was))))

    -- along a run the client goes on to call, or need not wait any more
    calls-kept : IsKept f p Calls
    calls-kept = record { as_it_waits = as_it_waits; as_it_ends = as_it_ends; as_it_takes = as_it_takes }
      where
        -- Calls stays true as time passes
        -- the run stands in x from the moment h until the moment m
        as_it_waits : (es : List MachineEvent) (h m : ℕ) (x : Owing InviteClientPhase) → Calls es h x → h ≤ m → Lasts f p x m → Calls es m x
        as_it_waits es h m x (inl calls) low lasts = inl calls
        as_it_waits es h m x (inr over) low lasts = inr (subst (λ fs. Over fs m) (append-nil es) (over-later es [] h m low over))

        -- Calls stays true where the transaction ends
        as_it_ends : (es : List MachineEvent) (h : ℕ) (x : Owing InviteClientPhase) → Calls es h x → MayEnd f p x h → Calls es h (quiet Ended)
        as_it_ends es h x (inl calls) may = inr (calls-ends es h x.phase x.owes calls may)
        as_it_ends es h x (inr over) may = inr over

        -- Calls stays true after an event
        as_it_takes : (es : List MachineEvent) (e : MachineEvent) (x y : Owing InviteClientPhase) → Calls es e.moment x → Takes f p x e y → Calls (es ++ e ∷ []) e.moment y
        as_it_takes es e x y (inl calls) take = calls-steps e.action es e x.phase (left_at e x) y refl calls take
        as_it_takes es e x y (inr over) take = inr (over-later es (e ∷ []) e.moment e.moment (omega arith) over)

    -- a CANCEL is sent only where the client need not wait, section 9.1
    pub cancel-waits : (before after : List MachineEvent) (e : MachineEvent) (y : Owing InviteClientPhase) → All (λ g. ¬ (SendsRequest Invite g)) before → SendsRequest Invite invite →
        SendsRequest Cancel e → StandsAfter f p (before ++ invite ∷ after) e y → Over after e.moment
    cancel-waits before after e y none sent cancels (x, stands, take) = by-cut (cut f p (quiet Idle) 0 before invite after e.moment x (stands-run f p (before ++ invite ∷ after) e.moment x stands))
      where
        no-invite : ¬ (Request Cancel ≡ Request Invite)
        no-invite is = cc

        -- the client need not wait any more, since a client that calls sends no CANCEL
        by : CallsFrom invite x.phase ⊎ Over after e.moment → Over after e.moment
        by (inl calls) = absurd (no-invite (sym cancels.1 ∙ (calls-emits after e x.phase (left_at e x) y calls (step-of f p Sent e x y cancels.0 take)).0))
        by (inr over) = over

        -- the run is cut at the INVITE
        by-cut : Cut f p (quiet Idle) 0 before invite after e.moment x → Over after e.moment
        by-cut found = by (run-keeps f p Calls calls-kept after found.to invite.moment e.moment x (inl (begins-calling before invite found.from found.to none sent found.leads found.step)) found.goes)

  -- What follows is of an INVITE that gets no response.

  -- where the phase is calling, its INVITE was first sent by the moment
  abbrev BeganBy : ℕ → InviteClientPhase → Type 0
  BeganBy m (Calling w) = w.start ≤ m
  BeganBy m x = Unit {0}

  -- what began by a moment began by every later one
  -- x is the phase, and h and m are the two moments
  -- only of calling BeganBy says something: that it began by the moment
  began-later : (x : InviteClientPhase) (h m : ℕ) → h ≤ m → BeganBy h x → BeganBy m x
  began-later (Calling w) h m low began = omega (arith, low, began)
  began-later Idle h m low began = tt
  began-later Ended h m low began = tt
  began-later (Proceeding reliable request cancel) h m low began = tt
  began-later (Accepted set) h m low began = tt
  began-later (Completed reliable request set) h m low began = tt

  -- a phase that is done is not calling, so that BeganBy holds of it at any moment
  done-began : (x : InviteClientPhase) (m : ℕ) → IsDone x → BeganBy m x
  done-began Ended m done = tt
  done-began (Accepted set) m done = tt
  done-began x m done = absurd done

  -- the row of a response leads to a phase of which BeganBy holds
  -- a provisional response leads to proceeding, a success to a phase that is done, and any other final response to completed
  answers-began : (reliable : Bool) (request : List ℕ) (k : Kind) (e : MachineEvent) (row : Row) → Answers reliable request k e row → BeganBy e.moment row.0
  answers-began reliable request k e row (code, kind, inl h) = rw h.1 tt
  answers-began reliable request k e row (code, kind, inr (inl h)) = done-began row.0 e.moment h.1
  answers-began reliable request k e row (code, kind, inr (inr h)) = rw h.1 tt

  -- the row of a received message leads to a phase of which BeganBy holds
  received-began : (x : InviteClientPhase) (k : Kind) (e : MachineEvent) (row : Row) → R p x k e row → BeganBy e.moment row.0
  -- in idle, in ended and in accepted no message has a row; elsewhere a response leads to where BeganBy holds
  received-began Idle k e row h = absurd (is.idle p k e row h)
  received-began Ended k e row h = absurd (is.ended p k e row h)
  received-began (Accepted set) k e row h = absurd (is.accepted p set k e row h)
  received-began (Calling w) k e row h = answers-began w.reliable w.request k e row (is.calling p w k e row h)
  received-began (Proceeding reliable request cancel) k e row h = answers-began reliable request k e row (is.proceeding p reliable request cancel k e row h)
  received-began (Completed reliable request set) k e row h = rw (is.completed p reliable request set k e row h).3 tt

  -- the row of a sent message keeps BeganBy
  sent-began : (x : InviteClientPhase) (k : Kind) (e : MachineEvent) (row : Row) → BeganBy e.moment x → Sends p x k e row → BeganBy e.moment row.0
  sent-began Idle k e row began h = by (sends-idle p k e row h)
    where
      -- what the row leads to has begun by this moment
      by : ((k ≡ Request Invite) × (row ≡ (Calling (record { reliable = e.reliable; request = e.text; start = e.moment; set = e.moment; interval = p.t1 }), keeps)))
          ⊎ (¬ (k ≡ Request Invite) × (row ≡ (Idle, keeps))) → BeganBy e.moment row.0
      by (inl leads) = rw leads.1 (omega arith)
      by (inr leads) = rw leads.1 tt
  -- in calling the INVITE is sent again, and the moment of the first one stays
  sent-began (Calling w) k e row began h = rw (sends-calling p w k e row h).2 began
  sent-began (Proceeding reliable request cancel) k e row began h = by (sends-proceeding p reliable request cancel k e row h).1
    where
      -- what the row leads to has begun by this moment, whether or not the CANCEL counts as the first one
      by : (row ≡ (Proceeding reliable request (Some e.moment), keeps)) ⊎ (row ≡ (Proceeding reliable request cancel, keeps)) → BeganBy e.moment row.0
      by (inl leads) = rw leads tt
      by (inr leads) = rw leads tt
  -- accepted, completed and ended stay as they are
  sent-began (Accepted set) k e row began h = rw (sends-accepted p set k e row h).1 tt
  sent-began (Completed reliable request set) k e row began h = rw (sends-completed p reliable request set k e row h).1 tt
  sent-began Ended k e row began h = rw (sends-ended p k e row h).1 tt

  -- a message that is sent keeps BeganBy
  began-emits : (e : MachineEvent) (x y : Owing InviteClientPhase) → BeganBy e.moment x.phase → Emits f p e x y → BeganBy e.moment y.phase
  began-emits e x y began (inl (row, is_row, to)) = rw to (sent-began x.phase e.kind e row began is_row)
  began-emits e x y began (inr (inl (left, pays, to))) = rw to began
  began-emits e x y began (inr (inr (stays, same))) = absurd stays

  -- a message that the transport refused keeps BeganBy
  began-fails : (ends : Bool) (e : MachineEvent) (x y : Owing InviteClientPhase) → BeganBy e.moment x.phase → Fails ends f p e x y → BeganBy e.moment y.phase
  began-fails true e x y began fails = rw fails.1 tt
  began-fails false e x y began emits = began-emits e x y began emits

  -- BeganBy stays true after a step
  began-steps : (a : Action) (e : MachineEvent) (x y : Owing InviteClientPhase) → BeganBy e.moment x.phase → Steps f p a e x y → BeganBy e.moment y.phase
  -- a received message leads along a row, or leaves all as it is; what is sent or refused keeps BeganBy
  began-steps Received e x y began (inl (row, is_row, to)) = rw to (received-began x.phase e.kind e row is_row)
  began-steps Received e x y began (inr (none, same)) = rw same began
  began-steps Sent e x y began emits = began-emits e x y began emits
  began-steps Failed e x y began fails = began-fails (ends_refused x.phase e.kind) e x y began fails
  -- a mark is no step, and a restart leads to idle or to the end
  began-steps Mark e x y began h = absurd h
  began-steps Restart e x y began (inl (idle, to)) = rw to tt
  began-steps Restart e x y began (inr (other, to)) = rw to tt

  -- BeganBy stays true throughout a run
  began-kept : IsKept f p (λ es m y. BeganBy m y.phase)
  began-kept = record {
    as_it_waits = λ es h m x began low lasts. began-later x.phase h m low began;
    as_it_ends = λ es h x began may. tt;
    as_it_takes = λ es e x y began take. began-steps e.action e (record { phase = x.phase; owes = left_at e x }) y began take;
  }

  -- the phase is calling, and its INVITE was first sent by the moment
  abbrev CallsBy : ℕ → InviteClientPhase → Type 0
  CallsBy m (Calling w) = w.start ≤ m
  CallsBy m x = ⊥

  -- an INVITE that is sent leads to calling, as CallsBy has it
  invite-calls : (e : MachineEvent) (x : InviteClientPhase) (owes : List Owed) (y : Owing InviteClientPhase) → e.kind ≡ Request Invite → BeganBy e.moment x
      → Emits f p e (record { phase = x; owes = owes }) y → CallsBy e.moment y.phase
  invite-calls e x owes y invite began (inr (inl (left, pays, to))) = absurd (no-ack (sym invite ∙ (pays-nothing x e.kind e pays.first.message pays.holds.0).4))
    where
      -- an INVITE is no ACK, which alone pays a debt
      no-ack : ¬ (Request Invite ≡ Request Ack)
      no-ack is = cc
  invite-calls e x owes y invite began (inr (inr (stays, same))) = absurd stays
  -- in idle the INVITE begins calling at its moment
  invite-calls e Idle owes y invite began (inl (row, is_row, to)) = by (sends-idle p e.kind e row is_row)
    where
      -- in idle the message is the INVITE, so the client calls from this moment on
      by : ((e.kind ≡ Request Invite) × (row ≡ (Calling (record { reliable = e.reliable; request = e.text; start = e.moment; set = e.moment; interval = p.t1 }), keeps)))
          ⊎ (¬ (e.kind ≡ Request Invite) × (row ≡ (Idle, keeps))) → CallsBy e.moment y.phase
      by (inl leads) = rw (to, leads.1) (omega arith)
      by (inr leads) = absurd (leads.0 invite)
  -- in calling it is sent again, and in no other phase is an INVITE sent
  invite-calls e (Calling w) owes y invite began (inl (row, is_row, to)) = rw (to, (sends-calling p w e.kind e row is_row).2) began
  invite-calls e (Proceeding reliable request cancel) owes y invite began (inl (row, is_row, to)) = absurd (no-cancel (sym invite ∙ (sends-proceeding p reliable request cancel e.kind e row is_row).0))
  invite-calls e (Accepted set) owes y invite began (inl (row, is_row, to)) = absurd (no-cancel (sym invite ∙ (sends-accepted p set e.kind e row is_row).0))
  invite-calls e (Completed reliable request set) owes y invite began (inl (row, is_row, to)) = absurd (no-cancel (sym invite ∙ (sends-completed p reliable request set e.kind e row is_row).0))
  invite-calls e Ended owes y invite began (inl (row, is_row, to)) = absurd (no-cancel (sym invite ∙ (sends-ended p e.kind e row is_row).0))

  -- What follows is of a moment by which the client had sent its INVITE.
  module _ (moment : ℕ) where
    -- the client calls, since the moment or longer, or has ended, or a response came
    abbrev Waits : List MachineEvent → ℕ → Owing InviteClientPhase → Type 0
    Waits es m y = CallsBy moment y.phase ⊎ (y ≡ quiet Ended) ⊎ Any (GetsResponse IsAnyCode) es

    -- what is sent in calling leaves the phase calling
    waits-emits : (e : MachineEvent) (x : InviteClientPhase) (owes : List Owed) (y : Owing InviteClientPhase) → CallsBy moment x → Emits f p e (record { phase = x; owes = owes }) y → CallsBy moment y.phase
    waits-emits e (Calling w) owes y calls (inl (row, is_row, to)) = rw (to, (sends-calling p w e.kind e row is_row).2) calls
    waits-emits e x owes y calls (inl row) = absurd calls
    waits-emits e x owes y calls (inr (inl (left, pays, to))) = rw to calls
    waits-emits e x owes y calls (inr (inr (stays, same))) = absurd stays

    -- a refused message ends the client, or leaves it calling
    waits-fails : (ends : Bool) (es : List MachineEvent) (e : MachineEvent) (x : InviteClientPhase) (owes : List Owed) (y : Owing InviteClientPhase) → CallsBy moment x
        → Fails ends f p e (record { phase = x; owes = owes }) y → Waits es e.moment y
    waits-fails true es e x owes y calls fails = inr (inl fails.1)
    waits-fails false es e x owes y calls emits = inl (waits-emits e x owes y calls emits)

    -- a step leaves the client calling, or ends it, or receives a response
    waits-steps : (a : Action) (es : List MachineEvent) (e : MachineEvent) (x : InviteClientPhase) (owes : List Owed) (y : Owing InviteClientPhase) → e.action ≡ a → CallsBy moment x
        → Steps f p a e (record { phase = x; owes = owes }) y → Waits (es ++ e ∷ []) e.moment y
    waits-steps Received es e (Calling w) owes y was calls (inl (row, is_row, to)) = inr (inr (response-came es e w row was is_row))
    waits-steps Received es e x owes y was calls (inl row) = absurd calls
    waits-steps Received es e x owes y was calls (inr (none, same)) = inl (rw same calls)
    -- what is sent leaves the client calling, and a refusal or a restart ends it
    waits-steps Sent es e x owes y was calls emits = inl (waits-emits e x owes y calls emits)
    waits-steps Failed es e x owes y was calls fails = waits-fails (ends_refused x e.kind) (es ++ e ∷ []) e x owes y calls fails
    waits-steps Mark es e x owes y was calls h = absurd h
    waits-steps Restart es e Idle owes y was calls h = absurd calls
    waits-steps Restart es e x owes y was calls (inl (idle, to)) = absurd (subst (CallsBy moment) idle calls)
    waits-steps Restart es e x owes y was calls (inr (other, to)) = inr (inl to)

    -- along a run the client goes on to call, or has ended, or has got a response
    waits-kept : IsKept f p Waits
    waits-kept = record { as_it_waits = as_it_waits; as_it_ends = λ es h x holds may. inr (inl refl); as_it_takes = as_it_takes }
      where
        -- Waits stays true as time passes
        -- the run stands in x from the moment h until the moment m
        as_it_waits : (es : List MachineEvent) (h m : ℕ) (x : Owing InviteClientPhase) → Waits es h x → h ≤ m → Lasts f p x m → Waits es m x
        as_it_waits es h m x holds low lasts = holds

        -- Waits stays true after an event
        as_it_takes : (es : List MachineEvent) (e : MachineEvent) (x y : Owing InviteClientPhase) → Waits es e.moment x → Takes f p x e y → Waits (es ++ e ∷ []) e.moment y
        as_it_takes es e x y (inl calls) take = waits-steps e.action es e x.phase (left_at e x) y refl calls take
        as_it_takes es e x y (inr (inl ended)) take = inr (inl (over-steps f p IsInvited (λ k. k ≡ Request Invite) (λ k. k ≡ Request Cancel) (invites-once R is p) e.action e y (subst (λ z. Takes f p z e y) ended take)))
        as_it_takes es e x y (inr (inr came)) take = inr (inr (any-earlier (GetsResponse IsAnyCode) es (e ∷ []) came))

  -- the transaction of an INVITE without a response ends by timer B (section 17.1.1.2), where each state in which a run can stand can wait until then
  module _ (lasts : (events : List MachineEvent) (m : ℕ) (x : Owing InviteClientPhase) → Stands f p events m x → Lasts f p x m) where
    -- the transaction of an INVITE that has no response has ended once timer B has to have fired
    pub over-by-timer-b : (before after : List MachineEvent) (invite : MachineEvent) (m : ℕ) (y : Owing InviteClientPhase) → SendsRequest Invite invite →
        All (λ g. ¬ (GetsResponse IsAnyCode g)) after → Stands f p (before ++ invite ∷ after) m y → close_at p invite.moment (64 * p.t1) < m → y ≡ quiet Ended
    over-by-timer-b before after invite m y sent unanswered stands late =
        by-cut (cut f p (quiet Idle) 0 before invite after m y (stands-run f p (before ++ invite ∷ after) m y stands))
      where
        -- a client that calls since the INVITE does not last until m, which is after timer B
        too-late : (x : InviteClientPhase) (owes : List Owed) → CallsBy invite.moment x → ¬ (Lasts f p (record { phase = x; owes = owes }) m)
        too-late (Calling w) owes calls lasting = absurd (omega (arith, calls, lasting.0, late))
        too-late x owes calls lasting = absurd calls

        -- the client has ended: it would call too late, or it has a response
        by : Waits invite.moment after m y → y ≡ quiet Ended
        by (inl calls) = absurd (too-late y.phase y.owes calls (lasts (before ++ invite ∷ after) m y stands))
        by (inr (inl ended)) = ended
        by (inr (inr came)) = absurd (any-none (GetsResponse IsAnyCode) after unanswered came)

        -- the run is cut at the INVITE
        by-cut : Cut f p (quiet Idle) 0 before invite after m y → y ≡ quiet Ended
        by-cut found =
            let began = run-keeps f p (λ es h x. BeganBy h x.phase) began-kept before (quiet Idle) 0 invite.moment found.from tt found.leads in
            let calls = invite-calls invite found.from.phase (left_at invite found.from) found.to sent.1 began (step-of f p Sent invite found.from found.to sent.0 found.step) in
            by (run-keeps f p (Waits invite.moment) (waits-kept invite.moment) after found.to invite.moment m y (inl calls) found.goes)

    -- once timer B has to have fired for an INVITE that has no response, CANCEL alone is sent
    pub silent-after-timer-b : (before after : List MachineEvent) (invite e : MachineEvent) (y : Owing InviteClientPhase) → SendsRequest Invite invite →
        All (λ g. ¬ (GetsResponse IsAnyCode g)) after → e.action ≡ Sent → StandsAfter f p (before ++ invite ∷ after) e y → close_at p invite.moment (64 * p.t1) < e.moment → e.kind ≡ Request Cancel
    silent-after-timer-b before after invite e y sent unanswered is_sent (x, stands, take) late =
        let ended = over-by-timer-b before after invite e.moment x sent unanswered stands late in
        (over-emits f p IsInvited (λ k. k ≡ Request Invite) (λ k. k ≡ Request Cancel) (invites-once R is p) e y (step-of f p Sent e (quiet Ended) y is_sent (subst (λ z. Takes f p z e y) ended take))).0
