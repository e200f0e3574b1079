-- An INVITE client acknowledges each 300 to 699.
-- In the lemmas x is the phase or the state before a step and y the state after it, k is the kind of a message, row is where a row leads, m is a moment, and
-- h is a moment or what is known of a row.
-- es are the events so far; w is what a client that calls has: its request, when it was first sent, and when it is sent again.
-- In cases of `Emits` a message that is sent has a row (`row`, `is_row`, `to`), or pays a debt (`left`, `pays`), or changes nothing (`stays`,
-- `same`), which only the INVITE server by RFC 3261 alone lets it (Stays). In cases of `Steps` a message that is received has a row, or has none and
-- changes nothing (`none`, `same`).
use Rattle.std.proofs.Common.{◌≡◌, ◌≤◌, ◌<◌, ◌*◌, ◌⊎◌, inl, inr, ℕ, Bool, true, false, Some, None, List, [], ◌∷◌, ◌++◌, All, Contains, refl, sym, subst, ◌∙◌, arith}
use Rattle.std.specs.List.{Any}
use Rattle.std.proofs.lemmas.List.Elements.{All-nil, All-push, Contains-push}
use Rattle.sip_standard.specs.AckOf.{AckOf}
use Rattle.sip_standard.specs.declared.action.Action.{Action}
use Rattle.sip_standard.specs.declared.action.Action.TheVariants.{Sent, Received, Failed, Mark, Restart}
use Rattle.sip_standard.specs.declared.kind.Method.TheVariants.{Invite, Cancel}
use Rattle.sip_standard.specs.declared.kind.Kind.{Kind}
use Rattle.sip_standard.specs.declared.kind.Kind.TheVariants.{Request, Response}
use Rattle.sip_standard.specs.Times.{Times}
use Rattle.sip_standard.specs.Window.{open_at, close_at}
use Rattle.sip_standard.specs.MachineEvent.{MachineEvent}
use Rattle.sip_standard.specs.Kind.{IsProvisional, IsSuccess, IsUnsuccessful}
use Rattle.sip_standard.specs.Debts.{Owed}
use Rattle.sip_standard.specs.Figure.{Figure, keeps, gains, Owing, changed, quiet, Emits, Steps, Takes, Lasts, MayEnd}
use Rattle.sip_standard.specs.Waiting.{Waiting}
use Rattle.sip_standard.specs.InviteClient.{InviteClientPhase, Idle, Ended, Calling, Proceeding, Completed, Sends, Satisfies}
use Rattle.sip_standard.specs.Stands.{Stands}
use Rattle.consequences.specs.Acknowledged.{Acknowledges}
use Rattle.consequences.specs.Events.{SendsRequest, GetsResponse, IsRefused, IsRestart}
use Rattle.consequences.proofs.lemmas.run.Lists.{any-last, any-earlier}
use Rattle.consequences.proofs.lemmas.run.MustSend.{still-owed, other-paid, more-owed, no-end, in-time}
use Rattle.consequences.proofs.lemmas.run.Running.{IsKept, left_at, step-of, stands-run, Cut, cut, run-keeps}
use Rattle.consequences.proofs.lemmas.client.InviteClients.{Row, Receiving, client, Answers, IsReceiving, pays-completed, sends-calling, sends-proceeding, sends-completed}
use Rattle.consequences.proofs.lemmas.client.Unanswered.{CallsFrom, begins-calling}
use Rattle.consequences.proofs.lemmas.server.Said.{codes-are-one}

-- the event is a 2xx, a message that the transport refused, or a restart
abbrev pub IsBroken : MachineEvent → Type 0
IsBroken g = GetsResponse IsSuccess g ⊎ IsRefused g ⊎ IsRestart g

-- What follows is of the transaction of `invite`, by the times p.
module _ (p : Times) (invite : MachineEvent) where
  -- by the moment a client may have given up, since the event sent a CANCEL of this INVITE 64*T1 before
  abbrev pub IsGivenUp : ℕ → MachineEvent → Type 0
  IsGivenUp m g = SendsRequest Cancel g × (invite.moment ≤ g.moment) × (open_at p g.moment (64 * p.t1) ≤ m)

  -- by the moment timer D may have fired, since the event got a 300 to 699 at least 32 s before, or over a reliable transport
  abbrev pub IsCompleteBy : ℕ → MachineEvent → Type 0
  IsCompleteBy m g = GetsResponse IsUnsuccessful g × (invite.moment ≤ g.moment) × ((invite.reliable ≡ true) ⊎ (open_at p g.moment 32000 ≤ m))

  -- the event ends the wait for a response by the moment
  abbrev pub Ends : ℕ → MachineEvent → Type 0
  Ends m g = IsBroken g ⊎ IsGivenUp m g ⊎ IsCompleteBy m g

  -- the event is a provisional response that comes before timer B may fire
  abbrev pub IsEarly : MachineEvent → Type 0
  IsEarly g = GetsResponse IsProvisional g × (g.moment < open_at p invite.moment (64 * p.t1))

  -- the client need not acknowledge any more: an event ended its wait, or timer B may have fired, before which no provisional response came
  abbrev pub Over : List MachineEvent → ℕ → Type 0
  Over es m = Any (Ends m) es ⊎ ((open_at p invite.moment (64 * p.t1) ≤ m) × All (λ g. ¬ (IsEarly g)) es)

-- What follows is of the transaction of `invite`: an INVITE client whose rows for responses are R, with the times p.
module _ (R : Receiving) (is : IsReceiving R) (p : Times) (invite : MachineEvent) where
  -- the figure of this client
  abbrev f : Figure InviteClientPhase
  f = client R

  -- What follows leads from the INVITE to the response.

  -- what ended the wait by a moment has ended it by a later one
  ends-later : (g : MachineEvent) (h m : ℕ) → h ≤ m → Ends p invite h g → Ends p invite m g
  ends-later g h m low (inl broken) = inl broken
  ends-later g h m low (inr (inl (cancel, from, opening))) = inr (inl (cancel, from, omega (arith, low, opening)))
  ends-later g h m low (inr (inr (got, from, inl reliable))) = inr (inr (got, from, inl reliable))
  ends-later g h m low (inr (inr (got, from, inr opening))) = inr (inr (got, from, inr (omega (arith, low, opening))))

  -- Over stays true later
  over-later : (es : List MachineEvent) (h m : ℕ) → h ≤ m → Over p invite es h → Over p invite es m
  over-later es h m low (inl ended) = let (k, g, inside, at, ends) = ended in inl (k, g, inside, at, ends-later g h m low ends)
  over-later es h m low (inr (late, none)) = inr (omega (arith, low, late), none)

  -- Over stays true after one event more
  over-after : (es : List MachineEvent) (e : MachineEvent) → Over p invite es e.moment → Over p invite (es ++ e ∷ []) e.moment
  over-after es e (inl ended) = inl (any-earlier (Ends p invite e.moment) es (e ∷ []) ended)
  over-after es e (inr (late, none)) = inr (late, All-push (λ g. ¬ (IsEarly p invite g)) es e none (λ early. absurd (omega (arith, late, early.1))))

  -- the events have a CANCEL of this moment, and it comes after the INVITE
  abbrev HasCancel : ℕ → List MachineEvent → Type 0
  HasCancel first es = Any (λ g. SendsRequest Cancel g × (invite.moment ≤ g.moment) × (g.moment ≡ first)) es

  -- the events have a 300 to 699 of this moment, and it comes after the INVITE
  abbrev HasUnsuccessful : ℕ → List MachineEvent → Type 0
  HasUnsuccessful set es = Any (λ g. GetsResponse IsUnsuccessful g × (invite.moment ≤ g.moment) × (g.moment ≡ set)) es

  -- the client has sent this INVITE and waits for its final response, or it has got a 300 to 699 and is completed
  abbrev Waits : List MachineEvent → InviteClientPhase → Type 0
  Waits es (Calling w) = CallsFrom invite (Calling w) × All (λ g. ¬ (IsEarly p invite g)) es
  Waits es (Proceeding reliable request None) = (request ≡ invite.text) × (reliable ≡ invite.reliable)
  Waits es (Proceeding reliable request (Some first)) = (request ≡ invite.text) × (reliable ≡ invite.reliable) × HasCancel first es
  Waits es (Completed reliable request set) = (request ≡ invite.text) × (reliable ≡ invite.reliable) × HasUnsuccessful set es
  Waits es x = ⊥

  -- Waits stays true in completed after one event more
  completed-later : (es : List MachineEvent) (e : MachineEvent) (reliable : Bool) (request : List ℕ) (set : ℕ) → Waits es (Completed reliable request set) → Waits (es ++ e ∷ []) (Completed reliable request set)
  completed-later es e reliable request set waits =
      (waits.0, waits.1, any-earlier (λ g. GetsResponse IsUnsuccessful g × (invite.moment ≤ g.moment) × (g.moment ≡ set)) es (e ∷ []) waits.2)

  -- Waits stays true in proceeding after one event more
  cancelled-later : (es : List MachineEvent) (e : MachineEvent) (reliable : Bool) (request : List ℕ) (first : ℕ) → Waits es (Proceeding reliable request (Some first)) →
      Waits (es ++ e ∷ []) (Proceeding reliable request (Some first))
  cancelled-later es e reliable request first waits =
      (waits.0, waits.1, any-earlier (λ g. SendsRequest Cancel g × (invite.moment ≤ g.moment) × (g.moment ≡ first)) es (e ∷ []) waits.2)

  -- Waits stays true after one event more that leaves the phase as it is: in calling that is no provisional response before timer B may fire
  waits-later : (es : List MachineEvent) (e : MachineEvent) (x : InviteClientPhase) → ((w : Waiting) → x ≡ Calling w → ¬ (IsEarly p invite e)) → Waits es x → Waits (es ++ e ∷ []) x
  waits-later es e (Calling w) late waits = (waits.0, All-push (λ g. ¬ (IsEarly p invite g)) es e waits.1 (late w refl))
  waits-later es e (Proceeding reliable request None) late waits = waits
  waits-later es e (Proceeding reliable request (Some first)) late waits = cancelled-later es e reliable request first waits
  waits-later es e (Completed reliable request set) late waits = completed-later es e reliable request set waits
  waits-later es e x late waits = absurd waits

  -- from the INVITE on, the client waits for the response that it must acknowledge, or it need not acknowledge any more
  abbrev Awaits : List MachineEvent → ℕ → Owing InviteClientPhase → Type 0
  Awaits es m y = (invite.moment ≤ m) × (Waits es y.phase ⊎ Over p invite es m)

  -- What follows is of one event e that comes after the events es.
  module _ (es : List MachineEvent) (e : MachineEvent) where
    -- the events with the event that comes
    abbrev Now : List MachineEvent
    Now = es ++ e ∷ []

    -- a message that is sent is no response that is received
    not-early : e.action ≡ Sent → ¬ (IsEarly p invite e)
    not-early was early = let got = early.0.0 in cc

    -- the event is a CANCEL of its moment
    has-cancel : e.action ≡ Sent → e.kind ≡ Request Cancel → invite.moment ≤ e.moment → HasCancel e.moment Now
    has-cancel was kind low = any-last (λ g. SendsRequest Cancel g × (invite.moment ≤ g.moment) × (g.moment ≡ e.moment)) es e ((was, kind), low, refl)

    -- a response to the INVITE leads to a phase of which Waits holds, or Over holds
    -- a provisional response leads to proceeding, after a 2xx Over holds, and a 300 to 699 leads to completed
    answered : (reliable : Bool) (request : List ℕ) (row : Row) → e.action ≡ Received → invite.moment ≤ e.moment → request ≡ invite.text → reliable ≡ invite.reliable → Answers reliable request e.kind e row
        → Waits Now row.0 ⊎ Over p invite Now e.moment
    answered reliable request row was low text transport (code, kind, inl h) = inl (rw h.1 (text, transport))
    answered reliable request row was low text transport (code, kind, inr (inl h)) = inr (inl (any-last (Ends p invite e.moment) es e (inl (inl (was, (code, kind, h.0))))))
    answered reliable request row was low text transport (code, kind, inr (inr h)) =
        inl (rw h.1 (text, transport, any-last (λ g. GetsResponse IsUnsuccessful g × (invite.moment ≤ g.moment) × (g.moment ≡ e.moment)) es e ((was, (code, kind, h.0)), low, refl)))

    -- the row of a received message leads from a client that waits to a phase of which Waits holds, or Over holds
    waits-received : (x : InviteClientPhase) (row : Row) → e.action ≡ Received → invite.moment ≤ e.moment → Waits es x → R p x e.kind e row → Waits Now row.0 ⊎ Over p invite Now e.moment
    waits-received (Calling w) row was low waits h = answered w.reliable w.request row was low waits.0.1 waits.0.2 (is.calling p w e.kind e row h)
    waits-received (Proceeding reliable request None) row was low waits h = answered reliable request row was low waits.0 waits.1 (is.proceeding p reliable request None e.kind e row h)
    waits-received (Proceeding reliable request (Some first)) row was low waits h = answered reliable request row was low waits.0 waits.1 (is.proceeding p reliable request (Some first) e.kind e row h)
    waits-received (Completed reliable request set) row was low waits h = inl (rw (is.completed p reliable request set e.kind e row h).3 (completed-later es e reliable request set waits))
    waits-received x row was low waits h = absurd waits

    -- the row of a sent message leads from a client that waits to a phase of which Waits holds
    waits-sent : (x : InviteClientPhase) (row : Row) → e.action ≡ Sent → invite.moment ≤ e.moment → Waits es x → Sends p x e.kind e row → Waits Now row.0
    waits-sent (Calling w) row was low waits h = rw (sends-calling p w e.kind e row h).2 (waits.0, All-push (λ g. ¬ (IsEarly p invite g)) es e waits.1 (not-early was))
    waits-sent (Proceeding reliable request None) row was low waits h = by (sends-proceeding p reliable request None e.kind e row h)
      where
        -- the client waits after either row, which is that of a CANCEL
        by : (e.kind ≡ Request Cancel) × ((row ≡ (Proceeding reliable request (Some e.moment), keeps)) ⊎ (row ≡ (Proceeding reliable request None, keeps))) → Waits Now row.0
        by (cancel, inl leads) = rw leads (waits.0, waits.1, has-cancel was cancel low)
        by (cancel, inr leads) = rw leads waits
    waits-sent (Proceeding reliable request (Some first)) row was low waits h = by (sends-proceeding p reliable request (Some first) e.kind e row h)
      where
        -- the client waits after either row: a CANCEL after the first one counts as the first, or leaves that as it was
        by : (e.kind ≡ Request Cancel) × ((row ≡ (Proceeding reliable request (Some e.moment), keeps)) ⊎ (row ≡ (Proceeding reliable request (Some first), keeps))) → Waits Now row.0
        by (cancel, inl leads) = rw leads (waits.0, waits.1, has-cancel was cancel low)
        by (cancel, inr leads) = rw leads (cancelled-later es e reliable request first waits)
    waits-sent (Completed reliable request set) row was low waits h = rw (sends-completed p reliable request set e.kind e row h).1 (completed-later es e reliable request set waits)
    waits-sent x row was low waits h = absurd waits

    -- a send leaves a client that waits waiting
    waits-emits : (x : InviteClientPhase) (owes : List Owed) (y : Owing InviteClientPhase) → e.action ≡ Sent → invite.moment ≤ e.moment → Waits es x → Emits f p e (record { phase = x; owes = owes }) y → Waits Now y.phase
    waits-emits x owes y was low waits (inl (row, is_row, to)) = rw to (waits-sent x row was low waits is_row)
    waits-emits x owes y was low waits (inr (inl (left, pays, to))) = rw to (waits-later es e x (λ w calls. not-early was) waits)
    waits-emits x owes y was low waits (inr (inr (stays, same))) = absurd stays

    -- in calling a provisional response has a row, so a message without one is none
    unmoved : (x : InviteClientPhase) (w : Waiting) → x ≡ Calling w → ((row : Row) → ¬ (R p x e.kind e row)) → ¬ (IsEarly p invite e)
    unmoved x w calls none early =
        let (code, kind, provisional) = early.0.1 in
        let row : Row = (Proceeding w.reliable w.request None, keeps) in
        none row (subst (λ z. R p z e.kind e row) (sym calls) (subst (λ k. R p (Calling w) k e row) (sym kind) (is.takes_provisional p w code e provisional)))

    -- a step leads from a client that waits to a phase of which Waits holds, or Over holds
    waits-steps : (a : Action) (x : InviteClientPhase) (owes : List Owed) (y : Owing InviteClientPhase) → e.action ≡ a → invite.moment ≤ e.moment → Waits es x → Steps f p a e (record { phase = x; owes = owes }) y
        → Waits Now y.phase ⊎ Over p invite Now e.moment
    -- a received message has a row, or leaves the phase as it is; after a failed send or a restart the client is over
    waits-steps Received x owes y was low waits (inl (row, is_row, to)) = rw to (waits-received x row was low waits is_row)
    waits-steps Received x owes y was low waits (inr (none, same)) =
        inl (rw same (waits-later es e x (λ w calls. unmoved x w calls (λ row is_row. none (record { phase = row.0; owes = changed p e.moment row.1 owes }) (row, is_row, refl))) waits))
    waits-steps Sent x owes y was low waits emits = inl (waits-emits x owes y was low waits emits)
    waits-steps Failed x owes y was low waits fails = inr (inl (any-last (Ends p invite e.moment) es e (inl (inr (inl was)))))
    waits-steps Mark x owes y was low waits h = absurd h
    waits-steps Restart x owes y was low waits h = inr (inl (any-last (Ends p invite e.moment) es e (inl (inr (inr was)))))

  -- a client that waits and may end need not acknowledge any more
  -- calling ends by timer B; proceeding without a CANCEL never, and with one 64*T1 after it; completed by timer D, at once over a reliable transport
  waits-ends : (es : List MachineEvent) (h : ℕ) (x : InviteClientPhase) (owes : List Owed) → Waits es x → MayEnd f p (record { phase = x; owes = owes }) h → Over p invite es h
  waits-ends es h (Calling w) owes waits may = inr (subst (λ m. open_at p m (64 * p.t1) ≤ h) waits.0.0 may.0, waits.1)
  waits-ends es h (Proceeding reliable request None) owes waits may = absurd may.0
  waits-ends es h (Proceeding reliable request (Some first)) owes waits may =
      let (k, g, inside, at, (cancel, from, same)) = waits.2 in inl (k, g, inside, at, inr (inl (cancel, from, subst (λ m. open_at p m (64 * p.t1) ≤ h) (sym same) may.0)))
  waits-ends es h (Completed true request set) owes waits may =
      let (k, g, inside, at, (got, from, same)) = waits.2 in inl (k, g, inside, at, inr (inr (got, from, inl (sym waits.1))))
  waits-ends es h (Completed false request set) owes waits may =
      let (k, g, inside, at, (got, from, same)) = waits.2 in inl (k, g, inside, at, inr (inr (got, from, inr (subst (λ m. open_at p m 32000 ≤ h) (sym same) may.0))))
  waits-ends es h x owes waits may = absurd waits

  -- along a run the client goes on to wait, or need not acknowledge any more
  awaits-kept : IsKept f p Awaits
  awaits-kept = record { as_it_waits = as_it_waits; as_it_ends = as_it_ends; as_it_takes = as_it_takes }
    where
      -- Awaits stays true as time passes
      -- the run stands in x from the moment h until the moment m
      as_it_waits : (es : List MachineEvent) (h m : ℕ) (x : Owing InviteClientPhase) → Awaits es h x → h ≤ m → Lasts f p x m → Awaits es m x
      as_it_waits es h m x (from, inl waits) low lasts = (omega (arith, from, low), inl waits)
      as_it_waits es h m x (from, inr over) low lasts = (omega (arith, from, low), inr (over-later es h m low over))

      -- Awaits stays true where the transaction ends
      as_it_ends : (es : List MachineEvent) (h : ℕ) (x : Owing InviteClientPhase) → Awaits es h x → MayEnd f p x h → Awaits es h (quiet Ended)
      as_it_ends es h x (from, inl waits) may = (from, inr (waits-ends es h x.phase x.owes waits may))
      as_it_ends es h x (from, inr over) may = (from, inr over)

      -- Awaits stays true after an event
      as_it_takes : (es : List MachineEvent) (e : MachineEvent) (x y : Owing InviteClientPhase) → Awaits es e.moment x → Takes f p x e y → Awaits (es ++ e ∷ []) e.moment y
      as_it_takes es e x y (from, inl waits) take = (from, waits-steps es e e.action x.phase (left_at e x) y refl from waits take)
      as_it_takes es e x y (from, inr over) take = (from, inr (over-after es e over))

  -- What follows leads from `response`, a response of 300 to 699, to its ACK.

  module _ (response : MachineEvent) where
    -- the ACK of the response, which must be sent as late as an element may be
    abbrev debt : Owed
    debt = record { message = response.text; deadline = close_at p response.moment 0; must = true }

    -- the phase is completed, for this INVITE
    abbrev IsCompleted : InviteClientPhase → Type 0
    IsCompleted (Completed reliable request set) = request ≡ invite.text
    IsCompleted x = ⊥

    -- the client is completed and owes the ACK of the response
    abbrev Owes : Owing InviteClientPhase → Type 0
    Owes y = IsCompleted y.phase × Contains y.owes debt

    -- the row of a 300 to 699 makes the client completed, and owes the ACK of the response
    -- the response is of one code, a 300 to 699, so its row is neither that of a provisional response nor that of a 2xx
    owes-answer : (reliable : Bool) (request : List ℕ) (k : Kind) (row : Row) (owes : List Owed) (code : ℕ) → k ≡ Response code → IsUnsuccessful code → request ≡ invite.text → Answers reliable request k response row
        → IsCompleted row.0 × Contains (changed p response.moment row.1 owes) debt
    owes-answer reliable request k row owes code kind bad text (other, again, inl h) = absurd (omega (arith, codes-are-one code other (sym kind ∙ again), bad.0, h.0.1))
    owes-answer reliable request k row owes code kind bad text (other, again, inr (inl h)) = absurd (omega (arith, codes-are-one code other (sym kind ∙ again), bad.0, h.0.1))
    owes-answer reliable request k row owes code kind bad text (other, again, inr (inr h)) = rw h.1 (text, Contains-push owes debt)

    -- the row of the response makes a client that waits completed, and owes the ACK of the response
    -- in calling and in proceeding the response leads to completed with its ACK owed; in completed the ACK is owed once more
    taken : (es : List MachineEvent) (x : InviteClientPhase) (row : Row) (owes : List Owed) (code : ℕ) → response.kind ≡ Response code → IsUnsuccessful code → Waits es x → R p x response.kind response row
        → IsCompleted row.0 × Contains (changed p response.moment row.1 owes) debt
    taken es (Calling w) row owes code kind bad waits h = owes-answer w.reliable w.request response.kind row owes code kind bad waits.0.1 (is.calling p w response.kind response row h)
    taken es (Proceeding reliable request None) row owes code kind bad waits h = owes-answer reliable request response.kind row owes code kind bad waits.0 (is.proceeding p reliable request None response.kind response row h)
    taken es (Proceeding reliable request (Some first)) row owes code kind bad waits h =
        owes-answer reliable request response.kind row owes code kind bad waits.0 (is.proceeding p reliable request (Some first) response.kind response row h)
    taken es (Completed reliable request set) row owes code kind bad waits h = rw (is.completed p reliable request set response.kind response row h).3 (waits.0, Contains-push owes debt)
    taken es x row owes code kind bad waits h = absurd waits

    -- a row for a response is a row for a message of that kind
    has : (x : InviteClientPhase) (k : Kind) (code : ℕ) (row : Row) → k ≡ Response code → R p x (Response code) response row → (next : Row) × R p x k response next
    has x k code row kind is_row = (row, subst (λ j. R p x j response row) (sym kind) is_row)

    -- a client that waits has a row for a 300 to 699
    opens : (es : List MachineEvent) (x : InviteClientPhase) (k : Kind) (code : ℕ) → k ≡ Response code → IsUnsuccessful code → Waits es x → (row : Row) × R p x k response row
    opens es (Calling w) k code kind bad waits =
        has (Calling w) k code (Completed w.reliable w.request response.moment, gains true response.text) kind (is.takes_calling p w code response bad)
    opens es (Proceeding reliable request None) k code kind bad waits =
        has (Proceeding reliable request None) k code (Completed reliable request response.moment, gains true response.text) kind (is.takes_proceeding p reliable request None code response bad)
    -- in proceeding, and in completed, the row leads to completed too
    opens es (Proceeding reliable request (Some first)) k code kind bad waits =
        has (Proceeding reliable request (Some first)) k code (Completed reliable request response.moment, gains true response.text) kind
        (is.takes_proceeding p reliable request (Some first) code response bad)
    opens es (Completed reliable request set) k code kind bad waits =
        has (Completed reliable request set) k code (Completed reliable request set, gains true response.text) kind (is.takes_completed p reliable request set code response bad)
    opens es x k code kind bad waits = absurd waits

    -- the step of the response leaves a client that waits completed, and it owes the ACK of the response
    response-owes : (es : List MachineEvent) (x : InviteClientPhase) (owes : List Owed) (y : Owing InviteClientPhase) (code : ℕ) → response.kind ≡ Response code → IsUnsuccessful code → Waits es x
        → Steps f p Received response (record { phase = x; owes = owes }) y → Owes y
    response-owes es x owes y code kind bad waits (inl (row, is_row, to)) = rw to (taken es x row owes code kind bad waits is_row)
    response-owes es x owes y code kind bad waits (inr (none, same)) =
        let (row, is_row) = opens es x response.kind code kind bad waits in absurd (none (record { phase = row.0; owes = changed p response.moment row.1 owes }) (row, is_row, refl))

    -- the client owes the ACK of the response, or sent it in time, or a message was refused, or the element started again
    abbrev Owing-on : List MachineEvent → ℕ → Owing InviteClientPhase → Type 0
    Owing-on es m y = Owes y ⊎ Any (Acknowledges p invite response) es ⊎ Any (λ g. IsRefused g ⊎ IsRestart g) es

    -- the row of a received message leaves the client completed, and the ACK owed
    owes-received : (x : InviteClientPhase) (owes : List Owed) (e : MachineEvent) (row : Row) → IsCompleted x → Contains owes debt → R p x e.kind e row → IsCompleted row.0 × Contains (changed p e.moment row.1 owes) debt
    owes-received (Completed reliable request set) owes e row done owed h =
        rw (is.completed p reliable request set e.kind e row h).3 (done, more-owed debt refl owes (record { message = e.text; deadline = close_at p e.moment 0; must = true } ∷ []) owed)
    owes-received x owes e row done owed h = absurd done

    -- the row of a sent message leaves the client completed, and the ACK owed
    owes-sent : (x : InviteClientPhase) (owes : List Owed) (e : MachineEvent) (row : Row) → IsCompleted x → Contains owes debt → Sends p x e.kind e row → IsCompleted row.0 × Contains (changed p e.moment row.1 owes) debt
    owes-sent (Completed reliable request set) owes e row done owed h = rw (sends-completed p reliable request set e.kind e row h).1 (done, owed)
    owes-sent x owes e row done owed h = absurd done

    -- an ACK that pays the response is the ACK of the response, sent in time
    owes-paid : (es : List MachineEvent) (x : InviteClientPhase) (e : MachineEvent) → e.action ≡ Sent → IsCompleted x → Satisfies x e.kind e response.text → e.moment ≤ close_at p response.moment 0 → Any (Acknowledges p invite response) (es ++ e ∷ [])
    owes-paid es (Completed reliable request set) e was done pays low =
        let ack = pays-completed reliable request set e.kind e response.text pays in
        any-last (Acknowledges p invite response) es e ((was, ack.0), subst (λ bytes. AckOf e.text bytes response.text) done ack.1, low)
    owes-paid es x e was done pays low = absurd done

    -- where the ACK is owed, it is still owed after a send, or was what was sent
    owes-emits : (es : List MachineEvent) (x : InviteClientPhase) (owes : List Owed) (e : MachineEvent) (y : Owing InviteClientPhase) → e.action ≡ Sent → IsCompleted x → Contains owes debt
        → Emits f p e (record { phase = x; owes = owes }) y → Owing-on (es ++ e ∷ []) e.moment y
    owes-emits es x owes e y was done owed (inl (row, is_row, to)) = inl (rw to (owes-sent x owes e row done owed is_row))
    owes-emits es x owes e y was done owed (inr (inl (left, pays, to))) = by (other-paid debt refl _ owes left pays owed)
      where
        -- the state still owes the ACK, or the ACK was sent: this event may have paid it
        by : Contains left debt ⊎ (Satisfies x e.kind e response.text × (e.moment ≤ close_at p response.moment 0)) → Owing-on (es ++ e ∷ []) e.moment y
        by (inl still) = inl (rw to (done, still))
        by (inr paid) = inr (inl (owes-paid es x e was done paid.0 paid.1))
    owes-emits es x owes e y was done owed (inr (inr (stays, same))) = absurd stays

    -- where the ACK is owed, it is still owed after a step, or the step is that of the ACK, of a refused message or of a restart
    owes-steps : (a : Action) (es : List MachineEvent) (x : InviteClientPhase) (owes : List Owed) (e : MachineEvent) (y : Owing InviteClientPhase) → e.action ≡ a → IsCompleted x → Contains owes debt
        → Steps f p a e (record { phase = x; owes = owes }) y → Owing-on (es ++ e ∷ []) e.moment y
    -- a received message leads along a row that keeps the debt, or leaves all as it is
    owes-steps Received es x owes e y was done owed (inl (row, is_row, to)) = inl (rw to (owes-received x owes e row done owed is_row))
    owes-steps Received es x owes e y was done owed (inr (none, same)) = inl (rw same (done, owed))
    owes-steps Sent es x owes e y was done owed emits = owes-emits es x owes e y was done owed emits
    -- a refused message and a restart end the wait; a mark is no step
    owes-steps Failed es x owes e y was done owed fails = inr (inr (any-last (λ g. IsRefused g ⊎ IsRestart g) es e (inl was)))
    owes-steps Mark es x owes e y was done owed h = absurd h
    owes-steps Restart es x owes e y was done owed h = inr (inr (any-last (λ g. IsRefused g ⊎ IsRestart g) es e (inr was)))

    -- along a run the ACK stays owed, unless it was sent in time, a message was refused, or the element started again
    owes-kept : IsKept f p Owing-on
    owes-kept = record { as_it_waits = λ es h m x holds low lasts. holds; as_it_ends = as_it_ends; as_it_takes = as_it_takes }
      where
        -- an end keeps Owing-on, since nothing ends while the ACK is owed
        as_it_ends : (es : List MachineEvent) (h : ℕ) (x : Owing InviteClientPhase) → Owing-on es h x → MayEnd f p x h → Owing-on es h (quiet Ended)
        as_it_ends es h x (inl owes) may = absurd (no-end debt refl f p x h owes.1 may)
        as_it_ends es h x (inr over) may = inr over

        -- after an event the ACK is still owed, or was sent
        as_it_takes : (es : List MachineEvent) (e : MachineEvent) (x y : Owing InviteClientPhase) → Owing-on es e.moment x → Takes f p x e y → Owing-on (es ++ e ∷ []) e.moment y
        as_it_takes es e x y (inl owes) take = owes-steps e.action es x.phase (left_at e x) e y refl owes.0 (still-owed debt refl e x owes.1) take
        as_it_takes es e x y (inr (inl acked)) take = inr (inl (any-earlier (Acknowledges p invite response) es (e ∷ []) acked))
        as_it_takes es e x y (inr (inr broken)) take = inr (inr (any-earlier (λ g. IsRefused g ⊎ IsRestart g) es (e ∷ []) broken))

    -- once the time to acknowledge a 300 to 699 is over, its ACK has been sent, or a message was refused, or the element began anew
    -- `lasts` says that each state in which a run can stand can wait; y is the state in which the run stands at the moment m, and g an event
    pub acknowledged : (lasts : (events : List MachineEvent) (m : ℕ) (x : Owing InviteClientPhase) → Stands f p events m x → Lasts f p x m) (before between after : List MachineEvent) (m : ℕ) (y : Owing InviteClientPhase) →
        All (λ g. ¬ (SendsRequest Invite g)) before → SendsRequest Invite invite → ¬ (Over p invite between response.moment) → GetsResponse IsUnsuccessful response →
        Stands f p (before ++ invite ∷ (between ++ response ∷ after)) m y → close_at p response.moment 0 < m → Any (Acknowledges p invite response) after ⊎ Any (λ g. IsRefused g ⊎ IsRestart g) after
    acknowledged lasts before between after m y none sent waiting gets stands late =
        by-invite (cut f p (quiet Idle) 0 before invite (between ++ response ∷ after) m y (stands-run f p (before ++ invite ∷ (between ++ response ∷ after)) m y stands))
      where
        -- m is after the deadline of the ACK, so the ACK is owed no more
        by-end : Owing-on after m y → Any (Acknowledges p invite response) after ⊎ Any (λ g. IsRefused g ⊎ IsRestart g) after
        by-end (inl owes) = let low = in-time debt refl f p y m owes.1 (lasts (before ++ invite ∷ (between ++ response ∷ after)) m y stands) in absurd (omega (arith, low, late))
        by-end (inr over) = over

        -- a client that calls waits
        calling-waits : (x : InviteClientPhase) → CallsFrom invite x → Waits [] x
        calling-waits (Calling w) calls = (calls, All-nil (λ g. ¬ (IsEarly p invite g)))
        calling-waits x calls = absurd calls

        -- from the INVITE on, the run is cut at the response
        by-response : (x : Owing InviteClientPhase) → CallsFrom invite x.phase → Cut f p x invite.moment between response after m y → Any (Acknowledges p invite response) after ⊎ Any (λ g. IsRefused g ⊎ IsRestart g) after
        by-response x calls found = by (run-keeps f p Awaits awaits-kept between x invite.moment response.moment found.from (omega arith, inl (calling-waits x.phase calls)) found.leads).1
          where
            -- the ACK is sent, or a refusal or a restart comes: the client waited for the response, or the time for its ACK was over before it
            by : Waits between found.from.phase ⊎ Over p invite between response.moment → Any (Acknowledges p invite response) after ⊎ Any (λ g. IsRefused g ⊎ IsRestart g) after
            by (inl waits) =
                let owes = response-owes between found.from.phase (left_at response found.from) found.to gets.1.0 gets.1.1 gets.1.2 waits (step-of f p Received response found.from found.to gets.0 found.step) in
                by-end (run-keeps f p Owing-on owes-kept after found.to response.moment m y (inl owes) found.goes)
            by (inr over) = absurd (waiting over)

        -- the run is cut at the INVITE
        by-invite : Cut f p (quiet Idle) 0 before invite (between ++ response ∷ after) m y → Any (Acknowledges p invite response) after ⊎ Any (λ g. IsRefused g ⊎ IsRestart g) after
        by-invite found = by-response found.to (begins-calling R is p before invite found.from found.to none sent found.leads found.step) (cut f p found.to invite.moment between response after m y found.goes)
