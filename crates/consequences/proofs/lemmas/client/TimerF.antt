-- A client of any method but INVITE ends by timer F, and sends nothing after it.
-- In the lemmas x is the phase or the state before a step and y the state after it, k is the kind of a message, row is where a row leads, m is a moment, and
-- h is a moment or what is known of a row.
-- es are the events so far; w is what a client that waits has: its request, when it was first sent, and when it is sent again.
-- In cases of `Emits` a message that is sent has a row (`row`, `is_row`, `to`), or pays a debt (`left`, `pays`), or changes nothing (`stays`,
-- `same`), which only the INVITE server by RFC 3261 alone lets it (Stays). In cases of `Steps` a message that is received has a row, or has none and
-- changes nothing (`none`, `same`), and a restart leaves idle as it is (`idle`) and ends any other phase (`other`).
-- `Unit {0}` holds anyway, by `tt`.
use Rattle.std.proofs.Common.{◌≡◌, ◌≤◌, ◌<◌, ◌*◌, ◌⊎◌, inl, inr, ℕ, List, [], ◌∷◌, ◌++◌, All, refl, subst, arith}
use Rattle.std.specs.List.{Any}
use Rattle.sip_standard.specs.declared.action.Action.{Action}
use Rattle.sip_standard.specs.declared.action.Action.TheVariants.{Sent, Received, Failed, Mark, Restart}
use Rattle.sip_standard.specs.declared.kind.Kind.{Kind}
use Rattle.sip_standard.specs.declared.kind.Kind.TheVariants.{Request, Response}
use Rattle.sip_standard.specs.Times.{Times}
use Rattle.sip_standard.specs.Window.{close_at}
use Rattle.sip_standard.specs.MachineEvent.{MachineEvent}
use Rattle.sip_standard.specs.Kind.{IsFinal}
use Rattle.sip_standard.specs.Debts.{Owed}
use Rattle.sip_standard.specs.Figure.{Change, Owing, quiet, Emits, Steps, Takes, Lasts}
use Rattle.sip_standard.specs.PlainClient.{PlainClientPhase, Idle, Ended, Trying, Proceeding, Completed, Receives, Sends, plain_client}
use Rattle.sip_standard.specs.Stands.{Stands, StandsAfter}
use Rattle.consequences.specs.Events.{SendsAnyRequest, GetsResponse}
use Rattle.consequences.proofs.lemmas.run.Lists.{any-last, any-earlier, any-none}
use Rattle.consequences.proofs.lemmas.run.Running.{IsKept, left_at, step-of, stands-run, Cut, cut, run-keeps}

-- What follows is of the non-INVITE client with the times p.
module _ (p : Times) where
  -- where the client waits for its response, its request was first sent by the moment
  abbrev BeganBy : ℕ → PlainClientPhase → Type 0
  BeganBy m (Trying w) = w.start ≤ m
  BeganBy m (Proceeding w) = w.start ≤ m
  BeganBy m x = Unit {0}

  -- what began by a moment began by every later one
  -- x is the phase, and h and m are the two moments
  began-later : (x : PlainClientPhase) (h m : ℕ) → h ≤ m → BeganBy h x → BeganBy m x
  began-later Idle h m low began = tt
  began-later Ended h m low began = tt
  began-later (Trying w) h m low began = omega (arith, low, began)
  began-later (Proceeding w) h m low began = omega (arith, low, began)
  began-later (Completed reliable set) h m low began = tt

  -- the row of a received message keeps BeganBy
  -- a provisional response leaves the wait as it is, and after a final one the client waits no more
  began-received : (x : PlainClientPhase) (k : Kind) (e : MachineEvent) (row : PlainClientPhase × Change) → BeganBy e.moment x → Receives p x k e row → BeganBy e.moment row.0
  began-received (Trying w) (Response code) e row began (inl h) = rw h.1 began
  began-received (Trying w) (Response code) e row began (inr h) = rw h.1 tt
  began-received (Proceeding w) (Response code) e row began h = rw h.1 tt
  began-received x k e row began h = absurd h

  -- the client waits for its response, and its request was first sent by the moment
  abbrev WaitsBy : ℕ → PlainClientPhase → Type 0
  WaitsBy m (Trying w) = w.start ≤ m
  WaitsBy m (Proceeding w) = w.start ≤ m
  WaitsBy m x = ⊥

  -- a phase of which WaitsBy holds is one of which BeganBy holds
  waits-began : (x : PlainClientPhase) (m : ℕ) → WaitsBy m x → BeganBy m x
  waits-began (Trying w) m waits = waits
  waits-began (Proceeding w) m waits = waits
  waits-began x m waits = absurd waits

  -- the row of a request that is sent leads to a client that waits
  -- the request begins the wait at its moment, and a repeat leaves the moment at which it began
  sent-waits : (x : PlainClientPhase) (k : Kind) (e : MachineEvent) (row : PlainClientPhase × Change) → BeganBy e.moment x → Sends p x k e row → WaitsBy e.moment row.0
  sent-waits Idle (Request method) e row began h = rw h (omega arith)
  sent-waits (Trying w) (Request method) e row began h = rw h.1 began
  sent-waits (Proceeding w) (Request method) e row began h = rw h.1 began
  sent-waits x k e row began h = absurd h

  -- a message that is sent leads to a client that waits
  emits-waits : (e : MachineEvent) (x y : Owing PlainClientPhase) → BeganBy e.moment x.phase → Emits plain_client p e x y → WaitsBy e.moment y.phase
  emits-waits e x y began (inl (row, is_row, to)) = rw to (sent-waits x.phase e.kind e row began is_row)
  emits-waits e x y began (inr (inl (left, pays, to))) = absurd pays.holds.0
  emits-waits e x y began (inr (inr (stays, same))) = absurd stays

  -- BeganBy stays true after a step
  began-steps : (a : Action) (e : MachineEvent) (x y : Owing PlainClientPhase) → BeganBy e.moment x.phase → Steps plain_client p a e x y → BeganBy e.moment y.phase
  -- a received message leads along a row, or leaves all as it is; what is sent keeps BeganBy, and a refused send ends the transaction
  began-steps Received e x y began (inl (row, is_row, to)) = rw to (began-received x.phase e.kind e row began is_row)
  began-steps Received e x y began (inr (none, same)) = rw same began
  began-steps Sent e x y began emits = waits-began y.phase e.moment (emits-waits e x y began emits)
  began-steps Failed e x y began fails = rw fails.1 tt
  -- a mark is no step, and a restart leads to idle or to the end
  began-steps Mark e x y began h = absurd h
  began-steps Restart e x y began (inl (idle, to)) = rw to tt
  began-steps Restart e x y began (inr (other, to)) = rw to tt

  -- BeganBy stays true throughout a run
  began-kept : IsKept plain_client p (λ es m y. BeganBy m y.phase)
  began-kept = record {
    as_it_waits = λ es h m x began low lasts. began-later x.phase h m low began;
    as_it_ends = λ es h x began may. tt;
    as_it_takes = λ es e x y began take. began-steps e.action e (record { phase = x.phase; owes = left_at e x }) y began take;
  }

  -- What follows is of a moment by which the client had begun to wait.
  module _ (moment : ℕ) where
    -- the phase is completed or ended, and sends nothing any more
    abbrev IsSilent : PlainClientPhase → Type 0
    IsSilent (Completed reliable set) = Unit {0}
    IsSilent Ended = Unit {0}
    IsSilent x = ⊥

    -- the client sends nothing any more: it has ended, or a final response came
    abbrev IsOver : List MachineEvent → Owing PlainClientPhase → Type 0
    IsOver es y = IsSilent y.phase × ((y ≡ quiet Ended) ⊎ Any (GetsResponse IsFinal) es)

    -- the client still waits for a final response, or it is over
    abbrev Asks : List MachineEvent → ℕ → Owing PlainClientPhase → Type 0
    Asks es m y = WaitsBy moment y.phase ⊎ IsOver es y

    -- the row of a received message leaves the client waiting, or it is that of a final response
    waits-received : (es : List MachineEvent) (e : MachineEvent) (x : PlainClientPhase) (k : Kind) (owes : List Owed) (row : PlainClientPhase × Change) → e.action ≡ Received → e.kind ≡ k → WaitsBy moment x → Receives p x k e row
        → WaitsBy moment row.0 ⊎ (IsSilent row.0 × Any (GetsResponse IsFinal) (es ++ e ∷ []))
    waits-received es e (Trying w) (Response code) owes row was kind waits (inl h) = inl (rw h.1 waits)
    waits-received es e (Trying w) (Response code) owes row was kind waits (inr h) = inr (rw h.1 tt, any-last (GetsResponse IsFinal) es e (was, (code, kind, h.0)))
    waits-received es e (Proceeding w) (Response code) owes row was kind waits h = inr (rw h.1 tt, any-last (GetsResponse IsFinal) es e (was, (code, kind, h.0)))
    waits-received es e x k owes row was kind waits h = absurd h

    -- the row of a sent message leaves a client that waits waiting
    -- a repeat of the request leaves the wait as it is; a client sends no response
    sent-still : (x : PlainClientPhase) (k : Kind) (e : MachineEvent) (row : PlainClientPhase × Change) → WaitsBy moment x → Sends p x k e row → WaitsBy moment row.0
    sent-still (Trying w) (Request method) e row waits h = rw h.1 waits
    sent-still (Proceeding w) (Request method) e row waits h = rw h.1 waits
    sent-still (Trying w) (Response code) e row waits h = absurd h
    sent-still (Proceeding w) (Response code) e row waits h = absurd h
    sent-still x k e row waits h = absurd waits

    -- a client that waits is not idle
    not-idle : (x : PlainClientPhase) → WaitsBy moment x → ¬ (x ≡ Idle)
    not-idle x waits idle = absurd (subst (WaitsBy moment) idle waits)

    -- a step leaves a client that waits waiting, or over as IsOver has it
    waits-steps : (a : Action) (es : List MachineEvent) (e : MachineEvent) (x y : Owing PlainClientPhase) → e.action ≡ a → WaitsBy moment x.phase → Steps plain_client p a e x y → Asks (es ++ e ∷ []) e.moment y
    waits-steps Received es e x y was waits (inl (row, is_row, to)) = by (waits-received es e x.phase e.kind x.owes row was refl waits is_row)
      where
        -- Asks holds after the row: the client waits still, or it is silent after a final response
        by : WaitsBy moment row.0 ⊎ (IsSilent row.0 × Any (GetsResponse IsFinal) (es ++ e ∷ [])) → Asks (es ++ e ∷ []) e.moment y
        by (inl still) = inl (rw to still)
        by (inr done) = inr (rw to done.0, inr done.1)
    -- a message without a row, and one that is sent, leave the client waiting
    waits-steps Received es e x y was waits (inr (none, same)) = inl (rw same waits)
    waits-steps Sent es e x y was waits (inl (row, is_row, to)) = inl (rw to (sent-still x.phase e.kind e row waits is_row))
    waits-steps Sent es e x y was waits (inr (inl (left, pays, to))) = absurd pays.holds.0
    waits-steps Sent es e x y was waits (inr (inr (stays, same))) = absurd stays
    -- a refusal or a restart ends it
    waits-steps Failed es e x y was waits fails = inr (rw fails.1 tt, inl fails.1)
    waits-steps Mark es e x y was waits h = absurd h
    waits-steps Restart es e x y was waits (inl (idle, to)) = absurd (not-idle x.phase waits idle)
    waits-steps Restart es e x y was waits (inr (other, to)) = inr (rw to tt, inl to)

    -- a completed or ended client has no row for a sent message
    silent-sends : (x : PlainClientPhase) (k : Kind) (e : MachineEvent) (row : PlainClientPhase × Change) → IsSilent x → ¬ (Sends p x k e row)
    silent-sends (Completed reliable set) k e row silent h = absurd h
    silent-sends Ended k e row silent h = absurd h
    silent-sends x k e row silent h = absurd silent

    -- a completed or ended client sends nothing
    silent-emits : (e : MachineEvent) (x y : Owing PlainClientPhase) → IsSilent x.phase → ¬ (Emits plain_client p e x y)
    silent-emits e x y silent (inl (row, is_row, to)) = silent-sends x.phase e.kind e row silent is_row
    silent-emits e x y silent (inr (inl (left, pays, to))) = pays.holds.0
    silent-emits e x y silent (inr (inr (stays, same))) = stays

    -- a completed or ended client has no row for a received message
    silent-receives : (x : PlainClientPhase) (k : Kind) (e : MachineEvent) (row : PlainClientPhase × Change) → IsSilent x → ¬ (Receives p x k e row)
    silent-receives (Completed reliable set) k e row silent h = absurd h
    silent-receives Ended k e row silent h = absurd h
    silent-receives x k e row silent h = absurd silent

    -- a completed or ended client is not idle
    silent-is-not-idle : (x : PlainClientPhase) → IsSilent x → ¬ (x ≡ Idle)
    silent-is-not-idle x silent idle = absurd (subst IsSilent idle silent)

    -- IsOver stays true after an event, of the debts that are still owed when the event comes
    over-later : (es : List MachineEvent) (e : MachineEvent) (x : Owing PlainClientPhase) → IsOver es x → IsOver (es ++ e ∷ []) (record { phase = x.phase; owes = left_at e x })
    over-later es e x (silent, inl ended) = (silent, inl (rw ended refl))
    over-later es e x (silent, inr came) = (silent, inr (any-earlier (GetsResponse IsFinal) es (e ∷ []) came))

    -- IsOver stays true after a step
    over-steps : (a : Action) (es : List MachineEvent) (e : MachineEvent) (x y : Owing PlainClientPhase) → IsOver es x → Steps plain_client p a e x y → IsOver es y
    -- what is over has no row of a received or a sent message
    over-steps Received es e x y over (inl (row, is_row, to)) = absurd (silent-receives x.phase e.kind e row over.0 is_row)
    over-steps Received es e x y over (inr (none, same)) = rw same over
    over-steps Sent es e x y over emits = absurd (silent-emits e x y over.0 emits)
    -- a refused send ends it again; a mark is no step, and a restart ends it
    over-steps Failed es e x y over fails = (rw fails.1 tt, inl fails.1)
    over-steps Mark es e x y over h = absurd h
    over-steps Restart es e x y over (inl (idle, to)) = absurd (silent-is-not-idle x.phase over.0 idle)
    over-steps Restart es e x y over (inr (other, to)) = (rw to tt, inl to)

    -- along a run the client goes on to wait for its response, or is over
    asks-kept : IsKept plain_client p Asks
    asks-kept = record { as_it_waits = λ es h m x asks low lasts. asks; as_it_ends = λ es h x asks may. inr (tt, inl refl); as_it_takes = as_it_takes }
      where
        -- Asks stays true after an event
        as_it_takes : (es : List MachineEvent) (e : MachineEvent) (x y : Owing PlainClientPhase) → Asks es e.moment x → Takes plain_client p x e y → Asks (es ++ e ∷ []) e.moment y
        as_it_takes es e x y (inl waits) take = waits-steps e.action es e (record { phase = x.phase; owes = left_at e x }) y refl waits take
        as_it_takes es e x y (inr over) take = inr (over-steps e.action (es ++ e ∷ []) e (record { phase = x.phase; owes = left_at e x }) y (over-later es e x over) take)

  -- a client that waits lasts no longer than timer F may take
  waits-in-time : (moment m : ℕ) (x : Owing PlainClientPhase) (phase : PlainClientPhase) → x.phase ≡ phase → WaitsBy moment phase → Lasts plain_client p x m → m ≤ close_at p moment (64 * p.t1)
  waits-in-time moment m x phase is waits lasts = by phase waits (subst (λ z. Lasts plain_client p (record { phase = z; owes = x.owes }) m) is lasts)
    where
      -- a phase that waits lasts until timer F at most
      by : (phase : PlainClientPhase) → WaitsBy moment phase → Lasts plain_client p (record { phase = phase; owes = x.owes }) m → m ≤ close_at p moment (64 * p.t1)
      by (Trying w) waits lasts = let low = lasts.0 in omega (arith, waits, low)
      by (Proceeding w) waits lasts = let low = lasts.0 in omega (arith, waits, low)
      by phase waits lasts = absurd waits

  -- What follows is of a run with the times p in which `request` is sent after the events `before` and before those of `after`.
  -- Each state in which it can stand can also wait until the moment at which it stands there.
  module _ (lasts : (events : List MachineEvent) (m : ℕ) (x : Owing PlainClientPhase) → Stands plain_client p events m x → Lasts plain_client p x m) (before after : List MachineEvent) (request : MachineEvent)
      (sends : SendsAnyRequest request) where
    -- after a request that is sent, the client waits for its response or is over
    asked : (m : ℕ) (y : Owing PlainClientPhase) → Stands plain_client p (before ++ request ∷ after) m y → Asks request.moment after m y
    asked m y stands = by-cut (cut plain_client p (quiet Idle) 0 before request after m y (stands-run plain_client p (before ++ request ∷ after) m y stands))
      where
        -- the run is cut at the request
        by-cut : Cut plain_client p (quiet Idle) 0 before request after m y → Asks request.moment after m y
        by-cut found =
            let began = run-keeps plain_client p (λ es h x. BeganBy h x.phase) began-kept before (quiet Idle) 0 request.moment found.from tt found.leads in
            let waits = emits-waits request (record { phase = found.from.phase; owes = left_at request found.from }) found.to began (step-of plain_client p Sent request found.from found.to sends.1.0 found.step) in
            run-keeps plain_client p (Asks request.moment) (asks-kept request.moment) after found.to request.moment m y (inl waits) found.goes

    -- the transaction of a request that has no final response has ended once timer F must have fired
    pub over-by-timer-f : (m : ℕ) (y : Owing PlainClientPhase) → All (λ g. ¬ (GetsResponse IsFinal g)) after → Stands plain_client p (before ++ request ∷ after) m y → close_at p request.moment (64 * p.t1) < m → y ≡ quiet Ended
    over-by-timer-f m y unanswered stands late = by (asked m y stands)
      where
        -- m is after timer F, and no final response came, so the client has ended
        by : Asks request.moment after m y → y ≡ quiet Ended
        by (inl waits) = let low = waits-in-time request.moment m y y.phase refl waits (lasts (before ++ request ∷ after) m y stands) in absurd (omega (arith, low, late))
        by (inr (silent, inl ended)) = ended
        by (inr (silent, inr came)) = absurd (any-none (GetsResponse IsFinal) after unanswered came)

    -- what is sent after a request is sent by the last moment at which timer F may fire
    pub silent-after-timer-f : (e : MachineEvent) (y : Owing PlainClientPhase) → e.action ≡ Sent → StandsAfter plain_client p (before ++ request ∷ after) e y → e.moment ≤ close_at p request.moment (64 * p.t1)
    silent-after-timer-f e y sent (x, stands, take) = by (asked e.moment x stands)
      where
        -- e comes by timer F: a client that waits still is not past it, and one that is silent sends nothing
        by : Asks request.moment after e.moment x → e.moment ≤ close_at p request.moment (64 * p.t1)
        by (inl waits) = waits-in-time request.moment e.moment x x.phase refl waits (lasts (before ++ request ∷ after) e.moment x stands)
        by (inr over) =
            absurd (silent-emits request.moment e (record { phase = x.phase; owes = left_at e x }) y over.0 (step-of plain_client p Sent e x y sent take))
