-- The non-INVITE server answers a request that comes again after its final response by that response.
-- In the lemmas x is the phase or the state before a step and y the state after it, k is the kind of a message, row is where a row leads, m is a moment, and
-- h is a moment or what is known of a row.
-- In cases of `Emits` a message that is sent has a row (`row`, `is_row`, `to`), or pays a debt (`left`, `pays`), or changes nothing (`stays`,
-- `same`), which only the INVITE server by RFC 3261 alone lets it (Stays). In cases of `Steps` a message that is received has a row, or has none and
-- changes nothing (`none`, `same`), and a restart leaves idle as it is (`idle`) and ends any other phase (`other`).
use Rattle.std.proofs.Common.{◌≡◌, ◌≤◌, ◌<◌, ◌*◌, ◌⊎◌, inl, inr, ℕ, Bool, true, false, List, [], ◌∷◌, ◌++◌, All, Contains, refl, sym, subst, arith}
use Rattle.std.specs.List.{Any}
use Rattle.std.proofs.lemmas.List.Elements.{All-nil, All-filter, All-push, All-weaker, Contains-push}
use Rattle.std.proofs.lemmas.List.{append-nil}
use Rattle.sip_standard.specs.declared.action.Action.{Action}
use Rattle.sip_standard.specs.declared.action.Action.TheVariants.{Sent, Received, Failed, Mark, Restart}
use Rattle.sip_standard.specs.declared.kind.Method.{Method}
use Rattle.sip_standard.specs.declared.kind.Kind.{Kind}
use Rattle.sip_standard.specs.declared.kind.Kind.TheVariants.{Request, Response}
use Rattle.sip_standard.specs.Times.{Times}
use Rattle.sip_standard.specs.Window.{open_at, close_at}
use Rattle.sip_standard.specs.MachineEvent.{MachineEvent}
use Rattle.sip_standard.specs.Replies.{Replies}
use Rattle.sip_standard.specs.Kind.{IsProvisional, IsFinal}
use Rattle.sip_standard.specs.Debts.{Owed, IsWithoutFirst}
use Rattle.sip_standard.specs.Figure.{Figure, Change, gains, Owing, changed, quiet, Emits, Steps, Takes, Lasts, MayEnd}
use Rattle.sip_standard.specs.PlainServer.{PlainServerPhase, Idle, Trying, Proceeding, Completed, Receives, Sends, plain_server}
use Rattle.sip_standard.specs.Stands.{Stands}
use Rattle.consequences.specs.Events.{GetsAnyRequest, SendsResponse, SendsBytes, IsRestart}
use Rattle.consequences.proofs.lemmas.server.Asleep.{nothing-to-pay}
use Rattle.sip_phases.proofs.debts.DebtLaws.{All-front, All-without}
use Rattle.consequences.proofs.lemmas.run.Lists.{any-last, any-earlier, any-none, All-last}
use Rattle.consequences.proofs.lemmas.server.Said.{IsOut, IsSaid, all-first, said-later, not-provisional, not-said}
use Rattle.consequences.proofs.lemmas.run.MustSend.{still-owed, other-paid, more-owed, no-end, in-time}
use Rattle.consequences.proofs.lemmas.run.Running.{IsKept, left_at, step-of, stands-run, Cut, cut, run-keeps}

-- where a row leads: a phase, and what becomes of the debts
abbrev Row : Type 0
Row = PlainServerPhase × Change

-- the figure of the non-INVITE server
abbrev f : Figure PlainServerPhase
f = plain_server

-- true is not false
true-false : ¬ (true ≡ false)
true-false same = cc

-- What follows is of a non-INVITE server with the times p whose requests came over an unreliable transport.
module _ (p : Times) where
  -- What follows is of the time before the final response.

  -- each debt was sent before as a provisional response
  abbrev AreSaid : List MachineEvent → List Owed → Type 0
  AreSaid es owes = All (λ o. IsSaid es o.message) owes

  -- AreSaid stays true after more events
  are-said-later : (es more : List MachineEvent) (owes : List Owed) → AreSaid es owes → AreSaid (es ++ more) owes
  are-said-later es more owes all = All-weaker (λ o. IsSaid es o.message) (λ o. IsSaid (es ++ more) o.message) (λ o said. said-later es more o.message said) owes all

  -- over an unreliable transport: idle owes nothing, and elsewhere the last response and what is owed were sent as provisional ones
  abbrev Opens : List MachineEvent → PlainServerPhase → List Owed → Type 0
  Opens es Idle owes = owes ≡ []
  Opens es (Trying reliable) owes = (reliable ≡ false) × AreSaid es owes
  Opens es (Proceeding reliable last) owes = (reliable ≡ false) × IsSaid es last × AreSaid es owes
  Opens es x owes = ⊥

  -- Opens stays true after more events
  -- what was said before is said after more events too
  opens-later : (es more : List MachineEvent) (x : PlainServerPhase) (owes : List Owed) → Opens es x owes → Opens (es ++ more) x owes
  opens-later es more Idle owes opens = opens
  opens-later es more (Trying reliable) owes opens = (opens.0, are-said-later es more owes opens.1)
  opens-later es more (Proceeding reliable last) owes opens = (opens.0, said-later es more last opens.1, are-said-later es more owes opens.2)
  opens-later es more x owes opens = absurd opens

  -- Opens stays true where less is owed
  opens-fewer : (es : List MachineEvent) (x : PlainServerPhase) (owes left : List Owed) → (owes ≡ [] → left ≡ []) → (AreSaid es owes → AreSaid es left) → Opens es x owes → Opens es x left
  opens-fewer es Idle owes left none said opens = none opens
  opens-fewer es (Trying reliable) owes left none said opens = (opens.0, said opens.1)
  opens-fewer es (Proceeding reliable last) owes left none said opens = (opens.0, opens.1, said opens.2)
  opens-fewer es x owes left none said opens = absurd opens

  -- Opens stays true when the debts that are past are left out
  opens-left : (es : List MachineEvent) (e : MachineEvent) (x : Owing PlainServerPhase) → Opens es x.phase x.owes → Opens es x.phase (left_at e x)
  opens-left es e x opens = opens-fewer es x.phase x.owes (left_at e x) (λ none. rw none refl) (λ said. All-filter _ (λ o. IsSaid es o.message) x.owes said) opens

  -- K holds of the phase and the debts of the state
  abbrev Is : (PlainServerPhase → List Owed → Type 0) → Owing PlainServerPhase → Type 0
  Is K y = K y.phase y.owes

  -- What follows is of one event e that comes after the events es.
  module _ (es : List MachineEvent) (e : MachineEvent) where
    -- the events with the event that comes
    abbrev Now : List MachineEvent
    Now = es ++ e ∷ []

    -- the row of a message that is received over an unreliable transport keeps Opens
    opens-received : (x : PlainServerPhase) (k : Kind) (row : Row) (owes : List Owed) → e.reliable ≡ false → Opens es x owes → Receives p x k e row → Opens Now row.0 (changed p e.moment row.1 owes)
    opens-received Idle (Request method) row owes unreliable opens h = rw h (unreliable, rw opens (All-nil (λ o. IsSaid Now o.message)))
    opens-received (Proceeding reliable last) (Request method) row owes unreliable opens h = by h
      where
        -- at this event Opens still holds of what was owed
        later : Opens Now (Proceeding reliable last) owes
        later = opens-later es (e ∷ []) (Proceeding reliable last) owes opens

        -- with the last response owed once more, each debt was sent before
        push : (must : Bool) → AreSaid Now (owes ++ record { message = last; deadline = close_at p e.moment 0; must = must } ∷ [])
        push must = All-push (λ o. IsSaid Now o.message) owes (record { message = last; deadline = close_at p e.moment 0; must = must }) later.2 later.1

        -- Opens holds after the row, whether the last response is a 100 or not
        by : Replies (Proceeding reliable last) last row → Opens Now row.0 (changed p e.moment row.1 owes)
        by (inl h) = rw h.1 (later.0, later.1, push true)
        by (inr h) = rw h.1 (later.0, later.1, push false)
    opens-received (Completed reliable final set) (Request method) row owes unreliable opens h = absurd opens
    opens-received x k row owes unreliable opens h = absurd h

    -- the row of a message that is no final response keeps Opens
    opens-sent : (x : PlainServerPhase) (k : Kind) (row : Row) (owes : List Owed) → IsOut e → e.kind ≡ k → ¬ (SendsResponse IsFinal e) → Opens es x owes → Sends p x k e row → Opens Now row.0 (changed p e.moment row.1 owes)
    -- a provisional response becomes the last one, and was said by now; a final one is ruled out
    opens-sent (Trying reliable) (Response code) row owes out kind never opens (inl h) =
        rw h.1 (opens.0, any-last (λ g. SendsResponse IsProvisional g × (g.text ≡ e.text)) es e ((out, (code, kind, h.0)), refl), are-said-later es (e ∷ []) owes opens.1)
    opens-sent (Trying reliable) (Response code) row owes out kind never opens (inr h) = absurd (never (out, (code, kind, h.0)))
    opens-sent (Proceeding reliable last) (Response code) row owes out kind never opens (inl h) =
        rw h.1 (opens.0, any-last (λ g. SendsResponse IsProvisional g × (g.text ≡ e.text)) es e ((out, (code, kind, h.0)), refl), are-said-later es (e ∷ []) owes opens.2)
    opens-sent (Proceeding reliable last) (Response code) row owes out kind never opens (inr h) = absurd (never (out, (code, kind, h.0)))
    opens-sent x k row owes out kind never opens h = absurd h

    -- Opens stays true when a debt is paid
    opens-without : (P : Owed → Type 0) (x : PlainServerPhase) (owes left : List Owed) → IsWithoutFirst P owes left → Opens es x owes → Opens Now x left
    opens-without P x owes left pays opens =
        opens-later es (e ∷ []) x left
        (opens-fewer es x owes left (λ none. absurd (nothing-to-pay P left (subst (λ os. IsWithoutFirst P os left) none pays))) (λ said. All-without P (λ o. IsSaid es o.message) owes left pays said) opens)

    -- a message that is sent and is no final response keeps Opens
    opens-emits : (x : PlainServerPhase) (owes : List Owed) (y : Owing PlainServerPhase) → IsOut e → ¬ (SendsResponse IsFinal e) → Opens es x owes → Emits f p e (record { phase = x; owes = owes }) y → Is (Opens Now) y
    opens-emits x owes y out never opens (inl (row, is_row, to)) = rw to (opens-sent x e.kind row owes out refl never opens is_row)
    opens-emits x owes y out never opens (inr (inl (left, pays, to))) =
        rw to (opens-without _ x owes left pays opens)
    opens-emits x owes y out never opens (inr (inr (stays, same))) = absurd stays

    -- a step without a final response, over an unreliable transport, keeps Opens
    opens-steps : (a : Action) (x : PlainServerPhase) (owes : List Owed) (y : Owing PlainServerPhase) → e.action ≡ a → e.reliable ≡ false → ¬ (SendsResponse IsFinal e) → Opens es x owes
        → Steps f p a e (record { phase = x; owes = owes }) y → Is (Opens Now) y
    -- a received message leads along a row, or leaves all as it is; what is sent or refused is provisional
    opens-steps Received x owes y was unreliable never opens (inl (row, is_row, to)) = rw to (opens-received x e.kind row owes unreliable opens is_row)
    opens-steps Received x owes y was unreliable never opens (inr (none, same)) = rw same (opens-later es (e ∷ []) x owes opens)
    opens-steps Sent x owes y was unreliable never opens emits = opens-emits x owes y (inl was) never opens emits
    opens-steps Failed x owes y was unreliable never opens emits = opens-emits x owes y (inr was) never opens emits
    -- a mark is no step, and after a restart nothing is owed
    opens-steps Mark x owes y was unreliable never opens h = absurd h
    opens-steps Restart x owes y was unreliable never opens (inl (idle, to)) = rw to refl
    opens-steps Restart x owes y was unreliable never opens (inr (other, to)) = rw to refl

  -- the event is over an unreliable transport, and is no final response that is sent
  abbrev IsBefore : MachineEvent → Type 0
  IsBefore g = (g.reliable ≡ false) × ¬ (SendsResponse IsFinal g)

  -- where no final response was sent, over an unreliable transport, Opens holds
  abbrev BeforeFinal : List MachineEvent → ℕ → Owing PlainServerPhase → Type 0
  BeforeFinal es m y = All IsBefore es → Opens es y.phase y.owes

  -- a run without a final response, over an unreliable transport, keeps Opens
  before-final-kept : IsKept f p BeforeFinal
  before-final-kept = record { as_it_waits = λ es h m x holds low lasts. holds; as_it_ends = λ es h x holds may all. refl; as_it_takes = as_it_takes }
    where
      -- BeforeFinal stays true after an event
      as_it_takes : (es : List MachineEvent) (e : MachineEvent) (x y : Owing PlainServerPhase) → BeforeFinal es e.moment x → Takes f p x e y → BeforeFinal (es ++ e ∷ []) e.moment y
      as_it_takes es e x y holds take all =
          let last = All-last IsBefore es e all in
          opens-steps es e e.action x.phase (left_at e x) y refl last.0 last.1 (opens-left es e x (holds (All-front IsBefore es (e ∷ []) all))) take

  -- What follows is of the time after the final response.

  -- What follows is of `final`, with which the server sends a final response after the events `before`: those of them with its bytes have its kind.
  module _ (before : List MachineEvent) (final : MachineEvent) (is_final : SendsResponse IsFinal final) (one_kind : All (λ g. g.text ≡ final.text → g.kind ≡ final.kind) before) where
    -- the phase is completed by that response, over an unreliable transport
    abbrev IsCompleted : PlainServerPhase → Type 0
    IsCompleted (Completed reliable message set) = (reliable ≡ false) × (message ≡ final.text) × (set ≡ final.moment)
    IsCompleted x = ⊥

    -- the transaction may be over: timer J may have fired, or the element started again
    abbrev Past : List MachineEvent → ℕ → Type 0
    Past es m = (open_at p final.moment (64 * p.t1) ≤ m) ⊎ Any IsRestart es

    -- the row of the final response leads to completed, by that response
    -- the response is final, so its row is not that of a provisional one
    final-sent : (x : PlainServerPhase) (k : Kind) (row : Row) (owes : List Owed) → final.kind ≡ k → Opens before x owes → Sends p x k final row → IsCompleted row.0
    final-sent (Trying reliable) (Response code) row owes kind opens (inl h) = absurd (not-provisional before final is_final one_kind code kind h.0)
    final-sent (Trying reliable) (Response code) row owes kind opens (inr h) = rw h.1 (opens.0, refl, refl)
    final-sent (Proceeding reliable last) (Response code) row owes kind opens (inl h) = absurd (not-provisional before final is_final one_kind code kind h.0)
    final-sent (Proceeding reliable last) (Response code) row owes kind opens (inr h) = rw h.1 (opens.0, refl, refl)
    final-sent x k row owes kind opens h = absurd h

    -- the final response pays no debt of a server that waits or proceeds
    final-paid : (P : Owed → Type 0) (x : PlainServerPhase) (owes left : List Owed) → Opens before x owes → (pays : IsWithoutFirst P owes left) → ¬ (pays.first.message ≡ final.text)
    final-paid P Idle owes left opens pays same = nothing-to-pay P left (subst (λ os. IsWithoutFirst P os left) opens pays)
    final-paid P (Trying reliable) owes left opens pays same = not-said before final is_final one_kind (subst (IsSaid before) same (all-first P (λ o. IsSaid before o.message) owes left pays opens.1))
    final-paid P (Proceeding reliable last) owes left opens pays same = not-said before final is_final one_kind (subst (IsSaid before) same (all-first P (λ o. IsSaid before o.message) owes left pays opens.2))
    final-paid P x owes left opens pays same = absurd opens

    -- where the final response is sent, it leads to completed, by that response
    final-emits : (x : PlainServerPhase) (owes : List Owed) (y : Owing PlainServerPhase) → Opens before x owes → Emits f p final (record { phase = x; owes = owes }) y → IsCompleted y.phase
    final-emits x owes y opens (inl (row, is_row, to)) = rw to (final-sent x final.kind row owes refl opens is_row)
    final-emits x owes y opens (inr (inl (left, pays, to))) = absurd (final-paid _ x owes left opens pays pays.holds.0)
    final-emits x owes y opens (inr (inr (stays, same))) = absurd stays

    -- the final response, sent or refused, leads to completed, by that response
    final-steps : (x y : Owing PlainServerPhase) → Opens before x.phase x.owes → Takes f p x final y → IsCompleted y.phase
    final-steps x y opens take = by is_final.0
      where
        -- the server is completed after the final response, sent or refused
        by : IsOut final → IsCompleted y.phase
        by (inl sent) = final-emits x.phase (left_at final x) y (opens-left before final x opens) (step-of f p Sent final x y sent take)
        by (inr refused) = final-emits x.phase (left_at final x) y (opens-left before final x opens) (step-of f p Failed final x y refused take)

    -- the row of a received message leaves the server completed by the final response
    -- a request leaves the server completed, and it receives no response
    completed-received : (x : PlainServerPhase) (k : Kind) (e : MachineEvent) (row : Row) → IsCompleted x → Receives p x k e row → IsCompleted row.0
    completed-received (Completed reliable message set) (Request method) e row done h = rw h done
    completed-received (Completed reliable message set) (Response code) e row done h = absurd h
    completed-received x k e row done h = absurd done

    -- a message that is sent leaves the server completed by the final response
    completed-emits : (x : PlainServerPhase) (owes : List Owed) (e : MachineEvent) (y : Owing PlainServerPhase) → IsCompleted x → Emits f p e (record { phase = x; owes = owes }) y → IsCompleted y.phase
    completed-emits (Completed reliable message set) owes e y done (inl (row, is_row, to)) = absurd is_row
    completed-emits x owes e y done (inl row) = absurd done
    completed-emits x owes e y done (inr (inl (left, pays, to))) = rw to done
    completed-emits x owes e y done (inr (inr (stays, same))) = absurd stays

    -- a step leaves the server completed by the final response, unless the element starts again
    completed-steps : (a : Action) (es : List MachineEvent) (x : PlainServerPhase) (owes : List Owed) (e : MachineEvent) (y : Owing PlainServerPhase) → e.action ≡ a → IsCompleted x → Steps f p a e (record { phase = x; owes = owes }) y
        → IsCompleted y.phase ⊎ Past (es ++ e ∷ []) e.moment
    -- a received message leads along a row, or leaves all as it is; what is sent or refused leaves the server completed
    completed-steps Received es x owes e y was done (inl (row, is_row, to)) = inl (rw to (completed-received x e.kind e row done is_row))
    completed-steps Received es x owes e y was done (inr (none, same)) = inl (rw same done)
    completed-steps Sent es x owes e y was done emits = inl (completed-emits x owes e y done emits)
    completed-steps Failed es x owes e y was done emits = inl (completed-emits x owes e y done emits)
    -- a mark is no step, and a restart is one of the ends
    completed-steps Mark es x owes e y was done h = absurd h
    completed-steps Restart es x owes e y was done h = inr (inr (any-last IsRestart es e was))

    -- Past stays true after more events, and later
    past-later : (es more : List MachineEvent) (h m : ℕ) → h ≤ m → Past es h → Past (es ++ more) m
    past-later es more h m low (inl late) = inl (omega (arith, low, late))
    past-later es more h m low (inr restarted) = inr (any-earlier IsRestart es more restarted)

    -- the server may end only when timer J may have fired
    completed-ends : (x : PlainServerPhase) (owes : List Owed) (h : ℕ) → IsCompleted x → MayEnd f p (record { phase = x; owes = owes }) h → open_at p final.moment (64 * p.t1) ≤ h
    completed-ends (Completed true message set) owes h done may = absurd (true-false done.0)
    completed-ends (Completed false message set) owes h done may = subst (λ m. open_at p m (64 * p.t1) ≤ h) done.2 may.0
    completed-ends x owes h done may = absurd done

    -- a run keeps the server completed by the final response, or the transaction may be over
    completed-kept : IsKept f p (λ es m y. IsCompleted y.phase ⊎ Past es m)
    completed-kept = record { as_it_waits = as_it_waits; as_it_ends = as_it_ends; as_it_takes = as_it_takes }
      where
        -- time keeps what is known: the server is completed, or its transaction may be over
        -- the run stands in x from the moment h until the moment m
        as_it_waits : (es : List MachineEvent) (h m : ℕ) (x : Owing PlainServerPhase) → IsCompleted x.phase ⊎ Past es h → h ≤ m → Lasts f p x m → IsCompleted x.phase ⊎ Past es m
        as_it_waits es h m x (inl done) low lasts = inl done
        as_it_waits es h m x (inr past) low lasts = inr (subst (λ fs. Past fs m) (append-nil es) (past-later es [] h m low past))

        -- after an end the server is completed still, or the deadline is past
        as_it_ends : (es : List MachineEvent) (h : ℕ) (x : Owing PlainServerPhase) → IsCompleted x.phase ⊎ Past es h → MayEnd f p x h → IsCompleted Idle ⊎ Past es h
        as_it_ends es h x (inl done) may = inr (inl (completed-ends x.phase x.owes h done may))
        as_it_ends es h x (inr past) may = inr past

        -- after an event the server is completed still, or the deadline is past
        as_it_takes : (es : List MachineEvent) (e : MachineEvent) (x y : Owing PlainServerPhase) → IsCompleted x.phase ⊎ Past es e.moment → Takes f p x e y → IsCompleted y.phase ⊎ Past (es ++ e ∷ []) e.moment
        as_it_takes es e x y (inl done) take = completed-steps e.action es x.phase (left_at e x) e y refl done take
        as_it_takes es e x y (inr past) take = inr (past-later es (e ∷ []) e.moment e.moment (omega arith) past)

    -- What follows is of `again`, with which the request comes again: the final response is owed to it.

    module _ (again : MachineEvent) where
      -- the final response, which must be sent again as late as an element may be
      abbrev debt : Owed
      debt = record { message = final.text; deadline = close_at p again.moment 0; must = true }

      -- the final response was sent again in time
      abbrev IsPaid : MachineEvent → Type 0
      IsPaid g = SendsBytes final.text g × (g.moment ≤ close_at p again.moment 0)

      -- the row of a request that comes again leaves the server completed, and owes the final response
      again-received : (x : PlainServerPhase) (owes : List Owed) (k : Kind) (row : Row) → (method : Method) × (k ≡ Request method) → IsCompleted x → Receives p x k again row
          → IsCompleted row.0 × Contains (changed p again.moment row.1 owes) debt
      -- only a completed server is asked: the final response is put behind its debts, and has the bytes of that of the phase
      again-received (Completed reliable message set) owes (Request method) row asks done h =
          rw h (
            done,
            subst (λ bytes. Contains (owes ++ record { message = message; deadline = close_at p again.moment 0; must = true } ∷ []) (record { message = bytes; deadline = close_at p again.moment 0; must = true })) done.1
                (Contains-push owes (record { message = message; deadline = close_at p again.moment 0; must = true })),
          )
      again-received (Completed reliable message set) owes (Response code) row asks done h = absurd h
      again-received x owes k row asks done h = absurd done

      -- a completed server has a row for a request
      again-opens : (x : PlainServerPhase) (k : Kind) → (method : Method) × (k ≡ Request method) → IsCompleted x → (row : Row) × Receives p x k again row
      again-opens (Completed reliable message set) (Request method) asks done = ((Completed reliable message set, gains true message), refl)
      again-opens (Completed reliable message set) (Response code) (method, kind) done = absurd (no-request kind)
        where
          -- a response is no request
          no-request : ¬ (Response code ≡ Request method)
          no-request same = cc
      again-opens x k asks done = absurd done

      -- the step of a request that comes again leaves the server completed, and it owes the final response
      again-steps : (x : PlainServerPhase) (owes : List Owed) (y : Owing PlainServerPhase) → (method : Method) × (again.kind ≡ Request method) → IsCompleted x
          → Steps f p Received again (record { phase = x; owes = owes }) y → IsCompleted y.phase × Contains y.owes debt
      again-steps x owes y asks done (inl (row, is_row, to)) = rw to (again-received x owes again.kind row asks done is_row)
      again-steps x owes y asks done (inr (none, same)) =
          let (row, is_row) = again-opens x again.kind asks done in absurd (none (record { phase = row.0; owes = changed p again.moment row.1 owes }) (row, is_row, refl))

      -- the server is completed and owes the final response, or it was sent in time, or the element started again
      abbrev Owes : List MachineEvent → ℕ → Owing PlainServerPhase → Type 0
      Owes es m y = (IsCompleted y.phase × Contains y.owes debt) ⊎ Any IsPaid es ⊎ Any IsRestart es

      -- the row of a received message leaves the final response owed
      -- a request makes one more debt, after which the others are still owed
      owes-received : (x : PlainServerPhase) (owes : List Owed) (k : Kind) (e : MachineEvent) (row : Row) → IsCompleted x → Contains owes debt → Receives p x k e row → Contains (changed p e.moment row.1 owes) debt
      owes-received (Completed reliable message set) owes (Request method) e row done owed h = rw h (more-owed debt refl owes (record { message = message; deadline = close_at p e.moment 0; must = true } ∷ []) owed)
      owes-received (Completed reliable message set) owes (Response code) e row done owed h = absurd h
      owes-received x owes k e row done owed h = absurd done

      -- where the final response is owed, it is still owed after a send, or was sent in time
      owes-emits : (es : List MachineEvent) (x : PlainServerPhase) (owes : List Owed) (e : MachineEvent) (y : Owing PlainServerPhase) → IsOut e → IsCompleted x → Contains owes debt
          → Emits f p e (record { phase = x; owes = owes }) y → Owes (es ++ e ∷ []) e.moment y
      owes-emits es (Completed reliable message set) owes e y out done owed (inl (row, is_row, to)) = absurd is_row
      owes-emits es x owes e y out done owed (inl row) = absurd done
      owes-emits es x owes e y out done owed (inr (inl (left, pays, to))) = by (other-paid debt refl _ owes left pays owed)
        where
          -- Owes holds after the event: the response is owed still, or this event has paid it
          by : Contains left debt ⊎ ((final.text ≡ e.text) × (e.moment ≤ close_at p again.moment 0)) → Owes (es ++ e ∷ []) e.moment y
          by (inl still) = inl (rw to (done, still))
          by (inr paid) = inr (inl (any-last IsPaid es e ((out, sym paid.0), paid.1)))
      owes-emits es x owes e y out done owed (inr (inr (stays, same))) = absurd stays

      -- where the final response is owed, it is still owed after a step, or the step sent it in time, or was a restart
      owes-steps : (a : Action) (es : List MachineEvent) (x : PlainServerPhase) (owes : List Owed) (e : MachineEvent) (y : Owing PlainServerPhase) → e.action ≡ a → IsCompleted x → Contains owes debt
          → Steps f p a e (record { phase = x; owes = owes }) y → Owes (es ++ e ∷ []) e.moment y
      -- a received message keeps the debt; what is sent or refused pays it in time, or keeps it
      owes-steps Received es x owes e y was done owed (inl (row, is_row, to)) = inl (rw to (completed-received x e.kind e row done is_row, owes-received x owes e.kind e row done owed is_row))
      owes-steps Received es x owes e y was done owed (inr (none, same)) = inl (rw same (done, owed))
      owes-steps Sent es x owes e y was done owed emits = owes-emits es x owes e y (inl was) done owed emits
      owes-steps Failed es x owes e y was done owed emits = owes-emits es x owes e y (inr was) done owed emits
      -- a mark is no step, and a restart is one of the ends
      owes-steps Mark es x owes e y was done owed h = absurd h
      owes-steps Restart es x owes e y was done owed h = inr (inr (any-last IsRestart es e was))

      -- along a run the final response stays owed, unless it was sent in time or the element started again
      owes-kept : IsKept f p Owes
      owes-kept = record { as_it_waits = λ es h m x holds low lasts. holds; as_it_ends = as_it_ends; as_it_takes = as_it_takes }
        where
          -- an end keeps Owes, since nothing ends while the response is owed
          as_it_ends : (es : List MachineEvent) (h : ℕ) (x : Owing PlainServerPhase) → Owes es h x → MayEnd f p x h → Owes es h (quiet Idle)
          as_it_ends es h x (inl owed) may = absurd (no-end debt refl f p x h owed.1 may)
          as_it_ends es h x (inr paid) may = inr paid

          -- Owes stays true after an event
          as_it_takes : (es : List MachineEvent) (e : MachineEvent) (x y : Owing PlainServerPhase) → Owes es e.moment x → Takes f p x e y → Owes (es ++ e ∷ []) e.moment y
          as_it_takes es e x y (inl owed) take = owes-steps e.action es x.phase (left_at e x) e y refl owed.0 (still-owed debt refl e x owed.1) take
          as_it_takes es e x y (inr (inl paid)) take = inr (inl (any-earlier IsPaid es (e ∷ []) paid))
          as_it_takes es e x y (inr (inr restarted)) take = inr (inr (any-earlier IsRestart es (e ∷ []) restarted))

      -- a request that comes again before timer J may fire is answered with the final response, by the end of a run that goes on longer
      -- than an element may be late
      -- `lasts` says that each state in which a run can stand can wait; y is the state in which the run stands at the moment m, and g an event
      pub answered-again : (lasts : (events : List MachineEvent) (m : ℕ) (x : Owing PlainServerPhase) → Stands f p events m x → Lasts f p x m) (between after : List MachineEvent) (m : ℕ) (y : Owing PlainServerPhase) →
          All (λ g. g.reliable ≡ false) before → All (λ g. ¬ (SendsResponse IsFinal g)) before → All (λ g. ¬ (IsRestart g)) between → GetsAnyRequest again → again.moment < open_at p final.moment (64 * p.t1) →
          Stands f p (before ++ final ∷ (between ++ again ∷ after)) m y → close_at p again.moment 0 < m → Any IsPaid after ⊎ Any IsRestart after
      answered-again lasts between after m y unreliable first unbroken asks early stands late =
          by-final (cut f p (quiet Idle) 0 before final (between ++ again ∷ after) m y (stands-run f p (before ++ final ∷ (between ++ again ∷ after)) m y stands))
        where
          -- where no event is reliable and none sends a final response, each is as IsBefore says
          both : (es : List MachineEvent) → All (λ g. g.reliable ≡ false) es → All (λ g. ¬ (SendsResponse IsFinal g)) es → All IsBefore es
          both es one other k g low = (one k g low, other k g low)

          -- the response cannot be owed any more, since its deadline is past
          by-end : Owes after m y → Any IsPaid after ⊎ Any IsRestart after
          by-end (inl owed) = let low = in-time debt refl f p y m owed.1 (lasts (before ++ final ∷ (between ++ again ∷ after)) m y stands) in absurd (omega (arith, low, late))
          by-end (inr paid) = paid

          -- from the final response on, the run is cut at the request that comes again
          by-again : (x : Owing PlainServerPhase) → IsCompleted x.phase → Cut f p x final.moment between again after m y → Any IsPaid after ⊎ Any IsRestart after
          by-again x done found = by (run-keeps f p (λ es h z. IsCompleted z.phase ⊎ Past es h) completed-kept between x final.moment again.moment found.from (inl done) found.leads)
            where
              -- the response is sent again, or a restart comes: the server is completed when the request comes again, since timer J may not have fired
              by : IsCompleted found.from.phase ⊎ Past between again.moment → Any IsPaid after ⊎ Any IsRestart after
              by (inl still) =
                  let owed = again-steps found.from.phase (left_at again found.from) found.to (asks.0, asks.1.1) still (step-of f p Received again found.from found.to asks.1.0 found.step) in
                  by-end (run-keeps f p Owes owes-kept after found.to again.moment m y (inl owed) found.goes)
              by (inr (inl past)) = absurd (omega (arith, past, early))
              by (inr (inr restarted)) = absurd (any-none IsRestart between unbroken restarted)

          -- the run is cut at the final response
          by-final : Cut f p (quiet Idle) 0 before final (between ++ again ∷ after) m y → Any IsPaid after ⊎ Any IsRestart after
          by-final found =
              let opens = run-keeps f p BeforeFinal before-final-kept before (quiet Idle) 0 final.moment found.from (λ all. refl) found.leads (both before unreliable first) in
              by-again found.to (final-steps found.from found.to opens found.step) (cut f p found.to final.moment between again after m y found.goes)
