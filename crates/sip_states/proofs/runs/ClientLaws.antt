-- What runs of the clients send.
-- In the lemmas x is the phase or the state before the event e, k the kind of its message, and y where the row or the step leads.
-- In cases of `Emits` a message that is sent has a row (`row`, `is_row`, `to`), or pays a debt (`left`, `pays`), or changes nothing (`stays`, `same`): only
-- the INVITE server of RFC 3261 has such messages (Stays). In cases of `Steps` a message that is received has a row, or has none and changes nothing (`none`,
-- `same`); a restart leaves idle as it is (`idle`) and ends any other phase (`other`).
use Rattle.std.proofs.Common.{◌≡◌, ◌≤◌, ◌⊎◌, inl, inr, ℕ, Bool, true, false, Some, None, List, [], ◌∷◌, ◌++◌, ◌∙◌, refl, sym, subst, arith}
use Rattle.std.specs.Prelude.{⊤}
use Rattle.std.proofs.Math.Decide.{dec_le}
use Rattle.sip_standard.specs.declared.role.Role.TheVariants.{Client}
use Rattle.sip_standard.specs.declared.rules.Rules.{Rules}
use Rattle.sip_standard.specs.declared.rules.Rules.TheVariants.{R3261, R6026}
use Rattle.sip_standard.specs.declared.action.Action.{Action}
use Rattle.sip_standard.specs.declared.action.Action.TheVariants.{Sent, Received, Failed, Mark, Restart}
use Rattle.sip_standard.specs.declared.kind.Method.{Method}
use Rattle.sip_standard.specs.declared.kind.Method.TheVariants.{Invite, Ack, Cancel}
use Rattle.sip_standard.specs.declared.kind.Kind.{Kind}
use Rattle.sip_standard.specs.declared.kind.Kind.TheVariants.{Request, Response}
use Rattle.sip_standard.specs.Times.{Times}
use Rattle.sip_standard.specs.Window.{open_at}
use Rattle.sip_standard.specs.MachineEvent.{MachineEvent}
use Rattle.sip_standard.specs.Kind.{IsFinal}
use Rattle.sip_standard.specs.Debts.{Owed}
use Rattle.sip_machine.specs.Deadlines.{unexpired}
use Rattle.sip_standard.specs.Figure.{Figure, Owing, Emits, Fails, Steps}
use Rattle.sip_machine.specs.FigureRules.{After as Row, rules_of as rules_of_figure}
use Rattle.sip_machine.specs.inner.Turns.{led_to}
use Rattle.sip_standard.specs.InviteClient as invite
use Rattle.sip_standard.specs.PlainClient as plain
use Rattle.sip_states.proofs.runs.Steps.{Step, Hides, Takes, Does, Goes, taken, AfterRun}
use Rattle.sip_standard.specs.KeyMachine.{OfInvite, OfPlain, machine_of}
use Rattle.sip_states.specs.KeyRules.{OwingOf, key_rules}
use Rattle.sip_states.proofs.runs.RunLemmas.{Goes-last}
use Rattle.sip_states.proofs.runs.FewerLemmas.{Goes-through}

-- P is kept by the rows of a figure: it holds of the phase after a row where it held before it, and of the ended phase
record IsKept {X : Type 0} (f : Figure X) (p : Times) (P : X → Type 0) : Type 0 where
  pub ended : P f.ended
  -- the row y of a message e of the kind k keeps what P says of the phase x
  pub received : (x : X) (k : Kind) (e : MachineEvent) (y : Row X) → f.Receives p x k e y → P x → P y.0
  pub sent : (x : X) (k : Kind) (e : MachineEvent) (y : Row X) → f.Sends p x k e y → P x → P y.0

-- What follows is of a property P of phases that each row of the figure f with the times p keeps.
module _ {X : Type 0} (f : Figure X) (p : Times) (P : X → Type 0) (kept : IsKept f p P) where
  -- an event that is sent keeps P of the phase
  emits_keeps : (e : MachineEvent) (x y : Owing X) → Emits f p e x y → P x.phase → P y.phase
  emits_keeps e x y (inl (row, is_row, is)) holds = rw is (kept.sent x.phase e.kind e row is_row holds)
  emits_keeps e x y (inr (inl (left, pays, is))) holds = rw is holds
  emits_keeps e x y (inr (inr (stays, same))) holds = rw same holds

  -- a message that the transport refused keeps P of the phase
  fails_keeps : (ends : Bool) (e : MachineEvent) (x y : Owing X) → Fails ends f p e x y → P x.phase → P y.phase
  fails_keeps true e x y (some, is) holds = rw is kept.ended
  fails_keeps false e x y h holds = emits_keeps e x y h holds

  -- a step of any action keeps P of the phase
  steps_keep : (a : Action) (e : MachineEvent) (x y : Owing X) → Steps f p a e x y → P x.phase → P y.phase
  -- a received message leads along a row, or leaves the phase as it is; what is sent or refused keeps P too
  steps_keep Received e x y (inl (row, is_row, is)) holds = rw is (kept.received x.phase e.kind e row is_row holds)
  steps_keep Received e x y (inr (none, same)) holds = rw same holds
  steps_keep Sent e x y h holds = emits_keeps e x y h holds
  steps_keep Failed e x y h holds = fails_keeps (f.ends_refused x.phase e.kind) e x y h holds
  -- a mark is no step; a restart leaves idle as it is, and ends what is not idle
  steps_keep Mark e x y h holds = absurd h
  steps_keep Restart e x y (inl (idle, is)) holds = rw is (subst P idle holds)
  steps_keep Restart e x y (inr (other, is)) holds = rw is kept.ended

  -- all the steps of a run keep P of the phase
  -- the steps lead from x at the moment h to y at the moment m, over a state z
  goes_keep : (x : Owing X) (h : ℕ) (steps : List Step) (y : Owing X) (m : ℕ) → Goes (rules_of_figure f p) x h steps y m → P x.phase → P y.phase
  goes_keep x h [] y m goes holds = rw goes.0 holds
  goes_keep x h (Hides t ∷ steps) y m (z, low, hides, goes) holds = goes_keep z t steps y m goes (rw hides.gives kept.ended)
  goes_keep x h (Takes e ∷ steps) y m (z, low, does, goes) holds = goes_keep z e.moment steps y m goes (steps_keep e.action e _ z does.1.1 holds)

-- What follows is of a machine by its figure f with the times p.
module _ {X : Type 0} (f : Figure X) (p : Times) where
  -- the state without the debts whose deadline is past when the event comes
  abbrev when : MachineEvent → Owing X → Owing X
  when e x = record { phase = x.phase; owes = unexpired e.moment x.owes }

  -- an event with this action leads by the step of that action, from the state without the debts that are past
  -- the event e leads from x to y, and a is its action
  step_of : (a : Action) (e : MachineEvent) (x y : Owing X) → e.action ≡ a → Does (rules_of_figure f p) x (Takes e) y → Steps f p a e (when e x) y
  step_of a e x y is does = subst (λ b. Steps f p b e (when e x) y) is does.1.1

-- What follows is of ranks: 0 before a request, 1 before its final response, 2 after it.

-- no row of the figure leads to a lower rank
record IsRanked {X : Type 0} (f : Figure X) (p : Times) (rank : X → ℕ) : Type 0 where
  pub ended : rank f.ended ≡ 2
  -- the row y of a message e of the kind k leads from x to a phase of no lower rank
  pub received : (x : X) (k : Kind) (e : MachineEvent) (y : Row X) → f.Receives p x k e y → rank x ≤ rank y.0
  pub sent : (x : X) (k : Kind) (e : MachineEvent) (y : Row X) → f.Sends p x k e y → rank x ≤ rank y.0

-- What follows is of `rank`, a rank of phases from which no row of the figure f with the times p leads back.
module _ {X : Type 0} (f : Figure X) (p : Times) (rank : X → ℕ) (ranked : IsRanked f p rank) where
  -- a rank, once reached, is kept
  rank_kept : (n : ℕ) → n ≤ 2 → IsKept f p (λ x. n ≤ rank x)
  rank_kept n low = record {
    ended = rw ranked.ended low;
    received = λ x k e y row from. let rises = ranked.received x k e y row in omega arith;
    sent = λ x k e y row from. let rises = ranked.sent x k e y row in omega arith;
  }

  -- a request of a kind of IsFirst leads to rank 1, a final response from there to rank 2, and what is sent from rank 2 is one of the kinds of IsSent
  module _ (IsFirst IsSent : Kind → Type 0)
      (opens : (e : MachineEvent) (x y : Owing X) → Emits f p e x y → IsFirst e.kind → 1 ≤ rank y.phase)
      (finishes : (code : ℕ) (e : MachineEvent) (x y : Owing X) → Steps f p Received e x y → e.kind ≡ Response code → IsFinal code → 1 ≤ rank x.phase → 2 ≤ rank y.phase)
      (sends : (e : MachineEvent) (x y : Owing X) → Emits f p e x y → 2 ≤ rank x.phase → IsSent e.kind) where
    -- what is sent after a first request and then a final response is of a kind that is sent from rank 2
    after_final : (before between later : List MachineEvent) (request final e : MachineEvent) (code : ℕ) (y : Owing X) → request.action ≡ Sent → IsFirst request.kind →
        final.action ≡ Received → final.kind ≡ Response code → IsFinal code → e.action ≡ Sent →
        AfterRun (rules_of_figure f p) (before ++ request ∷ (between ++ final ∷ later)) e y → IsSent e.kind
    after_final before between later request final e code y request_sent first final_received is_response is_final e_sent after =
        let r = rules_of_figure f p in
        let last = Goes-last r r.first 0 after.steps (Takes e) y after.goes in
        -- the run is cut at the request and at the final response
        let one = Goes-through r r.first 0 after.steps last.before last.at before request (between ++ final ∷ later) last.goes after.takes in
        let two = Goes-through r one.reached request.moment one.steps last.before last.at between final later one.goes one.takes in
        -- after the request the rank is 1 or more, and after the final response 2 or more
        let opened = opens request (when f p request one.before) one.reached (step_of f p Sent request one.before one.reached request_sent one.does) first in
        let risen = goes_keep f p (λ x. 1 ≤ rank x) (rank_kept 1 (omega arith)) one.reached request.moment two.front two.before two.at two.to opened in
        let finished = finishes code final (when f p final two.before) two.reached (step_of f p Received final two.before two.reached final_received two.does) is_response is_final risen in
        let still = goes_keep f p (λ x. 2 ≤ rank x) (rank_kept 2 (omega arith)) two.reached final.moment two.steps last.before last.at two.goes finished in
        sends e (when f p e last.before) y (step_of f p Sent e last.before y e_sent last.does) still

-- What follows is of one event e that leads by a row from the state x to the state y: the figure is f with the times p, and `rank` ranks its phases.
module _ {X : Type 0} (f : Figure X) (p : Times) (rank : X → ℕ) (x y : Owing X) (e : MachineEvent) (row : Row X) where
  -- a received message for which there is a row leads to rank 2 where each row for it does
  leads_on : (k : Kind) → e.kind ≡ k → f.Receives p x.phase k e row → ((other : Row X) → f.Receives p x.phase k e other → 2 ≤ rank other.0) → Steps f p Received e x y → 2 ≤ rank y.phase
  leads_on k is is_row all (inl (other, is_other, to)) = rw to (all other (subst (λ j. f.Receives p x.phase j e other) is is_other))
  leads_on k is is_row all (inr (none, same)) = absurd (none (led_to p e.moment x.owes row) (row, subst (λ j. f.Receives p x.phase j e row) (sym is) is_row, refl))

-- What follows is of the INVITE client.

-- 0 before the INVITE, 1 before the final response to it, 2 after it
abbrev invite_rank : invite.InviteClientPhase → ℕ
invite_rank invite.Idle = 0
invite_rank (invite.Calling w) = 1
invite_rank (invite.Proceeding reliable request cancel) = 1
invite_rank (invite.Accepted set) = 2
invite_rank (invite.Completed reliable request set) = 2
invite_rank invite.Ended = 2

-- no row of a message that the INVITE client receives leads to a lower rank
-- x is the phase, k the kind of the message e, and y where its row leads
-- in calling a response leads to proceeding, to accepted or to completed, and in proceeding to one of the last two
invite_received : (p : Times) (x : invite.InviteClientPhase) (k : Kind) (e : MachineEvent) (y : Row invite.InviteClientPhase) → invite.Receives p x k e y → invite_rank x ≤ invite_rank y.0
invite_received p (invite.Calling w) (Response code) e y (inl h) = rw h.1 (omega arith)
invite_received p (invite.Calling w) (Response code) e y (inr (inl h)) = rw h.1 (omega arith)
invite_received p (invite.Calling w) (Response code) e y (inr (inr h)) = rw h.1 (omega arith)
invite_received p (invite.Proceeding reliable request cancel) (Response code) e y (inl h) = rw h.1 (omega arith)
invite_received p (invite.Proceeding reliable request cancel) (Response code) e y (inr h) = rw h.1 (omega arith)
invite_received p (invite.Completed reliable request set) (Response code) e y h = rw h.1 (omega arith)
invite_received p x k e y h = absurd h

-- no row of a message that the INVITE client sends leads to a lower rank
-- x is the phase, k the kind of the message e, and y where its row leads
invite_sent : (p : Times) (x : invite.InviteClientPhase) (k : Kind) (e : MachineEvent) (y : Row invite.InviteClientPhase) → invite.Sends p x k e y → invite_rank x ≤ invite_rank y.0
-- idle has the lowest rank
invite_sent p invite.Idle k e y h = omega arith
-- a repeat of the INVITE, and a CANCEL, leave the rank as it is
invite_sent p (invite.Calling w) (Request Invite) e y h = rw h.1 (omega arith)
invite_sent p (invite.Proceeding reliable request None) (Request Cancel) e y h = rw h (omega arith)
invite_sent p (invite.Proceeding reliable request (Some first)) (Request Cancel) e y h = rw h (omega arith)
invite_sent p (invite.Accepted set) (Request Cancel) e y h = rw h (omega arith)
invite_sent p (invite.Completed reliable request set) (Request Cancel) e y h = rw h (omega arith)
invite_sent p invite.Ended (Request Cancel) e y h = rw h (omega arith)
-- no other phase sends anything
invite_sent p x k e y h = absurd h

-- no row of the INVITE client leads to a lower rank
invite_ranked : (p : Times) → IsRanked invite.invite_client p invite_rank
invite_ranked p = record { ended = refl; received = invite_received p; sent = invite_sent p }

-- an INVITE that is sent by its row leads to rank 1 or 2: it has a row in idle and in calling alone, which leads to calling
invite_opens_row : (p : Times) (x : invite.InviteClientPhase) (e : MachineEvent) (y : Row invite.InviteClientPhase) → invite.Sends p x (Request Invite) e y → 1 ≤ invite_rank y.0
invite_opens_row p invite.Idle e y h = rw h (omega arith)
invite_opens_row p (invite.Calling w) e y h = rw h.1 (omega arith)
invite_opens_row p (invite.Proceeding reliable request None) e y h = absurd h
invite_opens_row p (invite.Proceeding reliable request (Some first)) e y h = absurd h
invite_opens_row p x e y h = absurd h

-- only an ACK pays what the INVITE client owes, and only in completed
pays_ack : (x : invite.InviteClientPhase) (k : Kind) (e : MachineEvent) (response : List ℕ) → invite.Satisfies x k e response → k ≡ Request Ack
pays_ack (invite.Completed reliable request set) (Request Ack) e response h = refl
pays_ack x k e response h = absurd h

-- an INVITE is no ACK
no_invite : Request Invite ≡ Request Ack → ⊥
no_invite same = cc

-- an INVITE that is sent leads to rank 1 or 2, from whatever state: it has a row, since only an ACK pays a debt
invite_opens : (p : Times) (e : MachineEvent) (x y : Owing invite.InviteClientPhase) → Emits invite.invite_client p e x y → e.kind ≡ Request Invite → 1 ≤ invite_rank y.phase
invite_opens p e x y (inl (row, is_row, to)) is = rw to (invite_opens_row p x.phase e row (subst (λ k. invite.Sends p x.phase k e row) is is_row))
invite_opens p e x y (inr (inl (left, pays, to))) is = absurd (no_invite (sym is ∙ pays_ack x.phase e.kind e pays.first.message pays.holds.0))
invite_opens p e x y (inr (inr (stays, same))) is = absurd stays

-- What follows is of an event e with which an INVITE client with the times p receives a final response with this code, and of y, the state after it.
module _ (p : Times) (code : ℕ) (e : MachineEvent) (y : Owing invite.InviteClientPhase) (is : e.kind ≡ Response code) (final : IsFinal code) where
  -- a final response leaves rank 2 as it is
  still_over : (phase : invite.InviteClientPhase) (owes : List Owed) → 2 ≤ invite_rank phase → Steps invite.invite_client p Received e (record { phase = phase; owes = owes }) y → 2 ≤ invite_rank y.phase
  still_over phase owes over h = steps_keep invite.invite_client p (λ x. 2 ≤ invite_rank x) (rank_kept invite.invite_client p invite_rank (invite_ranked p) 2 (omega arith)) Received e _ y h over

  -- a final response leads from rank 1 or 2 to rank 2: in calling and in proceeding a 2xx has one row and a 300 to 699 another; later phases keep their rank
  invite_finishes : (phase : invite.InviteClientPhase) (owes : List Owed) → 1 ≤ invite_rank phase → Steps invite.invite_client p Received e (record { phase = phase; owes = owes }) y → 2 ≤ invite_rank y.phase
  invite_finishes invite.Idle owes low h = absurd (omega arith)
  invite_finishes (invite.Calling w) owes low h = by_code (dec_le code 299)
    where
      -- each row of a final response in calling leads to a phase of rank 2 or more
      all : (other : Row invite.InviteClientPhase) → invite.Receives p (invite.Calling w) (Response code) e other → 2 ≤ invite_rank other.0
      all other (inl h) = absurd (omega (arith, h.0.1, final.0))
      all other (inr (inl h)) = rw h.1 (omega arith)
      all other (inr (inr h)) = rw h.1 (omega arith)

      -- the final response is a 2xx or one of 300 to 699
      by_code : Dec (code ≤ 299) → 2 ≤ invite_rank y.phase
      by_code (yes low) = leads_on invite.invite_client p invite_rank _ y e _ (Response code) is (inr (inl ((final.0, low), refl))) all h
      by_code (no high) = leads_on invite.invite_client p invite_rank _ y e _ (Response code) is (inr (inr ((omega arith, final.1), refl))) all h
  invite_finishes (invite.Proceeding reliable request cancel) owes low h = by_code (dec_le code 299)
    where
      -- each row of proceeding for a final response leads to rank 2
      all : (other : Row invite.InviteClientPhase) → invite.Receives p (invite.Proceeding reliable request cancel) (Response code) e other → 2 ≤ invite_rank other.0
      all other (inl h) = rw h.1 (omega arith)
      all other (inr h) = rw h.1 (omega arith)

      -- the final response is a 2xx or one of 300 to 699
      by_code : Dec (code ≤ 299) → 2 ≤ invite_rank y.phase
      by_code (yes low) = leads_on invite.invite_client p invite_rank _ y e _ (Response code) is (inl ((final.0, low), refl)) all h
      by_code (no high) = leads_on invite.invite_client p invite_rank _ y e _ (Response code) is (inr ((omega arith, final.1), refl)) all h
  invite_finishes (invite.Accepted set) owes low h = still_over (invite.Accepted set) owes (omega arith) h
  invite_finishes (invite.Completed reliable request set) owes low h = still_over (invite.Completed reliable request set) owes (omega arith) h
  invite_finishes invite.Ended owes low h = still_over invite.Ended owes (omega arith) h

-- what a row sends from rank 2 is an ACK or a CANCEL
-- x is the phase, k the kind of the message e, and y where its row leads
-- idle, calling and proceeding have a lower rank than 2; later phases send a CANCEL alone
invite_sends_row : (p : Times) (x : invite.InviteClientPhase) (k : Kind) (e : MachineEvent) (y : Row invite.InviteClientPhase) → 2 ≤ invite_rank x → invite.Sends p x k e y → (k ≡ Request Ack) ⊎ (k ≡ Request Cancel)
invite_sends_row p invite.Idle k e y low h = absurd (omega arith)
invite_sends_row p (invite.Calling w) k e y low h = absurd (omega arith)
invite_sends_row p (invite.Proceeding reliable request cancel) k e y low h = absurd (omega arith)
invite_sends_row p (invite.Accepted set) (Request Cancel) e y low h = inr refl
invite_sends_row p (invite.Completed reliable request set) (Request Cancel) e y low h = inr refl
invite_sends_row p invite.Ended (Request Cancel) e y low h = inr refl
invite_sends_row p x k e y low h = absurd h

-- what an INVITE client sends from rank 2 is an ACK or a CANCEL
invite_sends : (p : Times) (e : MachineEvent) (x y : Owing invite.InviteClientPhase) → Emits invite.invite_client p e x y → 2 ≤ invite_rank x.phase → (e.kind ≡ Request Ack) ⊎ (e.kind ≡ Request Cancel)
invite_sends p e x y (inl (row, is_row, to)) low = invite_sends_row p x.phase e.kind e row low is_row
invite_sends p e x y (inr (inr (stays, same))) low = absurd stays
invite_sends p e x y (inr (inl (left, pays, to))) low = inl (pays_ack x.phase e.kind e pays.first.message pays.holds.0)

-- by the rules of RFC 6026 an INVITE client that has received a final response to its INVITE sends only an ACK or a CANCEL
pub invite_after_final : (p : Times) (before between later : List MachineEvent) (request final e : MachineEvent) (code : ℕ) (y : Owing invite.InviteClientPhase) → request.action ≡ Sent → request.kind ≡ Request Invite →
    final.action ≡ Received → final.kind ≡ Response code → IsFinal code → e.action ≡ Sent →
    AfterRun (key_rules p (OfInvite R6026 Client)) (before ++ request ∷ (between ++ final ∷ later)) e y → (e.kind ≡ Request Ack) ⊎ (e.kind ≡ Request Cancel)
invite_after_final p =
    after_final invite.invite_client p invite_rank (invite_ranked p) (λ k. k ≡ Request Invite) (λ k. (k ≡ Request Ack) ⊎ (k ≡ Request Cancel)) (invite_opens p)
    (λ code e x y h is final low. invite_finishes p code e y is final x.phase x.owes low h) (invite_sends p)

-- What follows is of an INVITE that is sent again.

-- What follows is of an INVITE client with the times p: `one` is the event with which its INVITE was sent first.
module _ (p : Times) (one : MachineEvent) where
  -- the client has left idle; in calling it holds the INVITE `one`, which it sent last at the moment of `one` or later, and its interval is T1 or longer
  abbrev Awaits : invite.InviteClientPhase → Type 0
  Awaits invite.Idle = ⊥
  Awaits (invite.Calling w) = (w.request ≡ one.text) × (w.reliable ≡ one.reliable) × (one.moment ≤ w.set) × (p.t1 ≤ w.interval)
  Awaits (invite.Proceeding reliable request cancel) = ⊤
  Awaits (invite.Accepted set) = ⊤
  Awaits (invite.Completed reliable request set) = ⊤
  Awaits invite.Ended = ⊤

  -- no message that the client receives makes Awaits false
  -- x is the phase, k the kind of the message e, and y where its row leads
  -- in calling, in proceeding and in completed a response leads on; no other phase receives
  awaits_received : (x : invite.InviteClientPhase) (k : Kind) (e : MachineEvent) (y : Row invite.InviteClientPhase) → invite.Receives p x k e y → Awaits x → Awaits y.0
  awaits_received (invite.Calling w) (Response code) e y (inl h) holds = rw h.1 tt
  awaits_received (invite.Calling w) (Response code) e y (inr (inl h)) holds = rw h.1 tt
  awaits_received (invite.Calling w) (Response code) e y (inr (inr h)) holds = rw h.1 tt
  awaits_received (invite.Proceeding reliable request cancel) (Response code) e y (inl h) holds = rw h.1 tt
  awaits_received (invite.Proceeding reliable request cancel) (Response code) e y (inr h) holds = rw h.1 tt
  awaits_received (invite.Completed reliable request set) (Response code) e y h holds = rw h.1 tt
  awaits_received x k e y h holds = absurd h

  -- no message that the client sends makes Awaits false
  -- x is the phase, k the kind of the message e, and y where its row leads
  awaits_sent : (x : invite.InviteClientPhase) (k : Kind) (e : MachineEvent) (y : Row invite.InviteClientPhase) → invite.Sends p x k e y → Awaits x → Awaits y.0
  -- in idle Awaits does not hold; in calling the INVITE is sent again, and its interval grows
  awaits_sent invite.Idle k e y h holds = absurd holds
  awaits_sent (invite.Calling w) (Request Invite) e y h holds = rw h.1 (holds.0, holds.1, omega (arith, h.0.fires, holds.2), omega (arith, holds.3))
  -- a CANCEL leaves the phase, but for when it was sent, and nothing else is sent
  awaits_sent (invite.Proceeding reliable request None) (Request Cancel) e y h holds = rw h tt
  awaits_sent (invite.Proceeding reliable request (Some first)) (Request Cancel) e y h holds = rw h tt
  awaits_sent (invite.Accepted set) (Request Cancel) e y h holds = rw h tt
  awaits_sent (invite.Completed reliable request set) (Request Cancel) e y h holds = rw h tt
  awaits_sent invite.Ended (Request Cancel) e y h holds = rw h tt
  awaits_sent x k e y h holds = absurd h

  -- waits and events of the INVITE client keep Awaits
  awaits_kept : IsKept invite.invite_client p Awaits
  awaits_kept = record { ended = tt; received = awaits_received; sent = awaits_sent }

  -- Awaits holds after `one` was sent from the idle state
  awaits_opens : (y : Owing invite.InviteClientPhase) → Emits invite.invite_client p one (record { phase = invite.Idle; owes = [] }) y → one.kind ≡ Request Invite → Awaits y.phase
  awaits_opens y (inl (row, is_row, to)) is =
      -- the row of idle leads to calling with the bytes, the transport and the moment of `one`, and the interval T1
      rw to (rw (subst (λ k. invite.Sends p invite.Idle k one row) is is_row) (refl, refl, omega arith, omega arith))
  awaits_opens y (inr (inr (stays, same))) is = absurd stays
  awaits_opens y (inr (inl (left, pays, to))) is = absurd (no_invite (sym is ∙ pays_ack invite.Idle one.kind one pays.first.message pays.holds.0))

  -- where Awaits holds, an INVITE that is sent by its row has the bytes of `one`, over an unreliable transport, T1 after `one` or later
  again : (x : invite.InviteClientPhase) (e : MachineEvent) (y : Row invite.InviteClientPhase) → invite.Sends p x (Request Invite) e y → Awaits x → (e.text ≡ one.text) × (one.reliable ≡ false) × (open_at p one.moment p.t1 ≤ e.moment)
  again invite.Idle e y h holds = absurd holds
  -- in calling the row is that of timer A (Retransmits), and no later phase sends an INVITE
  again (invite.Calling w) e y h holds = (h.0.same ∙ holds.0, sym holds.1 ∙ h.0.unreliable, omega (arith, h.0.fires, holds.2, holds.3))
  again (invite.Proceeding reliable request None) e y h holds = absurd h
  again (invite.Proceeding reliable request (Some first)) e y h holds = absurd h
  again x e y h holds = absurd h

  -- where Awaits holds, an INVITE that is sent by a row or as a debt has the bytes of `one`, over an unreliable transport, T1 after `one` or later
  again_emits : (e : MachineEvent) (x y : Owing invite.InviteClientPhase) → Emits invite.invite_client p e x y → e.kind ≡ Request Invite → Awaits x.phase → (e.text ≡ one.text) × (one.reliable ≡ false) × (open_at p one.moment p.t1 ≤ e.moment)
  again_emits e x y (inl (row, is_row, to)) is holds = again x.phase e row (subst (λ k. invite.Sends p x.phase k e row) is is_row) holds
  again_emits e x y (inr (inr (stays, same))) is holds = absurd stays
  again_emits e x y (inr (inl (left, pays, to))) is holds = absurd (no_invite (sym is ∙ pays_ack x.phase e.kind e pays.first.message pays.holds.0))

  -- Awaits holds after the steps of a run that begins with `one`
  -- the steps begin at the moment h, and lead to y at the moment m
  from_first : (h : ℕ) (steps : List Step) (y : Owing invite.InviteClientPhase) (m : ℕ) (between : List MachineEvent) → one.action ≡ Sent → one.kind ≡ Request Invite →
      Goes (key_rules p (OfInvite R6026 Client)) (record { phase = invite.Idle; owes = [] }) h steps y m → taken steps ≡ one ∷ between → Awaits y.phase
  -- some step takes the first event, and nothing can end from idle before it
  from_first h [] y m between sent is goes takes = absurd (cc)
  from_first h (Hides t ∷ steps) y m between sent is (z, low, hides, goes) takes = absurd hides.opened
  -- the step that takes it sends the INVITE, which makes Awaits true; the later steps keep it
  from_first h (Takes e ∷ steps) y m between sent is (z, low, does, goes) takes =
      let same : e ≡ one = cc in
      let emits = subst (λ a. Steps invite.invite_client p a one (record { phase = invite.Idle; owes = [] }) z) sent
      (subst (λ g. Steps invite.invite_client p g.action g (record { phase = invite.Idle; owes = [] }) z) same does.1.1) in
      goes_keep invite.invite_client p Awaits awaits_kept z e.moment steps y m goes (awaits_opens z emits is)

  -- by the rules of RFC 6026 the INVITE that begins a run is sent again byte for byte, over an unreliable transport, and T1 after it, less early, or later
  pub invite_again : (between : List MachineEvent) (e : MachineEvent) (y : Owing invite.InviteClientPhase) → one.action ≡ Sent → one.kind ≡ Request Invite → e.action ≡ Sent → e.kind ≡ Request Invite →
      AfterRun (key_rules p (OfInvite R6026 Client)) (one ∷ between) e y → (e.text ≡ one.text) × (one.reliable ≡ false) × (open_at p one.moment p.t1 ≤ e.moment)
  invite_again between e y one_sent one_is e_sent e_is after =
      let r = key_rules p (OfInvite R6026 Client) in
      let last = Goes-last r r.first 0 after.steps (Takes e) y after.goes in
      let awaits = from_first 0 after.steps last.before last.at between one_sent one_is last.goes after.takes in
      again_emits e (when invite.invite_client p e last.before) y (step_of invite.invite_client p Sent e last.before y e_sent last.does) e_is awaits

-- What follows is of the non-INVITE client.

-- 0 before the request, 1 before the final response to it, 2 after it
abbrev plain_rank : plain.PlainClientPhase → ℕ
plain_rank plain.Idle = 0
plain_rank (plain.Trying w) = 1
plain_rank (plain.Proceeding w) = 1
plain_rank (plain.Completed reliable set) = 2
plain_rank plain.Ended = 2

-- no row of a message that the non-INVITE client receives leads to a lower rank: in trying a response leads to proceeding or to completed, and in proceeding
-- a final one to completed
-- x is the phase, k the kind of the message e, and y where its row leads
plain_received : (p : Times) (x : plain.PlainClientPhase) (k : Kind) (e : MachineEvent) (y : Row plain.PlainClientPhase) → plain.Receives p x k e y → plain_rank x ≤ plain_rank y.0
plain_received p (plain.Trying w) (Response code) e y (inl h) = rw h.1 (omega arith)
plain_received p (plain.Trying w) (Response code) e y (inr h) = rw h.1 (omega arith)
plain_received p (plain.Proceeding w) (Response code) e y h = rw h.1 (omega arith)
plain_received p x k e y h = absurd h

-- no row of a message that the non-INVITE client sends leads to a lower rank: idle has the lowest one, and a repeat of the request leaves the rank as it is
-- x is the phase, k the kind of the message e, and y where its row leads
plain_sent : (p : Times) (x : plain.PlainClientPhase) (k : Kind) (e : MachineEvent) (y : Row plain.PlainClientPhase) → plain.Sends p x k e y → plain_rank x ≤ plain_rank y.0
plain_sent p plain.Idle k e y h = omega arith
plain_sent p (plain.Trying w) (Request method) e y h = rw h.1 (omega arith)
plain_sent p (plain.Proceeding w) (Request method) e y h = rw h.1 (omega arith)
plain_sent p x k e y h = absurd h

-- no row of the non-INVITE client leads to a lower rank
plain_ranked : (p : Times) → IsRanked plain.plain_client p plain_rank
plain_ranked p = record { ended = refl; received = plain_received p; sent = plain_sent p }

-- the kind is a request, of any method
abbrev IsRequest : Kind → Type 0
IsRequest k = (method : Method) × (k ≡ Request method)

-- a request that is sent by its row leads to rank 1 or 2: in idle to trying; in trying and in proceeding it is sent again, and no later phase sends one
plain_opens_row : (p : Times) (x : plain.PlainClientPhase) (method : Method) (e : MachineEvent) (y : Row plain.PlainClientPhase) → plain.Sends p x (Request method) e y → 1 ≤ plain_rank y.0
plain_opens_row p plain.Idle method e y h = rw h (omega arith)
plain_opens_row p (plain.Trying w) method e y h = rw h.1 (omega arith)
plain_opens_row p (plain.Proceeding w) method e y h = rw h.1 (omega arith)
plain_opens_row p x method e y h = absurd h

-- a request that is sent leads to rank 1 or 2, from whatever state
plain_opens : (p : Times) (e : MachineEvent) (x y : Owing plain.PlainClientPhase) → Emits plain.plain_client p e x y → IsRequest e.kind → 1 ≤ plain_rank y.phase
plain_opens p e x y (inl (row, is_row, to)) is = rw to (plain_opens_row p x.phase is.0 e row (subst (λ k. plain.Sends p x.phase k e row) is.1 is_row))
plain_opens p e x y (inr (inr (stays, same))) is = absurd stays
plain_opens p e x y (inr (inl (left, pays, to))) is = absurd pays.holds.0

-- What follows is of an event e with which a non-INVITE client with the times p receives a final response with this code, and of y, the state after it.
module _ (p : Times) (code : ℕ) (e : MachineEvent) (y : Owing plain.PlainClientPhase) (is : e.kind ≡ Response code) (final : IsFinal code) where
  -- a final response leaves rank 2 of the non-INVITE client as it is
  plain_still_over : (phase : plain.PlainClientPhase) (owes : List Owed) → 2 ≤ plain_rank phase → Steps plain.plain_client p Received e (record { phase = phase; owes = owes }) y → 2 ≤ plain_rank y.phase
  plain_still_over phase owes over h = steps_keep plain.plain_client p (λ x. 2 ≤ plain_rank x) (rank_kept plain.plain_client p plain_rank (plain_ranked p) 2 (omega arith)) Received e _ y h over

  -- a final response leads from rank 1 or 2 to rank 2: in trying and in proceeding it has a row, and in completed and ended none
  plain_finishes : (phase : plain.PlainClientPhase) (owes : List Owed) → 1 ≤ plain_rank phase → Steps plain.plain_client p Received e (record { phase = phase; owes = owes }) y → 2 ≤ plain_rank y.phase
  plain_finishes plain.Idle owes low h = absurd (omega arith)
  plain_finishes (plain.Trying w) owes low h = leads_on plain.plain_client p plain_rank _ y e _ (Response code) is (inr (final, refl)) all h
    where
      -- each row of a final response in trying leads to a phase of rank 2 or more; the first row is of a provisional response
      all : (other : Row plain.PlainClientPhase) → plain.Receives p (plain.Trying w) (Response code) e other → 2 ≤ plain_rank other.0
      all other (inl h) = absurd (omega (arith, h.0.1, final.0))
      all other (inr h) = rw h.1 (omega arith)
  plain_finishes (plain.Proceeding w) owes low h = leads_on plain.plain_client p plain_rank _ y e _ (Response code) is (final, refl) (λ other is_other. rw is_other.1 (omega arith)) h
  plain_finishes (plain.Completed reliable set) owes low h = plain_still_over (plain.Completed reliable set) owes (omega arith) h
  plain_finishes plain.Ended owes low h = plain_still_over plain.Ended owes (omega arith) h

-- no row sends a message from rank 2
-- x is the phase, k the kind of the message e, and y where its row leads
plain_sends_row : (p : Times) (x : plain.PlainClientPhase) (k : Kind) (e : MachineEvent) (y : Row plain.PlainClientPhase) → 2 ≤ plain_rank x → plain.Sends p x k e y → ⊥
plain_sends_row p plain.Idle k e y low h = omega arith
plain_sends_row p (plain.Trying w) k e y low h = omega arith
plain_sends_row p (plain.Proceeding w) k e y low h = omega arith
plain_sends_row p (plain.Completed reliable set) k e y low h = h
plain_sends_row p plain.Ended k e y low h = h

-- a non-INVITE client sends nothing from rank 2
plain_sends : (p : Times) (e : MachineEvent) (x y : Owing plain.PlainClientPhase) → Emits plain.plain_client p e x y → 2 ≤ plain_rank x.phase → ⊥
plain_sends p e x y (inl (row, is_row, to)) low = plain_sends_row p x.phase e.kind e row low is_row
plain_sends p e x y (inr (inr (stays, same))) low = absurd stays
plain_sends p e x y (inr (inl (left, pays, to))) low = pays.holds.0

-- a client that has received a final response to a request that is no INVITE sends nothing
plain_silent : (p : Times) (before between later : List MachineEvent) (request final e : MachineEvent) (code : ℕ) (y : Owing plain.PlainClientPhase) → request.action ≡ Sent → IsRequest request.kind →
    final.action ≡ Received → final.kind ≡ Response code → IsFinal code → e.action ≡ Sent →
    AfterRun (key_rules p (OfPlain Client)) (before ++ request ∷ (between ++ final ∷ later)) e y → ⊥
plain_silent p =
    after_final plain.plain_client p plain_rank (plain_ranked p) IsRequest (λ k. ⊥) (plain_opens p)
    (λ code e x y h is final low. plain_finishes p code e y is final x.phase x.owes low h) (plain_sends p)

-- a client that has received a final response to a request that is no INVITE sends nothing, by the rules of RFC 3261 and of RFC 6026
pub plain_after_final : (p : Times) (rules : Rules) (before between later : List MachineEvent) (request final e : MachineEvent) (code : ℕ) (y : OwingOf (machine_of rules Client false)) →
    request.action ≡ Sent → IsRequest request.kind → final.action ≡ Received → final.kind ≡ Response code → IsFinal code → e.action ≡ Sent →
    AfterRun (key_rules p (machine_of rules Client false)) (before ++ request ∷ (between ++ final ∷ later)) e y → ⊥
plain_after_final p R6026 = plain_silent p
plain_after_final p R3261 = plain_silent p
