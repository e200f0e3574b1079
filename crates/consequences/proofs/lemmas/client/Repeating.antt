-- How far apart a client sends its request again.
-- In the lemmas ms are the moments of the requests so far and m the one of the next; x is the phase or the state before a step, and y the state after it.
-- In cases of `Emits` a message that is sent has a row (`row`, `is_row`, `to`), or pays a debt (`left`, `pays`), or changes nothing (`stays`,
-- `same`), which only the INVITE server by RFC 3261 alone lets it (Stays). In cases of `Steps` a message that is received has a row, or has none and
-- changes nothing (`none`, `same`), and a restart leaves idle as it is (`idle`) and ends any other phase (`other`).
use Rattle.std.proofs.Common.{◌≡◌, ◌≤◌, ◌*◌, ◌⊎◌, inl, inr, ℕ, Bool, true, false, Some, List, [], ◌∷◌, ◌++◌, filter, map, min, refl, sym, ap, subst, ◌∙◌, arith, if◌then◌else◌}
use Rattle.sip_standard.specs.declared.action.Action.{Action}
use Rattle.sip_standard.specs.declared.action.Action.TheVariants.{Sent, Received, Failed, Mark, Restart}
use Rattle.sip_standard.specs.declared.kind.Method.TheVariants.{Invite, Ack, Cancel, Other}
use Rattle.sip_standard.specs.declared.kind.Kind.{Kind}
use Rattle.sip_standard.specs.declared.kind.Kind.TheVariants.{Request, Response}
use Rattle.sip_standard.specs.Times.{Times}
use Rattle.sip_standard.specs.Window.{open_at}
use Rattle.sip_standard.specs.MachineEvent.{MachineEvent}
use Rattle.sip_standard.specs.Figure.{Figure, Change, keeps, Owing, quiet, Emits, Fails, Steps}
use Rattle.sip_standard.specs.InviteClient as invite
use Rattle.sip_standard.specs.PlainClient as plain
use Rattle.sip_standard.specs.Stands.{Stands}
use Rattle.consequences.specs.Repeats.{sends_invite, sends_request, AreSpaced, IsSpaced}
use Rattle.consequences.proofs.lemmas.client.InviteClients.{Row, Receiving, client, IsDone, Answers, IsReceiving, pays-nothing, sends-idle, sends-calling, sends-proceeding, sends-accepted, sends-completed, sends-ended}
use Rattle.consequences.proofs.lemmas.run.Running.{IsKept, left_at, stands-run, run-keeps}

-- the moments after the first one lie no closer than the growing intervals, early tolerance aside; the last of them is `last`, and the next interval is `more`
abbrev SpacedTo : Times → (ℕ → ℕ) → ℕ → ℕ → List ℕ → ℕ → ℕ → Type 0
SpacedTo p next first interval [] last more = (last ≡ first) × (more ≡ interval)
SpacedTo p next first interval (m ∷ ms) last more = (open_at p first interval ≤ m) × SpacedTo p next m (next interval) ms last more

-- SpacedTo stays true with one moment more, which is not before the timer of the next interval, set at the last moment, may first fire
one-more : (p : Times) (next : ℕ → ℕ) (first interval : ℕ) (ms : List ℕ) (last more m : ℕ) → SpacedTo p next first interval ms last more → open_at p last more ≤ m →
    SpacedTo p next first interval (ms ++ m ∷ []) m (next more)
one-more p next first interval [] last more m spaced low =
    (subst (λ i. open_at p first i ≤ m) spaced.1 (subst (λ l. open_at p l more ≤ m) spaced.0 low), (refl, ap next spaced.1))
one-more p next first interval (k ∷ ms) last more m spaced low = (spaced.0, one-more p next k (next interval) ms last more m spaced.1 low)

-- moments that SpacedTo holds of lie no closer than the intervals
are-spaced : (p : Times) (next : ℕ → ℕ) (first interval : ℕ) (ms : List ℕ) (last more : ℕ) → SpacedTo p next first interval ms last more → AreSpaced p next first interval ms
are-spaced p next first interval [] last more spaced = tt
are-spaced p next first interval (m ∷ ms) last more spaced = (spaced.0, are-spaced p next m (next interval) ms last more spaced.1)

-- the moments begin with one, and those after it lie no closer than the intervals that grow from T1
abbrev Begins : Times → (ℕ → ℕ) → List ℕ → ℕ → ℕ → Type 0
Begins p next moments last more = (first : ℕ) × (ms : List ℕ) × (moments ≡ first ∷ ms) × SpacedTo p next first p.t1 ms last more

-- moments that begin so lie no closer than the intervals
begins-spaced : (p : Times) (next : ℕ → ℕ) (moments : List ℕ) (last more : ℕ) → Begins p next moments last more → IsSpaced p next moments
begins-spaced p next moments last more (first, ms, is, spaced) = rw is (are-spaced p next first p.t1 ms last more spaced)

-- Begins stays true with one moment more, which comes after the next interval or later
begins-more : (p : Times) (next : ℕ → ℕ) (moments : List ℕ) (last more m : ℕ) → Begins p next moments last more → open_at p last more ≤ m → Begins p next (moments ++ m ∷ []) m (next more)
begins-more p next moments last more m (first, ms, is, spaced) low = (first, ms ++ m ∷ [], ap (λ xs. xs ++ m ∷ []) is, one-more p next first p.t1 ms last more m spaced low)

-- the moments of the events that pass a test
abbrev passed : (MachineEvent → Bool) → List MachineEvent → List ℕ
passed test events = map (λ e. e.moment) (filter test events)

-- the moment of the first event stands first if the event passes the test, and else is left out
pass-cons : (test : MachineEvent → Bool) (e : MachineEvent) (es : List MachineEvent) (b : Bool) → test e ≡ b → passed test (e ∷ es) ≡ (if b then e.moment ∷ passed test es else passed test es)
pass-cons test e es true is = rw is refl
pass-cons test e es false is = rw is refl

-- an event that passes the test adds its moment at the end
passed-more : (test : MachineEvent → Bool) (es : List MachineEvent) (e : MachineEvent) → test e ≡ true → passed test (es ++ e ∷ []) ≡ passed test es ++ e.moment ∷ []
passed-more test [] e is = pass-cons test e [] true is
passed-more test (g ∷ es) e is = by (test g) refl (passed-more test es e is)
  where
    -- where e passes the test, its moment is the last of those that pass, whether or not g passes as well, which b says
    by : (b : Bool) → test g ≡ b → passed test (es ++ e ∷ []) ≡ passed test es ++ e.moment ∷ [] → passed test (g ∷ (es ++ e ∷ [])) ≡ passed test (g ∷ es) ++ e.moment ∷ []
    by true here same = pass-cons test g (es ++ e ∷ []) true here ∙ ap (λ ms. g.moment ∷ ms) same ∙ sym (ap (λ ms. ms ++ e.moment ∷ []) (pass-cons test g es true here))
    by false here same = pass-cons test g (es ++ e ∷ []) false here ∙ same ∙ sym (ap (λ ms. ms ++ e.moment ∷ []) (pass-cons test g es false here))

-- an event that does not pass the test adds no moment
passed-same : (test : MachineEvent → Bool) (es : List MachineEvent) (e : MachineEvent) → test e ≡ false → passed test (es ++ e ∷ []) ≡ passed test es
passed-same test [] e is = pass-cons test e [] false is
passed-same test (g ∷ es) e is = by (test g) refl (passed-same test es e is)
  where
    -- where e does not pass the test, the moments of those that pass stay as they are, whether or not g passes, which b says
    by : (b : Bool) → test g ≡ b → passed test (es ++ e ∷ []) ≡ passed test es → passed test (g ∷ (es ++ e ∷ [])) ≡ passed test (g ∷ es)
    by true here same = pass-cons test g (es ++ e ∷ []) true here ∙ ap (λ ms. g.moment ∷ ms) same ∙ sym (pass-cons test g es true here)
    by false here same = pass-cons test g (es ++ e ∷ []) false here ∙ same ∙ sym (pass-cons test g es false here)

-- What follows is of the INVITE clients.

-- a message that is sent and is no INVITE is not counted
not-an-invite : (k : Kind) → ¬ (k ≡ Request Invite) → sends_invite Sent k ≡ false
not-an-invite (Request Invite) other = absurd (other refl)
not-an-invite (Request Ack) other = refl
not-an-invite (Request Cancel) other = refl
not-an-invite (Request Other) other = refl
not-an-invite (Response code) other = refl

-- What follows is of the moments at which an INVITE client sends INVITEs: R are its rows for responses, and p its times.
module _ (R : Receiving) (is : IsReceiving R) (p : Times) where
  -- the figure of this client
  abbrev f : Figure invite.InviteClientPhase
  f = client R

  -- each interval is twice the one before
  abbrev next : ℕ → ℕ
  next = λ interval. 2 * interval

  -- whether the event is an INVITE that is sent
  abbrev test : MachineEvent → Bool
  test = λ e. sends_invite e.action e.kind

  -- what is known in a phase of the moments at which INVITEs are sent: there is none in idle, the last and the next interval are those
  -- of calling, and elsewhere they lie apart
  abbrev Invited : List ℕ → invite.InviteClientPhase → Type 0
  Invited ms invite.Idle = ms ≡ []
  Invited ms (invite.Calling w) = Begins p next ms w.set w.interval
  Invited ms x = IsSpaced p next ms

  -- where Invited holds of a phase, the moments lie apart
  -- in idle there are no moments, in calling Begins holds of them, and elsewhere Invited says just this
  invited-spaced : (ms : List ℕ) (x : invite.InviteClientPhase) → Invited ms x → IsSpaced p next ms
  invited-spaced ms invite.Idle invited = rw invited tt
  invited-spaced ms (invite.Calling w) invited = begins-spaced p next ms w.set w.interval invited
  invited-spaced ms (invite.Proceeding reliable request cancel) invited = invited
  invited-spaced ms (invite.Accepted set) invited = invited
  invited-spaced ms (invite.Completed reliable request set) invited = invited
  invited-spaced ms invite.Ended invited = invited

  -- in a phase that is done, Invited asks only that the moments lie apart
  done-invited : (ms : List ℕ) (x : invite.InviteClientPhase) → IsDone x → IsSpaced p next ms → Invited ms x
  done-invited ms invite.Ended done spaced = spaced
  done-invited ms (invite.Accepted set) done spaced = spaced
  done-invited ms x done spaced = absurd done

  -- the row of a response leads to a phase in which Invited asks only that the moments lie apart
  -- a provisional response leads to proceeding, a 2xx to a phase that is done, and a 300 to 699 to completed
  answers-invited : (ms : List ℕ) (reliable : Bool) (request : List ℕ) (k : Kind) (e : MachineEvent) (row : Row) → IsSpaced p next ms → Answers reliable request k e row → Invited ms row.0
  answers-invited ms reliable request k e row spaced (code, kind, inl h) = rw h.1 spaced
  answers-invited ms reliable request k e row spaced (code, kind, inr (inl h)) = done-invited ms row.0 h.1 spaced
  answers-invited ms reliable request k e row spaced (code, kind, inr (inr h)) = rw h.1 spaced

  -- the row of a received message keeps what is known of the moments
  invited-received : (ms : List ℕ) (x : invite.InviteClientPhase) (e : MachineEvent) (row : Row) → Invited ms x → R p x e.kind e row → Invited ms row.0
  -- in idle, in ended and in accepted no message has a row; elsewhere a response ends the sending, or leaves the moments as they are
  invited-received ms invite.Idle e row invited h = absurd (is.idle p e.kind e row h)
  invited-received ms invite.Ended e row invited h = absurd (is.ended p e.kind e row h)
  invited-received ms (invite.Accepted set) e row invited h = absurd (is.accepted p set e.kind e row h)
  invited-received ms (invite.Calling w) e row invited h =
      answers-invited ms w.reliable w.request e.kind e row (invited-spaced ms (invite.Calling w) invited) (is.calling p w e.kind e row h)
  invited-received ms (invite.Proceeding reliable request cancel) e row invited h = answers-invited ms reliable request e.kind e row invited (is.proceeding p reliable request cancel e.kind e row h)
  invited-received ms (invite.Completed reliable request set) e row invited h = rw (is.completed p reliable request set e.kind e row h).3 invited

  -- a CANCEL is no INVITE
  no-invite : ¬ (Request Cancel ≡ Request Invite)
  no-invite same = cc

  -- the row of a sent message keeps what is known of the moments, with one more where it is an INVITE
  invited-sent : (ms now : List ℕ) (x : invite.InviteClientPhase) (e : MachineEvent) (row : Row) → (e.kind ≡ Request Invite → now ≡ ms ++ e.moment ∷ []) → (¬ (e.kind ≡ Request Invite) → now ≡ ms) → Invited ms x
      → invite.Sends p x e.kind e row → Invited now row.0
  -- the first INVITE begins the moments, and what else is sent in idle leaves them
  invited-sent ms now invite.Idle e row one other invited h = by (sends-idle p e.kind e row h)
    where
      -- the moments of the INVITEs are right after the row: in idle the INVITE leads to calling and begins them, and any other message changes nothing
      by : ((e.kind ≡ Request Invite) × (row ≡ (invite.Calling (record { reliable = e.reliable; request = e.text; start = e.moment; set = e.moment; interval = p.t1 }), keeps)))
          ⊎ (¬ (e.kind ≡ Request Invite) × (row ≡ (invite.Idle, keeps))) → Invited now row.0
      by (inl leads) = rw leads.1 (e.moment, [], one leads.0 ∙ ap (λ ks. ks ++ e.moment ∷ []) invited, (refl, refl))
      by (inr leads) = rw leads.1 (other leads.0 ∙ invited)
  -- what is sent in calling is the INVITE once more, so that its moment is the next one
  invited-sent ms now (invite.Calling w) e row one other invited h =
      let sends = sends-calling p w e.kind e row h in
      rw sends.2 (subst (λ ks. Begins p next ks e.moment (2 * w.interval)) (sym (one sends.0)) (begins-more p next ms w.set w.interval e.moment invited sends.1.fires))
  -- what is sent in proceeding is a CANCEL, which leaves the moments
  invited-sent ms now (invite.Proceeding reliable request cancel) e row one other invited h = by (sends-proceeding p reliable request cancel e.kind e row h).1
    where
      -- no INVITE is sent in proceeding, so no moment is added
      same : now ≡ ms
      same = other (λ is_invite. no-invite (sym (sends-proceeding p reliable request cancel e.kind e row h).0 ∙ is_invite))

      -- the moments of the INVITEs are right after the row, whether or not the CANCEL counts as the first one
      by : (row ≡ (invite.Proceeding reliable request (Some e.moment), keeps)) ⊎ (row ≡ (invite.Proceeding reliable request cancel, keeps)) → Invited now row.0
      by (inl leads) = rw (leads, same) invited
      by (inr leads) = rw (leads, same) invited
  -- in accepted, completed and ended only another message than an INVITE is sent, so that the moments stay
  invited-sent ms now (invite.Accepted set) e row one other invited h =
      let sends = sends-accepted p set e.kind e row h in rw (sends.1, other (λ is_invite. no-invite (sym sends.0 ∙ is_invite))) invited
  invited-sent ms now (invite.Completed reliable request set) e row one other invited h =
      let sends = sends-completed p reliable request set e.kind e row h in rw (sends.1, other (λ is_invite. no-invite (sym sends.0 ∙ is_invite))) invited
  invited-sent ms now invite.Ended e row one other invited h =
      let sends = sends-ended p e.kind e row h in rw (sends.1, other (λ is_invite. no-invite (sym sends.0 ∙ is_invite))) invited

  -- an ACK is no INVITE
  ack-is-none : ¬ (Request Ack ≡ Request Invite)
  ack-is-none same = cc

  -- a message that is sent keeps what is known of the moments, with one more where it is an INVITE
  -- x and y are the states before and after the message e is sent, and `ms` and `now` the moments of the INVITEs sent until then
  invited-emits : (ms now : List ℕ) (e : MachineEvent) (x y : Owing invite.InviteClientPhase) → (e.kind ≡ Request Invite → now ≡ ms ++ e.moment ∷ []) → (¬ (e.kind ≡ Request Invite) → now ≡ ms) → Invited ms x.phase
      → Emits f p e x y → Invited now y.phase
  invited-emits ms now e x y one other invited (inl (row, is_row, to)) = rw to (invited-sent ms now x.phase e row one other invited is_row)
  invited-emits ms now e x y one other invited (inr (inl (left, pays, to))) =
      let same : now ≡ ms = other (λ is_invite. ack-is-none (sym (pays-nothing x.phase e.kind e pays.first.message pays.holds.0).4 ∙ is_invite)) in
      rw to (subst (λ ks. Invited ks x.phase) (sym same) invited)
  invited-emits ms now e x y one other invited (inr (inr (stays, same))) = absurd stays

  -- in no phase does the transaction outlive an INVITE that the transport refuses
  ended-by-an-invite : (x : invite.InviteClientPhase) → ¬ (invite.ends_refused x (Request Invite) ≡ false)
  ended-by-an-invite x same = cc

  -- a message that is refused keeps what is known of the moments
  -- x and y are the states before and after the message e was refused, and ms the moments of the INVITEs sent until then
  invited-fails : (ends : Bool) (ms : List ℕ) (e : MachineEvent) (x y : Owing invite.InviteClientPhase) → invite.ends_refused x.phase e.kind ≡ ends → Invited ms x.phase → Fails ends f p e x y → Invited ms y.phase
  invited-fails true ms e x y ends invited fails = rw fails.1 (invited-spaced ms x.phase invited)
  invited-fails false ms e x y ends invited emits =
      invited-emits ms ms e x y (λ is_invite. absurd (ended-by-an-invite x.phase (ap (invite.ends_refused x.phase) (sym is_invite) ∙ ends))) (λ other. refl) invited emits

  -- a step keeps what is known of the moments, with that of the event where it is an INVITE that is sent
  invited-steps : (a : Action) (es : List MachineEvent) (e : MachineEvent) (x y : Owing invite.InviteClientPhase) → e.action ≡ a → Invited (passed test es) x.phase → Steps f p a e x y
      → Invited (passed test (es ++ e ∷ [])) y.phase
  -- what is received adds no moment
  invited-steps Received es e x y was invited (inl (row, is_row, to)) =
      rw (to, passed-same test es e (ap (λ a. sends_invite a e.kind) was)) (invited-received (passed test es) x.phase e row invited is_row)
  invited-steps Received es e x y was invited (inr (none, same)) = rw (same, passed-same test es e (ap (λ a. sends_invite a e.kind) was)) invited
  -- a sent INVITE adds its moment, and any other sent message none
  invited-steps Sent es e x y was invited emits =
      invited-emits (passed test es) (passed test (es ++ e ∷ [])) e x y
      (λ is_invite. passed-more test es e (ap (λ a. sends_invite a e.kind) was ∙ ap (sends_invite Sent) is_invite))
      (λ other. passed-same test es e (ap (λ a. sends_invite a e.kind) was ∙ not-an-invite e.kind other)) invited emits
  -- what is refused was not sent, and adds no moment
  invited-steps Failed es e x y was invited fails =
      rw (passed-same test es e (ap (λ a. sends_invite a e.kind) was)) (invited-fails (invite.ends_refused x.phase e.kind) (passed test es) e x y refl invited fails)
  -- a mark is no event, and a restart adds no moment
  invited-steps Mark es e x y was invited h = absurd h
  invited-steps Restart es e x y was invited (inl (idle, to)) =
      rw (to, passed-same test es e (ap (λ a. sends_invite a e.kind) was)) (subst (Invited (passed test es)) idle invited)
  invited-steps Restart es e x y was invited (inr (other, to)) =
      rw (to, passed-same test es e (ap (λ a. sends_invite a e.kind) was)) (invited-spaced (passed test es) x.phase invited)

  -- a run keeps what is known of the moments at which INVITEs are sent
  invited-kept : IsKept f p (λ es m y. Invited (passed test es) y.phase)
  invited-kept = record {
    as_it_waits = λ es h m x invited low lasts. invited;
    as_it_ends = λ es h x invited may. invited-spaced (passed test es) x.phase invited;
    as_it_takes = λ es e x y invited take. invited-steps e.action es e (record { phase = x.phase; owes = left_at e x }) y refl invited take;
  }

  -- the INVITEs of a run lie no closer than the doubling intervals
  pub invites-are-spaced : (events : List MachineEvent) (m : ℕ) (y : Owing invite.InviteClientPhase) → Stands f p events m y → IsSpaced p next (passed test events)
  invites-are-spaced events m y stands =
      invited-spaced (passed test events) y.phase
      (run-keeps f p (λ es h x. Invited (passed test es) x.phase) invited-kept events (quiet invite.Idle) 0 m y refl (stands-run f p events m y stands))

-- What follows is of the client of any other method.

-- What follows is of the moments at which a non-INVITE client with the times p sends its request.
module _ (p : Times) where
  -- each interval is twice the one before, and at most T2
  abbrev next-plain : ℕ → ℕ
  next-plain = λ interval. min (2 * interval) p.t2

  -- whether the event is a request that is sent
  abbrev test-plain : MachineEvent → Bool
  test-plain = λ e. sends_request e.action e.kind

  -- what is known in a phase of the moments at which requests are sent: there is none in idle, the next interval is at most that of a
  -- phase that waits, and elsewhere they lie apart
  abbrev Asked : List ℕ → plain.PlainClientPhase → Type 0
  Asked ms plain.Idle = ms ≡ []
  Asked ms (plain.Trying w) = (more : ℕ) × Begins p next-plain ms w.set more × (more ≤ w.interval)
  Asked ms (plain.Proceeding w) = (more : ℕ) × Begins p next-plain ms w.set more × (more ≤ w.interval)
  Asked ms x = IsSpaced p next-plain ms

  -- where Asked holds of a phase, the moments lie apart
  asked-spaced : (ms : List ℕ) (x : plain.PlainClientPhase) → Asked ms x → IsSpaced p next-plain ms
  asked-spaced ms plain.Idle asked = rw asked tt
  asked-spaced ms (plain.Trying w) asked = begins-spaced p next-plain ms w.set asked.0 asked.1
  asked-spaced ms (plain.Proceeding w) asked = begins-spaced p next-plain ms w.set asked.0 asked.1
  asked-spaced ms (plain.Completed reliable set) asked = asked
  asked-spaced ms plain.Ended asked = asked

  -- the row of a received message keeps what is known of the moments
  -- x is the phase, k the kind of the message e, and ms the moments at which the request was sent until then
  -- a provisional response leaves timer E as it is, and a final one ends the sending
  asked-received : (ms : List ℕ) (x : plain.PlainClientPhase) (k : Kind) (e : MachineEvent) (row : plain.PlainClientPhase × Change) → Asked ms x → plain.Receives p x k e row → Asked ms row.0
  asked-received ms (plain.Trying w) (Response code) e row asked (inl h) = rw h.1 asked
  asked-received ms (plain.Trying w) (Response code) e row asked (inr h) = rw h.1 (asked-spaced ms (plain.Trying w) asked)
  asked-received ms (plain.Proceeding w) (Response code) e row asked h = rw h.1 (asked-spaced ms (plain.Proceeding w) asked)
  asked-received ms x k e row asked h = absurd h

  -- where an interval has passed, a shorter one has
  fires-too : (set interval more m : ℕ) → more ≤ interval → open_at p set interval ≤ m → open_at p set more ≤ m
  fires-too set interval more m low fires = omega (arith, low, fires)

  -- the row of a sent message is that of a request, and keeps what is known of the moments, with one more
  -- x is the phase, k the kind of the message e, and ms the moments at which the request was sent until then
  asked-sent : (ms : List ℕ) (x : plain.PlainClientPhase) (k : Kind) (e : MachineEvent) (row : plain.PlainClientPhase × Change) → Asked ms x → plain.Sends p x k e row →
      (sends_request Sent k ≡ true) × Asked (ms ++ e.moment ∷ []) row.0
  -- the first send begins the list of moments
  asked-sent ms plain.Idle (Request method) e row asked h = (refl, rw h (p.t1, (e.moment, [], ap (λ ks. ks ++ e.moment ∷ []) asked, (refl, refl)), omega arith))
  -- a repeat comes when timer E fires, which is then set again for the next interval
  asked-sent ms (plain.Trying w) (Request method) e row asked h =
      let low = asked.2 in
      (refl, rw h.1 (next-plain asked.0, begins-more p next-plain ms w.set asked.0 e.moment asked.1 (fires-too w.set w.interval asked.0 e.moment asked.2 h.0.fires), omega (arith, low)))
  asked-sent ms (plain.Proceeding w) (Request method) e row asked h =
      (refl, rw h.1 (next-plain asked.0, begins-more p next-plain ms w.set asked.0 e.moment asked.1 (fires-too w.set w.interval asked.0 e.moment asked.2 h.0.fires), omega arith))
  asked-sent ms x k e row asked h = absurd h

  -- a step keeps what is known of the moments, with that of the event where it is a request that is sent
  asked-steps : (a : Action) (es : List MachineEvent) (e : MachineEvent) (x y : Owing plain.PlainClientPhase) → e.action ≡ a → Asked (passed test-plain es) x.phase → Steps plain.plain_client p a e x y
      → Asked (passed test-plain (es ++ e ∷ [])) y.phase
  -- what is received adds no moment
  asked-steps Received es e x y was asked (inl (row, is_row, to)) =
      rw (to, passed-same test-plain es e (ap (λ a. sends_request a e.kind) was)) (asked-received (passed test-plain es) x.phase e.kind e row asked is_row)
  asked-steps Received es e x y was asked (inr (none, same)) = rw (same, passed-same test-plain es e (ap (λ a. sends_request a e.kind) was)) asked
  -- a sent request adds its moment, and nothing else is sent
  asked-steps Sent es e x y was asked (inl (row, is_row, to)) =
      let sent = asked-sent (passed test-plain es) x.phase e.kind e row asked is_row in
      rw (to, passed-more test-plain es e (ap (λ a. sends_request a e.kind) was ∙ sent.0)) sent.1
  asked-steps Sent es e x y was asked (inr (inl (left, pays, to))) = absurd pays.holds.0
  asked-steps Sent es e x y was asked (inr (inr (stays, same))) = absurd stays
  -- what is refused was not sent, and adds no moment
  asked-steps Failed es e x y was asked fails =
      rw (fails.1, passed-same test-plain es e (ap (λ a. sends_request a e.kind) was)) (asked-spaced (passed test-plain es) x.phase asked)
  -- a mark is no event, and a restart adds no moment
  asked-steps Mark es e x y was asked h = absurd h
  asked-steps Restart es e x y was asked (inl (idle, to)) =
      rw (to, passed-same test-plain es e (ap (λ a. sends_request a e.kind) was)) (subst (Asked (passed test-plain es)) idle asked)
  asked-steps Restart es e x y was asked (inr (other, to)) =
      rw (to, passed-same test-plain es e (ap (λ a. sends_request a e.kind) was)) (asked-spaced (passed test-plain es) x.phase asked)

  -- a run keeps what is known of the moments at which requests are sent
  asked-kept : IsKept plain.plain_client p (λ es m y. Asked (passed test-plain es) y.phase)
  asked-kept = record {
    as_it_waits = λ es h m x asked low lasts. asked;
    as_it_ends = λ es h x asked may. asked-spaced (passed test-plain es) x.phase asked;
    as_it_takes = λ es e x y asked take. asked-steps e.action es e (record { phase = x.phase; owes = left_at e x }) y refl asked take;
  }

  -- the requests of a run lie no closer than the doubling intervals, up to T2
  pub requests-are-spaced : (events : List MachineEvent) (m : ℕ) (y : Owing plain.PlainClientPhase) → Stands plain.plain_client p events m y → IsSpaced p next-plain (passed test-plain events)
  requests-are-spaced events m y stands =
      asked-spaced (passed test-plain events) y.phase
      (run-keeps plain.plain_client p (λ es h x. Asked (passed test-plain es) x.phase) asked-kept events (quiet plain.Idle) 0 m y refl (stands-run plain.plain_client p events m y stands))
