-- An INVITE server before its first final response, and after it.
-- In the lemmas x is the phase or the state before a step and y the state after it, k is the kind of a message, row is where a row leads, m is a moment, and
-- h is a moment or what is known of a row. Of events es are those before e.
-- In cases of `Emits` a message that is sent has a row (`row`, `is_row`, `to`), or pays a debt (`left`, `pays`), or changes nothing (`stays`,
-- `same`), which only the INVITE server by RFC 3261 alone lets it (Stays). In cases of `Steps` a message that is received has a row, or has none and
-- changes nothing (`none`, `same`), and a restart leaves idle as it is (`idle`) and ends any other phase (`other`).
use Rattle.std.proofs.Common.{◌≡◌, ◌≤◌, ◌<◌, ◌*◌, ◌⊎◌, inl, inr, ℕ, Bool, true, false, Option, Some, IsSomeAnd, List, [], ◌∷◌, ◌++◌, All, refl, sym, ap, subst, ◌∙◌, arith}
use Rattle.std.specs.List.{Any}
use Rattle.std.proofs.lemmas.List.Elements.{All-nil, All-filter, All-push, All-weaker, All-map}
use Rattle.std.proofs.lemmas.List.{append-nil}
use Rattle.sip_standard.specs.declared.action.Action.{Action}
use Rattle.sip_standard.specs.declared.action.Action.TheVariants.{Sent, Received, Failed, Mark, Restart}
use Rattle.sip_standard.specs.declared.kind.Method.TheVariants.{Invite, Ack}
use Rattle.sip_standard.specs.declared.kind.Kind.{Kind}
use Rattle.sip_standard.specs.declared.kind.Kind.TheVariants.{Response}
use Rattle.sip_standard.specs.Times.{Times}
use Rattle.sip_standard.specs.Window.{open_at, close_at}
use Rattle.sip_standard.specs.MachineEvent.{MachineEvent}
use Rattle.sip_standard.specs.Kind.{IsProvisional, IsFinal, IsSuccess, IsUnsuccessful}
use Rattle.sip_standard.specs.Debts.{Owed, softened, IsWithoutFirst}
use Rattle.sip_standard.specs.Figure.{Figure, Change, Owing, changed, quiet, Emits, Fails, Steps, Takes, Lasts, MayEnd}
use Rattle.sip_standard.specs.InviteServer.{InviteServerPhase, Idle, Proceeding, Accepted, Completed, Confirmed}
use Rattle.sip_standard.specs.InviteServer as corrected
use Rattle.sip_standard.specs.Stands.{StandsAfter}
use Rattle.consequences.specs.Events.{GetsRequest, IsResponse, SendsResponse, IsRestart}
use Rattle.consequences.specs.Servers.{BeginNoneAnew}
use Rattle.consequences.proofs.lemmas.server.Asleep.{nothing-to-pay}
use Rattle.sip_phases.proofs.debts.DebtLaws.{All-front, All-without}
use Rattle.consequences.proofs.lemmas.run.Lists.{any-last, any-earlier, any-none, All-last}
use Rattle.consequences.proofs.lemmas.server.Said.{IsOut, IsSaid, IsSaidLast, all-first, said-later, said-last-later, not-provisional, not-said, codes-are-one}
use Rattle.consequences.proofs.lemmas.run.Running.{IsKept, left_at, step-of, stands-run, Cut, cut, run-keeps}
use Rattle.consequences.proofs.lemmas.server.InviteServers.{Row, IsServer, ReceivedRow, comes, again, again_after, acknowledged, received-row, SentRow, provisional, success, unsuccessful, success_again, repeats, sent-row}

-- one code is not both a success and another final one
pub one-code : (e : MachineEvent) → IsResponse IsUnsuccessful e → ¬ (IsResponse IsSuccess e)
one-code e (code, told, refused) (other, told_too, accepted) = absurd (omega (arith, codes-are-one code other (sym told ∙ told_too), refused.0, accepted.1))

-- What follows is of a server with the figure f and the times p: `held` tells which of its phases is which phase of the corrected INVITE server.
module _ {X : Type 0} (f : Figure X) (p : Times) (held : InviteServerPhase → X) (is : IsServer f p held) where
  -- the state has a phase of the corrected machine, as this server holds it, and K holds of that phase and the debts
  abbrev pub HoldsIn : (InviteServerPhase → List Owed → Type 0) → Owing X → Type 0
  HoldsIn K y = (x : InviteServerPhase) × (owes : List Owed) × (y ≡ record { phase = held x; owes = owes }) × K x owes

  -- where the row of a held phase leads, told by the row of the phase itself
  led : (e : MachineEvent) (owes : List Owed) (row : X × Change) (r : Row) (y : Owing X) → row ≡ (held r.0, r.1) → y ≡ record { phase = row.0; owes = changed p e.moment row.1 owes }
      → y ≡ record { phase = held r.0; owes = changed p e.moment r.1 owes }
  led e owes row r y leads to = to ∙ ap (λ s. record { phase = s.0; owes = changed p e.moment s.1 owes }) leads

  -- What follows is of the time before the final response: what is owed was sent as a provisional response.

  -- each debt was sent before as a provisional response, and its deadline is at most as late as an element may be after m
  abbrev AreSaid : List MachineEvent → ℕ → List Owed → Type 0
  AreSaid es m owes = All (λ o. (o.deadline ≤ close_at p m 0) × IsSaid es o.message) owes

  -- AreSaid stays true after more events and later
  are-said-later : (es more : List MachineEvent) (h m : ℕ) (owes : List Owed) → h ≤ m → AreSaid es h owes → AreSaid (es ++ more) m owes
  are-said-later es more h m owes low all =
      All-weaker (λ o. (o.deadline ≤ close_at p h 0) × IsSaid es o.message) (λ o. (o.deadline ≤ close_at p m 0) × IsSaid (es ++ more) o.message)
      (λ o said. (omega (arith, low, said.0), said-later es more o.message said.1)) owes all

  -- before the final response a server is idle and owes nothing, or proceeds and owes what it said
  abbrev pub Opens : List MachineEvent → ℕ → InviteServerPhase → List Owed → Type 0
  Opens es m Idle owes = owes ≡ []
  Opens es m (Proceeding reliable set last) owes = IsSaidLast es last × AreSaid es m owes
  Opens es m x owes = ⊥

  -- Opens stays true after more events and later
  -- x is the phase, es are the events up to the moment h, and `more` those after it up to m
  opens-later : (es more : List MachineEvent) (h m : ℕ) (x : InviteServerPhase) (owes : List Owed) → h ≤ m → Opens es h x owes → Opens (es ++ more) m x owes
  opens-later es more h m Idle owes low opens = opens
  opens-later es more h m (Proceeding reliable set last) owes low opens = (said-last-later es more last opens.0, are-said-later es more h m owes low opens.1)
  opens-later es more h m x owes low opens = absurd opens

  -- Opens stays true where only what is still owed is left when an event comes
  -- x is the phase, and y the state whose debts were owed when the event e came
  pub opens-left : (es : List MachineEvent) (e : MachineEvent) (m : ℕ) (x : InviteServerPhase) (y : Owing X) → Opens es m x y.owes → Opens es m x (left_at e y)
  opens-left es e m Idle y opens = rw opens refl
  opens-left es e m (Proceeding reliable set last) y opens = (opens.0, All-filter _ (λ o. (o.deadline ≤ close_at p m 0) × IsSaid es o.message) y.owes opens.1)
  opens-left es e m x y opens = absurd opens

  -- What follows is of one event e that comes after the events es.
  module _ (es : List MachineEvent) (e : MachineEvent) where
    -- the events with the event that comes
    abbrev Now : List MachineEvent
    Now = es ++ e ∷ []

    -- the row of a received message keeps Opens
    opens-received : (x : InviteServerPhase) (k : Kind) (row : Row) (owes : List Owed) → Opens es e.moment x owes → ReceivedRow x k e row → Opens Now e.moment row.0 (changed p e.moment row.1 owes)
    -- an INVITE that begins or comes again: the last response is owed once more, until the close of the moment of e
    opens-received _ _ _ owes opens (comes _) = (tt, rw opens (All-nil (λ o. (o.deadline ≤ close_at p e.moment 0) × IsSaid Now o.message)))
    opens-received _ _ _ owes opens (again _ reliable set last must) =
        let later = opens-later es (e ∷ []) e.moment e.moment (Proceeding reliable set (Some last)) owes (omega arith) opens in
        (later.0, All-push (λ o. (o.deadline ≤ close_at p e.moment 0) × IsSaid Now o.message) owes (record { message = last; deadline = close_at p e.moment 0; must = must }) later.1 (omega arith, later.0))
    opens-received _ _ _ owes opens (again_after _ reliable final set repeat interval) = absurd opens
    opens-received _ _ _ owes opens (acknowledged _ reliable final set repeat interval) = absurd opens

    -- the row of a message that is no final response keeps Opens
    -- a provisional response is said now, and becomes the last; a final one is ruled out, and later phases are none in which Opens holds
    opens-sent : (x : InviteServerPhase) (k : Kind) (row : Row) (owes : List Owed) → IsOut e → e.kind ≡ k → ¬ (SendsResponse IsFinal e) → Opens es e.moment x owes → SentRow p x k e row
        → Opens Now e.moment row.0 (changed p e.moment row.1 owes)
    opens-sent _ _ _ owes out kind never opens (provisional _ reliable set last code is_provisional) =
        (any-last (λ g. SendsResponse IsProvisional g × (g.text ≡ e.text)) es e ((out, (code, kind, is_provisional)), refl), are-said-later es (e ∷ []) e.moment e.moment owes (omega arith) opens.1)
    opens-sent _ _ _ owes out kind never opens (success _ reliable set last code is_success) = absurd (never (out, (code, kind, (is_success.0, omega (arith, is_success.1)))))
    opens-sent _ _ _ owes out kind never opens (unsuccessful _ reliable set last code is_unsuccessful) = absurd (never (out, (code, kind, (omega (arith, is_unsuccessful.0), is_unsuccessful.1))))
    opens-sent _ _ _ owes out kind never opens (success_again _ set code is_success) = absurd opens
    opens-sent _ _ _ owes out kind never opens (repeats _ reliable final set repeat interval k same) = absurd opens

    -- Opens stays true where a debt is paid
    opens-without : (P : Owed → Type 0) (x : InviteServerPhase) (owes left : List Owed) → IsWithoutFirst P owes left → Opens es e.moment x owes → Opens Now e.moment x left
    opens-without P Idle owes left pays opens = absurd (nothing-to-pay P left (subst (λ os. IsWithoutFirst P os left) opens pays))
    opens-without P (Proceeding reliable set last) owes left pays opens =
        let later = opens-later es (e ∷ []) e.moment e.moment (Proceeding reliable set last) owes (omega arith) opens in
        (later.0, All-without P (λ o. (o.deadline ≤ close_at p e.moment 0) × IsSaid Now o.message) owes left pays later.1)
    opens-without P x owes left pays opens = absurd opens

    -- a message that is sent and is no final response keeps Opens
    opens-emits : (x : InviteServerPhase) (owes : List Owed) (y : Owing X) → IsOut e → ¬ (SendsResponse IsFinal e) → Opens es e.moment x owes → Emits f p e (record { phase = held x; owes = owes }) y
        → HoldsIn (Opens Now e.moment) y
    opens-emits x owes y out never opens (inl (row, is_row, to)) = by (is.sent x e.kind e row is_row)
      where
        -- Opens holds after the event: the row is one of the corrected server, for the other case is a 2xx, which is a final response
        by : ((r : Row) × corrected.Sends p x e.kind e r × (row ≡ (held r.0, r.1)))
            ⊎ ((reliable : Bool) × (set : ℕ) × (last : Option (List ℕ)) × (x ≡ Proceeding reliable set last) × ((code : ℕ) × (e.kind ≡ Response code) × IsSuccess code)) → HoldsIn (Opens Now e.moment) y
        by (inl (r, is_r, leads)) = (r.0, changed p e.moment r.1 owes, led e owes row r y leads to, opens-sent x e.kind r owes out refl never opens (sent-row p x e.kind e r is_r))
        by (inr (reliable, set, last, here, (code, kind, is_success))) = absurd (never (out, (code, kind, (is_success.0, omega (arith, is_success.1)))))
    opens-emits x owes y out never opens (inr (inl (left, pays, to))) = (x, left, to, opens-without _ x owes left pays opens)
    opens-emits x owes y out never opens (inr (inr (stays, same))) = absurd (is.unmoved x e.kind stays)

    -- a message that is refused and is no final response keeps Opens
    opens-fails : (ends : Bool) (x : InviteServerPhase) (owes : List Owed) (y : Owing X) → f.ends_refused (held x) e.kind ≡ ends → IsOut e → ¬ (SendsResponse IsFinal e) → Opens es e.moment x owes
        → Fails ends f p e (record { phase = held x; owes = owes }) y → HoldsIn (Opens Now e.moment) y
    opens-fails true x owes y ends out never opens fails = absurd (true-false (sym ends ∙ is.undaunted (held x) e.kind))
      where
        -- true is not false: no refused send ends the server
        true-false : ¬ (true ≡ false)
        true-false same = cc
    opens-fails false x owes y ends out never opens emits = opens-emits x owes y out never opens emits

    -- a step without a final response keeps Opens
    opens-steps : (a : Action) (x : InviteServerPhase) (owes : List Owed) (y : Owing X) → e.action ≡ a → ¬ (SendsResponse IsFinal e) → Opens es e.moment x owes
        → Steps f p a e (record { phase = held x; owes = owes }) y → HoldsIn (Opens Now e.moment) y
    opens-steps Received x owes y was never opens (inl (row, is_row, to)) =
        let (r, is_r, leads) = is.received x e.kind e row is_row in
        (r.0, changed p e.moment r.1 owes, led e owes row r y leads to, opens-received x e.kind r owes opens (received-row p x e.kind e r is_r))
    opens-steps Received x owes y was never opens (inr (none, same)) = (x, owes, same, opens-later es (e ∷ []) e.moment e.moment x owes (omega arith) opens)
    -- what is sent or refused is no final response, and keeps Opens
    opens-steps Sent x owes y was never opens emits = opens-emits x owes y (inl was) never opens emits
    opens-steps Failed x owes y was never opens fails = opens-fails (f.ends_refused (held x) e.kind) x owes y refl (inr was) never opens fails
    opens-steps Mark x owes y was never opens h = absurd h
    -- a restart leads to idle, where Opens holds
    opens-steps Restart x owes y was never opens (inl (idle, to)) = (Idle, [], rw (to, is.idle), refl)
    opens-steps Restart x owes y was never opens (inr (other, to)) = (Idle, [], rw (to, is.ended), refl)

  -- where no final response was sent so far, the server is idle or proceeds
  abbrev pub BeforeFinal : List MachineEvent → ℕ → Owing X → Type 0
  BeforeFinal es m y = All (λ g. ¬ (SendsResponse IsFinal g)) es → HoldsIn (Opens es m) y

  -- a run without a final response keeps the server idle or proceeding
  pub before-final-kept : IsKept f p BeforeFinal
  before-final-kept = record { as_it_waits = as_it_waits; as_it_ends = as_it_ends; as_it_takes = as_it_takes }
    where
      -- BeforeFinal stays true as time passes
      -- the run stands in x from the moment h until the moment m
      as_it_waits : (es : List MachineEvent) (h m : ℕ) (x : Owing X) → BeforeFinal es h x → h ≤ m → Lasts f p x m → BeforeFinal es m x
      as_it_waits es h m x holds low lasts all =
          let (phase, owes, same, opens) = holds all in (phase, owes, same, subst (λ fs. Opens fs m phase owes) (append-nil es) (opens-later es [] h m phase owes low opens))

      -- BeforeFinal stays true where the transaction ends
      as_it_ends : (es : List MachineEvent) (h : ℕ) (x : Owing X) → BeforeFinal es h x → MayEnd f p x h → BeforeFinal es h (quiet f.ended)
      as_it_ends es h x holds may all = (Idle, [], ap quiet is.ended, refl)

      -- BeforeFinal stays true after an event
      as_it_takes : (es : List MachineEvent) (e : MachineEvent) (x y : Owing X) → BeforeFinal es e.moment x → Takes f p x e y → BeforeFinal (es ++ e ∷ []) e.moment y
      as_it_takes es e x y holds take all =
          let (phase, owes, same, opens) = holds (All-front (λ g. ¬ (SendsResponse IsFinal g)) es (e ∷ []) all) in
          let z : Owing X = record { phase = held phase; owes = owes } in
          opens-steps es e e.action phase (left_at e z) y refl (All-last (λ g. ¬ (SendsResponse IsFinal g)) es e all) (opens-left es e e.moment phase z opens)
          (subst (λ w. Takes f p w e y) same take)

  -- What follows is of the time after the final response: `before` are the events before it, and `final` is the event with which it is sent.

  module _ (before : List MachineEvent) (final : MachineEvent) where
    -- the final response is a 2xx
    abbrev IsGood : Type 0
    IsGood = IsResponse IsSuccess final

    -- the final response is a 300 to 699
    abbrev IsBad : Type 0
    IsBad = IsResponse IsUnsuccessful final

    -- each debt is the final response, if a 300 to 699, or a provisional one sent before it, due as late after it as an element may be
    abbrev AreOld : List Owed → Type 0
    AreOld owes = All (λ o. (IsBad × (o.message ≡ final.text)) ⊎ ((o.deadline ≤ close_at p final.moment 0) × IsSaid before o.message)) owes

    -- the transaction may be over: timer H or L may have fired, or an ACK came, or the element started again
    abbrev Past : List MachineEvent → ℕ → Type 0
    Past es m = (open_at p final.moment (64 * p.t1) ≤ m) ⊎ Any (GetsRequest Ack) es ⊎ Any IsRestart es

    -- Past stays true after more events, and later
    past-later : (es more : List MachineEvent) (h m : ℕ) → h ≤ m → Past es h → Past (es ++ more) m
    past-later es more h m low (inl late) = inl (omega (arith, low, late))
    past-later es more h m low (inr (inl came)) = inr (inl (any-earlier (GetsRequest Ack) es more came))
    past-later es more h m low (inr (inr restarted)) = inr (inr (any-earlier IsRestart es more restarted))

    -- the phase after the final response, with what is known of it and its debts: idle, once the transaction may be over, accepted
    -- after a 2xx, completed after another one, or confirmed after its ACK
    abbrev Closes : List MachineEvent → ℕ → InviteServerPhase → List Owed → Type 0
    Closes es m Idle owes = (owes ≡ []) × Past es m
    Closes es m (Proceeding reliable set last) owes = ⊥
    Closes es m (Accepted set) owes = IsGood × (set ≡ final.moment) × AreOld owes
    Closes es m (Completed reliable message set repeat interval) owes = IsBad × (message ≡ final.text) × (set ≡ final.moment) × AreOld owes
    Closes es m (Confirmed reliable set) owes = IsBad × Any (GetsRequest Ack) es × AreOld owes

    -- Closes stays true after more events and later
    -- x is the phase, es are the events up to the moment h, and `more` those after it up to m
    closes-later : (es more : List MachineEvent) (h m : ℕ) (x : InviteServerPhase) (owes : List Owed) → h ≤ m → Closes es h x owes → Closes (es ++ more) m x owes
    closes-later es more h m Idle owes low closes = (closes.0, past-later es more h m low closes.1)
    closes-later es more h m (Proceeding reliable set last) owes low closes = absurd closes
    closes-later es more h m (Accepted set) owes low closes = closes
    closes-later es more h m (Completed reliable message set repeat interval) owes low closes = closes
    closes-later es more h m (Confirmed reliable set) owes low closes = (closes.0, any-earlier (GetsRequest Ack) es more closes.1, closes.2)

    -- Closes stays true where less is owed
    closes-fewer : (es : List MachineEvent) (m : ℕ) (x : InviteServerPhase) (owes left : List Owed) → (owes ≡ [] → left ≡ []) → (AreOld owes → AreOld left) → Closes es m x owes → Closes es m x left
    closes-fewer es m Idle owes left none old closes = (none closes.0, closes.1)
    closes-fewer es m (Proceeding reliable set last) owes left none old closes = absurd closes
    closes-fewer es m (Accepted set) owes left none old closes = (closes.0, closes.1, old closes.2)
    closes-fewer es m (Completed reliable message set repeat interval) owes left none old closes = (closes.0, closes.1, closes.2, old closes.3)
    closes-fewer es m (Confirmed reliable set) owes left none old closes = (closes.0, closes.1, old closes.2)

    -- where Closes holds, AreOld holds of the debts
    closes-old : (es : List MachineEvent) (m : ℕ) (x : InviteServerPhase) (owes : List Owed) → Closes es m x owes → AreOld owes
    closes-old es m Idle owes closes = rw closes.0 (All-nil (λ o. (IsBad × (o.message ≡ final.text)) ⊎ ((o.deadline ≤ close_at p final.moment 0) × IsSaid before o.message)))
    closes-old es m (Proceeding reliable set last) owes closes = absurd closes
    closes-old es m (Accepted set) owes closes = closes.2
    closes-old es m (Completed reliable message set repeat interval) owes closes = closes.3
    closes-old es m (Confirmed reliable set) owes closes = closes.2

    -- provisional responses that were owed at the final response are old once they are softened
    old-softened : (owes : List Owed) → AreSaid before final.moment owes → AreOld (softened owes)
    old-softened owes all =
        All-map (λ o. (IsBad × (o.message ≡ final.text)) ⊎ ((o.deadline ≤ close_at p final.moment 0) × IsSaid before o.message)) (λ o. record { message = o.message; deadline = o.deadline; must = false }) owes
        (All-weaker (λ o. (o.deadline ≤ close_at p final.moment 0) × IsSaid before o.message)
        (λ o. (IsBad × (o.message ≡ final.text)) ⊎ ((o.deadline ≤ close_at p final.moment 0) × IsSaid before o.message)) (λ o said. inr said) owes all)

    -- what may be sent then: a 2xx after a 2xx, the final response itself after another one, or a provisional response owed before it
    abbrev IsAllowed : MachineEvent → Type 0
    IsAllowed e = (IsGood × IsResponse IsSuccess e) ⊎ (IsBad × (e.text ≡ final.text)) ⊎ ((e.moment ≤ close_at p final.moment 0) × IsSaid before e.text)

    -- What follows is of one event e that comes after the events es.
    module _ (es : List MachineEvent) (e : MachineEvent) where
      -- the row of a sent message sends what may be sent after the final response, and keeps Closes
      -- proceeding is no phase after the final response; accepted sends a 2xx again, and completed its final response
      closes-sent : (x : InviteServerPhase) (k : Kind) (row : Row) (owes : List Owed) → e.kind ≡ k → Closes es e.moment x owes → SentRow p x k e row
          → IsAllowed e × Closes (es ++ e ∷ []) e.moment row.0 (changed p e.moment row.1 owes)
      closes-sent _ _ _ owes kind closes (provisional _ reliable set last code is_provisional) = absurd closes
      closes-sent _ _ _ owes kind closes (success _ reliable set last code is_success) = absurd closes
      closes-sent _ _ _ owes kind closes (unsuccessful _ reliable set last code is_unsuccessful) = absurd closes
      closes-sent _ _ _ owes kind closes (success_again _ set code is_success) = (inl (closes.0, (code, kind, is_success)), closes)
      closes-sent _ _ _ owes kind closes (repeats _ reliable message set repeat interval k same) = (inr (inl (closes.0, same ∙ closes.1)), closes)

      -- Closes stays true where a debt is paid
      closes-pays : (P : Owed → Type 0) (x : InviteServerPhase) (owes left : List Owed) → IsWithoutFirst P owes left → Closes es e.moment x owes → Closes (es ++ e ∷ []) e.moment x left
      closes-pays P x owes left pays closes =
          closes-later es (e ∷ []) e.moment e.moment x left (omega arith)
          (closes-fewer es e.moment x owes left (λ none. absurd (nothing-to-pay P left (subst (λ os. IsWithoutFirst P os left) none pays)))
          (λ old. All-without P (λ o. (IsBad × (o.message ≡ final.text)) ⊎ ((o.deadline ≤ close_at p final.moment 0) × IsSaid before o.message)) owes left pays old) closes)

      -- a message that is sent is one that may be sent after the final response, and keeps Closes
      closes-emits : (x : InviteServerPhase) (owes : List Owed) (y : Owing X) → Closes es e.moment x owes → Emits f p e (record { phase = held x; owes = owes }) y
          → IsAllowed e × HoldsIn (Closes (es ++ e ∷ []) e.moment) y
      closes-emits x owes y closes (inl (row, is_row, to)) = by (is.sent x e.kind e row is_row)
        where
          -- what is sent is allowed, and keeps Closes
          by : ((r : Row) × corrected.Sends p x e.kind e r × (row ≡ (held r.0, r.1)))
              ⊎ ((reliable : Bool) × (set : ℕ) × (last : Option (List ℕ)) × (x ≡ Proceeding reliable set last) × ((code : ℕ) × (e.kind ≡ Response code) × IsSuccess code))
              → IsAllowed e × HoldsIn (Closes (es ++ e ∷ []) e.moment) y
          -- a row of the corrected machine leads on; the other case is one before the final response
          by (inl (r, is_r, leads)) =
              let sends = closes-sent x e.kind r owes refl closes (sent-row p x e.kind e r is_r) in (sends.0, (r.0, changed p e.moment r.1 owes, led e owes row r y leads to, sends.1))
          by (inr (reliable, set, last, here, response)) = absurd (subst (λ z. Closes es e.moment z owes) here closes)
      closes-emits x owes y closes (inr (inl (left, pays, to))) = (
        allowed (all-first _ (λ o. (IsBad × (o.message ≡ final.text)) ⊎ ((o.deadline ≤ close_at p final.moment 0) × IsSaid before o.message)) owes left pays (closes-old es e.moment x owes closes)),
        (x, left, to, closes-pays _ x owes left pays closes),
      )
        where
          -- the debt that is paid is the message that was sent
          bytes : pays.first.message ≡ e.text
          bytes = is.paid x e.kind e pays.first.message pays.holds.0

          -- the debt that is paid is the final response, or a provisional one that was owed before it
          allowed : (IsBad × (pays.first.message ≡ final.text)) ⊎ ((pays.first.deadline ≤ close_at p final.moment 0) × IsSaid before pays.first.message) → IsAllowed e
          allowed (inl own) = inr (inl (own.0, sym bytes ∙ own.1))
          allowed (inr old) = let in_time = pays.holds.1 in inr (inr (omega (arith, old.0, in_time), subst (IsSaid before) bytes old.1))
      closes-emits x owes y closes (inr (inr (stays, same))) = absurd (is.unmoved x e.kind stays)

      -- a message that is refused keeps Closes
      closes-fails : (ends : Bool) (x : InviteServerPhase) (owes : List Owed) (y : Owing X) → f.ends_refused (held x) e.kind ≡ ends → Closes es e.moment x owes
          → Fails ends f p e (record { phase = held x; owes = owes }) y → HoldsIn (Closes (es ++ e ∷ []) e.moment) y
      closes-fails true x owes y ends closes fails = absurd (true-false (sym ends ∙ is.undaunted (held x) e.kind))
        where
          -- true is not false: no refused send ends the server
          true-false : ¬ (true ≡ false)
          true-false same = cc
      closes-fails false x owes y ends closes emits = (closes-emits x owes y closes emits).1

      -- the row of a received message keeps Closes, unless an INVITE comes after the transaction may be over
      closes-received : (x : InviteServerPhase) (k : Kind) (row : Row) (owes : List Owed) → e.action ≡ Received → e.kind ≡ k → ((GetsRequest Invite e → Past es e.moment → ⊥)) → Closes es e.moment x owes → ReceivedRow x k e row
          → Closes (es ++ e ∷ []) e.moment row.0 (changed p e.moment row.1 owes)
      closes-received _ _ _ owes was kind never closes (comes _) = absurd (never (was, kind) closes.1)
      closes-received _ _ _ owes was kind never closes (again _ reliable set last must) = absurd closes
      -- an INVITE that comes again is owed the final response, which is allowed
      closes-received _ _ _ owes was kind never closes (again_after _ reliable message set repeat interval) = (
        closes.0,
        closes.1,
        closes.2,
        All-push (λ o. (IsBad × (o.message ≡ final.text)) ⊎ ((o.deadline ≤ close_at p final.moment 0) × IsSaid before o.message)) owes
            (record { message = message; deadline = close_at p e.moment 0; must = false }) closes.3 (inl (closes.0, closes.1)),
      )
      closes-received _ _ _ owes was kind never closes (acknowledged _ reliable message set repeat interval) = (closes.0, any-last (GetsRequest Ack) es e (was, kind), closes.3)

      -- a step keeps Closes, unless an INVITE comes after the transaction may be over
      closes-steps : (a : Action) (x : InviteServerPhase) (owes : List Owed) (y : Owing X) → e.action ≡ a → ((GetsRequest Invite e → Past es e.moment → ⊥)) → Closes es e.moment x owes
          → Steps f p a e (record { phase = held x; owes = owes }) y → HoldsIn (Closes (es ++ e ∷ []) e.moment) y
      closes-steps Received x owes y was never closes (inl (row, is_row, to)) =
          let (r, is_r, leads) = is.received x e.kind e row is_row in
          (r.0, changed p e.moment r.1 owes, led e owes row r y leads to, closes-received x e.kind r owes was refl never closes (received-row p x e.kind e r is_r))
      closes-steps Received x owes y was never closes (inr (none, same)) = (x, owes, same, closes-later es (e ∷ []) e.moment e.moment x owes (omega arith) closes)
      -- what is sent or refused keeps Closes
      closes-steps Sent x owes y was never closes emits = (closes-emits x owes y closes emits).1
      closes-steps Failed x owes y was never closes fails = closes-fails (f.ends_refused (held x) e.kind) x owes y refl closes fails
      closes-steps Mark x owes y was never closes h = absurd h
      -- after a restart Closes holds, since a restart has come
      closes-steps Restart x owes y was never closes (inl (idle, to)) = (Idle, [], rw (to, is.idle), (refl, inr (inr (any-last IsRestart es e was))))
      closes-steps Restart x owes y was never closes (inr (other, to)) = (Idle, [], rw (to, is.ended), (refl, inr (inr (any-last IsRestart es e was))))

    -- where the phase may end, the transaction may be over
    -- accepted ends by timer L, completed by timer H, both set at the final response, and confirmed after an ACK
    closes-ends : (es : List MachineEvent) (h : ℕ) (x : InviteServerPhase) (owes : List Owed) → Closes es h x owes → IsSomeAnd (corrected.timer_window p x) (λ window. window.0 ≤ h) → Past es h
    closes-ends es h Idle owes closes opening = closes.1
    closes-ends es h (Proceeding reliable set last) owes closes opening = absurd closes
    closes-ends es h (Accepted set) owes closes opening = inl (subst (λ m. open_at p m (64 * p.t1) ≤ h) closes.1 opening)
    closes-ends es h (Completed reliable message set repeat interval) owes closes opening = inl (subst (λ m. open_at p m (64 * p.t1) ≤ h) closes.2 opening)
    closes-ends es h (Confirmed reliable set) owes closes opening = inr (inl closes.1)

    -- where no event begins the transaction anew, an INVITE does not come after the transaction may be over
    no-new : (es : List MachineEvent) (e : MachineEvent) → BeginNoneAnew p final (es ++ e ∷ []) → GetsRequest Invite e → ¬ (Past es e.moment)
    no-new es e (inl none) invite past = All-last (λ g. ¬ (GetsRequest Invite g)) es e none invite
    no-new es e (inr lasting) invite past = by past
      where
        -- the transaction cannot be over: neither timer H nor timer L has fired, and neither an ACK nor a restart came
        by : Past es e.moment → ⊥
        by (inl late) =
            let last = All-last (λ g. ¬ (GetsRequest Ack g) × ¬ (IsRestart g) × (g.moment < open_at p final.moment (64 * p.t1))) es e lasting in
            absurd (omega (arith, late, last.2))
        -- no ACK has come, and no restart
        by (inr (inl came)) =
            any-none (GetsRequest Ack) es (All-weaker (λ g. ¬ (GetsRequest Ack g) × ¬ (IsRestart g) × (g.moment < open_at p final.moment (64 * p.t1))) (λ g. ¬ (GetsRequest Ack g)) (λ g all. all.0) es
            (All-front (λ g. ¬ (GetsRequest Ack g) × ¬ (IsRestart g) × (g.moment < open_at p final.moment (64 * p.t1))) es (e ∷ []) lasting)) came
        by (inr (inr restarted)) =
            any-none IsRestart es (All-weaker (λ g. ¬ (GetsRequest Ack g) × ¬ (IsRestart g) × (g.moment < open_at p final.moment (64 * p.t1))) (λ g. ¬ (IsRestart g)) (λ g all. all.1) es
            (All-front (λ g. ¬ (GetsRequest Ack g) × ¬ (IsRestart g) × (g.moment < open_at p final.moment (64 * p.t1))) es (e ∷ []) lasting)) restarted

    -- where no event begins the transaction anew, none of the first ones does
    anew-front : (es more : List MachineEvent) → BeginNoneAnew p final (es ++ more) → BeginNoneAnew p final es
    anew-front es more (inl none) = inl (All-front (λ g. ¬ (GetsRequest Invite g)) es more none)
    anew-front es more (inr lasting) = inr (All-front (λ g. ¬ (GetsRequest Ack g) × ¬ (IsRestart g) × (g.moment < open_at p final.moment (64 * p.t1))) es more lasting)

    -- a run after the final response keeps Closes, where no event begins the transaction anew
    after-final-kept : IsKept f p (λ es m y. BeginNoneAnew p final es → HoldsIn (Closes es m) y)
    after-final-kept = record { as_it_waits = as_it_waits; as_it_ends = as_it_ends; as_it_takes = as_it_takes }
      where
        -- Closes stays true as time passes
        -- the run stands in x from the moment h until the moment m
        as_it_waits : (es : List MachineEvent) (h m : ℕ) (x : Owing X) → (BeginNoneAnew p final es → HoldsIn (Closes es h) x) → h ≤ m → Lasts f p x m → BeginNoneAnew p final es → HoldsIn (Closes es m) x
        as_it_waits es h m x holds low lasts anew =
            let (phase, owes, same, closes) = holds anew in (phase, owes, same, subst (λ fs. Closes fs m phase owes) (append-nil es) (closes-later es [] h m phase owes low closes))

        -- Closes stays true where the transaction ends
        as_it_ends : (es : List MachineEvent) (h : ℕ) (x : Owing X) → (BeginNoneAnew p final es → HoldsIn (Closes es h) x) → MayEnd f p x h → BeginNoneAnew p final es → HoldsIn (Closes es h) (quiet f.ended)
        as_it_ends es h x holds may anew =
            let (phase, owes, same, closes) = holds anew in
            let opening = subst (λ window. IsSomeAnd window (λ w. w.0 ≤ h)) (is.window phase) (subst (λ z. MayEnd f p z h) same may).0 in
            (Idle, [], ap quiet is.ended, (refl, closes-ends es h phase owes closes opening))

        -- Closes stays true after an event
        as_it_takes : (es : List MachineEvent) (e : MachineEvent) (x y : Owing X) → (BeginNoneAnew p final es → HoldsIn (Closes es e.moment) x) → Takes f p x e y → BeginNoneAnew p final (es ++ e ∷ [])
            → HoldsIn (Closes (es ++ e ∷ []) e.moment) y
        as_it_takes es e x y holds take anew =
            let (phase, owes, same, closes) = holds (anew-front es (e ∷ []) anew) in
            let z : Owing X = record { phase = held phase; owes = owes } in
            closes-steps es e e.action phase (left_at e z) y refl (no-new es e anew) (closes-left es e.moment e phase owes closes) (subst (λ w. Takes f p w e y) same take)
          where
            -- Closes stays true without the debts that are past
            closes-left : (es : List MachineEvent) (m : ℕ) (e : MachineEvent) (x : InviteServerPhase) (owes : List Owed) → Closes es m x owes → Closes es m x (left_at e (record { phase = held x; owes = owes }))
            closes-left es m e x owes closes =
                closes-fewer es m x owes (left_at e (record { phase = held x; owes = owes })) (λ none. rw none refl)
                (λ old. All-filter _ (λ o. (IsBad × (o.message ≡ final.text)) ⊎ ((o.deadline ≤ close_at p final.moment 0) × IsSaid before o.message)) owes old) closes

    -- What follows is of the final response itself: an event before it that has its bytes has its kind too.
    module _ (is_final : SendsResponse IsFinal final) (one_kind : All (λ g. g.text ≡ final.text → g.kind ≡ final.kind) before) where
      -- the final response pays no debt of a server that proceeds
      pub final-paid : (P : Owed → Type 0) (x : InviteServerPhase) (owes left : List Owed) → Opens before final.moment x owes → (pays : IsWithoutFirst P owes left) → ¬ (pays.first.message ≡ final.text)
      final-paid P Idle owes left opens pays same = nothing-to-pay P left (subst (λ os. IsWithoutFirst P os left) opens pays)
      final-paid P (Proceeding reliable set last) owes left opens pays same =
          not-said before final is_final one_kind (subst (IsSaid before) same (all-first P (λ o. (o.deadline ≤ close_at p final.moment 0) × IsSaid before o.message) owes left pays opens.1).1)
      final-paid P x owes left opens pays same = absurd opens

      -- What follows needs the row of the final response to be that of the corrected machine, as it is unless it is a 2xx by RFC 3261.
      module _ (sent_final : (x : InviteServerPhase) (y : X × Change) → f.Sends p (held x) final.kind final y → (row : Row) × corrected.Sends p x final.kind final row × (y ≡ (held row.0, row.1))) where
        -- the row of the final response leads to a phase of which Closes holds
        -- the response is final, so its row is one of two in proceeding: a 2xx leads to accepted, and any other to completed
        final-sent : (x : InviteServerPhase) (k : Kind) (row : Row) (owes : List Owed) → final.kind ≡ k → Opens before final.moment x owes → SentRow p x k final row
            → Closes [] final.moment row.0 (changed p final.moment row.1 owes)
        final-sent _ _ _ owes kind opens (provisional _ reliable set last code is_provisional) = absurd (not-provisional before final is_final one_kind code kind is_provisional)
        final-sent _ _ _ owes kind opens (success _ reliable set last code is_success) = ((code, kind, is_success), refl, old-softened owes opens.1)
        final-sent _ _ _ owes kind opens (unsuccessful _ reliable set last code is_unsuccessful) = ((code, kind, is_unsuccessful), refl, refl, old-softened owes opens.1)
        final-sent _ _ _ owes kind opens (success_again _ set code is_success) = absurd opens
        final-sent _ _ _ owes kind opens (repeats _ reliable message set repeat interval k same) = absurd opens

        -- the final response that is sent leads to a phase of which Closes holds
        final-emits : (x : InviteServerPhase) (owes : List Owed) (y : Owing X) → Opens before final.moment x owes → Emits f p final (record { phase = held x; owes = owes }) y → HoldsIn (Closes [] final.moment) y
        final-emits x owes y opens (inl (row, is_row, to)) =
            let (r, is_r, leads) = sent_final x row is_row in
            (r.0, changed p final.moment r.1 owes, led final owes row r y leads to, final-sent x final.kind r owes refl opens (sent-row p x final.kind final r is_r))
        final-emits x owes y opens (inr (inl (left, pays, to))) = absurd (final-paid _ x owes left opens pays (is.paid x final.kind final pays.first.message pays.holds.0))
        final-emits x owes y opens (inr (inr (stays, same))) = absurd (is.unmoved x final.kind stays)

        -- the final response that is refused leads to a phase of which Closes holds
        final-fails : (ends : Bool) (x : InviteServerPhase) (owes : List Owed) (y : Owing X) → f.ends_refused (held x) final.kind ≡ ends → Opens before final.moment x owes
            → Fails ends f p final (record { phase = held x; owes = owes }) y → HoldsIn (Closes [] final.moment) y
        final-fails true x owes y ends opens fails = absurd (true-false (sym ends ∙ is.undaunted (held x) final.kind))
          where
            -- true is not false: no refused send ends the server
            true-false : ¬ (true ≡ false)
            true-false same = cc
        final-fails false x owes y ends opens emits = final-emits x owes y opens emits

        -- the final response leads to a phase of which Closes holds
        final-steps : (x y : Owing X) → HoldsIn (Opens before final.moment) x → Takes f p x final y → HoldsIn (Closes [] final.moment) y
        final-steps x y (phase, owes, same, opens) take = by is_final.0
          where
            -- the final response leads to a phase of which Closes holds
            by : IsOut final → HoldsIn (Closes [] final.moment) y
            -- the final response is sent, or refused
            by (inl sent) =
                final-emits phase (left_at final (record { phase = held phase; owes = owes })) y (opens-left before final final.moment phase (record { phase = held phase; owes = owes }) opens)
                (step-of f p Sent final (record { phase = held phase; owes = owes }) y sent (subst (λ w. Takes f p w final y) same take))
            by (inr refused) =
                final-fails (f.ends_refused (held phase) final.kind) phase (left_at final (record { phase = held phase; owes = owes })) y refl
                (opens-left before final final.moment phase (record { phase = held phase; owes = owes }) opens)
                (step-of f p Failed final (record { phase = held phase; owes = owes }) y refused (subst (λ w. Takes f p w final y) same take))

        -- what is sent after the final response, while no INVITE begins anew, is what may be sent then
        pub sent-after-final : (after : List MachineEvent) (e : MachineEvent) (y : Owing X) → All (λ g. ¬ (SendsResponse IsFinal g)) before → BeginNoneAnew p final after → e.action ≡ Sent
            → StandsAfter f p (before ++ final ∷ after) e y → IsAllowed e
        sent-after-final after e y first anew sent (x, stands, take) =
            by-cut (cut f p (quiet f.idle) 0 before final after e.moment x (stands-run f p (before ++ final ∷ after) e.moment x stands))
          where
            -- where Closes holds, what is sent is allowed
            by : HoldsIn (Closes after e.moment) x → IsAllowed e
            -- after the final response no event was one that begins anew, so Closes still holds at this event
            by (phase, owes, same, closes) =
                let z : Owing X = record { phase = held phase; owes = owes } in
                (closes-emits after e phase (left_at e z) y
                (closes-fewer after e.moment phase owes (left_at e z) (λ none. rw none refl)
                (λ old. All-filter _ (λ o. (IsBad × (o.message ≡ final.text)) ⊎ ((o.deadline ≤ close_at p final.moment 0) × IsSaid before o.message)) owes old) closes)
                (step-of f p Sent e z y sent (subst (λ w. Takes f p w e y) same take))).0

            -- the run is cut at the final response
            by-cut : Cut f p (quiet f.idle) 0 before final after e.moment x → IsAllowed e
            by-cut found =
                let opens = run-keeps f p BeforeFinal before-final-kept before (quiet f.idle) 0 final.moment found.from (λ none. (Idle, [], ap quiet is.idle, refl)) found.leads first in
                let closes = final-steps found.from found.to opens found.step in
                by (run-keeps f p (λ es m w. BeginNoneAnew p final es → HoldsIn (Closes es m) w) after-final-kept after found.to final.moment e.moment x (λ none. closes) found.goes anew)
