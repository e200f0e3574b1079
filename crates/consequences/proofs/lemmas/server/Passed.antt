-- An INVITE server by RFC 3261 alone after a 2xx: it sends nothing but 2xx until an INVITE comes.
-- In the lemmas x is the phase or the state before a step and y the state after it, and k is the kind of a message.
-- In cases of `Emits` a message that is sent has a row (`row`, `is_row`, `to`), or pays a debt (`left`, `pays`), or changes nothing (`stays`,
-- `same`), which only the INVITE server by RFC 3261 alone lets it (Stays). In cases of `Steps` a message that is received has a row, or has none and
-- changes nothing (`none`, `same`), and a restart leaves idle as it is (`idle`) and ends any other phase (`other`).
use Rattle.std.proofs.Common.{◌≡◌, ◌⊎◌, inl, inr, ℕ, Bool, true, false, List, [], ◌∷◌, ◌++◌, All, refl, sym, subst, ◌∙◌, arith}
use Rattle.sip_standard.specs.declared.action.Action.{Action}
use Rattle.sip_standard.specs.declared.action.Action.TheVariants.{Sent, Received, Failed, Mark, Restart}
use Rattle.sip_standard.specs.declared.kind.Method.TheVariants.{Invite}
use Rattle.sip_standard.specs.declared.kind.Kind.{Kind}
use Rattle.sip_standard.specs.declared.kind.Kind.TheVariants.{Request, Response}
use Rattle.sip_standard.specs.Times.{Times}
use Rattle.sip_standard.specs.MachineEvent.{MachineEvent}
use Rattle.sip_standard.specs.Kind.{IsFinal, IsSuccess}
use Rattle.sip_standard.specs.Debts.{Owed}
use Rattle.sip_standard.specs.Figure.{Figure, Change, drops, Owing, quiet, Emits, Fails, Steps, Takes}
use Rattle.sip_standard.specs.InviteServer.{InviteServerPhase, Idle, Proceeding}
use Rattle.sip_standard.specs.InviteServer3261.{InviteServer3261Phase, Passed, In, Receives, Sends, invite_server_3261}
use Rattle.sip_standard.specs.Stands.{StandsAfter}
use Rattle.consequences.specs.Events.{GetsRequest, IsResponse, SendsResponse}
use Rattle.consequences.proofs.lemmas.server.Asleep.{IsInvite, nothing-to-pay, without-asleep, asleep-emits, asleep-steps}
use Rattle.consequences.proofs.lemmas.server.InviteServers.{first_in, is-server-3261}
use Rattle.sip_phases.proofs.debts.DebtLaws.{All-front}
use Rattle.consequences.proofs.lemmas.run.Lists.{All-last}
use Rattle.consequences.proofs.lemmas.run.Running.{IsKept, left_at, step-of, stands-run, Cut, cut, run-keeps}
use Rattle.consequences.proofs.lemmas.server.FinalResponse.{HoldsIn, Opens, BeforeFinal, before-final-kept, opens-left, final-paid}
use Rattle.consequences.proofs.lemmas.server.Said.{codes-are-one}

-- the INVITE server by RFC 3261 alone
abbrev f : Figure InviteServer3261Phase
f = invite_server_3261

-- What follows is of the phase `Passed`, in which the server is after a 2xx; p are its times.
module _ (p : Times) where
  -- what is sent after a 2xx is a 2xx, and changes nothing
  passed-emits : (e : MachineEvent) (y : Owing InviteServer3261Phase) → Emits f p e (quiet Passed) y → IsResponse IsSuccess e × (y ≡ quiet Passed)
  passed-emits e y (inl (row, is_row, to)) = by e.kind refl is_row
    where
      -- what is sent after a 2xx is a 2xx, and the phase stays: a response has a row, and a request has none
      by : (k : Kind) → e.kind ≡ k → Sends p Passed k e row → IsResponse IsSuccess e × (y ≡ quiet Passed)
      by (Response code) kind is_row = ((code, kind, is_row.0), rw (to, is_row.1))
      by (Request method) kind is_row = absurd is_row
  passed-emits e y (inr (inl (left, pays, to))) = absurd (nothing-to-pay _ left pays)
  passed-emits e y (inr (inr (stays, same))) = absurd stays

  -- after a 2xx the server stays where it is when the transport refuses a message
  passed-fails : (ends : Bool) (e : MachineEvent) (y : Owing InviteServer3261Phase) → f.ends_refused Passed e.kind ≡ ends → Fails ends f p e (quiet Passed) y → y ≡ quiet Passed
  passed-fails true e y ends fails = cc
  passed-fails false e y ends emits = (passed-emits e y emits).1

  -- what the server takes after a 2xx is an INVITE
  passed-received : (k : Kind) (e : MachineEvent) (row : InviteServer3261Phase × Change) → Receives p Passed k e row → k ≡ Request Invite
  passed-received (Request Invite) e row h = refl
  passed-received k e row h = absurd h

  -- the server has passed a 2xx, so that the user sends it again, or it is idle since the element started again
  abbrev Sits : Owing InviteServer3261Phase → Type 0
  Sits y = (y ≡ quiet Passed) ⊎ (y ≡ quiet (In Idle false))

  -- a step after a 2xx, unless an INVITE comes, keeps the server there, or is a restart
  passed-steps : (a : Action) (e : MachineEvent) (y : Owing InviteServer3261Phase) → e.action ≡ a → ¬ (GetsRequest Invite e) → Steps f p a e (quiet Passed) y → Sits y
  -- only an INVITE has a row of a received message there; a sent 2xx keeps the phase, and a restart leads to idle
  passed-steps Received e y was never (inl (row, is_row, to)) = absurd (never (was, passed-received e.kind e row is_row))
  passed-steps Received e y was never (inr (none, same)) = inl same
  passed-steps Sent e y was never emits = inl (passed-emits e y emits).1
  passed-steps Failed e y was never fails = inl (passed-fails (f.ends_refused Passed e.kind) e y refl fails)
  passed-steps Mark e y was never h = absurd h
  passed-steps Restart e y was never (inl (idle, to)) = inr to
  passed-steps Restart e y was never (inr (other, to)) = inr to

  -- where no INVITE came, the server is after its 2xx, or idle after a restart
  abbrev Stays-so : List MachineEvent → ℕ → Owing InviteServer3261Phase → Type 0
  Stays-so es m y = All (λ g. ¬ (GetsRequest Invite g)) es → Sits y

  -- a run without an INVITE keeps the server after its 2xx, or idle after a restart
  stays-so-kept : IsKept f p Stays-so
  stays-so-kept = record { as_it_waits = λ es h m x holds low lasts. holds; as_it_ends = λ es h x holds may all. inr refl; as_it_takes = as_it_takes }
    where
      -- Stays-so stays true after an event
      as_it_takes : (es : List MachineEvent) (e : MachineEvent) (x y : Owing InviteServer3261Phase) → Stays-so es e.moment x → Takes f p x e y → Stays-so (es ++ e ∷ []) e.moment y
      as_it_takes es e x y holds take all = by (holds (All-front (λ g. ¬ (GetsRequest Invite g)) es (e ∷ []) all))
        where
          -- the event is no INVITE
          never : ¬ (GetsRequest Invite e)
          never = All-last (λ g. ¬ (GetsRequest Invite g)) es e all

          -- the server sleeps on, or an INVITE has come, and none has
          by-sleep : (y ≡ quiet (In Idle false)) ⊎ ((e.action ≡ Received) × IsInvite e.kind) → Sits y
          by-sleep (inl same) = inr same
          by-sleep (inr wakes) = absurd (never wakes)

          -- the server stays after its 2xx or idle, whichever it was
          by : Sits x → Sits y
          by (inl passed) = passed-steps e.action e y refl never (subst (λ z. Takes f p z e y) passed take)
          by (inr idle) = by-sleep (asleep-steps f p IsInvite (without-asleep p) e.action e y refl (subst (λ z. Takes f p z e y) idle take))

  -- What follows is of `final`, the first final response of the server, which is a 2xx; `before` are the events before it, and those with its bytes have its
  -- kind.
  module _ (before : List MachineEvent) (final : MachineEvent) (sends : SendsResponse IsSuccess final) (one_kind : All (λ g. g.text ≡ final.text → g.kind ≡ final.kind) before) where
    -- a 2xx is a final response
    is_final : SendsResponse IsFinal final
    is_final = (sends.0, (sends.1.0, sends.1.1, (sends.1.2.0, omega (arith, sends.1.2.1))))

    -- the row of the 2xx leads to `Passed`, and drops the debts
    -- in proceeding a 2xx has the row that leads to `Passed`, and not that of another response; no other phase before the final response sends one
    success-row : (x : InviteServerPhase) (k : Kind) (row : InviteServer3261Phase × Change) (owes : List Owed) → Opens f p first_in (is-server-3261 p) before final.moment x owes → IsResponse IsSuccess final → final.kind ≡ k
        → Sends p (first_in x) k final row → row ≡ (Passed, drops)
    success-row (Proceeding reliable set last) (Response code) row owes opens (other, kind, success) here (inl h) = h.1
    success-row (Proceeding reliable set last) (Response code) row owes opens (other, kind, success) here (inr h) = absurd (h.0 (subst IsSuccess (codes-are-one other code (sym kind ∙ here)) success))
    success-row (Proceeding reliable set last) (Request method) row owes opens success here h = absurd h
    success-row Idle k row owes opens success here h = absurd h
    success-row x k row owes opens success here h = absurd opens

    -- the 2xx that is sent leads to `Passed`
    final-emits : (x : InviteServerPhase) (owes : List Owed) (y : Owing InviteServer3261Phase) → Opens f p first_in (is-server-3261 p) before final.moment x owes
        → Emits f p final (record { phase = first_in x; owes = owes }) y → Sits y
    final-emits x owes y opens (inl (row, is_row, to)) = inl (rw (to, success-row x final.kind row owes opens sends.1 refl is_row) refl)
    final-emits x owes y opens (inr (inl (left, pays, to))) =
        absurd (final-paid f p first_in (is-server-3261 p) before final is_final one_kind _ x owes left opens pays ((is-server-3261 p).paid x final.kind final pays.first.message pays.holds.0))
    final-emits x owes y opens (inr (inr (stays, same))) = absurd ((is-server-3261 p).unmoved x final.kind stays)

    -- the 2xx, sent or refused, leads to `Passed`
    final-steps : (x y : Owing InviteServer3261Phase) → HoldsIn f p first_in (is-server-3261 p) (Opens f p first_in (is-server-3261 p) before final.moment) x → Takes f p x final y → Sits y
    final-steps x y (phase, owes, same, opens) take = by sends.0
      where
        -- the 2xx leads to `Passed`, sent or refused
        by : (final.action ≡ Sent) ⊎ (final.action ≡ Failed) → Sits y
        by (inl sent) =
            final-emits phase (left_at final (record { phase = first_in phase; owes = owes })) y (opens-left f p first_in (is-server-3261 p) before final final.moment phase (record { phase = first_in phase; owes = owes }) opens)
            (step-of f p Sent final (record { phase = first_in phase; owes = owes }) y sent (subst (λ w. Takes f p w final y) same take))
        by (inr refused) =
            final-emits phase (left_at final (record { phase = first_in phase; owes = owes })) y (opens-left f p first_in (is-server-3261 p) before final final.moment phase (record { phase = first_in phase; owes = owes }) opens)
            (step-of f p Failed final (record { phase = first_in phase; owes = owes }) y refused (subst (λ w. Takes f p w final y) same take))

    -- after its first final response, a 2xx, and until an INVITE comes again, the server sends only 2xx
    pub successes-alone : (after : List MachineEvent) (e : MachineEvent) (y : Owing InviteServer3261Phase) → All (λ g. ¬ (SendsResponse IsFinal g)) before → All (λ g. ¬ (GetsRequest Invite g)) after
        → e.action ≡ Sent → StandsAfter f p (before ++ final ∷ after) e y → IsResponse IsSuccess e
    successes-alone after e y first none sent (x, stands, take) =
        by-cut (cut f p (quiet f.idle) 0 before final after e.moment x (stands-run f p (before ++ final ∷ after) e.moment x stands))
      where
        -- the event is a 2xx: the server that has passed a 2xx sends only those, and an idle one sends nothing
        by : Sits x → IsResponse IsSuccess e
        by (inl passed) = (passed-emits e y (step-of f p Sent e (quiet Passed) y sent (subst (λ z. Takes f p z e y) passed take))).0
        by (inr idle) = absurd (asleep-emits f p IsInvite (without-asleep p) e y (step-of f p Sent e (quiet (In Idle false)) y sent (subst (λ z. Takes f p z e y) idle take)))

        -- the run is cut at the final response
        by-cut : Cut f p (quiet f.idle) 0 before final after e.moment x → IsResponse IsSuccess e
        by-cut found =
            let opens = run-keeps f p (BeforeFinal f p first_in (is-server-3261 p)) (before-final-kept f p first_in (is-server-3261 p)) before (quiet f.idle) 0 final.moment found.from
            (λ all. (Idle, [], refl, refl)) found.leads first in
            by (run-keeps f p Stays-so stays-so-kept after found.to final.moment e.moment x (λ all. final-steps found.from found.to opens found.step) found.goes none)
