-- A server that has got no request sleeps: it sends nothing, and has no timer.
-- In the lemmas k is the kind of the message of the event e, and y what follows the step of e.
-- In cases of `Emits` a message that is sent has a row (`row`, `is_row`, `to`), or pays a debt (`left`, `pays`), or changes nothing (`stays`,
-- `same`), which only the INVITE server by RFC 3261 alone lets it (Stays). In cases of `Steps` a message that is received has a row, or has none and
-- changes nothing (`none`, `same`), and a restart leaves idle as it is (`idle`) and ends any other phase (`other`).
use Rattle.std.proofs.Common.{◌≡◌, ◌≤◌, ◌⊎◌, inl, inr, ℕ, Bool, true, false, Option, None, List, [], ◌∷◌, ◌++◌, All, refl, ap, subst, IsSomeAnd}
use Rattle.sip_standard.specs.declared.action.Action.{Action}
use Rattle.sip_standard.specs.declared.action.Action.TheVariants.{Sent, Received, Failed, Mark, Restart}
use Rattle.sip_standard.specs.declared.kind.Method.{Method}
use Rattle.sip_standard.specs.declared.kind.Method.TheVariants.{Invite}
use Rattle.sip_standard.specs.declared.kind.Kind.{Kind}
use Rattle.sip_standard.specs.declared.kind.Kind.TheVariants.{Request, Response}
use Rattle.sip_standard.specs.Times.{Times}
use Rattle.sip_standard.specs.MachineEvent.{MachineEvent}
use Rattle.sip_standard.specs.Debts.{Owed, IsWithoutFirst}
use Rattle.sip_standard.specs.Figure.{Figure, Change, Owing, quiet, Emits, Fails, Steps, Takes, MayEnd}
use Rattle.sip_standard.specs.InviteServer as corrected
use Rattle.sip_standard.specs.InviteServer3261 as without
use Rattle.sip_standard.specs.PlainServer as plain
use Rattle.consequences.specs.Events.{IsRestart}
use Rattle.sip_phases.proofs.debts.DebtLaws.{All-front}
use Rattle.consequences.proofs.lemmas.run.Lists.{All-last}
use Rattle.consequences.proofs.lemmas.run.Running.{Runs, IsKept, step-of, run-keeps}

-- in its idle phase, which is the ended one, a server has no window, sends nothing, and leaves only for a request that wakes it
pub record IsAsleep {X : Type 0} (f : Figure X) (p : Times) (Wakes : Kind → Type 0) : Type 0 where
  pub ended_is : f.ended ≡ f.idle
  pub no_end : f.window p f.idle ≡ None
  pub silent : (k : Kind) (e : MachineEvent) (y : X × Change) → ¬ (f.Sends p f.idle k e y)
  pub woken : (k : Kind) (e : MachineEvent) (y : X × Change) → f.Receives p f.idle k e y → Wakes k
  pub unmoved : (k : Kind) → ¬ (f.Stays f.idle k)

-- where nothing is owed, nothing is paid
pub nothing-to-pay : (P : Owed → Type 0) (left : List Owed) → ¬ (IsWithoutFirst P [] left)
nothing-to-pay P left pays = by pays.before pays.whole
  where
    -- the empty list has no debt that could be the first
    by : (before : List Owed) → ¬ ([] ≡ before ++ pays.first ∷ pays.after)
    by [] is = cc
    by (o ∷ os) is = cc

-- What follows is of a server that sleeps until a kind of message of Wakes comes: its figure f with the times p.
module _ {X : Type 0} (f : Figure X) (p : Times) (Wakes : Kind → Type 0) (asleep : IsAsleep f p Wakes) where
  -- a server that sleeps sends nothing
  pub asleep-emits : (e : MachineEvent) (y : Owing X) → ¬ (Emits f p e (quiet f.idle) y)
  asleep-emits e y (inl (row, is_row, to)) = asleep.silent e.kind e row is_row
  asleep-emits e y (inr (inl (left, pays, to))) = nothing-to-pay _ left pays
  asleep-emits e y (inr (inr (stays, same))) = asleep.unmoved e.kind stays

  -- the transport refuses nothing of a server that sleeps, since the server sends nothing
  asleep-fails : (ends : Bool) (e : MachineEvent) (y : Owing X) → ¬ (Fails ends f p e (quiet f.idle) y)
  asleep-fails true e y fails = asleep-emits e fails.0.0 fails.0.1
  asleep-fails false e y emits = asleep-emits e y emits

  -- a step of a server that sleeps leaves it asleep, or is that of a request that wakes it
  pub asleep-steps : (a : Action) (e : MachineEvent) (y : Owing X) → e.action ≡ a → Steps f p a e (quiet f.idle) y → (y ≡ quiet f.idle) ⊎ ((e.action ≡ Received) × Wakes e.kind)
  -- only a received message with a row wakes it: it has nothing to send, and a restart leaves an idle server idle
  asleep-steps Received e y was (inl (row, is_row, to)) = inr (was, asleep.woken e.kind e row is_row)
  asleep-steps Received e y was (inr (none, same)) = inl same
  asleep-steps Sent e y was emits = absurd (asleep-emits e y emits)
  asleep-steps Failed e y was fails = absurd (asleep-fails (f.ends_refused f.idle e.kind) e y fails)
  asleep-steps Mark e y was h = absurd h
  asleep-steps Restart e y was (inl (idle, to)) = inl to
  asleep-steps Restart e y was (inr (other, to)) = absurd (other refl)

  -- where there is no window, none has opened
  no-window : (window : Option (ℕ × Option ℕ)) (h : ℕ) → window ≡ None → ¬ (IsSomeAnd window (λ w. w.0 ≤ h))
  no-window window h is some = absurd (subst (λ w. IsSomeAnd w (λ v. v.0 ≤ h)) is some)

  -- where no request that wakes it came, the server sleeps
  abbrev Sleeps : List MachineEvent → ℕ → Owing X → Type 0
  Sleeps es m y = All (λ g. ¬ ((g.action ≡ Received) × Wakes g.kind)) es → y ≡ quiet f.idle

  -- a run without a request that wakes the server keeps it asleep
  sleeps-kept : IsKept f p Sleeps
  sleeps-kept = record { as_it_waits = λ es h m x holds low lasts. holds; as_it_ends = as_it_ends; as_it_takes = as_it_takes }
    where
      -- an end keeps Sleeps, since the ended phase is the idle one
      as_it_ends : (es : List MachineEvent) (h : ℕ) (x : Owing X) → Sleeps es h x → MayEnd f p x h → Sleeps es h (quiet f.ended)
      as_it_ends es h x holds may all = ap quiet asleep.ended_is

      -- Sleeps stays true after an event
      as_it_takes : (es : List MachineEvent) (e : MachineEvent) (x y : Owing X) → Sleeps es e.moment x → Takes f p x e y → Sleeps (es ++ e ∷ []) e.moment y
      as_it_takes es e x y holds take all =
          by (asleep-steps e.action e y refl (subst (λ z. Takes f p z e y) (holds (All-front (λ g. ¬ ((g.action ≡ Received) × Wakes g.kind)) es (e ∷ []) all)) take))
        where
          -- the server sleeps on: else a request that wakes it has come, and none has
          by : (y ≡ quiet f.idle) ⊎ ((e.action ≡ Received) × Wakes e.kind) → y ≡ quiet f.idle
          by (inl same) = same
          by (inr wakes) = absurd (All-last (λ g. ¬ ((g.action ≡ Received) × Wakes g.kind)) es e all wakes)

  -- a run that begins asleep, and has no request that wakes the server, ends asleep
  -- the run goes from the state x at the moment h to the state y at the moment m; g is one of its events
  pub sleeps-on : (es : List MachineEvent) (x : Owing X) (h m : ℕ) (y : Owing X) → x ≡ quiet f.idle → All (λ g. ¬ ((g.action ≡ Received) × Wakes g.kind)) es → Runs f p x h es m y → y ≡ quiet f.idle
  sleeps-on es x h m y is all run = run-keeps f p Sleeps sleeps-kept es x h m y (λ none. is) run all

  -- a restart puts the server to sleep
  pub restart-sleeps : (e : MachineEvent) (x y : Owing X) → IsRestart e → Takes f p x e y → y ≡ quiet f.idle
  restart-sleeps e x y restart take = by (step-of f p Restart e x y restart take)
    where
      -- a restart leads to idle, for the ended phase is idle too
      by : ((x.phase ≡ f.idle) × (y ≡ quiet f.idle)) ⊎ (¬ (x.phase ≡ f.idle) × (y ≡ quiet f.ended)) → y ≡ quiet f.idle
      by (inl idle) = idle.1
      by (inr other) = rw (other.1, asleep.ended_is)

-- What follows is of the three servers.

-- the kind is an INVITE
abbrev pub IsInvite : Kind → Type 0
IsInvite k = k ≡ Request Invite

-- the kind is a request, of any method
abbrev pub IsAnyRequest : Kind → Type 0
IsAnyRequest k = (method : Method) × (k ≡ Request method)

-- what the INVITE server by RFC 6026 takes in idle is an INVITE
corrected-woken : (p : Times) (k : Kind) (e : MachineEvent) (y : corrected.InviteServerPhase × Change) → corrected.Receives p corrected.Idle k e y → IsInvite k
corrected-woken p (Request Invite) e y h = refl
corrected-woken p k e y h = absurd h

-- the INVITE server by RFC 6026 sleeps until an INVITE comes
pub corrected-asleep : (p : Times) → IsAsleep corrected.invite_server p IsInvite
corrected-asleep p = record { ended_is = refl; no_end = refl; silent = λ k e y h. h; woken = corrected-woken p; unmoved = λ k h. h }

-- in idle, the INVITE server by RFC 3261 alone sends nothing that leaves it as it is
without-stays : (k : Kind) → ¬ (without.Stays (without.In corrected.Idle false) k)
without-stays (Response code) h = cc
without-stays (Request method) h = absurd h

-- the INVITE server by RFC 3261 alone sleeps until an INVITE comes
pub without-asleep : (p : Times) → IsAsleep without.invite_server_3261 p IsInvite
without-asleep p =
    record { ended_is = refl; no_end = refl; silent = λ k e y h. h; woken = λ k e y h. corrected-woken p k e h.0 h.1; unmoved = without-stays }

-- what the non-INVITE server takes in idle is a request
plain-woken : (p : Times) (k : Kind) (e : MachineEvent) (y : plain.PlainServerPhase × Change) → plain.Receives p plain.Idle k e y → IsAnyRequest k
plain-woken p (Request method) e y h = (method, refl)
plain-woken p k e y h = absurd h

-- the non-INVITE server sleeps until a request comes
pub plain-asleep : (p : Times) → IsAsleep plain.plain_server p IsAnyRequest
plain-asleep p = record { ended_is = refl; no_end = refl; silent = λ k e y h. h; woken = plain-woken p; unmoved = λ k h. h }
