-- The intervals between a request and its repeats.
use Rattle.std.specs.Prelude.{◌≤◌, ℕ, Bool, true, false, List, [], ◌∷◌, filter, map, ⊤}
use Rattle.sip_standard.specs.declared.action.Action.{Action}
use Rattle.sip_standard.specs.declared.action.Action.TheVariants.{Sent}
use Rattle.sip_standard.specs.declared.kind.Kind.{Kind}
use Rattle.sip_standard.specs.declared.kind.Kind.TheVariants.{Request}
use Rattle.sip_standard.specs.declared.kind.Method.TheVariants.{Invite}
use Rattle.sip_standard.specs.Window.{open_at}
use Rattle.sip_standard.specs.MachineEvent.{MachineEvent}
use Rattle.sip_standard.specs.Times.{Times}

-- whether this is an INVITE that is sent
abbrev pub sends_invite : Action → Kind → Bool
sends_invite Sent (Request Invite) = true
sends_invite action kind = false

-- whether this is a request that is sent
abbrev pub sends_request : Action → Kind → Bool
sends_request Sent (Request method) = true
sends_request action kind = false

-- the moments of the INVITEs that the events send
abbrev pub invites_of : List MachineEvent → List ℕ
invites_of events = map (λ e. e.moment) (filter (λ e. sends_invite e.action e.kind) events)

-- the moments of the requests that the events send
abbrev pub requests_of : List MachineEvent → List ℕ
requests_of events = map (λ e. e.moment) (filter (λ e. sends_request e.action e.kind) events)

-- the moments after `last` lie no closer, one to the next, than this interval and those that follow from it, each less by what an element may be early;
-- `next` gives the interval that follows from one; where no moments are left, nothing is asked
abbrev pub AreSpaced : Times → (ℕ → ℕ) → ℕ → ℕ → List ℕ → Type 0
AreSpaced p next last interval [] = ⊤
AreSpaced p next last interval (m ∷ ms) = (open_at p last interval ≤ m) × AreSpaced p next m (next interval) ms

-- the moments after the first lie no closer than T1 and the intervals that follow from it, each less by what an element may be early
abbrev pub IsSpaced : Times → (ℕ → ℕ) → List ℕ → Type 0
IsSpaced p next [] = ⊤
IsSpaced p next (m ∷ ms) = AreSpaced p next m p.t1 ms
