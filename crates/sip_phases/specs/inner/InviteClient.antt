-- How the code has the phases of the INVITE client, whose messages are numbers of a book.
use Rattle.std.specs.Prelude.{◌≤◌, ℕ, Some, List, [], ◌∷◌, ⊤}
use Rattle.sip_phases.specs.declared.invite_client.InviteClientPhase.{InviteClientPhase as CodePhase}
use Rattle.sip_phases.specs.declared.invite_client.InviteClientPhase.TheVariants as code
use Rattle.sip_standard.specs.Times.{last_moment}
use Rattle.sip_phases.specs.Texts.{Texts, text_of}
use Rattle.sip_phases.specs.inner.Waiting.{waiting_seen, WaitingInRange}
use Rattle.sip_phases.specs.inner.Coded.{Coded}
use Rattle.sip_standard.specs.InviteClient.{InviteClientPhase, Idle, Ended, Calling, Proceeding, Accepted, Completed}

-- the phase of the figure that a phase of the code stands for beside a book
abbrev pub invite_client_seen : Texts → CodePhase → InviteClientPhase
invite_client_seen texts code.Idle = Idle
invite_client_seen texts (code.Calling w) = Calling (waiting_seen texts w)
invite_client_seen texts (code.Proceeding reliable request cancel) = Proceeding reliable (text_of texts request) cancel
invite_client_seen texts (code.Accepted set) = Accepted set
invite_client_seen texts (code.Completed reliable request set) = Completed reliable (text_of texts request) set
invite_client_seen texts code.Ended = Ended

-- the numbers of the messages that a phase of the code names
abbrev pub invite_client_names : CodePhase → List ℕ
invite_client_names (code.Calling w) = w.request ∷ []
invite_client_names (code.Proceeding reliable request cancel) = request ∷ []
invite_client_names (code.Completed reliable request set) = request ∷ []
invite_client_names x = []

-- the moments of a phase of the code are within the limits, and its interval is below 2^50, so that no sum wraps
abbrev pub InviteClientInRange : CodePhase → Type 0
InviteClientInRange (code.Calling w) = WaitingInRange w
InviteClientInRange (code.Proceeding reliable request (Some first)) = first ≤ last_moment
InviteClientInRange (code.Accepted set) = set ≤ last_moment
InviteClientInRange (code.Completed reliable request set) = set ≤ last_moment
InviteClientInRange x = ⊤

-- how the code has the phases of the INVITE client
abbrev pub invite_client_coded : Coded InviteClientPhase
invite_client_coded =
    record {
      Code = CodePhase;
      seen = invite_client_seen;
      names = invite_client_names;
      InRange = InviteClientInRange;
      -- a transaction begins in idle, and is in ended after its end
      idle = code.Idle;
      ended = code.Ended;
    }
