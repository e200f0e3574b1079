-- How the code has the phases of the non-INVITE client, whose messages are numbers of a book.
use Rattle.std.specs.Prelude.{◌≤◌, ℕ, List, [], ◌∷◌, ⊤}
use Rattle.sip_phases.specs.declared.plain_client.PlainClientPhase.{PlainClientPhase as CodePhase}
use Rattle.sip_phases.specs.declared.plain_client.PlainClientPhase.TheVariants as code
use Rattle.sip_standard.specs.Times.{last_moment}
use Rattle.sip_phases.specs.Texts.{Texts}
use Rattle.sip_phases.specs.inner.Waiting.{waiting_seen, WaitingInRange}
use Rattle.sip_phases.specs.inner.Coded.{Coded}
use Rattle.sip_standard.specs.PlainClient.{PlainClientPhase, Idle, Ended, Trying, Proceeding, Completed}

-- the phase of the figure that a phase of the code stands for beside a book
abbrev pub plain_client_seen : Texts → CodePhase → PlainClientPhase
plain_client_seen texts code.Idle = Idle
plain_client_seen texts (code.Trying w) = Trying (waiting_seen texts w)
plain_client_seen texts (code.Proceeding w) = Proceeding (waiting_seen texts w)
plain_client_seen texts (code.Completed reliable set) = Completed reliable set
plain_client_seen texts code.Ended = Ended

-- the numbers of the messages that a phase of the code names
abbrev pub plain_client_names : CodePhase → List ℕ
plain_client_names (code.Trying w) = w.request ∷ []
plain_client_names (code.Proceeding w) = w.request ∷ []
plain_client_names x = []

-- the moments of a phase of the code are within the limits, and its interval is below 2^50, so that no sum wraps
abbrev pub PlainClientInRange : CodePhase → Type 0
PlainClientInRange (code.Trying w) = WaitingInRange w
PlainClientInRange (code.Proceeding w) = WaitingInRange w
PlainClientInRange (code.Completed reliable set) = set ≤ last_moment
PlainClientInRange x = ⊤

-- how the code has the phases of the non-INVITE client
abbrev pub plain_client_coded : Coded PlainClientPhase
plain_client_coded =
    record {
      Code = CodePhase;
      seen = plain_client_seen;
      names = plain_client_names;
      InRange = PlainClientInRange;
      -- a transaction begins in idle, and is in ended after its end
      idle = code.Idle;
      ended = code.Ended;
    }
