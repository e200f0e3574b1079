-- How the code has the phases of the INVITE server, whose messages are numbers of a book.
use Rattle.std.specs.Prelude.{◌≤◌, ◌<◌, ◌^◌, ℕ, Some, List, [], ◌∷◌, ⊤}
use Rattle.std.specs.Option.{option_map}
use Rattle.sip_phases.specs.declared.invite_server.InviteServerPhase.{InviteServerPhase as CodePhase}
use Rattle.sip_phases.specs.declared.invite_server.InviteServerPhase.TheVariants as code
use Rattle.sip_standard.specs.Times.{last_moment}
use Rattle.sip_phases.specs.Texts.{Texts, text_of}
use Rattle.sip_phases.specs.inner.Coded.{Coded}
use Rattle.sip_standard.specs.InviteServer.{InviteServerPhase, Idle, Proceeding, Accepted, Completed, Confirmed}

-- the phase of the figure that a phase of the code stands for beside a book
abbrev pub invite_server_seen : Texts → CodePhase → InviteServerPhase
invite_server_seen texts code.Idle = Idle
invite_server_seen texts (code.Proceeding reliable set last) = Proceeding reliable set (option_map (text_of texts) last)
invite_server_seen texts (code.Accepted set) = Accepted set
invite_server_seen texts (code.Completed reliable final set repeat interval) = Completed reliable (text_of texts final) set repeat interval
invite_server_seen texts (code.Confirmed reliable set) = Confirmed reliable set

-- the numbers of the messages that a phase of the code names
abbrev pub invite_server_names : CodePhase → List ℕ
invite_server_names (code.Proceeding reliable set (Some last)) = last ∷ []
invite_server_names (code.Completed reliable final set repeat interval) = final ∷ []
invite_server_names x = []

-- the moments of a phase of the code are within the limits, and its interval is below 2^50, so that no sum wraps
abbrev pub InviteServerInRange : CodePhase → Type 0
InviteServerInRange code.Idle = ⊤
InviteServerInRange (code.Proceeding reliable set last) = set ≤ last_moment
InviteServerInRange (code.Accepted set) = set ≤ last_moment
InviteServerInRange (code.Completed reliable final set repeat interval) = (set ≤ last_moment) × (repeat ≤ last_moment) × (interval < 2 ^ 50)
InviteServerInRange (code.Confirmed reliable set) = set ≤ last_moment

-- how the code has the phases of the INVITE server
abbrev pub invite_server_coded : Coded InviteServerPhase
invite_server_coded =
    record {
      Code = CodePhase;
      seen = invite_server_seen;
      names = invite_server_names;
      InRange = InviteServerInRange;
      -- a transaction begins in idle, and is in idle again after its end
      idle = code.Idle;
      ended = code.Idle;
    }
