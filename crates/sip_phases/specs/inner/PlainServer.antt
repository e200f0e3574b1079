-- How the code has the phases of the non-INVITE server, whose messages are numbers of a book.
use Rattle.std.specs.Prelude.{◌≤◌, ℕ, List, [], ◌∷◌, ⊤}
use Rattle.sip_phases.specs.declared.plain_server.PlainServerPhase.{PlainServerPhase as CodePhase}
use Rattle.sip_phases.specs.declared.plain_server.PlainServerPhase.TheVariants as code
use Rattle.sip_standard.specs.Times.{last_moment}
use Rattle.sip_phases.specs.Texts.{Texts, text_of}
use Rattle.sip_phases.specs.inner.Coded.{Coded}
use Rattle.sip_standard.specs.PlainServer.{PlainServerPhase, Idle, Trying, Proceeding, Completed}

-- the phase of the figure that a phase of the code stands for beside a book
abbrev pub plain_server_seen : Texts → CodePhase → PlainServerPhase
plain_server_seen texts code.Idle = Idle
plain_server_seen texts (code.Trying reliable) = Trying reliable
plain_server_seen texts (code.Proceeding reliable last) = Proceeding reliable (text_of texts last)
plain_server_seen texts (code.Completed reliable final set) = Completed reliable (text_of texts final) set

-- the numbers of the messages that a phase of the code names
abbrev pub plain_server_names : CodePhase → List ℕ
plain_server_names (code.Proceeding reliable last) = last ∷ []
plain_server_names (code.Completed reliable final set) = final ∷ []
plain_server_names x = []

-- the moments of a phase of the code are within the limits, so that no sum wraps
abbrev pub PlainServerInRange : CodePhase → Type 0
PlainServerInRange (code.Completed reliable final set) = set ≤ last_moment
PlainServerInRange x = ⊤

-- how the code has the phases of the non-INVITE server
abbrev pub plain_server_coded : Coded PlainServerPhase
plain_server_coded =
    record {
      Code = CodePhase;
      seen = plain_server_seen;
      names = plain_server_names;
      InRange = PlainServerInRange;
      -- a transaction begins in idle, and is in idle again after its end
      idle = code.Idle;
      ended = code.Idle;
    }
