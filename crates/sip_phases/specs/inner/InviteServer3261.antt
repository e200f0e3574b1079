-- How the code has the phases of the INVITE server of RFC 3261, whose messages are numbers of a book.
use Rattle.std.specs.Prelude.{ℕ, false, List, [], ⊤}
use Rattle.sip_phases.specs.declared.invite_server_3261.InviteServer3261Phase.{InviteServer3261Phase as CodePhase}
use Rattle.sip_phases.specs.declared.invite_server_3261.InviteServer3261Phase.TheVariants as code
use Rattle.sip_phases.specs.declared.invite_server.InviteServerPhase.TheVariants as code_phase
use Rattle.sip_phases.specs.Texts.{Texts}
use Rattle.sip_phases.specs.inner.InviteServer.{invite_server_seen, invite_server_names, InviteServerInRange}
use Rattle.sip_phases.specs.inner.Coded.{Coded}
use Rattle.sip_standard.specs.InviteServer3261.{In, InviteServer3261Phase, Passed}

-- the phase of the figure that a phase of the code stands for beside a book
abbrev pub invite_server_3261_seen : Texts → CodePhase → InviteServer3261Phase
invite_server_3261_seen texts code.Passed = Passed
invite_server_3261_seen texts (code.In phase again) = In (invite_server_seen texts phase) again

-- the numbers of the messages that a phase of the code names
abbrev pub invite_server_3261_names : CodePhase → List ℕ
invite_server_3261_names code.Passed = []
invite_server_3261_names (code.In phase again) = invite_server_names phase

-- the moments of a phase of the code are within the limits, and its interval is below 2^50, so that no sum wraps
abbrev pub InviteServer3261InRange : CodePhase → Type 0
InviteServer3261InRange code.Passed = ⊤
InviteServer3261InRange (code.In phase again) = InviteServerInRange phase

-- how the code has the phases of the INVITE server of RFC 3261
abbrev pub invite_server_3261_coded : Coded InviteServer3261Phase
invite_server_3261_coded =
    record {
      Code = CodePhase;
      seen = invite_server_3261_seen;
      names = invite_server_3261_names;
      InRange = InviteServer3261InRange;
      -- a transaction begins in idle without the flag, and is in it again after its end
      idle = code.In code_phase.Idle false;
      ended = code.In code_phase.Idle false;
    }
