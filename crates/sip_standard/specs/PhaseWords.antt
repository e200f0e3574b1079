-- The words of the phases of each machine, as a listing tells them.
use Rattle.std.specs.Prelude.{ℕ, Bool, Some, List, [], ◌∷◌, ◌++◌, codes, if◌then◌else◌}
use Rattle.sip_standard.specs.Told.{ToldField, Flag, Number, Message, Told}
use Rattle.sip_standard.specs.PlainClient as client
use Rattle.sip_standard.specs.PlainServer as server
use Rattle.sip_standard.specs.InviteClient as inviting
use Rattle.sip_standard.specs.InviteServer as invited
use Rattle.sip_standard.specs.InviteServer3261.{InviteServer3261Phase, In, Passed, remembers}
use Rattle.sip_standard.specs.KeyMachine.{MachineKind, OfInvite, OfPlain, transaction_of}
use Rattle.sip_standard.specs.declared.role.Role.TheVariants.{Client, Server}
use Rattle.sip_standard.specs.declared.rules.Rules.TheVariants.{R3261, R6026}

-- what is told of a request that waits
abbrev pub waiting_fields : {M : Type 0} → (reliable : Bool) (request : M) (start set interval : ℕ) → List (ToldField M)
waiting_fields reliable request start set interval =
    Flag (codes "reliable") reliable ∷ Message (codes "request") (Some request) ∷ Number (codes "start") (Some start)
    ∷ Number (codes "set") (Some set) ∷ Number (codes "interval") (Some interval) ∷ []

-- what is told of a phase of the non-INVITE client
abbrev pub plain_client_told : client.PlainClientPhase → Told (List ℕ)
plain_client_told client.Idle = record { name = codes "idle"; fields = [] }
plain_client_told (client.Trying w) = record { name = codes "trying"; fields = waiting_fields w.reliable w.request w.start w.set w.interval }
plain_client_told (client.Proceeding w) = record { name = codes "proceeding"; fields = waiting_fields w.reliable w.request w.start w.set w.interval }
plain_client_told (client.Completed reliable set) = record { name = codes "completed"; fields = Flag (codes "reliable") reliable ∷ Number (codes "set") (Some set) ∷ [] }
plain_client_told client.Ended = record { name = codes "ended"; fields = [] }

-- what is told of a phase of the non-INVITE server
abbrev pub plain_server_told : server.PlainServerPhase → Told (List ℕ)
plain_server_told server.Idle = record { name = codes "idle"; fields = [] }
plain_server_told (server.Trying reliable) = record { name = codes "trying"; fields = Flag (codes "reliable") reliable ∷ [] }
plain_server_told (server.Proceeding reliable last) = record { name = codes "proceeding"; fields = Flag (codes "reliable") reliable ∷ Message (codes "last") (Some last) ∷ [] }
plain_server_told (server.Completed reliable final set) =
    record { name = codes "completed"; fields = Flag (codes "reliable") reliable ∷ Message (codes "final") (Some final) ∷ Number (codes "set") (Some set) ∷ [] }

-- what is told of a phase of the INVITE client, with and without RFC 6026
abbrev pub invite_client_told : inviting.InviteClientPhase → Told (List ℕ)
invite_client_told inviting.Idle = record { name = codes "idle"; fields = [] }
invite_client_told (inviting.Calling w) = record { name = codes "calling"; fields = waiting_fields w.reliable w.request w.start w.set w.interval }
invite_client_told (inviting.Proceeding reliable request cancel) =
    record { name = codes "proceeding"; fields = Flag (codes "reliable") reliable ∷ Message (codes "request") (Some request) ∷ Number (codes "cancel") cancel ∷ [] }
invite_client_told (inviting.Accepted set) = record { name = codes "accepted"; fields = Number (codes "set") (Some set) ∷ [] }
invite_client_told (inviting.Completed reliable request set) =
    record { name = codes "completed"; fields = Flag (codes "reliable") reliable ∷ Message (codes "request") (Some request) ∷ Number (codes "set") (Some set) ∷ [] }
invite_client_told inviting.Ended = record { name = codes "ended"; fields = [] }

-- what is told of a phase of the INVITE server
abbrev pub invite_server_told : invited.InviteServerPhase → Told (List ℕ)
invite_server_told invited.Idle = record { name = codes "idle"; fields = [] }
invite_server_told (invited.Proceeding reliable set last) =
    record { name = codes "proceeding"; fields = Flag (codes "reliable") reliable ∷ Number (codes "set") (Some set) ∷ Message (codes "last") last ∷ [] }
invite_server_told (invited.Accepted set) = record { name = codes "accepted"; fields = Number (codes "set") (Some set) ∷ [] }
invite_server_told (invited.Completed reliable final set repeat interval) =
    record {
      name = codes "completed";
      fields = Flag (codes "reliable") reliable ∷ Message (codes "final") (Some final) ∷ Number (codes "set") (Some set)
          ∷ Number (codes "repeat") (Some repeat) ∷ Number (codes "interval") (Some interval) ∷ [];
    }
invite_server_told (invited.Confirmed reliable set) = record { name = codes "confirmed"; fields = Flag (codes "reliable") reliable ∷ Number (codes "set") (Some set) ∷ [] }

-- what is told of a phase of the INVITE server without RFC 6026: where it matters, whether the INVITE came again stands last
abbrev pub invite_server_3261_told : InviteServer3261Phase → Told (List ℕ)
invite_server_3261_told Passed = record { name = codes "passed"; fields = [] }
invite_server_3261_told (In x again) =
    let told = invite_server_told x in
    if remembers x then record { name = told.name; fields = told.fields ++ Flag (codes "again") again ∷ [] } else told

-- the words of the phases of each machine
abbrev pub words_of : (machine : MachineKind) → (transaction_of machine).Phase → Told (List ℕ)
words_of (OfInvite R6026 Client) = invite_client_told
words_of (OfInvite R6026 Server) = invite_server_told
words_of (OfInvite R3261 Client) = invite_client_told
words_of (OfInvite R3261 Server) = invite_server_3261_told
words_of (OfPlain Client) = plain_client_told
words_of (OfPlain Server) = plain_server_told
