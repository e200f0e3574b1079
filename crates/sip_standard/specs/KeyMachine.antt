-- The machine of each key (RFC 3261 section 17), and its figure: the list of machines.
use Rattle.std.specs.Prelude.{Bool, true, false, codes, bytes_eq}
use Rattle.sip_standard.specs.declared.role.Role.{Role}
use Rattle.sip_standard.specs.declared.role.Role.TheVariants.{Client, Server}
use Rattle.sip_standard.specs.Key.{KeyParts}
use Rattle.sip_standard.specs.declared.rules.Rules.{Rules}
use Rattle.sip_standard.specs.declared.rules.Rules.TheVariants.{R3261, R6026}
use Rattle.sip_standard.specs.Transaction.{Transaction}
use Rattle.sip_standard.specs.InviteClient.{InviteClientPhase, invite_client}
use Rattle.sip_standard.specs.PlainClient.{PlainClientPhase, plain_client}
use Rattle.sip_standard.specs.InviteServer.{InviteServerPhase, invite_server}
use Rattle.sip_standard.specs.InviteClient3261.{invite_client_3261}
use Rattle.sip_standard.specs.InviteServer3261.{InviteServer3261Phase, invite_server_3261}
use Rattle.sip_standard.specs.PlainServer.{PlainServerPhase, plain_server}

-- the machines of section 17: that of an INVITE by these rules in this role, and that of any other method in this role
pub data MachineKind : Type 0 where
  OfInvite : Rules → Role → MachineKind
  OfPlain : Role → MachineKind

-- the machine of a role by these rules, for the method INVITE or any other
abbrev pub machine_of : Rules → Role → Bool → MachineKind
machine_of rules role true = OfInvite rules role
machine_of rules role false = OfPlain role

-- the machine of a key
abbrev pub machine_of_key : Rules → KeyParts → MachineKind
machine_of_key rules key = machine_of rules key.role (bytes_eq key.method (codes "INVITE"))

-- the figure of each machine; those of an INVITE are with and without the accepted states of RFC 6026
abbrev pub transaction_of : MachineKind → Transaction
transaction_of (OfInvite R6026 Client) = record { Phase = InviteClientPhase; figure = invite_client }
transaction_of (OfInvite R6026 Server) = record { Phase = InviteServerPhase; figure = invite_server }
transaction_of (OfInvite R3261 Client) = record { Phase = InviteClientPhase; figure = invite_client_3261 }
transaction_of (OfInvite R3261 Server) = record { Phase = InviteServer3261Phase; figure = invite_server_3261 }
transaction_of (OfPlain Client) = record { Phase = PlainClientPhase; figure = plain_client }
transaction_of (OfPlain Server) = record { Phase = PlainServerPhase; figure = plain_server }
