-- When an INVITE that comes again begins no new transaction.
use Rattle.std.specs.Prelude.{◌<◌, ◌*◌, ◌⊎◌, List, All}
use Rattle.sip_standard.specs.declared.kind.Method.TheVariants.{Invite, Ack}
use Rattle.sip_standard.specs.Window.{open_at}
use Rattle.sip_standard.specs.MachineEvent.{MachineEvent}
use Rattle.sip_standard.specs.Times.{Times}
use Rattle.consequences.specs.Events.{GetsRequest, IsRestart}

-- after the final response no event begins the transaction anew: none is an INVITE, or each comes while the transaction lasts, before
-- timer H or L may fire (sections 17.2.1, and 7.1 of RFC 6026), and none is an ACK or a restart
abbrev pub BeginNoneAnew : Times → MachineEvent → List MachineEvent → Type 0
BeginNoneAnew p final after =
    All (λ e. ¬ (GetsRequest Invite e)) after
    ⊎ All (λ e. ¬ (GetsRequest Ack e) × ¬ (IsRestart e) × (e.moment < open_at p final.moment (64 * p.t1))) after
