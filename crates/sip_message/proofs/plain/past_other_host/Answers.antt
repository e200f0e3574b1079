use Rattle.std.proofs.Common.{subst}
use Rattle.sip_standard.specs.Profile.{Host}
use Rattle.sip_message.specs.inner.Plain.{segment}
use Rattle.sip_message.proofs.plain.past_other_host.Goals as goal

-- where the plain run is a host, a host lies there
pub returns-then-is_host : goal.returns-then-is_host
returns-then-is_host c =
    -- `run` says that a plain run lies there; the code looks at it in its own text
    let run = c.in_ok-to.ensures in
    (run.0, run.1, subst (λ t. Host (segment c.args.at c.in_ok-to.to t)) c.text.ensures (c.is_host.ensures.0 c.if-is_host.true))
