use Rattle.std.proofs.Common.{inl}
use Rattle.sip_message.proofs.plain.past_host.Goals as goal

-- where an ordinary name stands there, it is a host
pub returns-in-Some : goal.returns-in-Some
returns-in-Some c =
    -- `found` says that a hostname lies there
    let found = c.in-Some.ensures in
    (found.0, found.1, inl found.2)
