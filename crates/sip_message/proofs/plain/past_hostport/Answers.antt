use Rattle.std.proofs.lemmas.Option.{IfSome_then}
use Rattle.sip_standard.specs.Text.{◌then◌}
use Rattle.sip_standard.specs.Profile.{Host, Port}
use Rattle.sip_text.specs.Bytes.{colon, Byte}
use Rattle.sip_message.specs.inner.Plain.{HostPort}
use Rattle.sip_message.proofs.PlainLemmas.{stands-as, then-stands, hostport-none, hostport-some}
use Rattle.sip_message.proofs.plain.past_hostport.Goals as goal

-- a host, a colon and a port are a host with its port
pub returns-in-Some : goal.returns-in-Some
returns-in-Some c =
    -- m is the text; the host was found, and the code then looks for a colon and a port
    let m = c.args.masks.now in
    IfSome_then c.past_port.result c.past_port.ensures (λ to port.
    stands-as (Host then Byte colon then Port) HostPort m c.args.at c.args.end to hostport-some
    (then-stands Host (Byte colon then Port) m c.args.at c.args.end c.in_ok-host.host to c.in_ok-host.ensures
    (then-stands (Byte colon) Port m c.in_ok-host.host c.args.end c.in-Some.port to c.in-Some.ensures port)))

-- a host without a colon after it has no port
pub returns-in-None : goal.returns-in-None
returns-in-None c =
    stands-as Host HostPort c.args.masks.now c.args.at c.args.end c.in_ok-host.host hostport-none c.in_ok-host.ensures
