use Rattle.std.proofs.lemmas.Option.{IfSome_then}
use Rattle.std.specs.Prelude.{codes}
use Rattle.sip_standard.specs.Text.{Exactly, ◌then◌}
use Rattle.sip_standard.specs.Profile.{Uri}
use Rattle.sip_message.specs.inner.Plain.{HostPort}
use Rattle.sip_message.proofs.PlainLemmas.{stands-as, then-stands}
use Rattle.sip_message.proofs.PlainUriLemmas.{PlainUser, uri-plain}
use Rattle.sip_message.proofs.plain.past_uri.Goals as goal

-- `sip:`, a plain user and a host with its port are a URI
pub returns : goal.returns
returns c =
    -- m is the text: `sip:` ends at `start`, and the user with its "@" at `host`, where the host begins
    let m = c.args.masks.now in
    let start = c.in_ok-start.start in
    let host = c.in_ok-host.host in
    IfSome_then c.past_hostport.result c.past_hostport.ensures (λ to hostport.
    stands-as (Exactly (codes "sip:") then PlainUser then HostPort) Uri m c.args.at c.args.end to uri-plain
    (then-stands (Exactly (codes "sip:")) (PlainUser then HostPort) m c.args.at c.args.end start to c.in_ok-start.ensures
    (then-stands PlainUser HostPort m start c.args.end host to c.in_ok-host.ensures hostport)))
