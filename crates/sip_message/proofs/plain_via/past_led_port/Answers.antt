use Rattle.std.proofs.Common.{Some, sym, subst}
use Rattle.sip_standard.specs.Via.{PortSays}
use Rattle.sip_message.specs.inner.Plain.{segment, LiesWithin}
use Rattle.sip_message.proofs.PlainViaLemmas.{port-led}
use Rattle.sip_message.proofs.plain_via.past_led_port.Goals as goal

-- a colon and a port after it are an optional port with its colon
pub returns : goal.returns
returns c =
    -- m is the text: a colon stands before `port`, and the port goes from there to `to`
    let m = c.args.masks.now in
    let port = c.in-Some.port in
    let to = c.in_ok-to.to in
    subst (λ t. LiesWithin (PortSays (Some (segment port to t))) m c.args.at c.args.end to) (sym c.text.ensures)
    (port-led m c.args.at c.args.end port to c.in-Some.ensures c.in_ok-to.ensures)
