use Rattle.std.proofs.Common.{◌≡◌, refl, sym, subst}
use Rattle.std.specs.Prelude.{codes}
use Rattle.sip_standard.specs.StartLine.{request, StartSays}
use Rattle.sip_message.specs.inner.Plain.{segment}
use Rattle.sip_message.proofs.PlainStartLemmas.{request-plain}
use Rattle.sip_message.proofs.plain_start.plain_request.Goals as goal

-- a method, a URI and the version up to the end are a request line
pub returns : goal.returns
returns c =
    -- m is the text: the method ends at `method`, and the URI goes from `uri` to `to`, where the version follows
    let m = c.args.masks.now in
    let end = c.args.end in
    let method = c.in_ok-method.method in
    let uri = c.in_ok-uri.uri in
    let to = c.in_ok-to.to in
    let version = subst (λ t. segment to end t ≡ codes " SIP/2.0") c.text-text.ensures (c.if-not-is_version.ensures refl) in
    subst (λ t. StartSays (segment 0 end m) (request (segment 0 method t) (segment uri to t))) (sym c.text-text.ensures)
    (request-plain m end method uri to c.in_ok-method.ensures c.in_ok-uri.ensures c.in_ok-to.ensures version)
