use Rattle.std.proofs.Common.{inl}
use Rattle.sip_standard.specs.Text.{◌then◌}
use Rattle.sip_standard.specs.Profile.{Uri}
use Rattle.sip_text.specs.Bytes.{Byte}
use Rattle.sip_message.specs.inner.Marks.{right_angle}
use Rattle.sip_message.specs.inner.AddressFronts.{Opening}
use Rattle.sip_message.specs.inner.ParamFronts.{GenericParams}
use Rattle.sip_message.proofs.PlainLemmas.{then-stands, whole-stands}
use Rattle.sip_message.proofs.plain.is_plain_address.Goals as goal

-- a display name, `<`, a URI, `>` and parameters up to the end are an address
pub returns : goal.returns
returns c = λ so.
    -- m is the text: the URI begins at `inner`, ">" stands at `close`, and the parameters go from `params` to the end
    let m = c.args.masks.now in
    let end = c.args.end in
    let inner = c.in-Some.inner in
    let close = c.in-Some-past_uri.close in
    let params = c.in-Some-past_byte.params in
    -- the parts are put together from the parameters, at the end, back to the opening, each before those that were put together already
    let behind = whole-stands GenericParams m params end c.in-Some-past_byte.ensures.1 (c.are_plain_params.ensures so) in
    let closed = then-stands (Byte right_angle) GenericParams m close end params end c.in-Some-past_byte.ensures behind in
    let uri = then-stands Uri (Byte right_angle then GenericParams) m inner end close end c.in-Some-past_uri.ensures closed in
    inl (then-stands Opening (Uri then Byte right_angle then GenericParams) m c.args.at end inner end c.in-Some.ensures uri).2
