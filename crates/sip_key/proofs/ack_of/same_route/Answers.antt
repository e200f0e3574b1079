use Rattle.std.proofs.Common.{◌∙◌, ap, sym}
use Rattle.std.specs.List.{join_with_byte}
use Rattle.sip_message.specs.inner.Marks.{comma}
use Rattle.sip_standard.specs.Solid.{solid}
use Rattle.sip_key.proofs.SolidLemmas.{same-items}
use Rattle.sip_key.proofs.ack_of.same_route.Goals as goal

-- the two runs of bytes are the values joined by commas without their blanks
pub returns : goal.returns
returns c =
    let one = c.new.ensures ∙ ap (λ vs. solid (join_with_byte comma vs)) c.routes.ensures in
    let other = c.new-2.ensures ∙ ap (λ vs. solid (join_with_byte comma vs)) c.routes-2.ensures in
    let same = same-items c.eq.result c.new.result c.new-2.result c.eq.ensures.ran in
    (λ t. sym one ∙ same.0 t ∙ other, λ e. same.1 (one ∙ e ∙ sym other))
