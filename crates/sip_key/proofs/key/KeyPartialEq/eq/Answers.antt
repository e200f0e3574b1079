use Rattle.std.proofs.Common.{◌∙◌, ap}
use Rattle.sip_key.specs.inner.KeyText.{key_text}
use Rattle.sip_key.proofs.HashLemmas.{same_key-by_text}
use Rattle.sip_key.proofs.key.KeyPartialEq.eq.Goals as goal

-- two keys are equal exactly if their texts are
pub returns : goal.returns
returns c =
    c.eq.ensures ∙ same_key-by_text c.args.self.now c.args.other.now c.self.inside.text.items c.other.inside.text.items
    (c.self.invariant ∙ ap key_text c.self.view_is)
    (c.other.invariant ∙ ap key_text c.other.view_is)
