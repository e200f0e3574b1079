use Rattle.std.proofs.Common.{◌+◌, ap, ◌∙◌}
use Rattle.std.proofs.lemmas.List.{take_rest}
use Rattle.sip_standard.specs.Text.{Many}
use Rattle.sip_text.specs.inner.Quoted.{QuotedItem, item_len}
use Rattle.sip_text.proofs.texts.ManyLemmas.{front-within, run-more}
use Rattle.sip_text.proofs.strings.QuotedLemmas.{item-step}
use Rattle.sip_text.proofs.quoted.contents_len.Goals as goal

-- pieces with one piece more are pieces of a quoted string
pub items-preserved : goal.items-preserved
items-preserved c =
    let more = run-more QuotedItem item_len c.args.text.now c.items.at c.item_len-step.result item-step c.items.invariant.front
    (c.item_len-step.ensures.len ∙ ap item_len (take_rest c.args.text.now c.items.at))
    c.if-step-eq0.false in
    record { within = front-within (Many QuotedItem) c.args.text.now (c.items.at + c.item_len-step.result) more; front = more }
