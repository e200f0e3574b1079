use Rattle.std.proofs.Common.{sym, ap, ◌∙◌, inl, arith}
use Rattle.sip_message.specs.inner.Plain.{segment}
use Rattle.sip_message.proofs.PlainLemmas.{front-stands}
use Rattle.sip_message.specs.inner.AddressFronts.{DisplayName}
use Rattle.sip_message.proofs.plain.past_name.Goals as goal

-- where a quoted string stands there, it is a display name
pub returns-in-Some-cut_quoted : goal.returns-in-Some-cut_quoted
returns-in-Some-cut_quoted c =
    -- m is the text, in which the quoted string stands at the place `at`
    let m = c.args.masks.now in
    let quoted = c.in-Some-cut_quoted.ensures.0 in
    front-stands DisplayName m c.in-Some-cut_quoted.name.now c.in-Some-cut_quoted.field-0-1.now c.args.at c.args.end c.requires.0 (omega (arith, c.requires.1.0)) (inl quoted.0)
    (sym (ap (segment c.args.at c.args.end) c.text.ensures) ∙ quoted.1)
