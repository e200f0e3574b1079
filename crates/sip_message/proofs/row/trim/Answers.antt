use Rattle.std.proofs.Common.{sym, ap, ◌∙◌, subst, option_copied}
use Rattle.sip_text.specs.Bytes.{space}
use Rattle.sip_text.proofs.cuts.CutLemmas.{past-some}
use Rattle.sip_message.specs.inner.FieldText.{ValueText}
use Rattle.sip_message.proofs.lemmas.field.OneWay.{same_value}
use Rattle.sip_message.proofs.lemmas.value.Trimmed.{one-space}
use Rattle.sip_message.proofs.row.trim.Goals as goal

-- where one SP stands before the value, and no other blank at its two ends, the value is what follows the SP
pub returns-in-Some : goal.returns-in-Some
returns-in-Some c =
    let text = c.args.text.now in
    let value = c.in-Some.value.now in
    let whole = past-some space text value (sym c.past.ensures ∙ ap option_copied c.in-Some.is) in
    let is = subst (λ t. ValueText t value) (sym whole) (one-space value (sym c.is_solid.ensures ∙ c.if-is_solid.true)) in
    (is, (λ w other. same_value text w value other is))
