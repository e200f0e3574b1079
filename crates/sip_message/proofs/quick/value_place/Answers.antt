use Rattle.std.proofs.Common.{◌≡◌, ◌+◌, get_or, sym, subst, arith}
use Rattle.sip_message.specs.inner.FieldText.{ValueText}
use Rattle.sip_message.specs.inner.Plain.{segment}
use Rattle.sip_text.specs.Bytes.{space}
use Rattle.sip_message.proofs.PlainLemmas.{byte-before, segment-space}
use Rattle.sip_message.proofs.lemmas.value.Trimmed.{one-space, no-space}
use Rattle.sip_message.proofs.quick.value_place.Goals as goal

-- a colon, one blank and a text without a blank at its ends are a value
pub returns-then-is_solid_at-clause-value : goal.returns-then-is_solid_at-clause-value
returns-then-is_solid_at-clause-value c =
    -- the value's line ends at `end`
    let text = c.args.text.now in
    let at = c.args.at in
    let end = c.args.end in
    -- the value goes from after the blank, which stands at `at`, to the end
    let value = segment (at + 1) end text in
    let space_is : get_or text at 0 ≡ space = omega (arith, c.if-text-at-eq32.true) in
    let before = byte-before text at end space c.requires.0 c.requires.1 (omega arith) space_is in
    let led = segment-space text at end before (omega (arith, c.requires.1.0)) space_is in
    subst (λ t. ValueText t value) (sym led) (one-space value (c.is_solid_at.ensures c.if-is_solid_at.true))

-- a text without a blank at its ends is a value by itself
pub returns-then-is_solid_at-2-clause-value : goal.returns-then-is_solid_at-2-clause-value
returns-then-is_solid_at-2-clause-value c = no-space (segment c.args.at c.args.end c.args.text.now) (c.is_solid_at-2.ensures c.if-is_solid_at-2.true)
