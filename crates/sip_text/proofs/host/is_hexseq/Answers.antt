-- `parts-fail`, `parts-more`, `parts-last`: the parts between colons, where the first one fails its test, passes before others, or passes as the last.
use Rattle.std.proofs.Common.{option_copied, sym, ap, ◌∙◌}
use Rattle.std.proofs.lemmas.Bool.{and_from, and_left, and_right}
use Rattle.sip_text.specs.Bytes.{colon}
use Rattle.sip_text.specs.inner.HostTests.{has_len, is_hex4}
use Rattle.sip_text.proofs.cuts.CutLemmas.{behind-shorter, parts-fail, parts-last, parts-more}
use Rattle.sip_text.proofs.host.is_hexseq.Goals as goal

-- where a byte other than a hex digit stands before the next colon, the text is no hexseq
pub returns-in_default : goal.returns-in_default
returns-in_default c =
    sym (parts-fail is_hex4 colon c.groups.rest.now (and_right _ _ (sym c.in_default.ensures.run))) ∙ c.groups.invariant

-- where a group has no byte or more than four, the text is no hexseq
pub returns-then-not-has_len : goal.returns-then-not-has_len
returns-then-not-has_len c =
    let group = c.in-Some.ensures in
    sym (parts-fail is_hex4 colon c.groups.rest.now
    (and_left _ _ (ap (has_len 4) (sym group.front) ∙ sym c.has_len.ensures ∙ c.if-not-has_len.true)))
    ∙ c.groups.invariant

-- what is left is shorter
pub groups-smaller : goal.groups-smaller
groups-smaller c =
    let group = c.in-Some.ensures in
    behind-shorter colon c.groups.rest.now c.in-Some-more.groups.now (sym group.rest ∙ ap option_copied c.in-Some-more.is)

-- after one group more, the text is a hexseq exactly if what is left is
pub groups-preserved : goal.groups-preserved
groups-preserved c =
    let group = c.in-Some.ensures in
    parts-more is_hex4 colon c.groups.rest.now c.in-Some-more.groups.now
    (and_from _ _ (ap (has_len 4) (sym group.front) ∙ sym c.has_len.ensures ∙ c.if-not-has_len.false) (sym group.run))
    (sym group.rest ∙ ap option_copied c.in-Some-more.is)
    ∙ c.groups.invariant

-- the last group is one of hex digits, and so the text is a hexseq
pub returns-in-None : goal.returns-in-None
returns-in-None c =
    let group = c.in-Some.ensures in
    sym (parts-last is_hex4 colon c.groups.rest.now
    (and_from _ _ (ap (has_len 4) (sym group.front) ∙ sym c.has_len.ensures ∙ c.if-not-has_len.false) (sym group.run))
    (sym group.rest ∙ ap option_copied c.in-None.is))
    ∙ c.groups.invariant
