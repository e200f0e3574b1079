-- `c.loop-at.invariant`: .0, the place lies within the text; .1, each byte before it is a byte of a value or a blank.
use Rattle.std.proofs.Common.{sym, ◌∙◌, arith}
use Rattle.std.proofs.lemmas.List.Sums.{prefix_len_is}
use Rattle.sip_message.specs.inner.Values.{is_plain_byte}
use Rattle.sip_message.proofs.other.plain_len.Goals as goal

-- the run ends before a byte that is not plain
pub returns-else-is_plain-clause-run : goal.returns-else-is_plain-clause-run
returns-else-is_plain-clause-run c =
    -- `prefix_len_is`: the run is as long as the loop came, since each byte before passes, and the one there does not
    sym (prefix_len_is is_plain_byte c.args.text.now c.loop-at.at 0 (omega arith) (λ k h. c.loop-at.invariant.1 k (omega arith) h)
    (λ _. sym c.is_plain.ensures ∙ c.if-is_plain.false))

-- all bytes are plain
pub returns-after-loop-at-clause-run : goal.returns-after-loop-at-clause-run
returns-after-loop-at-clause-run c =
    -- `prefix_len_is`: the run is as long as the loop came, which is to the end of the text
    sym (prefix_len_is is_plain_byte c.args.text.now c.loop-at.at 0 (omega arith) (λ k h. c.loop-at.invariant.1 k (omega arith) h)
    (λ h. absurd (omega arith)))
