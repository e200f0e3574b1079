use Rattle.std.proofs.Common.{length, sym, ◌∙◌, arith}
use Rattle.std.proofs.lemmas.List.Sums.{prefix_len_is}
use Rattle.sip_standard.specs.Field.{is_lws_byte}
use Rattle.sip_message.proofs.row.blank_len.Goals as goal

-- the run ends before a byte that is no blank
pub returns-then-not-is_blank-clause-run : goal.returns-then-not-is_blank-clause-run
returns-then-not-is_blank-clause-run c =
    -- `prefix_len_is`: the run is as long as the loop came, since each byte before passes, and the one there does not
    sym (prefix_len_is is_lws_byte c.args.text.now c.loop-at.at 0 (omega arith) c.loop-at.invariant
    (λ _. sym c.is_blank.ensures ∙ c.if-not-is_blank.true))

-- all bytes are blanks
pub returns-clause-run : goal.returns-clause-run
returns-clause-run c =
    -- `prefix_len_is`: the run is as long as the text, since each byte passes
    sym (prefix_len_is is_lws_byte c.args.text.now (length c.args.text.now) 0 (omega arith)
    (λ k h. c.loop-at.invariant k (omega arith)) (λ h. absurd (omega arith)))
