use Rattle.std.proofs.Common.{sym, subst}
use Rattle.std.proofs.lemmas.Bool.{both_ways}
use Rattle.std.proofs.lemmas.List.{take_rest}
use Rattle.sip_standard.specs.Profile.{Sws}
use Rattle.sip_message.proofs.lemmas.field.OneWay.{same_value}
use Rattle.sip_message.proofs.lemmas.value.Trimmed.{trimmed, trimmed-value, value-trimmed}
use Rattle.sip_message.proofs.row.trim_blanks.Goals as goal
use Rattle.sip_message.proofs.row.trim_blanks.Goals.{else-is_sws-via-then-is_sws+else-is_sws-2, else-is_sws-via-else-is_sws}

-- where the bytes at both ends are blank runs, what is left between them is the value
pub returns-then-is_sws-2 : goal.returns-then-is_sws-2
returns-then-is_sws-2 c =
    -- `cut` says that the text is cut into blank bytes, what is left, and blank bytes
    let text = c.args.text.now in
    let cut = trimmed text _ c.blank_len-front.result c.solid_len-end.result c.blank_len-front.ensures.run (take_rest text c.blank_len-front.result)
    c.solid_len-end.ensures.within c.solid_len-end.ensures.blank c.solid_len-end.ensures.solid in
    let value = trimmed-value text _ _ _ cut (c.is_sws.ensures.0 c.if-is_sws.true)
    (subst Sws (take_rest _ c.solid_len-end.result) (c.is_sws-then-is_sws.ensures.0 c.if-is_sws-2.true)) in
    (value, (λ w is. same_value text w _ is value))

-- where the bytes at one end are no blank run, the text has no value
pub returns-else-is_sws : goal.returns-else-is_sws
returns-else-is_sws c = λ w is.
    -- `cut` says that the text is cut into blank bytes, what is left, and blank bytes; with a value these would be blank runs
    let text = c.args.text.now in
    let cut = trimmed text _ c.blank_len-front.result c.solid_len-end.result c.blank_len-front.ensures.run (take_rest text c.blank_len-front.result)
    c.solid_len-end.ensures.within c.solid_len-end.ensures.blank c.solid_len-end.ensures.solid in
    let blanks = value-trimmed text _ _ _ w cut is in
    -- what stands at the end, or at the front, is no blank run
    elim c.else-is_sws.branch [
      | else-is_sws-via-then-is_sws+else-is_sws-2 w ↦
          both_ways w.is_sws-then-is_sws.result w.if-is_sws-2.false (w.is_sws-then-is_sws.ensures.1 (subst Sws (sym (take_rest _ c.solid_len-end.result)) blanks.1))
      | else-is_sws-via-else-is_sws w ↦ both_ways c.is_sws.result w.if-is_sws.false (c.is_sws.ensures.1 blanks.0)
    ]
