use Rattle.std.proofs.Common.{◌+◌, sym, ◌∙◌}
use Rattle.std.proofs.lemmas.List.{take_rest}
use Rattle.sip_standard.specs.Text.{Many}
use Rattle.sip_text.proofs.texts.ManyLemmas.{front-within}
use Rattle.sip_message.proofs.lemmas.value.Other.{OtherItem, other-run, other-fold, other-end, stops-run}
use Rattle.sip_message.proofs.other.is_other.Goals as goal

-- where neither a plain byte nor a fold follows, the value ends here
pub returns-then-not-begins_with_fold : goal.returns-then-not-begins_with_fold
returns-then-not-begins_with_fold c =
    -- k plain bytes stand at `at`, which the loop reached, and what follows them is no fold
    let text = c.args.text.now in
    let at = c.folds.at in
    let k = c.plain_len-at.result in
    let rest_is = take_rest text at in
    let more_is = take_rest text (at + k) in
    other-end text _ (at + k) (other-run text _ at k c.folds.invariant.front rest_is c.plain_len-at.ensures.run) more_is
    (stops-run text _ _ at k rest_is more_is c.plain_len-at.ensures.run) (sym c.begins_with_fold.ensures ∙ c.if-not-begins_with_fold.true)

-- after one fold more, the bytes up to here are items of a value
pub folds-preserved : goal.folds-preserved
folds-preserved c =
    -- k plain bytes stand at `at`, which the loop reached, and a fold follows them
    let text = c.args.text.now in
    let at = c.folds.at in
    let k = c.plain_len-at.result in
    let front = other-fold text _ (at + k) (other-run text _ at k c.folds.invariant.front (take_rest text at) c.plain_len-at.ensures.run) (take_rest text (at + k))
    (sym c.begins_with_fold.ensures ∙ c.if-not-begins_with_fold.false) in
    record { within = front-within (Many OtherItem) text (at + k + 3) front; front = front }
