use Rattle.std.proofs.Common.{sym, ap, ◌∙◌}
use Rattle.std.specs.Option.{option_copied}
use Rattle.std.proofs.lemmas.List.{take_rest}
use Rattle.sip_part.specs.Led.{branch_in}
use Rattle.sip_part.proofs.Stops.{stop_first, stop_nowhere}
use Rattle.sip_part.proofs.led.branch_from_stop.Goals as goal

-- where no stop stands in the text, no branch is found in it
pub returns-in_err-at : goal.returns-in_err-at
returns-in_err-at c = ap option_copied c.from_residual.ensures ∙ sym (ap branch_in (stop_nowhere c.args.text.now c.in_err-at.ensures))

-- the branch is that of the text from its first stop on
pub returns : goal.returns
returns c =
    let text = c.args.text.now in
    let first = c.in_ok-at.ensures in
    -- the text from the place on is the text from its first stop on
    c.branch_in.ensures ∙ ap branch_in (take_rest text c.in_ok-at.at ∙ sym (stop_first c.in_ok-at.at text first.0.high first.0.before first.1))
