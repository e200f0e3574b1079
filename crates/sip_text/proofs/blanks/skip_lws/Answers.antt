use Rattle.std.proofs.Common.{◌+◌, sym, ap, ◌∙◌}
use Rattle.std.proofs.lemmas.List.{take_rest}
use Rattle.sip_standard.specs.Text.{Many}
use Rattle.sip_text.specs.inner.Blanks.{Blank, blank_len}
use Rattle.sip_text.proofs.texts.ManyLemmas.{front-within, run-more}
use Rattle.sip_text.proofs.strings.BlanksLemmas.{blank-step, longest-blanks}
use Rattle.sip_text.proofs.blanks.skip_lws.Goals as goal

-- where no LWS stands at the place, the blank run ends there, and is the longest
pub returns-then-step-eq0-clause-reads : goal.returns-then-step-eq0-clause-reads
returns-then-step-eq0-clause-reads c =
    longest-blanks c.args.text.now c.blanks.at c.blanks.invariant.front
    (ap blank_len (sym (take_rest c.args.text.now c.blanks.at)) ∙ sym c.blank_len-step.ensures.len ∙ c.if-step-eq0.true)

-- blanks with one LWS more are blanks
pub blanks-preserved : goal.blanks-preserved
blanks-preserved c =
    let more = run-more Blank blank_len c.args.text.now c.blanks.at c.blank_len-step.result blank-step c.blanks.invariant.front
    (c.blank_len-step.ensures.len ∙ ap blank_len (take_rest c.args.text.now c.blanks.at))
    c.if-step-eq0.false in
    record { within = front-within (Many Blank) c.args.text.now (c.blanks.at + c.blank_len-step.result) more; front = more }
