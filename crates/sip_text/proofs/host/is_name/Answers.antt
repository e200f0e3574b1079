-- `labels-..`: whether the parts between dots are labels, by the first part: it has a byte that no label has (`other`), is no label (`fail`), is one
-- before others (`more`), or is the last one, of bytes of labels (`last_run`).
use Rattle.std.proofs.Common.{option_copied, sym, ap, ◌∙◌}
use Rattle.std.proofs.lemmas.Bool.{and_from, and_left}
use Rattle.sip_text.specs.Bytes.{dot}
use Rattle.sip_text.specs.inner.HostTests.{has_label_ends, has_top_ends}
use Rattle.sip_text.proofs.cuts.CutLemmas.{behind-shorter}
use Rattle.sip_text.proofs.hosts.LabelLemmas.{labels-fail, labels-last_run, labels-more, labels-other}
use Rattle.sip_text.proofs.host.is_name.Goals as goal

-- where a byte that a label may not have stands before the next dot, the text is no hostname
pub returns-in_default : goal.returns-in_default
returns-in_default c = sym (labels-other c.labels.rest.now (sym c.in_default.ensures.run)) ∙ c.labels.invariant

-- a label and its dot have bytes, so less is left
pub labels-smaller : goal.labels-smaller
labels-smaller c =
    let label = c.in-Some.ensures in
    behind-shorter dot c.labels.rest.now c.in-Some-more.labels.now (sym label.rest ∙ ap option_copied c.in-Some-more.is)

-- after one label more, the text is a hostname exactly if what is left is
pub labels-preserved : goal.labels-preserved
labels-preserved c =
    let label = c.in-Some.ensures in
    labels-more c.labels.rest.now c.in-Some-more.labels.now
    (and_from _ _ (ap has_label_ends (sym label.front) ∙ sym c.has_label_ends.ensures ∙ c.if-has_label_ends.true) (sym label.run))
    (sym label.rest ∙ ap option_copied c.in-Some-more.is)
    ∙ c.labels.invariant

-- where a label does not begin and end rightly, the text is no hostname
pub returns-in-Some-2 : goal.returns-in-Some-2
returns-in-Some-2 c =
    let label = c.in-Some.ensures in
    sym (labels-fail c.labels.rest.now c.in-Some-more.labels.now
    (and_left _ _ (ap has_label_ends (sym label.front) ∙ sym c.has_label_ends.ensures ∙ c.if-has_label_ends.false))
    (sym label.rest ∙ ap option_copied c.in-Some-more.is))
    ∙ c.labels.invariant

-- where no dot is left, the text is a hostname exactly if what is left is a last label
pub returns-in-None : goal.returns-in-None
returns-in-None c =
    let label = c.in-Some.ensures in
    c.has_top_ends.ensures ∙ ap has_top_ends label.front
    ∙ sym (labels-last_run c.labels.rest.now (sym label.run) (sym label.rest ∙ ap option_copied c.in-None.is))
    ∙ c.labels.invariant
