use Rattle.std.proofs.Common.{sym, ◌∙◌, subst}
use Rattle.sip_standard.specs.Canonical.{unfolded}
use Rattle.sip_message.specs.inner.Canon.{Appends}
use Rattle.sip_message.proofs.lemmas.canon.Spelling.{unfolded-same}
use Rattle.sip_message.proofs.lemmas.lines.HeadEnd.{inner-none}
use Rattle.sip_message.proofs.lemmas.canon.Unfolding.{unfold-blank, unfold-solid, unfold-part, part-more}
use Rattle.sip_message.proofs.canon.append_unfolded.Goals as goal

-- a text without line ends is the same unfolded
pub returns-in_default : goal.returns-in_default
returns-in_default c = subst (λ t. Appends c.args.out.now.items c.append.new.out.items t c.append.result) (sym (unfolded-same c.args.text.now (inner-none c.args.text.now c.in_default.ensures))) c.append.ensures

-- where a blank is read, the run goes on, and nothing is appended yet
pub bytes-preserved-then-is_blank : goal.bytes-preserved-then-is_blank
bytes-preserved-then-is_blank c =
    unfold-blank c.args.out.now.items c.args.text.now c.bytes.out.items c.bytes.from c.bytes.at c.bytes-test.true (sym c.is_blank.ensures ∙ c.if-is_blank.true) c.bytes.invariant

-- where memory is refused, a part of the text was appended
pub returns-in_err-append : goal.returns-in_err-append
returns-in_err-append c =
    -- the run of blanks was appended, and then a part of the byte's text
    unfold-part c.args.out.now.items c.args.text.now c.bytes.out.items c.append-in-bytes.new.out.items (unfolded c.args.text.now) c.bytes.from c.bytes.at c.from_residual-in_err-append.result c.from_residual-in_err-append.ensures.0 c.bytes.invariant
    (part-more c.bytes.out.items c.append_run.new.out.items c.append-in-bytes.new.out.items _ c.in_ok-append_run.ensures c.in_err-append.ensures)

-- where another byte is read, the run of blanks before it is appended, and then the byte
pub bytes-preserved : goal.bytes-preserved
bytes-preserved c =
    -- the byte at the place of the loop is no blank, and both calls appended what they had to
    unfold-solid c.args.out.now.items c.args.text.now c.bytes.out.items c.append_run.new.out.items c.append-in-bytes.new.out.items c.bytes.from c.bytes.at c.bytes-test.true (sym c.is_blank.ensures ∙ c.if-is_blank.false) c.bytes.invariant
    c.in_ok-append_run.ensures c.in_ok-append.ensures
