-- The branch is copied: a copied byte is equal to its byte, and so the copy is the branch.
use Rattle.std.proofs.Common.{◌∙◌, None, Some, sym, ap, subst}
use Rattle.std.specs.Option.{option_copied}
use Rattle.sip_standard.specs.Via.{SaidVia}
use Rattle.sip_message.specs.SaidOf.{said_of}
use Rattle.sip_verdict.specs.inner.Histories.{SpellsBranch}
use Rattle.sip_verdict.proofs.surveys.kept.Histories.{led_spells, read_spells, fault_spells}
use Rattle.sip_verdict.proofs.histories.spelled_branch.Goals as goal

-- the branch stands plainly in the bytes
pub returns-in-Some : goal.returns-in-Some
returns-in-Some c =
    subst (SpellsBranch c.args.bytes.now) (sym (c.in_ok-to_vec.ensures.items_if_clones_equal (λ x y same. same)))
    (led_spells c.args.bytes.now c.in-Some.branch.now (sym c.led_branch.ensures ∙ ap option_copied c.in-Some.is))

-- the message that is read has a branch
pub returns-in-Some-branch : goal.returns-in-Some-branch
returns-in-Some-branch c =
    read_spells c.args.bytes.now (said_of c.in-Ok.message) (Some c.in-Some-branch.branch.now) c.in_ok-to_vec-in-Some-branch.field-0.items c.in-Ok.ensures.says
    (sym (ap (λ (v : SaidVia). v.branch) c.top_via.ensures) ∙ ap option_copied c.in-Some-branch.is) (c.in_ok-to_vec-in-Some-branch.ensures.items_if_clones_equal (λ x y same. same))

-- a message without a branch spells none
pub returns-in-Ok : goal.returns-in-Ok
returns-in-Ok c =
    read_spells c.args.bytes.now (said_of c.in-Ok.message) None c.new.result.items c.in-Ok.ensures.says
    (sym (ap (λ (v : SaidVia). v.branch) c.top_via.ensures) ∙ ap option_copied c.in-None.is) tt

-- bytes that are no message spell no branch
pub returns-in-Err-Fault : goal.returns-in-Err-Fault
returns-in-Err-Fault c = fault_spells c.args.bytes.now c.in-Err-Fault.field-0-0 _ (rw c.in-Err-Fault.field-0-is at c.in-Err-Fault.ensures)
