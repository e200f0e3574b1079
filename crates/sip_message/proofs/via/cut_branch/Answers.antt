use Rattle.std.proofs.Common.{sym, ap, ◌∙◌, subst, option_copied}
use Rattle.sip_message.specs.inner.ParamFronts.{Param, led_parts}
use Rattle.sip_message.specs.inner.ViaFronts.{BranchFront}
use Rattle.sip_message.proofs.lemmas.params.Reading.{param-shorter}
use Rattle.sip_message.proofs.lemmas.params.Branch.{Decides, copied-or, decides-more, decides-not, decides-all}
use Rattle.sip_message.specs.inner.Only.{IsOnlyValue}
use Rattle.sip_message.proofs.via.cut_branch.Goals as goal

-- with one parameter more the first branch is still the one that was found
pub params-preserved : goal.params-preserved
params-preserved c =
    -- p is the parameter that was read
    let p : Param = (c.in-Some.name.now, option_copied c.in-Some.value) in
    subst (Decides c.args.text.now c.in-Some.more.now) (sym (ap option_copied c.or-branch.ensures ∙ copied-or c.params.branch c.in_ok-branch_of.field-0))
    (decides-more c.args.text.now c.params.rest.now c.in-Some.more.now p (option_copied c.params.branch) (option_copied c.in_ok-branch_of.field-0)
    c.in-Some.ensures c.in_ok-branch_of.ensures c.params.invariant)

-- where a parameter named `branch` has no token as its value, the text has no branch
pub returns-in_err-branch_of : goal.returns-in_err-branch_of
returns-in_err-branch_of c =
    subst (IsOnlyValue BranchFront led_parts c.args.text.now) (sym c.from_residual.ensures)
    (decides-not c.args.text.now c.params.rest.now c.in-Some.more.now (c.in-Some.name.now, option_copied c.in-Some.value) (option_copied c.params.branch)
    c.in-Some.ensures c.in_err-branch_of.ensures c.params.invariant)

-- a parameter has bytes, so less is left
pub params-smaller : goal.params-smaller
params-smaller c =
    param-shorter c.params.rest.now (c.in-Some.name.now, option_copied c.in-Some.value) c.in-Some.more.now c.in-Some.ensures.0

-- no parameter is left, so the branch that was found is the first
pub returns : goal.returns
returns c = decides-all c.args.text.now c.params.rest.now (option_copied c.params.branch) c.in_default.ensures c.params.invariant
