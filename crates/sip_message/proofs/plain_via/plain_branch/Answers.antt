-- `c.params.invariant`: .0, `from` is not after the end; .1, where parameters of a Via follow from there on, they are so from `at` on, and the branch that was
-- found counts before theirs.
use Rattle.std.proofs.Common.{◌≡◌, None, option_copied, sym, ap, ◌∙◌, subst, arith}
use Rattle.std.specs.Option.{option_or}
use Rattle.sip_message.specs.inner.ViaFronts.{BranchText}
use Rattle.sip_message.specs.inner.ParamFronts.{Param}
use Rattle.sip_message.specs.inner.Plain.{segment}
use Rattle.sip_message.proofs.PlainViaLemmas.{branch-behind, branch-none, or-none}
use Rattle.sip_message.proofs.lemmas.params.Branch.{copied-or, or-assoc}
use Rattle.sip_message.proofs.plain_via.plain_branch.Goals as goal

-- after one parameter more, the branch is the first one of the parameters that were read
pub params-preserved : goal.params-preserved
params-preserved c =
    -- p is the parameter that was passed; the branch was `old` before it, and p has the branch `found`, if any
    let m = c.args.masks.now in
    let p : Param = (c.in-Some.name.now, option_copied c.in-Some.value) in
    let old = option_copied c.params.branch in
    let found = option_copied c.in_ok-token_branch.field-0 in
    let new = ap option_copied c.or-branch.ensures ∙ copied-or c.params.branch c.in_ok-token_branch.field-0 in (
      -- the parameter ends where the next one begins, and the others follow
      c.in-Some.ensures.param.1,
      λ later params.
          let all = c.params.invariant.1 (option_or found later) (branch-behind p found later m c.params.from c.args.end c.in-Some.to c.in-Some.ensures.param c.in_ok-token_branch.ensures params) in
          subst (BranchText (segment c.args.at c.args.end m)) (or-assoc old found later ∙ ap (λ b. option_or b later) (sym new)) all,
    )

-- at the end of the loop the branch is that of all parameters
pub returns : goal.returns
returns c =
    -- all of the text up to its end was passed, and no parameters are left
    let m = c.args.masks.now in
    let from = c.params.from in
    let end : c.args.end ≡ from = omega (arith, c.params.invariant.0, c.params-test.false) in
    let none = subst (λ k. BranchText (segment from k m) None) (sym end) (branch-none m from) in
    subst (BranchText (segment c.args.at c.args.end m)) (or-none (option_copied c.params.branch)) (c.params.invariant.1 None none)
