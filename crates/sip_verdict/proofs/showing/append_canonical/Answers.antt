use Rattle.std.proofs.Common.{◌++◌, List, ℕ, ap, sym, ◌∙◌, subst}
use Rattle.sip_standard.specs.Canonical.{IsCanonical}
use Rattle.sip_verdict.proofs.showing.append_canonical.Goals as goal

-- what is appended to no bytes is the form itself
pub returns-clause-form : goal.returns-clause-form
returns-clause-form c =
    let form = c.in_ok-write.ensures.ok in
    subst (IsCanonical c.args.bytes.now) (sym (form.1 ∙ ap (λ (t : List ℕ). t ++ form.0) c.requires)) (form.2 c.args.bytes.now c.in-Ok.ensures)
