-- In the proofs `at` says that the line has the tolerances `early` and `late` as this format spells them.
use Rattle.std.proofs.Common.{[], subst}
use Rattle.std.specs.Prelude.{codes}
use Rattle.sip_log.specs.inner.Header.{NumberAfter, Tolerances}
use Rattle.sip_log.proofs.headers.HeaderLemmas.{NumberAfter-one}
use Rattle.sip_log.proofs.header.read_tolerances.Goals as goal

-- where no number follows ` tolerance ` in format 1, the line tells no tolerance
pub returns-in_err-tolerance-in-One : goal.returns-in_err-tolerance-in-One
returns-in_err-tolerance-in-One c =
    let text = c.args.text.now in
    rw c.from_residual.ensures
    (λ early late is.
    let at = subst (λ f. Tolerances f text early late) c.in-One.is is in
    c.in_err-tolerance-in-One.ensures late at.0)

-- where no number follows ` early `, the line tells no two tolerances
pub returns-in_err-early-in-Two : goal.returns-in_err-early-in-Two
returns-in_err-early-in-Two c =
    let text = c.args.text.now in
    rw c.from_residual-in_err-early-in-Two.ensures
    (λ early late is.
    let at = subst (λ f. Tolerances f text early late) c.in-Two.is is in
    c.in_err-early-in-Two.ensures early at.0 at.1)

-- where no number follows ` late `, the line tells no two tolerances
pub returns-in_err-late-in-Two : goal.returns-in_err-late-in-Two
returns-in_err-late-in-Two c =
    let text = c.args.text.now in
    -- `first` is how early the element may be, by the first number, and what follows that number is the rest
    let first = c.in_ok-early-in-Two.ensures in
    rw c.from_residual-in_err-late-in-Two.ensures
    (λ early late is.
    let at = subst (λ f. Tolerances f text early late) c.in-Two.is is in
    let rest = (NumberAfter-one (codes " early ") text early first.0 at.0 _ at.1 first.1).1 in
    c.in_err-late-in-Two.ensures late (subst (λ t. NumberAfter (codes " late ") t late []) rest at.2))
