use Rattle.std.proofs.Common.{None, Some, sym, subst}
use Rattle.sip_standard.specs.Profile.{Token}
use Rattle.sip_message.specs.inner.Plain.{segment, LiesWithin, PlainParam}
use Rattle.sip_message.proofs.PlainLemmas.{param-none, param-some, run-token}
use Rattle.sip_message.proofs.plain.past_param.Goals as goal

-- what was passed is a parameter without a value
pub returns-in_default-clause-param : goal.returns-in_default-clause-param
returns-in_default-clause-param c =
    -- m is the text, with the name from `start` to `behind`
    let m = c.args.masks.now in
    let start = c.in_ok-start.start in
    let behind = c.in_ok-behind.behind in
    subst (λ t. LiesWithin (PlainParam (segment start behind t, None)) m c.args.at c.args.end behind) (sym c.text.ensures)
    (param-none m c.args.at c.args.end start behind c.in_ok-start.ensures c.in_ok-behind.ensures)

-- a ";", a name, `=` and a plain value are a parameter
pub returns-clause-param : goal.returns-clause-param
returns-clause-param c =
    -- m is the text, with the name from `start` to `behind` and the value from `first` to `to`
    let m = c.args.masks.now in
    let start = c.in_ok-start.start in
    let behind = c.in_ok-behind.behind in
    let first = c.in-Some.first in
    let to = c.in_ok-to.to in
    let param = param-some m c.args.at c.args.end start behind first to c.in_ok-start.ensures c.in_ok-behind.ensures c.in-Some.ensures c.in_ok-to.ensures in
    -- the code holds the name and the value as parts of the text
    subst (λ t. LiesWithin (PlainParam (segment start behind c.text.result.now, Some (segment first to t))) m c.args.at c.args.end to) (sym c.text-2.ensures)
    (subst (λ t. LiesWithin (PlainParam (segment start behind t, Some (segment first to m))) m c.args.at c.args.end to) (sym c.text.ensures) param)

-- the value is a run of plain bytes, so it is a token
pub returns-clause-value : goal.returns-clause-value
returns-clause-value c =
    -- the value goes from `first` to `to`
    let m = c.args.masks.now in
    subst (λ t. Token (segment c.in-Some.first c.in_ok-to.to t)) (sym c.text-2.ensures) (run-token (segment c.in-Some.first c.in_ok-to.to m) c.in_ok-to.ensures.2)
