use Rattle.std.proofs.Common.{◌∙◌, map, take}
use Rattle.sip_verdict.specs.declared.finding.Finding.TheVariants.{Breach}
use Rattle.sip_verdict.proofs.troubled.push_breaches.Goals as goal

-- where memory is refused, findings of the first numbers were appended
pub returns-in_err-push-clause-front : goal.returns-in_err-push-clause-front
returns-in_err-push-clause-front c = (map (λ transaction. Breach c.args.entry transaction) (take c.loop-number.number-index c.args.numbers.now), c.in_err-push.ensures.items ∙ c.loop-number.invariant)
