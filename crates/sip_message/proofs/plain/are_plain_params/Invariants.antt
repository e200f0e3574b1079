use Rattle.std.proofs.Common.{◌-◌, ◌≤◌}
use Rattle.sip_message.specs.inner.ParamFronts.{GenericParams}
use Rattle.sip_message.specs.inner.Plain.{segment}
use Rattle.sip_message.proofs.plain.are_plain_params.Given as goal

-- where the bytes from `from` on are parameters, those from `at` on are
abbrev pub invariant-params : goal.invariant-params
invariant-params l = (l.from ≤ l.end) × (GenericParams (segment l.from l.end l.masks) → GenericParams (segment l.at l.end l.masks))

-- each turn of the loop comes nearer to `end`
abbrev pub decreases-params : goal.decreases-params
decreases-params l = l.end - l.from
