use Rattle.std.proofs.Common.{arith}
use Rattle.sip_standard.proofs.Few.{distinct_few}
use Rattle.sip_standard.proofs.laws.few_states_are_not_too_wide.Goals as goal

-- more different states than 1,024 cannot all be among at most 1,024: `many` are the states of a too wide transaction, which all differ (`apart`) and
-- in each of which a run can stand, and so each is one of `states`
pub returns : goal.returns
returns c p front e key states all few (concerned, (many, apart, more, stand)) =
    let fewer = distinct_few many states apart (λ k d low. all _ (stand k d low)) in omega (arith, few, more, fewer)
