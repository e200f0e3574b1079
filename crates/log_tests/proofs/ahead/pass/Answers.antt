use Rattle.std.proofs.Common.{[]}
use Rattle.log_tests.proofs.ahead.pass.Goals as goal

-- where an entry is lent, one more may be read, whatever the source has left
pub pass-requires-clause-few : goal.pass-requires-clause-few
pass-requires-clause-few c = (c.in-Some.ensures.comes []).1
