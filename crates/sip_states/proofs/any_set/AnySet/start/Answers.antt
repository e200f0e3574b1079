use Rattle.std.proofs.Common.{rules}
use Rattle.sip_states.proofs.keyed.AnyLemmas.{has_started}
use Rattle.sip_states.proofs.any_set.AnySet.start.Goals as goal

-- the role, the method and the rules tell the machine, whose first state is the set
pub returns : goal.returns
returns c = has_started c.args.params c.args.key.now c.match-role.set (search rules) (search rules)
