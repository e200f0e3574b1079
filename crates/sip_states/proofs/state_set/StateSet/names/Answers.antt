use Rattle.std.proofs.Common.{ap}
use Rattle.sip_states.proofs.state_set.StateSet.names.Goals as goal

-- what was appended is what the states of the set name
pub returns : goal.returns
returns g c = rw (ap (λ h. h.states) c.self.view_is) at c.names_all.ensures.ok
