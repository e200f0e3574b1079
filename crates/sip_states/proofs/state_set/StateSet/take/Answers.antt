use Rattle.std.proofs.lemmas.Bool.{OnFalse_at}
use Rattle.sip_states.proofs.state_set.StateSet.take.Goals as goal

-- nothing was taken yet, so the book has what the states name
pub take_each-requires-clause-known : goal.take_each-requires-clause-known
take_each-requires-clause-known g c = rw (OnFalse_at c.if-not-branch.true c.in_ok-take_alone.ensures.other) c.requires.known
