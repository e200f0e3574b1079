-- Of the marks, `named` are the flags of the sets that may name a message, and `moved` those of the sets that a restart may change.
use Rattle.std.proofs.Common.{true}
use Rattle.sip_states.proofs.lists.Places.{set_here}
use Rattle.sip_states.proofs.marks.Marks.mark.Goals as goal

-- the index was just marked as moved
pub mark_named-requires : goal.mark_named-requires
mark_named-requires c = rw c.mark_moved.ensures.moved (set_here c.args.self.now.moved c.args.index true c.requires.moved)
