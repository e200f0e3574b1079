use Rattle.std.proofs.Common.{false}
use Rattle.sip_states.proofs.lists.Places.{set_here}
use Rattle.sip_states.proofs.marks.Marks.unmark.Goals as goal

-- the mark that the index is named was just taken off
pub unmark_moved-requires : goal.unmark_moved-requires
unmark_moved-requires c = rw c.unmark_named.ensures.named (set_here c.args.self.now.named c.args.index false c.requires)
