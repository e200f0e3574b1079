-- Of the marks, `named` are the flags of the sets that may name a message, and `moved` those of the sets that a restart may change.
use Rattle.std.proofs.Common.{◌≡◌, length}
use Rattle.indexmap.specs.IndexMap.{values}
use Rattle.sip_states.specs.inner.Marks.{AreMarked, AreMoved}
use Rattle.sip_states.proofs.tables.unmark_quiet.Given as goal

-- the marks are still right for the sets, which are as they were
abbrev pub invariant-loop-place : goal.invariant-loop-place
invariant-loop-place g l =
    record {
      long : length l.marks.moved ≡ length l.initial.marks.moved;
      as_long : length l.marks.named ≡ length l.initial.marks.named;
      marked : AreMarked l.marks.named (values l.initial.sets);
      moves : AreMoved l.marks.moved l.marks.named (values l.initial.sets);
      same : l.sets ≡ l.initial.sets;
    }
