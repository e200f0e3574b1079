-- Of the marks, `named` are the flags of the sets that may name a message, and `moved` those of the sets that a restart may change.
use Rattle.std.proofs.Common.{◌≡◌, ℕ, length}
use Rattle.indexmap.specs.IndexMap.{values}
use Rattle.sip_states.specs.inner.Marks.{AreMarked, IsMarked}
use Rattle.sip_states.proofs.tables.unmark_silent.Given as goal

-- the marks for sets that may name a message are still right, no mark is new, and the sets are as they were
abbrev pub invariant-loop-place : goal.invariant-loop-place
invariant-loop-place g l =
    record {
      long : length l.marks.named ≡ length l.initial.marks.named;
      marked : AreMarked l.marks.named (values l.initial.sets);
      fewer : (index : ℕ) → IsMarked l.marks.named index → IsMarked l.initial.marks.named index;
      moved : l.marks.moved ≡ l.initial.marks.moved;
      same : l.sets ≡ l.initial.sets;
    }
