-- Of the marks, `named` are the flags of the sets that may name a message, and `moved` those of the sets that a restart may change.
use Rattle.std.proofs.Common.{◌≡◌, true, length, All}
use Rattle.sip_states.proofs.marks.Marks.all.Given as goal

-- `index` indices have both marks, and there are no other marks yet
abbrev pub invariant-loop-index : goal.invariant-loop-index
invariant-loop-index l =
    record {
      long : length l.marks.named ≡ l.index;
      as_long : length l.marks.moved ≡ l.index;
      named : All (λ is_marked. is_marked ≡ true) l.marks.named;
      moved : All (λ is_marked. is_marked ≡ true) l.marks.moved;
    }
