use Rattle.std.proofs.Common.{◌≡◌, ◌++◌, Bool, false, List, All, length}
use Rattle.sip_verdict.proofs.troubled.Troubled.grow.Given as goal

-- there are `counter` flags: the old ones, and new ones that are all false
abbrev pub invariant-loop : goal.invariant-loop
invariant-loop l =
    record {
      long : length l.self.deaf.items ≡ l.counter;
      deaf : (more : List Bool) × (l.self.deaf.items ≡ l.initial.self.deaf.items ++ more) × All (λ is_deaf. is_deaf ≡ false) more;
      broken : l.self.broken.items ≡ l.initial.self.broken.items;
      wide : l.self.wide.items ≡ l.initial.self.wide.items;
    }
