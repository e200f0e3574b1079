use Rattle.std.proofs.Common.{◌≡◌, length}
use Rattle.sip_verdict.specs.inner.Forgetting.{TellsPast}
use Rattle.sip_verdict.proofs.forgetting.kept_flags.Given as goal

-- each flag so far says whether its transaction is kept
abbrev pub invariant-loop-index : goal.invariant-loop-index
invariant-loop-index g l =
    record {
      -- there is a flag for each transaction so far, and each is right
      long : length l.flags.items ≡ l.index;
      each : TellsPast l.until l.tables l.histories l.flags.items;
    }
