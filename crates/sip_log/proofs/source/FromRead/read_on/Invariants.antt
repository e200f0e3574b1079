use Rattle.std.specs.Io.KnownBytes.{Keeps}
use Rattle.std.proofs.Common.{◌≡◌}
use Rattle.sip_log.proofs.source.FromRead.read_on.Given as goal

-- an attempt that was interrupted took nothing from the reader, and changed neither whether it failed nor whether it ended
abbrev pub invariant-loop : goal.invariant-loop
invariant-loop g l = Keeps (g.R.Read.remaining l.fn.self.reader) (g.R.Read.remaining l.self.reader) × (l.self.failure ≡ l.fn.self.failure) × (l.self.ended ≡ l.fn.self.ended)
