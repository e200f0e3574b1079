use Rattle.std.specs.Prelude.{ℕ, List, Option}
use Rattle.std.specs.Io.Buffered.{writer_inner}
use Rattle.sip_standard.specs.declared.output.Output.{Output}

-- what the writer of an output has, where it is known; the rest of what was put is in the output's buffer
abbrev pub sent : {W : Type 0} → (contents : W → Option (List ℕ)) → Output W → Option (List ℕ)
sent contents output = contents (writer_inner output.writer)
