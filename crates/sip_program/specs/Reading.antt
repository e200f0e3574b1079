-- What the program has still to read of a log.
use Rattle.std.specs.Prelude.{ℕ, List, Option}
use Rattle.sip_log.specs.declared.source.FromRead.{FromRead}
use Rattle.sip_program.specs.declared.host.Log.{Log}
use Rattle.sip_program.specs.declared.host.Log.TheVariants as reading

-- what is left to read of the log: what its reader tells, be it the standard input or a file
abbrev pub left_of : {I F : Type 0} → (of_input : FromRead I → Option (List ℕ)) (of_file : FromRead F → Option (List ℕ)) → Log I F → Option (List ℕ)
left_of of_input of_file (reading.Input input) = of_input input
left_of of_input of_file (reading.File file) = of_file file
