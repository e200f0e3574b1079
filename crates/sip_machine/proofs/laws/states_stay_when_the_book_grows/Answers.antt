use Rattle.std.specs.Prelude.{Contains}
use Rattle.sip_machine.proofs.rules.RuleLaws.{StandFor-grow}
use Rattle.sip_machine.proofs.laws.states_stay_when_the_book_grows.Goals as goal

-- a book that grows keeps the bytes of the numbers that it has
pub returns : goal.returns
returns g c =
    λ texts number bytes seen xs. StandFor-grow g.M.Machine.names g.M.Machine.in_range g.M.Machine.seen g.met.M.Machine.by_names texts number bytes (Contains seen) xs
