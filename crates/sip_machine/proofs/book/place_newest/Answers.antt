use Rattle.std.proofs.Common.{arith}
use Rattle.std.proofs.lemmas.List.{length-map}
use Rattle.sip_machine.proofs.texts.NewestLaws.{newest_placed}
use Rattle.sip_machine.proofs.book.place_newest.Goals as goal

-- with the place of the newest message each message has its place
pub returns-clause-ok : goal.returns-clause-ok
returns-clause-ok c = grind (arith, length-map, newest_placed)
