use Rattle.sip_message.proofs.lemmas.lines.HeadEnd.{first-cut, first-none}
use Rattle.sip_message.proofs.stages.cut_first.Goals as goal

-- the first line ends at the first line end
pub returns-in-Some : goal.returns-in-Some
returns-in-Some c first others are = first-cut c.args.head.now c.in-Some.cut.0.now c.in-Some.cut.1.now c.in-Some.ensures first others are

-- a head always has a line
pub returns-in-None : goal.returns-in-None
returns-in-None c first others are = absurd (first-none c.args.head.now c.in-None.ensures first others are)
