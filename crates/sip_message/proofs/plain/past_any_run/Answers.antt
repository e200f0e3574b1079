use Rattle.std.proofs.Common.{arith}
use Rattle.sip_message.proofs.PlainLemmas.{run-ends, run-stands}
use Rattle.sip_message.proofs.plain.past_any_run.Goals as goal

-- the place after the run is not after the end of the line
pub overflow_add-result : goal.overflow_add-result
overflow_add-result c = omega (arith, run-ends c.args.masks.now c.args.at c.args.end c.run_at-len.result c.requires.0 c.requires.1 c.run_at-len.ensures)

-- a run of plain bytes lies there, since it is not empty and ends before the line does
pub returns : goal.returns
returns c =
    run-stands c.args.masks.now c.args.at c.args.end c.run_at-len.result c.requires.0 c.requires.1 c.run_at-len.ensures (omega (arith, c.if-len-eq0.false))
