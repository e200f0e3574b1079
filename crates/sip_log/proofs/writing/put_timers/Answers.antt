use Rattle.sip_log.proofs.spelling.PutsLemmas.{timers-put}
use Rattle.sip_log.proofs.writing.put_timers.Goals as goal

-- the three parts that were put are the timers of a header
pub returns : goal.returns
returns g c =
    -- `timers-put`: the three timers with their names, each appended, are those of line 2; each `_` is what was written up to one, or whether a put had failed
    timers-put _ _ _ _ _ _ _ _ c.args.params.now c.put_named-3.result (rw c.t1.ensures.value at c.in_ok-put_named.ensures)
    (rw c.t2.ensures.value at c.in_ok-put_named-2.ensures) (rw c.t4.ensures.value at c.put_named-3.ensures)
