use Rattle.sip_log.proofs.spelling.PutsLemmas.{one-put}
use Rattle.sip_log.proofs.writing.put_header.Goals as goal

-- the parts that were put one after another are a header of format 1
pub returns : goal.returns
returns g c =
    -- `one-put`: the pieces of a header of format 1, each appended, are that header; each `_` is what was written up to one, or whether a put had failed
    one-put _ _ _ _ _ _ _ _ _ _ _ _ c.args.params.now c.put_rules.result (c.in_ok-put.ensures.appends, c.in_ok-put.ensures.ok) c.in_ok-put_timers.ensures
    (rw c.late.ensures.value at c.in_ok-put_named.ensures) (c.in_ok-put-2.ensures.appends, c.in_ok-put-2.ensures.ok)
    (rw c.rules.ensures at c.put_rules.ensures)
