use Rattle.sip_log.proofs.spelling.PutsLemmas.{two-put}
use Rattle.sip_log.proofs.writing.write_header_2.Goals as goal

-- the parts that were put one after another are a header of format 2
pub returns : goal.returns
returns g c =
    -- `two-put`: the pieces of a header of format 2, each appended, are that header; each `_` is what was written up to one, or whether a put had failed
    two-put _ _ _ _ _ _ _ _ _ _ _ _ _ _ c.args.params.now (c.in_ok-put.ensures.appends, c.in_ok-put.ensures.ok) c.in_ok-put_timers.ensures
    (rw c.early.ensures.value at c.in_ok-put_named.ensures) (rw c.late.ensures.value at c.in_ok-put_named-2.ensures)
    (c.in_ok-put-2.ensures.appends, c.in_ok-put-2.ensures.ok) (rw c.rules.ensures at c.in_ok-put_rules.ensures)
