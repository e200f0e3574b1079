use Rattle.sip_verdict.proofs.judging.judge.Goals as goal

-- the walk to the end gives the verdict
pub returns-clause-verdict : goal.returns-clause-verdict
returns-clause-verdict g c = rw c.in-Err.is at c.in_ok-verdict.ensures.answer

-- no entry is the aim, so that none can be listed
pub unreachable-requires : goal.unreachable-requires
unreachable-requires g c = rw c.in-Ok.is at c.in_ok-verdict.ensures.answer
