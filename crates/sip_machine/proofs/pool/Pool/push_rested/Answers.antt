use Rattle.sip_machine.proofs.Words.{rests_at}
use Rattle.sip_machine.proofs.pools.PoolLemmas.{copy-changed}
use Rattle.sip_machine.proofs.pool.Pool.push_rested.Goals as goal

-- the state is pushed once more, and comes to rest there
pub returns : goal.returns
returns g c =
    let rested = copy-changed c.args.self.now c.push_copy.new.self c.come_to_rest.new.self c.args.at c.len-last.result (rests_at c.args.moment c.in-Some.rest) c.requires
    c.in_ok-push_copy.ensures.ok c.len-last.ensures c.in_ok-come_to_rest.ensures.ok in
    record { ok = λ d. rw c.in-Some.is (rested.0 d); before = rested.1 }
