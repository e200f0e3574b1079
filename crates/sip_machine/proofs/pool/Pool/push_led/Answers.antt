use Rattle.sip_machine.proofs.Words.{led_by}
use Rattle.sip_machine.proofs.pools.PoolLemmas.{copy-changed}
use Rattle.sip_machine.proofs.pool.Pool.push_led.Goals as goal

-- the state is pushed once more, and is led by its row there
pub returns : goal.returns
returns g c =
    let led = copy-changed c.args.self.now c.push_copy.new.self c.lead.new.self c.args.at c.len-last.result (led_by c.args.params.now c.args.moment c.in-Some.turn) c.requires.at
    c.in_ok-push_copy.ensures.ok c.len-last.ensures c.in_ok-lead.ensures.ok in
    record { ok = λ d. rw c.in-Some.is (led.0 d); before = led.1 }
