use Rattle.std.proofs.Common.{inr, refl, rules}
use Rattle.std.specs.Prelude.{IsTrue}
use Rattle.sip_verdict.specs.Forgetting.{remembered}
use Rattle.sip_verdict.proofs.surveys.written.Horizons.{came_long_ago, horizon_kept, horizon_left}
use Rattle.sip_verdict.proofs.remembering.forget_due.Goals as goal

-- where it is time to forget, the survey stands after what is remembered, and the horizon is one of the entries as they are remembered
pub returns-clause-left : goal.returns-clause-left
returns-clause-left g c = λ es stands horizon_is.
    let m = c.args.horizon.now in
    -- it is time to forget: some entry came long enough ago, and there are at least 64 transactions, and at least twice as many as were left last
    let is : IsTrue c.are_due.result = search rules in
    let due = c.are_due.ensures.0 is in
    -- `kept` says which transactions are remembered
    let (kept, forgets, left_stands, many) = c.in_ok-forget.ensures.forgets es stands in (
      remembered kept es,
      inr (m.until, kept, came_long_ago m es horizon_is due.0, forgets, refl),
      left_stands,
      -- the horizon is as before but for `left`, how many transactions are left
      horizon_left m (record { age = m.age; until = m.until; number = m.number; moment = m.moment; left = c.transactions-horizon.result }) (remembered kept es) (horizon_kept kept m es horizon_is) refl refl refl refl,
    )

-- exactly what is over and old enough was forgotten, and the horizon tells how many transactions are left
pub returns-clause-due : goal.returns-clause-due
returns-clause-due g c = λ es stands later many_are twice.
    let (kept, forgets, left_stands, many) = c.in_ok-forget.ensures.forgets es stands in (kept, forgets, left_stands, c.transactions-horizon.ensures.transactions)
