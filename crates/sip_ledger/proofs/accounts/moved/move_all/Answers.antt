use Rattle.sip_ledger.proofs.Lemmas.{Account, arith, length, moved-more, ◌<◌}
use Rattle.sip_ledger.proofs.accounts.moved.move_all.Goals as goal

-- one account more is moved
pub loop-at-preserved : goal.loop-at-preserved
loop-at-preserved c =
    -- `none` stands for no account
    let none : Account = record { start = 0; end = 0; soft = 0; first = 0; last = 0; print = 0 } in
    let inside : c.loop-at.at < length c.args.rows.now = omega arith in
    rw c.in_ok-push.ensures.items
    (moved-more c.args.gains.now c.args.strikes.now c.loop-at.kept.items c.move_one.new.kept.items c.args.rows.now c.loop-at.moved.items c.loop-at.at none c.in_ok-account.account inside
    c.loop-at.invariant c.in_ok-account.ensures c.requires.each)
