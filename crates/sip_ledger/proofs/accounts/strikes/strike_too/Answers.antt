use Rattle.sip_ledger.proofs.Lemmas.{arith, get_or_default, longer_too, more_too, ◌≡◌}
use Rattle.sip_ledger.proofs.accounts.strikes.strike_too.Goals as goal

-- a strike that reaches up to the place was made longer, so that it strikes the place too
pub returns-then-reaches-clause-ok : goal.returns-then-reaches-clause-ok
returns-then-reaches-clause-ok c =
    let is : c.index_mut.result.now ≡ c.index.result.now = grind (arith, get_or_default) in
    grind (arith, is, longer_too c.args.gains.now c.args.place c.args.first c.loop-at.at c.args.strikes.now.items c.index.result.now)

-- a new strike strikes the place alone
pub returns-clause-ok : goal.returns-clause-ok
returns-clause-ok c =
    more_too c.args.gains.now c.args.place c.args.first c.args.strikes.now.items c.push.new.self.items c.requires.first
    (rw (c.loop-at.invariant.1, c.entry.ensures) at c.in_ok-push.ensures.items)
