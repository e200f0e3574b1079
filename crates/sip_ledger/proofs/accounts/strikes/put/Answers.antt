use Rattle.sip_ledger.proofs.Lemmas.{arith, entries_long, length, written-more, written-none, ◌∙◌, ◌≡◌}
use Rattle.sip_ledger.proofs.accounts.strikes.put.Goals as goal

-- nothing was struck yet
pub loop-place-init : goal.loop-place-init
loop-place-init c = written-none c.args.gains.now c.args.from c.args.strikes.now.items c.copy_some.new.strikes.items c.args.account c.in_ok-copy_some.ensures.ok

-- each place between the two is kept
pub strike_too-requires-clause-kept : goal.strike_too-requires-clause-kept
strike_too-requires-clause-kept c = c.requires.kept c.loop-place.place c.loop-place.auto.place (omega arith)

-- after one place more, it is struck for the account too
pub loop-place-preserved : goal.loop-place-preserved
loop-place-preserved c =
    let kept = c.requires.kept c.loop-place.place c.loop-place.auto.place (omega arith) in
    let first : c.len-first.result ≡ length c.args.strikes.now.items = c.len-first.ensures ∙ c.args.strikes.now.ok.0 in
    written-more c.args.gains.now c.args.from c.loop-place.place c.args.strikes.now.items c.loop-place.strikes.items c.strike_too.new.strikes.items c.args.account c.loop-place.invariant
    (rw first at c.in_ok-strike_too.ensures.ok) c.loop-place.auto.place (omega (arith, kept.within, entries_long c.args.gains.now c.requires.gained.long))
