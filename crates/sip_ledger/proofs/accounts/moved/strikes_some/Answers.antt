use Rattle.sip_ledger.proofs.Lemmas.{arith, ltb-false, OnFalse_from, strikes-none}
use Rattle.sip_ledger.proofs.accounts.moved.strikes_some.Goals as goal

-- where the strike's message is left first at its end or after it, it strikes nothing that is left from the place on
pub returns-in-Some : goal.returns-in-Some
returns-in-Some c =
    OnFalse_from _ _ (λ late.
    let end = ltb-false c.in-Some.at c.args.strike.to late in
    strikes-none c.args.gains.now c.args.place c.max-from.result c.args.strike (omega (arith, c.max-from.ensures)) (λ k above below. c.in-Some.ensures.before k above (omega (arith, end, below))))

-- nothing is left from the place on
pub returns-in-None : goal.returns-in-None
returns-in-None c =
    strikes-none c.args.gains.now c.args.place c.max-from.result c.args.strike (omega (arith, c.max-from.ensures)) (λ k above below. c.in-None.ensures.none k above)
