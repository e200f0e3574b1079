use Rattle.sip_ledger.proofs.Lemmas.{ap, arith, drop, drop-take, sym, take, ◌+◌, ◌-◌, ◌∙◌, ◌≡◌}
use Rattle.sip_ledger.proofs.accounts.account.own.Goals as goal

-- the slice between two places is what is left of the front up to the second one
pub returns : goal.returns
returns c =
    let a = c.args.account in
    let whole : a.first + (a.last - a.first) ≡ a.last = omega arith in
    sym (drop-take a.first (a.last - a.first) c.args.strikes.now) ∙ ap (λ n. drop a.first (take n c.args.strikes.now)) whole
