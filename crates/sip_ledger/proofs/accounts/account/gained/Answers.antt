use Rattle.sip_ledger.proofs.Lemmas.{Account, ap, first-gain, more-gain, refl, sym, take-length, worth_of, [], ◌%◌, ◌+◌, ◌++◌, ◌∙◌, ◌∷◌, ◌^◌}
use Rattle.sip_ledger.proofs.accounts.account.gained.Goals as goal

-- the account owed nothing, so the place begins it
pub returns-then-account : goal.returns-then-account
returns-then-account c =
    let new = first-gain c.args.gains.now c.args.strikes.now.items c.args.strikes.now.items c.args.account _ c.args.debt c.args.place c.requires.account c.requires.next c.if-account.true refl
    (ap (λ w. (c.args.account.print + w) % 2 ^ 64) c.worth.ensures) in
    record { kept = take-length c.args.strikes.now.items; account = new.0; debts = new.1 }

-- the account owed something, so what others gained since is struck
pub returns : goal.returns
returns c =
    let rest = c.eased-eased.ensures.rest in
    let new = more-gain c.args.gains.now c.args.strikes.now.items c.put.new.strikes.items c.eased-eased.result c.in_ok-passed.passed _ c.args.debt c.args.place (rw c.deref.ensures.value at c.eased-eased.ensures.account) (rw c.deref.ensures.value at c.eased-eased.ensures.next)
    (λ same. c.if-account.false (ap (λ (a : Account). a.start) (sym rest) ∙ same ∙ ap (λ (a : Account). a.end) rest)) c.in_ok-passed.ensures.struck refl
    (ap (λ w. (c.args.account.print + w) % 2 ^ 64) c.worth.ensures ∙ ap (λ n. (n + worth_of c.args.debt.message c.args.debt.deadline) % 2 ^ 64) (ap (λ (a : Account). a.print) (sym rest))) in
    record { kept = c.put.ensures.kept; account = new.0; debts = new.1 ∙ ap (λ l. l ++ c.args.debt ∷ []) (rw c.deref.ensures.value at c.eased-eased.ensures.debts) }
