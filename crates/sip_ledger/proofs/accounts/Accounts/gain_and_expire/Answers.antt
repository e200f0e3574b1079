use Rattle.sip_ledger.proofs.Lemmas.{account-at, arith, changed, on-error, over-to, unchanged, ◌∙◌}
use Rattle.sip_ledger.proofs.accounts.Accounts.gain_and_expire.Goals as goal

-- where memory was refused for the gain, the rows are accounts as before
pub invariant_of-self-in_err-grown : goal.invariant_of-self-in_err-grown
invariant_of-self-in_err-grown c =
    (unchanged _ c.gained.ensures.kept (over-to _ c.place_for.ensures.kept c.place_for.ensures.gained c.self.invariant).0).0

-- where memory was refused after the gain, the rows are accounts as before
pub invariant_of-self-in_err-self-inside : goal.invariant_of-self-in_err-self-inside
invariant_of-self-in_err-self-inside c =
    (unchanged _ c.expired.ensures.kept (unchanged _ c.gained.ensures.kept (over-to _ c.place_for.ensures.kept c.place_for.ensures.gained c.self.invariant).0).0).0

-- the changed rows are accounts
pub invariant_of-self-2 : goal.invariant_of-self-2
invariant_of-self-2 c =
    let grown = unchanged _ c.gained.ensures.kept (over-to _ c.place_for.ensures.kept c.place_for.ensures.gained c.self.invariant).0 in
    (changed _ c.args.row _ c.expired.ensures.kept grown.0 c.in_ok-self-inside.ensures.account).0

-- where memory was refused after the gain, the rows owe what they owed
pub returns-in_err-self-inside-clause-err : goal.returns-in_err-self-inside-clause-err
returns-in_err-self-inside-clause-err c =
    let all = over-to _ c.place_for.ensures.kept c.place_for.ensures.gained c.self.invariant in
    let grown = unchanged _ c.gained.ensures.kept all.0 in
    on-error _ c.from_residual-in_err-self-inside.ensures.0 ((unchanged _ c.expired.ensures.kept grown.0).1 ∙ grown.1 ∙ all.1 ∙ c.self.view_is)

-- the row owes the debt too, but for what has expired
pub returns-clause-ok : goal.returns-clause-ok
returns-clause-ok c =
    let all = over-to _ c.place_for.ensures.kept c.place_for.ensures.gained c.self.invariant in
    let grown = unchanged _ c.gained.ensures.kept all.0 in
    let is = account-at c.args.row _ all.0 (all.1 ∙ c.self.view_is) c.requires c.index-account.ensures in
    let new = changed _ c.args.row _ c.expired.ensures.kept grown.0 c.in_ok-self-inside.ensures.account in
    grind (arith, new, grown, all, is)
