use Rattle.sip_ledger.proofs.Lemmas.{Account, ap, arith, Entry, owed-within, refl, take-length, without-first, without-last, without-middle, worth_of, ◌∙◌}
use Rattle.sip_ledger.proofs.accounts.account.without.Goals as goal

-- without its first place the account begins with the next one
pub returns-then-place-account : goal.returns-then-place-account
returns-then-place-account c =
    let new = without-first c.args.gains.now c.args.strikes.now.items c.args.account c.args.place c.worth.result _ c.requires.account c.requires.owed
    (c.worth.ensures ∙ ap (λ (e : Entry). worth_of e.message e.deadline) c.entry-entry.ensures) refl c.next-start.result c.if-place-account.true (rw c.deref.ensures.value at c.next-start.ensures) in
    record { kept = take-length c.args.strikes.now.items; account = new.0; owed = new.1; soft = refl }

-- without its last place the account ends after the one before it
pub returns-then-rest-eq1 : goal.returns-then-rest-eq1
returns-then-rest-eq1 c =
    let new = without-last c.args.gains.now c.args.strikes.now.items c.args.account c.args.place c.worth.result _ c.requires.account c.requires.owed
    (c.worth.ensures ∙ ap (λ (e : Entry). worth_of e.message e.deadline) c.entry-entry.ensures) refl c.if-place-account.false
    (omega (arith, owed-within c.args.gains.now c.args.strikes.now.items c.args.account c.args.place c.requires.owed)) in
    record { kept = take-length c.args.strikes.now.items; account = new.0; owed = new.1; soft = refl }

-- the debt stands between others, so it is struck: the account has one strike more
pub returns : goal.returns
returns c =
    let new = without-middle c.args.gains.now c.args.strikes.now.items c.args.account c.args.place c.worth.result _ c.requires.account c.requires.owed
    (c.worth.ensures ∙ ap (λ (e : Entry). worth_of e.message e.deadline) c.entry-entry.ensures) refl c.put.new.strikes.items c.in_ok-struck.struck c.if-place-account.false c.in_ok-struck.ensures.struck in
    record { kept = c.put.ensures.kept; account = new.0; owed = new.1; soft = ap (λ (a : Account). a.soft) c.in_ok-struck.ensures.struck.same }
