use Rattle.std.proofs.lemmas.List.Sums.{fold_push}
use Rattle.std.proofs.Math.Seq.{take-append_seam}
use Rattle.std.proofs.lemmas.List.{take_all}
use Rattle.sip_ledger.proofs.Lemmas.{told-all, told-more, told-none, told-split, List, [], ◌∷◌, ◌++◌, ◌+◌, ◌≡◌, ◌∙◌, ap, arith, length, length_push, refl, sym, take, account_debts, entries_of, entry_at, order_print}
use Rattle.sip_ledger.proofs.Words.{debt_of, must_at, owes_at}
use Rattle.sip_ledger.proofs.debts.ListedLemmas.{back}
use Rattle.sip_ledger.specs.Accounts.{mixed}
use Rattle.sip_ledger.specs.declared.debt.Debt.{Debt}
use Rattle.sip_ledger.proofs.accounts.account.front_print.Goals as goal
use Rattle.sip_ledger.proofs.accounts.account.front_print.Goals.{then-loop-place-test+else-count-most, else-loop-place-test}

-- the print of no debts
print-none : order_print [] ≡ 1
unfolding order_print
print-none = refl

-- one debt more is mixed in after the others
print-more : (debts : List Debt) (debt : Debt) → order_print (debts ++ debt ∷ []) ≡ mixed (mixed (order_print debts) debt.message) debt.deadline
unfolding order_print
print-more debts debt = fold_push (λ print d. mixed (mixed print d.message) d.deadline) 1 debts debt

-- nothing is owed before the start
pub loop-place-init : goal.loop-place-init
loop-place-init c = ([], told-none c.requires.account refl, sym print-none, refl, omega arith)

-- the debt at the place is mixed in
pub loop-place-preserved : goal.loop-place-preserved
loop-place-preserved c =
    let (debts, told, is, long, few) = c.loop-place.invariant in
    let debt = debt_of (entry_at (entries_of c.args.gains.now) c.loop-place.place) (must_at c.args.gains.now c.args.account c.loop-place.place) in (
      debts ++ debt ∷ [],
      told-more c.requires.account told c.loop-place-test.true c.next-place.ensures refl refl,
      rw (c.mixed.ensures, is, c.entry-entry.ensures) at c.mixed-print.ensures ∙ sym (print-more debts debt),
      length_push debts debt ∙ ap (λ n. n + 1) long,
      omega (arith, c.if-count-most.true),
    )

-- the debts that were told are the first ones: as many as are asked for, or all
pub returns : goal.returns
returns c =
    let (debts, told, is, long, few) = c.loop-place.invariant in
    let all = account_debts c.args.gains.now c.args.strikes.now c.args.account in
    let first : debts ≡ take c.args.most all = elim c.loop-place-test.branch [
      | then-loop-place-test+else-count-most w ↦
          let full : length debts ≡ c.args.most = omega (arith, long, few, w.if-count-most.false) in
          -- what is owed from the place on
          let rest = back (owes_at c.args.gains.now c.args.strikes.now c.args.account) (must_at c.args.gains.now c.args.account) (entries_of c.args.gains.now) c.loop-place.place in
          sym (take-append_seam debts rest) ∙ ap (λ n. take n (debts ++ rest)) full ∙ ap (take c.args.most) (sym (told-split c.requires.account told))
      | else-loop-place-test w ↦
          let done = told-all c.requires.account told w.loop-place-test.false in
          sym (take_all c.args.most debts (omega (arith, long, few))) ∙ ap (take c.args.most) done
    ] in
    rw (c.requires.account.print, is, first) at c.mixed-2.ensures
