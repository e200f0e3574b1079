use Rattle.std.specs.Prelude.{length}
use Rattle.std.specs.List.{list_any}
use Rattle.std.proofs.Common.{◌≡◌, ap, arith, sym, ◌∙◌}
use Rattle.sip_ledger.specs.Debts.{is_payable}
use Rattle.sip_machine.specs.Owes.{owed_in}
use Rattle.sip_machine.proofs.debts.DueLemmas.{owed-none, pays-none, pays-some}
use Rattle.sip_machine.proofs.paying.payable.Goals as goal

-- no row owes anything, so no debt is found
pub returns-in_default-clause-finds : goal.returns-in_default-clause-finds
returns-in_default-clause-finds c =
    let none : length (owed_in c.args.dues.now c.args.row) ≡ 0 = ap (λ rows. length (owed_in rows c.args.row)) c.in_default.ensures.none ∙ ap length (owed-none (length c.args.dues.now) c.args.row) in
    λ k d low pays. absurd (omega (arith, none, low))

-- the row can pay the message, so a debt is found
pub returns-then-can_pay-clause-finds : goal.returns-then-can_pay-clause-finds
returns-then-can_pay-clause-finds c =
    pays-some c.args.number c.args.moment (owed_in c.args.dues.now c.args.row)
    (ap (λ rows. list_any (is_payable c.args.number c.args.moment) (owed_in rows c.args.row)) (sym c.in-Some.ensures.some) ∙ sym c.can_pay.ensures ∙ c.if-can_pay.true)

-- the row cannot pay the message, so no debt is found
pub returns-else-can_pay-clause-finds : goal.returns-else-can_pay-clause-finds
returns-else-can_pay-clause-finds c =
    pays-none c.args.number c.args.moment (owed_in c.args.dues.now c.args.row)
    (ap (λ rows. list_any (is_payable c.args.number c.args.moment) (owed_in rows c.args.row)) (sym c.in-Some.ensures.some) ∙ sym c.can_pay.ensures ∙ c.if-can_pay.false)
