use Rattle.sip_ledger.proofs.Lemmas.{ap, arith, Entry, Flags, gains-more, gains-same, leb-true, nat_le, numbers_of, on-error, refl, true, [], ◌++◌, ◌∙◌, ◌∷◌}
use Rattle.sip_ledger.proofs.accounts.gains.Gains.push.Goals as goal

-- where memory is refused for more entries, the gains are the same
pub returns-in_err-reserve-clause-err : goal.returns-in_err-reserve-clause-err
returns-in_err-reserve-clause-err c =
    on-error c.from_residual.result c.from_residual.ensures.0
    (gains-same c.args.self.now _ c.requires c.reserve.ensures.items refl refl (λ m k. refl) (λ k. refl) refl refl)

-- where memory is refused for more flags, the gains are the same
pub returns-in_err-reserve-2-clause-err : goal.returns-in_err-reserve-2-clause-err
returns-in_err-reserve-2-clause-err c =
    on-error c.from_residual-in_err-reserve-2.result c.from_residual-in_err-reserve-2.ensures.0
    (gains-same c.args.self.now _ c.requires c.reserve.ensures.items c.reserve-2.ensures.items refl (λ m k. refl) (λ k. refl) refl refl)

-- where memory is refused for the place, the gains are the same
pub returns-in_err-note-clause-err : goal.returns-in_err-note-clause-err
returns-in_err-note-clause-err c =
    let noted = c.in_err-note.ensures.err in
    on-error c.from_residual-in_err-note.result c.from_residual-in_err-note.ensures.0
    (gains-same c.args.self.now _ c.requires c.reserve.ensures.items c.reserve-2.ensures.items refl noted.0 (λ k. ap (λ l. numbers_of l k) noted.1) refl refl)

-- with the new gain, its entry, its flags and its place are right
pub returns-clause-ok : goal.returns-clause-ok
returns-clause-ok c =
    let e : Entry = record { message = c.args.debt.message; deadline = c.args.debt.deadline } in
    let newest = nat_le c.args.self.now.highest c.args.debt.message in
    let f : Flags = record { must = c.args.debt.must; left = true; newest = newest } in
    -- the entry and its flags stand after the others
    let entries = c.push_reserved.ensures.items ∙ ap (λ l. l ++ e ∷ []) c.reserve.ensures.items in
    let flags = c.push_reserved-2.ensures.items ∙ ap (λ l. l ++ f ∷ []) c.reserve-2.ensures.items in
    let highest = c.max-self.ensures in
    -- a gain is the newest of its kind where no kept message is greater
    gains-more c.args.self.now _ c.args.debt newest c.requires entries flags refl (omega (arith, c.if-self.false, c.requires.small)) c.in_ok-note.ensures.ok
    (leb-true c.args.self.now.highest c.args.debt.message) (rw c.deref.ensures.value at c.rise-rises.ensures) (omega (arith, highest)) (omega (arith, highest))
