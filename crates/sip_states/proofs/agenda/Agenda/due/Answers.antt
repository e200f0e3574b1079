use Rattle.std.proofs.Common.{sym, ◌∙◌, true≢false, arith}
use Rattle.sip_states.proofs.due.AgendaLemmas.{nothing_due, not_above, no_line}
use Rattle.sip_states.proofs.agenda.Agenda.due.Goals as goal

-- nothing is on record, so nothing is due
pub returns-in_err-last-clause-value : goal.returns-in_err-last-clause-value
returns-in_err-last-clause-value c =
    rw (← c.self.view_is) (c.from_residual.ensures ∙ sym (nothing_due c.self.inside.records.items c.self.inside.order c.args.moment c.self.invariant
    (λ line has. absurd (no_line c.self.inside.order line (λ h. true≢false (sym (c.in_err-last.ensures.variant.1 h))) has))))

-- the earliest last moment is not below the moment, so nothing is due
pub returns-then-last-moment-clause-value : goal.returns-then-last-moment-clause-value
returns-then-last-moment-clause-value c =
    rw (← c.self.view_is) (sym (nothing_due c.self.inside.records.items c.self.inside.order c.args.moment c.self.invariant
    (λ line has. (let h = not_above c.in_ok-last.field-0.now line (c.in_ok-last.ensures.least line has) in omega (arith, h, c.if-last-moment.true)))))
