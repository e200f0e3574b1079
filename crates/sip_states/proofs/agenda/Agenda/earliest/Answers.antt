use Rattle.std.proofs.Common.{sym, true≢false}
use Rattle.sip_states.proofs.due.AgendaLemmas.{not_above, no_line, earliest_none, earliest_some}
use Rattle.sip_states.proofs.agenda.Agenda.earliest.Goals as goal

-- nothing is on record
pub returns-in_err-last : goal.returns-in_err-last
returns-in_err-last c moment =
    rw (← c.self.view_is) (earliest_none c.self.inside.records.items c.self.inside.order moment c.self.invariant
    (λ line. no_line c.self.inside.order line (λ h. true≢false (sym (c.in_err-last.ensures.variant.1 h)))) c.from_residual.result c.from_residual.ensures)

-- the least line on record has the earliest last moment
pub returns : goal.returns
returns c moment =
    rw (← c.self.view_is) (earliest_some c.self.inside.records.items c.self.inside.order moment c.self.invariant c.in_ok-last.field-0.now c.in_ok-last.ensures.member
    (λ line has. not_above c.in_ok-last.field-0.now line (c.in_ok-last.ensures.least line has)))
