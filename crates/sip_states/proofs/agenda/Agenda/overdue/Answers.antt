use Rattle.std.proofs.Common.{◌≡◌, ◌<◌, ℕ, true, Option, Some, None, length, IfNone, slice_get, slice_index_or, sym, ap, ◌∙◌, true≢false, arith}
use Rattle.std.proofs.lemmas.Bool.Decides.{nat_tests}
use Rattle.std.proofs.lemmas.Option.{slice_get_within, get_or_from_slice_get}
use Rattle.sip_states.specs.Agenda.{Records, is_overdue}
use Rattle.sip_states.proofs.due.AgendaLemmas.{nothing_due, not_above, no_line}
use Rattle.sip_states.proofs.agenda.Agenda.overdue.Goals as goal

-- what holds in any case holds where an option has no value
if_none : (r : Option ℕ) (P : Type 0) → P → IfNone r P
if_none None P h = h
if_none (Some index) P h = tt

-- nothing is on record, so nothing is overdue
pub returns-in_err-last-clause-none : goal.returns-in_err-last-clause-none
returns-in_err-last-clause-none c =
    if_none c.from_residual.result _ (rw (← c.self.view_is) (nothing_due c.self.inside.records.items c.self.inside.order c.args.moment c.self.invariant
    (λ line has. absurd (no_line c.self.inside.order line (λ h. true≢false (sym (c.in_err-last.ensures.variant.1 h))) has))))

-- where the earliest last moment is not past, none is
pub returns-then-last-moment-clause-none : goal.returns-then-last-moment-clause-none
returns-then-last-moment-clause-none c =
    rw (← c.self.view_is) (nothing_due c.self.inside.records.items c.self.inside.order c.args.moment c.self.invariant
    (λ line has. (let h = not_above c.in_ok-last.field-0.now line (c.in_ok-last.ensures.least line has) in omega (arith, h, c.if-last-moment.true))))

-- a line of the order is on record, and its record is overdue where its last moment is below the moment
below : (records : Records) (index last moment : ℕ) → slice_get records index ≡ Some (Some (Some last)) → last < moment → (index < length records) × (is_overdue moment (slice_index_or records index None) ≡ true)
below records index last moment at low =
    (slice_get_within records index (Some (Some last)) at, ap (is_overdue moment) (get_or_from_slice_get records index (Some (Some last)) None at) ∙ (grind (arith, nat_tests, low)))

-- the earliest last moment is below the moment
pub returns-clause-some : goal.returns-clause-some
returns-clause-some c =
    rw (← c.self.view_is) (below c.self.inside.records.items c.in_ok-last.field-0.now.1 c.in_ok-last.field-0.now.0 c.args.moment
    ((c.self.invariant c.in_ok-last.field-0.now).0 c.in_ok-last.ensures.member) (let h = c.if-last-moment.false in omega (arith, h)))
