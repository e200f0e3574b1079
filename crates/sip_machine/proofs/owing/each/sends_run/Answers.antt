-- In the answers m is the machine by its figure and its phases, p its times and e the event as the definitions have it.
use Rattle.std.specs.Prelude.{◌++◌, ◌⊎◌, All}
use Rattle.std.proofs.Common.{sym, ◌∙◌, ap, subst, append_assoc}
use Rattle.std.proofs.lemmas.Result.{on_ok_weaker}
use Rattle.sip_ledger.specs.Lists.{from_to}
use Rattle.sip_machine.specs.NumberedEvent.{event_in}
use Rattle.sip_machine.specs.Rules.{Covers, FromSome, Knows}
use Rattle.sip_machine.specs.FigureRules.{TakeOf}
use Rattle.sip_machine.specs.Owing.{owing_seen, owing_names, OwingInRange}
use Rattle.sip_machine.specs.inner.Effects.{LeadsFrom, RestsFrom}
use Rattle.sip_machine.proofs.pools.CoversLemmas.{HasFound, FromSome-either, Covers-same, Covers-both, slice-old}
use Rattle.sip_machine.proofs.steps.OwingEachLemmas.{takes-sent}
use Rattle.sip_machine.proofs.owing.each.sends_run.Goals as goal

-- the states of the run are as before, and the book has what they name
pub rests_run-requires-clause-known : goal.rests_run-requires-clause-known
rests_run-requires-clause-known g c =
    let (added, is, covers) = c.in_ok-leads_run.ensures.gives in
    subst (All (Knows (owing_names g.M.Phases.names) c.args.book.now)) (sym (slice-old c.args.from c.args.to c.args.pool.now added c.leads_run.new.pool is c.requires.to)) c.requires.known

-- the states of the run are as before, and so are their moments
pub rests_run-requires-clause-in_range : goal.rests_run-requires-clause-in_range
rests_run-requires-clause-in_range g c =
    let (added, is, covers) = c.in_ok-leads_run.ensures.gives in
    subst (All (OwingInRange g.M.Phases.in_range)) (sym (slice-old c.args.from c.args.to c.args.pool.now added c.leads_run.new.pool is c.requires.to)) c.requires.in_range

-- what the states take of a sent message is what the rows lead to, and what they give without a row
pub returns-clause-gives : goal.returns-clause-gives
returns-clause-gives g c =
    let m = g.M.Phases in
    let texts = c.args.book.now in
    let p = m.times c.args.machine.now in
    let e = event_in texts c.args.event.now in
    -- P is what a row leads to, and Q what is given without a row
    let P = LeadsFrom m.figure p m.seen texts e in
    let Q = RestsFrom m.figure p m.seen texts e in
    let old = c.args.pool.now in
    let mid = c.leads_run.new.pool in
    let some = from_to c.args.from c.args.to old in
    -- what the rows lead to stands after the old states
    let (added, mid_is, covers) = c.in_ok-leads_run.ensures.gives in
    let slice = slice-old c.args.from c.args.to old added mid mid_is c.requires.to in
    on_ok_weaker c.rests_run.result
    (λ (has : HasFound (owing_names m.names) (OwingInRange m.in_range) (owing_seen m.seen) texts Q (from_to c.args.from c.args.to mid) mid c.rests_run.new.pool).
    -- what the states give without a row stands after that
    let (more, new_is, rests) = has in
    let rests_old = subst (λ xs. Covers (owing_names m.names) (OwingInRange m.in_range) (owing_seen m.seen) texts (FromSome Q xs) more) slice rests in (
      added ++ more,
      new_is ∙ ap (λ xs. xs ++ more) mid_is ∙ append_assoc old added more,
      -- what was led and what rests together are what the states take
      Covers-same (owing_names m.names) (OwingInRange m.in_range) (owing_seen m.seen) texts (λ y. FromSome P some y ⊎ FromSome Q some y)
          (FromSome (λ x. TakeOf m.figure p (owing_seen m.seen texts x) e) some)
          -- what a state takes of a sent message is where a row leads it or where it rests (`takes-sent`)
          (FromSome-either P Q (λ x. TakeOf m.figure p (owing_seen m.seen texts x) e) (takes-sent m.figure p m.seen texts e c.requires.action) some) (added ++ more)
          (Covers-both (owing_names m.names) (OwingInRange m.in_range) (owing_seen m.seen) texts (FromSome P some) (FromSome Q some) added more covers rests_old),
    ))
    c.rests_run.ensures.gives
