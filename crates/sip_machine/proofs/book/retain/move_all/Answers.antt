use Rattle.std.proofs.Common.{arith, rules}
use Rattle.std.proofs.lemmas.Fn.{filter_same}
use Rattle.sip_machine.specs.inner.Order.{texts_of, most_places}
use Rattle.sip_machine.specs.inner.Retain.{moved}
use Rattle.sip_machine.proofs.texts.RetainLemmas.{moves_run, moves_runs, has_places}
use Rattle.sip_machine.proofs.book.retain.move_all.Goals as goal

-- one run more has its places moved
pub loop-i-preserved : goal.loop-i-preserved
loop-i-preserved c =
    moves_run (moved (texts_of c.args.kept.now) c.args.numbers.now) most_places c.args.runs.now.items c.loop-i.runs.items c.loop-i.i c.index_mut.result.now c.move_run.new.run c.loop-i.invariant (omega arith)
    c.index_mut.ensures.value c.move_run.ensures.places c.move_run.ensures.fewer c.move_run.ensures.led

-- the runs that are left are those that still have a place: `retain` asks just this of each (`filter_same`)
pub returns : goal.returns
returns c =
    let is = filter_same _ has_places _ (λ x b f' k. search rules) _ _ c.retain.ensures.filtered in
    let all = moves_runs (moved (texts_of c.args.kept.now) c.args.numbers.now) most_places c.args.runs.now.items c.loop-i.runs.items c.retain.new.self.items c.loop-i.i c.loop-i.invariant (omega arith) is in
    record { places = all.0; led = all.1; short = all.2 }
