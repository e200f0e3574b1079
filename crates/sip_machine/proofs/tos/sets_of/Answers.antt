use Rattle.sip_machine.proofs.Words.{arith, nat_tests, rules, take, take_all, take_more, on_ok, true, true≢false}
use Rattle.sip_machine.specs.inner.Tos.{stands}
use Rattle.sip_machine.proofs.acks.ToLemmas.{under-changed}
use Rattle.sip_machine.proofs.tos.sets_of.Goals as goal

-- at first no To was looked at, and no number stands under one
pub loop-at-init : goal.loop-at-init
unfolding stands
loop-at-init c = λ to. grind (arith, nat_tests)

-- after one To more, each To up to it stands under its To
pub loop-at-preserved : goal.loop-at-preserved
loop-at-preserved c =
    let to = c.index-list-at.result in
    let noted = on_ok c.put.result _ (search rules) c.put.ensures.ok in
    let under = under-changed to true c.loop-at.sets c.put.new.sets (take c.loop-at.at c.args.list.now) noted (λ taken. absurd (true≢false taken)) c.loop-at.invariant in
    rw (take_more c.args.list.now c.loop-at.at to (omega arith), ← c.index-list-at.is) under

-- at the end of the loop each To stands under its To
pub returns : goal.returns
returns c = rw (take_all c.loop-at.at c.args.list.now (omega arith)) at c.loop-at.invariant
