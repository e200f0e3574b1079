use Rattle.std.proofs.Common.{sym, ◌∙◌, rules, ap, cond, true, ◌==◌, Some, None}
use Rattle.std.proofs.lemmas.Map.Steps.{set_value_same}
use Rattle.std.proofs.lemmas.Result.{on_err_weaker, on_ok_weaker}
use Rattle.std.specs.BTreeMap.{is_at}
use Rattle.sip_machine.specs.inner.Order.{text_cmp}
use Rattle.sip_machine.proofs.acks.ToLemmas.{set-changed}
use Rattle.sip_machine.proofs.tos.put.Goals as goal

-- the number is put into the set under the To
pub returns-in-Some-clause-ok : goal.returns-in-Some-clause-ok
returns-in-Some-clause-ok c =
    let set = c.put.new.self in
    on_ok_weaker c.put.result
    (set-changed c.args.sets.now c.args.to.now c.args.number true (Some c.in-Some.set.now) c.in-Some.ensures.value (c.get_mut.follows.lender set) set
    ((c.get_mut.follows.holds set).3 (search rules)).0) c.put.ensures.ok

-- the set is as before, and so are all
pub returns-in-Some-clause-err : goal.returns-in-Some-clause-err
returns-in-Some-clause-err c =
    let set = c.in-Some.set.now in
    let same = (c.get_mut.follows.holds set).0 ∙ set_value_same (is_at (text_cmp c.args.to.now)) c.args.sets.now.entries set (sym c.in-Some.ensures.value) in
    on_err_weaker c.put.result (λ is. ap (λ s. (c.get_mut.follows.lender s).entries) is ∙ same) c.put.ensures.err

-- a set with the number alone stands under the To
pub returns-clause-ok : goal.returns-clause-ok
returns-clause-ok c =
    let updates = rw c.get_mut.follows.holds-at-none at (rw c.in_ok-copy.ensures at c.in_ok-_old.ensures.updates.0) in
    set-changed c.args.sets.now c.args.to.now c.args.number true None c.in_default.ensures.value c.insert.new.self c.put-2.new.self updates
    (λ n. c.in_ok-put.ensures.ok n ∙ ap (cond (n == c.args.number) true) (c.new-set.ensures n))
