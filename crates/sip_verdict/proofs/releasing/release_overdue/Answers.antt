use Rattle.std.proofs.Common.{◌<◌, ◌-◌, ◌∙◌, length, sym, ap, subst}
use Rattle.std.proofs.lemmas.List.{length-set}
use Rattle.sip_states.specs.AnySet.{start_of}
use Rattle.sip_verdict.proofs.surveys.passing.Hearing.{overdue_broken}
use Rattle.sip_verdict.proofs.surveys.passing.Lasts.{lasts, one_less}
use Rattle.sip_verdict.proofs.surveys.passing.Watching.{watched_released, passes_anew}
use Rattle.sip_verdict.proofs.releasing.release_overdue.Goals as goal

-- after one transaction more, whose time is over, was called broken and its set began anew, the tables still pass the entry
pub loop-number-preserved : goal.loop-number-preserved
loop-number-preserved g c =
    -- t and b are the tables and the trouble before this turn, u and d those after it; `number` is that of the overdue transaction, and `old` what held before
    let t = c.loop-number.tables in
    let u = c.restart_key.new.self in
    let b = c.loop-number.troubled in
    let d = c.add_broken.new.self in
    let number = c.in-Some.number in
    let old = c.loop-number.invariant in
    -- the transaction is overdue, its set began anew, and it is among the broken ones
    let given = c.in-Some.ensures.some.0 in
    let past = c.in-Some.ensures.some.1 in
    let anew = c.in_ok-restart_key.ensures.ok in
    let added = c.in_ok-add_broken.ensures in
    -- the other keys, sets and records are as they were
    let keys = ap (λ x. x.keys) anew.begun in
    let sets = ap (λ x. x.sets) anew.begun in
    let records = ap (λ x. x.records) anew.begun in
    record {
      times_are = ap (λ x. x.times) anew.begun ∙ old.times_are;
      keys_are = keys ∙ old.keys_are;
      -- the tables have as many keys, and may still pass the moment
      long = ap length added.deaf ∙ length-set b.deaf.items (number - 1) _ ∙ old.long ∙ ap length (sym keys);
      may = λ texts may. passes_anew texts t u (number - 1) c.args.moment anew.key t.times (old.may texts may) keys sets;
      watched = λ waits h. watched_released t u b d number waits given (old.watched waits h) (start_of t.times anew.key) anew.endless added.deaf keys sets records;
      -- the transaction breaks at the entry
      released = λ texts p es e waits times late now may watched h.
          overdue_broken texts p es e t b number given c.args.moment waits late now (old.may texts may) (old.watched waits watched) past (old.released texts p es e waits times late now may watched h)
          u d t.times anew.key anew.at (old.times_are ∙ times) keys sets added.deaf added.broken added.wide;
    }

-- one set less has a last moment on record
pub loop-number-smaller : goal.loop-number-smaller
loop-number-smaller g c =
    let t = c.loop-number.tables in
    subst (λ rs. lasts rs < lasts t.records) (sym (ap (λ x. x.records) c.in_ok-restart_key.ensures.ok.begun)) (one_less t.records (c.in-Some.number - 1) c.args.moment c.in-Some.ensures.some.1)
