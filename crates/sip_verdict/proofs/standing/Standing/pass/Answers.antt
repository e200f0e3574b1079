use Rattle.std.proofs.Common.{◌≡◌, map, sym, ◌∙◌, subst}
use Rattle.sip_verdict.specs.inner.Tracking.{IsOutcome}
use Rattle.sip_verdict.specs.inner.TablesTracking.{key_keeping, transactions_of}
use Rattle.sip_verdict.proofs.tables.TablesPassing.{keys_are}
use Rattle.sip_verdict.proofs.tables.TrackingLemmas.{judged_fine, judged_breach, judged_undecided}
use Rattle.sip_verdict.proofs.standing.Standing.pass.Goals as goal

-- where the outcome is fine, no transaction is in trouble after the entry
pub returns-in-Fine-clause-judged : goal.returns-in-Fine-clause-judged
returns-in-Fine-clause-judged g c = λ es e formed newest told before counts.
    -- s is what stands before the entry, p its times, and k what is kept of each key; `new` has the sets after all events were heard
    let s = c.args.self.now in
    let new = c.pass_all.new.tables in
    let p = s.tables.times in
    let k = key_keeping s.book s.tables.times in
    -- no event changes which keys the tables have
    let same : map (λ t. t.0) (transactions_of new) ≡ map (λ t. t.0) (transactions_of s.tables) =
    keys_are new c.in_ok-outcome.ensures.may.long ∙ c.in_ok-outcome.ensures.keys ∙ sym (keys_are s.tables c.requires.may.long) in
    judged_fine p k es e k (transactions_of s.tables) (transactions_of new) before same formed
    (subst (IsOutcome p k es e (transactions_of new)) c.in-Fine.is (c.in_ok-outcome.ensures.outcome s.tables.times es e newest told before.ready))

-- where a transaction has no state left, the verdict is a breach of the first such transaction
pub returns-in-NoRun-clause-judged : goal.returns-in-NoRun-clause-judged
returns-in-NoRun-clause-judged g c = λ es e formed newest told before counts.
    -- s is what stands before the entry, p its times, and k what is kept of each key; `new` has the sets after all events were heard
    let s = c.args.self.now in
    let new = c.pass_all.new.tables in
    let p = s.tables.times in
    let k = key_keeping s.book s.tables.times in
    -- no event changes which keys the tables have
    let same : map (λ t. t.0) (transactions_of new) ≡ map (λ t. t.0) (transactions_of s.tables) =
    keys_are new c.in_ok-outcome.ensures.may.long ∙ c.in_ok-outcome.ensures.keys ∙ sym (keys_are s.tables c.requires.may.long) in
    judged_breach p k es e k (transactions_of s.tables) (transactions_of new) before same c.args.number c.in-NoRun.transaction counts formed
    (subst (IsOutcome p k es e (transactions_of new)) c.in-NoRun.is (c.in_ok-outcome.ensures.outcome s.tables.times es e newest told before.ready))

-- where a transaction has too many states, the verdict is that it is undecided
pub returns-in-TooWide-clause-judged : goal.returns-in-TooWide-clause-judged
returns-in-TooWide-clause-judged g c = λ es e formed newest told before counts.
    -- s is what stands before the entry, p its times, and k what is kept of each key; `new` has the sets after all events were heard
    let s = c.args.self.now in
    let new = c.pass_all.new.tables in
    let p = s.tables.times in
    let k = key_keeping s.book s.tables.times in
    -- no event changes which keys the tables have
    let same : map (λ t. t.0) (transactions_of new) ≡ map (λ t. t.0) (transactions_of s.tables) =
    keys_are new c.in_ok-outcome.ensures.may.long ∙ c.in_ok-outcome.ensures.keys ∙ sym (keys_are s.tables c.requires.may.long) in
    let outcome = subst (IsOutcome p k es e (transactions_of new)) c.in-TooWide.is (c.in_ok-outcome.ensures.outcome s.tables.times es e newest told before.ready) in
    judged_undecided p k es e k (transactions_of s.tables) (transactions_of new) before same c.args.number c.in-TooWide.transaction counts formed outcome.0 outcome.1
