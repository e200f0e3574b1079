use Rattle.std.proofs.Common.{◌≡◌, ◌≤◌, ◌↔◌, ◌+◌, None, IfSome, subst}
use Rattle.sip_states.specs.Tables.{due_of}
use Rattle.sip_verdict.specs.inner.TablesTracking.{MayTake}
use Rattle.sip_verdict.proofs.judges.DueLemmas.{judge_waits}
use Rattle.sip_verdict.proofs.stream.Judge.next_due.Goals as goal

-- some transaction is due at a moment exactly if its last moment is below it
pub returns-in-Open-clause-waits : goal.returns-in-Open-clause-waits
returns-in-Open-clause-waits g c es stands moment later =
    -- `is` says that the fields of the judge are those of what it holds, `may` that it may take a next entry, and `due` that `earliest` tells what is due
    let is = c.self.view_is in
    let may = subst (λ j. MayTake j.texts j.tables (j.number + 1) j.moment) is (c.self.invariant c.in-Open.is).0 in
    let due = subst (λ j. (due_of j.tables moment ≡ None) ↔ IfSome c.earliest.result (λ last. moment ≤ last)) is (c.earliest.ensures moment) in
    judge_waits c.args.self.now es stands may moment later (IfSome c.earliest.result (λ last. moment ≤ last)) due
