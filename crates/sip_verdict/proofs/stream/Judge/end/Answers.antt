use Rattle.std.proofs.Common.{◌≡◌, ◌∙◌, length, ap, subst}
use Rattle.sip_verdict.proofs.judges.JudgeLemmas.{legal_is}
use Rattle.sip_verdict.proofs.stream.Judge.end.Goals as goal

-- no entry is in trouble, so the log is legal
pub returns-in-Open-clause-legal : goal.returns-in-Open-clause-legal
returns-in-Open-clause-legal g c es stands =
    -- `is` says that the fields of the judge are those of what it holds, and `may` that it may take a next entry, so that each key has a set
    let is = c.self.view_is in
    let may = (c.self.invariant c.in-Open.is).0 in
    legal_is c.args.self es stands (subst (λ t. length t.sets ≡ length t.keys) (ap (λ j. j.tables) is) may.passes.long) c.self.inside.number c.transactions.result (ap (λ j. j.number) is)
    (c.transactions.ensures ∙ ap (λ j. length j.tables.keys) is)
