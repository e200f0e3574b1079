use Rattle.std.proofs.Common.{◌≡◌, ◌∙◌, MatchOption, length, ap, subst}
use Rattle.sip_states.specs.Tables.{HasNumber, IsGiven}
use Rattle.sip_verdict.proofs.judges.JudgeLemmas.{key_named}
use Rattle.sip_verdict.proofs.stream.Judge.key.Goals as goal

-- the tables give the key of the transaction, or have none with the number
pub returns-clause-named : goal.returns-clause-named
returns-clause-named g c es stands =
    -- `is` says that the fields of the judge are those of what it holds, `may` that it may take a next entry, and `found` what the tables answer
    let is = c.self.view_is in
    let may = (c.self.invariant (ap (λ j. j.stage) is ∙ stands.goes_on)).0 in
    let number = c.args.transaction in
    let found = subst (λ j. MatchOption c.key.result (¬ (IsGiven j.tables number)) (λ key. IsGiven j.tables number × HasNumber j.tables key.now number)) is c.key.ensures in
    key_named c.args.self.now es stands (subst (λ t. length t.sets ≡ length t.keys) (ap (λ j. j.tables) is) may.passes.long) (λ key. key.now) number c.key.result found
