use Rattle.sip_ledger.proofs.Lemmas.{arith, at-apart, at-more, end-other, end-same, false≢true, rules, sym, ◌∙◌, ◌≡◌, ◌≢◌}
use Rattle.sip_ledger.proofs.accounts.account.same.Goals.{then-loop-at-test+else-beside-other, else-loop-at-test}
use Rattle.sip_ledger.proofs.accounts.account.same.Goals as goal

-- both owe one debt more that is the same
pub loop-at-preserved : goal.loop-at-preserved
loop-at-preserved c =
    let same : c.debt_for.result ≡ c.debt_for-in-loop-at.result = search rules in
    at-more c.requires.one c.requires.other c.debt_for.result c.loop-at.invariant c.loop-at-test.true c.if-beside-other.true c.debt_for.ensures (same ∙ c.debt_for-in-loop-at.ensures)
    c.shared-count.ensures c.next-at.ensures c.next-beside.ensures

-- the next debts of the two differ, so the two do not owe the same
pub returns-then-ne : goal.returns-then-ne
returns-then-ne c =
    let apart : c.debt_for.result ≢ c.debt_for-in-loop-at.result = search rules in (
      λ none. absurd (false≢true none),
      λ same. absurd (at-apart c.requires.one c.requires.other c.loop-at.invariant c.loop-at-test.true c.if-beside-other.true
          (λ is. apart (c.debt_for.ensures ∙ is ∙ sym c.debt_for-in-loop-at.ensures)) same),
    )

-- both accounts end here, so they owe the same
pub returns-then-at-one : goal.returns-then-at-one
returns-then-at-one c = end-same c.requires.one c.requires.other c.loop-at.invariant c.if-at-one.true

-- one account ends here and the other goes on, so they owe different things
pub returns-else-at-one : goal.returns-else-at-one
returns-else-at-one c =
    let was = c.loop-at.invariant in
    let other = c.if-at-one.false in
    elim c.loop-at-test.branch [
      | then-loop-at-test+else-beside-other w ↦ end-other c.requires.one c.requires.other was other w.if-beside-other.false
      | else-loop-at-test w ↦ let past = w.loop-at-test.false in absurd (omega (arith, was.told.end, other, past))
    ]
