use Rattle.std.proofs.Common.{◌<◌, ◌-◌, ◌∙◌, inl, inr, Some, length, refl, sym, ap, subst, arith}
use Rattle.std.proofs.lemmas.Option.{slice_get-get_or}
use Rattle.sip_verdict.specs.inner.Histories.{SpellsBranch}
use Rattle.sip_verdict.proofs.histories.Histories.note.Goals as goal

-- where the transaction has a history, the entry becomes its last one, and its first one and its branch stay
pub returns-then-index-len-clause-noted : goal.returns-then-index-len-clause-noted
returns-then-index-len-clause-noted c =
    let before = c.index_mut.result.now in
    let old = c.args.self.now.each.items in
    let inside : c.args.number - 1 < length old = omega (arith, c.if-index-len.true, c.len.ensures) in
    inl (record {
      before = before;
      -- the history under the number is written anew, and only its last entry is another one
      after = record { branch = before.branch; first = before.first; last = c.args.entry.now.number };
      -- `was`: the old history stood under the number; `is`: nothing else was written
      was = slice_get-get_or old (c.args.number - 1) _ inside ∙ ap Some (sym c.index_mut.ensures.value);
      is = refl;
      branch = refl;
      first = refl;
      last = refl;
    })

-- where the transaction has no history yet, the entry becomes its first one and its last one, with the branch as the message spells it
pub returns-clause-noted : goal.returns-clause-noted
returns-clause-noted c =
    let number = c.args.entry.now.number in
    inr (record {
      begun = record { branch = c.in_ok-branch.branch; first = number; last = number };
      -- the new history stands after the others
      beyond = omega (arith, c.if-index-len.false, c.len.ensures);
      is = c.in_ok-push.ensures.items;
      branch = subst (λ t. SpellsBranch t c.in_ok-branch.branch.items) c.as_slice.ensures.value c.in_ok-branch.ensures;
      first = refl;
      last = refl;
    })
