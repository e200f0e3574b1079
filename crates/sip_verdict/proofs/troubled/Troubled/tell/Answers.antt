use Rattle.std.proofs.Common.{◌++◌, ◌∙◌, [], map, ap, append_assoc, sym, refl, subst, arith}
use Rattle.std.proofs.lemmas.List.{append-nil}
use Rattle.sip_verdict.specs.inner.Surveying.{AreAscending}
use Rattle.sip_verdict.specs.declared.finding.Finding.TheVariants.{Breach, Undecided}
use Rattle.sip_verdict.proofs.troubled.Troubled.tell.Goals as goal

-- nothing is in trouble at the entry, so nothing is told
pub returns-then-is_fresh-clause-told : goal.returns-then-is_fresh-clause-told
returns-then-is_fresh-clause-told c =
    let fresh = c.if-is_fresh.ensures.0 refl in
    -- the empty list is in order, and has just the numbers of the empty list
    let none : AreAscending [] [] = ((λ i j d low high. absurd (omega arith)), (λ n. ((λ h. h), (λ h. h)))) in (
      [],
      [],
      subst (λ numbers. AreAscending numbers []) (sym fresh.broken) none,
      subst (λ numbers. AreAscending numbers []) (sym fresh.wide) none,
      sym (append-nil c.args.found.now.items),
    )

-- the breaches are found first and then what is undecided, each in the order of their numbers
pub returns-clause-told : goal.returns-clause-told
returns-clause-told c =
    let entry = c.args.entry in
    let broken = c.keep_ascending.new.numbers.items in
    let wide = c.keep_ascending-2.new.numbers.items in
    let old = c.args.found.now.items in
    -- the breaches were appended, and then what is undecided
    let first = c.in_ok-push_breaches.ensures.pushed ∙ ap (λ ns. old ++ map (λ transaction. Breach entry transaction) ns) c.as_slice.ensures.value in
    let second = c.in_ok-push_undecided.ensures.pushed ∙ ap (λ ns. c.push_breaches.new.found.items ++ map (λ transaction. Undecided entry transaction) ns) c.as_slice-2.ensures.value in (
      broken,
      wide,
      (c.keep_ascending.ensures.rising, c.keep_ascending.ensures.members),
      (c.keep_ascending-2.ensures.rising, c.keep_ascending-2.ensures.members),
      -- the findings are those before, then the breaches, then what is undecided
      second ∙ ap (λ xs. xs ++ map (λ transaction. Undecided entry transaction) wide) first
          ∙ append_assoc old (map (λ transaction. Breach entry transaction) broken) (map (λ transaction. Undecided entry transaction) wide),
    )
