use Rattle.std.proofs.Common.{refl, subst, rules, string_bytes}
use Rattle.sip_verdict.specs.inner.Numbering.{AppendsListing}
use Rattle.sip_verdict.proofs.standing.Standing.text.Goals.{in-None+in_ok-push_str-in-None, in-Own+in_ok-push_one-in-Own, in-OwnAndCancelled+in_ok-push_one-in-OwnAndCancelled+in_ok-push_one-in-OwnAndCancelled-2}
use Rattle.sip_verdict.proofs.standing.Standing.text.Goals as goal

-- the text is that of no transaction, of the entry's own one, or of its own one and the cancelled one; w is what is given on each way
pub returns-clause-text : goal.returns-clause-text
returns-clause-text g c =
    let t = c.args.self.now.tables in
    elim c.match-numbers.branch [
      | in-None+in_ok-push_str-in-None w ↦ rw (w.in-None.is, w.text-is) search rules
      | in-Own+in_ok-push_one-in-Own w ↦ rw (w.in-Own.is, w.text-is)
          (string_bytes w.push_one.new.text, subst (λ old. AppendsListing t w.in-Own.own old (string_bytes w.push_one.new.text)) c.new-text.ensures.bytes w.in_ok-push_one-in-Own.ensures, refl)
      -- the text of the own transaction, and then that of the cancelled one
      | in-OwnAndCancelled+in_ok-push_one-in-OwnAndCancelled+in_ok-push_one-in-OwnAndCancelled-2 w ↦ rw (w.in-OwnAndCancelled.is, w.text-is) (
        string_bytes w.push_one-in-OwnAndCancelled.new.text,
        subst (λ old. AppendsListing t w.in-OwnAndCancelled.own old (string_bytes w.push_one-in-OwnAndCancelled.new.text)) c.new-text.ensures.bytes w.in_ok-push_one-in-OwnAndCancelled.ensures,
        (string_bytes w.push_one-in-OwnAndCancelled-2.new.text, w.in_ok-push_one-in-OwnAndCancelled-2.ensures, refl),
      )
    ]
