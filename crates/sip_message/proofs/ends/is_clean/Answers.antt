use Rattle.std.proofs.Common.{false, refl, arith}
use Rattle.std.proofs.lemmas.Bool.{both_ways, not-true}
use Rattle.sip_message.proofs.lemmas.lines.HeadEnd.{clean-each, clean-opens, each-clean, is_not}
use Rattle.sip_message.proofs.ends.is_clean.Goals as goal

-- where a CR stands without its LF, or a LF without its CR, the head is not clean
pub returns-then-not-is_paired : goal.returns-then-not-is_paired
returns-then-not-is_paired c = (
  -- the answer is no, so it is not yes
  (λ is. absurd (both_ways false refl is)),
  -- a clean head would be paired at this place, which the code's test denies
  (λ clean. absurd (both_ways c.is_paired.result c.if-not-is_paired.true
      (c.is_paired.ensures.1 (clean-each c.args.head.now clean c.loop-at.at c.loop-at-test.true)))),
)

-- a head is clean exactly if it does not begin with a line feed, and each CR has its LF and each LF its CR
pub returns : goal.returns
returns c =
    -- `begins` says whether the head begins with a LF
    let head = c.args.head.now in
    let begins = c.begins_with_feed.result in (
      (λ no. each-clean head (λ k from to. c.loop-at.invariant k from (omega (arith, to, c.loop-at-test.false)))
          (λ feed. both_ways begins (not-true begins no) (c.begins_with_feed.ensures.1 feed))),
      (λ clean. is_not begins (λ feed. clean-opens head clean (c.begins_with_feed.ensures.0 feed))),
    )
