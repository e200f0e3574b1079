-- `c.loop-at.invariant`: .0, the place lies within the text; .1, each byte before it is a byte of a token.
use Rattle.std.proofs.Common.{◌+◌, ◌-◌, ◌≤◌, length, sym, subst, arith}
use Rattle.std.proofs.lemmas.List.Sums.{prefix_len_is}
use Rattle.sip_standard.specs.Profile.{Token}
use Rattle.sip_text.specs.Bytes.{is_token_byte}
use Rattle.sip_text.specs.Front.{IsLongestFront}
use Rattle.sip_text.proofs.texts.RunLemmas.{longest-run}
use Rattle.sip_text.proofs.texts.BlockLemmas.{block-passes, block-stops}
use Rattle.sip_text.proofs.token.token_len.Goals as goal

-- a text that is shorter than a block is looked at byte by byte
pub returns-then-text-lt-BLOCK-clause-reads : goal.returns-then-text-lt-BLOCK-clause-reads
returns-then-text-lt-BLOCK-clause-reads c =
    subst (IsLongestFront Token c.args.text.now) (sym c.run_len.ensures.run) (longest-run is_token_byte c.args.text.now)

-- where a byte of this block is no token byte, the token ends before it
pub returns-then-step-lt-BLOCK-clause-reads : goal.returns-then-step-lt-BLOCK-clause-reads
returns-then-step-lt-BLOCK-clause-reads c =
    -- `at` is where the block begins, and `step` how many of its bytes are of a token; all before it are
    let text = c.args.text.now in
    let at = c.loop-at.at in
    let step = c.block_len-step.result in
    let room : at + 16 ≤ length text = omega (arith, c.loop-at-test.true, c.if-text-lt-BLOCK.false) in
    -- the longest run is `at + step` bytes: those pass, and the next one, which is in the block, fails
    subst (IsLongestFront Token text)
    (prefix_len_is is_token_byte text (at + step) 0 (omega (arith, room, c.block_len-step.ensures.within)) (block-passes is_token_byte text at step room c.block_len-step.ensures.run c.loop-at.invariant.1)
    (λ _. block-stops is_token_byte text at step room c.block_len-step.ensures.run c.if-step-lt-BLOCK.true))
    (longest-run is_token_byte text)

-- after one block more, all bytes up to its end are token bytes
pub loop-at-preserved : goal.loop-at-preserved
loop-at-preserved c =
    let text = c.args.text.now in
    let at = c.loop-at.at in
    let step = c.block_len-step.result in
    let room : at + 16 ≤ length text = omega (arith, c.loop-at-test.true, c.if-text-lt-BLOCK.false) in
    (room, λ k below. block-passes is_token_byte text at step room c.block_len-step.ensures.run c.loop-at.invariant.1 k (omega (arith, below, c.if-step-lt-BLOCK.false)))

-- the last 16 bytes are looked at once more as a block, and the token ends where they say
pub returns-clause-reads : goal.returns-clause-reads
returns-clause-reads c =
    -- `last` is where the last block begins, and `step` how many of its bytes are of a token
    let text = c.args.text.now in
    let last = length text - 16 in
    let step = c.block_len.result in
    let room : last + 16 ≤ length text = omega (arith, c.if-text-lt-BLOCK.false) in
    -- the longest run is `last + step` bytes: those pass, and the next one, if the text has one, fails
    subst (IsLongestFront Token text)
    (prefix_len_is is_token_byte text (last + step) 0 (omega (arith, room, c.block_len.ensures.within)) (block-passes is_token_byte text last step room c.block_len.ensures.run (λ k below. c.loop-at.invariant.1 k (omega (arith, below, c.loop-at-test.false))))
    (λ short. block-stops is_token_byte text last step room c.block_len.ensures.run (omega (arith, short, room))))
    (longest-run is_token_byte text)
