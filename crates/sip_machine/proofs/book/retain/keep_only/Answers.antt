use Rattle.std.proofs.Common.{◌<◌, ℕ, List, length, arith}
use Rattle.sip_machine.specs.declared.book.KeptMessage.{KeptMessage}
use Rattle.sip_machine.proofs.texts.RetainLemmas.{keeps_more, keeps_less, keeps_end}
use Rattle.sip_machine.proofs.book.retain.keep_only.Goals as goal
use Rattle.sip_machine.proofs.book.retain.keep_only.Goals.{then-left-numbers+then-index-numbers, else-left-numbers, else-left-numbers-via-then-left-numbers+else-index-numbers, else-left-numbers-via-else-left-numbers}

-- a kept message as the book has it: its number and its bytes
abbrev text : KeptMessage → ℕ × List ℕ
text k = (k.number, k.bytes.items)

-- of the messages up to here, those that are among the numbers are kept, in their order
pub loop-i-preserved : goal.loop-i-preserved
loop-i-preserved c =
    -- old are the messages before, now those that are kept or not looked at yet, left are the numbers that were not met yet, and i is the next place
    let old = c.args.kept.now.items in
    let now = c.loop-i.kept.items in
    let numbers = c.args.numbers.now in
    let left = c.loop-i.left in
    let i = c.loop-i.i in
    let low : i < length now = omega arith in
    elim c.if-left-numbers.branch [
      -- the next number is that of the message, so it is kept
      | then-left-numbers+then-index-numbers w ↦
          rw (w.kept-is, w.left-is)
          (keeps_more text numbers old now left i c.loop-i.invariant w.index.result.now low w.index.ensures w.if-left-numbers.true w.if-index-numbers.true w.swap.new.self.items w.swap.ensures.by_index)
      -- the next number is another one, or none is left, so the message goes
      | else-left-numbers w ↦ rw (w.kept-is, w.left-is) (elim w.else-left-numbers.branch [
        | else-left-numbers-via-then-left-numbers+else-index-numbers u ↦
            keeps_less text numbers old now left i c.loop-i.invariant u.index.result.now low u.index.ensures u.if-left-numbers.true u.if-index-numbers.false
        | else-left-numbers-via-else-left-numbers u ↦
            keeps_end text numbers old now left i c.loop-i.invariant low u.if-left-numbers.false
      ])
    ]
