-- `Says-fault` and `Says-value` take what comes by the bytes that are held and those left, ys, to the whole input: a fault, and a value.
-- `AtMessage-open` and `AtMessage-gives` say what comes by a message, with no line feed after it or with one.
use Rattle.std.proofs.Common.{◌<◌, ◌+◌, List, ℕ, length, take, drop, get_or, arith, ap, sym, ◌∙◌}
use Rattle.sip_standard.specs.declared.log_reason.LogReason.TheVariants as faults
use Rattle.sip_log.specs.Next.{gives}
use Rattle.sip_log.specs.inner.Entry.{MessageComes}
use Rattle.sip_log.specs.inner.Window.{items}
use Rattle.sip_log.proofs.answers.SaysLemmas.{Says-value, Says-fault}
use Rattle.sip_log.proofs.lines.MessageLemmas.{AtMessage-open, AtMessage-gives}
use Rattle.sip_log.proofs.entry.read_message.Goals as goal

-- where no line feed stands after the message, the fault is that of an entry's line
pub returns-then-held-len-ne10-clause-says : goal.returns-then-held-len-ne10-clause-says
returns-then-held-len-ne10-clause-says g c =
    let hold = c.in_ok-hold.ensures in
    -- held are the bytes that are held, of which the message takes len, and one more is there, which is no line feed
    let len = c.args.len in
    let held = items c.hold.new.self in
    let inside : len < length held = omega (arith, hold.some) in
    let byte = ap (λ (t : List ℕ). get_or t len 0) c.as_slice-held.ensures.value in
    Says-fault hold.reads (MessageComes c.args.action c.args.moment len) faults.EntryLine
    (λ ys left. AtMessage-open c.args.action c.args.moment len held ys inside (λ same. c.if-held-len-ne10.true (byte ∙ same)))

-- where a line feed stands after the bytes of the message, the entry with these bytes comes
pub returns-clause-says : goal.returns-clause-says
returns-clause-says g c =
    let hold = c.in_ok-hold.ensures in
    let len = c.args.len in
    let held = items c.hold.new.self in
    let inside : len < length held = omega (arith, hold.some) in
    -- the byte after the message is looked at
    let byte = ap (λ (t : List ℕ). get_or t len 0) c.as_slice-held.ensures.value in
    -- `text` says that the bytes of the answer are those of the message, which are the first of what is held
    let text = (rw c.requires.empty at c.in_ok-extend_from_slice.ensures.items) ∙ ap (take len) c.as_slice-held.ensures.value in
    rw c.consume.ensures
    (Says-value hold.reads (MessageComes c.args.action c.args.moment len) (drop (len + 1) held)
    (λ behind. gives (record { action = c.args.action; moment = c.args.moment; text = c.extend_from_slice.new.self.items }) behind)
    (λ ys left. AtMessage-gives c.args.action c.args.moment len held ys _ inside (sym byte ∙ c.if-held-len-ne10.false) text))
