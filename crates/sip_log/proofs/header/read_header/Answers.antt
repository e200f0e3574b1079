-- `Says-fault` and `Says-step` take what comes by the bytes that are held and those left, ys, to the whole input: a fault, and what an inner call answers.
-- `ComesFirst-..` say what comes first in an input, by its first twelve bytes.
use Rattle.std.proofs.Common.{drop}
use Rattle.sip_standard.specs.declared.log_reason.LogReason.TheVariants as faults
use Rattle.sip_log.specs.inner.Header.{HeaderComes, ComesSecond}
use Rattle.sip_log.specs.Next.{gives}
use Rattle.sip_log.specs.inner.Window.{items}
use Rattle.sip_log.proofs.answers.SaysLemmas.{Says-step, Says-fault}
use Rattle.sip_log.proofs.headers.HeaderLemmas.{ComesFirst-other, ComesFirst-second}
use Rattle.sip_log.proofs.header.read_header.Goals as goal

-- where the first line is not the title of a format, the fault is that of the header
pub returns-in_default : goal.returns-in_default
returns-in_default g c =
    let hold = c.in_ok-hold.ensures in
    let held = items c.hold.new.self in
    Says-fault hold.reads HeaderComes faults.Header
    (λ ys left. ComesFirst-other held ys (hold.some c.if-not-branch.false) (rw c.as_slice.ensures.value at c.in_default.ensures))

-- where the first line is that of a format, what comes is what comes after it
pub returns : goal.returns
returns g c =
    let hold = c.in_ok-hold.ensures in
    let held = items c.hold.new.self in
    let format = c.in-Some.format in
    Says-step hold.reads HeaderComes (drop 12 held) _ _ (ComesSecond format) gives c.read_second.result
    (λ ys next left behind. ComesFirst-second held ys format next (rw c.as_slice.ensures.value at c.in-Some.ensures) behind)
    (rw (← c.consume.ensures) c.read_second.ensures)
