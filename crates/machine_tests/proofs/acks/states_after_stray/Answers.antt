use Rattle.std.proofs.Common.{arith, subst}
use Rattle.sip_machine.specs.Texts.{Keeps}
use Rattle.machine_tests.proofs.acks.states_after_stray.Goals as goal

-- the book keeps no message with the number of the stray ACK or a greater one: none above `last`, and that number is above `last`, as was tested
pub keep_text-requires : goal.keep_text-requires
keep_text-requires c = λ n keeps.
    let low = c.in_ok-last.ensures n (subst (λ book. Keeps book n) c.keep_to.ensures keeps) in
    let above = c.if-last-ge-STRAY.false in
    omega (arith, low, above)
