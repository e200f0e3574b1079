use Rattle.std.proofs.Common.{refl, subst}
use Rattle.sip_standard.specs.Outcome.{stops}
use Rattle.sip_standard.specs.Says.{Says}
use Rattle.sip_verdict.proofs.showing.show_entry.Goals as goal

-- a message with a fault has no canonical form, and nothing is written
pub returns-in-Err-Fault : goal.returns-in-Err-Fault
returns-in-Err-Fault g c =
    let no_form = rw c.in-Err-Fault.field-0-is at c.in-Err-Fault.ensures.fault in
    (no_form.0, subst (λ bytes. Says bytes (stops c.in-Err-Fault.fault)) c.as_slice.ensures.value no_form.1, refl, refl)
