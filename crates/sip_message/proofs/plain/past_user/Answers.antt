use Rattle.std.proofs.Common.{inr}
use Rattle.sip_standard.specs.Text.{◌then◌}
use Rattle.sip_text.specs.Bytes.{at_sign, Byte}
use Rattle.sip_message.specs.inner.Plain.{PlainRun}
use Rattle.sip_message.proofs.PlainLemmas.{stands-as, then-stands}
use Rattle.sip_message.proofs.PlainUriLemmas.{PlainUser}
use Rattle.sip_message.proofs.plain.past_user.Goals as goal

-- a plain run and an `@` are a user
pub returns-in-Some : goal.returns-in-Some
returns-in-Some c =
    -- m is the text: the run ends at the place of the "@", after which the host begins
    let m = c.args.masks.now in
    stands-as (PlainRun then Byte at_sign) PlainUser m c.args.at c.args.end c.in-Some.host (λ u is. inr is)
    (then-stands PlainRun (Byte at_sign) m c.args.at c.args.end c.in_ok-user.user c.in-Some.host c.in_ok-user.ensures c.in-Some.ensures)
