use Rattle.std.proofs.Common.{◌∙◌, sym, ap}
use Rattle.std.specs.Option.{option_copied}
use Rattle.sip_standard.specs.Case.{folded}
use Rattle.sip_part.proofs.Told.{plain_told}
use Rattle.sip_part.proofs.part.Part.has_message.Goals as goal

-- where a branch stands plainly in the message, it tells whether the message falls into the part
pub returns-in-Some : goal.returns-in-Some
returns-in-Some c =
    let plain = c.in-Some.branch.now in
    -- the message falls by this branch in lower case, since it stands plainly in it
    (folded plain, plain_told c.args.bytes.now plain (sym c.led_branch.ensures ∙ ap option_copied c.in-Some.is), c.has_branch.ensures)
