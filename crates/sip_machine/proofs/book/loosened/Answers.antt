use Rattle.std.proofs.Common.{◌∙◌}
use Rattle.sip_machine.proofs.texts.NewestLaws.{never_found}
use Rattle.sip_machine.proofs.book.loosened.Goals as goal

-- no other message has the same bytes, so the search finds none
pub returns-in-Ok : goal.returns-in-Ok
returns-in-Ok c =
    let found = c.in-Ok.ensures.found in
    absurd (never_found c.args.kept.now c.in-Some.others.now c.in-Some.newest.now c.in-Some.ensures.cases.0 c.requires.book c.in-Ok.field-0 found.0 (found.1 ∙ c.as_slice-bytes.ensures.value))
