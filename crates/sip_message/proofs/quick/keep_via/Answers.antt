use Rattle.std.proofs.Common.{rules, ◌≡◌, Some, false, refl}
use Rattle.std.specs.Prelude.{is_some}
use Rattle.sip_message.specs.inner.Plain.{segment}
use Rattle.sip_message.specs.inner.ElementFronts.{FirstVia}
use Rattle.sip_message.proofs.lemmas.front.OneWay.{read-one}
use Rattle.sip_message.proofs.lemmas.via.Value.{one-first}
use Rattle.sip_message.proofs.lemmas.asked.Asked.{or-none}
use Rattle.sip_message.specs.ValueParts.{element}
use Rattle.sip_message.proofs.quick.keep_via.Goals as goal

-- where no Via was kept before, this one is the top one
pub returns-in-Some : goal.returns-in-Some
returns-in-Some c =
    -- `none`: the test says that none was kept
    let text = segment c.args.at c.args.end c.args.masks.now in
    let none : is_some c.args.kept.now ≡ false = search rules in (
      Some c.in-Some.via,
      read-one (FirstVia text) (element c.in-Some.via) (one-first text) c.in-Some.ensures,
      refl,
      or-none c.args.kept.now (Some c.in-Some.via) none,
    )
