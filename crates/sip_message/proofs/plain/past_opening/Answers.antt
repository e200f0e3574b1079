use Rattle.std.proofs.Common.{inl, inr}
use Rattle.std.proofs.lemmas.Option.{IfSome_then}
use Rattle.sip_standard.specs.Text.{◌then◌}
use Rattle.sip_standard.specs.Profile.{Sws}
use Rattle.sip_text.specs.Bytes.{Byte}
use Rattle.sip_message.specs.inner.Marks.{left_angle}
use Rattle.sip_message.specs.inner.AddressFronts.{DisplayName, Opening}
use Rattle.sip_message.proofs.PlainLemmas.{stands-as, then-stands}
use Rattle.sip_message.proofs.plain.past_opening.Goals as goal

-- a `<` alone opens an address
pub returns-in-Some : goal.returns-in-Some
returns-in-Some c = stands-as (Byte left_angle) Opening c.args.masks.now c.args.at c.args.end c.in-Some.inner (λ u is. inl is) c.in-Some.ensures

-- a display name, a blank and `<` open an address
pub returns : goal.returns
returns c =
    -- m is the text: the name ends at `name`, and the blank after it at `behind`, where `<` is looked for
    let m = c.args.masks.now in
    let name = c.in_ok-name.name in
    let behind = c.past_space.result in
    IfSome_then c.past_byte-2.result c.past_byte-2.ensures (λ to angle.
    stands-as (DisplayName then Sws then Byte left_angle) Opening m c.args.at c.args.end to (λ u is. inr is)
    (then-stands DisplayName (Sws then Byte left_angle) m c.args.at c.args.end name to c.in_ok-name.ensures
    (then-stands Sws (Byte left_angle) m name c.args.end behind to c.past_space.ensures angle)))
