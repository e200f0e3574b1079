use Rattle.std.specs.Prelude.{List, ℕ, ◌++◌, ◌∷◌, refl}
use Rattle.std.specs.Borrow.{Bor}
use Rattle.std.specs.List.{flat_map}
use Rattle.std.proofs.Common.{◌∙◌, ap}
use Rattle.sip_message.specs.inner.Marks.{comma}
use Rattle.sip_standard.specs.Solid.{solid}
use Rattle.sip_key.proofs.AckOfLemmas.{solid-begins}
use Rattle.sip_key.proofs.ack_of.SolidRoute.new.Goals as goal

-- the bytes begin with the first value, and a comma stands before each other one
pub returns : goal.returns
returns c =
    -- the first value was taken out of the values, or none was there and the rest is empty
    ap (λ (t : Bor (List ℕ)). solid t.now ++ flat_map (λ value. comma ∷ solid value) c.next.new.self) c.unwrap_or-rest.ensures
    ∙ solid-begins c.args.values c.next.new.self c.next.result _ c.next.ensures.steps refl
