use Rattle.std.proofs.Common.{[], sym, subst, refl}
use Rattle.sip_message.specs.inner.Only.{IsOnly}
use Rattle.sip_message.specs.inner.ElementFronts.{AreLeft}
use Rattle.sip_message.specs.inner.Codes.{elements_code}
use Rattle.sip_message.proofs.lemmas.via.Elements.{One-is, One-of, nothing-left, left-of_nothing}
use Rattle.sip_message.proofs.vias.Vias.new.Goals as goal

-- at first all elements of the fields are left
pub invariant_of-result : goal.invariant_of-result
invariant_of-result c = (One-of _ _ (nothing-left [] _ _ refl c.requires.1.is) (λ es left. c.requires.1.only es (left-of_nothing _ es left)), tt)

-- the elements are those that the fields say
pub returns : goal.returns
returns c = subst (IsOnly _) (sym (One-is elements_code (AreLeft [] _) _ c.requires.0 (nothing-left [] _ _ refl c.requires.1.is))) c.requires.1
