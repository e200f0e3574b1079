-- `c.elements.invariant`: .0, where the rest is further elements, the whole text is; .1, where the text is, the rest is.
use Rattle.std.proofs.Common.{length, sym, ap, ◌∙◌}
use Rattle.std.proofs.lemmas.Bool.{false≢true, eqb-true, eq-eqb}
use Rattle.std.proofs.lemmas.List.{nil_from_length}
use Rattle.sip_message.proofs.lemmas.via.Value.{vias-none, vias-behind, more-behind, more-none}
use Rattle.sip_message.specs.ValueParts.{element}
use Rattle.sip_message.proofs.via.are_more_vias.Goals as goal

-- where no element follows a comma, the text is not further elements
pub returns-in_default-read_via : goal.returns-in_default-read_via
returns-in_default-read_via c = (
  -- the answer is no, so it is not yes
  λ is. absurd (false≢true is),
  -- the text would be further elements, and so what follows the comma elements, but none is read there
  λ are. absurd (vias-none c.in-Some.next.now c.in_default-read_via.ensures ((more-behind c.elements.rest.now c.in-Some.next.now c.in-Some.ensures).0 (c.elements.invariant.1 are))),
)

-- after one element more, the text is elements exactly if what is left is
pub elements-preserved : goal.elements-preserved
elements-preserved c =
    -- `behind` says what holds of the text after the comma, and `first` of that after the element
    let behind = more-behind c.elements.rest.now c.in-Some.next.now c.in-Some.ensures in
    let first = vias-behind c.in-Some.next.now c.in-Some-read_via.more.now (element c.in-Some-read_via.field-0-0) c.in-Some-read_via.ensures in
    (λ more. c.elements.invariant.0 (behind.1 (first.1 more)), λ text. first.0 (behind.0 (c.elements.invariant.1 text)))

-- no comma is left, so the elements are all there are
pub returns : goal.returns
returns c =
    -- no comma stands at the front of what is left, so it is further elements exactly if it is empty
    let none = more-none c.elements.rest.now c.in_default.ensures in (
      (λ is. c.elements.invariant.0 (none.1 (nil_from_length c.elements.rest.now (eqb-true (length c.elements.rest.now) 0 (sym c.is_empty.ensures ∙ is))))),
      (λ are. c.is_empty.ensures ∙ eq-eqb (length c.elements.rest.now) 0 (ap length (none.0 (c.elements.invariant.1 are)))),
    )
