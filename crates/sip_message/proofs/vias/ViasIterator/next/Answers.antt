use Rattle.std.proofs.Common.{sym, ◌∙◌}
use Rattle.sip_message.proofs.lemmas.via.Elements.{One-none, One-read, One-next, One-first, yields-none, yields-nearer}
use Rattle.sip_message.specs.ValueParts.{element}
use Rattle.sip_message.proofs.vias.ViasIterator.next.Goals as goal

-- where no text is left, no element is left
pub returns-in_err-text-clause-steps : goal.returns-in_err-text-clause-steps
returns-in_err-text-clause-steps c = yields-none element _ _ c.from_residual.ensures (sym c.self.view_is ∙ One-none _ _ c.self.inside.left c.in_err-text.ensures)

-- an element always stands at the front of what is left, so this case cannot be
pub returns-in_err-via-clause-steps : goal.returns-in_err-via-clause-steps
returns-in_err-via-clause-steps c = absurd (One-read _ _ _ _ c.in_ok-text.ensures c.in_err-via.ensures c.self.inside.left)

-- what is left after the element is elements again
pub invariant_of-self-inside : goal.invariant_of-self-inside
invariant_of-self-inside c = (One-next _ _ _ _ _ _ c.in_ok-text.ensures c.in_ok-via.ensures c.self.inside.left, tt)

-- the element that is read is the first of those that are left
pub returns-clause-steps : goal.returns-clause-steps
returns-clause-steps c = sym c.self.view_is ∙ One-first _ _ _ _ _ _ c.in_ok-text.ensures c.in_ok-via.ensures c.self.inside.left _

-- after the element fewer elements are left than before it
pub returns-clause-goes : goal.returns-clause-goes
returns-clause-goes c = yields-nearer _ _ _ _ (sym c.self.view_is ∙ One-first _ _ _ _ _ _ c.in_ok-text.ensures c.in_ok-via.ensures c.self.inside.left _)
