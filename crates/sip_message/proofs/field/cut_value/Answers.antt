use Rattle.std.proofs.Common.{◌∙◌, sym}
use Rattle.sip_message.proofs.lemmas.via.Elements.{values-found, values-passed}
use Rattle.sip_message.proofs.lemmas.field.Named.{found-here, found-passed}
use Rattle.sip_message.proofs.field.cut_value.Goals as goal

-- the values from here on begin with the one that was found
pub returns-then-is-clause-values : goal.returns-then-is-clause-values
returns-then-is-clause-values c = c.loop-at.invariant.values ∙ values-found c.args.name _ c.loop-at.at _ c.loop-at-test.true (sym c.is.ensures ∙ c.if-is.true)

-- the first field of the name is the one that was found
pub returns-then-is-clause-found : goal.returns-then-is-clause-found
returns-then-is-clause-found c = c.loop-at.invariant.found ∙ found-here c.args.name _ c.loop-at.at _ c.loop-at-test.true (sym c.is.ensures ∙ c.if-is.true)

-- a field of another name is passed over
pub loop-at-preserved : goal.loop-at-preserved
loop-at-preserved c = record {
  -- the field at the place of the loop has another name, so nothing that is looked for is passed over
  values = c.loop-at.invariant.values ∙ values-passed c.args.name _ c.loop-at.at _ c.loop-at-test.true (sym c.is.ensures ∙ c.if-is.false);
  found = c.loop-at.invariant.found ∙ found-passed c.args.name _ c.loop-at.at _ c.loop-at-test.true (sym c.is.ensures ∙ c.if-is.false);
}
