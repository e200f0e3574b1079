use Rattle.sip_ledger.proofs.Lemmas.{arith, kept-all, kept-more, length, rise-above, rise-few, [], ◌<◌, ◌∙◌}
use Rattle.sip_ledger.proofs.accounts.Accounts.keep.Goals as goal

-- the new place is not past the old one
pub copy-requires-clause-to : goal.copy-requires-clause-to
copy-requires-clause-to c = grind (arith, [], rise-above, rise-few, kept-more, kept-all)

-- one row more stands in its new place
pub loop-to-preserved : goal.loop-to-preserved
loop-to-preserved c =
    let inside : c.loop-to.to < length c.args.rows.now = omega arith in
    rw c.copy.ensures
    (kept-more [] c.args.rows.now c.loop-to.to c.args.self.now c.loop-to.self c.loop-to.invariant c.requires.rising inside c.requires.within)

-- at the end of the loop the rows are those that are kept, in their order
pub returns : goal.returns
returns c =
    let places = c.args.rows.now in
    let old = c.args.self.now in
    c.truncate.ensures
    ∙ kept-all [] places c.loop-to.to old c.loop-to.self c.loop-to.invariant (omega arith) (rise-few places (length old) c.requires.rising c.requires.within)
