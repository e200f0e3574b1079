use Rattle.std.proofs.Common.{◌∙◌, sym, arith}
use Rattle.sip_log.specs.Told.{item}
use Rattle.sip_verdict.proofs.taking.read_on_cut.Goals as goal

-- the cut entry has the number and the moment of the entry that was read
pub returns-in_ok-cut_to-in-Entry-clause-moves : goal.returns-in_ok-cut_to-in-Entry-clause-moves
returns-in_ok-cut_to-in-Entry-clause-moves g c =
    -- `moves` says what was read, and `cut` what became of the entry: the order and the limit of moments hold of the cut one too
    let moves = rw c.in-Entry.is at c.in_ok-entry.ensures.moves in
    let cut = c.in_ok-cut_to-in-Entry.ensures in
    let order = moves.1.order in
    let high = moves.1.moment_high in
    let moment = cut.moment in
    (moves.0, cut.number ∙ moves.1.number_is, omega (arith, order, moment), omega (arith, high, moment), moves.2 ∙ sym moment)

-- what was read is what was read before and the entry, which is taken as the part has it
pub returns-in_ok-cut_to-in-Entry-clause-gives : goal.returns-in_ok-cut_to-in-Entry-clause-gives
returns-in_ok-cut_to-in-Entry-clause-gives g c = λ start times items read.
    (item c.in-Entry.entry, (rw c.in-Entry.is at c.in_ok-entry.ensures.gives) start times items read, c.in_ok-cut_to-in-Entry.ensures.cut)
