use Rattle.std.proofs.Common.{◌/◌}
use Rattle.sip_masks.proofs.WordLemmas.{from_place}
use Rattle.sip_masks.proofs.masks.word_at.Goals as goal

-- bit j of the answer is bit p + j of the words
pub returns : goal.returns
returns c j h =
    let words = c.args.words.now in
    -- `from_place`: a word that is put together of two is the 64 bits from a place on
    from_place words c.args.p j (c.type_inv.words (c.args.p / 64)).fits h
