use Rattle.sip_numbers.proofs.PlaceLemmas.{lesser}
use Rattle.sip_numbers.proofs.numbers.is_after.Goals as goal

-- the word before the place is of a lesser block
pub returns-else-place-eq0 : goal.returns-else-place-eq0
returns-else-place-eq0 c = lesser c.args.block c.requires.words c.args.place c.if-place-eq0.false c.requires.place
