use Rattle.sip_text.proofs.texts.BlockLemmas.{low_ok, by_low-is}
use Rattle.sip_text.proofs.token.by_low.Goals as goal

-- each low half is an index of the table
pub swizzle : goal.swizzle
swizzle c = low_ok c.args.block c.fits-block

-- each lane is the entry of its low half
pub returns : goal.returns
returns c = by_low-is c.args.block c.fits-block
