use Rattle.sip_text.proofs.texts.BlockLemmas.{high_ok, by_high-is}
use Rattle.sip_text.proofs.token.by_high.Goals as goal

-- each high half is an index of the table
pub swizzle : goal.swizzle
swizzle c = high_ok c.args.block c.fits-block

-- each lane is the entry of its high half
pub returns : goal.returns
returns c = by_high-is c.args.block c.fits-block
