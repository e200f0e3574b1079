-- v is the 16 bytes of the block, `long` says that they are so many, and `fits` that each of them is a byte.
use Rattle.std.proofs.Common.{eqb, sym, ap, ◌∙◌, arith, w8}
use lib.Count.{count_trailing_zeros}
use lib.Lanes.{chunk}
use Rattle.std.proofs.lemmas.Simd.{length-chunk, chunk-fits, bitmask_splat, leading_from_mask_l, trailing_mask_l}
use Rattle.std.proofs.lemmas.List.Sums.{prefix_len-le-length}
use Rattle.sip_text.specs.Bytes.{is_token_byte}
use Rattle.sip_text.proofs.texts.BlockLemmas.{shares, others, long-and, block-run}
use Rattle.sip_text.proofs.token.block_len.Goals as goal

-- all bytes of the block are bytes of tokens
pub returns-then-others-eq0-clause-run : goal.returns-then-others-eq0-clause-run
returns-then-others-eq0-clause-run c =
    let v = chunk c.args.at 16 c.args.text.now in
    let long = length-chunk c.args.at 16 c.args.text.now c.requires in
    let fits = chunk-fits w8 c.args.at 16 c.args.text.now c.type_inv.text in
    -- `bits` says that the mask has a bit for each byte of the block whose two entries share no bit, which is none of a token
    let bits = bitmask_splat w8 eqb _ 16 0 (long-and v _ _ _ _ long c.by_low.ensures c.by_high.ensures) (omega arith) ∙ others v _ _ c.by_low.ensures c.by_high.ensures in
    sym (leading_from_mask_l (λ x. eqb (shares x) 0) v (sym bits ∙ c.if-others-eq0.true) ∙ long) ∙ block-run v fits

-- the first byte that shares no bit ends the run
pub returns-else-others-eq0-clause-run : goal.returns-else-others-eq0-clause-run
returns-else-others-eq0-clause-run c =
    let v = chunk c.args.at 16 c.args.text.now in
    let long = length-chunk c.args.at 16 c.args.text.now c.requires in
    let fits = chunk-fits w8 c.args.at 16 c.args.text.now c.type_inv.text in
    -- `bits` says that the mask has a bit for each byte of the block whose two entries share no bit, which is none of a token
    let bits = bitmask_splat w8 eqb _ 16 0 (long-and v _ _ _ _ long c.by_low.ensures c.by_high.ensures) (omega arith) ∙ others v _ _ c.by_low.ensures c.by_high.ensures in
    ap (count_trailing_zeros 64) bits ∙ trailing_mask_l (λ x. eqb (shares x) 0) 64 v (omega (arith, long)) (omega (arith, bits, c.if-others-eq0.false)) ∙ block-run v fits

-- the run is no longer than the block
pub returns-else-others-eq0-clause-within : goal.returns-else-others-eq0-clause-within
returns-else-others-eq0-clause-within c =
    let v = chunk c.args.at 16 c.args.text.now in
    let long = length-chunk c.args.at 16 c.args.text.now c.requires in
    omega (arith, returns-else-others-eq0-clause-run c, prefix_len-le-length is_token_byte v, long)
