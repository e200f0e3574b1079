use Rattle.std.proofs.Common.{ℕ, refl, arith}
use Rattle.std.proofs.lemmas.Simd.{zip2_splat, length-chunk}
use lib.Lanes.{chunk}
use Rattle.sip_message.specs.inner.Values.{is_plain_byte}
use Rattle.sip_message.proofs.LaneLemmas.{joined, all_pass}
use Rattle.sip_message.proofs.other.is_plain_block.Goals as goal

-- the bytes are plain where no lane has a control other than HTAB
pub returns : goal.returns
returns c none =
    -- v is the 16 bytes from the place `at` on, which are compared with 32, SP, with 9, HTAB, and with 127, DEL
    let v = chunk c.args.at 16 c.args.text.now in
    let long = length-chunk c.args.at 16 c.args.text.now c.requires in
    all_pass is_plain_byte c.args.text.now c.args.at 16 _ c.requires (omega arith) c.type_inv.text none _
    (joined _ _ _ v (joined _ _ _ v (zip2_splat {Y = ℕ} _ v 16 32 long) (zip2_splat {Y = ℕ} _ v 16 9 long)) (zip2_splat {Y = ℕ} _ v 16 127 long)) refl
