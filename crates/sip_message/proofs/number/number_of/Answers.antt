use Rattle.std.proofs.Common.{◌^◌, ◌*◌, ◌%◌, ◌-◌, w64, ap, ◌∙◌, arith}
use Rattle.std.specs.Int.{from_le_bytes}
use Rattle.std.proofs.lemmas.Simd.{zip2_splat, length-chunk}
use lib.Bits.{bit_or}
use lib.Lanes.{chunk}
use Rattle.sip_message.proofs.LaneLemmas.{number-front}
use Rattle.sip_message.proofs.number.number_of.Goals as goal

-- the number is that of the bytes in small letters, whose later bytes are moved out
pub returns : goal.returns
returns c =
    -- v is the first eight bytes; `lanes` says that 32, the bit of small letters, is set in each. Bytes after the first `len` are moved out of the number
    let v = chunk 0 8 c.args.window.now in
    let lanes = zip2_splat bit_or v 8 32 (length-chunk 0 8 c.args.window.now (omega (arith, c.requires.0))) in
    ap (λ n. n * 2 ^ (64 - 8 * c.args.len) % 2 ^ 64) (c.from_le_bytes.ensures ∙ ap (from_le_bytes w64) lanes)
    ∙ number-front c.args.window.now c.args.len c.requires.0 c.type_inv.window c.requires.1 c.requires.2
