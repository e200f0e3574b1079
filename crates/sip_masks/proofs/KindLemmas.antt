-- The kinds of bytes, which both tables give.
-- A shuffle, `swz_l`, looks up each lane in a table. `zip2 h a b` is h of the lanes at each place, and `replicate n y` is y in each lane.
use Rattle.std.proofs.Common.{◌≡◌, ℕ, ◌+◌, ◌/◌, ◌%◌, List, map, get_or, replicate, refl, arith, w8}
use Rattle.std.proofs.lemmas.Nat.{and_le_r}
use Rattle.std.proofs.lemmas.Simd.{zip2_splat, zip2_of_maps, swz_l}
use lib.Bits.{bit_and}
use lib.Lanes.{zip2}
use Rattle.sip_masks.specs.declared.block.TheConstants.{LOW, HIGH}
use Rattle.sip_masks.proofs.LaneLemmas.{IsBlock, splatted}
use Rattle.sip_masks.proofs.TableLemmas.{down, looked_up}

-- the bits that the two tables share at a byte: its kinds
abbrev pub kind : ℕ → ℕ
kind x = bit_and (get_or LOW (bit_and x 15) 0) (get_or HIGH (x / 16) 0)

-- what the two tables, read at the halves of all bytes of a block, have in common is the kind of each byte
pub kinds : (v : List ℕ) → IsBlock v → zip2 bit_and (swz_l w8 16 LOW 0 (zip2 bit_and v (replicate 64 15))) (swz_l w8 16 HIGH 0 (zip2 down v (replicate 64 4))) ≡ map kind v
kinds v block =
    let low = looked_up LOW (λ x. bit_and x 15) v _ refl block (zip2_splat bit_and v 64 15 block.0) (λ x h. omega (arith, and_le_r x 15)) in
    let high = looked_up HIGH (λ x. x / 16) v _ refl block (zip2_splat down v 64 4 block.0) (λ x h. omega arith) in
    zip2_of_maps bit_and (λ x. get_or LOW (bit_and x 15) 0) (λ x. get_or HIGH (x / 16) 0) v low high

-- the sum of two lanes, which goes on from 0 after 255
abbrev more : ℕ → ℕ → ℕ
more a b = (a + b) % 256

-- the kind of each byte of a block, with the number added by which that of a control gets the top bit
pub raised : (v : List ℕ) → IsBlock v → zip2 more (zip2 bit_and (swz_l w8 16 LOW 0 (zip2 bit_and v (replicate 64 15))) (swz_l w8 16 HIGH 0 (zip2 down v (replicate 64 4)))) (replicate 64 96) ≡ map (λ x. more (kind x) 96) v
raised v block = splatted more kind 64 96 v block.0 (kinds v block)
