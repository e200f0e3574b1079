use Rattle.std.proofs.Common.{◌≡◌, ◌+◌, ◌-◌, ℕ, nat_eq, get_or, sym, ap, ◌∙◌, arith}
use Rattle.std.proofs.lemmas.Simd.{zip2_splat, length-chunk}
use lib.Lanes.{chunk}
use Rattle.sip_message.proofs.LaneLemmas.{two_clear, lanes_agree}
use Rattle.sip_message.proofs.ends.is_paired_block.Goals as goal

-- where the two masks agree, each CR of the block has a LF after it, and each LF a CR before it
pub returns : goal.returns
returns c none = λ k from to.
    -- d is the text, and i the place at which the block of 32 bytes begins; k is a place within it
    let d = c.args.text.now in
    let i = c.args.at in
    let long = length-chunk i 32 d (omega (arith, c.requires)) in
    let next = length-chunk (i + 1) 32 d (omega (arith, c.requires)) in
    -- the masks of CR from i on and of LF from i + 1 on differ nowhere, so that they agree at k
    let clear = two_clear d i (i + 1) 32 _ _ _ _ _ (omega (arith, c.requires)) (omega (arith, c.requires)) (omega arith) (zip2_splat {Y = ℕ} _ (chunk i 32 d) 32 13 long) (zip2_splat {Y = ℕ} _ (chunk (i + 1) 32 d) 32 10 next) none (k - i) (omega (arith, from, to)) in
    let back : i + (k - i) ≡ k = omega (arith, from) in
    let back_next : i + 1 + (k - i) ≡ k + 1 = omega (arith, from) in
    ap (λ j. nat_eq (get_or d j 0) 13) (sym back) ∙ lanes_agree _ _ clear ∙ ap (λ j. nat_eq (get_or d j 0) 10) back_next
