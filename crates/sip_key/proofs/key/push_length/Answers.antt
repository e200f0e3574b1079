use Rattle.std.proofs.Common.{◌≡◌, ◌++◌, ◌∷◌, [], ◌/◌, ◌%◌, replicate, append_assoc, ap, ◌∙◌, arith}
use Rattle.sip_key.specs.inner.KeyText.{length_bytes}
use Rattle.sip_key.proofs.key.push_length.Goals as goal

-- a length is written as its 64s, each as one byte of 64, and one byte for what is left
pub returns : goal.returns
unfolding length_bytes
returns c =
    let old = c.args.text.now.items in
    let count = c.args.count in
    -- the loop has put a byte of 64 for each 64 of the count
    let turns : c.loop.counter ≡ count / 64 = omega arith in
    -- then comes one byte for what is left
    c.in_ok-push-2.ensures.items
    ∙ ap (λ text. text ++ count % 64 ∷ []) (c.loop.invariant ∙ ap (λ n. old ++ replicate n 64) turns)
    ∙ append_assoc old (replicate (count / 64) 64) (count % 64 ∷ [])
