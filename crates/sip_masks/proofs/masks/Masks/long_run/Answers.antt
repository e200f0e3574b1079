-- `stops-at`: where a bit of the word is set, the run ends at the lowest one. `goes-on`: where none is, all bytes of which the word tells pass.
-- The arguments say that a byte is other than plain where it is not plain, that NUL is, what the bits tell, and that all bytes from p up to q are plain.
-- `l.invariant`: .0, q is not before p; .1, q lies within the text; .2, all bytes from p up to q are plain.
use Rattle.std.proofs.Common.{◌≡◌, ◌+◌, ◌-◌, drop, w64, refl, ◌∙◌, subst, arith}
use Rattle.std.specs.Int.{trailing_zeros}
use Rattle.std.specs.List.{prefix_len}
use Rattle.sip_masks.specs.Marks.{is_plain, is_other}
use Rattle.sip_masks.proofs.RunLemmas.{stops-at, goes-on}
use Rattle.sip_masks.proofs.masks.Masks.long_run.Goals as goal

-- the first bit of the word is the first byte that is not plain, so the run ends there
pub returns-then-word-ne0 : goal.returns-then-word-ne0
returns-then-word-ne0 c =
    -- l is what stands at the word that the loop has come to: q is the first place that the word tells of
    let text = c.self.inside.text.now in
    let l = c.loop-self in
    let word = c.word_at-word.result in
    -- the bits of the word say which bytes are not plain from q on, and all are plain between the place asked for, p, and q
    let found = stops-at is_plain is_other (λ x. refl) refl text 64 c.args.p l.q word (omega (arith, c.if-word-ne0.true)) c.word_at-word.type_inv
    (λ j h. c.word_at-word.ensures j h ∙ c.self.invariant.others_mark (l.q + j) (omega (arith, h, l.invariant.1))) (λ j from below. absurd (omega (arith, from, below))) l.invariant.0 l.invariant.2 l.invariant.1 in
    subst (λ t. l.q - c.args.p + trailing_zeros w64 word ≡ prefix_len is_plain (drop c.args.p t)) c.self.view_is (omega (arith, found, l.invariant.0))

-- the next word lies further on
pub loop-self-smaller : goal.loop-self-smaller
loop-self-smaller c =
    let l = c.loop-self in
    let more = goes-on is_plain is_other (λ x. refl) refl c.self.inside.text.now 64 c.args.p l.q c.word_at-word.result (omega (arith, c.if-word-ne0.false))
    (λ j h. c.word_at-word.ensures j h ∙ c.self.invariant.others_mark (l.q + j) (omega (arith, h, l.invariant.1))) l.invariant.2 l.invariant.1 in
    omega (arith, more.1)

-- the word has no bit, so all bytes up to its end are plain
pub loop-self-preserved : goal.loop-self-preserved
loop-self-preserved c =
    let l = c.loop-self in
    let more = goes-on is_plain is_other (λ x. refl) refl c.self.inside.text.now 64 c.args.p l.q c.word_at-word.result (omega (arith, c.if-word-ne0.false))
    (λ j h. c.word_at-word.ensures j h ∙ c.self.invariant.others_mark (l.q + j) (omega (arith, h, l.invariant.1))) l.invariant.2 l.invariant.1 in
    (omega (arith, l.invariant.0), more.1, more.0)
