-- `stops-at`: where a bit of the word is set, the run ends at the lowest one. `goes-on`: where none is, all bytes of which the word tells pass.
-- The arguments say that a byte is other than plain where it is not plain, that NUL is, and what the bits tell; no byte was passed before p.
use Rattle.std.proofs.Common.{◌≡◌, ◌+◌, ◌≤◌, length, drop, w64, refl, ap, ◌∙◌, subst, arith}
use Rattle.std.specs.Int.{trailing_zeros}
use Rattle.std.specs.List.{prefix_len}
use Rattle.std.proofs.lemmas.Nat.Bits.{bit_at-trailing_zeros}
use Rattle.sip_masks.specs.Marks.{is_plain, is_other}
use Rattle.sip_masks.proofs.RunLemmas.{stops-at, goes-on, run-from}
use Rattle.sip_masks.proofs.masks.Masks.short_run_at.Goals as goal

-- the first bit of the word is the first byte that is not plain, so the run ends there
pub returns : goal.returns
returns c =
    let text = c.self.inside.text.now in
    let p = c.args.p in
    let word = c.word_at-word.result in
    let within : p ≤ length text = omega (arith, ap length c.self.view_is, c.requires) in
    -- the run ends at the place that the lowest bit tells
    let found = stops-at is_plain is_other (λ x. refl) refl text 64 p p word (omega (arith, c.if-word-eq0.false)) c.word_at-word.type_inv
    (λ j h. c.word_at-word.ensures j h ∙ c.self.invariant.others_mark (p + j) (omega (arith, h, within))) (λ j from below. absurd (omega (arith, from, below))) (omega arith) (λ k from below. absurd (omega (arith, from, below))) within in (
      subst (λ t. trailing_zeros w64 word ≡ prefix_len is_plain (drop p t)) c.self.view_is (omega (arith, found)),
      (bit_at-trailing_zeros w64 word (omega (arith, c.if-word-eq0.false)) c.word_at-word.type_inv).0,
    )

-- where the word has no bit, the run is 64 bytes or longer
pub returns-then-word-eq0 : goal.returns-then-word-eq0
returns-then-word-eq0 c =
    -- p is the place; the word tells of 64 bytes from there on, of which none is other than plain
    let text = c.self.inside.text.now in
    let p = c.args.p in
    let within : p ≤ length text = omega (arith, ap length c.self.view_is, c.requires) in
    let more = goes-on is_plain is_other (λ x. refl) refl text 64 p p c.word_at-word.result (omega (arith, c.if-word-eq0.true))
    (λ j h. c.word_at-word.ensures j h ∙ c.self.invariant.others_mark (p + j) (omega (arith, h, within))) (λ k from below. absurd (omega (arith, from, below))) within in
    -- `run-from`: bytes that pass and lie within the text are a run at least as long
    subst (λ t. 64 ≤ prefix_len is_plain (drop p t)) c.self.view_is (run-from is_plain text p 64 more.0 more.1)
