-- `stops-at`: where a bit of the word is set, the run ends at the lowest one. `goes-on`: where none is, all bytes of which the word tells pass.
-- A byte passes here where it is no control. The arguments say that NUL is one, what the bits tell, and that no control stands from p up to q.
-- `l.invariant`: .0, q is not before p; .1, q lies within the text; .2, no control stands from p up to q.
use Rattle.std.proofs.Common.{◌≡◌, ◌+◌, ◌-◌, ◌%◌, not, drop, w64, refl, ◌∙◌, subst, arith}
use Rattle.std.specs.Int.{trailing_zeros}
use Rattle.std.specs.List.{prefix_len}
use Rattle.sip_masks.specs.Marks.{is_control}
use Rattle.sip_masks.proofs.RunLemmas.{stops-at, goes-on, twice}
use Rattle.sip_masks.proofs.masks.Masks.next_control.Goals as goal

-- the first bit of the word is the next control
pub returns-then-word-ne0 : goal.returns-then-word-ne0
returns-then-word-ne0 c =
    -- l is what stands at the word that the loop has come to: q is the first place that the word tells of
    let text = c.self.inside.text.now in
    let l = c.loop-self in
    let word = c.rest_at-word.result in
    -- the bits of the word say where controls are from q on, and none stands between the place asked for, p, and q
    let found = stops-at (λ b. not (is_control b)) is_control (λ x. twice (is_control x)) refl text (64 - l.q % 64) c.args.p l.q word (omega (arith, c.if-word-ne0.true)) c.rest_at-word.type_inv
    (λ j h. c.rest_at-word.ensures.bits j h ∙ c.self.invariant.controls_mark (l.q + j) (omega (arith, h, l.invariant.1))) (λ j from below. c.rest_at-word.ensures.none j from) l.invariant.0 l.invariant.2 l.invariant.1 in
    subst (λ t. l.q + trailing_zeros w64 word ≡ c.args.p + prefix_len (λ b. not (is_control b)) (drop c.args.p t)) c.self.view_is (omega (arith, found, l.invariant.0))

-- the next word lies further on
pub loop-self-smaller : goal.loop-self-smaller
loop-self-smaller c =
    let l = c.loop-self in
    let more = goes-on (λ b. not (is_control b)) is_control (λ x. twice (is_control x)) refl c.self.inside.text.now (64 - l.q % 64) c.args.p l.q c.rest_at-word.result (omega (arith, c.if-word-ne0.false))
    (λ j h. c.rest_at-word.ensures.bits j h ∙ c.self.invariant.controls_mark (l.q + j) (omega (arith, h, l.invariant.1))) l.invariant.2 l.invariant.1 in
    omega (arith, more.1)

-- the word has no bit, so no control stands up to its end
pub loop-self-preserved : goal.loop-self-preserved
loop-self-preserved c =
    -- l.q is the place from which the word was looked at
    let l = c.loop-self in
    let more = goes-on (λ b. not (is_control b)) is_control (λ x. twice (is_control x)) refl c.self.inside.text.now (64 - l.q % 64) c.args.p l.q c.rest_at-word.result (omega (arith, c.if-word-ne0.false))
    (λ j h. c.rest_at-word.ensures.bits j h ∙ c.self.invariant.controls_mark (l.q + j) (omega (arith, h, l.invariant.1))) l.invariant.2 l.invariant.1 in
    (omega (arith, l.invariant.0), more.1, more.0)
