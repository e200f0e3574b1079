-- `l.invariant`, of the loop: .0 and .1, the two masks are right for the words so far; .2, these lie within the text; .3 and .4, both masks are as long as
-- they were.
use Rattle.std.proofs.Common.{◌≡◌, ℕ, ◌+◌, ◌*◌, ◌<◌, ◌≤◌, Bool, true, List, length, get_or, set, refl, sym, ap, ◌∙◌, subst, arith}
use Rattle.std.proofs.lemmas.List.{length-set, take_all}
use Rattle.std.proofs.lemmas.Simd.{get_or-chunk}
use Rattle.sip_masks.specs.Bits.{test}
use Rattle.sip_masks.specs.Marks.{is_control, is_other, BitsTell, words_for}
use Rattle.sip_masks.proofs.WordLemmas.{marks-more, ones-past, front-ends}
use Rattle.sip_masks.proofs.masks.mark.Goals as goal

-- where a text ends in word k, which w tells, the words with w at place k and a word of ones after it are the masks of the text
last-two : (p : ℕ → Bool) (text words : List ℕ) (k w : ℕ) → p 0 ≡ true → k + 1 < length words → length text < 64 * (k + 1) → 64 * k ≤ length text → BitsTell p text words (64 * k)
    → ((i : ℕ) → i < 64 → test w i ≡ p (get_or text (64 * k + i) 0)) → BitsTell p text (set (set words k w) (k + 1) 18446744073709551615) (64 * words_for (length text))
last-two p text words k w nul room past there before now i below =
    -- the word w tells the bytes of word k, and a word of ones the places after it, all of which are past the text
    marks-more p text (set words k w) (k + 1) 18446744073709551615 (omega (arith, room, length-set words k w)) (marks-more p text words k w (omega (arith, room)) before now)
    (λ j h. ones-past p text (64 * (k + 1)) j nul (omega (arith, past)) h) i (omega (arith, below, past, there))

-- after one word more, both masks are right for the text up to its end
pub loop-word-preserved : goal.loop-word-preserved
loop-word-preserved c =
    let text = c.args.text.now in
    let l = c.loop-word in
    let room : 64 * (l.word + 1) ≤ length text = omega (arith, c.loop-word-test.true, l.invariant.2) in (
      -- each mask is right with the new word, and as long as it was
      marks-more is_other text l.other l.word c.others.result (omega (arith, l.invariant.3, c.requires.0, room)) l.invariant.0 (λ i h. c.others.ensures i h ∙ ap is_other (get_or-chunk (64 * l.word) 64 text i 0 h)),
      marks-more is_control text l.control l.word c.controls-ends.result (omega (arith, l.invariant.4, c.requires.1, room)) l.invariant.1 (λ i h. c.controls-ends.ensures i h ∙ ap is_control (get_or-chunk (64 * l.word) 64 text i 0 h)),
      room,
      length-set l.other l.word c.others.result ∙ l.invariant.3,
      length-set l.control l.word c.controls-ends.result ∙ l.invariant.4,
    )

-- the last word is right for the bytes of the text, and marks all places past its end
pub returns-clause-other : goal.returns-clause-other
returns-clause-other c =
    let text = c.args.text.now in
    let l = c.loop-word in
    -- the last word that the loop did not reach is set here, and one word more has all places marked
    subst (λ t. BitsTell is_other t (set (set l.other l.word c.others-2.result) (l.word + 1) 18446744073709551615) (64 * words_for (length text))) (sym (take_all (length text) text (omega arith)))
    (last-two is_other text l.other l.word c.others-2.result refl (omega (arith, l.invariant.3, c.requires.0, l.invariant.2)) (omega (arith, c.loop-word-test.false)) l.invariant.2 l.invariant.0
    (λ i h. c.others-2.ensures i h ∙ ap is_other (c.tail-v.ensures i h)))

-- the last word is right for the bytes of the text, and marks all places past its end
pub returns-clause-control : goal.returns-clause-control
returns-clause-control c =
    let text = c.args.text.now in
    let l = c.loop-word in
    -- the last word that the loop did not reach is set here, and one word more has all places marked
    subst (λ t. BitsTell is_control t (set (set l.control l.word c.controls.result) (l.word + 1) 18446744073709551615) (64 * words_for (length text))) (sym (take_all (length text) text (omega arith)))
    (last-two is_control text l.control l.word c.controls.result refl (omega (arith, l.invariant.4, c.requires.1, l.invariant.2)) (omega (arith, c.loop-word-test.false)) l.invariant.2 l.invariant.1
    (λ i h. c.controls.ensures i h ∙ ap is_control (c.tail-v.ensures i h)))

-- the mask is right up to the block with the empty line, where the text is cut
pub returns-then-holds_empty_line-clause-other : goal.returns-then-holds_empty_line-clause-other
returns-then-holds_empty_line-clause-other c =
    let text = c.args.text.now in
    let l = c.loop-word in
    -- the block lies within the text; the words tell the bytes up to its end (`more`), where the text is cut
    let room : 64 * (l.word + 1) ≤ length text = omega (arith, c.loop-word-test.true, l.invariant.2) in
    let more = marks-more is_other text l.other l.word c.others.result (omega (arith, l.invariant.3, c.requires.0, room)) l.invariant.0 (λ i h. c.others.ensures i h ∙ ap is_other (get_or-chunk (64 * l.word) 64 text i 0 h)) in
    front-ends is_other text (set l.other l.word c.others.result) (l.word + 1) refl room (omega (arith, length-set l.other l.word c.others.result, l.invariant.3, c.requires.0, room)) more

-- the mask is right up to the block with the empty line, where the text is cut
pub returns-then-holds_empty_line-clause-control : goal.returns-then-holds_empty_line-clause-control
returns-then-holds_empty_line-clause-control c =
    let text = c.args.text.now in
    let l = c.loop-word in
    -- the block lies within the text; the words tell the bytes up to its end (`more`), where the text is cut
    let room : 64 * (l.word + 1) ≤ length text = omega (arith, c.loop-word-test.true, l.invariant.2) in
    let more = marks-more is_control text l.control l.word c.controls-ends.result (omega (arith, l.invariant.4, c.requires.1, room)) l.invariant.1 (λ i h. c.controls-ends.ensures i h ∙ ap is_control (get_or-chunk (64 * l.word) 64 text i 0 h)) in
    front-ends is_control text (set l.control l.word c.controls-ends.result) (l.word + 1) refl room (omega (arith, length-set l.control l.word c.controls-ends.result, l.invariant.4, c.requires.1, room)) more
