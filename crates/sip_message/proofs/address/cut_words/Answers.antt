use Rattle.std.proofs.Common.{inl, inr}
use Rattle.std.proofs.lemmas.List.{take_rest}
use Rattle.sip_message.proofs.WordLemmas.{words-first, words-more, words-all, no-words}
use Rattle.sip_message.proofs.address.cut_words.Goals as goal
use Rattle.sip_message.proofs.address.cut_words.Goals.{then-blanks-eq0-via-then-blanks-eq0, then-blanks-eq0-via-else-blanks-eq0+then-word-eq0}

-- where no word stands at the front, nothing is cut off
pub returns-then-at-eq0 : goal.returns-then-at-eq0
returns-then-at-eq0 c = no-words c.args.text.now c.token_len-at.result c.token_len-at.ensures.reads c.if-at-eq0.true

-- the first token at the front is a word, so words stand there
pub words-init : goal.words-init
words-init c = words-first c.args.text.now c.token_len-at.result c.token_len-at.ensures.within c.token_len-at.ensures.reads c.if-at-eq0.false

-- where no blank or no word follows, the words end here
pub returns-then-blanks-eq0 : goal.returns-then-blanks-eq0
returns-then-blanks-eq0 c =
    let text = c.args.text.now in
    -- the words go up to the place `at`; after them no blank stands, or no token after the blanks
    words-all text _ _ c.words.at c.skip_lws-blanks.result c.token_len-word.result (take_rest text c.words.at) (take_rest _ c.skip_lws-blanks.result) c.words.invariant
    c.skip_lws-blanks.ensures.reads c.token_len-word.ensures.reads
    (elim c.then-blanks-eq0.branch [
      | then-blanks-eq0-via-then-blanks-eq0 w ↦ inl w.if-blanks-eq0.true
      | then-blanks-eq0-via-else-blanks-eq0+then-word-eq0 w ↦ inr w.if-word-eq0.true
    ])

-- after one word more, the words up to here stand at the front
pub words-preserved : goal.words-preserved
words-preserved c =
    let text = c.args.text.now in
    -- the words go up to the place `at`; after them blanks and a token stand
    words-more text _ _ c.words.at c.skip_lws-blanks.result c.token_len-word.result (take_rest text c.words.at) (take_rest _ c.skip_lws-blanks.result) c.words.invariant
    c.skip_lws-blanks.ensures.within c.token_len-word.ensures.within
    c.skip_lws-blanks.ensures.reads c.if-blanks-eq0.false c.token_len-word.ensures.reads c.if-word-eq0.false
