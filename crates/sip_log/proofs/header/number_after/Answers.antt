use Rattle.std.proofs.Common.{◌++◌, List, ℕ, take, drop, None, Some, sym, ap, ◌∙◌}
use Rattle.std.proofs.lemmas.List.{take_rest, take-append-drop}
use Rattle.std.proofs.lemmas.Bool.Decides.{Decides-eqb}
use Rattle.std.proofs.lemmas.Slice.Eq.{strip_prefix_is}
use Rattle.sip_log.specs.inner.Spelling.{space}
use Rattle.sip_log.proofs.lines.SplitLemmas.{part-found}
use Rattle.sip_log.proofs.headers.HeaderLemmas.{NumberAfter-part, NumberAfter-of}
use Rattle.sip_log.proofs.header.number_after.Goals as goal

-- where the text does not begin with the word, no number follows the word
pub returns-in_err-text : goal.returns-in_err-text
returns-in_err-text c =
    -- `none` says that the text is not the word and something after it
    let none = strip_prefix_is Decides-eqb c.args.text.now c.args.word.now None c.in_err-text.ensures.cases in
    rw c.from_residual.ensures (λ n behind is. none _ is.whole)

-- where what stands between the word and the next blank is no number, no number follows the word
pub returns-in_err-value : goal.returns-in_err-value
returns-in_err-value c =
    let word = c.args.word.now in
    let text = c.args.text.now in
    let rest = c.in_ok-text.text.now in
    let len = c.unwrap_or-len.result in
    -- the text is the word, what stands before the first blank, and the rest
    let after = strip_prefix_is Decides-eqb text word (Some c.in_ok-text.text) c.in_ok-text.ensures.cases
    ∙ ap (λ (t : List ℕ). word ++ t) (sym (take-append-drop len rest)) in
    -- `found` says that no blank stands before the place `len`, and that what follows begins with one or is empty
    let found = rw (← c.unwrap_or-len.ensures) at (part-found space rest c.memchr.result c.memchr.ensures) in
    rw c.from_residual-in_err-value.ensures
    (λ n behind is. c.in_err-value.ensures n (NumberAfter-part word text (take len rest) (drop len rest) after found.0 found.1 n behind is))

-- what stands between the word and the next blank is the number, and the rest begins with that blank
pub returns : goal.returns
returns c =
    let word = c.args.word.now in
    let text = c.args.text.now in
    let rest = c.in_ok-text.text.now in
    let len = c.unwrap_or-len.result in
    -- the text is the word, what stands before the first blank, and the rest
    let after = strip_prefix_is Decides-eqb text word (Some c.in_ok-text.text) c.in_ok-text.ensures.cases
    ∙ ap (λ (t : List ℕ). word ++ t) (sym (take-append-drop len rest)) in
    -- `found` says that no blank stands before the place `len`, and that what follows begins with one or is empty
    let found = rw (← c.unwrap_or-len.ensures) at (part-found space rest c.memchr.result c.memchr.ensures) in
    -- `is.0` is the number, and is.2 says that the code keeps it
    let is = c.in_ok-value.ensures in
    (is.0, rw take_rest (NumberAfter-of word text (take len rest) (drop len rest) after found.0 found.1 is.0 is.1), is.2)
