use Rattle.std.proofs.Common.{rules, string_bytes, sym, ◌∙◌}
use Rattle.std.specs.Cmp.Lexicographic.{same_text}
use Rattle.sip_program.proofs.AskedLemmas.{two-words, three-words, not-long, not-two, not-three}
use Rattle.sip_program.proofs.asking.asked.Goals.{in_default-via-then-words-lt2, in_default-via-in-len2-2+else-eq-2, in_default-via-in-len3+else-eq-3, in_default-via-else-words-lt2+else-words-lt3+else-words-lt4}
use Rattle.sip_program.proofs.asking.asked.Goals as goal

-- In each answer `len_at_least` and `len_below` say how many words there are, the items are these words in their order, and `same_text` makes of a
-- test that passed that the first word is the one that is named.

-- two words, `check` and a file, ask for the verdict on the file
pub returns-in-len2 : goal.returns-in-len2
returns-in-len2 c = (
  two-words string_bytes c.args.words.now c.word-item.result c.file-item.result _ _
      c.in-len2.len_at_least c.in-len2.len_below c.word-item.is c.file-item.is
      (sym (same_text _ _ c.if-eq.ensures) ∙ c.as_str.ensures.value) c.as_str-in-len2.ensures.value,
  tt,
)

-- two words, `show` and a file, ask for the file to be shown
pub returns-in-len2-2 : goal.returns-in-len2-2
returns-in-len2-2 c = (
  two-words string_bytes c.args.words.now c.word-item-then-words-lt3.result c.file-item-then-words-lt3.result _ _
      c.in-len2.len_at_least c.in-len2.len_below c.word-item-then-words-lt3.is c.file-item-then-words-lt3.is
      (sym (same_text _ _ c.if-eq-2.ensures) ∙ c.as_str-then-words-lt3.ensures.value) c.as_str-in-len2-2.ensures.value,
  tt,
)

-- three words, `states`, a file and a number, ask for the listing at that entry
-- The last parts say that the third word spells the entry's number, which `entry_number` has read, and that it is within the limits.
pub returns-in_ok-entry-in-len3 : goal.returns-in_ok-entry-in-len3
returns-in_ok-entry-in-len3 c = (
  three-words string_bytes c.args.words.now c.word-item-then-words-lt4.result c.file-item-then-words-lt4.result c.entry-item.result _ _ _
      c.in-len3.len_at_least c.in-len3.len_below c.word-item-then-words-lt4.is c.file-item-then-words-lt4.is c.entry-item.is
      (sym (same_text _ _ c.if-eq-3.ensures) ∙ c.as_str-then-words-lt4.ensures.value) c.as_str-in-len3-2.ensures.value
      (sym c.in_ok-entry-in-len3.ensures.1 ∙ c.as_str-in-len3.ensures.value),
  c.in_ok-entry-in-len3.ensures.0,
)

-- words in none of these forms ask for nothing
-- The ways are: one word (`lt2`); two words, or three, whose first one is not the one that is named (`else-eq-2`, `else-eq-3`); and more than three.
pub returns-in_default : goal.returns-in_default
returns-in_default c = λ asked meant same.
    elim c.in_default.branch [
      | in_default-via-then-words-lt2 w ↦
          not-long string_bytes c.args.words.now (λ l. search rules) (λ l. search rules) (λ l. search rules) asked same
      -- two words of another kind, or three, and any other number of words ask for nothing
      | in_default-via-in-len2-2+else-eq-2 w ↦
          not-two string_bytes c.args.words.now w.word-item.result w.word-item-then-words-lt3.result _ _ w.in-len2.len_at_least w.in-len2.len_below w.word-item.is w.word-item-then-words-lt3.is
          w.as_str.ensures.value w.as_str-then-words-lt3.ensures.value w.if-eq.ensures w.if-eq-2.ensures asked same
      | in_default-via-in-len3+else-eq-3 w ↦
          not-three string_bytes c.args.words.now w.word-item-then-words-lt4.result _ w.in-len3.len_at_least w.word-item-then-words-lt4.is w.as_str-then-words-lt4.ensures.value w.if-eq-3.ensures asked same
      | in_default-via-else-words-lt2+else-words-lt3+else-words-lt4 w ↦
          not-long string_bytes c.args.words.now (λ l. search rules) (λ l. search rules) (λ l. search rules) asked same
    ]
