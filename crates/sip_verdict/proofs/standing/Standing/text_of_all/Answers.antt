use Rattle.std.proofs.Common.{◌≡◌, ◌≢◌, ◌∙◌, List, ◌<◌, ◌-◌, ◌+◌, ◌++◌, ℕ, zero, suc, [], ◌∷◌, sym, ap, subst, arith, length, string_bytes}
use Rattle.std.proofs.lemmas.List.{length-append}
use Rattle.sip_verdict.specs.inner.Concerned.{up_to}
use Rattle.sip_verdict.specs.inner.Numbering.{AppendsEach, IsListingText}
use Rattle.sip_verdict.proofs.listings.NumberingLemmas.{appends_more, text_of_some}
use Rattle.sip_verdict.proofs.standing.Standing.text_of_all.Goals.{else-loop-number-test, then-loop-number-test+in_ok-push_one+else-number-count}
use Rattle.sip_verdict.proofs.standing.Standing.text_of_all.Goals as goal

-- the numbers up to n are those up to n - 1, and n
up_to-more : (n : ℕ) → 0 < n → up_to n ≡ up_to (n - 1) ++ n ∷ []
up_to-more zero low = absurd (omega arith)
up_to-more (suc n) low = let before : n ≡ suc n - 1 = omega arith in ap (λ k. up_to k ++ suc n ∷ []) before

-- there are numbers up to n, where n is not 0
up_to-some : (n : ℕ) → 0 < n → up_to n ≢ []
up_to-some zero low none = omega arith
up_to-some (suc n) low none = omega (arith, ap length none, length-append (up_to n) (suc n ∷ []))

-- the text of one transaction more is appended
pub loop-number-preserved : goal.loop-number-preserved
loop-number-preserved g c =
    -- t are the tables, n is the number of the transaction whose text is appended, and old and new are the text at the start and now
    let t = c.args.self.now.tables in
    let n = c.loop-number.number in
    let old = string_bytes c.new-text.result in
    let new = string_bytes c.push_one.new.text in
    let same : n ≡ n + 1 - 1 = omega arith in
    subst (λ ns. AppendsEach t ns old new) (sym (up_to-more n (omega arith)) ∙ ap up_to same)
    (appends_more t (up_to (n - 1)) n old (string_bytes c.loop-number.text) new c.loop-number.invariant c.in_ok-push_one.ensures)

-- the text is that of all transactions, in the order of their numbers
pub returns : goal.returns
returns g c =
    -- t are the tables, of which all keys have been told
    let t = c.args.self.now.tables in
    let n = c.loop-number.number in
    let fresh = c.new-text.ensures.bytes in
    let counted = c.len-count.ensures in
    -- `is_text`: once the texts of all transactions were appended to nothing, they are the whole text
    let is_text : (text : List ℕ) → AppendsEach t (up_to (length t.keys)) (string_bytes c.new-text.result) text → IsListingText t (up_to (length t.keys)) text =
    λ text each. text_of_some t (up_to (length t.keys)) text (up_to-some (length t.keys) (omega arith)) (subst (λ old. AppendsEach t (up_to (length t.keys)) old text) fresh each) in
    -- the loop ended before the last number was passed, or right after the last text
    elim c.loop-number-test.branch [
      | else-loop-number-test w ↦
          let last : n - 1 ≡ length t.keys = omega arith in
          rw w.text-is (is_text (string_bytes c.loop-number.text)
          (subst (λ k. AppendsEach t (up_to k) (string_bytes c.new-text.result) (string_bytes c.loop-number.text)) last c.loop-number.invariant))
      -- the last text was appended in this turn of the loop
      | then-loop-number-test+in_ok-push_one+else-number-count w ↦
          let last : n ≡ length t.keys = omega arith in
          let new = string_bytes w.push_one.new.text in
          rw w.text-is (is_text new (subst (λ ns. AppendsEach t ns (string_bytes c.new-text.result) new) (sym (up_to-more n (omega arith)) ∙ ap up_to last)
          (appends_more t (up_to (n - 1)) n (string_bytes c.new-text.result) (string_bytes c.loop-number.text) new c.loop-number.invariant w.in_ok-push_one.ensures)))
    ]
