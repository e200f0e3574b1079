-- Lemmas of the lines of a header, word by word.
-- In the lemmas n and n2 are the numbers that stand after a word by two readings.
-- `λ i. f (e i)`: by the equation e, f of its left side is equal to f of its right side.
use Rattle.std.proofs.Common.{◌≡◌, ◌⊎◌, inl, inr, Option, None, Some, MatchOption, ◌<◌, ◌≤◌, ◌+◌, ℕ, List, [], ◌++◌, length, get_or, take, drop, refl, subst, sym, ap, ◌∙◌, arith, append_assoc}
use Rattle.std.specs.Prelude.{codes}
use Rattle.std.proofs.lemmas.List.{append_cancel_left, take-append-drop, take-append-le, length-append}
use Rattle.std.proofs.Math.ListN.{get_or-append}
use Rattle.std.proofs.Math.Seq.{take-append_seam}
use Rattle.sip_standard.specs.Times.{Times, AreTimes}
use Rattle.sip_times.specs.Times.{under}
use Rattle.sip_standard.specs.declared.rules.Rules.{Rules}
use Rattle.sip_standard.specs.declared.rules.Rules.TheVariants.{R3261, R6026}
use Rattle.memchr.specs.Find.{IsFirstByte, is_byte}
use Rattle.sip_standard.specs.declared.format.Format.{Format}
use Rattle.sip_standard.specs.declared.format.Format.TheVariants.{One, Two}
use Rattle.sip_standard.specs.declared.log_reason.LogReason.TheVariants as faults
use Rattle.sip_standard.specs.LogSays.{line_feed}
use Rattle.sip_log.specs.inner.Spelling.{space}
use Rattle.sip_standard.specs.LogHeader.{rules_text}
use Rattle.sip_log.specs.Next.{Next, gives, stops}
use Rattle.sip_log.specs.inner.Number.{IsNumber, cut}
use Rattle.sip_log.specs.inner.Header.{NumberAfter, Parted, Tolerances, TimesLine, title_text, HeaderComes, ComesSecond, ComesThird}
use Rattle.sip_log.proofs.lines.SplitLemmas.{Lacks, Lacks-append, Lacks-word, cut-one, part-one}
use Rattle.sip_log.proofs.lines.FrontLemmas.{line-held, line-none}
use Rattle.sip_log.proofs.numbers.NumberLemmas.{IsNumber-no_space, IsNumber-no_line_feed, IsNumber-one, IsNumber-short}

-- What follows is of a word, and of a text that is the word, a number and a rest.
module _ (word text : List ℕ) where
  -- a text has only one number after the word, and one rest after that
  pub NumberAfter-one : (n n2 : ℕ) (behind behind2 : List ℕ) → NumberAfter word text n behind → NumberAfter word text n2 behind2
      → (n ≡ n2) × (behind ≡ behind2)
  NumberAfter-one n n2 behind behind2 is is2 =
      -- after the word both readings have one text, of which the number is what stands before the first blank
      let rest = append_cancel_left word _ _ (sym is.whole ∙ is2.whole) in
      let parts = part-one space is.number behind is2.number behind2 (IsNumber-no_space _ n is.number_is) (IsNumber-no_space _ n2 is2.number_is) is.parted is2.parted rest in
      (IsNumber-one is.number is2.number n n2 parts.0 is.number_is is2.number_is, parts.1)

  -- What follows is of a text that is the word, `front`, which has no blank, and `back`, which is empty or begins with a blank.
  module _ (front back : List ℕ) (after : text ≡ word ++ (front ++ back)) (lacks : Lacks space front) (parted : Parted back) where
    -- the number after the word is what stands before the first blank
    pub NumberAfter-part : (n : ℕ) (behind : List ℕ) → NumberAfter word text n behind → IsNumber front n
    NumberAfter-part n behind is =
        let same = append_cancel_left word _ _ (sym is.whole ∙ after) in
        let parts = part-one space is.number behind front back (IsNumber-no_space _ n is.number_is) lacks is.parted parted same in
        subst (λ t. IsNumber t n) parts.0 is.number_is

    -- a number before the first blank stands after the word
    pub NumberAfter-of : (n : ℕ) → IsNumber front n → NumberAfter word text n back
    NumberAfter-of n is = record { number = front; number_is = is; parted = parted; whole = after }

-- where neither the word nor the rest has a line feed, the text has none
NumberAfter-lacks : (word text : List ℕ) (n : ℕ) (behind : List ℕ) → Lacks line_feed word → Lacks line_feed behind → NumberAfter word text n behind → Lacks line_feed text
NumberAfter-lacks word text n behind front back is =
    subst (Lacks line_feed) (sym is.whole) (Lacks-append line_feed word (is.number ++ behind) front (Lacks-append line_feed is.number behind (IsNumber-no_line_feed is.number n is.number_is) back))

-- a number below 100,000 after the word takes at most five bytes
NumberAfter-length : (word text : List ℕ) (n : ℕ) (behind : List ℕ) → n < 100000 → NumberAfter word text n behind → length text ≤ length word + 5 + length behind
NumberAfter-length word text n behind low is =
    let digits : length is.number ≤ 5 = IsNumber-short is.number n 5 (omega arith) (omega arith) is.number_is in
    omega (arith, ap length is.whole, length-append word (is.number ++ behind), length-append is.number behind)

-- What follows is of the tolerances, with which line 2 ends.

-- a text tells only one pair of tolerances
pub Tolerances-one : (format : Format) (text : List ℕ) (early late early2 late2 : ℕ) → Tolerances format text early late → Tolerances format text early2 late2
    → (early ≡ early2) × (late ≡ late2)
-- format 1 has one number, which is both tolerances
Tolerances-one One text early late early2 late2 is is2 =
    let same = NumberAfter-one (codes " tolerance ") text late late2 [] [] is.0 is2.0 in
    (is.1 ∙ same.0 ∙ sym is2.1, same.0)
Tolerances-one Two text early late early2 late2 is is2 =
    let first = NumberAfter-one (codes " early ") text early early2 is.0 is2.0 is.1 is2.1 in
    let second = NumberAfter-one (codes " late ") is2.0 late late2 [] [] (subst (λ t. NumberAfter (codes " late ") t late []) first.1 is.2) is2.2 in
    (first.0, second.0)

-- the empty text has no line feed
nothing-lacks : Lacks line_feed []
nothing-lacks = Lacks-word line_feed [] refl

-- the text of tolerances has no line feed
Tolerances-lacks : (format : Format) (text : List ℕ) (early late : ℕ) → Tolerances format text early late → Lacks line_feed text
Tolerances-lacks One text early late is = NumberAfter-lacks (codes " tolerance ") text late [] (Lacks-word line_feed (codes " tolerance ") refl) nothing-lacks is.0
Tolerances-lacks Two text early late is =
    NumberAfter-lacks (codes " early ") text early is.0 (Lacks-word line_feed (codes " early ") refl)
    (NumberAfter-lacks (codes " late ") is.0 late [] (Lacks-word line_feed (codes " late ") refl) nothing-lacks is.2) is.1

-- the text of tolerances below 100,000 has at most 23 bytes
Tolerances-length : (format : Format) (text : List ℕ) (early late : ℕ) → early < 100000 → late < 100000 → Tolerances format text early late → length text ≤ 23
Tolerances-length One text early late low low2 is = omega (arith, NumberAfter-length (codes " tolerance ") text late [] low2 is.0)
-- the names take 7 and 6 bytes, and each number at most five
Tolerances-length Two text early late low low2 is =
    omega (arith, NumberAfter-length (codes " early ") text early is.0 low is.1, NumberAfter-length (codes " late ") is.0 late [] low2 is.2)

-- What follows shows that the numbers that are read of line 2, word by word, are its times p: n1 is read first, and leaves rest1.
module _ (format : Format) (line : List ℕ) (p : Times) (is : TimesLine format line p) (n1 : ℕ) (rest1 : List ℕ) (first : NumberAfter (codes "t1 ") line n1 rest1) where
  -- the first number of the line is t1, and what follows it is what follows t1
  same1 : (p.t1 ≡ n1) × (is.rest1 ≡ rest1)
  same1 = NumberAfter-one (codes "t1 ") line p.t1 n1 is.rest1 rest1 is.t1_is first

  -- after the first number comes t2
  pub t2-after : NumberAfter (codes " t2 ") rest1 p.t2 is.rest2
  t2-after = subst (λ t. NumberAfter (codes " t2 ") t p.t2 is.rest2) same1.1 is.t2_is

  -- What follows is of n2, the second number that is read of the line, which leaves rest2.
  module _ (n2 : ℕ) (rest2 : List ℕ) (second : NumberAfter (codes " t2 ") rest1 n2 rest2) where
    -- the second number of the line is t2, and what follows it is what follows t2
    same2 : (p.t2 ≡ n2) × (is.rest2 ≡ rest2)
    same2 = NumberAfter-one (codes " t2 ") rest1 p.t2 n2 is.rest2 rest2 t2-after second

    -- after the second number comes t4
    pub t4-after : NumberAfter (codes " t4 ") rest2 p.t4 is.rest3
    t4-after = subst (λ t. NumberAfter (codes " t4 ") t p.t4 is.rest3) same2.1 is.t4_is

    -- What follows is of n3, the third number that is read of the line, which leaves rest3.
    module _ (n3 : ℕ) (rest3 : List ℕ) (third : NumberAfter (codes " t4 ") rest2 n3 rest3) where
      -- the third number of the line is t4, and what follows it is what follows t4
      same3 : (p.t4 ≡ n3) × (is.rest3 ≡ rest3)
      same3 = NumberAfter-one (codes " t4 ") rest2 p.t4 n3 is.rest3 rest3 t4-after third

      -- after the third number come the tolerances
      pub tolerances-after : Tolerances format rest3 p.early p.late
      tolerances-after = subst (λ t. Tolerances format t p.early p.late) same3.1 is.tolerances

      -- What follows is of the tolerances that are read at the end of the line, `early` and `late`.
      module _ (early late : ℕ) (fourth : Tolerances format rest3 early late) where
        -- the times of the line are these numbers
        pub times-after : p ≡ record { t1 = n1; t2 = n2; t4 = n3; early = early; late = late; rules = R6026 }
        times-after =
            let same4 = Tolerances-one format rest3 p.early p.late early late tolerances-after fourth in
            λ i. record { t1 = same1.0 i; t2 = same2.0 i; t4 = same3.0 i; early = same4.0 i; late = same4.1 i; rules = is.rules i }

-- a line 2 tells only one set of times
pub TimesLine-one : (format : Format) (line : List ℕ) (p p2 : Times) → TimesLine format line p → TimesLine format line p2 → p ≡ p2
TimesLine-one format line p p2 is is2 =
    times-after format line p is p2.t1 is2.rest1 is2.t1_is p2.t2 is2.rest2 is2.t2_is p2.t4 is2.rest3 is2.t4_is p2.early p2.late is2.tolerances
    ∙ (λ i. record { t1 = p2.t1; t2 = p2.t2; t4 = p2.t4; early = p2.early; late = p2.late; rules = sym is2.rules i })

-- the times with their numbers as the code keeps them
abbrev pub cut_times : Times → Times
cut_times p = record { t1 = cut p.t1; t2 = cut p.t2; t4 = cut p.t4; early = cut p.early; late = cut p.late; rules = p.rules }

-- times within their limits are kept as they are
cut_times-within : (p : Times) → AreTimes p → cut_times p ≡ p
cut_times-within p is =
    -- no number is greater than its limit, so that none is cut
    let t1 : cut p.t1 ≡ p.t1 = omega (arith, is.t1_high) in
    let t2 : cut p.t2 ≡ p.t2 = omega (arith, is.t2_high) in
    let t4 : cut p.t4 ≡ p.t4 = omega (arith, is.t4_high) in
    let early : cut p.early ≡ p.early = omega (arith, is.early_high) in
    let late : cut p.late ≡ p.late = omega (arith, is.late_high) in
    λ i. record { t1 = t1 i; t2 = t2 i; t4 = t4 i; early = early i; late = late i; rules = p.rules }

-- where times are within their limits as the code keeps them, they are within them
within-cut_times : (p : Times) → AreTimes (cut_times p) → AreTimes p
within-cut_times p is = record {
  -- a number above 10^15 is kept as 10^15, which is above every limit, so none of these was cut
  t1_low = omega (arith, is.t1_low);
  t1_high = omega (arith, is.t1_high);
  t2_low = omega (arith, is.t2_low);
  t2_high = omega (arith, is.t2_high);
  t4_low = omega (arith, is.t4_low);
  t4_high = omega (arith, is.t4_high);
  early_high = omega (arith, is.early_high);
  late_high = omega (arith, is.late_high);
}

-- line 2 tells the times n alone, and r is what is made of n: r is then the times of the line within their limits, or None where it tells none
pub times-read : (format : Format) (line : List ℕ) (n kept : Times) (r : Option Times) → TimesLine format line n → ((p : Times) → TimesLine format line p → p ≡ n) → kept ≡ cut_times n
    → MatchOption r (¬ (AreTimes kept)) (λ p. AreTimes p × (p ≡ kept))
    → MatchOption r ((p : Times) → TimesLine format line p → ¬ (AreTimes p)) (λ p. TimesLine format line p × AreTimes p)
-- where nothing is made of the line, times p within their limits would be n, and kept as they are
times-read format line n kept None is only as_kept new = λ p is2 within.
    let within2 = subst AreTimes (only p is2) within in
    new (subst AreTimes (sym (cut_times-within n within2) ∙ sym as_kept) within2)
-- where q is made, it is what was kept of n; that is within the limits, and so is n itself
times-read format line n kept (Some q) is only as_kept new =
    let within = within-cut_times n (subst AreTimes (new.1 ∙ as_kept) new.0) in
    let same : q ≡ n = new.1 ∙ as_kept ∙ cut_times-within n within in
    (subst (TimesLine format line) (sym same) is, new.0)

-- a line 2 has no line feed
pub TimesLine-lacks : (format : Format) (line : List ℕ) (p : Times) → TimesLine format line p → Lacks line_feed line
TimesLine-lacks format line p is =
    NumberAfter-lacks (codes "t1 ") line p.t1 is.rest1 (Lacks-word line_feed (codes "t1 ") refl)
    (NumberAfter-lacks (codes " t2 ") is.rest1 p.t2 is.rest2 (Lacks-word line_feed (codes " t2 ") refl)
    (NumberAfter-lacks (codes " t4 ") is.rest2 p.t4 is.rest3 (Lacks-word line_feed (codes " t4 ") refl)
    (Tolerances-lacks format is.rest3 p.early p.late is.tolerances) is.t4_is) is.t2_is) is.t1_is

-- the most bytes of line 2 with its line feed, where its numbers are within their limits
abbrev pub longest_times : ℕ
longest_times = 50

-- a line 2 whose numbers are within their limits is shorter than `longest_times`
pub TimesLine-short : (format : Format) (line : List ℕ) (p : Times) → TimesLine format line p → AreTimes p → length line < longest_times
TimesLine-short format line p is within =
    -- the names have 3, 4 and 4 bytes, each number at most five, and the tolerances at most 23, which makes 49
    let t1 = NumberAfter-length (codes "t1 ") line p.t1 is.rest1 (omega (arith, within.t1_high)) is.t1_is in
    let t2 = NumberAfter-length (codes " t2 ") is.rest1 p.t2 is.rest2 (omega (arith, within.t2_high)) is.t2_is in
    let t4 = NumberAfter-length (codes " t4 ") is.rest2 p.t4 is.rest3 (omega (arith, within.t4_high)) is.t4_is in
    let end = Tolerances-length format is.rest3 p.early p.late (omega (arith, within.early_high)) (omega (arith, within.late_high)) is.tolerances in
    omega (arith, t1, t2, t4, end)

-- What follows is of the bytes after line 1: `held` are those that the reader holds, and `ys` those that follow them in the source.
module _ (format : Format) (held ys : List ℕ) where
  -- where no line feed is among the first bytes, as many as line 2 can have, no line 2 is there and the header is at fault
  pub ComesSecond-none : IsFirstByte (is_byte line_feed) (take longest_times held) None → (longest_times ≤ length held) ⊎ (ys ≡ [])
      → ComesSecond format (held ++ ys) (stops faults.Header)
  ComesSecond-none none enough =
      inr ((λ p behind is. line-none longest_times held ys none enough is.line behind is.whole (TimesLine-short format is.line p is.times is.within)), refl)

  -- What follows is of a line that ends at the place k, where the first line feed among the held bytes is.
  module _ (k : ℕ) (found : IsFirstByte (is_byte line_feed) (take longest_times held) (Some k)) where
    -- where the first line is no line 2 with times within their limits, the header is at fault
    pub ComesSecond-other : ((p : Times) → TimesLine format (take k held) p → ¬ (AreTimes p)) → ComesSecond format (held ++ ys) (stops faults.Header)
    ComesSecond-other other = inr (
      (λ p behind is.
          -- the first line, which ends at k, is the line 2 that is told, since neither has a line feed
          let at = line-held longest_times held ys k found in
          let same = cut-one line_feed is.line behind (take k held) (drop (k + 1) held ++ ys) (TimesLine-lacks format is.line p is.times) at.first (sym is.whole ∙ at.whole) in
          other p (subst (λ line. TimesLine format line p) same.0 is.times) is.within),
      refl,
    )

    -- where the first line is line 2, what comes after it comes after line 1
    pub ComesSecond-times : (p : Times) (next : Next (Format × Times)) → TimesLine format (take k held) p → AreTimes p → ComesThird format p (drop (k + 1) held ++ ys) next
        → ComesSecond format (held ++ ys) next
    ComesSecond-times p next is within third =
        inl (p, drop (k + 1) held ++ ys, record { line = take k held; times = is; within = within; whole = (line-held longest_times held ys k found).whole }, third)

-- line 1 has twelve bytes with its line feed
title-length : (format : Format) → length (title_text format) ≡ 12
title-length One = refl
title-length Two = refl

-- where the first twelve bytes are no line 1, the header is at fault
pub ComesFirst-other : (held ys : List ℕ) → 12 ≤ length held → ((format : Format) → ¬ (take 12 held ≡ title_text format)) → HeaderComes (held ++ ys) (stops faults.Header)
ComesFirst-other held ys long other = inr (
  (λ format rest is.
      other format
      (sym (take-append-le 12 held ys long) ∙ ap (take 12) is ∙ ap (λ n. take n (title_text format ++ rest)) (sym (title-length format)) ∙ take-append_seam (title_text format) rest)),
  refl,
)

-- where the first twelve bytes are line 1, what comes after them comes first in the input
pub ComesFirst-second : (held ys : List ℕ) (format : Format) (next : Next (Format × Times)) → take 12 held ≡ title_text format
    → ComesSecond format (drop 12 held ++ ys) next → HeaderComes (held ++ ys) next
ComesFirst-second held ys format next is second =
    let whole : held ++ ys ≡ title_text format ++ (drop 12 held ++ ys) =
    ap (λ (t : List ℕ). t ++ ys) (sym (take-append-drop 12 held)) ∙ append_assoc (take 12 held) (drop 12 held) ys ∙ ap (λ (t : List ℕ). t ++ (drop 12 held ++ ys)) is in
    inl (format, drop 12 held ++ ys, whole, second)

-- What follows is of the line of rules.

-- the line of rules has eleven bytes with its line feed
rules-length : (rules : Rules) → length (rules_text rules) ≡ 11
rules-length R3261 = refl
rules-length R6026 = refl

-- the line of rules begins with the letter r
pub rules-first : (rules : Rules) (rest : List ℕ) → get_or (rules_text rules ++ rest) 0 0 ≡ 114
rules-first R3261 rest = refl
rules-first R6026 rest = refl

-- times with the rules of RFC 6026 are the same under these rules
under-same : (p : Times) → p.rules ≡ R6026 → p ≡ under R6026 p
under-same p is = λ i. record { t1 = p.t1; t2 = p.t2; t4 = p.t4; early = p.early; late = p.late; rules = is i }

-- What follows is of what may come after line 2, which tells the times p: a line of rules, or the entries.
module _ (format : Format) (p : Times) (is : p.rules ≡ R6026) where
  -- where no line of rules stands in the rest, the header ends before it
  pub ComesThird-none : (rest : List ℕ) → ((rules : Rules) (more : List ℕ) → ¬ (rest ≡ rules_text rules ++ more)) → ComesThird format p rest (gives (format, p) rest)
  ComesThird-none rest none = (R6026, rest, inr (refl, refl, none), ap (λ (q : Times). gives (format, q) rest) (under-same p is))

  -- where fewer than eleven bytes are left, no line of rules is there, and the header ends before them
  pub ComesThird-end : (rest : List ℕ) → length rest < 11 → ComesThird format p rest (gives (format, p) rest)
  ComesThird-end rest short = ComesThird-none rest (λ rules more same. omega (arith, ap length same, length-append (rules_text rules) more, rules-length rules))

  -- where the first byte that is held is not r, no line of rules is there, and the header ends before it
  pub ComesThird-other : (held ys : List ℕ) → 1 ≤ length held → ¬ (get_or held 0 0 ≡ 114) → ComesThird format p (held ++ ys) (gives (format, p) (held ++ ys))
  ComesThird-other held ys some other =
      ComesThird-none (held ++ ys)
      (λ rules more same. other (sym (get_or-append held ys 0 0 some) ∙ ap (λ (t : List ℕ). get_or t 0 0) same ∙ rules-first rules more))

  -- where the first eleven bytes that are held are no line of rules, the header ends before them
  pub ComesThird-unruled : (held ys : List ℕ) → 11 ≤ length held → ((rules : Rules) → ¬ (take 11 held ≡ rules_text rules)) → ComesThird format p (held ++ ys) (gives (format, p) (held ++ ys))
  ComesThird-unruled held ys long other =
      ComesThird-none (held ++ ys)
      (λ rules more same.
      other rules
      (sym (take-append-le 11 held ys long) ∙ ap (take 11) same ∙ ap (λ n. take n (rules_text rules ++ more)) (sym (rules-length rules)) ∙ take-append_seam (rules_text rules) more))

-- where the first eleven bytes that are held are a line of rules, the header has these rules and ends after it
pub ComesThird-rules : (format : Format) (p : Times) (held ys : List ℕ) (rules : Rules) → take 11 held ≡ rules_text rules
    → ComesThird format p (held ++ ys) (gives (format, under rules p) (drop 11 held ++ ys))
ComesThird-rules format p held ys rules is =
    let whole : held ++ ys ≡ rules_text rules ++ (drop 11 held ++ ys) =
    ap (λ (t : List ℕ). t ++ ys) (sym (take-append-drop 11 held)) ∙ append_assoc (take 11 held) (drop 11 held) ys ∙ ap (λ (t : List ℕ). t ++ (drop 11 held ++ ys)) is in
    (rules, drop 11 held ++ ys, inl whole, refl)
