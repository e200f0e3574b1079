-- A header and an entry's line are read as what they spell, by the relations by which the code reads them, and spell what is read of them.
-- In the lemmas f is a format and q the times that were read; behind is what follows the header.
-- `coe 1 0 (i. P (e i)) h`: by the equation e, h, which says P of its right side, says it of the left one. `λ i. f (e i)`: f of both sides is equal.
use Rattle.std.proofs.Common.{◌≡◌, ◌⊎◌, inl, inr, ◌<◌, ℕ, List, [], ◌∷◌, ◌++◌, length, refl, sym, ap, ◌∙◌, arith, append_assoc}
use Rattle.std.specs.Prelude.{codes, decimal}
use Rattle.std.proofs.lemmas.List.{append-nil, length-append}
use Rattle.sip_standard.specs.Times.{Times, AreTimes}
use Rattle.sip_times.specs.Times.{under}
use Rattle.sip_standard.specs.declared.rules.Rules.{Rules}
use Rattle.sip_standard.specs.declared.rules.Rules.TheVariants.{R6026}
use Rattle.sip_standard.specs.declared.action.Action.{Action}
use Rattle.sip_standard.specs.declared.action.Action.TheVariants.{Sent, Received, Failed, Mark, Restart}
use Rattle.sip_standard.specs.declared.format.Format.{Format}
use Rattle.sip_standard.specs.declared.format.Format.TheVariants.{One, Two}
use Rattle.sip_standard.specs.LogSays.{line_feed}
use Rattle.sip_log.specs.inner.Spelling.{space, letter, length_text, line_text}
use Rattle.sip_standard.specs.LogEntry.{line_says, body_says, HasMessage, IsOf}
use Rattle.sip_standard.specs.LogHeader.{lines_text, Header}
use Rattle.sip_log.specs.Next.{gives}
use Rattle.sip_log.specs.inner.Number.{IsNumber}
use Rattle.sip_log.specs.inner.Line.{message, plain, HeadLine}
use Rattle.sip_log.specs.inner.Header.{Parted, NumberAfter, Tolerances, TimesLine, title_text, HeaderComes}
use Rattle.sip_log.proofs.numbers.NumberLemmas.{IsNumber-short}
use Rattle.sip_log.proofs.numbers.DecimalLemmas.{decimal-number, number-decimal, decimal-short, powers}

-- What follows is of the header.

-- a number below 100,000 is spelled as its decimal text
five : (text : List ℕ) (n : ℕ) → n < 100000 → IsNumber text n → text ≡ decimal n
five text n low is = decimal-number text n (omega (arith, IsNumber-short text n 5 (omega arith) low is)) is

-- the decimal text of a number below 100,000 is a number of a log
five-decimal : (n : ℕ) → n < 100000 → IsNumber (decimal n) n
five-decimal n low = number-decimal n (omega (arith, low, powers 5 64 (omega arith)))

-- What follows is of a text, a word, and a number n below 100,000 that stands after the word and before the rest `behind`.
module _ (word text : List ℕ) (n : ℕ) (behind : List ℕ) (low : n < 100000) where
  -- a text that is read as the word, the number and a rest is the word, its decimal text and the rest
  after-spelled : NumberAfter word text n behind → text ≡ word ++ (decimal n ++ behind)
  after-spelled is = is.whole ∙ ap (λ (t : List ℕ). word ++ (t ++ behind)) (five is.number n low is.number_is)

-- the word, the decimal text of the number and a rest that is empty or begins with a blank are read as that
after-read : (word : List ℕ) (n : ℕ) (behind : List ℕ) → n < 100000 → Parted behind → NumberAfter word (word ++ (decimal n ++ behind)) n behind
after-read word n behind low parted = record { number = decimal n; number_is = five-decimal n low; parted = parted; whole = refl }

-- the spelling of the tolerances, with which line 2 ends
end_text : Format → Times → List ℕ
end_text One p = codes " tolerance " ++ (decimal p.late ++ [])
end_text Two p = codes " early " ++ (decimal p.early ++ (codes " late " ++ (decimal p.late ++ [])))

-- a text that is read as tolerances is their spelling
end-spelled : (format : Format) (text : List ℕ) (p : Times) → AreTimes p → Tolerances format text p.early p.late → text ≡ end_text format p
unfolding end_text
end-spelled One text p within (late, same) = after-spelled (codes " tolerance ") text p.late [] (omega (arith, within.late_high)) late
end-spelled Two text p within (rest, early, late) =
    after-spelled (codes " early ") text p.early rest (omega (arith, within.early_high)) early
    ∙ ap (λ (t : List ℕ). codes " early " ++ (decimal p.early ++ t)) (after-spelled (codes " late ") rest p.late [] (omega (arith, within.late_high)) late)

-- the spelling of tolerances is read as them, where format 1 has one tolerance
end-read : (format : Format) (p : Times) → AreTimes p → (format ≡ One → p.early ≡ p.late) → Tolerances format (end_text format p) p.early p.late
unfolding end_text
end-read One p within one = (after-read (codes " tolerance ") p.late [] (omega (arith, within.late_high)) (inl refl), one refl)
end-read Two p within one = (
  codes " late " ++ (decimal p.late ++ []),
  after-read (codes " early ") p.early _ (omega (arith, within.early_high)) (inr (_, refl)),
  after-read (codes " late ") p.late [] (omega (arith, within.late_high)) (inl refl),
)

-- the spelling of tolerances begins with a blank
end-parted : (format : Format) (p : Times) → Parted (end_text format p)
unfolding end_text
end-parted One p = inr (_, refl)
end-parted Two p = inr (_, refl)

-- the spelling of line 2, without its line feed
second_text : Format → Times → List ℕ
second_text format p = codes "t1 " ++ (decimal p.t1 ++ (codes " t2 " ++ (decimal p.t2 ++ (codes " t4 " ++ (decimal p.t4 ++ end_text format p)))))

-- a line that is read as line 2 is its spelling
second-spelled : (format : Format) (line : List ℕ) (p : Times) → AreTimes p → TimesLine format line p → line ≡ second_text format p
unfolding second_text
second-spelled format line p within is =
    -- one word after another with its number is put in front of what is left of the line
    after-spelled (codes "t1 ") line p.t1 is.rest1 (omega (arith, within.t1_high)) is.t1_is
    ∙ ap (λ (t : List ℕ). codes "t1 " ++ (decimal p.t1 ++ t)) (after-spelled (codes " t2 ") is.rest1 p.t2 is.rest2 (omega (arith, within.t2_high)) is.t2_is)
    ∙ ap (λ (t : List ℕ). codes "t1 " ++ (decimal p.t1 ++ (codes " t2 " ++ (decimal p.t2 ++ t)))) (after-spelled (codes " t4 ") is.rest2 p.t4 is.rest3 (omega (arith, within.t4_high)) is.t4_is)
    ∙ ap (λ (t : List ℕ). codes "t1 " ++ (decimal p.t1 ++ (codes " t2 " ++ (decimal p.t2 ++ (codes " t4 " ++ (decimal p.t4 ++ t)))))) (end-spelled format is.rest3 p within is.tolerances)

-- the spelling of line 2 is read as its times, with the rules of RFC 6026
second-read : (format : Format) (p : Times) → AreTimes p → (format ≡ One → p.early ≡ p.late) → TimesLine format (second_text format p) (under R6026 p)
unfolding second_text
second-read format p within one = record {
  rest1 = codes " t2 " ++ (decimal p.t2 ++ (codes " t4 " ++ (decimal p.t4 ++ end_text format p)));
  rest2 = codes " t4 " ++ (decimal p.t4 ++ end_text format p);
  rest3 = end_text format p;
  -- after each name its number is read
  t1_is = after-read (codes "t1 ") p.t1 _ (omega (arith, within.t1_high)) (inr (_, refl));
  t2_is = after-read (codes " t2 ") p.t2 _ (omega (arith, within.t2_high)) (inr (_, refl));
  t4_is = after-read (codes " t4 ") p.t4 _ (omega (arith, within.t4_high)) (end-parted format p);
  tolerances = end-read format p within one;
  rules = refl;
}

-- the pieces of both lines of format 1, bracketed as they are read, are one text with them bracketed as the definition has them
-- t is line 1; w1, w2, w4 and w are the names of t1, t2, t4 and the tolerance, and d1, d2, d4 and d their numbers
one-line : (t w1 d1 w2 d2 w4 d4 w d end rest : List ℕ)
    → t ++ ((w1 ++ (d1 ++ (w2 ++ (d2 ++ (w4 ++ (d4 ++ (w ++ (d ++ [])))))))) ++ (end ++ rest)) ≡ (t ++ (w1 ++ d1 ++ w2 ++ d2 ++ w4 ++ d4) ++ w ++ d ++ end) ++ rest
one-line t w1 d1 w2 d2 w4 d4 w d end rest = simp (append_assoc, append-nil)

-- the pieces of both lines of format 2, bracketed as they are read, are one text with them bracketed as the definition has them
-- t is line 1; w1, w2, w4, v and w are the names of t1, t2, t4, early and late, and d1, d2, d4, e and d their numbers
two-line : (t w1 d1 w2 d2 w4 d4 v e w d end rest : List ℕ)
    → t ++ ((w1 ++ (d1 ++ (w2 ++ (d2 ++ (w4 ++ (d4 ++ (v ++ (e ++ (w ++ (d ++ [])))))))))) ++ (end ++ rest)) ≡ (t ++ (w1 ++ d1 ++ w2 ++ d2 ++ w4 ++ d4) ++ v ++ e ++ w ++ d ++ end) ++ rest
two-line t w1 d1 w2 d2 w4 d4 v e w d end rest = simp (append_assoc, append-nil)

-- line 1, and line 2 with its line feed, are the spelling of both lines
lines-parts : (format : Format) (p : Times) (rest : List ℕ) → title_text format ++ (second_text format p ++ line_feed ∷ rest) ≡ lines_text format p ++ rest
unfolding second_text end_text
lines-parts One p rest =
    one-line (title_text One) (codes "t1 ") (decimal p.t1) (codes " t2 ") (decimal p.t2) (codes " t4 ") (decimal p.t4) (codes " tolerance ") (decimal p.late) (line_feed ∷ []) rest
lines-parts Two p rest =
    two-line (title_text Two) (codes "t1 ") (decimal p.t1) (codes " t2 ") (decimal p.t2) (codes " t4 ") (decimal p.t4) (codes " early ") (decimal p.early) (codes " late ") (decimal p.late) (line_feed ∷ []) rest

-- times within their limits are within them under any rules
pub within-under : (rules : Rules) (p : Times) → AreTimes p → AreTimes (under rules p)
within-under rules p is = record {
  -- the limits are those of the same numbers
  t1_low = is.t1_low;
  t1_high = is.t1_high;
  t2_low = is.t2_low;
  t2_high = is.t2_high;
  t4_low = is.t4_low;
  t4_high = is.t4_high;
  early_high = is.early_high;
  late_high = is.late_high;
}

-- lines 1 and 2 of a header are the same under any rules
lines-under : (format : Format) (rules : Rules) (p : Times) → lines_text format (under rules p) ≡ lines_text format p
lines-under One rules p = refl
lines-under Two rules p = refl

-- in format 1 the early and the late tolerance are the same
one-tolerance : (format : Format) (text : List ℕ) (early late : ℕ) → Tolerances format text early late → format ≡ One → early ≡ late
one-tolerance One text early late is same = is.1
-- format 2 is not format 1
one-tolerance Two text early late is same = cc

-- a header that is read is spelled
pub header-spelled : (format : Format) (input : List ℕ) (p : Times) (behind : List ℕ) → HeaderComes input (gives (format, p) behind) → Header format p input behind
-- where line 1 or line 2 is missing, a fault comes and no header
header-spelled format input p behind (inr (none, same)) = cc
header-spelled format input p behind (inl (f, rest, title, inr (none, same))) = cc
header-spelled format input p behind (inl (f, rest, title, inl (q, rest2, front, (rules, left, line, same)))) =
    -- where lines 1 and 2 were read, and the rules after them, the header is these lines
    let first : ◌≡◌ {A = Format × Times} (format, p) (f, under rules q) = cc in
    let second : behind ≡ left = cc in
    let spelled = second-spelled f front.line q front.within front.times in
    -- the times of the header are those of line 2, under the rules of line 3
    let is : Header f (under rules q) input left = record {
      times = within-under rules q front.within;
      one = one-tolerance f front.times.rest3 q.early q.late front.times.tolerances;
      rest = rest2;
      lines = title ∙ ap (λ (t : List ℕ). title_text f ++ t) (front.whole ∙ ap (λ (t : List ℕ). t ++ line_feed ∷ rest2) spelled) ∙ lines-parts f q rest2
          ∙ ap (λ (t : List ℕ). t ++ rest2) (sym (lines-under f rules q));
      rules = line;
    } in
    -- the format, the times and the rest are those that were read
    coe 1 0 (i. Header ((first i).0) ((first i).1) input (second i)) is

-- a header that is spelled is read
pub header-read : (format : Format) (input : List ℕ) (p : Times) (behind : List ℕ) → Header format p input behind → HeaderComes input (gives (format, p) behind)
header-read format input p behind is =
    inl (
      format,
      second_text format p ++ line_feed ∷ is.rest,
      is.lines ∙ sym (lines-parts format p is.rest),
      -- line 2 gives the times of the header under the rules of RFC 6026, and line 3 the rules
      inl (
        under R6026 p,
        is.rest,
        record { line = second_text format p; times = second-read format p is.times is.one; within = within-under R6026 p is.times; whole = refl },
        (p.rules, behind, is.rules, refl),
      ),
    )

-- What follows is of the lines of entries.

-- the text of an entry's line that the code writes is its spelling
pub line-same : (action : Action) (moment len : ℕ) → line_text action moment len ≡ line_says action moment len
line-same Sent moment len = refl
line-same Received moment len = refl
line-same Failed moment len = refl
-- a mark and a restart have nothing after the moment, and the empty text that is appended there adds nothing
line-same Mark moment len = append-nil (line_says Mark moment len)
line-same Restart moment len = append-nil (line_says Restart moment len)

-- an entry with this action has a message, or has none
pub message-or-not : (action : Action) → HasMessage action ⊎ ¬ (HasMessage action)
message-or-not Sent = inl ((λ same. cc), (λ same. cc))
message-or-not Received = inl ((λ same. cc), (λ same. cc))
message-or-not Failed = inl ((λ same. cc), (λ same. cc))
-- a mark is ruled out by the first part of `HasMessage`, and a restart by the second
message-or-not Mark = inr (λ has. has.0 refl)
message-or-not Restart = inr (λ has. has.1 refl)

-- an entry that was sent has a message
has-sent : HasMessage Sent
has-sent = ((λ same. cc), (λ same. cc))

-- an entry that was received has a message
has-received : HasMessage Received
has-received = ((λ same. cc), (λ same. cc))

-- an entry that the transport refused has a message
has-failed : HasMessage Failed
has-failed = ((λ same. cc), (λ same. cc))

-- the line of an entry with a message has a blank and the length after the moment
pub length-message : (action : Action) (len : ℕ) → HasMessage action → length_text action len ≡ space ∷ decimal len
length-message Sent len has = refl
length-message Received len has = refl
length-message Failed len has = refl
-- a mark and a restart have no message
length-message Mark len has = absurd (has.0 refl)
length-message Restart len has = absurd (has.1 refl)

-- an entry with a message has the message and a LF after its line
pub body-message : (action : Action) (text : List ℕ) → HasMessage action → body_says action text ≡ text ++ line_feed ∷ []
body-message Sent text has = refl
body-message Received text has = refl
body-message Failed text has = refl
-- a mark and a restart have no message
body-message Mark text has = absurd (has.0 refl)
body-message Restart text has = absurd (has.1 refl)

-- the line of an entry without a message has nothing after the moment
pub length-plain : (action : Action) (len : ℕ) → ¬ (HasMessage action) → length_text action len ≡ []
-- the first three actions have a message, which `none` denies
length-plain Sent len none = absurd (none has-sent)
length-plain Received len none = absurd (none has-received)
length-plain Failed len none = absurd (none has-failed)
length-plain Mark len none = refl
length-plain Restart len none = refl

-- an entry without a message has nothing after its line
pub body-plain : (action : Action) (text : List ℕ) → ¬ (HasMessage action) → body_says action text ≡ []
-- the first three actions have a message, which `none` denies
body-plain Sent text none = absurd (none has-sent)
body-plain Received text none = absurd (none has-received)
body-plain Failed text none = absurd (none has-failed)
body-plain Mark text none = refl
body-plain Restart text none = refl

-- a line that is read as the line of a message, of fewer than 32 bytes, is its spelling
pub message-spelled : (format : Format) (line : List ℕ) (action : Action) (moment len : ℕ) → length line < 32 → HeadLine format line (message action moment len) → line ≡ line_says action moment len
message-spelled format line action moment len short is =
    -- the line is the letter, SP, the moment, SP and the length; both numbers are short, and so spelled as std spells them
    let parts = is.2 in
    let size = simp length-append at (ap length (is.3 ∙ ap (λ (t : List ℕ). letter action ∷ space ∷ t) parts.whole)) in
    let first = decimal-number parts.moment_text moment (omega (arith, size)) parts.moment_is in
    let second = decimal-number parts.len_text len (omega (arith, size)) parts.len_is in
    is.3 ∙ ap (λ (t : List ℕ). letter action ∷ space ∷ t) parts.whole
    ∙ (λ i. letter action ∷ space ∷ first i ++ space ∷ second i)
    ∙ ap (λ (t : List ℕ). letter action ∷ space ∷ decimal moment ++ t) (sym (length-message action len is.1))
    ∙ line-same action moment len

-- a line that spells the line of a message, of fewer than 32 bytes, is read as that
pub message-read : (format : Format) (line : List ℕ) (action : Action) (moment len : ℕ) → length line < 32 → HasMessage action → line ≡ line_says action moment len → HeadLine format line (message action moment len)
message-read format line action moment len short has is =
    let whole : line ≡ letter action ∷ space ∷ decimal moment ++ space ∷ decimal len = is ∙ sym (line-same action moment len) ∙ ap (λ (t : List ℕ). letter action ∷ space ∷ decimal moment ++ t) (length-message action len has) in
    let size = simp length-append at (ap length whole) in (
      decimal moment ++ space ∷ decimal len,
      has,
      -- the moment stands before the blank, and the length after it
      record {
        moment_text = decimal moment;
        len_text = decimal len;
        moment_is = number-decimal moment (decimal-short moment (omega (arith, size)));
        len_is = number-decimal len (decimal-short len (omega (arith, size)));
        whole = refl;
      },
      whole,
    )

-- the text of the line of an entry without a message is its letter, a blank and its moment
plain-text : (action : Action) (moment len : ℕ) → ¬ (HasMessage action) → line_text action moment len ≡ letter action ∷ space ∷ decimal moment
plain-text action moment len none = ap (λ (t : List ℕ). letter action ∷ space ∷ decimal moment ++ t) (length-plain action len none) ∙ ap (λ (t : List ℕ). letter action ∷ space ∷ t) (append-nil (decimal moment))

-- a line that is read as the line of an entry without a message, of fewer than 32 bytes, is its spelling
pub plain-spelled : (format : Format) (line : List ℕ) (action : Action) (moment len : ℕ) → length line < 32 → HeadLine format line (plain action moment) → line ≡ line_says action moment len
plain-spelled format line action moment len short is =
    let size = ap length is.4 in
    -- the line has fewer than 32 bytes, so its moment is short, and spelled as std spells it
    let text = decimal-number is.0 moment (omega (arith, size)) is.3 in
    is.4 ∙ ap (λ (t : List ℕ). letter action ∷ space ∷ t) text ∙ sym (plain-text action moment len is.1) ∙ line-same action moment len

-- a line that spells the line of an entry without a message, of fewer than 32 bytes, is read as that
pub plain-read : (format : Format) (line : List ℕ) (action : Action) (moment len : ℕ) → length line < 32 → ¬ (HasMessage action) → IsOf format action → line ≡ line_says action moment len
    → HeadLine format line (plain action moment)
plain-read format line action moment len short none of is =
    let whole : line ≡ letter action ∷ space ∷ decimal moment = is ∙ sym (line-same action moment len) ∙ plain-text action moment len none in
    let size = ap length whole in
    (decimal moment, none, of, number-decimal moment (decimal-short moment (omega (arith, size))), whole)
