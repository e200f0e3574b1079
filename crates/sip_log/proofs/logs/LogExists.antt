-- Something is read of every input, since each case of the reading holds or does not hold.
-- In the lemmas a and b are the bounds of a number n, or b is a byte; h is the head of an entry.
-- `λ i. f (e i)`: by the equation e, f of its left side is equal to f of its right side.
use Rattle.std.proofs.Common.{◌≡◌, ◌≢◌, ◌⊎◌, inl, inr, ℕ, zero, suc, ◌+◌, ◌<◌, ◌≤◌, List, [], ◌∷◌, ◌++◌, length, take, drop, get_or, refl, subst, sym, ap, ◌∙◌, arith}
use Rattle.std.specs.Prelude.{codes}
use Rattle.std.specs.Char.{digit_value}
use Rattle.std.specs.Str.Parse.{AllDigits, digits_value}
use Rattle.std.proofs.lemmas.Bool.{cases_eq, cases_lt}
use Rattle.std.proofs.lemmas.List.{append-nil, length-append, length-take-le}
use Rattle.sip_standard.specs.Times.{Times, AreTimes, last_moment}
use Rattle.sip_times.specs.Times.{under}
use Rattle.sip_standard.specs.declared.rules.Rules.{Rules}
use Rattle.sip_standard.specs.declared.rules.Rules.TheVariants.{R3261, R6026}
use Rattle.sip_standard.specs.declared.action.Action.{Action}
use Rattle.sip_standard.specs.declared.action.Action.TheVariants.{Sent, Received, Failed, Mark, Restart}
use Rattle.sip_standard.specs.declared.format.Format.{Format}
use Rattle.sip_standard.specs.declared.format.Format.TheVariants.{One, Two}
use Rattle.sip_standard.specs.declared.log_reason.LogReason.{LogReason}
use Rattle.sip_standard.specs.declared.log_reason.LogReason.TheVariants as faults
use Rattle.sip_log.specs.inner.Number.{IsNumber, digit_zero}
use Rattle.sip_standard.specs.LogSays.{line_feed, FrontLine, most_entries, LogEnd, Clean, Stops, LacksHeader}
use Rattle.sip_log.specs.inner.Spelling.{space, letter}
use Rattle.sip_standard.specs.LogEntry.{Item, IsOf}
use Rattle.sip_standard.specs.LogHeader.{rules_text, RulesLine, Header}
use Rattle.sip_log.specs.inner.Line.{longest_line, Numbers, Head, message, plain, HeadLine, KeepsLimits, moment_of}
use Rattle.sip_log.specs.Next.{Next, ends, gives, stops}
use Rattle.sip_log.specs.inner.Unless.{Unless}
use Rattle.sip_log.specs.inner.Header.{Parted, NumberAfter, Tolerances, TimesLine, TimesFront, title_text, HeaderComes, ComesSecond}
use Rattle.sip_log.specs.inner.Entry.{MessageComes, BodyComes, LineComes, EntryComes}
use Rattle.sip_log.specs.inner.Follow.{Follow}
use Rattle.sip_log.proofs.lines.SplitLemmas.{Lacks, Lacks-cons, Lacks-cut, Cut, cut-one, cut-at}
use Rattle.sip_log.proofs.lines.LineLemmas.{Numbers-parts, Numbers-of, HeadLine-unlettered, HeadLine-no_numbers, HeadLine-no_number}
use Rattle.sip_log.proofs.logs.LogLaws.{ComesFirst-one}
use Rattle.sip_log.proofs.spelling.SpellingLemmas.{message-or-not, header-spelled, header-read}
use Rattle.sip_log.proofs.headers.HeaderLemmas.{NumberAfter-one, NumberAfter-part, NumberAfter-of, TimesLine-lacks, TimesLine-one, t2-after, t4-after, tolerances-after}

-- P holds, or it does not
abbrev pub Settled : Type 0 → Type 0
Settled P = P ⊎ ¬ P

-- where each of two facts is decided, so is that both hold
both : (P Q : Type 0) → Settled P → Settled Q → Settled (P × Q)
both P Q (inl p) (inl q) = inl (p, q)
both P Q (inl p) (inr q) = inr (λ x. q x.1)
both P Q (inr p) q = inr (λ x. p x.0)

-- of two numbers it is settled whether the first is at most the second
at_most : (a b : ℕ) → Settled (a ≤ b)
at_most a b = elim (cases_lt b a) as (λ _. Settled (a ≤ b)) [ inl more ↦ inr (λ le. omega arith) | inr le ↦ inl le ]

-- it is settled whether a number is within two bounds
within : (a n b : ℕ) → Settled ((a ≤ n) × (n ≤ b))
within a n b = both (a ≤ n) (n ≤ b) (at_most a n) (at_most n b)

-- a list is cut at its first m, or has no m
cut-or-lacks : (m : ℕ) (xs : List ℕ) → ((front : List ℕ) × (back : List ℕ) × Cut m xs front back) ⊎ Lacks m xs
-- an empty list has no m
cut-or-lacks m [] = inr (record { nowhere = λ k inside. absurd (omega arith) })
cut-or-lacks m (x ∷ xs) = elim (cases_eq x m) as (λ _. ((front : List ℕ) × (back : List ℕ) × Cut m (x ∷ xs) front back) ⊎ Lacks m (x ∷ xs)) [
  -- the first element is m, so the list is cut before it
  | inl same ↦ inl ([], xs, record { whole = ap (λ y. y ∷ xs) same; first = record { nowhere = λ k inside. absurd (omega arith) } })
  -- the first element is another, so it is put before the cut of the others, or none of all is m
  | inr other ↦ elim (cut-or-lacks m xs) as (λ _. ((front : List ℕ) × (back : List ℕ) × Cut m (x ∷ xs) front back) ⊎ Lacks m (x ∷ xs)) [
    | inl at ↦ inl (x ∷ at.0, at.1, record { whole = ap (λ (t : List ℕ). x ∷ t) at.2.whole; first = Lacks-cons m x at.0 other at.2.first })
    | inr lacks ↦ inr (Lacks-cons m x xs other lacks)
  ]
]

-- a list begins with a word, or does not
begins-or-not : (word xs : List ℕ) → ((rest : List ℕ) × (xs ≡ word ++ rest)) ⊎ ((rest : List ℕ) → xs ≢ word ++ rest)
begins-or-not [] xs = inl (xs, refl)
begins-or-not (w ∷ word) [] = inr (λ rest same. cc)
begins-or-not (w ∷ word) (x ∷ xs) = elim (cases_eq x w) as (λ _. ((rest : List ℕ) × (x ∷ xs ≡ w ∷ word ++ rest)) ⊎ ((rest : List ℕ) → x ∷ xs ≢ w ∷ word ++ rest)) [
  -- where the first byte is not that of the word, the list does not begin with it; else this is asked of what follows both
  | inr other ↦ inr (λ rest same. other (ap (λ (t : List ℕ). get_or t 0 0) same))
  | inl first ↦ elim (begins-or-not word xs) as (λ _. ((rest : List ℕ) × (x ∷ xs ≡ w ∷ word ++ rest)) ⊎ ((rest : List ℕ) → x ∷ xs ≢ w ∷ word ++ rest)) [
    -- the list begins with the word exactly if what follows the first byte begins with the rest of the word
    | inl is ↦ inl (is.0, λ i. first i ∷ is.1 i)
    | inr other ↦ inr (λ rest same. other rest (ap (drop 1) same))
  ]
]

-- What follows is of numbers and the lines of entries.

-- it is settled whether all bytes of a text are digits
digits-or-not : (text : List ℕ) → Settled (AllDigits 10 text)
digits-or-not [] = inl tt
digits-or-not (c ∷ cs) = both (digit_value c < 10) (AllDigits 10 cs) (at_most (suc (digit_value c)) 10) (digits-or-not cs)

-- it is settled whether a text begins with 0 only where that is all of it
plain-or-not : (text : List ℕ) → Settled (get_or text 0 0 ≡ digit_zero → length text ≡ 1)
plain-or-not text = elim (cases_eq (length text) 1) as (λ _. Settled (get_or text 0 0 ≡ digit_zero → length text ≡ 1)) [
  -- a text of one byte may begin with 0
  | inl one ↦ inl (λ none. one)
  | inr many ↦ elim (cases_eq (get_or text 0 0) digit_zero) as (λ _. Settled (get_or text 0 0 ≡ digit_zero → length text ≡ 1)) [
    -- a text of another length may not begin with 0, and may begin with another byte
    | inl none ↦ inr (λ plain. many (plain none))
    | inr other ↦ inl (λ none. absurd (other none))
  ]
]

-- a text is a number, or it is no number
number-or-not : (text : List ℕ) → ((n : ℕ) × IsNumber text n) ⊎ ((n : ℕ) → ¬ (IsNumber text n))
number-or-not text = elim (both _ _ (both _ _ (at_most 1 (length text)) (digits-or-not text)) (plain-or-not text)) as (λ _. ((n : ℕ) × IsNumber text n) ⊎ ((n : ℕ) → ¬ (IsNumber text n))) [
  -- the number is the one that the digits make
  | inl is ↦ inl (digits_value 10 text, record { digits = is.0; plain = is.1; value = refl })
  | inr other ↦ inr (λ n is. other (is.digits, is.plain))
]

-- a text has a moment and a length, or has not
numbers-or-not : (text : List ℕ) → ((moment : ℕ) × (len : ℕ) × Numbers text moment len) ⊎ ((moment len : ℕ) → ¬ (Numbers text moment len))
numbers-or-not text = elim (cut-or-lacks space text) [
  -- without a blank there are not two numbers
  | inr lacks ↦ inr (λ moment len is. Lacks-cut space text is.moment_text is.len_text lacks is.whole)
  | inl at ↦ elim (number-or-not at.0) [
    -- what stands before the first blank is no number
    | inr other ↦ inr (λ moment len is. other moment (Numbers-parts text at.0 at.1 moment len at.2 is).0)
    -- what stands before the blank is a number, and what stands after it is one or none
    | inl first ↦ elim (number-or-not at.1) [
      | inr other ↦ inr (λ moment len is. other len (Numbers-parts text at.0 at.1 moment len at.2 is).1)
      | inl second ↦ inl (first.0, second.0, Numbers-of text at.0 at.1 first.0 second.0 at.2 first.1 second.1)
    ]
  ]
]

-- a restart is not an action of format 1
one-has-none : IsOf One Restart → ⊥
one-has-none of = absurd (other (of refl))
  where
    -- format 1 is not format 2
    other : One ≢ Two
    other same = cc

-- the byte is the letter of an action of the format, or of none
abbrev ActionOrNot : Format → ℕ → Type 0
ActionOrNot format b = ((a : Action) × IsOf format a × (b ≡ letter a)) ⊎ ((a : Action) → IsOf format a → b ≢ letter a)

-- the letter of a restart is a letter of format 2 and none of format 1
restart-or-not : (format : Format) (b : ℕ) → b ≢ letter Sent → b ≢ letter Received → b ≢ letter Failed → b ≢ letter Mark → b ≡ letter Restart → ActionOrNot format b
restart-or-not One b sent received failed mark is =
    -- in format 1 no action has this letter: the first four have others, and a restart is none of this format
    inr (λ a. elim a as (λ a. IsOf One a → b ≢ letter a) [
      | Sent ↦ λ of. sent
      | Received ↦ λ of. received
      | Failed ↦ λ of. failed
      | Mark ↦ λ of. mark
      | Restart ↦ λ of. absurd (one-has-none of)
    ])
-- in format 2 the byte is the letter of a restart
restart-or-not Two b sent received failed mark is = inl (Restart, (λ same. refl), is)

-- a byte is the letter of an action of the format, or of none
action-or-not : (format : Format) (b : ℕ) → ActionOrNot format b
action-or-not format b = elim (cases_eq b (letter Sent)) [
  -- the byte is compared with the letters, one after another; `cc`: of these four none is Restart, which format 1 lacks
  | inl is ↦ inl (Sent, (λ same. cc), is)
  | inr sent ↦ elim (cases_eq b (letter Received)) [
    | inl is ↦ inl (Received, (λ same. cc), is)
    -- the letter is neither that of a sent message nor that of a received one
    | inr received ↦ elim (cases_eq b (letter Failed)) [
      | inl is ↦ inl (Failed, (λ same. cc), is)
      | inr failed ↦ elim (cases_eq b (letter Mark)) [
        | inl is ↦ inl (Mark, (λ same. cc), is)
        -- the letter is none of these, and not that of a mark
        | inr mark ↦ elim (cases_eq b (letter Restart)) [
          | inl is ↦ restart-or-not format b sent received failed mark is
          -- the byte is none of the five letters
          | inr restart ↦ inr (λ a. elim a as (λ a. IsOf format a → b ≢ letter a) [
            | Sent ↦ λ of. sent
            | Received ↦ λ of. received
            | Failed ↦ λ of. failed
            | Mark ↦ λ of. mark
            | Restart ↦ λ of. restart
          ])
        ]
      ]
    ]
  ]
]

-- the line is the head of an entry, or of none
abbrev HeadOrNot : Format → List ℕ → Type 0
HeadOrNot format line = ((h : Head) × HeadLine format line h) ⊎ ((h : Head) → ¬ (HeadLine format line h))

-- a line that is not a byte, a blank and more is no entry's line
no-head : (format : Format) (line : List ℕ) → ((b : ℕ) (text : List ℕ) → line ≢ b ∷ space ∷ text) → (h : Head) → ¬ (HeadLine format line h)
no-head format line other (message action moment len) is = other (letter action) is.0 is.3
no-head format line other (plain action moment) is = other (letter action) is.0 is.4

-- a line with a letter of the format and a blank is an entry's line, or it is not
lettered-or-not : (format : Format) (action : Action) (text : List ℕ) → IsOf format action → HeadOrNot format (letter action ∷ space ∷ text)
lettered-or-not format action text of = elim (message-or-not action) as (λ _. HeadOrNot format (letter action ∷ space ∷ text)) [
  -- with a message a moment and a length stand after the letter
  | inl has ↦ elim (numbers-or-not text) as (λ _. HeadOrNot format (letter action ∷ space ∷ text)) [
    | inl is ↦ inl (message action is.0 is.1, (text, has, is.2, refl))
    | inr none ↦ inr (HeadLine-no_numbers format (letter action ∷ space ∷ text) action has refl none)
  ]
  -- without a message a moment alone stands after the letter
  | inr lacks ↦ elim (number-or-not text) as (λ _. HeadOrNot format (letter action ∷ space ∷ text)) [
    | inl is ↦ inl (plain action is.0, (text, lacks, of, is.1, refl))
    | inr none ↦ inr (HeadLine-no_number format (letter action ∷ space ∷ text) action lacks refl none)
  ]
]

-- a line with a byte and a blank is an entry's line, or it is not
letter-or-not : (format : Format) (b : ℕ) (text : List ℕ) → HeadOrNot format (b ∷ space ∷ text)
letter-or-not format b text = elim (action-or-not format b) as (λ _. HeadOrNot format (b ∷ space ∷ text)) [
  -- the byte is the letter of no action, so the line is no entry's; or it is that of one
  | inr none ↦ inr (HeadLine-unlettered format (b ∷ space ∷ text) none)
  | inl by ↦ subst (λ c. HeadOrNot format (c ∷ space ∷ text)) (sym by.2) (lettered-or-not format by.0 text by.1)
]

-- a line is an entry's line of the format, or it is not
head-or-not : (format : Format) (line : List ℕ) → HeadOrNot format line
head-or-not format [] = inr (no-head format [] (λ b text same. cc))
head-or-not format (b ∷ []) = inr (no-head format (b ∷ []) (λ c text same. cc))
head-or-not format (b ∷ s ∷ text) = elim (cases_eq s space) as (λ _. HeadOrNot format (b ∷ s ∷ text)) [
  -- a line whose second byte is no blank is no line of an entry; else the letter before the blank and the text after it decide
  | inr other ↦ inr (no-head format (b ∷ s ∷ text) (λ c t same. other (ap (λ (t : List ℕ). get_or t 1 0) same)))
  | inl blank ↦ subst (λ s. HeadOrNot format (b ∷ s ∷ text)) (sym blank) (letter-or-not format b text)
]

-- the rest has a front line, or has none
front-or-not : (rest : List ℕ) → ((line : List ℕ) × (behind : List ℕ) × FrontLine rest line behind) ⊎ ((line behind : List ℕ) → ¬ (FrontLine rest line behind))
front-or-not rest = elim (cut-or-lacks line_feed rest) [
  -- without a line feed there is no front line
  | inr lacks ↦ inr (λ line behind is. Lacks-cut line_feed rest line behind lacks is.whole)
  | inl at ↦ elim (at_most (suc (length at.0)) longest_line) [
    | inl short ↦ inl (at.0, at.1, record { whole = at.2.whole; first = at.2.first.nowhere; short = short })
    -- the line before the first line feed is too long, and every front line ends at that line feed
    | inr long ↦ inr (λ line behind is.
        let parts = cut-one line_feed line behind at.0 at.1 (record { nowhere = is.first }) at.2.first (sym is.whole ∙ at.2.whole) in
        long (subst (λ t. suc (length t) ≤ longest_line) parts.0 is.short))
  ]
]

-- What follows is that something comes next.

-- P holds of something that comes next
abbrev Comes : {A : Type 0} → (Next A → Type 0) → Type 0
Comes {A} P = (next : Next A) × P next

-- where a demand holds or not, and something follows where it holds, something comes by the case of the demand
Unless-some : {A : Type 0} (Demand : Type 0) (reason : LogReason) (Follows : Next A → Type 0) → Settled Demand → (Demand → Comes Follows)
    → Comes (λ next. Unless Demand reason next (Follows next))
Unless-some Demand reason Follows (inl holds) follows = let f = follows holds in (f.0, inr (holds, f.1))
Unless-some Demand reason Follows (inr fails) follows = (stops reason, inl (fails, refl))

-- something comes by a message: it is an entry, or a fault
message-some : (action : Action) (moment len : ℕ) (behind : List ℕ) → Comes (MessageComes action moment len behind)
message-some action moment len behind = Unless-some (len < length behind) faults.Truncated _ (at_most (suc len) (length behind))
    (λ inside.
    let text = take len behind in
    let b = get_or behind len 0 in
    let after = drop (len + 1) behind in
    -- b is the byte after the message: with a line feed the entry comes, with another byte the fault
    let close = Unless-some (b ≡ line_feed) faults.EntryLine (λ next. next ≡ gives (record { action = action; moment = moment; text = text }) after)
    (cases_eq b line_feed) (λ is. (gives (record { action = action; moment = moment; text = text }) after, refl)) in
    (close.0, (text, b, after, cut-at behind len inside, length-take-le len behind (omega arith), close.1)))

-- after each head something comes: an entry, or a fault
body-some : (head : Head) (behind : List ℕ) → Comes (BodyComes head behind)
body-some (message action moment len) behind = message-some action moment len behind
body-some (plain action moment) behind = (gives (record { action = action; moment = moment; text = [] }) behind, refl)

-- the numbers of an entry's line are within the limits, or are not
pub limits-or-not : (head : Head) → Settled (KeepsLimits head)
limits-or-not (message action moment len) = elim (both _ _ (at_most moment last_moment) (within 1 len 65535)) as (λ _. Settled (KeepsLimits (message action moment len))) [
  -- the moment is at most the last one and the length lies from 1 to 65535, or one of these fails
  | inl is ↦ inl (is.0, is.1.0, is.1.1)
  | inr other ↦ inr (λ is. other (is.0, (is.1, is.2)))
]
limits-or-not (plain action moment) = at_most moment last_moment

-- something comes by the front line of the rest: it is an entry, or a fault
line-some : (format : Format) (last : ℕ) (rest : List ℕ) → Comes (LineComes format last rest)
line-some format last rest = elim (front-or-not rest) [
  -- without a front line the input is cut off, or the line is too long
  | inr none ↦
      let next = Unless-some (longest_line ≤ length rest) faults.Truncated (λ next. next ≡ stops faults.EntryLine) (at_most longest_line (length rest)) (λ long. (stops faults.EntryLine, refl)) in
      (next.0, inl (none, next.1))
  -- the front line is no line of an entry, or it is one: then its limits, its order and its message are looked at
  | inl front ↦ elim (head-or-not format front.0) [
    | inr none ↦ (stops faults.EntryLine, inr (front.0, front.1, front.2, inl (none, refl)))
    | inl head ↦
        let next = Unless-some (KeepsLimits head.0) faults.Limit _ (limits-or-not head.0)
        (λ limits. Unless-some (last ≤ moment_of head.0) faults.Order _ (at_most last (moment_of head.0)) (λ order. body-some head.0 front.1)) in
        (next.0, inr (front.0, front.1, front.2, inr (head.0, head.1, next.1)))
  ]
]

-- something comes next in the rest: it is its end, an entry, or a fault
pub next-some : (format : Format) (count last : ℕ) (rest : List ℕ) → Comes (EntryComes format count last rest)
next-some format count last [] = (ends, inl (refl, refl))
next-some format count last (x ∷ xs) =
    let next = Unless-some (count < most_entries) faults.Limit _ (at_most (suc count) most_entries) (λ few. line-some format last (x ∷ xs)) in
    (next.0, inr ((λ same. cc), next.1))

-- where a case gives something, it does not stop with the reason, so what it gives is what follows
Unless-gives : {A : Type 0} (Demand : Type 0) (reason : LogReason) (a : A) (behind : List ℕ) (Follows : Type 0) → Unless Demand reason (gives a behind) Follows → Follows
-- a stop gives nothing, so the first case cannot be
Unless-gives Demand reason a behind Follows (inl (fails, same)) = cc
Unless-gives Demand reason a behind Follows (inr (holds, follows)) = follows

-- what is left after the message of an entry is no longer than what was left before it
body-shorter : (head : Head) (rest : List ℕ) (e : Item) (behind : List ℕ) → BodyComes head rest (gives e behind) → length behind ≤ length rest
body-shorter (message action moment len) rest e behind is =
    -- the message and a byte are taken from the rest
    let (text, b, after, whole, size, close) = Unless-gives _ _ e behind _ is in
    let closed = Unless-gives _ _ e behind _ close in
    let same : behind ≡ after = cc in
    omega (arith, ap length same, ap length whole, length-append text (b ∷ after))
-- without a message nothing is taken
body-shorter (plain action moment) rest e behind is =
    let same : behind ≡ rest = cc in
    omega (arith, ap length same)

-- what is left after an entry is shorter than what was left before it
line-shorter : (format : Format) (last : ℕ) (rest : List ℕ) (e : Item) (behind : List ℕ) → LineComes format last rest (gives e behind) → length behind < length rest
line-shorter format last rest e behind (inl (none, next)) = absurd (no-entry (Unless-gives _ _ e behind _ next))
  where
    -- what gives an entry does not stop with a fault
    no-entry : gives e behind ≢ stops faults.EntryLine
    no-entry same = cc
-- the front line is that of no entry, so a fault comes
line-shorter format last rest e behind (inr (line, after, front, inl (other, same))) = cc
line-shorter format last rest e behind (inr (line, after, front, inr (head, is, next))) =
    let body = Unless-gives _ _ e behind _ (Unless-gives _ _ e behind _ next) in
    omega (arith, body-shorter head after e behind body, ap length front.whole, length-append line (line_feed ∷ after))

-- what is left after an entry is shorter than what was left before it
pub next-shorter : (format : Format) (count last : ℕ) (rest : List ℕ) (e : Item) (behind : List ℕ) → EntryComes format count last rest (gives e behind) → length behind < length rest
-- nothing is left, so the end comes
next-shorter format count last rest e behind (inl (none, same)) = cc
next-shorter format count last rest e behind (inr (some, next)) = line-shorter format last rest e behind (Unless-gives _ _ e behind _ next)

-- the rest has some entries in a row, and an end
abbrev Follows : Format → ℕ → ℕ → List ℕ → Type 0
Follows format count last rest = (es : List Item) × (end : LogEnd) × Follow format count last rest es end

-- the rest has entries and an end where what is left after its first entry, if there is one, has
follows-from : (format : Format) (count last : ℕ) (rest : List ℕ) (next : Next Item) → EntryComes format count last rest next
    → ((e : Item) (behind : List ℕ) → length behind < length rest → Follows format (count + 1) e.moment behind) → Follows format count last rest
-- the end or a fault comes, and no entry
follows-from format count last rest ends next more = ([], Clean, next)
follows-from format count last rest (stops reason) next more = ([], Stops reason, next)
follows-from format count last rest (gives e behind) next more =
    let (es, end, follow) = more e behind (next-shorter format count last rest e behind next) in
    (e ∷ es, end, (behind, next, follow))

-- a rest of fewer than `most` bytes has entries and an end
follows-some : (format : Format) (most count last : ℕ) (rest : List ℕ) → length rest < most → Follows format count last rest
-- no rest has fewer than 0 bytes
follows-some format zero count last rest short = absurd (omega arith)
follows-some format (suc most) count last rest short =
    let next = next-some format count last rest in
    follows-from format count last rest next.0 next.1 (λ e behind shorter. follows-some format most (count + 1) e.moment behind (omega arith))

-- each rest of an input has some entries in a row, and an end
pub Follow-some : (format : Format) (count last : ℕ) (rest : List ℕ) → (es : List Item) × (end : LogEnd) × Follow format count last rest es end
Follow-some format count last rest = follows-some format (suc (length rest)) count last rest (omega arith)

-- What follows is of the header.

-- a number stands after the word in the text, or none does
abbrev NumberOrNot : List ℕ → List ℕ → Type 0
NumberOrNot word text = ((n : ℕ) × (behind : List ℕ) × NumberAfter word text n behind) ⊎ ((n : ℕ) (behind : List ℕ) → ¬ (NumberAfter word text n behind))

-- a text with the word has a number before its first blank, or has none
part-or-not : (word text front back : List ℕ) → text ≡ word ++ (front ++ back) → Lacks space front → Parted back → NumberOrNot word text
part-or-not word text front back after lacks parted = elim (number-or-not front) [
  -- the number is what stands after the word and before the first blank, so this is a number or there is none
  | inl is ↦ inl (is.0, back, NumberAfter-of word text front back after lacks parted is.0 is.1)
  | inr none ↦ inr (λ n behind is. none n (NumberAfter-part word text front back after lacks parted n behind is))
]

-- a text has a number after the word, or has none
number_after-or-not : (word text : List ℕ) → NumberOrNot word text
number_after-or-not word text = elim (begins-or-not word text) [
  | inr none ↦ inr (λ n behind is. none _ is.whole)
  | inl is ↦ elim (cut-or-lacks space is.0) [
    -- the number stands up to the first blank, or up to the end
    | inl at ↦ part-or-not word text at.0 (space ∷ at.1) (is.1 ∙ ap (λ (t : List ℕ). word ++ t) at.2.whole) at.2.first (inr (at.1, refl))
    | inr lacks ↦ part-or-not word text is.0 [] (is.1 ∙ ap (λ (t : List ℕ). word ++ t) (sym (append-nil is.0))) lacks (inl refl)
  ]
]

-- the text is the word and a number, or it is not
abbrev LastOrNot : List ℕ → List ℕ → Type 0
LastOrNot word text = ((n : ℕ) × NumberAfter word text n []) ⊎ ((n : ℕ) → ¬ (NumberAfter word text n []))

-- a text ends with a number after the word, or does not
last-or-not : (word text : List ℕ) → LastOrNot word text
last-or-not word text = elim (number_after-or-not word text) as (λ _. LastOrNot word text) [
  -- no number stands after the word, or one does, and then what is left after it decides
  | inr none ↦ inr (λ n is. none n [] is)
  | inl is ↦ ends-here is.0 is.1 is.2
]
  -- the number that follows the word ends the text, or something is left after it
  where
    -- whether the text ends after the number or goes on, it is settled whether it is the word and a number
    ends-here : (n : ℕ) (behind : List ℕ) → NumberAfter word text n behind → LastOrNot word text
    ends-here n [] is = inl (n, is)
    ends-here n (x ∷ xs) is = inr (λ n2 is2. nil-cons (NumberAfter-one word text n2 n [] (x ∷ xs) is2 is).1)
      where
        -- the empty list is no list with a first element
        nil-cons : [] ≢ x ∷ xs
        nil-cons same = cc

-- the text tells tolerances of the format, or it tells none
abbrev TolerancesOrNot : Format → List ℕ → Type 0
TolerancesOrNot format text = ((early : ℕ) × (late : ℕ) × Tolerances format text early late) ⊎ ((early late : ℕ) → ¬ (Tolerances format text early late))

-- a text has tolerances of the format, or has none
tolerances-or-not : (format : Format) (text : List ℕ) → TolerancesOrNot format text
tolerances-or-not One text = elim (last-or-not (codes " tolerance ") text) as (λ _. TolerancesOrNot One text) [
  -- format 1 has one tolerance, which ends the text and is both
  | inl is ↦ inl (is.0, is.0, (is.1, refl))
  | inr none ↦ inr (λ early late is. none late is.0)
]
-- format 2 has two tolerances, one after the other
tolerances-or-not Two text = elim (number_after-or-not (codes " early ") text) as (λ _. TolerancesOrNot Two text) [
  -- the text has no `early`; or it has one, and then `late` follows or does not; `NumberAfter-one`: only one number is read after a word
  | inr none ↦ inr (λ early late is. none early is.0 is.1)
  | inl early ↦ elim (last-or-not (codes " late ") early.1) as (λ _. TolerancesOrNot Two text) [
    | inl late ↦ inl (early.0, late.0, (early.1, early.2, late.1))
    | inr none ↦ inr (λ e late is.
        none late (subst (λ t. NumberAfter (codes " late ") t late []) (NumberAfter-one (codes " early ") text e early.0 is.0 early.1 is.1 early.2).1 is.2))
  ]
]

-- the line is a line 2 of the format, or it is not
abbrev TimesOrNot : Format → List ℕ → Type 0
TimesOrNot format line = ((p : Times) × TimesLine format line p) ⊎ ((p : Times) → ¬ (TimesLine format line p))

-- a line is a line 2 of the format, or it is not
times-or-not : (format : Format) (line : List ℕ) → TimesOrNot format line
times-or-not format line = elim (number_after-or-not (codes "t1 ") line) as (λ _. TimesOrNot format line) [
  -- where t1 or t2 does not stand in its place, the line is no line 2
  | inr none ↦ inr (λ p is. none _ _ is.t1_is)
  | inl t1 ↦ elim (number_after-or-not (codes " t2 ") t1.1) as (λ _. TimesOrNot format line) [
    | inr none ↦ inr (λ p is. none _ _ (t2-after format line p is t1.0 t1.1 t1.2))
    -- after t2 comes t4, and then the tolerances
    | inl t2 ↦ elim (number_after-or-not (codes " t4 ") t2.1) as (λ _. TimesOrNot format line) [
      | inr none ↦ inr (λ p is. none _ _ (t4-after format line p is t1.0 t1.1 t1.2 t2.0 t2.1 t2.2))
      | inl t4 ↦ elim (tolerances-or-not format t4.1) as (λ _. TimesOrNot format line) [
        | inr none ↦ inr (λ p is. none _ _ (tolerances-after format line p is t1.0 t1.1 t1.2 t2.0 t2.1 t2.2 t4.0 t4.1 t4.2))
        -- all five numbers stand there, so the line has these times
        | inl both ↦
            let times : Times = record { t1 = t1.0; t2 = t2.0; t4 = t4.0; early = both.0; late = both.1; rules = R6026 } in
            let is : TimesLine format line times = record {
              rest1 = t1.1;
              rest2 = t2.1;
              rest3 = t4.1;
              -- the numbers are those that were read
              t1_is = t1.2;
              t2_is = t2.2;
              t4_is = t4.2;
              tolerances = both.2;
              rules = refl;
            } in
            inl (times, is)
      ]
    ]
  ]
]

-- times are within their limits, or are not
are-times-or-not : (p : Times) → Settled (AreTimes p)
are-times-or-not p =
    -- T1 is 1 to 10,000 ms, T2 and T4 are 1 to 60,000 ms, and both tolerances at most 10,000 ms
    elim (both _ _ (both _ _ (within 1 p.t1 10000) (within 1 p.t2 60000)) (both _ _ (within 1 p.t4 60000) (both _ _ (at_most p.early 10000) (at_most p.late 10000)))) as (λ _. Settled (AreTimes p)) [
      | inl is ↦ inl (record {
        -- each of T1, T2 and T4 has its least and its greatest value, the tolerances the greatest alone
        t1_low = is.0.0.0;
        t1_high = is.0.0.1;
        t2_low = is.0.1.0;
        t2_high = is.0.1.1;
        t4_low = is.1.0.0;
        t4_high = is.1.0.1;
        early_high = is.1.1.0;
        late_high = is.1.1.1;
      })
      | inr other ↦ inr (λ is. other (((is.t1_low, is.t1_high), (is.t2_low, is.t2_high)), ((is.t4_low, is.t4_high), (is.early_high, is.late_high))))
    ]

-- the rest begins with a line 2 of the format, or it does not
abbrev SecondOrNot : Format → List ℕ → Type 0
SecondOrNot format rest = ((p : Times) × (behind : List ℕ) × TimesFront format rest p behind) ⊎ ((p : Times) (behind : List ℕ) → ¬ (TimesFront format rest p behind))

-- the rest begins with a line 2 whose times are within their limits, or does not
second-or-not : (format : Format) (rest : List ℕ) → SecondOrNot format rest
second-or-not format rest = elim (cut-or-lacks line_feed rest) as (λ _. SecondOrNot format rest) [
  -- without a line feed there is no line 2
  | inr lacks ↦ inr (λ p behind is. Lacks-cut line_feed rest is.line behind lacks is.whole)
  | inl at ↦ elim (times-or-not format at.0) as (λ _. SecondOrNot format rest) [
    -- the line before the first line feed tells no times, or times out of their limits, or times within them
    | inr none ↦ inr (λ p behind is. none p (line-is at.0 at.1 at.2 p behind is))
    | inl times ↦ elim (are-times-or-not times.0) as (λ _. SecondOrNot format rest) [
      | inl limits ↦ inl (times.0, at.1, record { line = at.0; times = times.1; within = limits; whole = at.2.whole })
      | inr outside ↦ inr (λ p behind is. outside (subst AreTimes (TimesLine-one format at.0 p times.0 (line-is at.0 at.1 at.2 p behind is) times.1) is.within))
    ]
  ]
]
  where
    -- the line of the times is what stands before the first line feed
    line-is : (front back : List ℕ) → Cut line_feed rest front back → (p : Times) (behind : List ℕ) → TimesFront format rest p behind → TimesLine format front p
    line-is front back at p behind is =
        let parts = cut-one line_feed is.line behind front back (TimesLine-lacks format is.line p is.times) at.first (sym is.whole ∙ at.whole) in
        subst (λ t. TimesLine format t p) parts.0 is.times

-- the rest after line 2 has a line of rules, or has none and the rules are those of RFC 6026
rules-some : (rest : List ℕ) → (rules : Rules) × (behind : List ℕ) × RulesLine rules rest behind
rules-some rest = elim (begins-or-not (rules_text R3261) rest) as (λ _. (rules : Rules) × (behind : List ℕ) × RulesLine rules rest behind) [
  -- the rest begins with the line of RFC 3261, with that of RFC 6026, or with none
  | inl is ↦ (R3261, is.0, inl is.1)
  | inr old ↦ elim (begins-or-not (rules_text R6026) rest) as (λ _. (rules : Rules) × (behind : List ℕ) × RulesLine rules rest behind) [
    | inl is ↦ (R6026, is.0, inl is.1)
    | inr new ↦ (R6026, rest, inr (refl, refl, (λ rules. elim rules as (λ rules. (more : List ℕ) → rest ≢ rules_text rules ++ more) [ R3261 ↦ old | R6026 ↦ new ])))
  ]
]

-- something comes after line 1: it is a header, or a fault
second-some : (format : Format) (rest : List ℕ) → Comes (ComesSecond format rest)
second-some format rest = elim (second-or-not format rest) as (λ _. Comes (ComesSecond format rest)) [
  -- without a line 2 the fault is `Header`; with one the header ends after it, or after a line of rules that follows it
  | inr none ↦ (stops faults.Header, inr (none, refl))
  | inl front ↦
      let line = rules-some front.1 in
      (gives (format, under line.0 front.0) line.1, inl (front.0, front.1, front.2, (line.0, line.1, line.2, refl)))
]

-- something comes first in an input: it is a header, or a fault
first-some : (input : List ℕ) → Comes (HeaderComes input)
first-some input = elim (begins-or-not (title_text One) input) as (λ _. Comes (HeaderComes input)) [
  -- line 1 is that of format 1, that of format 2, or none
  | inl is ↦ let next = second-some One is.0 in (next.0, inl (One, is.0, is.1, next.1))
  | inr one ↦ elim (begins-or-not (title_text Two) input) as (λ _. Comes (HeaderComes input)) [
    | inl is ↦ let next = second-some Two is.0 in (next.0, inl (Two, is.0, is.1, next.1))
    | inr two ↦ (stops faults.Header, inr ((λ format. elim format as (λ format. (rest : List ℕ) → input ≢ title_text format ++ rest) [ One ↦ one | Two ↦ two ]), refl))
  ]
]

-- where the code reads a fault as the header, the input lacks a header
pub no-header : (input : List ℕ) (fault : LogReason) → HeaderComes input (stops fault) → LacksHeader input
no-header input fault is format p behind header = absurd (other (ComesFirst-one input _ _ (header-read format input p behind header) is))
  where
    -- what gives a header does not stop with a fault
    other : ◌≢◌ {A = Next (Format × Times)} (gives (format, p) behind) (stops fault)
    other same = cc

-- what comes first in an input is not its end
-- a header that is read gives something, and where none is read a fault comes
first-not-ends : (input : List ℕ) → ¬ (HeaderComes input ends)
first-not-ends input (inl (format, rest, title, inl (p, behind, front, (rules, more, line, same)))) = cc
first-not-ends input (inl (format, rest, title, inr (none, same))) = cc
first-not-ends input (inr (none, same)) = cc

-- the input has a header, or it lacks one
abbrev pub HeaderOrNot : List ℕ → Type 0
HeaderOrNot input = ((format : Format) × (p : Times) × (behind : List ℕ) × Header format p input behind) ⊎ LacksHeader input

-- an input has a header where one comes first, and lacks one where a fault does
header-from : (input : List ℕ) (next : Next (Format × Times)) → HeaderComes input next → HeaderOrNot input
header-from input ends is = absurd (first-not-ends input is)
header-from input (gives (format, p) behind) is = inl (format, p, behind, header-spelled format input p behind is)
header-from input (stops fault) is = inr (no-header input fault is)

-- an input has a header, or lacks one
pub header-or-not : (input : List ℕ) → HeaderOrNot input
header-or-not input =
    let first = first-some input in
    header-from input first.0 first.1
