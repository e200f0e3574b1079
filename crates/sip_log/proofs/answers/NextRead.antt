-- What comes next by the spelling is what the code reads next.
-- `λ i. f (e i)`: by the equation e, f of its left side is equal to f of its right side.
use Rattle.std.proofs.Common.{◌≡◌, ◌≢◌, inl, inr, ◌<◌, ◌≤◌, ◌+◌, ℕ, List, [], ◌∷◌, ◌++◌, length, take, drop, get_or, refl, subst, sym, ap, ◌∙◌, arith, append_assoc}
use Rattle.std.specs.Prelude.{decimal}
use Rattle.std.proofs.lemmas.List.{length-append, length-take-le}
use Rattle.std.proofs.lemmas.Fmt.{length-decimal-le}
use Rattle.sip_standard.specs.Times.{last_moment}
use Rattle.sip_standard.specs.declared.action.Action.{Action}
use Rattle.sip_standard.specs.declared.action.Action.TheVariants.{Sent, Received, Failed, Mark, Restart}
use Rattle.sip_standard.specs.declared.format.Format.{Format}
use Rattle.sip_standard.specs.declared.log_reason.LogReason.{LogReason}
use Rattle.sip_standard.specs.declared.log_reason.LogReason.TheVariants as faults
use Rattle.sip_log.specs.Next.{Next, ends, gives, stops, ComesNext}
use Rattle.sip_standard.specs.LogSays.{line_feed, most_entries, First, LineFault}
use Rattle.sip_log.specs.inner.Spelling.{space, letter, length_text, line_text}
use Rattle.sip_standard.specs.LogEntry.{line_says, body_says, entry_says, Item, HasMessage, IsEntry}
use Rattle.sip_log.specs.inner.Line.{Head, message, plain, HeadLine}
use Rattle.sip_log.specs.inner.Entry as read
use Rattle.sip_log.proofs.lines.SplitLemmas.{cut-at, Lacks, Lacks-append, Lacks-cons, Lacks-word}
use Rattle.sip_log.proofs.spelling.SpellingLemmas.{line-same, message-or-not, length-message, length-plain, body-message, body-plain, message-spelled, message-read, plain-spelled, plain-read}
use Rattle.sip_log.proofs.lines.LineLemmas.{message-of}
use Rattle.sip_log.proofs.numbers.NumberLemmas.{IsNumber-no_line_feed}
use Rattle.sip_log.proofs.numbers.DecimalLemmas.{number-decimal, powers}
use Rattle.sip_log.proofs.answers.NextLemmas.{AtBody, AtNumbers, AtFront, not_below, not_above, message-within, within-message}
use Rattle.sip_log.proofs.logs.LogExists.{limits-or-not}

-- What follows is of faults.

-- where a message is not whole with its LF (case 6), or the byte after it is no LF (case 7), this fault is read
message-stops : (action : Action) (moment len : ℕ) (behind : List ℕ) (fault : LogReason) → AtBody action len behind fault → read.MessageComes action moment len behind (stops fault)
-- too few bytes follow for the message and its LF
message-stops action moment len behind fault (other, inl (short, same)) = inl ((λ more. omega arith), ap stops same)
-- the bytes of the message are there, and the byte after them is no LF
message-stops action moment len behind fault (other, inr (long, (unclosed, same))) =
    let inside : len < length behind = not_above (length behind) len long in
    inr (inside, (take len behind, get_or behind len 0, drop (len + 1) behind, cut-at behind len inside, length-take-le len behind (omega arith), inl (unclosed, ap stops same)))

-- a message's line whose numbers or message are at fault is read as that fault
message-numbers : (last : ℕ) (action : Action) (moment len : ℕ) (behind : List ℕ) (fault : LogReason) → HasMessage action → AtNumbers last action moment len behind fault
    → read.HeadComes last (message action moment len) behind (stops fault)
-- the moment or the length is outside its limits
message-numbers last action moment len behind fault other (inl (outside, same)) = inl ((λ k. outside (message-within action moment len k)), ap stops same)
-- both are within them, and the order or the message is at fault
message-numbers last action moment len behind fault other (inr (inside, rest)) = elim (limits-or-not (message action moment len)) [
  | inr outside ↦ absurd (inside (λ w. outside (within-message action moment len other w)))
  | inl keeps ↦ inr (keeps, order rest)
]
  where
    -- where the order or the message is at fault, the line is read as that fault
    order : First (moment < last) faults.Order fault (AtBody action len behind fault) → read.MomentComes last (message action moment len) behind (stops fault)
    order (inl (early, same)) = inl ((λ le. omega arith), ap stops same)
    order (inr (late, body)) = inr (not_below moment last late, message-stops action moment len behind fault body)

-- the line of an entry without a message, whose moment is at fault, is read as that fault
plain-numbers : (last : ℕ) (action : Action) (moment len : ℕ) (behind : List ℕ) (fault : LogReason) → ¬ (HasMessage action) → AtNumbers last action moment len behind fault → read.HeadComes last (plain action moment) behind (stops fault)
-- the moment is outside its limits
plain-numbers last action moment len behind fault none (inl (outside, same)) = inl ((λ k. outside (k, (λ has. absurd (none has)))), ap stops same)
-- the moment is within them, and before that of the entry before: no message is there that could be at fault
plain-numbers last action moment len behind fault none (inr (inside, rest)) = elim (limits-or-not (plain action moment)) [
  | inr outside ↦ absurd (inside (λ w. outside w.0))
  | inl keeps ↦ inr (keeps, order rest)
]
  where
    -- where the order or what comes after it is at fault, the line is read as that fault
    order : First (moment < last) faults.Order fault (AtBody action len behind fault) → read.MomentComes last (plain action moment) behind (stops fault)
    order (inl (early, same)) = inl ((λ le. omega arith), ap stops same)
    order (inr (late, body)) = absurd (none body.0)

-- a line at fault is read as that fault
line-stops : (format : Format) (last : ℕ) (line behind : List ℕ) (fault : LogReason) → length line < 32 → LineFault format last line behind fault → read.FormComes format last line behind (stops fault)
-- the line is that of no entry
line-stops format last line behind fault short (inl (none, same)) = inl (unread, ap stops same)
  where
    -- the line is not the first line of an entry
    unread : (h : Head) → ¬ (HeadLine format line h)
    unread (message action moment len) is = none action moment len (message-of format action is.1) (message-spelled format line action moment len short is)
    unread (plain action moment) is = none action moment 0 is.2 (plain-spelled format line action moment 0 short is)
-- the line is that of an entry, and its numbers or its message are at fault
line-stops format last line behind fault short (inr (action, moment, len, of, is, numbers)) = elim (message-or-not action) [
  | inr none ↦ inr (plain action moment, plain-read format line action moment len short none of is, plain-numbers last action moment len behind fault none numbers)
  | inl has ↦ inr (message action moment len, message-read format line action moment len short has is, message-numbers last action moment len behind fault has numbers)
]

-- a rest whose front is at fault is read as that fault
front-stops : (format : Format) (last : ℕ) (rest : List ℕ) (fault : LogReason) → AtFront format last rest fault → read.LineComes format last rest (stops fault)
-- there is no front line: fewer than 32 bytes are left, or no fewer
front-stops format last rest fault (inl (none, inl (few, same))) = inl (none, inl ((λ many. omega arith), ap stops same))
front-stops format last rest fault (inl (none, inr (many, same))) = inl (none, inr (not_below (length rest) 32 many, ap stops same))
-- there is a front line, which is at fault
front-stops format last rest fault (inr (line, behind, front, at)) = inr (line, behind, front, line-stops format last line behind fault front.short at)

-- What follows is of entries.

-- a moment, which is below 10^13 and so below 10^64, has no line feed in decimals
lacks-decimal : (n : ℕ) → n ≤ last_moment → Lacks line_feed (decimal n)
lacks-decimal n low = IsNumber-no_line_feed (decimal n) n (number-decimal n (omega (arith, low, powers 13 64 (omega arith))))

-- no letter of an entry is a line feed
letter-lacks : (a : Action) → letter a ≢ line_feed
letter-lacks Sent same = absurd (omega arith)
letter-lacks Received same = absurd (omega arith)
letter-lacks Failed same = absurd (omega arith)
letter-lacks Mark same = absurd (omega arith)
letter-lacks Restart same = absurd (omega arith)

-- the line of an entry within the limits has no LF, and fewer than 32 bytes
line-lacks : (action : Action) (moment len : ℕ) → moment ≤ last_moment → (HasMessage action → len ≤ 65535) → Lacks line_feed (line_text action moment len) × (length (line_text action moment len) < 32)
line-lacks action moment len low small = elim (message-or-not action) as (λ _. Lacks line_feed (line_text action moment len) × (length (line_text action moment len) < 32)) [
  -- without a message the line is the letter, SP and the moment
  | inr none ↦
      let text = length-plain action len none in (
        Lacks-cons line_feed (letter action) _ (letter-lacks action) (Lacks-cons line_feed space _ (λ e. omega arith)
            (subst (λ (t : List ℕ). Lacks line_feed (decimal moment ++ t)) (sym text) (Lacks-append line_feed (decimal moment) [] (lacks-decimal moment low) (Lacks-word line_feed [] refl)))),
        omega (arith, length-append (decimal moment) (length_text action len), ap length text, size),
      )
  -- the length of a message has at most five digits
  | inl has ↦
      let far = small has in
      let digits = length-decimal-le 5 len (omega arith) (omega arith) (omega arith) in
      let text = length-message action len has in (
        -- no LF stands in the letter, the blanks or the digits, and these are fewer than 32 bytes
        Lacks-cons line_feed (letter action) _ (letter-lacks action) (Lacks-cons line_feed space _ (λ e. omega arith)
            (subst (λ (t : List ℕ). Lacks line_feed (decimal moment ++ t)) (sym text) (Lacks-append line_feed (decimal moment) (space ∷ decimal len) (lacks-decimal moment low) (Lacks-cons line_feed space (decimal len) (λ e. omega arith) (lacks-decimal len (omega arith)))))),
        omega (arith, length-append (decimal moment) (length_text action len), ap length text, digits, size),
      )
]
  where
    -- the decimal text of a moment has at most 13 digits
    size : length (decimal moment) ≤ 13
    size = length-decimal-le 13 moment (omega arith) (omega arith) (omega arith)

-- the line that spells an entry within the limits has no LF, and fewer than 32 bytes
line-fits : (action : Action) (moment len : ℕ) → moment ≤ last_moment → (HasMessage action → len ≤ 65535) → Lacks line_feed (line_says action moment len) × (length (line_says action moment len) < 32)
line-fits action moment len low small = subst (λ (t : List ℕ). Lacks line_feed t × (length t < 32)) (line-same action moment len) (line-lacks action moment len low small)

-- where an entry of the format that keeps the order is spelled at the front of the rest, it is read
entry-read : (format : Format) (last : ℕ) (rest : List ℕ) (e : Item) (behind : List ℕ) → rest ≡ entry_says e ++ behind → last ≤ e.moment → IsEntry format e → read.LineComes format last rest (gives e behind)
entry-read format last rest e behind whole order entry =
    -- `line` is the line of the entry, which has no line feed and fewer than 32 bytes, and what follows it is its body and the bytes behind
    let line = line_says e.action e.moment (length e.text) in
    let fits = line-fits e.action e.moment (length e.text) entry.1.0 (λ has. (entry.1.1 has).1) in
    let split : rest ≡ line ++ line_feed ∷ (body_says e.action e.text ++ behind) = whole ∙ append_assoc line (line_feed ∷ body_says e.action e.text) behind in
    inr (
      line,
      body_says e.action e.text ++ behind,
      record { whole = split; first = fits.0.nowhere; short = fits.1 },
      -- without a message the line is the whole entry
      elim (message-or-not e.action) [
        | inr none ↦
            let text = entry.2 none in
            inr (
              plain e.action e.moment,
              plain-read format line e.action e.moment (length e.text) fits.1 none entry.0 refl,
              inr (entry.1.0, inr (order, (λ i. gives (record { action = e.action; moment = e.moment; text = text i }) behind) ∙ ap (gives (record { action = e.action; moment = e.moment; text = [] })) (sym (ap (λ (t : List ℕ). t ++ behind) (body-plain e.action e.text none))))),
            )
        -- with a message its bytes and a line feed come after the line
        | inl has ↦
            inr (
              message e.action e.moment (length e.text),
              message-read format line e.action e.moment (length e.text) fits.1 has refl,
              inr (within-message e.action e.moment (length e.text) has entry.1, inr (order, closed has)),
            )
      ],
    )
  where
    -- the bytes of the message and a line feed stand after its line
    closed : HasMessage e.action → read.MessageComes e.action e.moment (length e.text) (body_says e.action e.text ++ behind) (gives e behind)
    closed has =
        let body : body_says e.action e.text ++ behind ≡ e.text ++ line_feed ∷ behind = ap (λ (t : List ℕ). t ++ behind) (body-message e.action e.text has) ∙ append_assoc e.text (line_feed ∷ []) behind in
        inr (omega (arith, ap length body, length-append e.text (line_feed ∷ behind)), (e.text, line_feed, behind, body, refl, inr (refl, refl)))

-- the spelling of an entry has a byte
entry-some : (e : Item) → 1 ≤ length (entry_says e)
entry-some e = omega (
  arith,
  length-append (line_says e.action e.moment (length e.text)) (line_feed ∷ body_says e.action e.text),
  ap length (line-same e.action e.moment (length e.text)),
)

-- what comes next by the spelling is what the code reads next
pub next-read : (format : Format) (count last : ℕ) (rest : List ℕ) (next : Next Item) → ComesNext format count last rest next → read.EntryComes format count last rest next
-- nothing is left, so the end comes
next-read format count last rest ends is = inl (is, refl)
-- the entry is spelled there, so bytes are left
next-read format count last rest (gives e behind) (whole, few, order, entry) =
    inr ((λ none. omega (arith, ap length whole, ap length none, length-append (entry_says e) behind, entry-some e)), inr (few, entry-read format last rest e behind whole order entry))
-- bytes are left, but the most entries were read
next-read format count last rest (stops fault) (some, inl (many, same)) = inr (some, inl ((λ few. omega arith), ap stops same))
-- bytes are left, and fewer entries were read, so the fault is that of what stands at the front
next-read format count last rest (stops fault) (some, inr (few, front)) = inr (some, inr (not_above most_entries count few, front-stops format last rest fault front))
