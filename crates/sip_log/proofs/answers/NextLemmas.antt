-- What the code reads next, by its relations, is what comes next by the spelling.
-- By a relation of the code something stands in the rest, or does not: `none` and `few` say that it is missing, and `same` which fault comes then.
-- `Told P G next` says that next is a fault of P, or an entry of G and what is after it.
use Rattle.std.proofs.Common.{◌≡◌, ◌≢◌, ◌⊎◌, inl, inr, ◌<◌, ◌≤◌, ℕ, List, [], ◌∷◌, ◌++◌, length, get_or, refl, subst, sym, ap, ◌∙◌, arith, append_assoc}
use Rattle.std.specs.Prelude.{slice_index}
use Rattle.std.proofs.lemmas.Bool.{cases_lt}
use Rattle.std.proofs.Math.Seq.{get_or-append_seam}
use Rattle.sip_standard.specs.declared.action.Action.{Action}
use Rattle.sip_standard.specs.declared.format.Format.{Format}
use Rattle.sip_standard.specs.declared.log_reason.LogReason.{LogReason}
use Rattle.sip_standard.specs.declared.log_reason.LogReason.TheVariants.{EntryLine, Truncated, Order, Limit}
use Rattle.sip_standard.specs.declared.log_reason.LogReason.TheVariants as faults
use Rattle.sip_log.specs.Next.{Next, gives, stops, ComesNext}
use Rattle.sip_log.specs.inner.Follow.{next_at}
use Rattle.sip_standard.specs.LogSays.{line_feed, most_entries, First, FrontLine, LogEnd, Clean, Stops, LineFault, EndsWith}
use Rattle.sip_standard.specs.LogEntry.{Item, line_says, HasMessage, body_says, entry_says, IsOf, IsWithinLimits, IsEntry}
use Rattle.sip_log.specs.inner.Line.{Head, message, plain, HeadLine, KeepsLimits}
use Rattle.sip_log.specs.inner.Entry as read
use Rattle.sip_log.proofs.spelling.SpellingLemmas.{message-or-not, body-message, body-plain, message-spelled, message-read, plain-spelled, plain-read}
use Rattle.sip_log.proofs.lines.LineLemmas.{message-of}

-- What follows are the cases of `EndsWith`, each with those that come after it.

-- a message cannot be read: case 6, it is not whole with its LF, or case 7, the byte after it is not LF
abbrev pub AtBody : Action → ℕ → List ℕ → LogReason → Type 0
AtBody action len behind fault =
    HasMessage action × First (length behind ≤ len) Truncated fault ((slice_index behind len ≢ line_feed) × (fault ≡ EntryLine))

-- an entry cannot be read by its numbers or its message: case 4, they are outside the limits, case 5, they are out of order, or cases 6 and 7
abbrev pub AtNumbers : ℕ → Action → ℕ → ℕ → List ℕ → LogReason → Type 0
AtNumbers last action moment len behind fault =
    First (¬ IsWithinLimits action moment len) Limit fault (First (moment < last) Order fault (AtBody action len behind fault))

-- the rest cannot be read by its front: case 2, it has no line, or a later case of the line that it has
abbrev pub AtFront : Format → ℕ → List ℕ → LogReason → Type 0
AtFront format last rest fault =
    (((line behind : List ℕ) → ¬ (FrontLine rest line behind)) × First (length rest < 32) Truncated fault (fault ≡ EntryLine))
    ⊎ ((line : List ℕ) × (behind : List ℕ) × FrontLine rest line behind × LineFault format last line behind fault)

-- an end that comes next in the rest is the end of the log there
pub comes-end : (format : Format) (count last : ℕ) (rest : List ℕ) (end : LogEnd) → ComesNext format count last rest (next_at end) → EndsWith format count last rest end
comes-end format count last rest Clean next = next
comes-end format count last rest (Stops fault) next = next

-- the end of the log in the rest comes next there
pub end-comes : (format : Format) (count last : ℕ) (rest : List ℕ) (end : LogEnd) → EndsWith format count last rest end → ComesNext format count last rest (next_at end)
end-comes format count last rest Clean next = next
end-comes format count last rest (Stops fault) next = next

-- what comes next is a fault of P, or an entry and what is after it of G
abbrev Told : (LogReason → Type 0) → (Item → List ℕ → Type 0) → Next Item → Type 0
Told P G next = ((fault : LogReason) × (next ≡ stops fault) × P fault) ⊎ ((e : Item) × (after : List ℕ) × (next ≡ gives e after) × G e after)

-- what is not below a number is at least it
pub not_below : (a b : ℕ) → ¬ (a < b) → b ≤ a
not_below a b other = elim (cases_lt a b) as (λ _. b ≤ a) [ inl lt ↦ absurd (other lt) | inr le ↦ le ]

-- what is not at most a number is above it
pub not_above : (a b : ℕ) → ¬ (a ≤ b) → b < a
not_above a b other = elim (cases_lt b a) as (λ _. b < a) [ inl lt ↦ lt | inr le ↦ absurd (other le) ]

-- What follows leads from what the code reads to the spelling.

-- what comes by a message is a fault, since it is not whole with its LF (case 6) or the byte after it is no LF (case 7), or the entry with its bytes
message-told : (action : Action) (moment len : ℕ) (behind : List ℕ) (next : Next Item) → HasMessage action → read.MessageComes action moment len behind next
    → Told (AtBody action len behind) (λ e after. (text : List ℕ) × (e ≡ record { action = action; moment = moment; text = text }) × (length text ≡ len) × (behind ≡ text ++ line_feed ∷ after)) next
-- too few bytes follow for the message and its LF
message-told action moment len behind next other (inl (short, same)) = inl (faults.Truncated, same, (other, inl (not_below len (length behind) short, refl)))
-- the bytes of the message are there, and the byte b after them is no LF
message-told action moment len behind next other (inr (long, (text, b, after, whole, size, inl (unclosed, same)))) =
    let byte : get_or behind len 0 ≡ b = ap (λ (t : List ℕ). get_or t len 0) whole ∙ ap (λ n. get_or (text ++ b ∷ after) n 0) (sym size) ∙ get_or-append_seam text b after 0 in
    inl (faults.EntryLine, same, (other, inr ((λ le. omega arith), ((λ is. unclosed (sym byte ∙ is)), refl))))
-- the bytes of the message are there, and an LF after them
message-told action moment len behind next other (inr (long, (text, b, after, whole, size, inr (closed, same)))) =
    inr (record { action = action; moment = moment; text = text }, after, same, (text, refl, size, whole ∙ ap (λ (c : ℕ). text ++ c ∷ after) closed))

-- the line and what is after it are the spelling of the entry and what is after that, and the entry keeps the order and is of the format
abbrev Entered : Format → ℕ → List ℕ → List ℕ → Item → List ℕ → Type 0
Entered format last line behind e after = (line ++ line_feed ∷ behind ≡ entry_says e ++ after) × (last ≤ e.moment) × IsEntry format e

-- a line of a message that keeps the limits tells an entry within them
pub message-within : (action : Action) (moment len : ℕ) → KeepsLimits (message action moment len) → IsWithinLimits action moment len
message-within action moment len is = (is.0, λ other. (is.1, is.2))

-- an entry with a message that is within the limits has a line that keeps them
pub within-message : (action : Action) (moment len : ℕ) → HasMessage action → IsWithinLimits action moment len → KeepsLimits (message action moment len)
within-message action moment len other is = (is.0, (is.1 other).0, (is.1 other).1)

-- the line of a message, the message and its LF are the spelling of an entry with that message
message-whole : (line : List ℕ) (action : Action) (moment len : ℕ) (text behind after : List ℕ) → HasMessage action → line ≡ line_says action moment len → length text ≡ len → behind ≡ text ++ line_feed ∷ after
    → line ++ line_feed ∷ behind ≡ entry_says (record { action = action; moment = moment; text = text }) ++ after
message-whole line action moment len text behind after other is size whole =
    let body : body_says action text ++ after ≡ behind = ap (λ (t : List ℕ). t ++ after) (body-message action text other) ∙ append_assoc text (line_feed ∷ []) after ∙ sym whole in
    -- the spelling of the line, its length, and what follows the line are put in their places, one after another
    ap (λ (t : List ℕ). t ++ line_feed ∷ behind) is
    ∙ ap (λ n. line_says action moment n ++ line_feed ∷ behind) (sym size)
    ∙ ap (λ (t : List ℕ). line_says action moment (length text) ++ line_feed ∷ t) (sym body)
    ∙ sym (append_assoc (line_says action moment (length text)) (line_feed ∷ body_says action text) after)

-- where a line of a message stands with what comes after it, the spelling says the same
message-line-told : (format : Format) (last : ℕ) (line : List ℕ) (action : Action) (moment len : ℕ) (behind : List ℕ) (next : Next Item) → HasMessage action → line ≡ line_says action moment len
    → read.HeadComes last (message action moment len) behind next → Told (LineFault format last line behind) (Entered format last line behind) next
-- the moment or the length is outside its limits
message-line-told format last line action moment len behind next other is (inl (outside, same)) =
    inl (faults.Limit, same, inr (action, moment, len, message-of format action other, is, inl ((λ w. outside (within-message action moment len other w)), refl)))
-- both are within them, and the moment is before that of the entry before
message-line-told format last line action moment len behind next other is (inr (inside, inl (early, same))) =
    let w = message-within action moment len inside in
    inl (faults.Order, same, inr (action, moment, len, message-of format action other, is, inr ((λ none. none w), inl (not_above last moment early, refl))))
-- within the limits and in order, the message or its fault comes after the line
message-line-told format last line action moment len behind next other is (inr (inside, inr (order, at))) =
    go (message-told action moment len behind next other at)
  where
    -- the head of a message is within the limits
    w : IsWithinLimits action moment len
    w = message-within action moment len inside

    -- whether the body is at fault or is read, the line says the same
    go : Told (AtBody action len behind) (λ e after. (text : List ℕ) × (e ≡ record { action = action; moment = moment; text = text }) × (length text ≡ len) × (behind ≡ text ++ line_feed ∷ after)) next
        → Told (LineFault format last line behind) (Entered format last line behind) next
    -- a fault of the message is a fault of its line
    go (inl (fault, same, body)) = inl (fault, same, inr (action, moment, len, message-of format action other, is, inr ((λ none. none w), inr ((λ lt. omega arith), body))))
    -- a message that is there makes the entry of the line, which is spelled by the line, the message and its LF
    go (inr (e, after, same, (text, e_is, size, whole))) =
        inr (
          record { action = action; moment = moment; text = text },
          after,
          same ∙ ap (λ x. gives x after) e_is,
          (message-whole line action moment len text behind after other is size whole, order, (message-of format action other, subst (IsWithinLimits action moment) (sym size) w, (λ none. absurd (none other)))),
        )

-- the line of an entry without a message is the spelling of that entry
plain-whole : (line : List ℕ) (action : Action) (moment : ℕ) (behind : List ℕ) → ¬ (HasMessage action) → line ≡ line_says action moment 0
    → line ++ line_feed ∷ behind ≡ entry_says (record { action = action; moment = moment; text = [] }) ++ behind
plain-whole line action moment behind none is =
    ap (λ (t : List ℕ). t ++ line_feed ∷ behind) is
    ∙ ap (λ (t : List ℕ). line_says action moment 0 ++ line_feed ∷ (t ++ behind)) (sym (body-plain action [] none))
    ∙ sym (append_assoc (line_says action moment 0) (line_feed ∷ body_says action []) behind)

-- where a line of an entry without a message stands with what comes after it, the spelling says the same
plain-line-told : (format : Format) (last : ℕ) (line : List ℕ) (action : Action) (moment : ℕ) (behind : List ℕ) (next : Next Item) → ¬ (HasMessage action) → IsOf format action → line ≡ line_says action moment 0
    → read.HeadComes last (plain action moment) behind next → Told (LineFault format last line behind) (Entered format last line behind) next
-- the moment is outside its limits
plain-line-told format last line action moment behind next none of is (inl (outside, same)) =
    inl (faults.Limit, same, inr (action, moment, 0, of, is, inl ((λ w. outside w.0), refl)))
-- the moment is within them, and before that of the entry before
plain-line-told format last line action moment behind next none of is (inr (inside, inl (early, same))) =
    inl (faults.Order, same, inr (action, moment, 0, of, is, inr ((λ out. out (inside, (λ has. absurd (none has)))), inl (not_above last moment early, refl))))
-- within the limits and in order, the entry is the line alone
plain-line-told format last line action moment behind next none of is (inr (inside, inr (order, same))) =
    inr (
      record { action = action; moment = moment; text = [] },
      behind,
      same,
      (plain-whole line action moment behind none is, order, (of, (inside, (λ has. absurd (none has))), (λ m. refl))),
    )

-- where a line of an entry stands with what comes after it, the spelling says the same
line-told : (format : Format) (last : ℕ) (line : List ℕ) (head : Head) (behind : List ℕ) (next : Next Item) → length line < 32 → HeadLine format line head
    → read.HeadComes last head behind next → Told (LineFault format last line behind) (Entered format last line behind) next
line-told format last line (message action moment len) behind next short is at =
    message-line-told format last line action moment len behind next is.1 (message-spelled format line action moment len short is) at
line-told format last line (plain action moment) behind next short is at =
    plain-line-told format last line action moment behind next is.1 is.2 (plain-spelled format line action moment 0 short is) at

-- a line that spells an entry of the format, of fewer than 32 bytes, can be read
line-read : (format : Format) (line : List ℕ) (action : Action) (moment len : ℕ) → length line < 32 → IsOf format action → line ≡ line_says action moment len → (head : Head) × HeadLine format line head
line-read format line action moment len short of is = elim (message-or-not action) [
  -- the action has no message, and its line only a moment; or it has one, and its line also the length
  | inr none ↦ (plain action moment, plain-read format line action moment len short none of is)
  | inl has ↦ (message action moment len, message-read format line action moment len short has is)
]

-- where the front of the rest is read as a line or a fault, the spelling says the same
front-told : (format : Format) (last : ℕ) (rest : List ℕ) (next : Next Item) → read.LineComes format last rest next
    → Told (AtFront format last rest) (λ e after. (rest ≡ entry_says e ++ after) × (last ≤ e.moment) × IsEntry format e) next
-- there is no front line: fewer than 32 bytes are left, or no fewer
front-told format last rest next (inl (none, inl (few, same))) = inl (faults.Truncated, same, inl (none, inl (not_above 32 (length rest) few, refl)))
front-told format last rest next (inl (none, inr (many, same))) = inl (faults.EntryLine, same, inl (none, inr ((λ few. omega arith), refl)))
-- the front line is read as no head, so it is no line of an entry
front-told format last rest next (inr (line, behind, front, inl (none, same))) =
    inl (faults.EntryLine, same, inr (line, behind, front, inl ((λ action moment len of is. let h = line-read format line action moment len front.short of is in none h.0 h.1), refl)))
-- the front line is read as a head, so what comes by it is told
front-told format last rest next (inr (line, behind, front, inr (head, is, at))) = go (line-told format last line head behind next front.short is at)
  where
    -- what is told of the front line is told of the front of the rest
    go : Told (LineFault format last line behind) (Entered format last line behind) next → Told (AtFront format last rest) (λ e after. (rest ≡ entry_says e ++ after) × (last ≤ e.moment) × IsEntry format e) next
    go (inl (fault, same, at)) = inl (fault, same, inr (line, behind, front, at))
    go (inr (e, after, same, (whole, order, entry))) = inr (e, after, same, (front.whole ∙ whole, order, entry))

-- what the code reads next is what comes next by the spelling
pub next-told : (format : Format) (count last : ℕ) (rest : List ℕ) (next : Next Item) → read.EntryComes format count last rest next → ComesNext format count last rest next
-- nothing is left, so the end comes
next-told format count last rest next (inl (none, same)) = subst (ComesNext format count last rest) (sym same) none
-- bytes are left, but the most entries were read
next-told format count last rest next (inr (some, inl (many, same))) = subst (ComesNext format count last rest) (sym same) (some, inl (not_below count most_entries many, refl))
-- bytes are left, and fewer entries were read
next-told format count last rest next (inr (some, inr (few, at))) = go (front-told format last rest next at)
  where
    -- whether the front of the rest is at fault or gives an entry, this comes next
    go : Told (AtFront format last rest) (λ e after. (rest ≡ entry_says e ++ after) × (last ≤ e.moment) × IsEntry format e) next → ComesNext format count last rest next
    go (inl (fault, same, front)) = subst (ComesNext format count last rest) (sym same) (some, inr ((λ le. omega arith), front))
    go (inr (e, after, same, (whole, order, entry))) = subst (ComesNext format count last rest) (sym same) (whole, few, order, entry)
