-- Lemmas of the log of an input: there is one, and only one.
-- In the lemmas n and n2 are what comes next by two readings, and es and es2 entries, with the times p and p2; e is the first entry.
-- `coe 0 1 (i. P (e i)) h`: by the equation e, h, which says P of its left side, says it of the right one. `λ i. f (e i)`: f of both sides is equal.
use Rattle.std.proofs.Common.{◌≡◌, ◌≢◌, ◌⊎◌, inl, inr, ◌≤◌, ◌+◌, ℕ, suc, List, [], ◌∷◌, ◌++◌, length, get_or, refl, subst, sym, ap, ◌∙◌, arith, append_assoc}
use Rattle.std.specs.Prelude.{flat_map, All, codes}
use Rattle.std.proofs.lemmas.List.{append-nil, append_cancel_left, length-append}
use Rattle.std.proofs.lemmas.List.Elements.{All-nil, All-cons}
use Rattle.sip_standard.specs.Times.{Times, AreTimes}
use Rattle.sip_standard.specs.declared.rules.Rules.{Rules}
use Rattle.sip_standard.specs.declared.rules.Rules.TheVariants.{R3261, R6026}
use Rattle.sip_standard.specs.declared.action.Action.{Action}
use Rattle.sip_standard.specs.declared.action.Action.TheVariants.{Sent, Received, Failed, Mark, Restart}
use Rattle.sip_standard.specs.declared.format.Format.{Format}
use Rattle.sip_standard.specs.declared.format.Format.TheVariants.{One, Two}
use Rattle.sip_log.specs.Next.{Next, gives, ComesNext}
use Rattle.sip_standard.specs.LogEntry.{line_says, body_says, Item, entry_says, InOrder, last_of}
use Rattle.sip_log.specs.Writing.{written_rules, header_text}
use Rattle.sip_standard.specs.LogHeader.{rules_text, RulesLine, Header, lines_text}
use Rattle.sip_standard.specs.LogSays.{EndsWith, most_entries, LogEnd, Clean, LogSays, LacksHeader}
use Rattle.sip_log.specs.Turn.{ComeInTurn}
use Rattle.sip_log.specs.inner.Follow.{Follow, next_at}
use Rattle.sip_log.proofs.headers.HeaderLemmas.{rules-first}
use Rattle.sip_log.proofs.answers.NextLemmas.{next-told, comes-end, end-comes}
use Rattle.sip_log.proofs.answers.NextRead.{next-read}
use Rattle.sip_log.proofs.logs.LogLaws.{Header-one, ComesNext-one, next_at-not_gives, Follow-one}
use Rattle.sip_log.proofs.logs.LogExists.{header-or-not, Follow-some}

-- only one thing comes next by the spelling
pub next-one : (format : Format) (count last : ℕ) (rest : List ℕ) (n n2 : Next Item) → ComesNext format count last rest n → ComesNext format count last rest n2 → n ≡ n2
next-one format count last rest n n2 is is2 = ComesNext-one format count last rest n n2 (next-read format count last rest n is) (next-read format count last rest n2 is2)

-- entries that are spelled in a row, and then an end, follow there, where they are not too many and in order
pub follow-read : (format : Format) (count last : ℕ) (items : List Item) (rest : List ℕ) (end : LogEnd) → count + length items ≤ most_entries → InOrder format last items
    → EndsWith format (count + length items) (last_of last items) rest end → Follow format count last (flat_map entry_says items ++ rest) items end
follow-read format count last [] rest end few order next =
    let none : count + 0 ≡ count = omega arith in
    next-read format count last rest (next_at end) (end-comes format count last rest end (subst (λ n. EndsWith format n last rest end) none next))
-- the first entry comes at the front, and the others follow in what is left
follow-read format count last (e ∷ es) rest end few order next =
    let whole : (entry_says e ++ flat_map entry_says es) ++ rest ≡ entry_says e ++ (flat_map entry_says es ++ rest) = append_assoc (entry_says e) (flat_map entry_says es) rest in
    let sum : count + suc (length es) ≡ count + 1 + length es = omega arith in (
      flat_map entry_says es ++ rest,
      next-read format count last ((entry_says e ++ flat_map entry_says es) ++ rest) (gives e (flat_map entry_says es ++ rest)) (whole, omega arith, order.0, order.1),
      follow-read format (count + 1) e.moment es rest end (omega arith) order.2 (subst (λ n. EndsWith format n (last_of e.moment es) rest end) sum next),
    )

-- the rest is spelled: it has these entries in a row, in order and not too many, and ends in this way after them
pub record Spelled (format : Format) (count last : ℕ) (rest : List ℕ) (items : List Item) (end : LogEnd) : Type 0 where
  pub left : List ℕ
  pub whole : rest ≡ flat_map entry_says items ++ left
  pub few : count + length items ≤ most_entries
  pub order : InOrder format last items
  pub next : EndsWith format (count + length items) (last_of last items) left end

-- entries that follow in the rest are spelled there
pub follow-spelled : (format : Format) (count last : ℕ) (rest : List ℕ) (items : List Item) (end : LogEnd) → count ≤ most_entries → Follow format count last rest items end → Spelled format count last rest items end
follow-spelled format count last rest [] end few next =
    let none : count ≡ count + 0 = omega arith in
    record { left = rest; whole = refl; few = omega arith; order = tt; next = subst (λ n. EndsWith format n last rest end) none (comes-end format count last rest end (next-told format count last rest (next_at end) next)) }
-- the first entry is spelled at the front, and the others are spelled in what is left
follow-spelled format count last rest (e ∷ es) end few (behind, next, follow) =
    let first = next-told format count last rest (gives e behind) next in
    let more = follow-spelled format (count + 1) e.moment behind es end (omega (arith, first.1)) follow in
    let sum : count + 1 + length es ≡ count + suc (length es) = omega arith in
    -- all are in order, and the end comes after the last one
    record {
      left = more.left;
      whole = first.0 ∙ ap (λ (t : List ℕ). entry_says e ++ t) more.whole ∙ sym (append_assoc (entry_says e) (flat_map entry_says es) more.left);
      few = omega (arith, more.few);
      order = (first.2, first.3, more.order);
      next = subst (λ n. EndsWith format n (last_of e.moment es) more.left end) sum more.next;
    }

-- a number is the sum of 0 and the number
from_zero : (n : ℕ) → n ≡ 0 + n
from_zero n = omega arith

-- the entries of a log follow after its header
log-follows : (input : List ℕ) (p : Times) (items : List Item) (end : LogEnd) → LogSays input p items end
    → (format : Format) × (behind : List ℕ) × Header format p input behind × Follow format 0 0 behind items end
log-follows input p items end is = (
  is.format,
  flat_map entry_says items ++ is.rest,
  is.header,
  follow-read is.format 0 0 items is.rest end (omega (arith, is.few)) is.order (subst (λ n. EndsWith is.format n (last_of 0 items) is.rest end) (from_zero (length items)) is.next),
)

-- entries that follow after a header, with their end, are the log of the input
pub log-spelled : (format : Format) (input : List ℕ) (p : Times) (behind : List ℕ) (items : List Item) (end : LogEnd) → Header format p input behind → Follow format 0 0 behind items end → LogSays input p items end
log-spelled format input p behind items end header follow =
    let rest = follow-spelled format 0 0 behind items end (omega arith) follow in
    -- the header stands before the spelling of the entries
    record {
      format = format;
      rest = rest.left;
      header = subst (Header format p input) rest.whole header;
      few = omega (arith, rest.few);
      order = rest.order;
      next = subst (λ n. EndsWith format n (last_of 0 items) rest.left end) (sym (from_zero (length items))) rest.next;
    }

-- each input lacks a header, or has a log
pub log_is_some : (input : List ℕ) → LacksHeader input ⊎ ((p : Times) × (items : List Item) × (end : LogEnd) × LogSays input p items end)
log_is_some input = elim (header-or-not input) [
  | inr none ↦ inl none
  | inl is ↦
      -- entries follow the header up to an end, and what stands there is their spelling
      let follow = Follow-some is.0 0 0 is.2 in
      inr (is.1, follow.0, follow.1, log-spelled is.0 input is.1 is.2 follow.0 follow.1 is.3 follow.2)
]

-- an input has only one log
pub log_is_one : (input : List ℕ) (p p2 : Times) (es es2 : List Item) (end end2 : LogEnd) → LogSays input p es end → LogSays input p2 es2 end2 → (p ≡ p2) × (es ≡ es2) × (end ≡ end2)
log_is_one input p p2 es es2 end end2 is is2 =
    -- the entries of both logs follow after their headers; the input has one header, and so the same entries follow in the same rest
    let a = log-follows input p es end is in
    let b = log-follows input p2 es2 end2 is2 in
    let header = Header-one a.0 b.0 input p p2 a.1 b.1 a.2 b.2 in
    let same = Follow-one b.0 0 0 b.1 es es2 end end2 (coe 0 1 (i. Follow (header.0 i) 0 0 (header.2 i) es end) a.3) b.3 in
    (header.1, same.0, same.1)

-- an input that lacks a header has no log
pub log_has_header : (input : List ℕ) (p : Times) (es : List Item) (end : LogEnd) → LacksHeader input → LogSays input p es end → ⊥
log_has_header input p es end none is = none is.format p _ is.header

-- What follows is of a log that was written.

-- the spelling of an entry does not begin with the letter r, as a line of rules does
entry-first : (e : Item) (rest : List ℕ) → get_or (entry_says e ++ rest) 0 0 ≢ 114
entry-first e rest = letter-other e.action
  where
    -- no action is spelled with the letter r, which is 114
    letter-other : (a : Action) → get_or ((line_says a e.moment (length e.text) ++ (codes "\n" ++ body_says e.action e.text)) ++ rest) 0 0 ≢ 114
    letter-other Sent same = absurd (omega arith)
    letter-other Received same = absurd (omega arith)
    letter-other Failed same = absurd (omega arith)
    letter-other Mark same = absurd (omega arith)
    letter-other Restart same = absurd (omega arith)

-- the texts of entries do not begin with the letter of a line of rules
entries-first : (items : List Item) → get_or (flat_map entry_says items) 0 0 ≢ 114
entries-first [] same = absurd (omega arith)
entries-first (e ∷ es) same = entry-first e (flat_map entry_says es) same

-- the line of rules that is written is read as these rules
rules-written : (rules : Rules) (items : List Item) → RulesLine rules (written_rules rules ++ flat_map entry_says items) (flat_map entry_says items)
-- the line of RFC 3261 is written, and is read
rules-written R3261 items = inl refl
-- the rules of RFC 6026 are not written: what follows begins with no r, and so has no line of rules
rules-written R6026 items = inr (refl, refl, (λ rules more same. entries-first items (ap (λ (t : List ℕ). get_or t 0 0) same ∙ rules-first rules more)))

-- a header that is written, and entries after it, begin with that header
pub header-written : (format : Format) (p : Times) (items : List Item) → AreTimes p → (format ≡ One → p.early ≡ p.late)
    → Header format p (header_text format p ++ flat_map entry_says items) (flat_map entry_says items)
header-written format p items times one = record {
  times = times;
  one = one;
  rest = written_rules p.rules ++ flat_map entry_says items;
  -- after the two lines stand the line of rules, if one is written, and the entries
  lines = append_assoc (lines_text format p) (written_rules p.rules) (flat_map entry_says items);
  rules = rules-written p.rules items;
}

-- where entries in order, not too many, stand after a header, the log of the input has exactly them
pub clean-log : (format : Format) (input : List ℕ) (p : Times) (items : List Item) → Header format p input (flat_map entry_says items) → length items ≤ most_entries → InOrder format 0 items
    → LogSays input p items Clean
clean-log format input p items header few order = record {
  format = format;
  rest = [];
  -- nothing is left after the last entry, so the log ends there without a fault
  header = subst (Header format p input) (sym (append-nil (flat_map entry_says items))) header;
  few = few;
  order = order;
  next = refl;
}

-- a header and entries that are written are the log that they were
pub log-written : (format : Format) (p : Times) (items : List Item) → AreTimes p → (format ≡ One → p.early ≡ p.late) → length items ≤ most_entries → InOrder format 0 items
    → LogSays (header_text format p ++ flat_map entry_says items) p items Clean
log-written format p items times one few order = clean-log format _ p items (header-written format p items times one) few order

-- entries in the order of format 1 are in the order of format 2
two-order : (last : ℕ) (items : List Item) → InOrder One last items → InOrder Two last items
two-order last [] order = tt
two-order last (e ∷ es) order = (order.0, ((λ same. refl), order.1.1, order.1.2), two-order e.moment es order.2)

-- a log of format 1 that is read to its end is the log after a header of format 2 with the same times
pub log-of-two : (input other : List ℕ) (p : Times) (behind : List ℕ) (items : List Item) → Header One p input behind → Header Two p other behind
    → LogSays input p items Clean → LogSays other p items Clean
log-of-two input other p behind items one two is =
    -- the header of the log is that of format 1, and nothing is left after its entries
    let same = Header-one is.format One input p p _ behind is.header one in
    let none : is.rest ≡ [] = is.next in
    let whole : behind ≡ flat_map entry_says items = sym same.2 ∙ ap (λ (t : List ℕ). flat_map entry_says items ++ t) none ∙ append-nil (flat_map entry_says items) in
    clean-log Two other p items (subst (Header Two p other) whole two) is.few (two-order 0 items (subst (λ f. InOrder f 0 items) same.0 is.order))

-- What follows is of a header of format 1.

-- where nothing was taken as a line of rules, the rules are those of RFC 6026
no-rules : (rules : Rules) (text behind : List ℕ) → text ≡ behind → RulesLine rules text behind → rules ≡ R6026
no-rules rules text behind same (inr is) = is.0
-- the line that was taken is that of RFC 6026
no-rules R6026 text behind same (inl is) = refl
-- the line of RFC 3261, which has 11 bytes, would have been taken, but no byte was
no-rules R3261 text behind same (inl is) =
    let line : length (rules_text R3261) ≡ 11 = refl in
    absurd (omega (arith, line, ap length (sym same ∙ is), length-append (rules_text R3261) behind))

-- a header of format 1 without a line of rules has those of RFC 6026
pub rules-of-one : (input : List ℕ) (p : Times) (behind : List ℕ) → Header One p input behind → input ≡ lines_text One p ++ behind → p.rules ≡ R6026
rules-of-one input p behind is whole =
    no-rules p.rules is.rest behind (append_cancel_left (lines_text One p) is.rest behind (sym is.lines ∙ whole)) is.rules

-- entries in the order of format 1 have no restart
one-order : (last : ℕ) (items : List Item) → InOrder One last items → All (λ e. e.action ≢ Restart) items
one-order last [] order = All-nil (λ e. e.action ≢ Restart)
one-order last (e ∷ es) order = All-cons (λ x. x.action ≢ Restart) e es (λ restart. other (order.1.0 restart)) (one-order e.moment es order.2)
  where
    -- format 1 is not format 2
    other : One ≢ Two
    other same = cc

-- a log of format 1 has no restart
pub restarts-of-one : (input : List ℕ) (p q : Times) (behind : List ℕ) (items : List Item) (end : LogEnd) → Header One p input behind → LogSays input q items end
    → All (λ e. e.action ≢ Restart) items
restarts-of-one input p q behind items end one is =
    -- the header of the log is that of format 1
    let same = Header-one is.format One input q p _ behind is.header one in
    one-order 0 items (subst (λ f. InOrder f 0 items) same.0 is.order)

-- entries that come in turn are the first of those that follow
turn-front : (format : Format) (count last : ℕ) (rest : List ℕ) (items : List Item) (end : LogEnd) (read : List Item) (left : List ℕ) → Follow format count last rest items end
    → ComeInTurn format count last rest read left → (more : List Item) × (items ≡ read ++ more)
turn-front format count last rest items end [] left follow turn = (items, refl)
-- the log would end where an entry comes, which cannot be
turn-front format count last rest [] end (e ∷ es) left follow (behind, next, turn) =
    absurd (next_at-not_gives end e behind (ComesNext-one format count last rest (next_at end) (gives e behind) follow (next-read format count last rest (gives e behind) next)))
-- the first entry of both is the same, and the rest goes on alike
turn-front format count last rest (e2 ∷ items) end (e ∷ es) left follow (behind, next, turn) =
    let same = ComesNext-one format count last rest (gives e2 follow.0) (gives e behind) follow.1 (next-read format count last rest (gives e behind) next) in
    let first : e2 ≡ e = cc in
    let at : follow.0 ≡ behind = cc in
    let more = turn-front format (count + 1) e.moment behind items end es left (coe 0 1 (i. Follow format (count + 1) ((first i).moment) (at i) items end) follow.2) turn in
    (more.0, λ i. first i ∷ more.1 i)

-- entries that come in turn after a header are the first of the log
pub log-front : (input : List ℕ) (p : Times) (items : List Item) (end : LogEnd) → LogSays input p items end →
    (format : Format) (q : Times) (behind left : List ℕ) (read : List Item) → Header format q input behind → ComeInTurn format 0 0 behind read left →
    (more : List Item) × (items ≡ read ++ more)
log-front input p items end is format q behind left read header turn =
    let a = log-follows input p items end is in
    -- both headers are one, so that the entries of the log and those that were read follow in the same rest
    let same = Header-one a.0 format input p q a.1 behind a.2 header in
    turn-front format 0 0 behind items end read left (coe 0 1 (i. Follow (same.0 i) 0 0 (same.2 i) items end) a.3) turn
