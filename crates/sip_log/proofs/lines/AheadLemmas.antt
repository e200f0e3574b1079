-- Lemmas of an entry that stands whole among the bytes that are held.
use Rattle.std.proofs.Common.{◌≡◌, inl, inr, ℕ, ◌+◌, ◌<◌, ◌≤◌, List, [], ◌∷◌, ◌++◌, length, take, drop, None, refl, subst, sym, ap, ◌∙◌, arith}
use Rattle.std.proofs.lemmas.Bool.{cases_lt}
use Rattle.std.proofs.lemmas.List.{append-nil}
use Rattle.memchr.specs.Find.{IsFirstByte, is_byte}
use Rattle.sip_standard.specs.declared.format.Format.{Format}
use Rattle.sip_standard.specs.LogSays.{line_feed, most_entries}
use Rattle.sip_standard.specs.declared.action.Action.{Action}
use Rattle.sip_standard.specs.declared.log_reason.LogReason.{LogReason}
use Rattle.sip_standard.specs.declared.log_reason.LogReason.TheVariants as faults
use Rattle.sip_log.specs.declared.line.Head.{Head as CodeHead}
use Rattle.sip_log.specs.declared.line.Head.TheVariants as code
use Rattle.sip_log.specs.inner.Line.{longest_line, Head, message, plain, cut_head, head_of, moment_of, KeepsLimits}
use Rattle.sip_log.specs.Next.{ends, gives, stops}
use Rattle.sip_log.specs.Ahead.{item_ahead}
use Rattle.sip_log.specs.inner.Ahead.{ComesWithout}
use Rattle.sip_log.specs.inner.Entry.{EntryComes, LineComes, HeadComes, MessageComes}
use Rattle.sip_log.proofs.lines.FrontLemmas.{AtLine-truncated, AtLine-long, ComesNext-entry}

-- the action that an entry's line tells
abbrev action_of : Head → Action
action_of (message action moment len) = action
action_of (plain action moment) = action

-- the length that an entry's line tells
abbrev len_of : Head → ℕ
len_of (message action moment len) = len
len_of (plain action moment) = 0

-- where the line keeps the limits and the order, a message that comes after it comes by the line
-- h is a head of which the code keeps what the line says, so it is one with a message
pub HeadComes-ahead : (last : ℕ) (action : Action) (moment len : ℕ) (rest text : List ℕ) → KeepsLimits (message action moment len) → last ≤ moment
    → ((more : List ℕ) → MessageComes action moment len (rest ++ more) (gives (item_ahead action moment text) (drop (len + 1) rest ++ more)))
    → (h : Head) → code.Message action moment len ≡ cut_head h → (more : List ℕ) → HeadComes last h (rest ++ more) (gives (item_ahead action moment text) (drop (len + 1) rest ++ more))
HeadComes-ahead last action moment len rest text keeps order comes (plain a m) is more = absurd (cc)
HeadComes-ahead last action moment len rest text keeps order comes (message a m l) is more =
    let same_action : a ≡ action = sym (ap (λ c. action_of (head_of c)) is) in
    -- numbers within the limits are kept as they are
    let same_moment : m ≡ moment = omega (arith, ap (λ c. moment_of (head_of c)) is, keeps.0) in
    let same_len : l ≡ len = omega (arith, ap (λ c. len_of (head_of c)) is, keeps.2) in
    -- by the line as it was told the entry comes; then a, m and l, which are the same action, moment and length, are put in their places
    let as_told : HeadComes last (message action moment len) (rest ++ more) (gives (item_ahead action moment text) (drop (len + 1) rest ++ more)) =
    inr (keeps, inr (order, comes more)) in
    subst (λ x. HeadComes last (message x m l) (rest ++ more) (gives (item_ahead action moment text) (drop (len + 1) rest ++ more))) (sym same_action)
    (subst (λ x. HeadComes last (message action x l) (rest ++ more) (gives (item_ahead action moment text) (drop (len + 1) rest ++ more))) (sym same_moment)
    (subst (λ x. HeadComes last (message action moment x) (rest ++ more) (gives (item_ahead action moment text) (drop (len + 1) rest ++ more))) (sym same_len) as_told))

-- numbers within the limits are kept as they are, since a number that is cut is above every limit
limits-kept : (h : Head) → KeepsLimits (head_of (cut_head h)) → KeepsLimits h × (moment_of (head_of (cut_head h)) ≡ moment_of h) × (len_of (head_of (cut_head h)) ≡ len_of h)
limits-kept (message action moment len) keeps =
    ((omega (arith, keeps.0), omega (arith, keeps.1), omega (arith, keeps.2)), omega (arith, keeps.0), omega (arith, keeps.2))
limits-kept (plain action moment) keeps = (omega (arith, keeps), omega (arith, keeps), refl)

-- what is kept of numbers within the limits is within them
limits-cut : (h : Head) → KeepsLimits h → KeepsLimits (head_of (cut_head h))
limits-cut (message action moment len) keeps = (omega (arith, keeps.0), omega (arith, keeps.1), omega (arith, keeps.2))
limits-cut (plain action moment) keeps = omega (arith, keeps)

-- What follows is of a line that was read, of which the code keeps c, and of the bytes after it.
module _ (last : ℕ) (c : CodeHead) (h : Head) (is : c ≡ cut_head h) (rest : List ℕ) where
  -- where the line is outside the limits, no entry comes
  pub Outside-without : ¬ (KeepsLimits (head_of c)) → ComesWithout (HeadComes last h rest)
  Outside-without outside = (stops faults.Limit, inl ((λ keeps. outside (subst (λ x. KeepsLimits (head_of x)) (sym is) (limits-cut h keeps))), refl), tt)

  module _ (keeps : KeepsLimits (head_of c)) where
    -- the head h is within the limits, as what is kept of it is, and has the moment and the length that are kept
    kept : KeepsLimits h × (moment_of (head_of (cut_head h)) ≡ moment_of h) × (len_of (head_of (cut_head h)) ≡ len_of h)
    kept = limits-kept h (subst (λ x. KeepsLimits (head_of x)) is keeps)

    -- where its moment is before the last one, no entry comes
    pub Early-without : moment_of (head_of c) < last → ComesWithout (HeadComes last h rest)
    Early-without early =
        let moment : moment_of (head_of c) ≡ moment_of h = ap (λ x. moment_of (head_of x)) is ∙ kept.1 in
        (stops faults.Order, inr (kept.0, inl ((λ order. omega (arith, order, early, moment)), refl)), tt)

-- What follows is of such a line within the limits and in order.

-- a line of a message after which the message does not stand whole brings no entry
pub Missing-without : (last : ℕ) (action : Action) (moment len : ℕ) (rest : List ℕ) → KeepsLimits (message action moment len) → last ≤ moment
    → ((a : Action) (m : ℕ) → (fault : LogReason) × MessageComes a m len rest (stops fault))
    → (h : Head) → code.Message action moment len ≡ cut_head h → ComesWithout (HeadComes last h rest)
-- what is kept of a head without a message is not what is kept of a message
Missing-without last action moment len rest keeps order missing (plain a m) is = absurd (cc)
Missing-without last action moment len rest keeps order missing (message a m l) is =
    -- a fault comes by the message, whatever the action and the moment are; h is within the limits and in order, so this fault comes by it
    let (fault, comes) = missing a m in
    let k = limits-kept (message a m l) (subst (λ x. KeepsLimits (head_of x)) is keeps) in
    let same_len : len ≡ l = ap (λ x. len_of (head_of x)) is ∙ k.2 in
    let same_moment : moment ≡ m = ap (λ x. moment_of (head_of x)) is ∙ k.1 in
    (stops fault, inr (k.0, inr (omega (arith, order, same_moment), subst (λ n. MessageComes a m n rest (stops fault)) same_len comes)), tt)

-- a line of an entry without a message brings that entry
pub Plain-without : (last : ℕ) (action : Action) (moment : ℕ) (rest : List ℕ) → KeepsLimits (plain action moment) → last ≤ moment
    → (h : Head) → code.Plain action moment ≡ cut_head h → ComesWithout (HeadComes last h rest)
-- what is kept of a message is not what is kept of a head without one
Plain-without last action moment rest keeps order (message a m l) is = absurd (cc)
Plain-without last action moment rest keeps order (plain a m) is =
    -- h is within the limits and in order, so the entry comes by it, and has no message
    let k = limits-kept (plain a m) (subst (λ x. KeepsLimits (head_of x)) is keeps) in
    let same_moment : moment ≡ m = ap (λ x. moment_of (head_of x)) is ∙ k.1 in
    (gives (record { action = a; moment = m; text = [] }) rest, inr (k.0, inr (omega (arith, order, same_moment), refl)), refl)

-- What follows is of the bytes that are held, taken by themselves.

-- after the most entries no other comes
pub Full-without : (format : Format) (count last : ℕ) (held : List ℕ) → most_entries ≤ count → ComesWithout (EntryComes format count last held)
Full-without format count last [] many = (ends, inl (refl, refl), tt)
Full-without format count last (x ∷ xs) many = (stops faults.Limit, inr ((λ none. absurd (cc)), inl ((λ few. omega (arith, few, many)), refl)), tt)

-- where bytes are held and fewer than the most entries were read, what comes by the line comes
pub Line-without : (format : Format) (count last : ℕ) (held : List ℕ) → 1 ≤ length held → count < most_entries → ComesWithout (LineComes format last (held ++ []))
    → ComesWithout (EntryComes format count last held)
Line-without format count last held some few (next, at, lacks) =
    (next, subst (λ xs. EntryComes format count last xs next) (append-nil held) (ComesNext-entry format count last held [] next some few at), lacks)

-- where no line is held, no entry comes
pub NoLine-without : (format : Format) (count last : ℕ) (held : List ℕ) → count < most_entries → IsFirstByte (is_byte line_feed) (take longest_line held) None
    → ComesWithout (EntryComes format count last held)
NoLine-without format count last [] few none = (ends, inl (refl, refl), tt)
NoLine-without format count last (x ∷ xs) few none =
    Line-without format count last (x ∷ xs) (omega arith) few (elim (cases_lt (length (x ∷ xs)) longest_line) as (λ _. ComesWithout (LineComes format last ((x ∷ xs) ++ []))) [
      -- where fewer bytes are held than the longest line has, the log ends within its line; else the line is too long
      | inl short ↦ (stops faults.Truncated, AtLine-truncated format last (x ∷ xs) [] none short refl, tt)
      | inr long ↦ (stops faults.EntryLine, AtLine-long format last (x ∷ xs) [] none long, tt)
    ])
