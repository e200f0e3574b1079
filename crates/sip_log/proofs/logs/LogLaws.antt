-- What is read of an input is only one thing.
-- In the lemmas n and n2 are what comes by two readings of the same bytes; what belongs to the second reading has a 2.
-- Of an entry's line a is the action, m the moment and l the length of the message; es are entries, and e the first of them.
-- `coe 0 1 (i. P (e i)) h`: by the equation e, h, which says P of its left side, says it of the right one. `λ i. f (e i)`: f of both sides is equal.
use Rattle.std.proofs.Common.{◌≡◌, ◌≢◌, inl, inr, ℕ, ◌+◌, List, [], ◌∷◌, ◌++◌, length, get_or, drop, if◌then◌else◌, ◌==◌, refl, subst, sym, ap, ◌∙◌, arith}
use Rattle.std.proofs.lemmas.List.{append_cancel_left}
use Rattle.sip_standard.specs.Times.{Times}
use Rattle.sip_times.specs.Times.{under}
use Rattle.sip_standard.specs.declared.rules.Rules.{Rules}
use Rattle.sip_standard.specs.declared.rules.Rules.TheVariants.{R3261, R6026}
use Rattle.sip_standard.specs.declared.action.Action.{Action}
use Rattle.sip_standard.specs.declared.format.Format.{Format}
use Rattle.sip_standard.specs.declared.format.Format.TheVariants.{One, Two}
use Rattle.sip_standard.specs.declared.log_reason.LogReason.{LogReason}
use Rattle.sip_standard.specs.LogSays.{line_feed, FrontLine, LogEnd, Clean, Stops}
use Rattle.sip_log.specs.inner.Spelling.{space}
use Rattle.sip_standard.specs.LogEntry.{Item, HasMessage}
use Rattle.sip_standard.specs.LogHeader.{rules_text, RulesLine, Header}
use Rattle.sip_log.specs.inner.Line.{Numbers, Head, message, plain, HeadLine}
use Rattle.sip_log.specs.Next.{Next, gives}
use Rattle.sip_log.specs.inner.Unless.{Unless}
use Rattle.sip_log.specs.inner.Header.{TimesLine, TimesFront, title_text, HeaderComes, ComesSecond, ComesThird}
use Rattle.sip_log.specs.inner.Entry.{CloseComes, MessageComes, BodyComes, HeadComes, FormComes, LineComes, EntryComes}
use Rattle.sip_log.specs.inner.Follow.{Follow, next_at}
use Rattle.sip_log.proofs.lines.SplitLemmas.{cut-one}
use Rattle.sip_log.proofs.numbers.NumberLemmas.{IsNumber-no_space, IsNumber-one}
use Rattle.sip_log.proofs.lines.LineLemmas.{letter-one}
use Rattle.sip_log.proofs.headers.HeaderLemmas.{TimesLine-lacks, TimesLine-one}
use Rattle.sip_log.proofs.spelling.SpellingLemmas.{header-read}

-- What follows is of the header.

-- an input begins with only one title, and has one rest after it
title-one : (format format2 : Format) (rest rest2 : List ℕ) → title_text format ++ rest ≡ title_text format2 ++ rest2 → (format ≡ format2) × (rest ≡ rest2)
title-one One One rest rest2 same = (refl, append_cancel_left (title_text One) rest rest2 same)
-- the two titles differ at place 10, where the one has the digit 1 (49) and the other the digit 2 (50)
title-one One Two rest rest2 same = let byte : ◌≡◌ {A = ℕ} 49 50 = ap (λ (t : List ℕ). get_or t 10 0) same in absurd (omega arith)
title-one Two One rest rest2 same = let byte : ◌≡◌ {A = ℕ} 50 49 = ap (λ (t : List ℕ). get_or t 10 0) same in absurd (omega arith)
title-one Two Two rest rest2 same = (refl, append_cancel_left (title_text Two) rest rest2 same)

-- a rest begins with only one line 2, and has one rest after it
TimesFront-one : (format : Format) (rest : List ℕ) (p p2 : Times) (behind behind2 : List ℕ) → TimesFront format rest p behind → TimesFront format rest p2 behind2
    → (p ≡ p2) × (behind ≡ behind2)
TimesFront-one format rest p p2 behind behind2 a b =
    let parts = cut-one line_feed a.line behind b.line behind2 (TimesLine-lacks format a.line p a.times) (TimesLine-lacks format b.line p2 b.times) (sym a.whole ∙ b.whole) in
    (TimesLine-one format b.line p p2 (subst (λ line. TimesLine format line p) parts.0 a.times) b.times, parts.1)

-- the rules whose line has this byte at the place 6, counted from 0: there `rules 3261` has a 3, which is 51
rules_at : ℕ → Rules
rules_at n = if n == 51 then R3261 else R6026

-- the byte at the sixth place of a line of rules tells which it is
rules_at-line : (rules : Rules) (rest : List ℕ) → rules_at (get_or (rules_text rules ++ rest) 6 0) ≡ rules
unfolding rules_at
rules_at-line R3261 rest = refl
rules_at-line R6026 rest = refl

-- a text begins with only one line of rules, and has one rest after it
rules_text-one : (rules rules2 : Rules) (rest rest2 : List ℕ) → rules_text rules ++ rest ≡ rules_text rules2 ++ rest2 → (rules ≡ rules2) × (rest ≡ rest2)
rules_text-one rules rules2 rest rest2 same =
    let is : rules ≡ rules2 = sym (rules_at-line rules rest) ∙ ap (λ (t : List ℕ). rules_at (get_or t 6 0)) same ∙ rules_at-line rules2 rest2 in
    (is, append_cancel_left (rules_text rules2) rest rest2 (ap (λ r. rules_text r ++ rest) (sym is) ∙ same))

-- a text tells only one set of rules, and has one rest after them
pub RulesLine-one : (rules rules2 : Rules) (text rest rest2 : List ℕ) → RulesLine rules text rest → RulesLine rules2 text rest2 → (rules ≡ rules2) × (rest ≡ rest2)
-- by both readings there is a line of rules
RulesLine-one rules rules2 text rest rest2 (inl a) (inl b) = rules_text-one rules rules2 rest rest2 (sym a ∙ b)
-- by one of them only there is a line of rules, which cannot be
RulesLine-one rules rules2 text rest rest2 (inl a) (inr b) = absurd (b.2 rules rest a)
RulesLine-one rules rules2 text rest rest2 (inr a) (inl b) = absurd (a.2 rules2 rest2 b)
-- by neither there is one, so that the rules are those of RFC 6026
RulesLine-one rules rules2 text rest rest2 (inr a) (inr b) = (a.0 ∙ sym b.0, sym a.1 ∙ b.1)

-- only one thing comes after line 2
ComesThird-one : (format : Format) (p : Times) (rest : List ℕ) (n n2 : Next (Format × Times)) → ComesThird format p rest n → ComesThird format p rest n2 → n ≡ n2
ComesThird-one format p rest n n2 a b =
    let same = RulesLine-one a.0 b.0 rest a.1 b.1 a.2 b.2 in
    a.3 ∙ (λ i. gives (format, under (same.0 i) p) (same.1 i)) ∙ sym b.3

-- only one thing comes after line 1
ComesSecond-one : (format : Format) (rest : List ℕ) (n n2 : Next (Format × Times)) → ComesSecond format rest n → ComesSecond format rest n2 → n ≡ n2
-- a is what comes by the first reading and b by the second: by both the times and what follows them
ComesSecond-one format rest n n2 (inl a) (inl b) =
    let same = TimesFront-one format rest a.0 b.0 a.1 b.1 a.2 b.2 in
    ComesThird-one format b.0 b.1 n n2 (coe 0 1 (i. ComesThird format (same.0 i) (same.1 i) n) a.3) b.3
-- by one of them only there are times, which cannot be; by none there is the fault Header
ComesSecond-one format rest n n2 (inl a) (inr b) = absurd (b.0 a.0 a.1 a.2)
ComesSecond-one format rest n n2 (inr a) (inl b) = absurd (a.0 b.0 b.1 b.2)
ComesSecond-one format rest n n2 (inr a) (inr b) = a.1 ∙ sym b.1

-- only one thing comes first in an input
pub ComesFirst-one : (input : List ℕ) (n n2 : Next (Format × Times)) → HeaderComes input n → HeaderComes input n2 → n ≡ n2
-- a is what comes by the first reading and b by the second: by both a title and what follows it
ComesFirst-one input n n2 (inl a) (inl b) =
    let same = title-one a.0 b.0 a.1 b.1 (sym a.2 ∙ b.2) in
    ComesSecond-one b.0 b.1 n n2 (coe 0 1 (i. ComesSecond (same.0 i) (same.1 i) n) a.3) b.3
-- by one of them only there is a title, which cannot be; by none there is the fault Header
ComesFirst-one input n n2 (inl a) (inr b) = absurd (b.0 a.0 a.1 a.2)
ComesFirst-one input n n2 (inr a) (inl b) = absurd (a.0 b.0 b.1 b.2)
ComesFirst-one input n n2 (inr a) (inr b) = a.1 ∙ sym b.1

-- an input has only one header, and one rest after it
pub Header-one : (format format2 : Format) (input : List ℕ) (p p2 : Times) (behind behind2 : List ℕ) → Header format p input behind → Header format2 p2 input behind2
    → (format ≡ format2) × (p ≡ p2) × (behind ≡ behind2)
Header-one format format2 input p p2 behind behind2 is is2 =
    let same = ComesFirst-one input _ _ (header-read format input p behind is) (header-read format2 input p2 behind2 is2) in
    let first : ◌≡◌ {A = Format × Times} (format, p) (format2, p2) = cc in
    let second : behind ≡ behind2 = cc in
    (ap (λ (x : Format × Times). x.0) first, ap (λ (x : Format × Times). x.1) first, second)

-- What follows is of the lines of entries.

-- a text tells only one moment and one length
Numbers-one : (text : List ℕ) (moment len moment2 len2 : ℕ) → Numbers text moment len → Numbers text moment2 len2 → (moment ≡ moment2) × (len ≡ len2)
Numbers-one text moment len moment2 len2 is is2 =
    let parts = cut-one space is.moment_text is.len_text is2.moment_text is2.len_text (IsNumber-no_space _ moment is.moment_is) (IsNumber-no_space _ moment2 is2.moment_is) (sym is.whole ∙ is2.whole) in
    (IsNumber-one _ _ moment moment2 parts.0 is.moment_is is2.moment_is, IsNumber-one _ _ len len2 parts.1 is.len_is is2.len_is)

-- a line tells only one thing as the line of an entry
HeadLine-one : (format : Format) (line : List ℕ) (h h2 : Head) → HeadLine format line h → HeadLine format line h2 → h ≡ h2
-- both lines are of messages: the letter, the moment and the length are the same
HeadLine-one format line (message a m l) (message a2 m2 l2) is is2 =
    let same = sym is.3 ∙ is2.3 in
    let action : a ≡ a2 = letter-one a a2 (ap (λ (t : List ℕ). get_or t 0 0) same) in
    let text : is.0 ≡ is2.0 = cc in
    let numbers = Numbers-one is2.0 m l m2 l2 (subst (λ t. Numbers t m l) text is.2) is2.2 in
    λ i. message (action i) (numbers.0 i) (numbers.1 i)
-- a line of an entry with a message is no line of one without, since the letters differ
HeadLine-one format line (message a m l) (plain a2 m2) is is2 =
    absurd (is2.1 (subst HasMessage (letter-one a a2 (ap (λ (t : List ℕ). get_or t 0 0) (sym is.3 ∙ is2.4))) is.1))
HeadLine-one format line (plain a m) (message a2 m2 l2) is is2 =
    absurd (is.1 (subst HasMessage (letter-one a2 a (ap (λ (t : List ℕ). get_or t 0 0) (sym is2.3 ∙ is.4))) is2.1))
-- both lines are of entries without a message: the letter and the moment are the same
HeadLine-one format line (plain a m) (plain a2 m2) is is2 =
    let same = sym is.4 ∙ is2.4 in
    let action : a ≡ a2 = letter-one a a2 (ap (λ (t : List ℕ). get_or t 0 0) same) in
    let text : is.0 ≡ is2.0 = cc in
    let moment = IsNumber-one is.0 is2.0 m m2 text is.3 is2.3 in
    λ i. plain (action i) (moment i)

-- a text has one first line
FrontLine-one : (rest line behind line2 behind2 : List ℕ) → FrontLine rest line behind → FrontLine rest line2 behind2 → (line ≡ line2) × (behind ≡ behind2)
FrontLine-one rest line behind line2 behind2 is is2 =
    cut-one line_feed line behind line2 behind2 (record { nowhere = is.first }) (record { nowhere = is2.first }) (sym is.whole ∙ is2.whole)

-- What follows is of what comes next.

-- where only one thing follows, only one thing comes by the case of a demand
Unless-one : {A : Type 0} (Demand : Type 0) (reason : LogReason) (n n2 : Next A) (Follows Follows2 : Type 0) → (Follows → Follows2 → n ≡ n2)
    → Unless Demand reason n Follows → Unless Demand reason n2 Follows2 → n ≡ n2
-- by both readings the demand fails, and by both it stops with the same reason
Unless-one Demand reason n n2 Follows Follows2 one (inl a) (inl b) = a.1 ∙ sym b.1
-- by one of them only the demand holds, which cannot be
Unless-one Demand reason n n2 Follows Follows2 one (inl a) (inr b) = absurd (a.0 b.0)
Unless-one Demand reason n n2 Follows Follows2 one (inr a) (inl b) = absurd (b.0 a.0)
-- by both the demand holds, and only one thing follows
Unless-one Demand reason n n2 Follows Follows2 one (inr a) (inr b) = one a.1 b.1

-- where a list is cut in two ways, and the first parts are equally long, the first parts are the same, and so are the second ones
-- the first parts are equally long, so that both are empty or neither is
parts-one : (xs ys xs2 ys2 : List ℕ) → length xs ≡ length xs2 → xs ++ ys ≡ xs2 ++ ys2 → (xs ≡ xs2) × (ys ≡ ys2)
parts-one [] ys [] ys2 len same = (refl, same)
parts-one [] ys (x2 ∷ xs2) ys2 len same = absurd (omega arith)
parts-one (x ∷ xs) ys [] ys2 len same = absurd (omega arith)
parts-one (x ∷ xs) ys (x2 ∷ xs2) ys2 len same =
    -- both lists have the same first element, and what follows it is the same list, cut in two ways
    let head : x ≡ x2 = cc in
    let tail : xs ++ ys ≡ xs2 ++ ys2 = cc in
    let len2 : length xs ≡ length xs2 = omega arith in
    let rest = parts-one xs ys xs2 ys2 len2 tail in
    (λ i. head i ∷ rest.0 i, rest.1)

-- only one thing comes by the byte after a message
-- b is the byte, and n and n2 are what comes by it
AtClose-one : (action : Action) (moment : ℕ) (text : List ℕ) (b : ℕ) (after : List ℕ) (n n2 : Next Item) → CloseComes action moment text b after n → CloseComes action moment text b after n2 → n ≡ n2
AtClose-one action moment text b after n n2 = Unless-one _ _ n n2 _ _ (λ e e2. e ∙ sym e2)

-- only one thing comes by a message
AtMessage-one : (action : Action) (moment len : ℕ) (behind : List ℕ) (n n2 : Next Item) → MessageComes action moment len behind n → MessageComes action moment len behind n2 → n ≡ n2
AtMessage-one action moment len behind n n2 = Unless-one _ _ n n2 _ _
    -- a and b are the two readings: the message, the byte after it and what follows are the same
    (λ a b.
    let parts = parts-one a.0 (a.1 ∷ a.2) b.0 (b.1 ∷ b.2) (a.4 ∙ sym b.4) (sym a.3 ∙ b.3) in
    let byte : a.1 ≡ b.1 = ap (λ (t : List ℕ). get_or t 0 0) parts.1 in
    let after : a.2 ≡ b.2 = ap (drop 1) parts.1 in
    AtClose-one action moment b.0 b.1 b.2 n n2 (coe 0 1 (i. CloseComes action moment (parts.0 i) (byte i) (after i) n) a.5) b.5)

-- only one thing comes after an entry's line
AtBody-one : (head : Head) (behind : List ℕ) (n n2 : Next Item) → BodyComes head behind n → BodyComes head behind n2 → n ≡ n2
AtBody-one (message action moment len) behind n n2 a b = AtMessage-one action moment len behind n n2 a b
AtBody-one (plain action moment) behind n n2 a b = a ∙ sym b

-- only one thing comes by the moment of an entry's line
AtHead-one : (last : ℕ) (head : Head) (behind : List ℕ) (n n2 : Next Item) → HeadComes last head behind n → HeadComes last head behind n2 → n ≡ n2
AtHead-one last head behind n n2 = Unless-one _ _ n n2 _ _ (Unless-one _ _ n n2 _ _ (AtBody-one head behind n n2))

-- only one thing comes by the form of a line
AtFront-one : (format : Format) (last : ℕ) (line behind : List ℕ) (n n2 : Next Item) → FormComes format last line behind n → FormComes format last line behind n2 → n ≡ n2
-- by both readings the line is that of no entry
AtFront-one format last line behind n n2 (inl a) (inl b) = a.1 ∙ sym b.1
-- by one of them only it is that of an entry, which cannot be
AtFront-one format last line behind n n2 (inl a) (inr b) = absurd (a.0 b.0 b.1)
AtFront-one format last line behind n n2 (inr a) (inl b) = absurd (b.0 a.0 a.1)
-- by both it is the line of the same entry
AtFront-one format last line behind n n2 (inr a) (inr b) =
    AtHead-one last b.0 behind n n2 (subst (λ h. HeadComes last h behind n) (HeadLine-one format line a.0 b.0 a.1 b.1) a.2) b.2

-- only one thing comes by the front line of the rest
AtLine-one : (format : Format) (last : ℕ) (rest : List ℕ) (n n2 : Next Item) → LineComes format last rest n → LineComes format last rest n2 → n ≡ n2
-- a is what comes by the first reading and b by the second: without a line both are the fault
AtLine-one format last rest n n2 (inl a) (inl b) = Unless-one _ _ n n2 _ _ (λ e e2. e ∙ sym e2) a.1 b.1
-- by one of them only there is a line, which cannot be
AtLine-one format last rest n n2 (inl a) (inr b) = absurd (a.0 b.0 b.1 b.2)
AtLine-one format last rest n n2 (inr a) (inl b) = absurd (b.0 a.0 a.1 a.2)
-- by both there is one, which is the same
AtLine-one format last rest n n2 (inr a) (inr b) =
    let parts = FrontLine-one rest a.0 a.1 b.0 b.1 a.2 b.2 in
    AtFront-one format last b.0 b.1 n n2 (coe 0 1 (i. FormComes format last (parts.0 i) (parts.1 i) n) a.3) b.3

-- only one thing comes next in the rest
pub ComesNext-one : (format : Format) (count last : ℕ) (rest : List ℕ) (n n2 : Next Item) → EntryComes format count last rest n → EntryComes format count last rest n2 → n ≡ n2
-- by both readings nothing is left, so the end comes
ComesNext-one format count last rest n n2 (inl a) (inl b) = a.1 ∙ sym b.1
-- by one of them only something is left, which cannot be
ComesNext-one format count last rest n n2 (inl a) (inr b) = absurd (b.0 a.0)
ComesNext-one format count last rest n n2 (inr a) (inl b) = absurd (a.0 b.0)
-- by both bytes are left
ComesNext-one format count last rest n n2 (inr a) (inr b) = Unless-one _ _ n n2 _ _ (AtLine-one format last rest n n2) a.1 b.1

-- What follows is of logs.

-- ends of a log after which the same comes next are the same
pub next_at-one : (end end2 : LogEnd) → next_at end ≡ next_at end2 → end ≡ end2
next_at-one Clean Clean same = refl
-- after a clean end the input ends, and after a stop comes a fault, which are not the same
next_at-one Clean (Stops reason) same = cc
next_at-one (Stops reason) Clean same = cc
next_at-one (Stops reason) (Stops reason2) same = ap Stops (cc)

-- the end of a log is no entry that comes next
-- what comes at it is the end of the input, or a fault
pub next_at-not_gives : (end : LogEnd) (e : Item) (behind : List ℕ) → next_at end ≢ gives e behind
next_at-not_gives Clean e behind same = cc
next_at-not_gives (Stops reason) e behind same = cc

-- the rest of an input has only one list of entries in a row, and one end
pub Follow-one : (format : Format) (count last : ℕ) (rest : List ℕ) (es es2 : List Item) (end end2 : LogEnd) → Follow format count last rest es end → Follow format count last rest es2 end2
    → (es ≡ es2) × (end ≡ end2)
-- by both readings the end comes here
Follow-one format count last rest [] [] end end2 a b = (refl, next_at-one end end2 (ComesNext-one format count last rest _ _ a b))
-- by one of them only an entry comes here, which cannot be
Follow-one format count last rest [] (e2 ∷ es2) end end2 a b = absurd (next_at-not_gives end e2 b.0 (ComesNext-one format count last rest _ _ a b.1))
Follow-one format count last rest (e ∷ es) [] end end2 a b = absurd (next_at-not_gives end2 e a.0 (ComesNext-one format count last rest _ _ b a.1))
-- both have an entry there, which is the same one, and then the rest goes on alike
Follow-one format count last rest (e ∷ es) (e2 ∷ es2) end end2 a b =
    let same = ComesNext-one format count last rest _ _ a.1 b.1 in
    let first : e ≡ e2 = cc in
    let behind : a.0 ≡ b.0 = cc in
    let more = Follow-one format (count + 1) e2.moment b.0 es es2 end end2 (coe 0 1 (i. Follow format (count + 1) ((first i).moment) (behind i) es end) a.2) b.2 in
    (λ i. first i ∷ more.0 i, more.1)
