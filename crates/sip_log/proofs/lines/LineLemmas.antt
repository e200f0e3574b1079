-- Lemmas of the lines of entries and their numbers, which are cut at their blanks.
use Rattle.std.proofs.Common.{◌≡◌, ◌≤◌, ℕ, List, ◌∷◌, length, get_or, drop, if◌then◌else◌, ◌==◌, refl, subst, sym, ap, ◌∙◌}
use Rattle.sip_log.specs.inner.Number.{IsNumber}
use Rattle.sip_log.specs.inner.Spelling.{space, letter}
use Rattle.sip_standard.specs.LogEntry.{HasMessage, IsOf}
use Rattle.sip_standard.specs.declared.format.Format.{Format}
use Rattle.sip_log.specs.inner.Line.{Numbers, Head, message, plain, HeadLine}
use Rattle.sip_standard.specs.declared.action.Action.{Action}
use Rattle.sip_standard.specs.declared.action.Action.TheVariants.{Sent, Received, Failed, Mark, Restart}
use Rattle.sip_log.proofs.numbers.NumberLemmas.{IsNumber-no_space}
use Rattle.sip_log.proofs.lines.SplitLemmas.{Cut, cut-one, two-front}

-- the numbers of a text are the moment before the first blank and the length after it
pub Numbers-parts : (text front back : List ℕ) (moment len : ℕ) → Cut space text front back → Numbers text moment len
    → IsNumber front moment × IsNumber back len
Numbers-parts text front back moment len at is =
    let same = cut-one space is.moment_text is.len_text front back (IsNumber-no_space _ _ is.moment_is) at.first (sym is.whole ∙ at.whole) in
    (subst (λ t. IsNumber t moment) same.0 is.moment_is, subst (λ t. IsNumber t len) same.1 is.len_is)

-- a moment before the first blank and a length after it are the numbers of the text
pub Numbers-of : (text front back : List ℕ) (moment len : ℕ) → Cut space text front back → IsNumber front moment → IsNumber back len
    → Numbers text moment len
Numbers-of text front back moment len at first second =
    record { moment_text = front; len_text = back; moment_is = first; len_is = second; whole = at.whole }

-- a line that begins with the letter of an action and a blank is these two and the rest
lettered : (line : List ℕ) (action : Action) → 2 ≤ length line → get_or line 0 0 ≡ letter action → get_or line 1 0 ≡ space
    → line ≡ letter action ∷ space ∷ drop 2 line
lettered line action long first second = two-front line long ∙ ap (λ x. x ∷ get_or line 1 0 ∷ drop 2 line) first ∙ ap (λ x. letter action ∷ x ∷ drop 2 line) second

-- a line with a letter of the format, a blank and a moment is the line of an entry without a message
pub HeadLine-plain : (format : Format) (line : List ℕ) (action : Action) (moment : ℕ) → ¬ (HasMessage action) → IsOf format action → 2 ≤ length line → get_or line 0 0 ≡ letter action
    → get_or line 1 0 ≡ space → IsNumber (drop 2 line) moment → HeadLine format line (plain action moment)
HeadLine-plain format line action moment none of long first second is = (drop 2 line, none, of, is, lettered line action long first second)

-- a line with a letter, a blank, a moment and a length is the line of a message
pub HeadLine-message : (format : Format) (line : List ℕ) (action : Action) (moment len : ℕ) → HasMessage action → 2 ≤ length line → get_or line 0 0 ≡ letter action
    → get_or line 1 0 ≡ space → Numbers (drop 2 line) moment len → HeadLine format line (message action moment len)
HeadLine-message format line action moment len has long first second is = (drop 2 line, has, is, lettered line action long first second)

-- the action whose letter this is: 83, 82, 70 and 77 are S, R, F and M, and any other byte is taken for Z
action_at : ℕ → Action
action_at n = if n == 83 then Sent else (if n == 82 then Received else (if n == 70 then Failed else (if n == 77 then Mark else Restart)))

-- the action of the letter of an action is that action
action_at-letter : (a : Action) → action_at (letter a) ≡ a
unfolding action_at
action_at-letter Sent = refl
action_at-letter Received = refl
action_at-letter Failed = refl
action_at-letter Mark = refl
action_at-letter Restart = refl

-- actions with the same letter are the same
pub letter-one : (a b : Action) → letter a ≡ letter b → a ≡ b
letter-one a b same = sym (action_at-letter a) ∙ ap action_at same ∙ action_at-letter b

-- an action with a message is in each format
pub message-of : (format : Format) (action : Action) → HasMessage action → IsOf format action
message-of format action has = λ same. absurd (has.1 same)

-- a line that does not begin with a letter of the format is no entry's line
pub HeadLine-unlettered : (format : Format) (line : List ℕ) → ((a : Action) → IsOf format a → ¬ (get_or line 0 0 ≡ letter a)) → (head : Head) → ¬ (HeadLine format line head)
HeadLine-unlettered format line none (message action moment len) is = none action (message-of format action is.1) (ap (λ (t : List ℕ). get_or t 0 0) is.3)
HeadLine-unlettered format line none (plain action moment) is = none action is.2 (ap (λ (t : List ℕ). get_or t 0 0) is.4)

-- a line with the letter of a message, and without two numbers after it, is no entry's line
pub HeadLine-no_numbers : (format : Format) (line : List ℕ) (action : Action) → HasMessage action → get_or line 0 0 ≡ letter action
    → ((moment len : ℕ) → ¬ (Numbers (drop 2 line) moment len)) → (head : Head) → ¬ (HeadLine format line head)
-- an entry with a message would have two numbers after the letter
HeadLine-no_numbers format line action has first none (message a moment len) is =
    none moment len (subst (λ t. Numbers t moment len) (ap (drop 2) (sym is.3)) is.2)
-- an entry without a message would have another letter
HeadLine-no_numbers format line action has first none (plain a moment) is =
    is.1 (subst HasMessage (letter-one action a (sym first ∙ ap (λ (t : List ℕ). get_or t 0 0) is.4)) has)

-- a line with the letter of an entry without a message, and without a number after it, is no entry's line
pub HeadLine-no_number : (format : Format) (line : List ℕ) (action : Action) → ¬ (HasMessage action) → get_or line 0 0 ≡ letter action
    → ((moment : ℕ) → ¬ (IsNumber (drop 2 line) moment)) → (head : Head) → ¬ (HeadLine format line head)
-- an entry with a message would have another letter
HeadLine-no_number format line action lacks first none (message a moment len) is =
    lacks (subst HasMessage (sym (letter-one action a (sym first ∙ ap (λ (t : List ℕ). get_or t 0 0) is.3))) is.1)
-- an entry without a message would have a number after the letter
HeadLine-no_number format line action lacks first none (plain a moment) is =
    none moment (subst (λ t. IsNumber t moment) (ap (drop 2) (sym is.4)) is.3)
