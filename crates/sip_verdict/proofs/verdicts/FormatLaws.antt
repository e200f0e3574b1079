-- Logs that say the same have the same verdict, whatever their headers are.
use Rattle.std.proofs.Common.{◌≡◌, ◌↔◌, inl, inr, ℕ, List, [], ◌++◌, sym, ap, ◌∙◌, subst}
use Rattle.std.specs.Prelude.{flat_map}
use Rattle.std.proofs.lemmas.List.{append-nil}
use Rattle.sip_standard.specs.Times.{Times}
use Rattle.sip_standard.specs.declared.format.Format.{Format}
use Rattle.sip_standard.specs.declared.format.Format.TheVariants.{One, Two}
use Rattle.sip_standard.specs.LogEntry.{Item, entry_says, InOrder}
use Rattle.sip_standard.specs.LogHeader.{Header}
use Rattle.sip_standard.specs.LogSays.{LogEnd, Clean, LogSays}
use Rattle.sip_log.proofs.logs.Logs.{log_is_one, log_has_header, log-of-two, clean-log}
use Rattle.sip_log.proofs.logs.LogLaws.{Header-one}
use Rattle.sip_standard.specs.declared.verdict.Verdict.{Verdict}
use Rattle.sip_standard.specs.VerdictOf.{IsVerdictOf, IsVerdictAfter}

-- a verdict of an input is a verdict on the log that the input says
-- the input has a header, since it says a log; and it says one log alone
judges_log : (input : List ℕ) (p : Times) (items : List Item) (end : LogEnd) (v : Verdict) → LogSays input p items end → IsVerdictOf input v → IsVerdictAfter p [] items end v
judges_log input p items end v log (inl (none, is)) = absurd (log_has_header input p items end none log)
judges_log input p items end v log (inr (q, ys, fin, other, judges)) =
    let same = log_is_one input p q items ys end fin log other in
    subst (λ z. IsVerdictAfter z [] items end v) (sym same.0) (subst (λ z. IsVerdictAfter q [] z end v) (sym same.1) (subst (λ z. IsVerdictAfter q [] ys z v) (sym same.2) judges))

-- two inputs that say the same log have the same verdicts
log_verdict : (input other : List ℕ) (p : Times) (items : List Item) (end : LogEnd) (v : Verdict) → LogSays input p items end → LogSays other p items end → IsVerdictOf input v → IsVerdictOf other v
log_verdict input other p items end v log same is =
    inr (p, items, end, same, judges_log input p items end v log is)

-- a log of format 1 with a clean end has, after a header of format 2 with the same times, the same verdicts
pub format_verdict : (v : Verdict) (input other : List ℕ) (p : Times) (behind : List ℕ) (items : List Item) → Header One p input behind → Header Two p other behind → LogSays input p items Clean
    → IsVerdictOf input v ↔ IsVerdictOf other v
format_verdict v input other p behind items one two log =
    let same = log-of-two input other p behind items one two log in
    (log_verdict input other p items Clean v log same, log_verdict other input p items Clean v same log)

-- an input that says a log with a clean end says the same log with another header of the same format and the same times
log-of-same : (format : Format) (input other : List ℕ) (p : Times) (behind : List ℕ) (items : List Item) → Header format p input behind → Header format p other behind → LogSays input p items Clean
    → LogSays other p items Clean
log-of-same format input other p behind items one two is =
    let same = Header-one is.format format input p p _ behind is.header one in
    let none : is.rest ≡ [] = is.next in
    let whole : behind ≡ flat_map entry_says items = sym same.2 ∙ ap (λ (t : List ℕ). flat_map entry_says items ++ t) none ∙ append-nil (flat_map entry_says items) in
    clean-log format other p items (subst (Header format p other) whole two) is.few (subst (λ f. InOrder f 0 items) same.0 is.order)

-- logs with the same entries and times have the same verdicts, whatever their headers are
pub rules_verdict : (v : Verdict) (format : Format) (input other : List ℕ) (p : Times) (behind : List ℕ) (items : List Item) → Header format p input behind → Header format p other behind
    → LogSays input p items Clean → IsVerdictOf input v ↔ IsVerdictOf other v
rules_verdict v format input other p behind items one two log =
    let same = log-of-same format input other p behind items one two log in
    (log_verdict input other p items Clean v log same, log_verdict other input p items Clean v same log)
