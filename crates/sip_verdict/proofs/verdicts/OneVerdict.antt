-- An input has one verdict.
-- In the lemmas v and w are two verdicts, and es what was observed of the entries so far.
use Rattle.std.proofs.Common.{◌≡◌, ◌⊎◌, inl, inr, ℕ, List, [], ◌∷◌, ◌++◌, sym, ◌∙◌, subst}
use Rattle.sip_standard.specs.Times.{Times}
use Rattle.sip_standard.specs.declared.verdict.Verdict.{Verdict}
use Rattle.sip_standard.specs.LogEntry.{Item}
use Rattle.sip_standard.specs.LogSays.{LogEnd, Clean, Stops, LogSays}
use Rattle.sip_standard.specs.Key.{KeyParts}
use Rattle.sip_standard.specs.Observation.{Observation}
use Rattle.sip_log.proofs.logs.Logs.{log_is_one, log_has_header}
use Rattle.sip_standard.specs.VerdictOf.{HasTrouble, IsFine, IsVerdictAfter, IsVerdictOf}
use Rattle.sip_verdict.proofs.verdicts.MessageUnique.{observes_one}
use Rattle.sip_verdict.proofs.verdicts.Unique.{fine_no_trouble, trouble_is_one}

-- two verdicts on the same items after the same entries are the same
judges_one : (p : Times) (es : List (Observation KeyParts)) (items : List Item) (end : LogEnd) (v w : Verdict) → IsVerdictAfter p es items end v → IsVerdictAfter p es items end w → v ≡ w
judges_one p es [] Clean v w a b = a ∙ sym b
judges_one p es [] (Stops fault) v w a b = a ∙ sym b
-- e and f are what is observed of the item, and a and b what the two verdicts say of it and of the entries after it
judges_one p es (item ∷ items) end v w (e, seen, a) (f, seen2, b) = go a (subst (λ g. After g w) (sym (observes_one es item e f seen seen2)) b) (judges_one p (es ++ e ∷ []) items end v w)
  where
    -- the verdict on the items, where e is what is seen of the first of them
    After : Observation KeyParts → Verdict → Type 0
    After g x = HasTrouble p es g x ⊎ (IsFine p es g × IsVerdictAfter p (es ++ g ∷ []) items end x)

    -- the two verdicts are the same: both are of the next entry, or both are of later ones
    go : After e v → After e w → (IsVerdictAfter p (es ++ e ∷ []) items end v → IsVerdictAfter p (es ++ e ∷ []) items end w → v ≡ w) → v ≡ w
    go (inl a) (inl b) later = trouble_is_one p es e v w a b
    -- the next entry cannot be in trouble by one verdict and in none by the other
    go (inl a) (inr b) later = absurd (fine_no_trouble p es e v b.0 a)
    go (inr a) (inl b) later = absurd (fine_no_trouble p es e w a.0 b)
    go (inr a) (inr b) later = later a.1 b.1

-- two verdicts on logs that one input says are the same
-- the input says the items xs with the times p and the end `end`, whose verdict is v, and the items ys with the times q and the end `fin`, whose verdict is w
log_judges_one : (input : List ℕ) (p q : Times) (xs ys : List Item) (end fin : LogEnd) (v w : Verdict) → LogSays input p xs end → IsVerdictAfter p [] xs end v → LogSays input q ys fin → IsVerdictAfter q [] ys fin w → v ≡ w
log_judges_one input p q xs ys end fin v w log a other b =
    let same = log_is_one input p q xs ys end fin log other in
    judges_one p [] xs end v w a (subst (λ z. IsVerdictAfter z [] xs end w) (sym same.0) (subst (λ z. IsVerdictAfter q [] z end w) (sym same.1) (subst (λ z. IsVerdictAfter q [] ys z w) (sym same.2) b)))

-- two verdicts of one input are the same
pub verdict_is_one : (input : List ℕ) (v w : Verdict) → IsVerdictOf input v → IsVerdictOf input w → v ≡ w
-- without a header both are the fault Header; with one, p and q are the times, xs and ys the items, and a and b say what the verdicts are after them
verdict_is_one input v w (inl a) (inl b) = a.1 ∙ sym b.1
verdict_is_one input v w (inl a) (inr (q, ys, fin, log, b)) = absurd (log_has_header input q ys fin a.0 log)
verdict_is_one input v w (inr (p, xs, end, log, a)) (inl b) = absurd (log_has_header input p xs end b.0 log)
verdict_is_one input v w (inr (p, xs, end, log, a)) (inr (q, ys, fin, other, b)) = log_judges_one input p q xs ys end fin v w log a other b
