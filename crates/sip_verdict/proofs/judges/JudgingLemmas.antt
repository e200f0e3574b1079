-- What the entries that were read say of the whole log of the input.
-- In the lemmas es is what was observed of the entries so far, and e what is observed of the next one.
use Rattle.std.proofs.Common.{inl, inr, refl, Option, IfSome, List, [], ◌∷◌, ◌++◌, ℕ, sym, subst, append_assoc}
use Rattle.std.proofs.lemmas.List.{append-nil}
use Rattle.sip_standard.specs.Key.{KeyParts}
use Rattle.sip_standard.specs.Times.{Times}
use Rattle.sip_standard.specs.LogEntry.{Item}
use Rattle.sip_standard.specs.LogSays.{LogEnd, LogSays}
use Rattle.sip_log.specs.Reading as log
use Rattle.sip_log.proofs.answers.ReadingLemmas.{IfSome-map}
use Rattle.sip_standard.specs.declared.verdict.Verdict.{Verdict}
use Rattle.sip_standard.specs.Observation.{Observation}
use Rattle.sip_standard.specs.Seen.{AreSeen}
use Rattle.sip_standard.specs.VerdictOf.{Sees, HasTrouble, IsVerdictAfter, IsVerdictOf}
use Rattle.sip_verdict.specs.LegalLog.{IsGood}
use Rattle.sip_verdict.specs.inner.Walking.{HasRead}
use Rattle.sip_verdict.proofs.listings.WalkingLemmas.{read_log}

-- where items are seen as the entries es, and one item more is seen after them as e, all of them are seen as es and e
pub seen-push : (before : List (Observation KeyParts)) (xs : List Item) (es : List (Observation KeyParts)) (x : Item) (e : Observation KeyParts) → AreSeen before xs es → Sees (before ++ es) x e
    → AreSeen before (xs ++ x ∷ []) (es ++ e ∷ [])
-- x is the one item more, seen as e; there are as many entries as items
seen-push before [] [] x e a s = (subst (λ fs. Sees fs x e) (append-nil before) s, tt)
seen-push before [] (f ∷ es) x e a s = elim a [ ]
seen-push before (y ∷ xs) [] x e a s = elim a [ ]
seen-push before (y ∷ xs) (f ∷ es) x e a s =
    (a.0, seen-push (before ++ f ∷ []) xs es x e a.1 (subst (λ fs. Sees fs x e) (sym (append_assoc before (f ∷ []) es)) s))

-- a verdict of the items that are left after entries in no trouble is the verdict of all items
pub judges_front : (p : Times) (end : LogEnd) (v : Verdict) (before : List (Observation KeyParts)) (items rest : List Item) (es : List (Observation KeyParts)) → AreSeen before items es → IsGood p (before ++ es) →
    IsVerdictAfter p (before ++ es) rest end v → IsVerdictAfter p before (items ++ rest) end v
judges_front p end v before [] rest [] seen good left = subst (λ fs. IsVerdictAfter p fs rest end v) (append-nil before) left
-- there are as many entries as items
judges_front p end v before [] rest (e ∷ es) seen good left = elim seen [ ]
judges_front p end v before (item ∷ items) rest [] seen good left = elim seen [ ]
-- the first of the entries is in no trouble, so the verdict is on those after it
judges_front p end v before (item ∷ items) rest (e ∷ es) seen good left =
    let along = append_assoc before (e ∷ []) es in
    let fine = good before e es refl in (
      e,
      seen.0,
      -- the entry is formed, each key has a run, and none is too wide
      inr (
        fine,
        judges_front p end v (before ++ e ∷ []) items rest es seen.1 (subst (IsGood p) (sym along) good) (subst (λ fs. IsVerdictAfter p fs rest end v) (sym along) left),
      ),
    )

-- What follows is of items of a log by the times p that were judged without a verdict; es is what is observed of them, and start the bytes from which they
-- were read.
module _ (p : Times) (start : Option (List ℕ)) (items : List Item) (es : List (Observation KeyParts)) (observed : AreSeen [] items es) (good : IsGood p es) where
  -- a verdict after the entries that were judged is the verdict of each input whose log has them first
  goes_on : (rest : List Item) (end : LogEnd) (v : Verdict) → IsVerdictAfter p es rest end v → (input : List ℕ) → LogSays input p (items ++ rest) end → IsVerdictOf input v
  goes_on rest end v left input is = inr (p, items ++ rest, end, is, judges_front p end v [] items rest es observed good left)

  -- a verdict at the end of the log is that of the input
  pub judged_ends : (end : LogEnd) (v : Verdict) → IsVerdictAfter p es [] end v → IfSome start (λ input. LogSays input p items end) → IfSome start (λ input. IsVerdictOf input v)
  judged_ends end v left logs =
      IfSome-map start (λ input. LogSays input p items end) (λ input. IsVerdictOf input v)
      (λ input is. goes_on [] end v left input (subst (λ all. LogSays input p all end) (sym (append-nil items)) is)) logs

  -- where the next item is in trouble, each input whose log has the items and it first has the verdict of that trouble
  pub judged_trouble : (i : Item) (new : log.ReaderState) → HasRead start p (items ++ i ∷ []) new → (e : Observation KeyParts) → Sees es i e → (v : Verdict) → HasTrouble p es e v
      → IfSome start (λ input. IsVerdictOf input v)
  judged_trouble i new read e seen v is =
      IfSome-map start (λ input. (more : List Item) × (end : LogEnd) × LogSays input p ((items ++ i ∷ []) ++ more) end) (λ input. IsVerdictOf input v)
      (λ input l. goes_on (i ∷ l.0) l.1 v (e, seen, inl is) input (subst (λ all. LogSays input p all l.1) (append_assoc items (i ∷ []) l.0) l.2))
      (read_log start p (items ++ i ∷ []) new read)
