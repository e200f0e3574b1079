-- What a legal verdict says of a log.
use Rattle.std.proofs.Common.{◌≡◌, ◌⊎◌, inl, inr, ℕ, None, List, [], ◌∷◌, ◌++◌, All, refl, sym, ap, subst, append_assoc}
use Rattle.std.proofs.lemmas.List.{append-nil}
use Rattle.std.proofs.lemmas.List.Elements.{All-nil, All-cons}
use Rattle.sip_standard.specs.Key.{KeyParts}
use Rattle.sip_standard.specs.Times.{Times}
use Rattle.sip_standard.specs.declared.verdict.Verdict.TheVariants.{Legal}
use Rattle.sip_standard.specs.LogSays.{LogEnd, Clean, Stops, LogSays}
use Rattle.sip_standard.specs.LogEntry.{Item}
use Rattle.sip_standard.specs.Observation.{Observation}
use Rattle.sip_standard.specs.Seen.{AreSeen}
use Rattle.sip_standard.specs.VerdictOf.{keys_in, RunsOver, IsVerdictAfter, IsVerdictOf}
use Rattle.sip_verdict.specs.LegalLog.{IsGood, IsLegalLog}
use Rattle.sip_verdict.proofs.judges.JudgingLemmas.{seen-push}
use Rattle.sip_verdict.proofs.verdicts.LegalMessages.{all_formed}
use Rattle.sip_verdict.proofs.verdicts.Unique.{good-nil, good-push}

-- where P holds of each element at which a list can be split, it holds of all elements
All-from_splits : {A : Type 0} (P : A → Type 0) (xs : List A) → ((front : List A) (x : A) (rest : List A) → xs ≡ front ++ x ∷ rest → P x) → All P xs
All-from_splits P [] each = All-nil P
All-from_splits P (x ∷ xs) each =
    All-cons P x xs (each [] x xs refl) (All-from_splits P xs (λ front y rest is. each (x ∷ front) y rest (ap (λ z. x ∷ z) is)))

-- a list is empty or has a last element
pub empty_or_last : {A : Type 0} (xs : List A) → (xs ≡ []) ⊎ ((front : List A) × (x : A) × (xs ≡ front ++ x ∷ []))
empty_or_last [] = inl refl
empty_or_last {A} (x ∷ xs) = go (empty_or_last xs)
  where
    -- the list has a last element: the first, or the last of those after it
    go : (xs ≡ []) ⊎ ((front : List A) × (y : A) × (xs ≡ front ++ y ∷ [])) → (x ∷ xs ≡ []) ⊎ ((front : List A) × (y : A) × (x ∷ xs ≡ front ++ y ∷ []))
    go (inl e) = inr ([], x, ap (λ z. x ∷ z) e)
    go (inr h) = inr (x ∷ h.0, h.1, ap (λ z. x ∷ z) h.2)

-- where no entry is in trouble, each key has a run over all of them
good_runs : (p : Times) (es : List (Observation KeyParts)) → IsGood p es → All (RunsOver p es) (keys_in es)
good_runs p es good = go (empty_or_last es)
  where
    -- each key of these entries has a run over them
    AllRun : List (Observation KeyParts) → Type 0
    AllRun xs = All (RunsOver p xs) (keys_in xs)

    -- each key has a run over the entries: there are none, or the last one is in no trouble
    go : (es ≡ []) ⊎ ((front : List (Observation KeyParts)) × (e : Observation KeyParts) × (es ≡ front ++ e ∷ [])) → All (RunsOver p es) (keys_in es)
    go (inl none) = subst AllRun (sym none) (All-nil (RunsOver p []))
    go (inr h) = subst AllRun (sym h.2) (good h.0 h.1 [] h.2).runs

-- where no entry is in trouble, no message has a fault
good_formed : (p : Times) (es : List (Observation KeyParts)) → IsGood p es → All (λ e. e.fault ≡ None) es
good_formed p es good = All-from_splits (λ e. e.fault ≡ None) es (λ front e rest is. (good front e rest is).formed)

-- What follows is of one input with the verdict that it is legal, with so many entries and transactions; p are the times of its header.
module _ (input : List ℕ) (entries transactions : ℕ) (p : Times) where
  -- where the verdict after these entries is that the log is legal, the log ends cleanly, with no entry in trouble
  legal_end : (done : List Item) (es : List (Observation KeyParts)) (rest : List Item) (end : LogEnd) → LogSays input p (done ++ rest) end → AreSeen [] done es → IsGood p es →
      IsVerdictAfter p es rest end (Legal entries transactions) → IsLegalLog input entries transactions
  legal_end done es [] Clean log seen good is = record {
    -- the log was read to its end, with these items
    times = p;
    items = done;
    es = es;
    whole = subst (λ all. LogSays input p all Clean) (append-nil done) log;
    -- each entry is in no trouble, so each key has a run and each message is of the grammar
    seen = seen;
    good = good;
    entries_are = cc;
    transactions_are = cc;
    runs = good_runs p es good;
    formed = all_formed [] done es seen (good_formed p es good);
  }
  -- a log that cannot be read to its end, or has trouble at the next item, has another verdict
  legal_end done es [] (Stops fault) log seen good is = cc
  legal_end done es (item ∷ rest) end log seen good (e, sees, inl trouble) = absurd trouble
  -- the next item is in no trouble, so the log goes on with it
  legal_end done es (item ∷ rest) end log seen good (e, sees, inr (fine, left)) =
      legal_end (done ++ item ∷ []) (es ++ e ∷ []) rest end (subst (λ all. LogSays input p all end) (sym (append_assoc done (item ∷ []) rest)) log)
      (seen-push [] done es item e seen sees) (good-push p es e good fine) left

-- a log with a legal verdict has messages of the grammar, and a run of each transaction
-- an input without a header has another verdict
pub legal_log : (input : List ℕ) (entries transactions : ℕ) → IsVerdictOf input (Legal entries transactions) → IsLegalLog input entries transactions
legal_log input entries transactions (inl faulty) = let e = faulty.1 in cc
legal_log input entries transactions (inr (p, items, end, log, left)) = legal_end input entries transactions p [] [] items end log tt (good-nil p) left
