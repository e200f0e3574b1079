-- What each verdict says by itself, since the entries before the one that it names go well.
use Rattle.std.proofs.Common.{◌≡◌, ◌+◌, ◌⊎◌, inl, inr, refl, sym, subst, ◌∙◌, ap, ℕ, List, [], ◌∷◌, ◌++◌, length, append_assoc}
use Rattle.std.proofs.lemmas.List.{append-nil}
use Rattle.sip_standard.specs.Key.{KeyParts}
use Rattle.sip_standard.specs.Times.{Times}
use Rattle.sip_standard.specs.LogEntry.{Item}
use Rattle.sip_standard.specs.LogSays.{LogEnd, Clean, Stops, LogSays}
use Rattle.sip_standard.specs.declared.fault.Fault.{Fault}
use Rattle.sip_standard.specs.declared.verdict.Verdict.{Verdict}
use Rattle.sip_standard.specs.declared.verdict.Verdict.TheVariants.{Malformed, Breach, Undecided, LogFault}
use Rattle.sip_standard.specs.declared.log_reason.LogReason.{LogReason}
use Rattle.sip_standard.specs.Observation.{Observation}
use Rattle.sip_standard.specs.VerdictOf.{Sees, HasTrouble, IsVerdictAfter, IsVerdictOf}
use Rattle.consequences.specs.Front.{GoWell, IsFirstInTrouble, IsFirstFault, IsFirstBreach, IsFirstWide, CannotBeRead}

-- entries as they are observed
abbrev Entries : Type 0
Entries = List (Observation KeyParts)

-- the first items go well after the entries es, and the verdict is that of the end after them, or of trouble of the next item
pub record Ends (p : Times) (es : Entries) (items : List Item) (end : LogEnd) (v : Verdict) : Type 0 where
  pub before : List Item
  pub front : Entries
  pub rest : List Item
  pub whole : items ≡ before ++ rest
  pub well : GoWell p es before front
  pub last : ((rest ≡ []) × IsVerdictAfter p (es ++ front) [] end v)
      ⊎ ((item : Item) × (after : List Item) × (e : Observation KeyParts) × (rest ≡ item ∷ after) × Sees (es ++ front) item e × HasTrouble p (es ++ front) e v)

-- a verdict after entries in no trouble has items that go well first, and then the end or an item in trouble
ends : (p : Times) (es : Entries) (items : List Item) (end : LogEnd) (v : Verdict) → IsVerdictAfter p es items end v → Ends p es items end v
-- no item is left, so the front is empty and the end follows it
ends p es [] end v is =
    record { before = []; front = []; rest = []; whole = refl; well = tt; last = inl (refl, subst (λ fs. IsVerdictAfter p fs [] end v) (sym (append-nil es)) is) }
-- the first item is in trouble, so the front is empty and this item follows it
ends p es (item ∷ items) end v (e, sees, inl trouble) =
    record {
      before = [];
      front = [];
      rest = item ∷ items;
      whole = refl;
      well = tt;
      last = inr (item, items, e, refl, subst (λ fs. Sees fs item e) (sym (append-nil es)) sees, subst (λ fs. HasTrouble p fs e v) (sym (append-nil es)) trouble);
    }
-- the first item goes well, so it stands before the front of the later items
ends p es (item ∷ items) end v (e, sees, inr (fine, more)) =
    let later = ends p (es ++ e ∷ []) items end v more in
    let same : (es ++ e ∷ []) ++ later.front ≡ es ++ e ∷ later.front = append_assoc es (e ∷ []) later.front in
    record {
      before = item ∷ later.before;
      front = e ∷ later.front;
      -- what follows the front is what follows that of the later items
      rest = later.rest;
      whole = ap (λ xs. item ∷ xs) later.whole;
      well = (sees, fine, later.well);
      last = subst (λ fs. ((later.rest ≡ []) × IsVerdictAfter p fs [] end v)
          ⊎ ((next : Item) × (after : List Item) × (f : Observation KeyParts) × (later.rest ≡ next ∷ after) × Sees fs next f × HasTrouble p fs f v)) same later.last;
    }

-- What follows is of one input.
module _ (input : List ℕ) where
  -- the first entry that is in trouble has the number that follows those of the entries that go well
  first_in_trouble : (p : Times) (items : List Item) (end : LogEnd) (v : Verdict) (number : ℕ) → LogSays input p items end → (found : Ends p [] items end v)
      → (item : Item) (after : List Item) (e : Observation KeyParts) → found.rest ≡ item ∷ after → Sees found.front item e → number ≡ length found.front + 1
      → IsFirstInTrouble input p number found.front e
  first_in_trouble p items end v number says found item after e is sees numbered =
      record {
        before = found.before;
        item = item;
        after = after;
        end = end;
        -- the log begins with the items that go well, and then this one
        says = subst (λ xs. LogSays input p xs end) (found.whole ∙ ap (λ xs. found.before ++ xs) is) says;
        well = found.well;
        sees = sees;
        numbered = numbered;
      }

  -- the verdict of a malformed log names the first fault
  pub first_fault : (number : ℕ) (fault : Fault) → IsVerdictOf input (Malformed number fault) → IsFirstFault input number fault
  -- without a header the verdict is a fault of the log, and no other
  first_fault number fault (inl (lacks, is)) = absurd cc
  first_fault number fault (inr (p, items, end, says, is)) = by (ends p [] items end (Malformed number fault) is)
    where
      -- at the end of the entries the verdict is not `Malformed`
      by_end : (end : LogEnd) (front : Entries) → ¬ (IsVerdictAfter p front [] end (Malformed number fault))
      by_end Clean front is = cc
      by_end (Stops f) front is = cc

      -- the verdict is not that of the end, so an item follows the front, and its entry has the fault
      with_last : (found : Ends p [] items end (Malformed number fault)) → ((found.rest ≡ []) × IsVerdictAfter p found.front [] end (Malformed number fault))
          ⊎ ((item : Item) × (after : List Item) × (e : Observation KeyParts) × (found.rest ≡ item ∷ after) × Sees found.front item e × HasTrouble p found.front e (Malformed number fault))
          → IsFirstFault input number fault
      with_last found (inl (none, is)) = absurd (by_end end found.front is)
      with_last found (inr (item, after, e, rest, sees, trouble)) =
          (p, found.front, e, first_in_trouble p items end (Malformed number fault) number says found item after e rest sees trouble.0, trouble.1)

      -- where the rest of the log ends malformed after a front that goes well, this is the first fault of the input
      by : Ends p [] items end (Malformed number fault) → IsFirstFault input number fault
      by found = with_last found found.last

  -- a breach is at the first entry in trouble
  pub first_breach : (number transaction : ℕ) → IsVerdictOf input (Breach number transaction) → IsFirstBreach input number transaction
  -- without a header the verdict is a fault of the log, and no other
  first_breach number transaction (inl (lacks, is)) = absurd cc
  first_breach number transaction (inr (p, items, end, says, is)) = by (ends p [] items end (Breach number transaction) is)
    where
      -- at the end of the entries the verdict is not `Breach`
      by_end : (end : LogEnd) (front : Entries) → ¬ (IsVerdictAfter p front [] end (Breach number transaction))
      by_end Clean front is = cc
      by_end (Stops f) front is = cc

      -- the verdict is not that of the end, so an item follows the front, and some transaction has no run over its entry
      with_last : (found : Ends p [] items end (Breach number transaction)) → ((found.rest ≡ []) × IsVerdictAfter p found.front [] end (Breach number transaction))
          ⊎ ((item : Item) × (after : List Item) × (e : Observation KeyParts) × (found.rest ≡ item ∷ after) × Sees found.front item e × HasTrouble p found.front e (Breach number transaction))
          → IsFirstBreach input number transaction
      with_last found (inl (none, is)) = absurd (by_end end found.front is)
      with_last found (inr (item, after, e, rest, sees, trouble)) =
          (p, found.front, e, first_in_trouble p items end (Breach number transaction) number says found item after e rest sees trouble.0, trouble.1, trouble.2)

      -- where the rest of the log ends in a breach after a front that goes well, this is the first breach of the input
      by : Ends p [] items end (Breach number transaction) → IsFirstBreach input number transaction
      by found = with_last found found.last

  -- an undecided verdict is at the first entry in trouble
  pub first_wide : (number transaction : ℕ) → IsVerdictOf input (Undecided number transaction) → IsFirstWide input number transaction
  -- without a header the verdict is a fault of the log, and no other
  first_wide number transaction (inl (lacks, is)) = absurd cc
  first_wide number transaction (inr (p, items, end, says, is)) = by (ends p [] items end (Undecided number transaction) is)
    where
      -- at the end of the entries the verdict is not `Undecided`
      by_end : (end : LogEnd) (front : Entries) → ¬ (IsVerdictAfter p front [] end (Undecided number transaction))
      by_end Clean front is = cc
      by_end (Stops f) front is = cc

      -- the verdict is not that of the end, so an item follows the front, and some transaction is too wide at its entry
      with_last : (found : Ends p [] items end (Undecided number transaction)) → ((found.rest ≡ []) × IsVerdictAfter p found.front [] end (Undecided number transaction))
          ⊎ ((item : Item) × (after : List Item) × (e : Observation KeyParts) × (found.rest ≡ item ∷ after) × Sees found.front item e × HasTrouble p found.front e (Undecided number transaction))
          → IsFirstWide input number transaction
      with_last found (inl (none, is)) = absurd (by_end end found.front is)
      with_last found (inr (item, after, e, rest, sees, trouble)) =
          (p, found.front, e, first_in_trouble p items end (Undecided number transaction) number says found item after e rest sees trouble.0, trouble.1, trouble.2, trouble.3)

      -- where the rest of the log ends undecided after a front that goes well, this is the first entry at which the input is too wide
      by : Ends p [] items end (Undecided number transaction) → IsFirstWide input number transaction
      by found = with_last found found.last

  -- a fault of the log is at the first entry that cannot be read
  pub cannot_be_read : (number : ℕ) (reason : LogReason) → IsVerdictOf input (LogFault number reason) → CannotBeRead input number reason
  -- without a header the fault is that of the header, at entry 0
  cannot_be_read number reason (inl (lacks, is)) = inl (cc, cc, lacks)
  cannot_be_read number reason (inr (p, items, end, says, is)) = by (ends p [] items end (LogFault number reason) is)
    where
      -- where no entry is left, the log stops with the fault, so the input cannot be read
      -- a log that ends well has no such fault; of one that stops the fault is that of the entry after the last
      at_end : (end : LogEnd) → LogSays input p items end → (found : Ends p [] items end (LogFault number reason)) → found.rest ≡ []
          → IsVerdictAfter p found.front [] end (LogFault number reason) → CannotBeRead input number reason
      at_end Clean says found none is = absurd cc
      at_end (Stops fault) says found none is =
          let same : items ≡ found.before = found.whole ∙ ap (λ xs. found.before ++ xs) none ∙ append-nil found.before in
          inr (p, found.before, found.front, fault, subst (λ xs. LogSays input p xs (Stops fault)) same says, found.well, cc, cc)

      -- no item follows the front, since an entry in trouble has another verdict
      with_last : (found : Ends p [] items end (LogFault number reason)) → ((found.rest ≡ []) × IsVerdictAfter p found.front [] end (LogFault number reason))
          ⊎ ((item : Item) × (after : List Item) × (e : Observation KeyParts) × (found.rest ≡ item ∷ after) × Sees found.front item e × HasTrouble p found.front e (LogFault number reason))
          → CannotBeRead input number reason
      with_last found (inl (none, is)) = at_end end says found none is
      with_last found (inr (item, after, e, rest, sees, trouble)) = absurd trouble

      -- where the rest of the log ends in a log fault after a front that goes well, the input cannot be read from this entry on
      by : Ends p [] items end (LogFault number reason) → CannotBeRead input number reason
      by found = with_last found found.last
