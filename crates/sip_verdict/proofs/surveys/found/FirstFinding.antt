-- The verdict of an input is the first finding of its survey.
-- In the lemmas k is the number of an entry or of a key, t the number of a transaction, a a fault, g a finding, and zs what stands between two places.
use Rattle.std.proofs.Common.{◌≡◌, ◌≤◌, ◌⊎◌, inl, inr, ℕ, Some, None, List, [], ◌∷◌, ◌++◌, All, AllPairs, Contains, length, refl, sym, ap, ap₂, ◌∙◌, subst, arith, length-append}
use Rattle.sip_standard.specs.Key.{KeyParts}
use Rattle.sip_standard.specs.Times.{Times}
use Rattle.sip_standard.specs.LogEntry.{Item}
use Rattle.sip_standard.specs.LogSays.{LogEnd, Clean, Stops}
use Rattle.sip_standard.specs.declared.fault.Fault.{Fault}
use Rattle.sip_states.proofs.lists.Listed.{Contains-none, Contains-here, Contains-cons}
use Rattle.sip_verdict.specs.declared.finding.Finding.{Finding}
use Rattle.sip_verdict.specs.declared.finding.Finding.TheVariants.{Malformed, Breach, Undecided}
use Rattle.sip_verdict.specs.declared.survey_end.SurveyEnd.{SurveyEnd}
use Rattle.sip_standard.specs.declared.verdict.Verdict.{Verdict}
use Rattle.sip_standard.specs.declared.verdict.Verdict.TheVariants as verdicts
use Rattle.sip_standard.specs.Observation.{Observation}
use Rattle.sip_standard.specs.VerdictOf.{keys_in, RunsOver, IsWideAt, IsFirstKey, HasTrouble, IsVerdictAfter, IsVerdictOf}
use Rattle.sip_verdict.specs.SurveyOf.{Breaks, Widens, HoldsOf, Precedes, AreFoundAt, IsSurveyAfter, IsSurveyOf, verdict_of, verdict_in}
use Rattle.sip_verdict.proofs.verdicts.Unique.{All-middle}
use Rattle.sip_verdict.proofs.keys.Splitting.{split_compare}
use Rattle.sip_verdict.proofs.verdicts.MessageUnique.{observes_one}
use Rattle.sip_verdict.proofs.surveys.found.Ordered.{first_before}
use Rattle.sip_verdict.proofs.surveys.found.OneSurvey.{says_same}
use Rattle.sip_verdict.proofs.surveys.found.Sound.{AllSound, sound_nil, all_sound_push}

-- where P holds of each key of which Q does, the first key of which P holds has no larger number than a key of which Q holds
first_least : (P Q : KeyParts → Type 0) (keys : List KeyParts) (n k : ℕ) → IsFirstKey P keys n → HoldsOf Q keys k → ((key : KeyParts) → Q key → P key) → n ≤ k
first_least P Q keys n k (before, key, rest, is, holds, earlier, counts) (front, other, more, are, has, number) sub =
    by (split_compare before rest front more key other (sym is ∙ are))
  where
    -- n is at most k, since the first key of which P holds does not stand after the other
    -- the two keys are one, or the first stands before the other; it does not stand after it, since P holds of no key before the first
    by : ((before ≡ front) × (key ≡ other)) ⊎ (((zs : List KeyParts) × (front ≡ before ++ key ∷ zs)) ⊎ ((zs : List KeyParts) × (before ≡ front ++ other ∷ zs))) → n ≤ k
    by (inl h) = let same : length before ≡ length front = ap length h.0 in omega (arith, counts, number, same)
    by (inr (inl h)) = omega (arith, counts, number, simp length-append at (ap length h.1))
    by (inr (inr h)) = absurd (All-middle (λ x. ¬ (P x)) front h.0 other (subst (All (λ x. ¬ (P x))) h.1 earlier) (sub other has))

-- no key with a number satisfies Q, where all keys satisfy P and none satisfies both
found_none : (P Q : KeyParts → Type 0) (keys : List KeyParts) (k : ℕ) → HoldsOf Q keys k → All P keys → ((key : KeyParts) → Q key → P key → ⊥) → ⊥
found_none P Q keys k (front, key, rest, is, has, number) all not = not key has (All-middle P front rest key (subst (All P) is all))

-- What follows is of the entry e after the entries es by the times p, and `here`, what a survey finds at it.
module _ (p : Times) (es : List (Observation KeyParts)) (e : Observation KeyParts) (here : List Finding) (at : AreFoundAt p es e here) where
  -- the keys of the entries and e
  abbrev keys : List KeyParts
  keys = keys_in (es ++ e ∷ [])

  -- a finding before which no other comes is the verdict in the list of findings
  least_first : (f : Finding) → Contains here f → ((g : Finding) → Contains here g → Precedes g f → ⊥) → (later : List Finding) (end : SurveyEnd) → verdict_in (here ++ later) end ≡ verdict_of f
  least_first f has least later end = by here at.0 has least
    where
      -- the first finding of the list is f, since none precedes f
      by : (found : List Finding) → AllPairs Precedes found → Contains found f → ((g : Finding) → Contains found g → Precedes g f → ⊥) → verdict_in (found ++ later) end ≡ verdict_of f
      by [] sorted h none = absurd (Contains-none f h)
      by (g ∷ found) sorted h none = go (Contains-cons g found f h)
        where
          -- g has the same verdict as f, for it is the first of the list too, or a later one that would precede f
          go : (g ≡ f) ⊎ Contains found f → verdict_of g ≡ verdict_of f
          go (inl same) = ap verdict_of same
          go (inr rest) = absurd (none g (Contains-here g found) (first_before Precedes g found sorted f rest))

  -- no fault is found at an entry whose message has none
  formed_none : (k : ℕ) (a : Fault) → e.fault ≡ None → Contains here (Malformed k a) → ⊥
  formed_none k a formed h = let both : None ≡ Some a = sym formed ∙ ((at.1 (Malformed k a)).0 h).1 in cc

  -- no breach is found where each key has a run
  whole_none : All (RunsOver p (es ++ e ∷ [])) keys → (k t : ℕ) → Contains here (Breach k t) → ⊥
  whole_none runs k t h = found_none (RunsOver p (es ++ e ∷ [])) (Breaks p es e) keys t ((at.1 (Breach k t)).0 h).1 runs (λ key breaks run. breaks.1 run)

  -- nothing comes before a fault
  before_fault : (k : ℕ) (a : Fault) (g : Finding) → Precedes g (Malformed k a) → ⊥
  before_fault k a (Malformed m b) low = low
  before_fault k a (Breach m t) low = low
  before_fault k a (Undecided m t) low = low

  -- nothing comes before the breach of the first key without a run
  -- k is the entry and t the number of the transaction that breaks, and g any other finding
  -- a fault would precede it, but there is none; what is undecided precedes no breach; another breach has no smaller number
  before_breach : e.fault ≡ None → (k t : ℕ) → IsFirstKey (λ key. ¬ (RunsOver p (es ++ e ∷ []) key)) keys t → (g : Finding) → Contains here g → Precedes g (Breach k t) → ⊥
  before_breach formed k t first (Malformed m a) h low = formed_none m a formed h
  before_breach formed k t first (Undecided m u) h low = low
  before_breach formed k t first (Breach m u) h low =
      let least = first_least (λ key. ¬ (RunsOver p (es ++ e ∷ []) key)) (Breaks p es e) keys t u first ((at.1 (Breach m u)).0 h).1 (λ key breaks. breaks.1) in omega (arith, least, low)

  -- nothing comes before the finding that the first key which is too wide is followed no further, where each key has a run
  -- k is the entry and t the number of the transaction that is too wide, and g any other finding
  -- there is neither a fault nor a breach, and another one that is undecided has no smaller number
  before_wide : e.fault ≡ None → All (RunsOver p (es ++ e ∷ [])) keys → (k t : ℕ) → IsFirstKey (IsWideAt p es e) keys t → (g : Finding) → Contains here g → Precedes g (Undecided k t) → ⊥
  before_wide formed runs k t first (Malformed m a) h low = formed_none m a formed h
  before_wide formed runs k t first (Breach m u) h low = whole_none runs m u h
  before_wide formed runs k t first (Undecided m u) h low =
      let least = first_least (IsWideAt p es e) (Widens p es e) keys t u first ((at.1 (Undecided m u)).0 h).1 (λ key widens. widens.1) in omega (arith, least, low)

  -- where an entry is the first in trouble, its verdict is the first finding there
  -- a legal log and a fault of the log are no trouble at an entry
  trouble_first : AllSound p es → (v : Verdict) → HasTrouble p es e v → (later : List Finding) (end : SurveyEnd) → v ≡ verdict_in (here ++ later) end
  trouble_first sound (verdicts.Legal n t) trouble later end = absurd trouble
  trouble_first sound (verdicts.LogFault n r) trouble later end = absurd trouble
  trouble_first sound (verdicts.Malformed n a) trouble later end =
      sym (least_first (Malformed n a) ((at.1 (Malformed n a)).1 trouble) (λ g h. before_fault n a g) later end)
  trouble_first sound (verdicts.Breach n t) (is, formed, first) later end = sym (least_first (Breach n t) (has first) (before_breach formed n t first) later end)
    where
      -- the breach of the first key without a run is found
      has : IsFirstKey (λ key. ¬ (RunsOver p (es ++ e ∷ []) key)) keys t → Contains here (Breach n t)
      has (before, key, rest, are, without, earlier, counts) = (at.1 (Breach n t)).1 (is, (before, key, rest, are, (sound key, without), counts))
  trouble_first sound (verdicts.Undecided n t) (is, formed, runs, first) later end = sym (least_first (Undecided n t) (has first) (before_wide formed runs n t first) later end)
    where
      -- the first key that is too wide is found
      has : IsFirstKey (IsWideAt p es e) keys t → Contains here (Undecided n t)
      has (before, key, rest, are, wide, earlier, counts) = (at.1 (Undecided n t)).1 (is, (before, key, rest, are, (sound key, wide), counts))

  -- nothing is found at an entry in no trouble
  fine_none : e.fault ≡ None → All (RunsOver p (es ++ e ∷ [])) keys → All (λ key. ¬ (IsWideAt p es e key)) keys → here ≡ []
  fine_none formed runs narrow = by here at
    where
      -- there is no finding of any kind
      none : (f : Finding) → Contains here f → ⊥
      none (Malformed k a) h = formed_none k a formed h
      none (Breach k t) h = whole_none runs k t h
      none (Undecided k t) h = found_none (λ key. ¬ (IsWideAt p es e key)) (Widens p es e) keys t ((at.1 (Undecided k t)).0 h).1 narrow (λ key widens not. not widens.1)

      -- there is no finding, since each is of some trouble
      by : (found : List Finding) → AreFoundAt p es e found → found ≡ []
      by [] found = refl
      by (f ∷ found) is = absurd (none f ((at.1 f).1 ((is.1 f).0 (Contains-here f found))))

-- a verdict after entries without trouble is the one in their survey
verdict_after : (p : Times) (es : List (Observation KeyParts)) (items : List Item) (close : LogEnd) (v : Verdict) (found : List Finding) (end : SurveyEnd) → AllSound p es →
    IsVerdictAfter p es items close v → IsSurveyAfter p es items close found end → v ≡ verdict_in found end
-- no item is left: nothing is found, and both tell how the log ends
verdict_after p es [] Clean v found end sound a b = a ∙ sym (ap₂ verdict_in b.0 b.1)
verdict_after p es [] (Stops fault) v found end sound a b = a ∙ sym (ap₂ verdict_in b.0 b.1)
-- the next item is in trouble, so its first finding is the verdict
verdict_after p es (item ∷ items) close v found end sound (e, sees, inl trouble) (f, here, later, saw, is, at, more) =
    let same : f ≡ e = observes_one es item f e saw sees in
    trouble_first p es e here (subst (λ g. AreFoundAt p es g here) same at) sound v trouble later end ∙ ap (λ fs. verdict_in fs end) (sym is)
-- the next item is in no trouble, so nothing is found at it
verdict_after p es (item ∷ items) close v found end sound (e, sees, inr (fine, left)) (f, here, later, saw, is, at, more) =
    let same : f ≡ e = observes_one es item f e saw sees in
    let none : here ≡ [] = fine_none p es e here (subst (λ g. AreFoundAt p es g here) same at) fine.formed fine.runs fine.narrow in
    verdict_after p (es ++ e ∷ []) items close v later end (all_sound_push p es e sound fine.runs fine.narrow) left (subst (λ g. IsSurveyAfter p (es ++ g ∷ []) items close later end) same more)
    ∙ ap (λ fs. verdict_in fs end) (sym (is ∙ ap (λ hs. hs ++ later) none))

-- a verdict of an input is the one in its survey
-- the input has no header by both, or it has one by both, and then both are of the same log
pub verdict_is_in : (input : List ℕ) (v : Verdict) (found : List Finding) (end : SurveyEnd) → IsVerdictOf input v → IsSurveyOf input found end → v ≡ verdict_in found end
verdict_is_in input v found end (inl a) (inl b) = a.1 ∙ sym (ap₂ verdict_in b.1 b.2)
verdict_is_in input v found end (inl a) (inr (p, items, close, says, is)) = absurd (a.0 says.format p _ says.header)
verdict_is_in input v found end (inr (p, items, close, says, is)) (inl b) = absurd (b.0 says.format p _ says.header)
verdict_is_in input v found end (inr (p, items, close, says, is)) (inr (q, others, fin, say, are)) =
    verdict_after p [] items close v found end (sound_nil p) is (says_same (λ r xs a. IsSurveyAfter r [] xs a found end) input p q items others close fin says say are)
