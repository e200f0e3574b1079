-- Each transaction in trouble is named by a finding.
use Rattle.std.proofs.Common.{◌≡◌, ◌+◌, ◌⊎◌, inl, inr, ℕ, zero, suc, Bool, true, false, List, [], ◌∷◌, ◌++◌, Contains, length, refl, sym, ap, ◌∙◌, subst, arith, append_assoc, append-nil}
use Rattle.std.specs.List.{list_any}
use Rattle.std.proofs.lemmas.List.Elements.{Contains-append_left, Contains-append_right, Contains-append_cases}
use Rattle.sip_states.proofs.lists.Listed.{Contains-none}
use Rattle.sip_standard.specs.Key.{KeyParts, same_key}
use Rattle.sip_standard.specs.Times.{Times}
use Rattle.sip_standard.specs.LogEntry.{Item}
use Rattle.sip_standard.specs.LogSays.{LogEnd, Clean, Stops}
use Rattle.sip_verdict.specs.declared.finding.Finding.{Finding}
use Rattle.sip_verdict.specs.declared.finding.Finding.TheVariants.{Breach, Undecided}
use Rattle.sip_verdict.specs.declared.survey_end.SurveyEnd.{SurveyEnd}
use Rattle.sip_standard.specs.Observation.{Observation}
use Rattle.sip_standard.specs.Seen.{AreSeen}
use Rattle.sip_standard.specs.VerdictOf.{keys_in, RunsOver}
use Rattle.sip_verdict.specs.SurveyOf.{IsSound, Breaks, Widens, HoldsOf, IsFoundAt, IsSurveyAfter}
use Rattle.sip_verdict.specs.SurveyLaws.{AreAbout}
use Rattle.sip_verdict.proofs.keys.Keys.{among-contains, new_key}
use Rattle.sip_verdict.proofs.verdicts.MessageUnique.{observes_one}
use Rattle.sip_verdict.proofs.surveys.found.OneFinding.{some_finding}
use Rattle.sip_verdict.proofs.surveys.found.Sound.{idle_runs, concerned-among}

-- an element that a list contains stands at some place of it
split_at : {A : Type 0} (xs : List A) (x : A) → Contains xs x → (before : List A) × (rest : List A) × (xs ≡ before ++ x ∷ rest)
split_at [] x (k, low, is) = absurd (omega (arith, low))
split_at (y ∷ ys) x (zero, low, is) = ([], ys, ap (λ z. z ∷ ys) is)
split_at (y ∷ ys) x (suc k, low, is) = let more = split_at ys x (k, omega (arith, low), is) in (y ∷ more.0, more.1, ap (λ zs. y ∷ zs) more.2)

-- where P holds of a key among the keys, it holds of the key with some number
pub numbered : (P : KeyParts → Type 0) (keys : List KeyParts) (key : KeyParts) → Contains keys key → P key → (n : ℕ) × HoldsOf (λ k. k ≡ key) keys n × HoldsOf P keys n
numbered P keys key among holds =
    let at = split_at keys key among in (length at.0 + 1, (at.0, key, at.1, at.2, refl, refl), (at.0, key, at.1, at.2, holds, refl))

-- what is found at an entry of the log is a finding of its survey
pub found_at : (p : Times) (done : List (Observation KeyParts)) (items : List Item) (close : LogEnd) (es : List (Observation KeyParts)) (found : List Finding) (end : SurveyEnd) → AreSeen done items es →
    IsSurveyAfter p done items close found end → (front : List (Observation KeyParts)) (e : Observation KeyParts) (more : List (Observation KeyParts)) → es ≡ front ++ e ∷ more → (f : Finding) →
    IsFoundAt p (done ++ front) e f → Contains found f
-- there are as many entries as items, and at least one, since the list is split at e
found_at p done [] close [] found end seen survey [] e more is f at = absurd (cc)
found_at p done [] close [] found end seen survey (g ∷ front) e more is f at = absurd (cc)
found_at p done [] close (g ∷ es) found end seen survey front e more is f at = absurd seen
found_at p done (item ∷ items) close [] found end seen survey front e more is f at = absurd seen
-- the finding's entry is that of the next item
found_at p done (item ∷ items) close (g ∷ es) found end (sees, seen) (h, here, later, saw, whole, are, rest) [] e more is f at =
    let same : g ≡ e = cc in
    let known : h ≡ e = observes_one done item h g saw sees ∙ same in
    let mine : IsFoundAt p done h f = subst (λ x. IsFoundAt p done x f) (sym known) (subst (λ xs. IsFoundAt p xs e f) (append-nil done) at) in
    subst (λ xs. Contains xs f) (sym whole) (Contains-append_left here later f ((are.1 f).1 mine))
-- the finding's entry is that of a later item
found_at p done (item ∷ items) close (g ∷ es) found end (sees, seen) (h, here, later, saw, whole, are, rest) (d ∷ front) e more is f at =
    -- g is d, the first of the entries before e, and h is the same; so e is among the later entries, of which the rest of the survey has found f
    let first : g ≡ d = cc in
    let others : es ≡ front ++ e ∷ more = cc in
    let known : h ≡ g = observes_one done item h g saw sees in
    subst (λ xs. Contains xs f) (sym whole) (Contains-append_right here later f
    (found_at p (done ++ g ∷ []) items close es later end seen (subst (λ x. IsSurveyAfter p (done ++ x ∷ []) items close later end) known rest) front e more others f
    (subst (λ xs. IsFoundAt p xs e f) (sym (append_assoc done (g ∷ []) front)) (subst (λ x. IsFoundAt p (done ++ x ∷ front) e f) (sym first) at))))

-- each finding of the survey is found at an entry of the log
pub found_is : (p : Times) (done : List (Observation KeyParts)) (items : List Item) (close : LogEnd) (es : List (Observation KeyParts)) (found : List Finding) (end : SurveyEnd) → AreSeen done items es →
    IsSurveyAfter p done items close found end → (f : Finding) → Contains found f → (front : List (Observation KeyParts)) × (e : Observation KeyParts) × (more : List (Observation KeyParts)) × (es ≡ front ++ e ∷ more)
    × IsFoundAt p (done ++ front) e f
-- no item is left, and nothing is found
found_is p done [] Clean es found end seen survey f has = absurd (Contains-none f (subst (λ fs. Contains fs f) survey.0 has))
found_is p done [] (Stops fault) es found end seen survey f has = absurd (Contains-none f (subst (λ fs. Contains fs f) survey.0 has))
-- each item has its entry
found_is p done (item ∷ items) close [] found end seen survey f has = absurd seen
-- the finding is found at the entry of the next item, or of a later one
found_is p done (item ∷ items) close (g ∷ es) found end (sees, seen) (h, here, later, saw, whole, are, rest) f has =
    by (Contains-append_cases here later f (subst (λ fs. Contains fs f) whole has)) (found_is p (done ++ g ∷ []) items close es later end seen (subst (λ x. IsSurveyAfter p (done ++ x ∷ []) items close later end) known rest) f)
  where
    -- what is seen of the item is the same both times
    known : h ≡ g
    known = observes_one done item h g saw sees

    -- the finding belongs to one of the later entries
    FoundLater : Type 0
    FoundLater = (front : List (Observation KeyParts)) × (e : Observation KeyParts) × (more : List (Observation KeyParts)) × (es ≡ front ++ e ∷ more) × IsFoundAt p ((done ++ g ∷ []) ++ front) e f

    -- the finding f is found at some entry: at the next one, or at a later one
    by : Contains here f ⊎ Contains later f → (Contains later f → FoundLater)
        → (front : List (Observation KeyParts)) × (e : Observation KeyParts) × (more : List (Observation KeyParts)) × (g ∷ es ≡ front ++ e ∷ more) × IsFoundAt p (done ++ front) e f
    by (inl c) more = ([], g, es, refl, subst (λ xs. IsFoundAt p xs g f) (sym (append-nil done)) (subst (λ x. IsFoundAt p done x f) known ((are.1 f).0 c)))
    by (inr c) more = let (front, e, left, is, at) = more c in (g ∷ front, e, left, ap (λ xs. g ∷ xs) is, subst (λ xs. IsFoundAt p xs e f) (append_assoc done (g ∷ []) front) at)

-- a transaction without a run after an entry is among the transactions so far
pub breaks_known : (p : Times) (front : List (Observation KeyParts)) (e : Observation KeyParts) (key : KeyParts) → ¬ (RunsOver p (front ++ e ∷ []) key) → Contains (keys_in (front ++ e ∷ [])) key
breaks_known p front e key none = by (list_any (same_key key) (keys_in (front ++ e ∷ []))) refl
  where
    -- the key is among the keys, since a new key has a run
    by : (b : Bool) → list_any (same_key key) (keys_in (front ++ e ∷ [])) ≡ b → Contains (keys_in (front ++ e ∷ [])) key
    by true is = among-contains key (keys_in (front ++ e ∷ [])) is
    by false is = absurd (none (idle_runs p (front ++ e ∷ []) key (new_key key (front ++ e ∷ []) is)))

-- it cannot be that no finding of the survey names a transaction that is in trouble
pub trouble_is_named : (p : Times) (items : List Item) (close : LogEnd) (es : List (Observation KeyParts)) (found : List Finding) (end : SurveyEnd) → AreSeen [] items es
    → IsSurveyAfter p [] items close found end → (key : KeyParts) → ¬ (IsSound p es key) → ¬ (¬ (AreAbout es found key))
trouble_is_named p items close es found end seen survey key unsound never = some_finding p key es unsound by
  where
    -- no trouble of the transaction begins at an entry, since a finding would name it
    by : (front : List (Observation KeyParts)) (e : Observation KeyParts) (more : List (Observation KeyParts)) → es ≡ front ++ e ∷ more → ¬ (Breaks p front e key ⊎ Widens p front e key)
    -- the key breaks at an entry, so its number is found there
    by front e more is (inl breaks) =
        let (n, named, at) = numbered (Breaks p front e) (keys_in (front ++ e ∷ [])) key (breaks_known p front e key breaks.1) breaks in
        never (length front + 1, inl (front, e, more, n, is, refl, named, found_at p [] items close es found end seen survey front e more is (Breach (length front + 1) n) (refl, at)))
    by front e more is (inr widens) =
        -- the key is too wide at an entry, so its number is found there
        let (n, named, at) = numbered (Widens p front e) (keys_in (front ++ e ∷ [])) key (concerned-among key front e widens.1.0) widens in
        never (length front + 1, inr (front, e, more, n, is, refl, named, found_at p [] items close es found end seen survey front e more is (Undecided (length front + 1) n) (refl, at)))
