-- A survey names a transaction once.
-- In the lemmas f and g are two findings, t, u and v numbers of transactions, k a key, and zs what a list has more than another.
use Rattle.std.proofs.Common.{◌≡◌, ◌≤◌, ◌⊎◌, inl, inr, ℕ, Bool, true, false, cond, List, [], ◌∷◌, ◌++◌, All, AllPairs, Contains, sym, ap, ap₂, ◌∙◌, subst, arith, append_assoc, append-nil}
use Rattle.std.specs.Prelude.{fold, flat_map}
use Rattle.std.specs.List.{list_any}
use Rattle.std.proofs.lemmas.List.Elements.{All-nil, All-cons, All-weaker}
use Rattle.std.proofs.lemmas.List.Kept.{AllPairs-cons}
use Rattle.std.proofs.lemmas.List.Sums.{fold-append}
use Rattle.std.proofs.lemmas.Grind.{flat_map-append}
use Rattle.sip_standard.specs.Key.{KeyParts, same_key}
use Rattle.sip_standard.specs.Times.{Times}
use Rattle.sip_phases.proofs.debts.DebtLaws.{All-front}
use Rattle.sip_standard.specs.declared.format.Format.{Format}
use Rattle.sip_standard.specs.LogEntry.{Item, InOrder}
use Rattle.sip_standard.specs.LogSays.{LogEnd}
use Rattle.sip_standard.proofs.Few.{AllPairs-head, AllPairs-tail}
use Rattle.sip_states.proofs.lists.Listed.{Contains-none}
use Rattle.sip_verdict.specs.declared.finding.Finding.{Finding}
use Rattle.sip_verdict.specs.declared.finding.Finding.TheVariants.{Malformed, Breach, Undecided}
use Rattle.sip_verdict.specs.declared.survey_end.SurveyEnd.{SurveyEnd}
use Rattle.sip_standard.specs.Observation.{Observation}
use Rattle.sip_standard.specs.Seen.{AreSeen}
use Rattle.sip_verdict.specs.inner.Keyed.{with_key}
use Rattle.sip_standard.specs.VerdictOf.{keys_in}
use Rattle.sip_verdict.specs.SurveyOf.{Breaks, Widens, HoldsOf, IsFoundAt, IsSurveyAfter, IsSurveyOf}
use Rattle.sip_verdict.specs.SurveyLaws.{IsFindingOf}
use Rattle.sip_verdict.proofs.keys.Splitting.{split_compare}
use Rattle.sip_verdict.proofs.surveys.parts.CutLogs.{seen_moment}
use Rattle.sip_verdict.proofs.surveys.found.Named.{found_is}
use Rattle.sip_verdict.proofs.surveys.found.Numbers.{same_place}
use Rattle.sip_verdict.proofs.surveys.found.OneFinding.{one_finding}
use Rattle.sip_verdict.proofs.surveys.passing.Wide.{wide_runs}

-- where two lists together are in order, the first is in order
pub ordered_front : {A : Type 0} (R : A → A → Type 0) (xs ys : List A) → AllPairs R (xs ++ ys) → AllPairs R xs
ordered_front R [] ys sorted = λ i j d low high. absurd (omega (arith, high))
ordered_front R (x ∷ xs) ys sorted =
    AllPairs-cons R x xs (All-front (R x) xs ys (AllPairs-head R x (xs ++ ys) sorted)) (ordered_front R xs ys (AllPairs-tail R x (xs ++ ys) sorted))

-- the entries that are observed of a log are in the order of their moments
pub observed_order : (format : Format) (last : ℕ) (done : List (Observation KeyParts)) (items : List Item) (es : List (Observation KeyParts)) → InOrder format last items → AreSeen done items es
    → All (λ e. last ≤ e.event.moment) es × AllPairs (λ a b. a.event.moment ≤ b.event.moment) es
observed_order format last done [] [] order seen = (All-nil (λ e. last ≤ e.event.moment), λ i j d low high. absurd (omega (arith, high)))
-- each item has its entry, so that neither list is longer
observed_order format last done [] (e ∷ es) order seen = absurd seen
observed_order format last done (item ∷ items) [] order seen = absurd seen
-- the next entry has the moment of its item, and the later ones come after it
observed_order format last done (item ∷ items) (e ∷ es) (low, entry, order) (sees, seen) =
    let at : e.event.moment ≡ item.moment = seen_moment done item e item.action sees in
    let (later, sorted) = observed_order format item.moment (done ++ e ∷ []) items es order seen in (
      All-cons (λ f. last ≤ f.event.moment) e es (omega (arith, low, at)) (All-weaker (λ f. item.moment ≤ f.event.moment) (λ f. last ≤ f.event.moment) (λ f late. omega (arith, low, late)) es later),
      AllPairs-cons (λ a b. a.event.moment ≤ b.event.moment) e es (All-weaker (λ f. item.moment ≤ f.event.moment) (λ f. e.event.moment ≤ f.event.moment) (λ f late. omega (arith, at, late)) es later) sorted,
    )

-- a survey has entries that are observed of its items
-- no item is left, and so no entry; else the survey says what is observed of the next item, and a survey of the rest follows
survey_observed : (p : Times) (done : List (Observation KeyParts)) (items : List Item) (close : LogEnd) (found : List Finding) (end : SurveyEnd) → IsSurveyAfter p done items close found end
    → (es : List (Observation KeyParts)) × AreSeen done items es
survey_observed p done [] close found end survey = ([], tt)
survey_observed p done (item ∷ items) close found end (e, here, later, sees, whole, at, more) =
    let rest = survey_observed p (done ++ e ∷ []) items close later end more in (e ∷ rest.0, (sees, rest.1))

-- keys keep their places when other keys are added
keys_after : (keys more : List KeyParts) → (zs : List KeyParts) × (fold with_key keys more ≡ keys ++ zs)
keys_after keys [] = ([], sym (append-nil keys))
keys_after keys (k ∷ more) = by (list_any (same_key k) keys) (keys_after (cond (list_any (same_key k) keys) keys (keys ++ k ∷ [])) more)
  where
    -- the keys stand first in those with more, whether or not k is one of them
    -- a key that is there adds none, and a new one comes first of those that are added
    by : (b : Bool) → ((zs : List KeyParts) × (fold with_key (cond b keys (keys ++ k ∷ [])) more ≡ cond b keys (keys ++ k ∷ []) ++ zs))
        → (zs : List KeyParts) × (fold with_key (cond b keys (keys ++ k ∷ [])) more ≡ keys ++ zs)
    by true rest = rest
    by false rest = (k ∷ rest.0, rest.1 ∙ append_assoc keys (k ∷ []) rest.0)

-- keys of entries keep their places when more entries come
pub keys_more : (front more : List (Observation KeyParts)) → (zs : List KeyParts) × (keys_in (front ++ more) ≡ keys_in front ++ zs)
keys_more front more =
    let after = keys_after (keys_in front) (flat_map (λ e. e.keys) more) in (
      after.0,
      ap (fold with_key []) (flat_map-append (λ e. e.keys) front more) ∙ fold-append with_key [] (flat_map (λ e. e.keys) front) (flat_map (λ e. e.keys) more) ∙ after.1,
    )

-- where P and Q hold of the key with one number, before and after more keys came, they hold of one key
of_one_number : (P Q : KeyParts → Type 0) (keys more : List KeyParts) (n : ℕ) → HoldsOf P keys n → HoldsOf Q (keys ++ more) n → (key : KeyParts) × P key × Q key
of_one_number P Q keys more n (before, key, rest, are, holds, number) other =
    (key, holds, same_place Q (keys ++ more) before key (rest ++ more) n (ap (λ ks. ks ++ more) are ∙ append_assoc before (key ∷ rest) more) other number)

-- the key breaks at the entry, or is followed no further
abbrev IsTroubled : Times → List (Observation KeyParts) → Observation KeyParts → KeyParts → Type 0
IsTroubled p front e key = Breaks p front e key ⊎ Widens p front e key

-- a finding of a transaction at the entry e says that the key with its number breaks there or is followed no further
troubled : (p : Times) (front : List (Observation KeyParts)) (e : Observation KeyParts) (t : ℕ) (f : Finding) → IsFindingOf t f → IsFoundAt p front e f → HoldsOf (IsTroubled p front e) (keys_in (front ++ e ∷ [])) t
troubled p front e t (Malformed n a) is found = absurd is
-- the number in the finding is t, so that what is found of its key is of the key with the number t
troubled p front e t (Breach n u) is (at, (before, key, rest, are, breaks, number)) = (before, key, rest, are, inl breaks, sym is ∙ number)
troubled p front e t (Undecided n u) is (at, (before, key, rest, are, widens, number)) = (before, key, rest, are, inr widens, sym is ∙ number)

-- What follows is of the transaction with the number t over the entries es in the order of their moments, by the times p.
module _ (p : Times) (es : List (Observation KeyParts)) (order : AllPairs (λ a b. a.event.moment ≤ b.event.moment) es) (t : ℕ) where
  -- a transaction that comes into trouble at an entry does not come into it at a later one
  not_later : (front : List (Observation KeyParts)) (e : Observation KeyParts) (zs : List (Observation KeyParts)) (last : Observation KeyParts) (more : List (Observation KeyParts)) → es ≡ (front ++ e ∷ zs) ++ last ∷ more
      → HoldsOf (IsTroubled p front e) (keys_in (front ++ e ∷ [])) t → HoldsOf (IsTroubled p (front ++ e ∷ zs) last) (keys_in ((front ++ e ∷ zs) ++ last ∷ [])) t → ⊥
  not_later front e zs last more is first second =
      -- ks are the keys that come after the first entry, so that the number t is that of one key at both entries (`both`)
      let (ks, are) = keys_more (front ++ e ∷ []) (zs ++ last ∷ []) in
      let one : (front ++ e ∷ []) ++ (zs ++ last ∷ []) ≡ (front ++ e ∷ zs) ++ last ∷ [] =
      append_assoc front (e ∷ []) (zs ++ last ∷ []) ∙ sym (append_assoc front (e ∷ zs) (last ∷ [])) in
      let both = of_one_number (IsTroubled p front e) (IsTroubled p (front ++ e ∷ zs) last) (keys_in (front ++ e ∷ [])) ks t first
      (subst (λ keys. HoldsOf (IsTroubled p (front ++ e ∷ zs) last) keys t) (sym (ap keys_in one) ∙ are) second) in
      -- that key would come into trouble twice
      one_finding p both.0 front e zs last
      (ordered_front (λ a b. a.event.moment ≤ b.event.moment) (front ++ e ∷ zs) (last ∷ more) (subst (AllPairs (λ a b. a.event.moment ≤ b.event.moment)) is order)) both.1 both.2

  -- a transaction that breaks at an entry is not one that is followed no further from it
  not_both : (front : List (Observation KeyParts)) (e : Observation KeyParts) (u v : ℕ) → u ≡ v → HoldsOf (Breaks p front e) (keys_in (front ++ e ∷ [])) u → HoldsOf (Widens p front e) (keys_in (front ++ e ∷ [])) v → ⊥
  not_both front e u v same (before, key, rest, are, breaks, number) wide =
      breaks.1 (wide_runs p front e key (same_place (Widens p front e) (keys_in (front ++ e ∷ [])) before key rest v are wide (sym same ∙ number)).1)

  -- two findings of one transaction at one entry are the same
  alike : (front : List (Observation KeyParts)) (e : Observation KeyParts) (f g : Finding) → IsFindingOf t f → IsFindingOf t g → IsFoundAt p front e f → IsFoundAt p front e g → f ≡ g
  -- a fault names no transaction
  alike front e (Malformed n a) g is so found other = absurd is
  alike front e (Breach n u) (Malformed k a) is so found other = absurd so
  alike front e (Undecided n u) (Malformed k a) is so found other = absurd so
  -- two breaches, or two undecided transactions, name one entry (n and k) and one transaction (u and v)
  alike front e (Breach n u) (Breach k v) is so found other = ap₂ (λ m w. Breach m w) (found.0 ∙ sym other.0) (is ∙ sym so)
  alike front e (Undecided n u) (Undecided k v) is so found other = ap₂ (λ m w. Undecided m w) (found.0 ∙ sym other.0) (is ∙ sym so)
  -- no transaction both breaks and is undecided at one entry
  alike front e (Breach n u) (Undecided k v) is so found other = absurd (not_both front e u v (is ∙ sym so) found.1 other.1)
  alike front e (Undecided n u) (Breach k v) is so found other = absurd (not_both front e v u (so ∙ sym is) other.1 found.1)

  -- two findings of one transaction in a log in order are the same
  pub one_of : (f g : Finding) → IsFindingOf t f → IsFindingOf t g
      → ((front : List (Observation KeyParts)) × (e : Observation KeyParts) × (more : List (Observation KeyParts)) × (es ≡ front ++ e ∷ more) × IsFoundAt p front e f)
      → ((front : List (Observation KeyParts)) × (e : Observation KeyParts) × (more : List (Observation KeyParts)) × (es ≡ front ++ e ∷ more) × IsFoundAt p front e g) → f ≡ g
  one_of f g is so (front, e, more, split, found) (back, c, others, cut, other) = by (split_compare front more back others e c (sym split ∙ cut))
    where
      -- the transaction comes into trouble at the first finding's entry
      first : HoldsOf (IsTroubled p front e) (keys_in (front ++ e ∷ [])) t
      first = troubled p front e t f is found

      -- the transaction comes into trouble at the second finding's entry
      second : HoldsOf (IsTroubled p back c) (keys_in (back ++ c ∷ [])) t
      second = troubled p back c t g so other

      -- the two findings are the same: their entries are the same, and neither comes before the other
      by : ((front ≡ back) × (e ≡ c)) ⊎ (((zs : List (Observation KeyParts)) × (back ≡ front ++ e ∷ zs)) ⊎ ((zs : List (Observation KeyParts)) × (front ≡ back ++ c ∷ zs))) → f ≡ g
      by (inl h) = alike front e f g is so found (subst (λ xs. IsFoundAt p xs e g) (sym h.0) (subst (λ x. IsFoundAt p back x g) (sym h.1) other))
      by (inr (inl h)) =
          absurd (not_later front e h.0 c others (cut ∙ ap (λ xs. xs ++ c ∷ others) h.1) first (subst (λ xs. HoldsOf (IsTroubled p xs c) (keys_in (xs ++ c ∷ [])) t) h.1 second))
      by (inr (inr h)) =
          absurd (not_later back c h.0 e more (split ∙ ap (λ xs. xs ++ e ∷ more) h.1) second (subst (λ xs. HoldsOf (IsTroubled p xs e) (keys_in (xs ++ e ∷ [])) t) h.1 first))

-- two findings of one transaction in a survey are the same
pub named_once : (input : List ℕ) (found : List Finding) (end : SurveyEnd) → IsSurveyOf input found end → (t : ℕ) (f g : Finding) → Contains found f → Contains found g → IsFindingOf t f → IsFindingOf t g → f ≡ g
-- without a header nothing is found
named_once input found end (inl lacks) t f g has also is so = absurd (Contains-none f (subst (λ fs. Contains fs f) lacks.1 has))
-- else both findings are found at entries of the log, which are in order
named_once input found end (inr (p, items, close, says, survey)) t f g has also is so =
    let (es, seen) = survey_observed p [] items close found end survey in
    let order = (observed_order says.format 0 [] items es says.order seen).1 in
    one_of p es order t f g is so (found_is p [] items close es found end seen survey f has) (found_is p [] items close es found end seen survey g also)
