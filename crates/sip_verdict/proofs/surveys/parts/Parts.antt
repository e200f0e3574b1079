-- What is found of a transaction in the log of some is what is found of it in the whole.
use Rattle.std.proofs.Common.{◌≡◌, ◌↔◌, ◌+◌, ◌⊎◌, inl, inr, ℕ, Bool, true, List, [], ◌∷◌, ◌++◌, Contains, length, refl, sym, ap, ◌∙◌, subst, arith, length-append}
use Rattle.std.specs.List.{AllZip}
use Rattle.sip_standard.specs.Key.{KeyParts}
use Rattle.sip_standard.specs.Times.{Times}
use Rattle.sip_standard.specs.LogEntry.{Item}
use Rattle.sip_standard.specs.LogSays.{LogEnd}
use Rattle.sip_verdict.specs.declared.finding.Finding.{Finding}
use Rattle.sip_verdict.specs.declared.finding.Finding.TheVariants.{Breach, Undecided}
use Rattle.sip_verdict.specs.declared.survey_end.SurveyEnd.{SurveyEnd}
use Rattle.sip_standard.specs.Observation.{Observation}
use Rattle.sip_standard.specs.Seen.{AreSeen}
use Rattle.sip_standard.specs.VerdictOf.{keys_in}
use Rattle.sip_verdict.specs.SurveyOf.{Breaks, Widens, HoldsOf, IsFoundAt, IsSurveyAfter}
use Rattle.sip_verdict.specs.SurveyLaws.{Names, chosen_in, IsCutLog, IsCutOf}
use Rattle.sip_verdict.proofs.keys.Splitting.{split_compare}
use Rattle.sip_verdict.proofs.surveys.found.Numbers.{same_place}
use Rattle.sip_verdict.proofs.surveys.found.Named.{numbered, found_at, found_is, breaks_known}
use Rattle.sip_verdict.proofs.surveys.found.Sound.{concerned-among}
use Rattle.sip_verdict.proofs.surveys.parts.Cutting.{keys_cut, zip_push, split_left, split_right, trouble_cut}
use Rattle.sip_verdict.proofs.surveys.parts.CutLogs.{log_cut}

-- two splits of a list at the same place are the same split
-- the one split is at x, with xs before it and us after it, and the other at y, with ys before it and vs after it
pub same_split : {A : Type 0} (xs us ys vs : List A) (x y : A) → xs ++ x ∷ us ≡ ys ++ y ∷ vs → length xs ≡ length ys → (xs ≡ ys) × (x ≡ y)
same_split {A} xs us ys vs x y is long = by (split_compare xs us ys vs x y is)
  where
    -- the two splits are the same, since in the other two cases they have different lengths
    by : ((xs ≡ ys) × (x ≡ y)) ⊎ (((zs : List A) × (ys ≡ xs ++ x ∷ zs)) ⊎ ((zs : List A) × (xs ≡ ys ++ y ∷ zs))) → (xs ≡ ys) × (x ≡ y)
    by (inl h) = h
    by (inr (inl h)) = absurd (omega (arith, long, simp length-append at (ap length h.1)))
    by (inr (inr h)) = absurd (omega (arith, long, simp length-append at (ap length h.1)))

-- lists whose elements stand for one another, one by one, have the same length
zip_long : {A B : Type 0} (R : A → B → Type 0) (xs : List A) (ys : List B) → AllZip R xs ys → length xs ≡ length ys
zip_long R [] [] zip = refl
-- neither list is longer than the other
zip_long R [] (y ∷ ys) zip = absurd zip
zip_long R (x ∷ xs) [] zip = absurd zip
zip_long R (x ∷ xs) (y ∷ ys) zip = let rest = zip_long R xs ys zip.1 in omega (arith, rest)

-- What follows is of one kind of finding: `kind` makes it of an entry and a transaction, and P is the property of a key at an entry that it tells.
module _ (p : Times) (kind : ℕ → ℕ → Finding) (P : List (Observation KeyParts) → Observation KeyParts → KeyParts → Type 0)
    (into : (front : List (Observation KeyParts)) (e : Observation KeyParts) (n t : ℕ) → IsFoundAt p front e (kind n t) → (n ≡ length front + 1) × HoldsOf (P front e) (keys_in (front ++ e ∷ [])) t)
    (from : (front : List (Observation KeyParts)) (e : Observation KeyParts) (t : ℕ) → HoldsOf (P front e) (keys_in (front ++ e ∷ [])) t → IsFoundAt p front e (kind (length front + 1) t))
    (known : (front : List (Observation KeyParts)) (e : Observation KeyParts) (key : KeyParts) → P front e key → Contains (keys_in (front ++ e ∷ [])) key) where
  -- P holds of the key at the entry with this number
  abbrev Holds : List (Observation KeyParts) → KeyParts → ℕ → Type 0
  Holds es key n = (front : List (Observation KeyParts)) × (e : Observation KeyParts) × (more : List (Observation KeyParts)) × (es ≡ front ++ e ∷ more) × (n ≡ length front + 1) × P front e key

  -- where the survey names the key at an entry, P holds of the key there
  named_holds : (items : List Item) (close : LogEnd) (es : List (Observation KeyParts)) (found : List Finding) (end : SurveyEnd) → AreSeen [] items es → IsSurveyAfter p [] items close found end →
      (key : KeyParts) (n : ℕ) → Names kind keys_in es found key n → Holds es key n
  -- e is the entry, t the number and k the key that the survey names
  named_holds items close es found end seen survey key n (front, e, more, t, is, entry, (before, k, rest, are, named, number), has) =
      -- the finding is at an entry c, with `back` before it, of which P holds for the key with the number t
      let (back, c, others, split, at) = found_is p [] items close es found end seen survey (kind n t) has in
      let both = into back c n t at in
      -- it is the entry e, since both have the number n
      let same = same_split front more back others e c (sym is ∙ split) (omega (arith, entry, both.0)) in
      let mine : HoldsOf (P front e) (keys_in (front ++ e ∷ [])) t =
      subst (λ fs. HoldsOf (P fs e) (keys_in (fs ++ e ∷ [])) t) (sym same.0) (subst (λ d. HoldsOf (P back d) (keys_in (back ++ d ∷ [])) t) (sym same.1) both.1) in
      (front, e, more, is, entry, subst (P front e) named (same_place (P front e) (keys_in (front ++ e ∷ [])) before k rest t are mine number))

  -- where P holds of the key at an entry, the survey names the key there
  holds_named : (items : List Item) (close : LogEnd) (es : List (Observation KeyParts)) (found : List Finding) (end : SurveyEnd) → AreSeen [] items es → IsSurveyAfter p [] items close found end →
      (key : KeyParts) (n : ℕ) → Holds es key n → Names kind keys_in es found key n
  holds_named items close es found end seen survey key n (front, e, more, is, entry, holds) =
      let (t, named, at) = numbered (P front e) (keys_in (front ++ e ∷ [])) key (known front e key holds) holds in
      (front, e, more, t, is, entry, named, subst (λ m. Contains found (kind m t)) (sym entry) (found_at p [] items close es found end seen survey front e more is (kind (length front + 1) t) (from front e t at)))

  -- What follows is of one chosen key, of which P holds in the cut log exactly where it holds in the whole log.
  module _ (chosen : KeyParts → Bool) (key : KeyParts) (is_chosen : chosen key ≡ true)
      (same : (front back : List (Observation KeyParts)) (e c : Observation KeyParts) → AllZip (IsCutOf chosen) front back → IsCutOf chosen e c → P front e key ↔ P back c key) where
    -- P holds of a chosen key at the same entries of the whole log and of the cut log
    holds_cut : (es cs : List (Observation KeyParts)) (n : ℕ) → AllZip (IsCutOf chosen) es cs → Holds es key n ↔ Holds cs key n
    holds_cut es cs n zip = (
      λ holds.
          -- P holds at the entry e of the whole log; so it does at c, which stands for e in the cut log and has the same number
          let (front, e, more, is, entry, at) = holds in
          let (back, c, rest, split, zipped, here) = split_right chosen key is_chosen p front cs e more (subst (λ xs. AllZip (IsCutOf chosen) xs cs) is zip) in
          (back, c, rest, split, entry ∙ ap (λ n. n + 1) (zip_long (IsCutOf chosen) front back zipped), (same front back e c zipped here).0 at),
      -- the converse: P holds in the cut log, and so in the whole log
      λ holds.
          let (back, c, more, is, entry, at) = holds in
          let (front, e, rest, split, zipped, here) = split_left chosen key is_chosen p es back c more (subst (AllZip (IsCutOf chosen) es) is zip) in
          (front, e, rest, split, entry ∙ ap (λ n. n + 1) (sym (zip_long (IsCutOf chosen) front back zipped)), (same front back e c zipped here).1 at),
    )

    -- the number of a chosen key in the cut log is its number among the chosen keys of the whole log
    named_among : (es cs : List (Observation KeyParts)) (part : List Finding) (n : ℕ) → AllZip (IsCutOf chosen) es cs → Names kind keys_in cs part key n ↔ Names kind (chosen_in chosen) es part key n
    named_among es cs part n zip = (
      λ names.
          -- c is the entry of the cut log at which the key is named, and e the one for which it stands; the keys up to c are the chosen ones up to e
          let (back, c, more, t, is, entry, named, has) = names in
          let (front, e, rest, split, zipped, here) = split_left chosen key is_chosen p es back c more (subst (AllZip (IsCutOf chosen) es) is zip) in
          let keys = keys_cut chosen (front ++ e ∷ []) (back ++ c ∷ []) (zip_push chosen front back e c zipped here) in
          (front, e, rest, t, split, entry ∙ ap (λ n. n + 1) (sym (zip_long (IsCutOf chosen) front back zipped)), subst (λ ks. HoldsOf (λ k. k ≡ key) ks t) keys named, has),
      -- the converse: among the chosen keys it is named, and so in the cut log
      λ names.
          let (front, e, more, t, is, entry, named, has) = names in
          let (back, c, rest, split, zipped, here) = split_right chosen key is_chosen p front cs e more (subst (λ xs. AllZip (IsCutOf chosen) xs cs) is zip) in
          let keys = keys_cut chosen (front ++ e ∷ []) (back ++ c ∷ []) (zip_push chosen front back e c zipped here) in
          (back, c, rest, t, split, entry ∙ ap (λ n. n + 1) (zip_long (IsCutOf chosen) front back zipped), subst (λ ks. HoldsOf (λ k. k ≡ key) ks t) (sym keys) named, has),
    )

    -- the surveys of the whole log and of the cut log name a chosen key at the same entries
    named_cut : (items cuts : List Item) (es cs : List (Observation KeyParts)) (close shut : LogEnd) (found part : List Finding) (end fin : SurveyEnd) → AreSeen [] items es → AreSeen [] cuts cs
        → AllZip (IsCutOf chosen) es cs → IsSurveyAfter p [] items close found end → IsSurveyAfter p [] cuts shut part fin → (n : ℕ) → Names kind keys_in es found key n ↔ Names kind (chosen_in chosen) es part key n
    named_cut items cuts es cs close shut found part end fin seen saw zip whole some n =
        -- where the one survey names the key, P holds of it there, so it holds at the same entry of the other log, whose survey names it too
        let cut = holds_cut es cs n zip in
        let among = named_among es cs part n zip in (
          λ named. among.0 (holds_named cuts shut cs part fin saw some key n (cut.0 (named_holds items close es found end seen whole key n named))),
          λ named. holds_named items close es found end seen whole key n (cut.1 (named_holds cuts shut cs part fin saw some key n (among.1 named))),
        )

-- the surveys of a log and of its cut say the same of a chosen transaction
pub part_is_whole : (p : Times) (chosen : KeyParts → Bool) (items cuts : List Item) (es : List (Observation KeyParts)) (close shut : LogEnd) (found part : List Finding) (end fin : SurveyEnd)
    → AreSeen [] items es → IsCutLog chosen items es cuts → IsSurveyAfter p [] items close found end → IsSurveyAfter p [] cuts shut part fin → (key : KeyParts) → chosen key ≡ true → (n : ℕ)
    → (Names (λ n t. Breach n t) keys_in es found key n ↔ Names (λ n t. Breach n t) (chosen_in chosen) es part key n)
    × (Names (λ n t. Undecided n t) keys_in es found key n ↔ Names (λ n t. Undecided n t) (chosen_in chosen) es part key n)
part_is_whole p chosen items cuts es close shut found part end fin seen cut whole some key is n =
    let (cs, saw, zip) = log_cut chosen [] [] tt items es cuts seen cut in (
      named_cut p (λ n t. Breach n t) (Breaks p) (λ front e n t found. found) (λ front e t holds. (refl, holds)) (λ front e key breaks. breaks_known p front e key breaks.1) chosen key is
          -- the claim is shown of breaches first, and then of what is undecided
          (λ front back e c zip here. (trouble_cut chosen key is p front back e c zip here).0) items cuts es cs close shut found part end fin seen saw zip whole some n,
      named_cut p (λ n t. Undecided n t) (Widens p) (λ front e n t found. found) (λ front e t holds. (refl, holds)) (λ front e key widens. concerned-among key front e widens.1.0) chosen key is
          (λ front back e c zip here. (trouble_cut chosen key is p front back e c zip here).1) items cuts es cs close shut found part end fin seen saw zip whole some n,
    )
