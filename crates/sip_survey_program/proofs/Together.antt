-- The surveys of all parts of a log find together what the survey of the whole log finds.
use Rattle.std.proofs.Common.{◌≡◌, ◌≢◌, ◌↔◌, ◌<◌, ◌+◌, ◌%◌, inl, inr, ℕ, Bool, true, false, Some, None, MatchOption, List, [], ◌∷◌, ◌++◌, All, Contains, length, if◌then◌else◌, refl, sym, ap, ◌∙◌, subst, arith, append_assoc, append-nil}
use Rattle.std.proofs.lemmas.Bool.{eqb-true, eq-eqb}
use Rattle.std.proofs.lemmas.List.Elements.{All-contains, Contains-append_right, filter_passes}
use Rattle.sip_standard.specs.declared.action.Action.{Action}
use Rattle.sip_standard.specs.declared.action.Action.TheVariants.{Sent, Received, Failed, Mark, Restart}
use Rattle.sip_standard.specs.declared.fault.Fault.{Fault}
use Rattle.sip_standard.specs.Key.{KeyParts}
use Rattle.sip_standard.specs.LogEntry.{Item}
use Rattle.sip_standard.specs.LogSays.{LogEnd}
use Rattle.sip_standard.specs.Observation.{Observation, direction_of}
use Rattle.sip_standard.specs.Seen.{AreSeen}
use Rattle.sip_standard.specs.Times.{Times}
use Rattle.sip_standard.specs.VerdictOf.{Sees, keys_in}
use Rattle.sip_log.proofs.logs.Logs.{log_has_header, log_is_one}
use Rattle.sip_part.specs.Part.{PartOf, TellsBranch, falls_into, fnv1a}
use Rattle.sip_part.proofs.Told.{one_told}
use Rattle.sip_verdict.specs.declared.finding.Finding.{Finding}
use Rattle.sip_verdict.specs.declared.finding.Finding.TheVariants.{Malformed, Breach, Undecided}
use Rattle.sip_verdict.specs.declared.survey_end.SurveyEnd.{SurveyEnd}
use Rattle.sip_verdict.specs.SurveyOf.{IsSurveyAfter, IsSurveyOf}
use Rattle.sip_verdict.specs.SurveyLaws.{Names, StaysAt}
use Rattle.sip_verdict.specs.SurveyParts.{IsPartItem, IsPartLog, IsPartSurveyOf}
use Rattle.sip_verdict.specs.SurveyText.{AreEntriesOf}
use Rattle.sip_verdict.proofs.surveys.found.Named.{found_is}
use Rattle.sip_verdict.proofs.surveys.parts.CutLogs.{SeenAs}
use Rattle.sip_verdict.proofs.surveys.parts.PartFaults.{part_faults}
use Rattle.sip_verdict.proofs.surveys.parts.PartLogs.{part_cut}
use Rattle.sip_verdict.proofs.surveys.parts.Parts.{part_is_whole, same_split}
use Rattle.sip_verdict.proofs.surveys.parts.Taking.{mark_of}
use Rattle.sip_survey_program.specs.Together.{numbered, IsNumber, AreFoundInParts, IsSharedOut, part_keys, AreTogether}

-- a branch falls into the part whose number is one more than what is left of its hash by the count
part_with : (count : ℕ) (branch : List ℕ) → 0 < count → (number : ℕ) × IsNumber count number × (falls_into (numbered count number) branch ≡ true)
part_with count branch some = (fnv1a branch % count + 1, (omega arith, omega arith), eq-eqb (fnv1a branch % count + 1) (fnv1a branch % count + 1) refl)

-- a branch falls into one part alone
one_part : (count : ℕ) (branch : List ℕ) (number other : ℕ) → falls_into (numbered count number) branch ≡ true → falls_into (numbered count other) branch ≡ true → number ≡ other
one_part count branch number other is also = sym (eqb-true (fnv1a branch % count + 1) number is) ∙ eqb-true (fnv1a branch % count + 1) other also

-- an item with a message is the same in the log of a part, or a mark, as its branch falls
abbrev IsCutByBranch : PartOf → Item → Item → List ℕ → Type 0
IsCutByBranch part item cut branch = TellsBranch item.text branch × (cut ≡ if falls_into part branch then item else mark_of item)

-- an item at which a fault is seen has a message, by whose branch it is cut
faulty_cut : (part : PartOf) (done : List (Observation KeyParts)) (item cut : Item) (e : Observation KeyParts) (fault : Fault) → Sees done item e → e.fault ≡ Some fault → IsPartItem part item cut
    → (item.action ≢ Mark) × ((branch : List ℕ) × IsCutByBranch part item cut branch)
faulty_cut part done item cut e fault sees faulty is_cut = by item.action refl sees is_cut
  where
    -- what is to be shown, where the action of the item is a
    by : (a : Action) → item.action ≡ a → SeenAs done item e a
        → MatchOption (direction_of a) (cut ≡ item) (λ direction. (branch : List ℕ) × TellsBranch item.text branch × (cut ≡ if falls_into part branch then item else mark_of item))
        → (item.action ≢ Mark) × ((branch : List ℕ) × IsCutByBranch part item cut branch)
    by Sent is seen (branch, tells, same) = (λ mark. absurd (cc), (branch, (tells, same)))
    by Received is seen (branch, tells, same) = (λ mark. absurd (cc), (branch, (tells, same)))
    by Failed is seen (branch, tells, same) = (λ mark. absurd (cc), (branch, (tells, same)))
    -- a mark and a restart have no fault
    by Mark is seen same = let none : None ≡ Some fault = sym (ap (λ f. f.fault) seen) ∙ faulty in absurd (cc)
    by Restart is seen same = let none : None ≡ Some fault = sym (ap (λ f. f.fault) seen) ∙ faulty in absurd (cc)

-- the item at which an entry was seen, with those before it and after it
seen_place : (done : List (Observation KeyParts)) (items : List Item) (front : List (Observation KeyParts)) (e : Observation KeyParts) (more : List (Observation KeyParts)) → AreSeen done items (front ++ e ∷ more)
    → (before : List Item) × (item : Item) × (rest : List Item) × (items ≡ before ++ item ∷ rest) × (length before ≡ length front) × Sees (done ++ front) item e
seen_place done [] [] e more seen = absurd seen
seen_place done [] (first ∷ front) e more seen = absurd seen
seen_place done (item ∷ items) [] e more seen = ([], item, items, refl, refl, subst (λ xs. Sees xs item e) (sym (append-nil done)) seen.0)
seen_place done (item ∷ items) (first ∷ front) e more seen =
    let (before, there, rest, are, long, sees) = seen_place (done ++ first ∷ []) items front e more seen.1 in
    (item ∷ before, there, rest, ap (λ xs. item ∷ xs) are, omega (arith, long), subst (λ xs. Sees xs there e) (append_assoc done (first ∷ []) front) sees)

-- what the log of a part has in place of an item, with what stands before it and after it
part_place : (part : PartOf) (before : List Item) (item : Item) (rest cuts : List Item) → IsPartLog part (before ++ item ∷ rest) cuts
    → (back : List Item) × (cut : Item) × (others : List Item) × (cuts ≡ back ++ cut ∷ others) × (length before ≡ length back) × IsPartItem part item cut
part_place part [] item rest [] are = absurd are
part_place part [] item rest (cut ∷ cuts) are = ([], cut, cuts, refl, refl, are.0)
part_place part (first ∷ before) item rest [] are = absurd are
part_place part (first ∷ before) item rest (cut ∷ cuts) are =
    let (back, there, others, is, long, at) = part_place part before item rest cuts are.1 in
    (cut ∷ back, there, others, ap (λ xs. cut ∷ xs) is, omega (arith, long), at)

-- What follows is of a log that is cut into `count` parts, of the survey of the log and of those of its parts.
module _ (p : Times) (count : ℕ) (some : 0 < count) (items : List Item) (close : LogEnd) (es : List (Observation KeyParts)) (found : List Finding) (end : SurveyEnd) (parts : ℕ → List Finding)
    (seen : AreSeen [] items es) (whole : IsSurveyAfter p [] items close found end)
    (each : (number : ℕ) → IsNumber count number → (cuts : List Item) × (fin : SurveyEnd) × IsPartLog (numbered count number) items cuts × IsSurveyAfter p [] cuts close (parts number) fin) where
  -- whether the branch of a key falls into the part
  abbrev Chosen : ℕ → KeyParts → Bool
  Chosen number key = falls_into (numbered count number) key.branch

  -- a key that is named in a part falls into it
  named_falls : (kind : ℕ → ℕ → Finding) (number : ℕ) (key : KeyParts) (entry : ℕ) → Names kind (part_keys count number) es (parts number) key entry → Chosen number key ≡ true
  named_falls kind number key entry (front, e, more, place, is, at, (before, k, rest, are, named, number_is), has) =
      subst (λ k. Chosen number k ≡ true) named
      (All-contains (λ k. Chosen number k ≡ true) (before ++ k ∷ rest) k (subst (All (λ k. Chosen number k ≡ true)) are (filter_passes (Chosen number) (keys_in (front ++ e ∷ []))))
      (Contains-append_right before (k ∷ rest) k (0, omega arith, refl)))

  -- the transactions that are named by findings of one kind are shared out, since the whole and a part name those of the part alike
  named_shared : (kind : ℕ → ℕ → Finding)
      → ((number : ℕ) → IsNumber count number → (key : KeyParts) → Chosen number key ≡ true → (entry : ℕ) → Names kind keys_in es found key entry ↔ Names kind (part_keys count number) es (parts number) key entry)
      → (entry : ℕ) (key : KeyParts) → IsSharedOut count (Names kind keys_in es found key entry) (λ number. Names kind (part_keys count number) es (parts number) key entry)
  named_shared kind alike entry key = (
    λ names. let (number, is, falls) = part_with count key.branch some in (number, is, (alike number is key falls entry).0 names),
    λ number is names. (alike number is key (named_falls kind number key entry names) entry).1 names,
    λ number other is also a b. one_part count key.branch number other (named_falls kind number key entry a) (named_falls kind other key entry b),
  )

  -- the whole and a part name the transactions of the part alike
  part_alike : (number : ℕ) → IsNumber count number → (key : KeyParts) → Chosen number key ≡ true → (entry : ℕ)
      → (Names (λ n t. Breach n t) keys_in es found key entry ↔ Names (λ n t. Breach n t) (part_keys count number) es (parts number) key entry)
      × (Names (λ n t. Undecided n t) keys_in es found key entry ↔ Names (λ n t. Undecided n t) (part_keys count number) es (parts number) key entry)
  part_alike number is key falls entry =
      let (cuts, fin, are, part) = each number is in
      part_is_whole p (Chosen number) items cuts es close close found (parts number) end fin seen (part_cut (numbered count number) [] items cuts es seen are) whole part key falls entry

  -- What follows is of the fault of an entry.
  module _ (n : ℕ) (fault : Fault) where
    -- the item of the fault, with those before it and after it
    record Faulty : Type 0 where
      pub before : List Item
      pub item : Item
      pub rest : List Item
      pub are : items ≡ before ++ item ∷ rest
      pub place : n ≡ length before + 1
      pub front : List (Observation KeyParts)
      pub e : Observation KeyParts
      pub sees : Sees front item e
      pub faulty : e.fault ≡ Some fault

    -- the survey of the whole finds the fault at an item
    faulty_item : Contains found (Malformed n fault) → Faulty
    faulty_item has =
        let (front, e, more, split, at) = found_is p [] items close es found end seen whole (Malformed n fault) has in
        let (before, item, rest, are, long, sees) = seen_place [] items front e more (subst (AreSeen [] items) split seen) in
        record { before = before; item = item; rest = rest; are = are; place = let entry = at.0 in omega (arith, entry, long); front = front; e = e; sees = sees; faulty = at.1 }

    -- the log of a part has the item, or a mark, at the place of the fault, as the branch of the item falls
    record InPart (at : Faulty) (number : ℕ) (cuts : List Item) : Type 0 where
      pub back : List Item
      pub cut : Item
      pub others : List Item
      pub are : cuts ≡ back ++ cut ∷ others
      pub long : length at.before ≡ length back
      pub no_mark : at.item.action ≢ Mark
      pub branch : List ℕ
      pub is : IsCutByBranch (numbered count number) at.item cut branch

    in_part : (at : Faulty) (number : ℕ) (cuts : List Item) → IsPartLog (numbered count number) items cuts → InPart at number cuts
    in_part at number cuts are =
        let (back, cut, others, split, long, of) = part_place (numbered count number) at.before at.item at.rest cuts (subst (λ xs. IsPartLog (numbered count number) xs cuts) at.are are) in
        let faulty = faulty_cut (numbered count number) at.front at.item cut at.e fault at.sees at.faulty of in
        record { back = back; cut = cut; others = others; are = split; long = long; no_mark = faulty.0; branch = faulty.1.0; is = faulty.1.1 }

    -- a part has the fault exactly where the whole has it and its item stays
    fault_stays : (number : ℕ) (is : IsNumber count number) → Contains (parts number) (Malformed n fault) ↔ (Contains found (Malformed n fault) × StaysAt items (each number is).0 n)
    fault_stays number is =
        let (cuts, fin, are, part) = each number is in
        part_faults p (Chosen number) items cuts es close close found (parts number) end fin seen (part_cut (numbered count number) [] items cuts es seen are) whole part n fault

    -- where the branch of the item falls into the part, the item stays
    falls_stays : (at : Faulty) (number : ℕ) (cuts : List Item) (placed : InPart at number cuts) → falls_into (numbered count number) placed.branch ≡ true → StaysAt items cuts n
    falls_stays at number cuts placed falls =
        let kept : placed.cut ≡ at.item = placed.is.1 ∙ ap (λ b. if b then at.item else mark_of at.item) falls in
        (at.before, at.item, at.rest, placed.back, placed.others, at.are, placed.are ∙ ap (λ c. placed.back ++ c ∷ placed.others) kept, at.place, placed.long)

    -- where the item stays, its branch falls into the part: else it would be a mark
    stays_falls : (at : Faulty) (number : ℕ) (cuts : List Item) (placed : InPart at number cuts) → StaysAt items cuts n → falls_into (numbered count number) placed.branch ≡ true
    stays_falls at number cuts placed (before, item, rest, back, others, items_are, cuts_are, place, long) = by (falls_into (numbered count number) placed.branch) refl
      where
        same_item : at.item ≡ item
        same_item = (same_split at.before at.rest before rest at.item item (sym at.are ∙ items_are) (let a = at.place in omega (arith, a, place))).1

        same_cut : placed.cut ≡ item
        same_cut = (same_split placed.back placed.others back others placed.cut item (sym placed.are ∙ cuts_are) (let a = at.place in let b = placed.long in omega (arith, a, b, place, long))).1

        by : (b : Bool) → falls_into (numbered count number) placed.branch ≡ b → falls_into (numbered count number) placed.branch ≡ true
        by true is = is
        by false is =
            let mark : at.item ≡ mark_of at.item = same_item ∙ sym same_cut ∙ placed.is.1 ∙ ap (λ b. if b then at.item else mark_of at.item) is in
            absurd (placed.no_mark (ap (λ i. i.action) mark))

    -- the fault is shared out: the whole has it at an item, which stays in the part into which its branch falls, and there alone
    fault_shared : IsSharedOut count (Contains found (Malformed n fault)) (λ number. Contains (parts number) (Malformed n fault))
    fault_shared = (into, λ number is has. ((fault_stays number is).0 has).0, alone)
      where
        into : Contains found (Malformed n fault) → (number : ℕ) × IsNumber count number × Contains (parts number) (Malformed n fault)
        into has =
            let at = faulty_item has in
            -- the first part tells the branch of the item
            let first = each 1 (omega arith, omega (arith, some)) in
            let told = in_part at 1 first.0 first.2 in
            let (number, is, falls) = part_with count told.branch some in
            let there = in_part at number (each number is).0 (each number is).2 in
            let same : told.branch ≡ there.branch = one_told at.item.text told.branch there.branch told.is.0 there.is.0 in
            (number, is, (fault_stays number is).1 (has, falls_stays at number (each number is).0 there (subst (λ b. falls_into (numbered count number) b ≡ true) same falls)))

        alone : (number other : ℕ) → IsNumber count number → IsNumber count other → Contains (parts number) (Malformed n fault) → Contains (parts other) (Malformed n fault) → number ≡ other
        alone number other is also a b =
            let one = (fault_stays number is).0 a in
            let two = (fault_stays other also).0 b in
            let at = faulty_item one.0 in
            let here = in_part at number (each number is).0 (each number is).2 in
            let there = in_part at other (each other also).0 (each other also).2 in
            let same : there.branch ≡ here.branch = one_told at.item.text there.branch here.branch there.is.0 here.is.0 in
            one_part count here.branch number other (stays_falls at number (each number is).0 here one.1)
            (subst (λ b. falls_into (numbered count other) b ≡ true) same (stays_falls at other (each other also).0 there two.1))

  -- all parts find together what the whole finds
  found_together : AreTogether count es found parts
  found_together = record {
    faults = fault_shared;
    breaches = named_shared (λ n t. Breach n t) (λ number is key falls entry. (part_alike number is key falls entry).0);
    undecided = named_shared (λ n t. Undecided n t) (λ number is key falls entry. (part_alike number is key falls entry).1);
  }

-- where neither the whole nor a part finds anything, all is shared out
nothing_together : (count : ℕ) (es : List (Observation KeyParts)) (found : List Finding) (parts : ℕ → List Finding) → found ≡ [] → ((number : ℕ) → IsNumber count number → parts number ≡ [])
    → AreTogether count es found parts
nothing_together count es found parts nothing none = record {
  faults = λ entry fault. (
    λ has. absurd (empty found (Malformed entry fault) nothing has),
    λ number is has. absurd (empty (parts number) (Malformed entry fault) (none number is) has),
    λ number other is also a b. absurd (empty (parts number) (Malformed entry fault) (none number is) a),
  );
  breaches = named (λ n t. Breach n t);
  undecided = named (λ n t. Undecided n t);
}
  where
    empty : (fs : List Finding) (f : Finding) → fs ≡ [] → Contains fs f → ⊥
    empty fs f is (k, low, at) = let none = ap length is in omega (arith, low, none)

    unnamed : (kind : ℕ → ℕ → Finding) (counted : List (Observation KeyParts) → List KeyParts) (fs : List Finding) (key : KeyParts) (entry : ℕ) → fs ≡ [] → Names kind counted es fs key entry → ⊥
    unnamed kind counted fs key entry is (front, e, more, number, split, at, holds, has) = empty fs (kind entry number) is has

    named : (kind : ℕ → ℕ → Finding) (entry : ℕ) (key : KeyParts) → IsSharedOut count (Names kind keys_in es found key entry) (λ number. Names kind (part_keys count number) es (parts number) key entry)
    named kind entry key = (
      λ names. absurd (unnamed kind keys_in found key entry nothing names),
      λ number is names. absurd (unnamed kind (part_keys count number) (parts number) key entry (none number is) names),
      λ number other is also a b. absurd (unnamed kind (part_keys count number) (parts number) key entry (none number is) a),
    )

-- the surveys of all parts of an input find together what the survey of the input finds
pub together : (input : List ℕ) (count : ℕ) (es : List (Observation KeyParts)) (found : List Finding) (end : SurveyEnd) (parts : ℕ → List Finding) → 0 < count → AreEntriesOf input es
    → IsSurveyOf input found end → AreFoundInParts input count parts → AreTogether count es found parts
-- without a header nothing is found in the whole, and in no part
together input count es found end parts some entries (inl (lacks, nothing, ends)) each = nothing_together count es found parts nothing (λ number is. by number (each number is))
  where
    by : (number : ℕ) → (fin : SurveyEnd) × IsPartSurveyOf (numbered count number) input (parts number) fin → parts number ≡ []
    by number (fin, inl (also, none, ends)) = none
    by number (fin, inr (p, items, close, cuts, says, are, part)) = absurd (log_has_header input p items close lacks says)
-- with one, the input says one log, which is cut into the parts
together input count es found end parts some (inl (lacks, none)) (inr (p, items, close, says, whole)) each = absurd (log_has_header input p items close lacks says)
together input count es found end parts some (inr (q, others, last, say, seen)) (inr (p, items, close, says, whole)) each =
    found_together p count some items close es found end parts (subst (λ xs. AreSeen [] xs es) (sym (log_is_one input p q items others close last says say).1) seen) whole (λ number is. by number (each number is))
  where
    by : (number : ℕ) → (fin : SurveyEnd) × IsPartSurveyOf (numbered count number) input (parts number) fin
        → (cuts : List Item) × (fin : SurveyEnd) × IsPartLog (numbered count number) items cuts × IsSurveyAfter p [] cuts close (parts number) fin
    by number (fin, inl (lacks, none, ends)) = absurd (log_has_header input p items close lacks says)
    by number (fin, inr (r, more, shut, cuts, told, are, part)) =
        let same = log_is_one input p r items more close shut says told in (
          cuts,
          fin,
          subst (λ xs. IsPartLog (numbered count number) xs cuts) (sym same.1) are,
          subst (λ t. IsSurveyAfter t [] cuts close (parts number) fin) (sym same.0) (subst (λ c. IsSurveyAfter r [] cuts c (parts number) fin) (sym same.2) part),
        )
