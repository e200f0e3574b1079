-- The fields of a name, one after another.
use Rattle.std.proofs.Common.{◌≡◌, ℕ, zero, suc, ◌+◌, ◌<◌, ◌≤◌, List, [], ◌∷◌, length, drop, map, cond, slice_index_or, add-one, true, false, refl, sym, ap, ◌∙◌, subst, arith}
use Rattle.std.specs.Prelude.{Result, Ok, Err, IsErr, IsErrAnd, Some, None}
use Rattle.std.proofs.lemmas.Bool.{both_ways}
use Rattle.sip_message.specs.declared.name.Known.{Known}
use Rattle.sip_message.specs.declared.field.Field.{Field as Code}
use Rattle.sip_standard.specs.declared.fault.Fault.{Fault}
use Rattle.sip_message.specs.Name.{is_name_of}
use Rattle.sip_message.specs.Field.{Field}
use Rattle.sip_message.specs.inner.MessageText.{found, found_from, IsFirstFound}
use Rattle.sip_standard.specs.declared.fault.Reason.TheVariants as reason
use Rattle.sip_standard.specs.Outcome.{Outcome, gives, stops, passes, stopped}
use Rattle.sip_standard.specs.Faults.{fault_in_line, second_line}
use Rattle.sip_standard.specs.Field.{FirstOf, OneOf}
use Rattle.sip_message.specs.inner.Finds.{IsFound}
use Rattle.sip_message.specs.inner.Views.{name_parts, field_parts}
use Rattle.sip_message.specs.inner.Settles.{outcome_of}
use Rattle.sip_message.proofs.lemmas.message.Outcome.{given-then}

-- the fields of a name from place i on are the field at i, if it has the name, and those after it
found-suc : (known : Known) (xs : List Code) (n i : ℕ) (d : Code) → i < length xs → found_from n known (drop i (map field_parts xs)) ≡ cond (is_name_of known (name_parts (slice_index_or xs i d).name)) ((n, (slice_index_or xs i d).value.now) ∷ found_from (n + 1) known (drop (suc i) (map field_parts xs))) (found_from (n + 1) known (drop (suc i) (map field_parts xs)))
-- the place is in the list: at its front, or in the rest
found-suc known [] n i d below = absurd (omega (arith, below))
found-suc known (x ∷ xs) n zero d below = refl
found-suc known (x ∷ xs) n (suc i) d below = found-suc known xs n i d (omega (arith, below))

-- what is found from index i on is the field there, if it has the name, and what is found after it
found-at : (known : Known) (xs : List Code) (i : ℕ) (d : Code) → i < length xs → found_from (i + 1) known (drop i (map field_parts xs)) ≡ cond (is_name_of known (name_parts (slice_index_or xs i d).name)) ((i + 1, (slice_index_or xs i d).value.now) ∷ found_from (i + 1 + 1) known (drop (i + 1) (map field_parts xs))) (found_from (i + 1 + 1) known (drop (i + 1) (map field_parts xs)))
found-at known xs i d below =
    -- the next place, `suc i`, is `i + 1`
    subst (λ k. found_from (i + 1) known (drop i (map field_parts xs)) ≡ cond (is_name_of known (name_parts (slice_index_or xs i d).name)) ((i + 1, (slice_index_or xs i d).value.now) ∷ found_from (i + 1 + 1) known (drop k (map field_parts xs))) (found_from (i + 1 + 1) known (drop k (map field_parts xs)))) (sym (add-one i)) (found-suc known xs (i + 1) i d below)

-- where the field at place i has the name, the fields of the name from there on are it and those after it
pub found-here : (known : Known) (xs : List Code) (i : ℕ) (d : Code) → i < length xs → is_name_of known (name_parts (slice_index_or xs i d).name) ≡ true → found_from (i + 1) known (drop i (map field_parts xs)) ≡ (i + 1, (slice_index_or xs i d).value.now) ∷ found_from (i + 1 + 1) known (drop (i + 1) (map field_parts xs))
found-here known xs i d below is =
    -- the test passes, so the field is found
    found-at known xs i d below ∙ ap (λ z. cond z ((i + 1, (slice_index_or xs i d).value.now) ∷ found_from (i + 1 + 1) known (drop (i + 1) (map field_parts xs))) (found_from (i + 1 + 1) known (drop (i + 1) (map field_parts xs)))) is

-- where the field at place i has another name, the fields of the name from there on are those after it
pub found-passed : (known : Known) (xs : List Code) (i : ℕ) (d : Code) → i < length xs → is_name_of known (name_parts (slice_index_or xs i d).name) ≡ false → found_from (i + 1) known (drop i (map field_parts xs)) ≡ found_from (i + 1 + 1) known (drop (i + 1) (map field_parts xs))
found-passed known xs i d below is =
    -- the test fails, so the field is passed over
    found-at known xs i d below ∙ ap (λ z. cond z ((i + 1, (slice_index_or xs i d).value.now) ∷ found_from (i + 1 + 1) known (drop (i + 1) (map field_parts xs))) (found_from (i + 1 + 1) known (drop (i + 1) (map field_parts xs)))) is

-- the one field of a name is its first
pub once-first : (name : Known) (fields : List Field) (one : ℕ × List ℕ) → OneOf (found name fields) (gives one) → IsFirstFound name fields one
-- the demand for one field ends with the first field
once-first name fields one is = (given-then is).2

-- a step that fails with a fault stops with that fault
pub stops-there : {A X : Type 0} (parts : A → X) (S : Outcome X → Type 0) (r : Result A Fault) (fault : Fault) → IsErr r → IsErrAnd r (λ e. e ≡ fault) → S (stops fault) → S (outcome_of parts r)
-- the step would have given a value
stops-there parts S (Ok a) fault err same is = absurd (both_ways false refl err)
-- the step failed with this fault
stops-there parts S (Err e) fault err same is = subst (λ f. S (stops f)) (sym same) is

-- where a name has no field, the demand for its one field stops with the fault that it is missing
pub once-absent : (name : Known) (fields : List Field) (fault : Fault) → FirstOf (found name fields) (stops fault) → OneOf (found name fields) (stops fault)
-- no second field stands there, since there is none at all
once-absent name fields fault none = passes tt (few (found name fields) none.0) none
  where
    -- a list without a first element is empty
    few : (fs : List (ℕ × List ℕ)) → ((x : ℕ × List ℕ) → (more : List (ℕ × List ℕ)) × (fs ≡ x ∷ more) → ⊥) → length fs ≤ 1
    -- the list is empty
    few [] none_is = omega arith
    -- a list with an element has a first one, which was excluded
    few (f ∷ fs) none_is = absurd (none_is f (fs, refl))

-- where a name has two fields, the demand for its one field stops at the line of the second
pub once-twice : (name : Known) (fields : List Field) (one two : ℕ × List ℕ) → IsFound name 0 fields (Some one) → IsFound name (one.0) fields (Some two) → OneOf (found name fields) (stops (fault_in_line (two.0) reason.Repeated))
once-twice name fields one two first second =
    -- `both` says that one and two are the first two fields of the name
    let both = first ∙ ap (λ fs. one ∷ fs) second in
    stopped (fault_in_line (two.0) reason.Repeated) ((λ _ few. absurd (omega (arith, ap length both, few))), ap (λ fs. fault_in_line (second_line fs) reason.Repeated) (sym both)) refl

-- where a name has a field and no further one after it, the demand for its one field gives it
pub once-one : (name : Known) (fields : List Field) (one : ℕ × List ℕ) → IsFound name 0 fields (Some one) → IsFound name (one.0) fields None → OneOf (found name fields) (gives one)
once-one name fields one first none =
    -- `both` says that one is the only field of the name
    let both = first ∙ ap (λ fs. one ∷ fs) none in
    passes tt (omega (arith, ap length both)) ([], both)
