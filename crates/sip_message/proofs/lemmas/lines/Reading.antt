-- Lines are read one after another.
-- In the lemmas line is the one that is read now and more what follows it; l and ls are the first line and the others, f and fs, or g and gs, the first field
-- and the others; n and k are numbers of lines.
use Rattle.std.proofs.Common.{◌≡◌, ℕ, ◌+◌, false, List, [], ◌∷◌, ◌++◌, length, refl, sym, ap, ◌∙◌, subst, arith}
use Rattle.std.specs.List.{flat_map}
use Rattle.std.proofs.lemmas.Bool.{both_ways}
use Rattle.std.proofs.lemmas.List.{append_assoc, append-nil, length-append}
use Rattle.sip_standard.specs.declared.fault.Fault.{Fault}
use Rattle.std.specs.Prelude.{Result, Ok, Err}
use Rattle.std.specs.Result.{IsErr, IsErrAnd}
use Rattle.sip_message.specs.declared.fault.ReadError.{ReadError}
use Rattle.sip_message.specs.declared.fault.ReadError.TheVariants as error
use Rattle.sip_message.specs.inner.Settles.{Settles}
use Rattle.sip_standard.specs.Outcome.{Outcome, gives, stops, passes, stopped}
use Rattle.sip_message.specs.inner.Lines.{with_end, AreLines}
use Rattle.sip_message.specs.inner.Fronts.{LineFront}
use Rattle.sip_message.specs.Field.{Field}
use Rattle.sip_message.specs.inner.FieldText.{FieldText, FieldsText}
use Rattle.sip_message.specs.inner.Faults.{FieldOf, FieldsOf}
use Rattle.sip_message.proofs.lemmas.lines.OneWay.{no_blank}
use Rattle.sip_message.proofs.lemmas.front.Cuts.{ReadAs, NotRead}
use Rattle.sip_message.proofs.lemmas.message.Faults.{read-fields, fields-read}

-- the lines are those done, which are the fields so far, and those that are left, which the rest is
pub record SoFar (lines : List (List ℕ)) (rest : List ℕ) (fields : List Field) : Type 0 where
  pub done : List (List ℕ)
  pub left : List (List ℕ)
  pub whole : lines ≡ done ++ left
  pub lines_left : AreLines rest left
  pub are : FieldsText done fields

-- lines that are fields are as many as the fields
length-fields : (lines : List (List ℕ)) (fields : List Field) → FieldsText lines fields → length fields ≡ length lines
-- without lines there are no fields
length-fields [] fields are = ap length are
length-fields (line ∷ lines) fields (f, fs, is, are, whole) = omega (arith, ap length whole, length-fields lines fs are)

-- where the rest is some lines, the first stands at its front, and what is left is the others
lines-front : (rest line : List ℕ) (left : List (List ℕ)) → AreLines rest (line ∷ left) → LineFront rest (line, flat_map with_end left) × AreLines (flat_map with_end left) left
-- the first line is folded as it should be, and what follows it begins with no blank, and is the text of the others
lines-front rest line left are = ((are.folded.0, no_blank left are.cut.1, are.whole), record { whole = refl; folded = are.folded.1; cut = are.cut.1 })

-- where no further line is read of the rest, the fields so far are those of all lines
pub so_far-all : (lines : List (List ℕ)) (rest : List ℕ) (fields : List Field) → SoFar lines rest fields → NotRead (LineFront rest) → FieldsOf 1 lines (gives fields)
so_far-all lines rest fields so none = at so.left so.whole so.lines_left
  where
    -- the fields are those of all lines, since no line is left where none is read of the rest
    at : (left : List (List ℕ)) → lines ≡ so.done ++ left → AreLines rest left → FieldsOf 1 lines (gives fields)
    -- no line is left, so the lines are those done
    at [] whole are = subst (λ ls. FieldsOf 1 ls (gives fields)) (sym (whole ∙ append-nil so.done)) (fields-read 1 so.done fields so.are)
    -- a line is left, so one could be read
    at (line ∷ left) whole are = absurd (none (line, flat_map with_end left) (lines-front rest line left are).0)

-- where a line is read at the front of the rest, it is the next of the lines that are left
next-line : (rest line more : List ℕ) (left : List (List ℕ)) → AreLines rest left → ReadAs (LineFront rest) (line, more) → (others : List (List ℕ)) × (left ≡ line ∷ others) × AreLines more others
next-line rest line more [] are read =
    -- no line is left, but the one that is read has its CRLF at least
    absurd (omega (arith, ap length (sym are.whole ∙ read.0.2), length-append (with_end line) more, length-append line (13 ∷ 10 ∷ [])))
next-line rest line more (l ∷ ls) are read =
    -- the first line that is left is the one that is read, and so the others are what follows it
    let front = lines-front rest l ls are in
    let same = read.1 (l, flat_map with_end ls) front.0 in
    (ls, ap (λ x. x.0 ∷ ls) same, subst (λ t. AreLines t ls) (ap (λ x. x.1) same) front.1)

-- where lines are fields, and a further line is a further field, they are fields together
pub fields-push : (lines : List (List ℕ)) (fields : List Field) (line : List ℕ) (f : Field) → FieldsText lines fields → FieldText line f → FieldsText (lines ++ line ∷ []) (fields ++ f ∷ [])
-- there is no line yet: the one more is the only one
fields-push [] fields line f are is = (f, [], is, refl, ap (λ fs. fs ++ f ∷ []) are)
fields-push (l ∷ lines) fields line f (g, gs, one, are, whole) is =
    -- the first line stays the first, and the further one comes after the others
    (g, gs ++ f ∷ [], one, fields-push lines gs line f are is, ap (λ fs. fs ++ f ∷ []) whole)

-- where the next line is a field, it is done, and its field is the last of the fields so far
pub so_far-more : (lines : List (List ℕ)) (rest line more : List ℕ) (fields : List Field) (f : Field) (n : ℕ) → SoFar lines rest fields → ReadAs (LineFront rest) (line, more) → FieldOf n line (gives f) → SoFar lines more (fields ++ f ∷ [])
so_far-more lines rest line more fields f n so read is =
    -- `next` is the line as the next that is left, and `one` says that it is its field
    let next = next-line rest line more so.left so.lines_left read in
    let one = read-fields n (line ∷ []) (f ∷ []) (passes f is (passes [] refl refl)) in
    record {
      done = so.done ++ line ∷ [];
      left = next.0;
      -- the lines so far have this one more, and so have the fields
      whole = so.whole ∙ ap (λ ls. so.done ++ ls) next.1 ∙ sym (append_assoc so.done (line ∷ []) next.0);
      lines_left = next.2;
      are = fields-push so.done fields line f so.are (first one);
    }
  where
    -- the only line is the field
    first : FieldsText (line ∷ []) (f ∷ []) → FieldText line f
    first (g, gs, is_field, none, whole) = subst (FieldText line) (sym (head whole)) is_field
      where
        -- equal lists of one field have the same field
        head : f ∷ [] ≡ g ∷ gs → f ≡ g
        head same = ap (λ fs. first_of fs) same
          where
            -- the first of some fields
            first_of : List Field → Field
            first_of [] = f
            first_of (h ∷ hs) = h

-- where a fault is in a line after lines that are fields, the reading of all lines stops with it
stops-behind : (n : ℕ) (done left : List (List ℕ)) (fields : List Field) (line : List ℕ) (k : ℕ) (fault : Fault) → FieldsText done fields → k ≡ n + length done → FieldOf k line (stops fault) → FieldsOf n (done ++ line ∷ left) (stops fault)
stops-behind n [] left fields line k fault are number is =
    -- there is no line before it: the reading stops here
    stopped fault (subst (λ m. FieldOf m line (stops fault)) (omega (arith, number)) is) refl
stops-behind n (l ∷ done) left fields line k fault (f, fs, is_field, are, whole) number is =
    -- the first line is a field, and so passed; the fault is in a later one
    passes f (passes (f.name, is_field.rest) is_field.named (passes f.value (is_field.valued, is_field.row) refl))
    (stopped fault (stops-behind (n + 1) done left fs line k fault are (omega (arith, number)) is) refl)

-- where the next line has a fault, the reading of all lines stops with it
pub so_far-stops : (lines : List (List ℕ)) (rest line more : List ℕ) (fields : List Field) (fault : Fault) → SoFar lines rest fields → ReadAs (LineFront rest) (line, more) → FieldOf (length fields + 1) line (stops fault) → FieldsOf 1 lines (stops fault)
so_far-stops lines rest line more fields fault so read is =
    -- the line is the next that is left, after as many lines as there are fields so far
    let next = next-line rest line more so.left so.lines_left read in
    subst (λ ls. FieldsOf 1 ls (stops fault)) (sym (so.whole ∙ ap (λ ls. so.done ++ ls) next.1))
    (stops-behind 1 so.done next.0 fields line (length fields + 1) fault so.are (omega (arith, length-fields so.done fields so.are)) is)

-- where a result is an error that a step stops with, the result is what the step comes to
pub settles-fault : {A X : Type 0} (S : Outcome X → Type 0) (parts : A → X) (r : Result A ReadError) (fault : Fault) → IsErr r → IsErrAnd r (λ e. e ≡ error.Fault fault) → S (stops fault) → Settles S parts r
-- the result is a value, which was excluded
settles-fault S parts (Ok a) fault is same stop = absurd (both_ways false refl is)
-- the result is the fault
settles-fault S parts (Err e) fault is same stop = subst (λ x. Settles S parts (Err x)) (sym same) stop
