-- A message has the parts of its named fields, since each field has a value that its name may have.
-- In the lemmas k is a known name, n the name of a field, and fs are fields.
use Rattle.std.proofs.Common.{◌≡◌, ℕ, ◌+◌, Bool, true, false, List, [], ◌∷◌, ◌++◌, map, cond, refl, sym, ap, ◌∙◌, subst}
use Rattle.std.specs.List.{AllByRecursion}
use Rattle.std.proofs.lemmas.Slice.Eq.{bytes_eq-Decides}
use Rattle.std.proofs.lemmas.Bool.{both_ways}
use Rattle.sip_message.specs.inner.Parts.{HasParts}
use Rattle.sip_message.specs.declared.name.Known.{Known}
use Rattle.sip_message.specs.declared.name.Known.TheVariants as known_name
use Rattle.sip_message.specs.Name.{FieldName, known, other, name_of, long_name, is_name_of}
use Rattle.sip_message.specs.Field.{Field, values}
use Rattle.sip_message.specs.inner.FieldText.{Row}
use Rattle.sip_message.specs.Message.{Message}
use Rattle.sip_message.specs.inner.MessageText.{found_from, IsFirstFound, MessageText}
use Rattle.sip_message.specs.Reading.{Parts}
use Rattle.sip_message.proofs.lemmas.canon.Law.{fields-rows, name-known}
use Rattle.sip_standard.specs.Via.{SaidVia}
use Rattle.sip_standard.specs.Says.{ViasTell, IsFirstOf}

-- a field name that passes the test of a known name is that known name
pub named-known : (k : Known) (n : FieldName) → is_name_of k n ≡ true → n ≡ known k
-- the test compares the long forms, of which each spells its own name
named-known k (known j) is = sym (name-known j) ∙ ap name_of (sym ((bytes_eq-Decides (long_name k) (long_name j)).0 is)) ∙ name-known k
-- no other name passes
named-known k (other text) is = absurd (both_ways false refl is)

-- where each field is of its row, the values of a name are of the row of the name
pub row-values : (k : Known) (fs : List Field) → AllByRecursion (λ f. Row f.name f.value) fs → AllByRecursion (Row (known k)) (values k fs)
-- without fields there are no values
row-values k [] rows = tt
row-values k (f ∷ fs) rows = at (is_name_of k f.name) refl (row-values k fs rows.1)
  where
    -- the claim holds whether or not the first field has the name
    at : (b : Bool) → is_name_of k f.name ≡ b → AllByRecursion (Row (known k)) (values k fs) → AllByRecursion (Row (known k)) (cond b (f.value ∷ values k fs) (values k fs))
    -- it has the name, and so its row
    at true is later = (subst (λ n. Row n f.value) (named-known k f.name is) rows.0, later)
    -- it has not, and so adds no value
    at false is later = later

-- the values of a name are those of the fields of the name that are found
-- k is the name, fs are the fields, and n is the number of the first one's line
pub found-values : (n : ℕ) (k : Known) (fs : List Field) → values k fs ≡ map (λ x. x.1) (found_from n k fs)
-- without fields there are no values
found-values n k [] = refl
found-values n k (f ∷ fs) = at (is_name_of k f.name) (found-values (n + 1) k fs)
  where
    -- the claim holds whether or not the first field has the name
    at : (b : Bool) → values k fs ≡ map (λ x. x.1) (found_from (n + 1) k fs) → cond b (f.value ∷ values k fs) (values k fs) ≡ map (λ x. x.1) (cond b ((n, f.value) ∷ found_from (n + 1) k fs) (found_from (n + 1) k fs))
    -- it has the name, and its value comes first; or it has not
    at true later = ap (λ t. f.value ∷ t) later
    at false later = later

-- the value of the first field of a name is the first value of the name
pub first-value : (k : Known) (fs : List Field) (one : ℕ × List ℕ) → IsFirstFound k fs one → IsFirstOf (values k fs) (one.1)
-- the first field that is found gives the first value
first-value k fs one first = (map (λ x. x.1) first.0, found-values 1 k fs ∙ ap (map (λ x. x.1)) first.1)

-- values of Via, one after another, are elements
are-elements : (texts : List (List ℕ)) → AllByRecursion (Row (known known_name.Via)) texts → (es : List SaidVia) × ViasTell texts es
-- of no values there are no elements
are-elements [] rows = ([], refl)
are-elements (text ∷ texts) (now, rows) =
    -- `later` is the elements of the values after the first
    let later = are-elements texts rows in
    (now.0 ++ later.0, (now.0, later.0, now.1, later.1, refl))

-- one value of Via or more, one after another, are elements, at least one
first-elements : (text : List ℕ) (texts : List (List ℕ)) → AllByRecursion (Row (known known_name.Via)) (text ∷ texts) → (e : SaidVia) × (es : List SaidVia) × ViasTell (text ∷ texts) (e ∷ es)
-- a value has one element at least
first-elements text texts (([], none), rows) = absurd none
first-elements text texts ((e ∷ now, is), rows) =
    -- `later` is the elements of the values after the first
    let later = are-elements texts rows in
    (e, now ++ later.0, (e ∷ now, later.0, is, later.1, refl))

-- where each field is of its row, the first value of a name is of the row of the name
pub row-of : (k : Known) (fs : List Field) (text : List ℕ) → AllByRecursion (λ f. Row f.name f.value) fs → IsFirstOf (values k fs) text → Row (known k) text
-- all values are of the row, and so is the first
row-of k fs text rows is = (subst (AllByRecursion (Row (known k))) is.1 (row-values k fs rows)).0

-- a message has the parts of its named fields
pub has-parts : (bytes : List ℕ) (m : Message) → MessageText bytes m → (p : Parts) × HasParts m.fields p
has-parts bytes m text =
    -- each field is of its row; the first value of each name stands where the demands of a message have it
    let rows = fields-rows text.others m.fields text.are_fields in
    let via = first-value known_name.Via m.fields text.fits.via.0 text.fits.via.1 in
    let from = first-value known_name.From m.fields text.fits.from.0 text.fits.from.1 in
    let to = first-value known_name.To m.fields text.fits.to.0 text.fits.to.1 in
    let call_id = first-value known_name.CallId m.fields text.fits.call_id.0 text.fits.call_id.1 in
    let cseq = first-value known_name.CSeq m.fields text.fits.cseq.0 text.fits.cseq.1 in
    -- the values of Via and the CSeq are of their rows
    let vias = first-elements _ via.0 (subst (AllByRecursion (Row (known known_name.Via))) via.1 (row-values known_name.Via m.fields rows)) in
    let cseq_row = row-of known_name.CSeq m.fields _ rows cseq in (
      -- the parts are those that the values say
      record { via = vias.0; others = vias.1; from = text.fits.from.0.1; to = text.fits.to.0.1; call_id = text.fits.call_id.0.1; cseq = cseq_row.0 },
      record {
        vias = subst (λ t. ViasTell t (vias.0 ∷ vias.1)) (sym via.1) vias.2;
        from = from;
        to = to;
        call_id = call_id;
        cseq = (text.fits.cseq.0.1, cseq, cseq_row.1);
      },
    )
