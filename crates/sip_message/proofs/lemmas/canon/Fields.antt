-- The canonical form of fields that are appended one after another.
-- `after_end` is a line after the end of the line before it; `fields_text may_fold` is the text of fields, whose values are unfolded only where they may fold.
use Rattle.std.proofs.Common.{◌≡◌, ℕ, Bool, true, false, List, [], ◌∷◌, ◌++◌, map, refl, sym, ap, ap₂, ◌∙◌}
use Rattle.std.specs.List.{flat_map}
use Rattle.std.proofs.lemmas.List.{append_assoc, append-nil}
use Rattle.sip_text.specs.Bytes.{crlf, colon, space}
use Rattle.sip_message.specs.inner.Lines.{with_end}
use Rattle.sip_message.specs.inner.Canon.{name_text, after_end, field_text, fields_text, canon, Appends}
use Rattle.sip_message.specs.Field.{Field}
use Rattle.sip_message.specs.inner.MessageText.{AreUnfolded, unfolded_field, message_of}
use Rattle.sip_message.specs.Message.{Message}
use Rattle.sip_standard.specs.Canonical.{start_text}
use Rattle.std.specs.Prelude.{Result, Ok, Err, IsErr}
use Rattle.std.proofs.lemmas.Bool.{both_ways}

-- where `front` was appended, and then a part of what follows it, and the call fails, a part of the whole text was appended
pub appended-part : {A E : Type 0} (r : Result A E) (old front out new text : List ℕ) → IsErr r → out ≡ old ++ front → (part : List ℕ) × (new ≡ out ++ part) → Appends old new text r
-- the call would have given a value
appended-part (Ok a) old front out new text err so_far part = absurd (both_ways false refl err)
-- the front was appended, and a part of what follows it
appended-part (Err e) old front out new text err so_far part = (front ++ part.0, part.1 ∙ ap (λ t. t ++ part.0) so_far ∙ append_assoc old front part.0)

-- where fields that are written as they are have no fold, their text is that of the fields unfolded
pub fields-same : (may_fold : Bool) (fields : List Field) → (may_fold ≡ false → AreUnfolded fields) → fields_text may_fold fields ≡ fields_text true fields
-- fields that may be folded are written unfolded in any case
fields-same true fields are = refl
-- the others have no fold
fields-same false fields are = each fields (are refl)
  where
    -- a value that is not folded is written as it is
    each : (fs : List Field) → AreUnfolded fs → fields_text false fs ≡ fields_text true fs
    -- without fields there is no text
    each [] all = refl
    -- the value of the first field, unfolded, is the value itself
    each (f ∷ fs) all = ap₂ (λ (value more : List ℕ). after_end (name_text f.name ++ colon ∷ space ∷ value) ++ more) (sym all.0) (each fs all.1)

-- lines with their ends are the first line, then each other one after the end of the line before it, and then the end of the last one
pub ends-between : (line : List ℕ) (lines : List (List ℕ)) (rest : List ℕ) → flat_map with_end (line ∷ lines) ++ rest ≡ line ++ (flat_map after_end lines ++ (crlf ++ rest))
-- one line alone: its end is the last one
ends-between line [] rest = ap (λ t. t ++ rest) (append-nil (with_end line)) ∙ append_assoc line crlf rest
ends-between line (next ∷ lines) rest =
    -- after the first line stand its end and the next line, and so on up to the end of the last one
    append_assoc (with_end line) (flat_map with_end (next ∷ lines)) rest
    ∙ append_assoc line crlf (flat_map with_end (next ∷ lines) ++ rest)
    ∙ ap (λ t. line ++ (crlf ++ t)) (ends-between next lines rest)
    ∙ ap (λ t. line ++ t) (sym (append_assoc (after_end next) (flat_map after_end lines) (crlf ++ rest) ∙ append_assoc crlf next (flat_map after_end lines ++ (crlf ++ rest))))

-- where a start line, fields and two line ends were appended one after another, and then the body, or a part of it where memory is refused, the
-- whole form was appended, or a part of it
pub form-appended : {A E : Type 0} (r : Result A E) (old started listed ended new : List ℕ) (m : Message) (may_fold : Bool) → (may_fold ≡ false → AreUnfolded m.fields) → started ≡ old ++ start_text m.start
    → listed ≡ started ++ fields_text may_fold m.fields → ended ≡ listed ++ (crlf ++ crlf) → Appends ended new m.body r → Appends old new (canon (message_of m)) r
form-appended r old started listed ended new m may_fold are started_is listed_is ended_is = by r
  where
    -- what was appended before the body
    front : List ℕ
    front = (start_text m.start ++ fields_text may_fold m.fields) ++ (crlf ++ crlf)

    -- it was appended to what stood there
    so_far : ended ≡ old ++ front
    so_far =
        -- the start line was appended, then the fields, and then the two line ends
        ended_is ∙ ap (λ t. t ++ (crlf ++ crlf)) (listed_is ∙ ap (λ t. t ++ fields_text may_fold m.fields) started_is ∙ append_assoc old (start_text m.start) (fields_text may_fold m.fields))
        ∙ append_assoc old (start_text m.start ++ fields_text may_fold m.fields) (crlf ++ crlf)

    -- with the body it is the canonical form
    whole : front ++ m.body ≡ canon (message_of m)
    whole =
        -- the brackets are set anew, and the fields that are written as they are have the text of the unfolded ones
        append_assoc (start_text m.start ++ fields_text may_fold m.fields) (crlf ++ crlf) m.body ∙ append_assoc (start_text m.start) (fields_text may_fold m.fields) (crlf ++ (crlf ++ m.body))
        ∙ ap (λ t. start_text m.start ++ (t ++ (crlf ++ (crlf ++ m.body)))) (fields-same may_fold m.fields are)
        ∙ sym (ends-between (start_text m.start) (map field_text (map unfolded_field m.fields)) (crlf ++ m.body))

    -- the claim holds whether or not memory was refused
    by : {A E : Type 0} (r : Result A E) → Appends ended new m.body r → Appends old new (canon (message_of m)) r
    -- memory was not refused: all was appended
    by (Ok a) is = is ∙ ap (λ t. t ++ m.body) so_far ∙ append_assoc old front m.body ∙ ap (λ t. old ++ t) whole
    -- memory was refused: a part of the body was appended
    by (Err e) part = (front ++ part.0, part.1 ∙ ap (λ t. t ++ part.0) so_far ∙ append_assoc old front part.0)
