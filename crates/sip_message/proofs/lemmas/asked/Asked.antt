-- What is kept of the fields that are asked for, one field after another.
-- In the lemmas f is the further field, g the first of the fields before it, and n the number of a line.
-- `OnceSays` is what the one field of a name says, and `FirstSays` what the first one says, or None where there is none; `AsksMore f a b` says that where a is
-- kept of some fields, b is kept of them and f.
use Rattle.std.proofs.Common.{◌≡◌, ℕ, ◌+◌, Bool, true, false, List, [], ◌∷◌, ◌++◌, cond, Option, None, Some, option_copied, refl, sym, ap, ◌∙◌, subst}
use Rattle.std.specs.Prelude.{IsTrue, IsSome, IfSome, is_some}
use Rattle.std.specs.Borrow.{Bor}
use Rattle.std.specs.List.{AllByRecursion}
use Rattle.std.specs.Option.{option_map, option_or}
use Rattle.std.specs.Str.Parse.{digits_value}
use Rattle.std.proofs.lemmas.Bool.{false≢true}
use Rattle.std.proofs.lemmas.List.{append-nil}
use Rattle.sip_message.specs.declared.asked.Asked.{Asked}
use Rattle.sip_message.specs.declared.name.Known.{Known}
use Rattle.sip_message.specs.declared.name.Known.TheVariants as known_name
use Rattle.sip_message.specs.declared.values.CSeq.{CSeq}
use Rattle.sip_message.specs.declared.via.Via.{Via}
use Rattle.sip_message.specs.Name.{known, is_name_of}
use Rattle.sip_message.specs.Field.{Field}
use Rattle.sip_message.specs.inner.FieldText.{Row}
use Rattle.sip_standard.specs.Body.{length_in}
use Rattle.sip_message.specs.inner.MessageText.{found, found_from, IsFirstFound, content_length}
use Rattle.sip_message.specs.inner.Values.{CSeqValue, Digits}
use Rattle.sip_message.specs.ValueParts.{cseq_parts, element}
use Rattle.sip_message.specs.inner.ElementFronts.{FirstVia}
use Rattle.sip_message.specs.inner.Asked.{OnceSays, FirstSays, Itself, AsksMore}
use Rattle.sip_message.proofs.lemmas.asked.Parts.{row-of, first-value}
use Rattle.sip_message.specs.inner.Only.{IsOnlyValue}
use Rattle.sip_message.proofs.lemmas.asked.Kept.{map-or}

-- the fields of a name among some fields and a further one are those among the first, and then the further one, if it has the name
found-more : (n : ℕ) (k : Known) (fields : List Field) (f : Field) → (line : ℕ) × (found_from n k (fields ++ f ∷ []) ≡ found_from n k fields ++ found_from line k (f ∷ []))
-- among no fields nothing is found
found-more n k [] f = (n, refl)
found-more n k (g ∷ fields) f = let later = found-more (n + 1) k fields f in (later.0, at (is_name_of k g.name) _ _ _ later.1)
  where
    -- the claim holds whether or not the first field has the name
    -- b is whether it has the name; xs are what is found of the other fields, which are ys and then zs
    at : (b : Bool) (xs ys zs : List (ℕ × List ℕ)) → xs ≡ ys ++ zs → cond b ((n, g.value) ∷ xs) xs ≡ cond b ((n, g.value) ∷ ys) ys ++ zs
    at true xs ys zs is = ap (λ t. (n, g.value) ∷ t) is
    at false xs ys zs is = is

-- What follows is of some fields and one field f more, and of what the fields of the name k say; R relates a value to what it says.
module _ {X : Type 0} (R : List ℕ → X → Type 0) (k : Known) (fields : List Field) (f : Field) where
  -- a further field of another name adds nothing to the fields of the name that are found
  found-passed : is_name_of k f.name ≡ false → found k (fields ++ f ∷ []) ≡ found k fields
  found-passed other =
      let more = found-more 1 k fields f in
      -- the further field does not have the name, so that nothing is added
      more.1 ∙ ap (λ b. found k fields ++ cond b ((more.0, f.value) ∷ []) []) other ∙ append-nil (found k fields)

  -- a field of another name does not change what the one field of a name says
  once-passed : (said : Option X) → is_name_of k f.name ≡ false → OnceSays R k fields said → OnceSays R k (fields ++ f ∷ []) said
  -- nothing was said, or the value of one field
  once-passed None other none = found-passed other ∙ none
  once-passed (Some x) other (one, is, says) = (one, found-passed other ∙ is, says)

  -- a field of another name does not change what the first field of a name says
  first-passed : (said : Option X) → is_name_of k f.name ≡ false → FirstSays R k fields said → FirstSays R k (fields ++ f ∷ []) said
  -- nothing was said, or the value of the first field
  first-passed None other none = found-passed other ∙ none
  first-passed (Some x) other (one, (more, is), says) = (one, (more, found-passed other ∙ is), says)

  -- a further field of the name is the last of the fields of the name that are found
  found-also : is_name_of k f.name ≡ true → (line : ℕ) × (found k (fields ++ f ∷ []) ≡ found k fields ++ (line, f.value) ∷ [])
  found-also named = let more = found-more 1 k fields f in (more.0, more.1 ∙ ap (λ b. found k fields ++ cond b ((more.0, f.value) ∷ []) []) named)

  -- where no field of the name was there, a further one with the name is the one field, and what it says is said
  once-also : (old new : Option X) (x : X) → is_name_of k f.name ≡ true → R f.value x → old ≡ None → new ≡ Some x → OnceSays R k fields old → OnceSays R k (fields ++ f ∷ []) new
  once-also old new x named says none some so =
      -- the further field is found after the former ones, which are none
      let also = found-also named in
      let before : found k fields ≡ [] = subst (OnceSays R k fields) none so in
      subst (OnceSays R k (fields ++ f ∷ [])) (sym some) ((also.0, f.value), also.1 ∙ ap (λ t. t ++ (also.0, f.value) ∷ []) before, says)

  -- what the first field of a name says stays with a further one, and is what that says where there was none
  first-also : (old new : Option X) (x : X) → is_name_of k f.name ≡ true → R f.value x → new ≡ option_or old (Some x) → FirstSays R k fields old → FirstSays R k (fields ++ f ∷ []) new
  first-also old new x named says is so = subst (FirstSays R k (fields ++ f ∷ [])) (sym is) (at old so)
    where
      -- the claim holds whether or not a former field has the name
      at : (o : Option X) → FirstSays R k fields o → FirstSays R k (fields ++ f ∷ []) (option_or o (Some x))
      -- no field of the name was there: the further one is the first
      at None none = let also = found-also named in ((also.0, f.value), ([], also.1 ∙ ap (λ t. t ++ (also.0, f.value) ∷ []) none), says)
      -- one was there, and stays the first
      at (Some y) (one, (more, found_is), says_y) = let also = found-also named in (one, (more ++ (also.0, f.value) ∷ [], also.1 ∙ ap (λ t. t ++ (also.0, f.value) ∷ []) found_is), says_y)

-- a field whose name is not asked for changes nothing of what is kept
pub asks-other : (f : Field) (a : Asked) → (is_name_of known_name.Via f.name ≡ false) × (is_name_of known_name.From f.name ≡ false) × (is_name_of known_name.To f.name ≡ false)
    × (is_name_of known_name.CallId f.name ≡ false) × (is_name_of known_name.CSeq f.name ≡ false) × (is_name_of known_name.ContentLength f.name ≡ false) → AsksMore f a a
asks-other f a (via, from, to, call_id, cseq, content_length) fields of = record {
  -- each kept part is as before, since the field does not have its name
  via = first-passed FirstVia known_name.Via fields f (option_map element a.via) via of.via;
  from = once-passed Itself known_name.From fields f (option_copied a.from) from of.from;
  to = once-passed Itself known_name.To fields f (option_copied a.to) to of.to;
  call_id = once-passed Itself known_name.CallId fields f (option_copied a.call_id) call_id of.call_id;
  cseq = once-passed CSeqValue known_name.CSeq fields f (option_map cseq_parts a.cseq) cseq of.cseq;
  content_length = once-passed Itself known_name.ContentLength fields f (option_copied a.content_length) content_length of.content_length;
}

-- where o has no value, the first of o and p is p
pub or-none : {X : Type 0} (o p : Option X) → is_some o ≡ false → p ≡ option_or o p
-- the first of None and p is p
or-none None p none = refl
-- o has a value, which was excluded
or-none (Some x) p none = absurd (false≢true (sym none))

-- where the value of a Via says something, what the first Via says is kept with that Via
pub asks-via : (f : Field) (a : Asked) (r via : Option Via) (b : Bool) → f.name ≡ known known_name.Via → b ≡ is_some r → IsOnlyValue FirstVia element f.value r → via ≡ option_or a.via r → IsTrue b
    → AsksMore f a (record { via = via; from = a.from; to = a.to; call_id = a.call_id; cseq = a.cseq; content_length = a.content_length })
-- nothing was read of the value, which was excluded
asks-via f a None via b named is none via_is so fields of = absurd (false≢true (sym is ∙ so))
asks-via f a (Some v) via b named is read via_is so fields of = record {
  -- what the first Via says stays, or is what this one says
  via = first-also FirstVia known_name.Via fields f (option_map element a.via) (option_map element via) (element v) (ap (is_name_of known_name.Via) named) read.0 (ap (option_map element) via_is ∙ map-or element a.via (Some v)) of.via;
  -- for the other names nothing changes
  from = once-passed Itself known_name.From fields f (option_copied a.from) (ap (is_name_of known_name.From) named) of.from;
  to = once-passed Itself known_name.To fields f (option_copied a.to) (ap (is_name_of known_name.To) named) of.to;
  call_id = once-passed Itself known_name.CallId fields f (option_copied a.call_id) (ap (is_name_of known_name.CallId) named) of.call_id;
  cseq = once-passed CSeqValue known_name.CSeq fields f (option_map cseq_parts a.cseq) (ap (is_name_of known_name.CSeq) named) of.cseq;
  content_length = once-passed Itself known_name.ContentLength fields f (option_copied a.content_length) (ap (is_name_of known_name.ContentLength) named) of.content_length;
}

-- where a CSeq says something, and none is kept yet, what it says is kept
pub asks-cseq : (f : Field) (a : Asked) (r cseq : Option CSeq) → f.name ≡ known known_name.CSeq → IsSome r → IsOnlyValue CSeqValue cseq_parts f.value r → (a.cseq ≡ None) × (cseq ≡ r)
    → AsksMore f a (record { via = a.via; from = a.from; to = a.to; call_id = a.call_id; cseq = cseq; content_length = a.content_length })
-- nothing was read of the value, which was excluded
asks-cseq f a None cseq named some none is fields of = absurd (false≢true some)
asks-cseq f a (Some c) cseq named some read (none, is) fields of = record {
  -- for the names before CSeq nothing changes
  via = first-passed FirstVia known_name.Via fields f (option_map element a.via) (ap (is_name_of known_name.Via) named) of.via;
  from = once-passed Itself known_name.From fields f (option_copied a.from) (ap (is_name_of known_name.From) named) of.from;
  to = once-passed Itself known_name.To fields f (option_copied a.to) (ap (is_name_of known_name.To) named) of.to;
  call_id = once-passed Itself known_name.CallId fields f (option_copied a.call_id) (ap (is_name_of known_name.CallId) named) of.call_id;
  -- the CSeq is kept, and for the other names nothing changes
  cseq = once-also CSeqValue known_name.CSeq fields f (option_map cseq_parts a.cseq) (option_map cseq_parts cseq) (cseq_parts c) (ap (is_name_of known_name.CSeq) named) read.0 (ap (option_map cseq_parts) none) (ap (option_map cseq_parts) is) of.cseq;
  content_length = once-passed Itself known_name.ContentLength fields f (option_copied a.content_length) (ap (is_name_of known_name.ContentLength) named) of.content_length;
}

-- What follows is of one more field f, whose value is kept, and of what was kept before it, which is a.
module _ (f : Field) (a : Asked) (value : Bor (List ℕ)) (kept : Option (Bor (List ℕ))) (value_is : value.now ≡ f.value) (is : kept ≡ Some value) where
  -- the value of a From is kept where none is kept yet
  pub asks-from : f.name ≡ known known_name.From → a.from ≡ None → AsksMore f a (record { via = a.via; from = kept; to = a.to; call_id = a.call_id; cseq = a.cseq; content_length = a.content_length })
  asks-from named none fields of = record {
    -- the value of From is kept, and for the other names nothing changes
    via = first-passed FirstVia known_name.Via fields f (option_map element a.via) (ap (is_name_of known_name.Via) named) of.via;
    from = once-also Itself known_name.From fields f (option_copied a.from) (option_copied kept) value.now (ap (is_name_of known_name.From) named) value_is (ap option_copied none) (ap option_copied is) of.from;
    to = once-passed Itself known_name.To fields f (option_copied a.to) (ap (is_name_of known_name.To) named) of.to;
    call_id = once-passed Itself known_name.CallId fields f (option_copied a.call_id) (ap (is_name_of known_name.CallId) named) of.call_id;
    cseq = once-passed CSeqValue known_name.CSeq fields f (option_map cseq_parts a.cseq) (ap (is_name_of known_name.CSeq) named) of.cseq;
    content_length = once-passed Itself known_name.ContentLength fields f (option_copied a.content_length) (ap (is_name_of known_name.ContentLength) named) of.content_length;
  }

  -- the value of a To is kept where none is kept yet
  pub asks-to : f.name ≡ known known_name.To → a.to ≡ None → AsksMore f a (record { via = a.via; from = a.from; to = kept; call_id = a.call_id; cseq = a.cseq; content_length = a.content_length })
  asks-to named none fields of = record {
    -- the value of To is kept, and for the other names nothing changes
    via = first-passed FirstVia known_name.Via fields f (option_map element a.via) (ap (is_name_of known_name.Via) named) of.via;
    from = once-passed Itself known_name.From fields f (option_copied a.from) (ap (is_name_of known_name.From) named) of.from;
    to = once-also Itself known_name.To fields f (option_copied a.to) (option_copied kept) value.now (ap (is_name_of known_name.To) named) value_is (ap option_copied none) (ap option_copied is) of.to;
    call_id = once-passed Itself known_name.CallId fields f (option_copied a.call_id) (ap (is_name_of known_name.CallId) named) of.call_id;
    cseq = once-passed CSeqValue known_name.CSeq fields f (option_map cseq_parts a.cseq) (ap (is_name_of known_name.CSeq) named) of.cseq;
    content_length = once-passed Itself known_name.ContentLength fields f (option_copied a.content_length) (ap (is_name_of known_name.ContentLength) named) of.content_length;
  }

  -- the value of a Call-ID is kept where none is kept yet
  pub asks-call_id : f.name ≡ known known_name.CallId → a.call_id ≡ None → AsksMore f a (record { via = a.via; from = a.from; to = a.to; call_id = kept; cseq = a.cseq; content_length = a.content_length })
  asks-call_id named none fields of = record {
    -- the value of Call-ID is kept, and for the other names nothing changes
    via = first-passed FirstVia known_name.Via fields f (option_map element a.via) (ap (is_name_of known_name.Via) named) of.via;
    from = once-passed Itself known_name.From fields f (option_copied a.from) (ap (is_name_of known_name.From) named) of.from;
    to = once-passed Itself known_name.To fields f (option_copied a.to) (ap (is_name_of known_name.To) named) of.to;
    call_id = once-also Itself known_name.CallId fields f (option_copied a.call_id) (option_copied kept) value.now (ap (is_name_of known_name.CallId) named) value_is (ap option_copied none) (ap option_copied is) of.call_id;
    cseq = once-passed CSeqValue known_name.CSeq fields f (option_map cseq_parts a.cseq) (ap (is_name_of known_name.CSeq) named) of.cseq;
    content_length = once-passed Itself known_name.ContentLength fields f (option_copied a.content_length) (ap (is_name_of known_name.ContentLength) named) of.content_length;
  }

  -- the value of a Content-Length is kept where none is kept yet
  pub asks-content_length : f.name ≡ known known_name.ContentLength → a.content_length ≡ None → AsksMore f a (record { via = a.via; from = a.from; to = a.to; call_id = a.call_id; cseq = a.cseq; content_length = kept })
  asks-content_length named none fields of = record {
    -- the value of Content-Length is kept, and for the other names nothing changes
    via = first-passed FirstVia known_name.Via fields f (option_map element a.via) (ap (is_name_of known_name.Via) named) of.via;
    from = once-passed Itself known_name.From fields f (option_copied a.from) (ap (is_name_of known_name.From) named) of.from;
    to = once-passed Itself known_name.To fields f (option_copied a.to) (ap (is_name_of known_name.To) named) of.to;
    call_id = once-passed Itself known_name.CallId fields f (option_copied a.call_id) (ap (is_name_of known_name.CallId) named) of.call_id;
    cseq = once-passed CSeqValue known_name.CSeq fields f (option_map cseq_parts a.cseq) (ap (is_name_of known_name.CSeq) named) of.cseq;
    content_length = once-also Itself known_name.ContentLength fields f (option_copied a.content_length) (option_copied kept) value.now (ap (is_name_of known_name.ContentLength) named) value_is (ap option_copied none) (ap option_copied is) of.content_length;
  }

-- where something is kept of a name that stands once, it is what the one field of the name says
-- k is the name, R what a value says, o what is kept, if anything, and a this
pub once-one : {A X : Type 0} (R : List ℕ → X → Type 0) (k : Known) (fields : List Field) (parts : A → X) (o : Option A) (a : A) → o ≡ Some a → OnceSays R k fields (option_map parts o)
    → (one : ℕ × List ℕ) × (found k fields ≡ one ∷ []) × R (one.1) (parts a)
once-one R k fields parts o a is so = subst (λ p. OnceSays R k fields (option_map parts p)) is so

-- the one field of a name that was found says its text
pub copied-one : (k : Known) (fields : List Field) (o : Option (Bor (List ℕ))) (text : Bor (List ℕ)) → o ≡ Some text → OnceSays Itself k fields (option_copied o)
    → (one : ℕ × List ℕ) × (found k fields ≡ one ∷ []) × (text.now ≡ one.1)
copied-one k fields o text is so = subst (λ p. OnceSays Itself k fields (option_copied p)) is so

-- the first field of a name that was found says its parts
-- k is the name, R what a value says, o what is kept, if anything, and a this
pub first-one : {A X : Type 0} (R : List ℕ → X → Type 0) (k : Known) (fields : List Field) (parts : A → X) (o : Option A) (a : A) → o ≡ Some a → FirstSays R k fields (option_map parts o)
    → (one : ℕ × List ℕ) × IsFirstFound k fields one × R (one.1) (parts a)
first-one R k fields parts o a is so = subst (λ p. FirstSays R k fields (option_map parts p)) is so

-- where fields are of their rows, the value of the one Content-Length, if there is one, is digits
pub said-digits : (fields : List Field) (o : Option (List ℕ)) → AllByRecursion (λ f. Row f.name f.value) fields → OnceSays Itself known_name.ContentLength fields o → IfSome o Digits
-- there is no Content-Length
said-digits fields None rows none = tt
-- the row of Content-Length is digits
said-digits fields (Some x) rows (one, is, says) = subst Digits (sym says) (row-of known_name.ContentLength fields (one.1) rows (first-value known_name.ContentLength fields one ([], is)))

-- the number of the one Content-Length is the length that it says
pub said-length : (fields : List Field) (o : Option (List ℕ)) → OnceSays Itself known_name.ContentLength fields o → option_map (digits_value 10) o ≡ content_length fields
-- there is no Content-Length, and so no length
said-length fields None none = ap length_in (sym none)
said-length fields (Some x) (one, is, says) = ap (λ t. Some (digits_value 10 t)) says ∙ ap length_in (sym is)
