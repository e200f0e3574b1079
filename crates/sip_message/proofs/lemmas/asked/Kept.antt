-- What the first Via and the first CSeq say, with a further field.
-- In the lemmas k is a known name and f a field; r is what was read of a value, if anything, and b whether something was.
-- `SaysFirst` is what the first of some values says, or None; `KeptOf` says that what is kept is what the first Via and the first CSeq of some fields say, and
-- `KeepsMore f a b` that where a is kept of some fields, b is kept of them and f.
use Rattle.std.proofs.Common.{◌≡◌, ◌↔◌, ℕ, List, [], ◌∷◌, ◌++◌, Bool, true, false, cond, Option, None, Some, refl, sym, ap, ◌∙◌, subst}
use Rattle.std.specs.Prelude.{IsTrue, IsSome, is_some}
use Rattle.std.specs.Option.{option_map, option_or}
use Rattle.std.proofs.lemmas.Bool.{false≢true}
use Rattle.std.proofs.lemmas.List.{append-nil}
use Rattle.sip_message.specs.declared.kept.Kept.{Kept}
use Rattle.sip_message.specs.declared.via.Via.{Via}
use Rattle.sip_message.specs.declared.values.CSeq.{CSeq}
use Rattle.sip_message.specs.declared.name.Known.{Known}
use Rattle.sip_message.specs.declared.name.Known.TheVariants as known_name
use Rattle.sip_message.specs.Name.{known, is_name_of}
use Rattle.sip_message.specs.Field.{Field, values}
use Rattle.sip_message.specs.inner.FieldText.{Row}
use Rattle.sip_message.specs.inner.Values.{CSeqValue}
use Rattle.sip_message.specs.ValueParts.{cseq_parts, element}
use Rattle.sip_message.specs.inner.ElementFronts.{FirstVia}
use Rattle.sip_message.specs.inner.Kept.{SaysFirst, KeptOf, KeepsMore}
use Rattle.sip_message.proofs.lemmas.via.Value.{first-none}
use Rattle.sip_standard.specs.Says.{IsFirstOf}
use Rattle.sip_message.specs.inner.Only.{IsOnlyValue}
use Rattle.std.proofs.lemmas.Option.{same_Some}

-- the values of a name in some fields and a further one are those in the first, and then the value of the further one, if it has the name
values-more : (k : Known) (fields : List Field) (f : Field) → values k (fields ++ f ∷ []) ≡ values k fields ++ values k (f ∷ [])
values-more k [] f = refl
values-more k (g ∷ fields) f = at (is_name_of k g.name) (values-more k fields f)
  where
    -- the claim holds whether or not the first field has the name
    at : (b : Bool) → values k (fields ++ f ∷ []) ≡ values k fields ++ values k (f ∷ []) → cond b (g.value ∷ values k (fields ++ f ∷ [])) (values k (fields ++ f ∷ [])) ≡ cond b (g.value ∷ values k fields) (values k fields) ++ values k (f ∷ [])
    -- it has the name, so its value comes first; or it has not
    at true later = ap (λ t. g.value ∷ t) later
    at false later = later

-- with a further field of another name, what the first field of a name says stays
says-passed : {X : Type 0} (R : List ℕ → X → Type 0) (k : Known) (fields : List Field) (f : Field) (old new : Option X) → is_name_of k f.name ≡ false → new ≡ old → SaysFirst R (values k fields) old → SaysFirst R (values k (fields ++ f ∷ [])) new
says-passed R k fields f old new other same says =
    subst (λ o. SaysFirst R (values k (fields ++ f ∷ [])) o) (sym same)
    -- the further field has no value of the name
    (subst (λ vs. SaysFirst R vs old) (sym (values-more k fields f ∙ ap (λ b. values k fields ++ cond b (f.value ∷ []) []) other ∙ append-nil (values k fields))) says)

-- with a further field of the name, what the first field of the name says stays, and is what the further one says where there was none
-- k is the name, f the further field, and x what its value says by R
says-found : {X : Type 0} (R : List ℕ → X → Type 0) (k : Known) (fields : List Field) (f : Field) (old new : Option X) (x : X) → is_name_of k f.name ≡ true → R f.value x → new ≡ option_or old (Some x) → SaysFirst R (values k fields) old → SaysFirst R (values k (fields ++ f ∷ [])) new
says-found {X = X} R k fields f old new x named said is says =
    -- the further field adds its value at the end
    subst (λ vs. SaysFirst R vs new) (sym (values-more k fields f ∙ ap (λ b. values k fields ++ cond b (f.value ∷ []) []) named)) (at (values k fields) old says is)
  where
    -- the claim holds whether or not a former field has the name
    at : (vs : List (List ℕ)) (o : Option X) → SaysFirst R vs o → new ≡ option_or o (Some x) → SaysFirst R (vs ++ f.value ∷ []) new
    -- there was no value: the further one is the first
    at [] o none new_is = (x, said, new_is ∙ ap (λ p. option_or p (Some x)) none)
    -- v was the first value, and stays it
    at (v ∷ vs) o (y, says_y, o_is) new_is = (y, says_y, new_is ∙ ap (λ p. option_or p (Some x)) o_is)

-- the parts of the first of two options are the first of their parts
pub map-or : {A X : Type 0} (parts : A → X) (o p : Option A) → option_map parts (option_or o p) ≡ option_or (option_map parts o) (option_map parts p)
-- without a first option it is the second
map-or parts None p = refl
map-or parts (Some a) p = refl

-- a text is a value of Via exactly if a first element is read of it
pub via-row : (text : List ℕ) (r : Option Via) (b : Bool) → b ≡ is_some r → IsOnlyValue FirstVia element text r → IsTrue b ↔ Row (known known_name.Via) text
-- nothing is read, so it is no value of Via
via-row text None b is none = (λ so. absurd (false≢true (sym is ∙ so)), λ row. absurd (first-none text none row))
via-row text (Some v) b is read = (λ _. (element v ∷ read.0.0, read.0.1), λ _. is)

-- with a further Via, what the first one says is kept
pub via-keeps : (f : Field) (r : Option Via) (b : Bool) (old new : Kept) → f.name ≡ known known_name.Via → b ≡ is_some r → IsOnlyValue FirstVia element f.value r → new.via ≡ option_or old.via r → new.cseq ≡ old.cseq → IsTrue b → KeepsMore f old new
-- nothing was read, which was excluded
via-keeps f None b old new named is none via cseq so fields kept = absurd (false≢true (sym is ∙ so))
via-keeps f (Some v) b old new named is read via cseq so fields kept = record {
  -- what is kept of the Via is the former one, or this one; what is kept of the CSeq stays
  via = says-found FirstVia known_name.Via fields f (option_map element old.via) (option_map element new.via) (element v) (ap (is_name_of known_name.Via) named) read.0 (ap (option_map element) via ∙ map-or element old.via (Some v)) kept.via;
  cseq = says-passed CSeqValue known_name.CSeq fields f (option_map cseq_parts old.cseq) (option_map cseq_parts new.cseq) (ap (is_name_of known_name.CSeq) named) (ap (option_map cseq_parts) cseq) kept.cseq;
}

-- a text is a value of CSeq exactly if a number and a method are read of it
pub cseq-row : (text : List ℕ) (r : Option CSeq) (b : Bool) → b ≡ is_some r → IsOnlyValue CSeqValue cseq_parts text r → IsTrue b ↔ Row (known known_name.CSeq) text
-- nothing is read, so it is no value of CSeq
cseq-row text None b is none = (λ so. absurd (false≢true (sym is ∙ so)), λ row. absurd (none row.0 row.1))
cseq-row text (Some c) b is read = (λ _. (cseq_parts c, read.0), λ _. is)

-- with a further CSeq, what the first one says is kept
pub cseq-keeps : (f : Field) (r : Option CSeq) (b : Bool) (old new : Kept) → f.name ≡ known known_name.CSeq → b ≡ is_some r → IsOnlyValue CSeqValue cseq_parts f.value r → new.cseq ≡ option_or old.cseq r → new.via ≡ old.via → IsTrue b → KeepsMore f old new
-- nothing was read, which was excluded
cseq-keeps f None b old new named is none cseq via so fields kept = absurd (false≢true (sym is ∙ so))
cseq-keeps f (Some c) b old new named is read cseq via so fields kept = record {
  -- what is kept of the Via stays; what is kept of the CSeq is the former one, or this one
  via = says-passed FirstVia known_name.Via fields f (option_map element old.via) (option_map element new.via) (ap (is_name_of known_name.Via) named) (ap (option_map element) via) kept.via;
  cseq = says-found CSeqValue known_name.CSeq fields f (option_map cseq_parts old.cseq) (option_map cseq_parts new.cseq) (cseq_parts c) (ap (is_name_of known_name.CSeq) named) read.0 (ap (option_map cseq_parts) cseq ∙ map-or cseq_parts old.cseq (Some c)) kept.cseq;
}

-- a field that is neither a Via nor a CSeq changes nothing of what is kept
pub other-keeps : (f : Field) (kept : Kept) → (is_name_of known_name.Via f.name ≡ false) × (is_name_of known_name.CSeq f.name ≡ false) → KeepsMore f kept kept
other-keeps f kept other fields of = record {
  -- the field has neither name, so what the first field of each says stays
  via = says-passed FirstVia known_name.Via fields f (option_map element kept.via) (option_map element kept.via) other.0 refl of.via;
  cseq = says-passed CSeqValue known_name.CSeq fields f (option_map cseq_parts kept.cseq) (option_map cseq_parts kept.cseq) other.1 refl of.cseq;
}

-- a field of a known name other than Via and CSeq changes nothing of what is kept
pub named-keeps : (k : Known) (f : Field) (kept : Kept) → f.name ≡ known k → (is_name_of known_name.Via (known k) ≡ false) × (is_name_of known_name.CSeq (known k) ≡ false) → KeepsMore f kept kept
named-keeps k f kept named other = other-keeps f kept (ap (is_name_of known_name.Via) named ∙ other.0, ap (is_name_of known_name.CSeq) named ∙ other.1)

-- where a name has a first value, what it says is there
-- vs are the values of the name, of which `text` is the first; o is what is kept of it, R relates a text to what it says, and x is what this one says
says-some : {A X : Type 0} (R : List ℕ → X → Type 0) (parts : A → X) (vs more : List (List ℕ)) (text : List ℕ) (o : Option A) → SaysFirst R vs (option_map parts o) → vs ≡ text ∷ more → (x : X) × R text x × (option_map parts o ≡ Some x)
says-some R parts vs more text o says is = subst (λ l. SaysFirst R l (option_map parts o)) is says

-- where the parts of what o holds are x, o holds something
is-some : {A X : Type 0} (parts : A → X) (o : Option A) (x : X) → option_map parts o ≡ Some x → IsSome o
-- o has nothing, which has no parts
is-some parts None x is = absurd (false≢true (ap is_some is))
is-some parts (Some a) x is = refl

-- where o holds a, and parts makes of it an x of which R holds, R holds of what parts makes of a
some-is : {A X : Type 0} (R : X → Type 0) (parts : A → X) (o : Option A) (a : A) (x : X) → o ≡ Some a → option_map parts o ≡ Some x → R x → R (parts a)
some-is R parts o a x o_is is said =
    -- x and the parts of a are both the parts of what o holds
    let same : Some x ≡ Some (parts a) = sym is ∙ ap (option_map parts) o_is in
    subst R (same_Some x (parts a) same) said

-- where the fields have a Via, an element of it is kept
pub via-some : (fields : List Field) (kept : Kept) (text : List ℕ) → KeptOf fields kept → IsFirstOf (values known_name.Via fields) text → IsSome kept.via
via-some fields kept text of first = let said = says-some FirstVia element _ first.0 text kept.via of.via first.1 in is-some element kept.via said.0 said.2

-- the element that is kept is the first of the first Via
pub via-is : (fields : List Field) (kept : Kept) (text : List ℕ) (v : Via) → KeptOf fields kept → IsFirstOf (values known_name.Via fields) text → kept.via ≡ Some v → FirstVia text (element v)
via-is fields kept text v of first is =
    -- `said` is what the first Via says, and that it is kept
    let said = says-some FirstVia element _ first.0 text kept.via of.via first.1 in
    some-is (FirstVia text) element kept.via v said.0 is said.2 said.1

-- where the fields have a CSeq, its number and method are kept
pub cseq-some : (fields : List Field) (kept : Kept) (text : List ℕ) → KeptOf fields kept → IsFirstOf (values known_name.CSeq fields) text → IsSome kept.cseq
cseq-some fields kept text of first = let said = says-some CSeqValue cseq_parts _ first.0 text kept.cseq of.cseq first.1 in is-some cseq_parts kept.cseq said.0 said.2

-- the number and the method that are kept are those of the first CSeq
pub cseq-is : (fields : List Field) (kept : Kept) (text : List ℕ) (c : CSeq) → KeptOf fields kept → IsFirstOf (values known_name.CSeq fields) text → kept.cseq ≡ Some c → CSeqValue text (cseq_parts c)
cseq-is fields kept text c of first is =
    -- `said` is what the first CSeq says, and that it is kept
    let said = says-some CSeqValue cseq_parts _ first.0 text kept.cseq of.cseq first.1 in
    some-is (CSeqValue text) cseq_parts kept.cseq c said.0 is said.2 said.1
