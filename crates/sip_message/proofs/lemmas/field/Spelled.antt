-- The names of fields by their spellings.
-- In the lemmas k is a known name, and `long` the name of a text in full.
use Rattle.std.proofs.Common.{◌≡◌, ℕ, Bool, true, false, cond, ◌||◌, List, [], ◌∷◌, refl, sym, ap, ◌∙◌}
use Rattle.std.specs.Bool.{Decides}
use Rattle.std.specs.Prelude.{bytes_eq, codes, if◌then◌else◌}
use Prim.Native.String.{String}
use Rattle.std.proofs.lemmas.Bool.{both_ways}
use Rattle.std.proofs.lemmas.Slice.Eq.{bytes_eq-Decides}
use Rattle.sip_standard.specs.Case.{folded}
use Rattle.sip_standard.specs.Canonical as form
use Rattle.sip_message.specs.declared.name.Known.{Known}
use Rattle.sip_message.specs.declared.name.Known.TheVariants as known_name
use Rattle.sip_message.specs.Name.{FieldName, known, other, long_name, known_names, name_in, name_of}
use Rattle.sip_message.specs.inner.Canon.{name_text}

-- each known name as it is spelled without case, and its compact form if it has one
abbrev pub spellings : List (List ℕ × Known)
spellings =
    (codes "via", known_name.Via) ∷ (codes "v", known_name.Via)
    ∷ (codes "from", known_name.From) ∷ (codes "f", known_name.From)
    ∷ (codes "to", known_name.To) ∷ (codes "t", known_name.To)
    ∷ (codes "call-id", known_name.CallId) ∷ (codes "i", known_name.CallId)
    ∷ (codes "cseq", known_name.CSeq)
    ∷ (codes "content-length", known_name.ContentLength) ∷ (codes "l", known_name.ContentLength)
    ∷ (codes "contact", known_name.Contact) ∷ (codes "m", known_name.Contact)
    ∷ (codes "content-encoding", known_name.ContentEncoding) ∷ (codes "e", known_name.ContentEncoding)
    ∷ (codes "content-type", known_name.ContentType) ∷ (codes "c", known_name.ContentType)
    ∷ (codes "subject", known_name.Subject) ∷ (codes "s", known_name.Subject)
    ∷ (codes "supported", known_name.Supported) ∷ (codes "k", known_name.Supported)
    ∷ (codes "route", known_name.Route) ∷ []

-- the name of a text by a list of spellings without case
abbrev pub name_by : List (List ℕ × Known) → List ℕ → FieldName
name_by [] text = other text
name_by ((spelling, name) ∷ more) text =
    if bytes_eq (folded text) spelling then known name else name_by more text

-- a text that spells no known name by a list is kept as it is spelled
pub name-other : (xs : List (List ℕ × Known)) (text t : List ℕ) → name_by xs text ≡ other t → text ≡ t
-- by an empty list each text is kept as it is spelled
name-other [] text t is = ap text_in is
  where
    -- the text of a name that is no known one
    text_in : FieldName → List ℕ
    text_in (known k) = []
    text_in (other u) = u
name-other (x ∷ xs) text t is = at (name-other xs text t) (bytes_eq (folded text) x.0) is
  where
    -- whether the name is no known one
    is_other : FieldName → Bool
    is_other (known k) = false
    is_other (other u) = true

    -- the claim holds whether or not the text is the first spelling
    at : (name_by xs text ≡ other t → text ≡ t) → (same : Bool) → cond same (known x.1) (name_by xs text) ≡ other t → text ≡ t
    -- a known name is not one that is kept as it is spelled; where the first spelling is another, the claim is that of the others
    at later true e = absurd (both_ways false refl (ap is_other e))
    at later false e = later e

-- where a name is written as a text, the choice of a known name or of it is written as the long form of the known one or as the text
one : (b : Bool) (k : Known) (name : FieldName) {text : List ℕ} → name_text name ≡ text → name_text (cond b (known k) name) ≡ cond b (long_name k) text
-- the test passes, so the known name is written
one true k name same = refl
-- the test fails, so the other name is written
one false k name same = same

-- a choice of a known name by one of two tests is written as the choice by both together
-- b and c are the two tests, and k is the known name
two : (b c : Bool) (k : Known) (name : FieldName) {text : List ℕ} → name_text name ≡ text → name_text (cond b (known k) (cond c (known k) name)) ≡ cond (b || c) (long_name k) text
two true c k name same = refl
two false true k name same = refl
-- neither passes, so the other name is written
two false false k name same = same

-- the name of a token by its spelling is written as the definitions write it
pub by-long : (token : List ℕ) → name_text (name_by spellings token) ≡ form.long_name token
by-long token =
    -- `has` says whether the token is this text, in any case of its letters
    let has = λ (text : String). bytes_eq (folded token) (codes text) in
    two (has "via") (has "v") known_name.Via _
    (two (has "from") (has "f") known_name.From _
    (two (has "to") (has "t") known_name.To _
    (two (has "call-id") (has "i") known_name.CallId _
    -- the names are told apart one after the other, as the definitions do
    (one (has "cseq") known_name.CSeq _
    (two (has "content-length") (has "l") known_name.ContentLength _
    (two (has "contact") (has "m") known_name.Contact _
    (two (has "content-encoding") (has "e") known_name.ContentEncoding _
    (two (has "content-type") (has "c") known_name.ContentType _
    (two (has "subject") (has "s") known_name.Subject _
    (two (has "supported") (has "k") known_name.Supported _
    (one (has "route") known_name.Route _ refl)))))))))))

-- where two texts differ, the test of equal bytes fails
pub miss : (f s : List ℕ) → (f ≡ s → ⊥) → bytes_eq f s ≡ false
miss f s differs = at (bytes_eq f s) (bytes_eq-Decides f s)
  where
    -- the test cannot pass, since the texts differ
    at : (b : Bool) → Decides b (f ≡ s) → b ≡ false
    at true is = absurd (differs (is.0 refl))
    at false is = refl

-- of the known names, the one that has a long form is found by it
long-found : (k : Known) (text : List ℕ) → name_in known_names (long_name k) text ≡ known k
-- each name is tried, by computing
long-found known_name.Via text = refl
long-found known_name.From text = refl
long-found known_name.To text = refl
long-found known_name.CallId text = refl
long-found known_name.CSeq text = refl
long-found known_name.ContentLength text = refl
long-found known_name.Contact text = refl
long-found known_name.ContentEncoding text = refl
long-found known_name.ContentType text = refl
long-found known_name.Subject text = refl
long-found known_name.Supported text = refl
long-found known_name.Route text = refl

-- by the spellings, the long form of a known name is that name
long-spelled : (k : Known) → name_by spellings (long_name k) ≡ known k
-- each name is tried, by computing
long-spelled known_name.Via = refl
long-spelled known_name.From = refl
long-spelled known_name.To = refl
long-spelled known_name.CallId = refl
long-spelled known_name.CSeq = refl
long-spelled known_name.ContentLength = refl
long-spelled known_name.Contact = refl
long-spelled known_name.ContentEncoding = refl
long-spelled known_name.ContentType = refl
long-spelled known_name.Subject = refl
long-spelled known_name.Supported = refl
long-spelled known_name.Route = refl

-- a name in full that is the long form of none of some known names is none of these
none-found : (ks : List Known) (long text : List ℕ) → ((k : Known) → long ≡ long_name k → ⊥) → name_in ks long text ≡ other text
none-found [] long text none = refl
none-found (k ∷ ks) long text none = ap (λ b. cond b (known k) (name_in ks long text)) (miss long (long_name k) (none k)) ∙ none-found ks long text none

-- whether the name is no known one
abbrev is_foreign : FieldName → Bool
is_foreign (known k) = false
is_foreign (other t) = true

-- the name of a text by the spellings is the one that it spells
pub named-by : (text : List ℕ) → name_by spellings text ≡ name_of text
named-by text = at (name_by spellings text) refl
  where
    -- what the name is by the spellings, and so the name in full
    at : (n : FieldName) → name_by spellings text ≡ n → name_by spellings text ≡ name_of text
    -- the name in full is the long form of a known name, by which it is found
    at (known k) is = is ∙ sym (long-found k text) ∙ ap (λ long. name_in known_names long text) (sym (ap name_text is) ∙ by-long text)
    -- the name in full is the text itself, which is the long form of no known name, since it would be found by the spellings
    at (other t) is =
        let whole : form.long_name text ≡ text = sym (by-long text) ∙ ap name_text is ∙ sym (name-other spellings text t is) in
        let none : (k : Known) → form.long_name text ≡ long_name k → ⊥ =
        λ k same. both_ways true (ap is_foreign (sym is ∙ ap (name_by spellings) (sym whole ∙ same) ∙ long-spelled k)) refl in
        is ∙ ap other (sym (name-other spellings text t is)) ∙ sym (none-found known_names (form.long_name text) text none)
