-- The names of fields, and what a field of a name may hold.
-- In the lemmas f is the text of a name, s the spelling of a known one, v a value, and k a known name.
-- `Ways A B` says that A gives B, and B gives A; a foreign text (`IsForeign`) is no spelling of a known name.
use Rattle.std.proofs.Common.{◌≡◌, ℕ, Bool, true, false, cond, ◌||◌, List, [], ◌∷◌, refl, sym, ap, ◌∙◌, subst}
use Rattle.std.specs.Bool.{Decides}
use Rattle.std.specs.Prelude.{bytes_eq, codes}
use Rattle.std.specs.List.{AllByRecursion}
use Rattle.std.proofs.lemmas.Bool.{both_ways, cond-false, or_from}
use Rattle.std.proofs.lemmas.Slice.Eq.{bytes_eq-Decides}
use Rattle.sip_standard.specs.Case.{folded}
use Rattle.sip_message.specs.declared.name.Known.{Known}
use Rattle.sip_message.specs.declared.name.Known.TheVariants as known_name
use Rattle.sip_message.specs.Name.{FieldName, known, other, name_of, is_name_of}
use Rattle.sip_message.specs.inner.FieldText.{Row}
use Rattle.sip_standard.specs.Field.{full_name, RowSays}
use Rattle.sip_message.proofs.lemmas.field.Spelled.{spellings, name_by, named-by, miss}

-- what holds of each spelling and its name, and of a text that is none of them, holds of the name that a text spells
by-name : (P : List ℕ → FieldName → Type 0) (list : List (List ℕ × Known)) (text : List ℕ) → AllByRecursion (λ s. P (s.0) (known (s.1))) list
    → (AllByRecursion (λ s. folded text ≡ s.0 → ⊥) list → P (folded text) (other text)) → P (folded text) (name_by list text)
-- no spelling is left
by-name P [] text each none = none tt
by-name P ((s, k) ∷ more) text each none =
    at (bytes_eq (folded text) s) (bytes_eq-Decides (folded text) s) (λ differs. by-name P more text each.1 (λ rest. none (differs, rest)))
  where
    -- the claim holds whether or not the text is this spelling
    at : (b : Bool) → Decides b (folded text ≡ s) → ((folded text ≡ s → ⊥) → P (folded text) (name_by more text)) → P (folded text) (cond b (known k) (name_by more text))
    -- the text is this spelling, of which the claim is given; or it is another text
    at true is later = subst (λ f. P f (known k)) (sym (is.0 refl)) each.0
    at false is later = later (λ same. both_ways false refl (is.1 same))

-- A gives B, and B gives A
abbrev Ways : Type 0 → Type 0 → Type 0
Ways A B = (A → B) × (B → A)

-- where the test fails, the second of two ways holds
skips : (b : Bool) (X Y : Type 0) → b ≡ false → Ways (cond b X Y) Y
-- the test would pass
skips true X Y is = absurd (both_ways true is refl)
-- the choice comes to Y, so each way gives what it takes
skips false X Y is = ((λ y. y), (λ y. y))

-- the text is no spelling of a known name
abbrev IsForeign : List ℕ → Type 0
IsForeign f = AllByRecursion (λ s. f ≡ s.0 → ⊥) spellings

-- a text that is no spelling of a known name is a name in full
foreign-name : (f : List ℕ) → IsForeign f → full_name f ≡ f
-- each part says that f is not this name: those of one letter are the compact forms
foreign-name f (via, (v, (from, (f_, (to, (t, (call_id, (i, (cseq, (content_length, (l, (contact, (m, (content_encoding, (e, (content_type, (c, (subject, (s, (supported, (k, (route, end)))))))))))))))))))))) =
    -- `full_name` writes only "v", "f", "t", "i" and "l" in another way: f is none of them
    cond-false (bytes_eq f (codes "v")) _ _ (miss f _ v) ∙ cond-false (bytes_eq f (codes "f")) _ _ (miss f _ f_) ∙ cond-false (bytes_eq f (codes "t")) _ _ (miss f _ t)
    ∙ cond-false (bytes_eq f (codes "i")) _ _ (miss f _ i) ∙ cond-false (bytes_eq f (codes "l")) _ _ (miss f _ l)

-- a value is one of a foreign name's row exactly if the definitions let a field of that name have it
foreign-row : (f v : List ℕ) → IsForeign f → Ways (Row (other f) v) (RowSays f v)
-- each part says that f is not this name: those of one letter are the compact forms
foreign-row f value (via, (v, (from, (f_, (to, (t, (call_id, (i, (cseq, (content_length, (l, (contact, (m, (content_encoding, (e, (content_type, (c, (subject, (s, (supported, (k, (route, end)))))))))))))))))))))) =
    -- the definitions ask one after another whether the name is Via, From or To, Call-ID, CSeq, or Content-Length: it is none
    let one = skips (bytes_eq f (codes "via")) _ _ (miss f _ via) in
    let two = skips (bytes_eq f (codes "from") || bytes_eq f (codes "to")) _ _ (or_from _ _ (miss f _ from) (miss f _ to)) in
    let three = skips (bytes_eq f (codes "call-id")) _ _ (miss f _ call_id) in
    let four = skips (bytes_eq f (codes "cseq")) _ _ (miss f _ cseq) in
    let five = skips (bytes_eq f (codes "content-length")) _ _ (miss f _ content_length) in
    -- so the choice comes to what any other field may hold, which is what the row has
    ((λ is. one.1 (two.1 (three.1 (four.1 (five.1 is))))), (λ is. five.0 (four.0 (three.0 (two.0 (one.0 is))))))

-- each statement gives itself
same-row : (X : Type 0) → Ways X X
same-row X = ((λ is. is), (λ is. is))

-- a value is one of the row of the name that a token spells exactly if the definitions let a field of that name have it
pub row-said : (token v : List ℕ) → Ways (Row (name_of token) v) (RowSays (full_name (folded token)) v)
row-said token v =
    -- each spelling has the row of its name, in the order of the list of spellings; a text that is none of them has that of a foreign name
    subst (λ name. Ways (Row name v) (RowSays (full_name (folded token)) v)) (named-by token)
    (by-name (λ f name. Ways (Row name v) (RowSays (full_name f) v)) spellings token
    (same-row _, (same-row _, (same-row _, (same-row _, (same-row _, (same-row _, (same-row _, (same-row _, (same-row _, (same-row _, (same-row _, (same-row _, (same-row _, (same-row _, (same-row _, (same-row _, (same-row _, (same-row _, (same-row _, (same-row _, (same-row _, (same-row _, tt))))))))))))))))))))))
    (λ foreign. let row = foreign-row (folded token) v foreign in subst (λ f. Ways (Row (other token) v) (RowSays f v)) (sym (foreign-name (folded token) foreign)) row))

-- the name that a token spells is the known name k exactly if its full form has the bytes `key`
named : (k : Known) (key : List ℕ) → AllByRecursion (λ s. is_name_of k (known (s.1)) ≡ bytes_eq (full_name (s.0)) key) spellings → ((f : List ℕ) → IsForeign f → f ≡ key → ⊥)
    → (token : List ℕ) → is_name_of k (name_of token) ≡ bytes_eq (full_name (folded token)) key
named k key each differs token =
    -- of each spelling both tests say the same, by `each`; a text that is none of them is not `key`
    ap (is_name_of k) (sym (named-by token))
    ∙ by-name (λ f name. is_name_of k name ≡ bytes_eq (full_name f) key) spellings token each
    (λ foreign. sym (ap (λ f. bytes_eq f key) (foreign-name (folded token) foreign) ∙ miss (folded token) key (differs (folded token) foreign)))

-- a token names Via where it is spelled so, in full or by its short form
pub named-via : (token : List ℕ) → is_name_of known_name.Via (name_of token) ≡ bytes_eq (full_name (folded token)) (codes "via")
-- each of the 22 spellings is tried, by computing; a text that is none of them is not this name
named-via = named known_name.Via (codes "via") (refl, (refl, (refl, (refl, (refl, (refl, (refl, (refl, (refl, (refl, (refl, (refl, (refl, (refl, (refl, (refl, (refl, (refl, (refl, (refl, (refl, (refl, tt)))))))))))))))))))))) (λ f foreign. foreign.0)

-- a token names From where it is spelled so, in full or by its short form
pub named-from : (token : List ℕ) → is_name_of known_name.From (name_of token) ≡ bytes_eq (full_name (folded token)) (codes "from")
-- each of the 22 spellings is tried, by computing; a text that is none of them is not this name
named-from = named known_name.From (codes "from") (refl, (refl, (refl, (refl, (refl, (refl, (refl, (refl, (refl, (refl, (refl, (refl, (refl, (refl, (refl, (refl, (refl, (refl, (refl, (refl, (refl, (refl, tt)))))))))))))))))))))) (λ f foreign. foreign.1.1.0)

-- a token names To where it is spelled so, in full or by its short form
pub named-to : (token : List ℕ) → is_name_of known_name.To (name_of token) ≡ bytes_eq (full_name (folded token)) (codes "to")
-- each of the 22 spellings is tried, by computing; a text that is none of them is not this name
named-to = named known_name.To (codes "to") (refl, (refl, (refl, (refl, (refl, (refl, (refl, (refl, (refl, (refl, (refl, (refl, (refl, (refl, (refl, (refl, (refl, (refl, (refl, (refl, (refl, (refl, tt)))))))))))))))))))))) (λ f foreign. foreign.1.1.1.1.0)

-- a token names Call-ID where it is spelled so, in full or by its short form
pub named-call-id : (token : List ℕ) → is_name_of known_name.CallId (name_of token) ≡ bytes_eq (full_name (folded token)) (codes "call-id")
-- each of the 22 spellings is tried, by computing; a text that is none of them is not this name
named-call-id = named known_name.CallId (codes "call-id") (refl, (refl, (refl, (refl, (refl, (refl, (refl, (refl, (refl, (refl, (refl, (refl, (refl, (refl, (refl, (refl, (refl, (refl, (refl, (refl, (refl, (refl, tt)))))))))))))))))))))) (λ f foreign. foreign.1.1.1.1.1.1.0)

-- a token names CSeq where it is spelled so
pub named-cseq : (token : List ℕ) → is_name_of known_name.CSeq (name_of token) ≡ bytes_eq (full_name (folded token)) (codes "cseq")
-- each of the 22 spellings is tried, by computing; a text that is none of them is not this name
named-cseq = named known_name.CSeq (codes "cseq") (refl, (refl, (refl, (refl, (refl, (refl, (refl, (refl, (refl, (refl, (refl, (refl, (refl, (refl, (refl, (refl, (refl, (refl, (refl, (refl, (refl, (refl, tt)))))))))))))))))))))) (λ f foreign. foreign.1.1.1.1.1.1.1.1.0)

-- a token names Content-Length where it is spelled so, in full or by its short form
pub named-content-length : (token : List ℕ) → is_name_of known_name.ContentLength (name_of token) ≡ bytes_eq (full_name (folded token)) (codes "content-length")
-- each of the 22 spellings is tried, by computing; a text that is none of them is not this name
named-content-length = named known_name.ContentLength (codes "content-length") (refl, (refl, (refl, (refl, (refl, (refl, (refl, (refl, (refl, (refl, (refl, (refl, (refl, (refl, (refl, (refl, (refl, (refl, (refl, (refl, (refl, (refl, tt)))))))))))))))))))))) (λ f foreign. foreign.1.1.1.1.1.1.1.1.1.0)

-- a token names Route where it is spelled so
pub named-route : (token : List ℕ) → is_name_of known_name.Route (name_of token) ≡ bytes_eq (full_name (folded token)) (codes "route")
-- each of the 22 spellings is tried, by computing; a text that is none of them is not this name
named-route = named known_name.Route (codes "route") (refl, (refl, (refl, (refl, (refl, (refl, (refl, (refl, (refl, (refl, (refl, (refl, (refl, (refl, (refl, (refl, (refl, (refl, (refl, (refl, (refl, (refl, tt)))))))))))))))))))))) (λ f foreign. foreign.1.1.1.1.1.1.1.1.1.1.1.1.1.1.1.1.1.1.1.1.1.0)
