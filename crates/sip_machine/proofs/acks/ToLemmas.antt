-- The To that stands beside a kept message stays what it is, and tells which of the messages has a To. The numbers of messages stand under their Tos.
use Rattle.sip_machine.proofs.Words.{◌≡◌, ◌<◌, ◌≤◌, ◌↔◌, ◌-◌, ℕ, Bool, true, false, IsTrue, Option, None, Some, bytes_eq, List, [], ◌∷◌, ◌++◌, All, AllPairs, Contains, length, map, slice_get, items_where_true, bytes_decides, sym, ◌∙◌, ap, subst, arith, get_or, nat_lt, nat_tests, cases_lt, get_or_picked, get_or_from_slice_get, get_or-map, get_or_append_left, get_or-append_seam, length_push, length-map, All-contains, All-contains_itself, All-from_retain, IsFiltered, All-weaker, AllPairs-cons, AllPairs-head, AllPairs-tail, same_reading, solid, Texts, IsBook, Keeps, text_of, only, To, numbers_of, IsToOf, IsTo, AreTos, AreUnder, HasThose, IsChanged, count_between, cond, ◌==◌, ◌&&◌}
use Rattle.std.specs.BTreeMap.{is_at}
use Rattle.std.specs.Option.{option_copied, unwrap_or}
use Rattle.std.proofs.Common.{Bor, ap₂, refl}
use Rattle.std.specs.Map.{lookup}
use Rattle.std.specs.Bool.{Decides}
use Rattle.std.specs.Cmp.{first_so, second_so, unsigned_Decides}
use Rattle.std.proofs.lemmas.Cmp.{tied_itself}
use Rattle.std.proofs.lemmas.List.Elements.{Contains-append_left, Contains-get_or, Contains-push, Contains-push_cases}
use Rattle.sip_numbers.specs.declared.numbers.Word.{Word}
use Rattle.sip_machine.specs.inner.Order.{text_cmp}
use Rattle.sip_machine.specs.inner.Tos.{Sets, is_in, stands}
use Rattle.sip_machine.proofs.texts.BesideLemmas.{among-all, count_between-is, many}
use Rattle.sip_machine.proofs.texts.HashLaws.{text_cmp-total, tied-same}
use Rattle.sip_machine.proofs.texts.TextLaws.{Keeps-grow, text_of-grow}
use Rattle.sip_machine.proofs.texts.RetainLemmas.{only-Keeps, text_of-only}

-- bytes have one To
pub IsToOf-one : (bytes to text : List ℕ) → IsToOf bytes text → IsToOf bytes to → text ≡ to
IsToOf-one bytes to text is its = is.is ∙ ap (λ r. solid r.parts.to) (same_reading bytes is.message its.message is.reads its.reads) ∙ sym its.is

-- another text is the To of these bytes exactly if it is equal to their To
pub IsToOf-same : (bytes to text : List ℕ) → IsToOf bytes text → IsTrue (bytes_eq text to) ↔ IsToOf bytes to
IsToOf-same bytes to text is =
    (λ same. subst (IsToOf bytes) ((bytes_decides text to).0 same) is, λ its. (bytes_decides text to).1 (IsToOf-one bytes to text is its))

-- a To is that of a message in another book that has the same bytes under its number
pub moved_to : (texts more : Texts) (to : To) → Keeps more to.number → text_of more to.number ≡ text_of texts to.number → IsTo texts to → IsTo more to
moved_to texts more to kept same is = record { kept = kept; text = subst (λ bytes. IsToOf bytes to.text) (sym same) is.text }

-- where a message is added to the book, the Tos stay those of kept messages
pub AreTos-grow : (texts : Texts) (entry : ℕ) (bytes : List ℕ) (tos : List To) → AreTos texts tos → AreTos (texts ++ (entry, bytes) ∷ []) tos
AreTos-grow texts entry bytes tos all = record {
  each = All-weaker (IsTo texts) (IsTo (texts ++ (entry, bytes) ∷ [])) (λ to is. moved_to texts _ to (Keeps-grow texts entry bytes _ is.kept) (text_of-grow texts entry bytes _ is.kept) is) tos all.each;
}

-- Tos that are some of those of kept messages are those of kept messages
pub AreTos-some : (texts : Texts) (tos new : List To) → AreTos texts tos → All (Contains tos) new → AreTos texts new
AreTos-some texts tos new all some = record { each = All-weaker (Contains tos) (IsTo texts) (λ to has. All-contains (IsTo texts) tos to all.each has) new some }

-- where the book keeps the messages of some numbers alone, the Tos of these stay those of kept messages
pub AreTos-only : (texts : Texts) (numbers : List ℕ) → IsBook texts → AllPairs (λ a b. a < b) numbers → All (Keeps texts) numbers → (tos new : List To)
    → AreTos texts tos → All (λ to. Contains tos to × Contains numbers to.number) new → AreTos (only numbers texts) new
AreTos-only texts numbers book up kept tos new all left = record {
  each = λ k d low.
      let (has, stays) = left k d low in
      moved_to texts (only numbers texts) (get_or new k d) (only-Keeps texts numbers book up kept _ stays) (text_of-only texts numbers book up kept _ stays)
      (All-contains (IsTo texts) tos _ all.each has);
}

-- the order of Tos: by the numbers of their messages
abbrev pub below : To → To → Type 0
below a b = a.number < b.number

-- where a test finds the number of the last To of the list below this one, those of all are
pub below_last : (tos : List To) (number : ℕ) (last : To) → AllPairs below tos → Some last ≡ slice_get tos (length tos - 1) → IsTrue (nat_lt last.number number) →
    All (λ to. to.number < number) tos
below_last tos number last up is low = λ k d within. grind (arith, nat_tests, up k (length tos - 1) d, cases_lt, get_or_from_slice_get tos (length tos - 1) last d (sym is))

-- what relates each pair of a list, in order, relates each pair of those before the last element, and each of these and the last
pub pairs-before : {X : Type 0} (R : X → X → Type 0) (xs : List X) (x : X) → AllPairs R (xs ++ x ∷ []) → AllPairs R xs × All (λ y. R y x) xs
pairs-before R xs x up = (
  λ i j d lt low. rw (get_or_append_left xs (x ∷ []) d i (omega (arith, lt, low)), get_or_append_left xs (x ∷ []) d j low) at (up i j d lt (omega (arith, low, length_push xs x))),
  λ k d low. rw (get_or_append_left xs (x ∷ []) d k low, get_or-append_seam xs x [] d) at (up k (length xs) d low (omega (arith, length_push xs x))),
)

-- what relates each pair of a list, in order, relates each pair of those that are picked
pub AllPairs-picked : {X : Type 0} (R : X → X → Type 0) (bs : List Bool) (xs : List X) → AllPairs R xs → AllPairs R (items_where_true bs xs)
AllPairs-picked R [] xs up = λ i j d lt low. absurd (omega arith)
AllPairs-picked R (b ∷ bs) [] up = λ i j d lt low. absurd (omega arith)
-- the first element is picked, and R relates it to each later one; or it is left out
AllPairs-picked R (true ∷ bs) (x ∷ xs) up =
    AllPairs-cons R x (items_where_true bs xs) (grind (arith, get_or_picked, AllPairs-head R x xs up)) (AllPairs-picked R bs xs (AllPairs-tail R x xs up))
AllPairs-picked R (false ∷ bs) (x ∷ xs) up = AllPairs-picked R bs xs (AllPairs-tail R x xs up)

-- where a test passes only Tos of these numbers, each that it leaves was there, and has one of the numbers
pub left-over : {F : Type 0} (R : F → To → Bool → F → Type 0) (f : F) (tos left : List To) (numbers : List ℕ) → IsFiltered R f tos left →
    ((to : To) (b : Bool) (g : F) → R f to b g → (b ≡ true → Contains numbers to.number) × (g ≡ f)) → All (λ to. Contains tos to × Contains numbers to.number) left
left-over R f tos left numbers kept passes = λ k d low.
    let (_, (j, within, is)) = get_or_picked kept.0 tos k d (rw kept.4 at low) in
    (rw (kept.4, is) (All-contains_itself tos j d within), All-from_retain R (λ to. Contains numbers to.number) f passes tos left kept k d low)

-- whether a To is this one: by its text, and by the number of its message
is-to : (to its : To) → Decides (is_at (text_cmp to.text) its.text && its.number == to.number) (to ≡ its)
is-to to its = (
  λ both. ap₂ (λ number text. record { number = number; text = text }) (sym ((unsigned_Decides its.number to.number).0 (second_so _ _ both))) (tied-same to.text its.text (first_so _ _ both)),
  λ same. subst (λ t. (is_at (text_cmp to.text) t.text && t.number == to.number) ≡ true) same (rw (tied_itself text_cmp-total to.text) (grind (arith, nat_tests))),
)

-- where another set stands under a To now, which differs from the one before, if there was one, in one number alone, that number alone is changed
pub set-changed : (old : Sets) (to : List ℕ) (number : ℕ) (is_there : Bool) (there : Option (List Word)) → there ≡ lookup (is_at (text_cmp to)) old.entries → (new : Sets) (set : List Word) →
    ((text : List ℕ) → lookup (is_at (text_cmp text)) new.entries ≡ cond (is_at (text_cmp to) text) (Some set) (lookup (is_at (text_cmp text)) old.entries)) →
    ((n : ℕ) → numbers_of set n ≡ cond (n == number) is_there (is_in there n)) → IsChanged to number is_there old new
unfolding stands
set-changed old to number is_there there is new set each has text n = grind (arith, nat_tests, each text, has n, is, tied-same to text)

-- where the number of a message is put under its To, which then stands after the others, or is taken from the last To, each number stands under its To
pub under-changed : (to : To) (is_put : Bool) (old new : Sets) (tos : List To) → IsChanged to.text to.number is_put old new → (is_put ≡ false → All (λ t. below t to) tos) →
    AreUnder (cond is_put tos (tos ++ to ∷ [])) old → AreUnder (cond is_put (tos ++ to ∷ []) tos) new
under-changed to true old new tos changed lower under its =
    grind (arith, nat_tests, changed its.text its.number, under its, is-to to its, Contains-push tos to, Contains-push_cases tos to its, Contains-append_left tos (to ∷ []) its)
under-changed to false old new tos changed lower under its =
    grind (arith, nat_tests, changed its.text its.number, under its, is-to to its, Contains-push_cases tos to its, Contains-append_left tos (to ∷ []) its, All-contains (λ t. below t to) tos its (lower refl))

-- the set that is found under a To has the numbers of the messages of the list with this To; `none` is told where none is found
pub under-found : (sets : Sets) (tos : List To) (to : List ℕ) (found : Option (Bor (List Word))) (none : Bor (List Word)) → ((n : ℕ) → numbers_of none.now n ≡ false) →
    option_copied found ≡ lookup (is_at (text_cmp to)) sets.entries → AreUnder tos sets →
    (number : ℕ) → (numbers_of (unwrap_or found none).now number ≡ true) ↔ Contains tos (record { number = number; text = to })
unfolding stands
under-found sets tos to None none empty is under number = grind (arith, nat_tests, empty number, under (record { number = number; text = to }))
under-found sets tos to (Some set) none empty is under number = grind (arith, nat_tests, under (record { number = number; text = to }))

-- where the values that f gives rise along a list, the list of these values rises
pub AllPairs-map : {X : Type 0} (f : X → ℕ) (xs : List X) → AllPairs (λ a b. f a < f b) xs → AllPairs (λ a b. a < b) (map f xs)
AllPairs-map f [] up = λ i j d lt low. absurd (omega arith)
AllPairs-map f (x ∷ xs) up = λ i j d lt low. grind (arith, up i j x, get_or-map f (x ∷ xs) i x d, get_or-map f (x ∷ xs) j x d, length-map)

-- a number that is one of those of the Tos of a list is that of a To there
placed : (tos : List To) (n : ℕ) → Contains (map (λ to. to.number) tos) n → (text : List ℕ) × Contains tos (record { number = n; text = text })
placed tos n (i, within, at) =
    let low : i < length tos = rw length-map at within in
    let to = get_or tos i (record { number = n; text = [] }) in
    (to.text, subst (λ n. Contains tos (record { number = n; text = to.text })) (sym (get_or-map (λ to. to.number) tos i _ n low) ∙ at) (Contains-get_or tos i _ low))

-- where as many Tos with numbers from `low` up to `high` are in the list as messages with such numbers are kept, a set with the numbers of the messages of
-- the list that have this To has those of all such messages
pub has-those : (texts : Texts) (tos : List To) (low high : ℕ) → IsBook texts → AreTos texts tos → AllPairs below tos →
    count_between low high (map (λ k. k.0) texts) ≡ count_between low high (map (λ to. to.number) tos) → (to : List ℕ) (set : List Word) →
    ((number : ℕ) → (numbers_of set number ≡ true) ↔ Contains tos (record { number = number; text = to })) → HasThose texts low high to set
has-those texts tos low high book are up as_many to set all = λ number kept from to_high. (
  λ has. (All-contains (IsTo texts) tos _ are.each ((all number).0 has)).text,
  λ is.
      let kept_numbers = map (λ k. k.0) texts in
      let numbers = map (λ to. to.number) tos in
      -- there are as many Tos as messages between the two numbers, and each To is that of a kept message; so each message has one
      let le : low ≤ high = omega (arith, from, to_high) in
      let as_few : many low high kept_numbers ≤ many low high numbers = omega (arith, as_many, count_between-is low high kept_numbers le, count_between-is low high numbers le) in
      let its_kept : (n : ℕ) → Contains numbers n → Keeps texts n = λ n has. (All-contains (IsTo texts) tos _ are.each (placed tos n has).1).kept in
      let (text, there) = placed tos number (among-all low high kept_numbers numbers (AllPairs-map (λ k. k.0) texts book.rising) (AllPairs-map (λ to. to.number) tos up)
      its_kept as_few number kept from to_high) in
      -- the To that stands there is the message's one To
      let same = IsToOf-one (text_of texts number) to text (All-contains (IsTo texts) tos _ are.each there).text is in
      (all number).1 (subst (λ text. Contains tos (record { number = number; text = text })) same there),
)
