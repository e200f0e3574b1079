-- The newest message of a book, which has no place in the order until the next one comes, or is forgotten before that.
-- In the lemmas number and bytes are those of the newest message, and n and ns are numbers of messages.
use Rattle.std.specs.Prelude.{◌≡◌, ◌≢◌, ◌<◌, ◌+◌, ◌-◌, ◌⊎◌, ℕ, Bool, true, false, Option, Some, None, is_some, List, [], ◌∷◌, ◌++◌, All, AllPairs, map, length, take}
use Rattle.std.specs.List.{insert, filter_map}
use Rattle.std.proofs.Common.{inl, inr, refl, sym, ◌∙◌, ap, subst, arith, get_or}
use Rattle.std.proofs.lemmas.Bool.Decides.{nat_tests}
use Rattle.std.proofs.lemmas.Bool.{false≢true}
use Rattle.std.proofs.Math.Seq.{take-append_seam}
use Rattle.std.proofs.lemmas.List.{get_or_default, map-append, get_or_append_left, get_or-append-add, length-append, length-map, length-take-le, get_or-take, take_all, take_more, take-map}
use Rattle.std.proofs.lemmas.List.Elements.{All-head, All-tail}
use Rattle.sip_machine.specs.Texts.{Texts, IsBook, Keeps, text_of}
use Rattle.sip_machine.specs.Retained.{only}
use Rattle.sip_machine.specs.declared.book.KeptMessage.{KeptMessage}
use Rattle.sip_machine.specs.declared.book.Loose.{Loose}
use Rattle.sip_machine.specs.declared.book.Place.{Place}
use Rattle.sip_machine.specs.declared.book.PlaceRun.{PlaceRun}
use Rattle.sip_machine.specs.declared.tos.To.{To}
use Rattle.sip_machine.specs.inner.Order.{texts_of, placed, bytes_at, hash_of, places_of, index_of, IsOrder, IsInRuns, IsGap, IsInside, IsLoose, StandInRuns}
use Rattle.sip_machine.specs.inner.Retain.{moved}
use Rattle.sip_machine.specs.inner.Tos.{AreTos}
use Rattle.sip_machine.proofs.acks.ToLemmas.{AreTos-grow, moved_to}
use Rattle.sip_machine.proofs.texts.TextLaws.{Contains-nil, Keeps-grow, Keeps-grow_cases, Keeps-added, Keeps-at, text_of-at, text_of-added, text_of-grow, text_of-none, IsBook-grow}
use Rattle.sip_machine.proofs.texts.OrderLaws.{none_in_gap, IsOrder-grow}
use Rattle.sip_machine.proofs.texts.RetainLemmas.{kept_place, IsOrder-only}

-- What follows is of a book, `texts` and one message more, which is its newest, by its number and its bytes.
module _ (texts : Texts) (number : ℕ) (bytes : List ℕ) (book : IsBook (texts ++ (number, bytes) ∷ [])) where
  -- the texts with one message more
  abbrev grown : Texts
  grown = texts ++ (number, bytes) ∷ []

  -- there is one text more
  long : length grown ≡ length texts + 1
  long = length-append texts ((number, bytes) ∷ [])

  -- the newest message is the last of the book
  last_is : get_or grown (length texts) (0, []) ≡ (number, bytes)
  last_is =
      let here : length texts ≡ length texts + 0 = omega arith in
      ap (λ n. get_or grown n (0, [])) here ∙ get_or-append-add texts ((number, bytes) ∷ []) 0 (0, [])

  -- the number of the newest message is above those of all others
  pub newest_above : (n : ℕ) → Keeps texts n → n < number
  newest_above n keeps =
      -- the message stands at a place k before the newest, and the numbers rise along the book
      let (k, low, is) = kept_place texts n keeps in
      let less = book.rising k (length texts) (0, []) low (omega (arith, long)) in
      let first : ℕ × List ℕ → ℕ = λ t. t.0 in
      let one = ap first (get_or_append_left texts ((number, bytes) ∷ []) (0, []) k low) in
      let other = ap first last_is in
      omega (arith, less, one, other, is)

  -- no other message that is kept has the bytes of the newest
  pub newest_other : (n : ℕ) → Keeps texts n → text_of texts n ≢ bytes
  newest_other n keeps same =
      let less = newest_above n keeps in
      let equal = book.apart n number (Keeps-grow texts number bytes n keeps) (Keeps-added texts number bytes)
      (text_of-grow texts number bytes n keeps ∙ same ∙ sym (text_of-added texts number bytes newest_above)) in
      omega (arith, less, equal)

  -- the messages without the newest are a book
  pub IsBook-front : IsBook texts
  IsBook-front = record {
    rising = λ i j d lt low.
        -- two of the messages have rising numbers, as in the whole book
        let first : ℕ × List ℕ → ℕ = λ t. t.0 in
        let one = ap first (get_or_append_left texts ((number, bytes) ∷ []) d i (omega (arith, lt, low))) in
        let other = ap first (get_or_append_left texts ((number, bytes) ∷ []) d j low) in
        let less = book.rising i j d lt (omega (arith, low, long)) in
        omega (arith, one, other, less);
    -- two of the other messages with the same bytes are the same, as in the whole book
    apart = λ a b keeps_a keeps_b same.
        book.apart a b (Keeps-grow texts number bytes a keeps_a) (Keeps-grow texts number bytes b keeps_b)
        (text_of-grow texts number bytes a keeps_a ∙ same ∙ sym (text_of-grow texts number bytes b keeps_b));
  }

  -- no message before the newest has its bytes
  pub none_found : (position : ℕ) → position < length texts → bytes_at texts position ≢ bytes
  none_found position low same =
      let x = get_or texts position (0, []) in
      newest_other x.0 (Keeps-at texts position x low (get_or_default texts position (0, []) x low)) (text_of-at texts position x IsBook-front.rising low (get_or_default texts position (0, []) x low) ∙ same)

  -- the Tos of messages before the newest are those of the book without it
  pub AreTos-front : (tos : List To) → All (λ to. to.number < number) tos → AreTos grown tos → AreTos texts tos
  AreTos-front tos below all = record {
    each = λ k d low.
        -- the number of each To is below that of the newest message, so the To is one of another message
        let to = get_or tos k d in
        let is = all.each k d low in
        let under = below k d low in
        elim (Keeps-grow_cases texts number bytes to.number is.kept) [
          | inl keeps ↦ moved_to grown texts to keeps (sym (text_of-grow texts number bytes to.number keeps)) is
          | inr same ↦ absurd (omega (arith, under, same))
        ];
  }

-- What follows is of the place of the newest message among those of the others.

-- of messages of which the last alone has no place yet, those with a place are all before it
pub placed_front : (front : Texts) (x : ℕ × List ℕ) → placed true (front ++ x ∷ []) ≡ front
placed_front front x =
    let size : length (front ++ x ∷ []) - 1 ≡ length front = (let long = length-append front (x ∷ []) in omega (arith, long)) in
    ap (λ n. take n (front ++ x ∷ [])) size ∙ take-append_seam front (x ∷ [])

-- the messages that the code keeps are the others and the newest one after them
pub texts_split : (kept others : List KeptMessage) (newest : KeptMessage) → kept ≡ others ++ newest ∷ [] → texts_of kept ≡ texts_of others ++ (newest.number, newest.bytes.items) ∷ []
texts_split kept others newest is = ap texts_of is ∙ map-append (λ k. (k.number, k.bytes.items)) others (newest ∷ [])

-- What follows is of the messages `kept` of a book: `newest` is the last of them, and `others` are those before it.
module _ (kept others : List KeptMessage) (newest : KeptMessage) (is : kept ≡ others ++ newest ∷ []) where
  -- no message that has a place has the bytes of the newest
  pub never_found : IsBook (texts_of kept) → (position : ℕ) → position < length others → bytes_at (texts_of others) position ≡ newest.bytes.items → ⊥
  never_found book position low same =
      none_found (texts_of others) newest.number newest.bytes.items (subst IsBook (texts_split kept others newest is) book) position (rw length-map low) same

-- where the newest stands in no run yet, all that have a place do
pub stand_placed : (texts : Texts) (runs : List PlaceRun) (loose : Option Loose) → StandInRuns texts runs loose → IsInRuns (placed (is_some loose) texts) runs
stand_placed texts runs None stand = stand
stand_placed texts runs (Some newest) is = subst (λ ts. IsInRuns ts runs) (sym (ap (placed true) is.last ∙ placed_front is.others (is.number, is.bytes))) is.order

-- where the newest is put into its gap, all messages stand in the runs
pub newest_placed : (texts : Texts) (runs now : List PlaceRun) (newest : Loose) (position : ℕ) → IsLoose texts runs newest → position ≡ length texts - 1
    → places_of now ≡ insert (places_of runs) (index_of runs newest.gap) (record { hash = newest.hash; position = position }) → IsOrder texts (places_of now)
newest_placed texts runs now newest position is at put =
    let front = is.others in
    let bytes = is.bytes in
    let places = places_of runs in
    let i = index_of runs newest.gap in
    let place : ℕ → ℕ → Place = λ h p. record { hash = h; position = p } in
    -- the newest message stands after all others, at this position
    let size : length texts ≡ length front + 1 = ap length is.last ∙ length-append front ((is.number, bytes) ∷ []) in
    let here : length front ≡ position = omega (arith, size, at) in
    -- the place of the newest message is put into the gap of its hash and bytes
    let grown = IsOrder-grow front places is.number bytes i is.order.order (subst (λ h. IsGap front (h, bytes) places i) is.hash is.gap) in
    subst (λ ts. IsOrder ts (places_of now)) (sym is.last)
    (subst (IsOrder (front ++ (is.number, bytes) ∷ [])) (ap (λ h. insert places i (place h (length front))) (sym is.hash) ∙ ap (λ p. insert places i (place newest.hash p)) here ∙ sym put) grown)

-- What follows is of what a book keeps, and of the order in which it stands.

-- these messages are a book, they stand in the runs, and each To is that of one of them
abbrev pub IsKept : Texts → List PlaceRun → Option Loose → List To → Type 0
IsKept texts runs loose tos = IsBook texts × StandInRuns texts runs loose × AreTos texts tos

-- where a book keeps bytes that it did not have, as its newest message that stands in no run yet, it keeps all that it must
pub kept_newest : (old new : Texts) (runs : List PlaceRun) (tos : List To) (number : ℕ) (bytes : List ℕ) (newest : Loose) → IsBook old → IsInRuns old runs → AreTos old tos
    → ((n : ℕ) → Keeps old n → n < number) → newest.hash ≡ hash_of bytes → IsGap old (newest.hash, bytes) (places_of runs) (index_of runs newest.gap)
    → (0 < length runs → IsInside runs newest.gap) → new ≡ old ++ (number, bytes) ∷ [] → IsKept new runs (Some newest) tos
kept_newest old new runs tos number bytes newest book order beside above hashed gap inside is =
    let i = index_of runs newest.gap in
    -- i is the gap of the new bytes among all places, so no old message has these bytes
    let other = text_of-none old bytes (none_in_gap old (places_of runs) bytes i order.order (subst (λ h. IsGap old (h, bytes) (places_of runs) i) hashed gap)) in (
      subst IsBook (sym is) (IsBook-grow old number bytes book above other),
      record { others = old; number = number; bytes = bytes; last = is; order = order; hash = hashed; gap = gap; inside = inside },
      subst (λ ts. AreTos ts tos) (sym is) (AreTos-grow old number bytes tos beside),
    )

-- where the newest message goes, which stands in no run yet, the book keeps all that it must without it
pub kept_front : (old new : Texts) (runs : List PlaceRun) (tos : List To) (number : ℕ) (bytes : List ℕ) (loose : Option Loose) → is_some loose ≡ true → IsKept old runs loose tos
    → All (λ to. to.number < number) tos → old ≡ new ++ (number, bytes) ∷ [] → IsKept new runs None tos
kept_front old new runs tos number bytes None some kept below is = absurd (false≢true some)
kept_front old new runs tos number bytes (Some newest) some kept below is =
    let (whole, stands, beside) = kept in
    let book = subst IsBook is whole in
    -- the messages that have a place are those before the newest, which are `new`
    let same : stands.others ≡ new = sym (placed_front stands.others (stands.number, stands.bytes)) ∙ ap (placed true) (sym stands.last ∙ is) ∙ placed_front new (number, bytes) in
    (IsBook-front new number bytes book, subst (λ ts. IsInRuns ts runs) same stands.order, AreTos-front new number bytes book tos below (subst (λ ts. AreTos ts tos) is beside))

-- What follows is of `numbers`, those of the messages that stay in a book, in ascending order, where the newest message, (number, bytes), has no place in it
-- yet.

module _ (texts : Texts) (number : ℕ) (bytes : List ℕ) (book : IsBook (texts ++ (number, bytes) ∷ [])) (numbers : List ℕ) (up : AllPairs (λ a b. a < b) numbers)
    (kept : All (Keeps (texts ++ (number, bytes) ∷ [])) numbers) where
  -- the numbers that stay, without the last
  abbrev earlier : List ℕ
  earlier = placed true numbers

  -- the number at a place among those without the last is the one there, and one stands after it
  at_earlier : (k d : ℕ) → k < length earlier → (k + 1 < length numbers) × (get_or earlier k d ≡ get_or numbers k d)
  at_earlier k d low = grind (arith, nat_tests, length-take-le, get_or-take)

  -- each number that stays, without the last, is of a message before the newest
  earlier_kept : All (Keeps texts) earlier
  earlier_kept k d low =
      let (under, is) = at_earlier k d low in
      subst (Keeps texts) (sym is) (go (Keeps-grow_cases texts number bytes (get_or numbers k d) (kept k d (omega (arith, under)))) (Keeps-grow_cases texts number bytes (get_or numbers (k + 1) d) (kept (k + 1) d under)) (up k (k + 1) d (omega arith) under))
    where
      -- the book without the newest message has a number that is below the next one, since that number is not the newest
      go : Keeps texts (get_or numbers k d) ⊎ (number ≡ get_or numbers k d) → Keeps texts (get_or numbers (k + 1) d) ⊎ (number ≡ get_or numbers (k + 1) d) → get_or numbers k d < get_or numbers (k + 1) d → Keeps texts (get_or numbers k d)
      go (inl keeps) next less = keeps
      -- the number is that of the newest message and the next one that of an older message, so the next one would be lower
      go (inr same) (inl keeps) less = absurd (let above = newest_above texts number bytes book (get_or numbers (k + 1) d) keeps in omega (arith, above, same, less))
      -- both are the number of the newest message, so the next one would not be above the first
      go (inr same) (inr next) less = absurd (omega (arith, same, next, less))

  -- the numbers without the last rise
  earlier_up : AllPairs (λ a b. a < b) earlier
  earlier_up i j d lt low = grind (arith, nat_tests, at_earlier)

  -- the messages with numbers before the newest are the same with it and without it
  only_grown : (ns : List ℕ) → All (Keeps texts) ns → only ns (texts ++ (number, bytes) ∷ []) ≡ only ns texts
  only_grown [] all = refl
  only_grown (n ∷ ns) all =
      let first = text_of-grow texts number bytes n (All-head (Keeps texts) n ns all) in
      let rest = only_grown ns (All-tail (Keeps texts) n ns all) in
      (λ i. (n, first i) ∷ rest i)

  -- the messages with the earlier numbers are those with all these numbers, without the last one
  only_earlier : only earlier texts ≡ placed true (only numbers (texts ++ (number, bytes) ∷ []))
  only_earlier =
      -- f gives of a number the message with it; to leave the last number out is to leave its message out
      let f : ℕ → ℕ × List ℕ = λ n. (n, text_of (texts ++ (number, bytes) ∷ []) n) in
      sym (only_grown earlier earlier_kept) ∙ sym (take-map f (length numbers - 1) numbers) ∙ ap (λ n. take (n - 1) (map f numbers)) (sym (length-map numbers f))

  -- the places that are moved for the messages before the last that stays are in order
  newest_order : (places : List Place) → IsOrder texts places → IsOrder (placed true (only numbers (texts ++ (number, bytes) ∷ []))) (filter_map (moved texts earlier) places)
  newest_order places order =
      subst (λ ts. IsOrder ts (filter_map (moved texts earlier) places)) only_earlier
      (IsOrder-only texts earlier (IsBook-front texts number bytes book) earlier_up earlier_kept places order)

-- a book that has messages is those without the newest, and the newest
split_last : (texts : Texts) (last : ℕ) → length texts ≡ last + 1 → texts ≡ placed true texts ++ get_or texts last (0, []) ∷ []
split_last texts last size = grind (arith, take_all, take_more)

-- the messages of the code whose places stand in the order
pub placed_texts : (loose : Bool) (kept : List KeptMessage) → texts_of (placed loose kept) ≡ placed loose (texts_of kept)
placed_texts false kept = refl
placed_texts true kept =
    -- to leave the last message out, and to see each as the book has it, comes to the same in either order
    let text : KeptMessage → ℕ × List ℕ = λ k. (k.number, k.bytes.items) in
    sym (take-map text (length kept - 1) kept) ∙ ap (λ n. take (n - 1) (map text kept)) (sym (length-map kept text))

-- where some messages stay, the places of those that have one are in order; `loose` says whether the newest message has none
pub retained_order : (loose : Bool) (texts : Texts) (numbers : List ℕ) → IsBook texts → AllPairs (λ a b. a < b) numbers → All (Keeps texts) numbers → (places : List Place)
    → IsOrder (placed loose texts) places → IsOrder (placed loose (only numbers texts)) (filter_map (moved (placed loose texts) (placed loose numbers)) places)
retained_order false texts numbers book up kept places order = IsOrder-only texts numbers book up kept places order
retained_order true [] [] book up kept places order = IsOrder-only [] [] book up kept places order
-- a number that stays is that of a message, so the book is not empty
retained_order true [] (n ∷ ns) book up kept places order = absurd (Contains-nil n (All-head (Keeps []) n ns kept))
retained_order true (x ∷ xs) numbers book up kept places order =
    let texts : Texts = x ∷ xs in
    -- without a place the newest message stays out, and the others keep theirs
    let front : Texts = placed true texts in
    let y : ℕ × List ℕ = get_or texts (length xs) (0, []) in
    let is : texts ≡ front ++ y ∷ [] = split_last texts (length xs) (omega arith) in
    subst (λ ts. IsOrder (placed true (only numbers ts)) (filter_map (moved front (placed true numbers)) places)) (sym is)
    (newest_order front y.0 y.1 (subst IsBook is book) numbers up (subst (λ ts. All (Keeps ts) numbers) is kept) places order)
