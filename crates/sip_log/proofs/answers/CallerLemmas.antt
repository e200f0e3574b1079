-- What the caller of `next` knows of the whole input, call after call.
-- In the lemmas s is the whole input, t the times that were read of it, r the result of a call, and xs and ys are bytes that are left.
-- In a clause with `None`: that no times are known contradicts that something was read, and of an input that is not known nothing is to be shown.
use Rattle.std.proofs.Common.{◌≡◌, ◌⊎◌, inl, inr, ◌<◌, ◌≤◌, ◌+◌, ℕ, Bool, List, [], ◌∷◌, ◌++◌, length, Option, Some, None, IfSome, IsSome, Result, Ok, Err, refl, subst, sym, ap, ◌∙◌, arith, append_assoc}
use Rattle.std.specs.Prelude.{flat_map, ⊤}
use Rattle.std.specs.Io.KnownBytes.{prepend_known}
use Rattle.std.proofs.lemmas.List.{append-nil, length_push, length-append}
use Rattle.sip_standard.specs.Times.{Times}
use Rattle.sip_standard.specs.declared.format.Format.{Format}
use Rattle.sip_log.specs.declared.entry.Entry.{Entry}
use Rattle.sip_log.specs.declared.log_error.LogError.{LogError}
use Rattle.sip_standard.specs.declared.log_reason.LogReason.{LogReason}
use Rattle.sip_standard.specs.declared.log_reason.LogReason.TheVariants as faults
use Rattle.sip_log.specs.Next.{Next, ends, gives, stops, ComesNext}
use Rattle.sip_standard.specs.LogEntry.{Item, entry_says, IsEntry, InOrder, last_of}
use Rattle.sip_standard.specs.LogHeader.{Header}
use Rattle.sip_standard.specs.LogSays.{most_entries, EndsWith, LogEnd, Clean, Stops, LacksHeader, LogSays}
use Rattle.sip_log.specs.Told.{FailsAs, item, IsFaultOf}
use Rattle.sip_log.specs.Reading.{Stage, fresh, entries, ended, failed, ReaderState, Moves, ProgressState, beside_source, Continues, ComesFirst, Comes, Heads, Opens, NextsAt, Nexts}
use Rattle.sip_log.proofs.answers.ReadingLemmas.{FailsAs-map}
use Rattle.sip_log.proofs.logs.LogExists.{Follow-some}
use Rattle.sip_log.proofs.logs.Logs.{follow-spelled}

-- the input begins with a header and the spelling of these entries, and has this rest after them
pub record Begins (input : List ℕ) (format : Format) (p : Times) (items : List Item) (rest : List ℕ) : Type 0 where
  pub header : Header format p input (flat_map entry_says items ++ rest)
  pub few : length items ≤ most_entries
  pub order : InOrder format 0 items

-- where the bytes of the input are known: it begins with a header with these times and with these entries, and this much is left to read
abbrev pub HasRead : Option (List ℕ) → Format → Option Times → List Item → Option (List ℕ) → Type 0
HasRead start format None items left = ⊥
HasRead start format (Some p) items left = IfSome start (λ input. (rest : List ℕ) × (left ≡ Some rest) × Begins input format p items rest)

-- what is known of a reader that was made for an input: it is fresh, or it has read these entries; after the end or an error nothing is
abbrev pub StandsAt : Stage → Option (List ℕ) → List Item → ReaderState → Type 0
StandsAt fresh start items now = (items ≡ []) × (now.left ≡ start) × (now.times ≡ None) × (now.count ≡ 0) × (now.last ≡ 0)
StandsAt entries start items now = HasRead start now.format now.times items now.left × (now.count ≡ length items) × (now.last ≡ last_of 0 items)
StandsAt ended start items now = ⊤
StandsAt failed start items now = ⊤

-- where the reader stands after these entries of the source's bytes, by its stage
abbrev pub Stands : Option (List ℕ) → List Item → ReaderState → Type 0
Stands start items now = StandsAt now.stage start items now

-- entries in order stay so with one more that is not before the last
pub InOrder-push : (format : Format) (last : ℕ) (items : List Item) (e : Item) → InOrder format last items → last_of last items ≤ e.moment → IsEntry format e → InOrder format last (items ++ e ∷ [])
InOrder-push format last [] e order late entry = (late, entry, tt)
InOrder-push format last (x ∷ xs) e order late entry = (order.0, order.1, InOrder-push format x.moment xs e order.2 late entry)

-- the last moment of entries is that of the entry which was put last
pub last_of-push : (last : ℕ) (items : List Item) (e : Item) → last_of last (items ++ e ∷ []) ≡ e.moment
last_of-push last [] e = refl
last_of-push last (x ∷ xs) e = last_of-push x.moment xs e

-- the texts of entries, and of one more, are the texts of all of them
pub texts-push : (items : List Item) (e : Item) (behind : List ℕ) → flat_map entry_says items ++ (entry_says e ++ behind) ≡ flat_map entry_says (items ++ e ∷ []) ++ behind
texts-push [] e behind = ap (λ (t : List ℕ). t ++ behind) (sym (append-nil (entry_says e)))
texts-push (x ∷ xs) e behind =
    append_assoc (entry_says x) (flat_map entry_says xs) (entry_says e ++ behind)
    ∙ ap (λ (t : List ℕ). entry_says x ++ t) (texts-push xs e behind)
    ∙ sym (append_assoc (entry_says x) (flat_map entry_says (xs ++ e ∷ [])) behind)

-- What follows is of an input that begins with a header of the format, with the times p, and with these items, and has `rest` after them.
module _ (input : List ℕ) (format : Format) (p : Times) (items : List Item) (rest : List ℕ) (is : Begins input format p items rest) where
  -- where an entry comes next in the rest, the input begins with the entries and that one
  pub Begins-push : (e : Item) (behind : List ℕ) → ComesNext format (length items) (last_of 0 items) rest (gives e behind) → Begins input format p (items ++ e ∷ []) behind
  Begins-push e behind next = record {
    header = subst (Header format p input) (ap (λ (t : List ℕ). flat_map entry_says items ++ t) next.0 ∙ texts-push items e behind) is.header;
    few = omega (arith, length_push items e, next.1);
    order = InOrder-push format 0 items e is.order next.2 next.3;
  }

  -- where the rest ends in this way after the entries, the log of the input has them and this end
  pub Begins-ends : (end : LogEnd) → EndsWith format (length items) (last_of 0 items) rest end → LogSays input p items end
  Begins-ends end next = record { format = format; rest = rest; header = is.header; few = is.few; order = is.order; next = next }

-- an input that begins with a header begins with the header and no entries
pub Begins-header : (input : List ℕ) (format : Format) (p : Times) (behind : List ℕ) → Header format p input behind → Begins input format p [] behind
Begins-header input format p behind is = record { header = is; few = omega arith; order = tt }

-- the spelling of items and of others after them is both spellings, one after the other
pub flat_map-append : (xs ys : List Item) → flat_map entry_says (xs ++ ys) ≡ flat_map entry_says xs ++ flat_map entry_says ys
flat_map-append [] ys = refl
flat_map-append (x ∷ xs) ys = ap (λ (t : List ℕ). entry_says x ++ t) (flat_map-append xs ys) ∙ sym (append_assoc (entry_says x) (flat_map entry_says xs) (flat_map entry_says ys))

-- entries in order with more that go on in order are in order
pub InOrder-append : (format : Format) (last : ℕ) (xs ys : List Item) → InOrder format last xs → InOrder format (last_of last xs) ys → InOrder format last (xs ++ ys)
InOrder-append format last [] ys order more = more
InOrder-append format last (x ∷ xs) ys order more = (order.0, order.1, InOrder-append format x.moment xs ys order.2 more)

-- the last moment of two lists of entries is that of the second after that of the first
pub last_of-append : (last : ℕ) (xs ys : List Item) → last_of last (xs ++ ys) ≡ last_of (last_of last xs) ys
last_of-append last [] ys = refl
last_of-append last (x ∷ xs) ys = last_of-append x.moment xs ys

-- the entries with which an input begins are the first entries of a log of it
Begins-log : (input : List ℕ) (format : Format) (p : Times) (items : List Item) (rest : List ℕ) → Begins input format p items rest → (more : List Item) × (end : LogEnd) × LogSays input p (items ++ more) end
Begins-log input format p items rest is =
    -- others follow in the rest, up to an end, and what follows is spelled there
    let (more, end, follow) = Follow-some format (length items) (last_of 0 items) rest in
    let spelled = follow-spelled format (length items) (last_of 0 items) rest more end is.few follow in
    let long : length items + length more ≡ length (items ++ more) = sym (length-append items more) in
    -- the input is the header, the spelling of these items and of those that follow, and what is left
    let texts : flat_map entry_says items ++ rest ≡ flat_map entry_says (items ++ more) ++ spelled.left =
    ap (λ (t : List ℕ). flat_map entry_says items ++ t) spelled.whole ∙ sym (append_assoc (flat_map entry_says items) (flat_map entry_says more) spelled.left)
    ∙ ap (λ (t : List ℕ). t ++ spelled.left) (sym (flat_map-append items more)) in (
      more,
      end,
      record {
        format = format;
        rest = spelled.left;
        -- these items and those that follow are few enough and in order, and the end comes after them
        header = subst (Header format p input) texts is.header;
        few = omega (arith, spelled.few, long);
        order = InOrder-append format 0 items more is.order spelled.order;
        next = subst (λ n. EndsWith format n (last_of 0 (items ++ more)) spelled.left end) long
            (subst (λ m. EndsWith format (length items + length more) m spelled.left end) (sym (last_of-append 0 items more)) spelled.next);
      },
    )

-- the entries that a reader has given are the first entries of the log of its input, where it reads entries still
pub Stands-log : (start : Option (List ℕ)) (items : List Item) (now : ReaderState) → now.stage ≡ entries → Stands start items now
    → IfSome start (λ input. IfSome now.times (λ p. (more : List Item) × (end : LogEnd) × LogSays input p (items ++ more) end))
Stands-log start items now on stands = go now.times start (subst (λ s. StandsAt s start items now) on stands).0
  where
    -- where the input and the times are known, the items are at the front of a log
    go : (t : Option Times) (s : Option (List ℕ)) → HasRead s now.format t items now.left → IfSome s (λ input. IfSome t (λ p. (more : List Item) × (end : LogEnd) × LogSays input p (items ++ more) end))
    go None s has = absurd has
    go (Some p) None has = tt
    go (Some p) (Some input) (rest, left, begins) = Begins-log input now.format p items rest begins

-- What follows is of a header that was read by itself: the source had the bytes `start` before it and has `left` after it.
-- `before` and `after` tell whether a read of the source had failed before it and after it.

module _ (start left : Option (List ℕ)) (before after : Bool) where
  -- where the reader stands once the header was read
  pub record Opened (p : Times) (place : ProgressState) : Type 0 where
    pub on : place.stage ≡ entries
    pub times : place.times ≡ Some p
    pub count : place.count ≡ 0
    pub last : place.last ≡ 0
    pub fine : after ≡ before
    pub stands : Stands start [] (beside_source place left after)

  -- an answer with the times of a header tells where the reader stands then
  pub Opens-stands : (p : Times) (place : ProgressState) → Opens start left before after (Ok (p, place)) → Opened p place
  Opens-stands p place (is, says) =
      let on = ap (λ (x : ProgressState). x.stage) is in
      let times = ap (λ (x : ProgressState). x.times) is in
      record {
        on = on;
        times = times;
        -- no entry was read yet: none was counted, and the last moment is 0
        count = ap (λ (x : ProgressState). x.count) is;
        last = ap (λ (x : ProgressState). x.last) is;
        fine = says.0;
        stands = subst (λ s. StandsAt s start [] (beside_source place left after)) (sym on)
            (subst (λ t. HasRead start place.format t [] (beside_source place left after).left) (sym times) (has start says.1), ap (λ (x : ProgressState). x.count) is, ap (λ (x : ProgressState). x.last) is);
      }
    where
      -- where the header comes first in what was left, it was read
      has : (s : Option (List ℕ)) → IfSome s (λ xs. (ys : List ℕ) × (prepend_known place.held left ≡ Some ys) × Heads place.format xs (gives p ys)) → HasRead s place.format (Some p) [] (prepend_known place.held left)
      has None says = tt
      has (Some xs) (ys, left_is, header) = (ys, left_is, Begins-header xs place.format p ys header)

-- the reader has told neither the end nor an error
abbrev pub GoesOn : ReaderState → Type 0
GoesOn now = (now.stage ≡ fresh) ⊎ (now.stage ≡ entries)

-- What follows is what each answer of `next` adds to what is known.
-- The source had the bytes `start` at first, and these items were read of them; `old` is the reader before the call, `new` after it.

module _ (start : Option (List ℕ)) (items : List Item) (old new : ReaderState) where
  -- the times of the header stay as they are from entry to entry
  same-times : (t : Option Times) → HasRead start old.format t items old.left → IfSome t (λ p. (new.times ≡ Some p) × (new.format ≡ old.format)) → new.times ≡ t
  same-times None has kept = absurd has
  same-times (Some p) has kept = kept.0

  -- the format of the log stays as it is from entry to entry
  same-format : (t : Option Times) → HasRead start old.format t items old.left → IfSome t (λ p. (new.times ≡ Some p) × (new.format ≡ old.format)) → new.format ≡ old.format
  same-format None has kept = absurd has
  same-format (Some p) has kept = kept.1

  -- where an item comes after the entries that were read, it has been read after them
  pub gave-next : (i : Item) (t : Option Times) (s : Option (List ℕ)) → old.count ≡ length items → old.last ≡ last_of 0 items → HasRead s old.format t items old.left
      → IfSome old.left (λ xs. (ys : List ℕ) × (new.left ≡ Some ys) × ComesNext old.format old.count old.last xs (gives i ys)) → HasRead s old.format t (items ++ i ∷ []) new.left
  gave-next i None s counts moment has says = absurd has
  gave-next i (Some p) None counts moment has says = tt
  gave-next i (Some p) (Some input) counts moment (rest, left, begins) says =
      -- n.0 are the bytes that are left after the item; the item comes next after as many entries, and after the moment of the last of them, as the items
      -- tell
      let n = subst (λ o. IfSome o (λ xs. (ys : List ℕ) × (new.left ≡ Some ys) × ComesNext old.format old.count old.last xs (gives i ys))) left says in
      let next = subst (λ c. ComesNext old.format c (last_of 0 items) rest (gives i n.0)) counts (subst (λ m. ComesNext old.format old.count m rest (gives i n.0)) moment n.2) in
      (n.0, n.1, Begins-push input old.format p items rest begins i n.0 next)

  -- What follows is of an answer with the entry e.
  module _ (e : Entry) where
    -- where the reader moved on over the entry, it stands after the items with that one
    closed : Moves old.count old.last new (Ok (Some e)) → HasRead start new.format new.times (items ++ item e ∷ []) new.left → old.count ≡ length items → Stands start (items ++ item e ∷ []) new
    closed moves has counts =
        -- the reader reads entries, has counted as many as there are items with this one, and has its moment as the last
        subst (λ s. StandsAt s start (items ++ item e ∷ []) new) (sym moves.0)
        (has, moves.2 ∙ moves.1.number_is ∙ ap (λ n. n + 1) counts ∙ sym (length_push items (item e)), moves.3 ∙ sym (last_of-push 0 items (item e)))

    -- where an entry comes first after the header, it has been read after the header
    -- t is the times and s the input, where these are known; xs is what is left before the call, and ys what is left after it
    gave-first : (t : Option Times) (s : Option (List ℕ)) → items ≡ [] → IsSome t → IfSome s (λ xs. (ys : List ℕ) × (new.left ≡ Some ys) × ComesFirst new.format t xs (gives (item e) ys)) → HasRead s new.format t (items ++ item e ∷ []) new.left
    gave-first None s none some says = cc
    gave-first (Some p) None none some says = tt
    gave-first (Some p) (Some xs) none some (ys, left, (behind, header, next)) =
        (ys, left, subst (λ is. Begins xs new.format p (is ++ item e ∷ []) ys) (sym none) (Begins-push xs new.format p [] behind (Begins-header xs new.format p behind header) (item e) ys next))

    -- an answer with an entry says that it was read after the entries before it, at whatever stage
    gave-at : (s : Stage) → old.stage ≡ s → StandsAt s start items old → NextsAt s old new (Ok (Some e)) → Stands start (items ++ item e ∷ []) new
    -- the first answer: the format and the times are read with it
    gave-at fresh at h steps =
        -- what comes first in what was left is the header, and after it the entry
        let says = subst (λ s. IfSome old.left (λ xs. (ys : List ℕ) × (new.left ≡ Some ys) × Comes s old new xs (gives (item e) ys))) at steps.says.1 in
        closed steps.moves (gave-first new.times start h.0 steps.times (subst (λ o. IfSome o (λ xs. (ys : List ℕ) × (new.left ≡ Some ys) × ComesFirst new.format new.times xs (gives (item e) ys))) h.1 says))
        (h.3 ∙ sym (ap length h.0))
    -- a later answer: the format and the times are those of the old state
    gave-at entries at h steps =
        -- what comes first in what was left is the entry
        let says = subst (λ s. IfSome old.left (λ xs. (ys : List ℕ) × (new.left ≡ Some ys) × Comes s old new xs (gives (item e) ys))) at steps.says.1 in
        let same = same-times old.times h.0 steps.kept in
        let format = same-format old.times h.0 steps.kept in
        closed steps.moves
        (subst (λ f. HasRead start f new.times (items ++ item e ∷ []) new.left) (sym format)
        (gave-next (item e) new.times start h.1 h.2 (subst (λ t. HasRead start old.format t items old.left) (sym same) h.0) says)) h.1
    -- after the end and after a failure no entry is answered
    gave-at ended at h again = cc
    gave-at failed at h again = cc

    -- where the reader stands after the items and gives an entry, it stands after the items with that one
    pub Stands-gives : Stands start items old → Nexts old new (Ok (Some e)) → Stands start (items ++ item e ∷ []) new
    Stands-gives stands nexts = gave-at old.stage refl stands nexts

  -- where the end comes first after the header, the log has no entries
  -- t is the times and s the input, where these are known; xs is what is left before the call, and ys what is left after it
  ended-first : (t : Option Times) (s : Option (List ℕ)) → items ≡ [] → IsSome t → IfSome s (λ xs. (ys : List ℕ) × (new.left ≡ Some ys) × ComesFirst new.format t xs ends) → IfSome s (λ input. IfSome t (λ p. LogSays input p items Clean))
  ended-first None s none some says = cc
  ended-first (Some p) None none some says = tt
  ended-first (Some p) (Some xs) none some (ys, left, (behind, header, next)) =
      subst (λ is. LogSays xs p is Clean) (sym none) (Begins-ends xs new.format p [] behind (Begins-header xs new.format p behind header) Clean next)

  -- where the end comes after entries, the log has exactly them
  -- t is the times and s the input, where these are known; xs is what is left before the call, and ys what is left after it
  ended-next : (t : Option Times) (s : Option (List ℕ)) → HasRead s old.format t items old.left → IfSome old.left (λ xs. (ys : List ℕ) × (new.left ≡ Some ys) × (xs ≡ [])) → IfSome s (λ input. IfSome t (λ p. LogSays input p items Clean))
  ended-next None s has says = absurd has
  ended-next (Some p) None has says = tt
  ended-next (Some p) (Some input) (rest, left, begins) says =
      let n = subst (λ o. IfSome o (λ xs. (ys : List ℕ) × (new.left ≡ Some ys) × (xs ≡ []))) left says in
      Begins-ends input old.format p items rest begins Clean n.2

  -- an answer that tells the end says that the log has exactly the entries that were given, at whatever stage
  ended-at : (s : Stage) → old.stage ≡ s → GoesOn old → StandsAt s start items old → NextsAt s old new (Ok None) → IfSome start (λ input. IfSome new.times (λ p. LogSays input p items Clean))
  -- nothing was read yet: the end comes after the header
  ended-at fresh at on h steps =
      let says = subst (λ s. IfSome old.left (λ xs. (ys : List ℕ) × (new.left ≡ Some ys) × Comes s old new xs ends)) at steps.says.1 in
      ended-first new.times start h.0 steps.times (subst (λ o. IfSome o (λ xs. (ys : List ℕ) × (new.left ≡ Some ys) × ComesFirst new.format new.times xs ends)) h.1 says)
  -- entries were read: the end comes after them
  ended-at entries at on h steps =
      let says = subst (λ s. IfSome old.left (λ xs. (ys : List ℕ) × (new.left ≡ Some ys) × Comes s old new xs ends)) at steps.says.1 in
      let same = same-times old.times h.0 steps.kept in
      ended-next new.times start (subst (λ t. HasRead start old.format t items old.left) (sym same) h.0) says
  -- after the end, and after a failure, no more is read
  ended-at ended at on h again = absurd (elim on as (λ _. ⊥) [ inl is ↦ cc | inr is ↦ cc ])
  ended-at failed at on h again = absurd (elim on as (λ _. ⊥) [ inl is ↦ cc | inr is ↦ cc ])

  -- where the reader answers the end, the log of the input has these entries and ends there
  pub Stands-ends : GoesOn old → Stands start items old → Nexts old new (Ok None) → IfSome start (λ input. IfSome new.times (λ p. LogSays input p items Clean))
  Stands-ends on stands nexts = ended-at old.stage refl on stands nexts

  -- the log cannot be read on: it lacks a header where no times were read, and else it stops after these entries
  abbrev pub StopsAt : List ℕ → Option Times → LogReason → Type 0
  StopsAt input None fault = LacksHeader input × (fault ≡ faults.Header)
  StopsAt input (Some p) fault = LogSays input p items (Stops fault)

  -- a fault that comes first in an input is one of its header, or of the first entry
  stops-first : (t : Option Times) (s : Option (List ℕ)) (fault : LogReason) → items ≡ [] → IfSome s (λ xs. ComesFirst new.format t xs (stops fault)) → IfSome s (λ input. StopsAt input t fault)
  stops-first t None fault none says = tt
  stops-first None (Some xs) fault none (no_header, same) = (no_header, ap of same)
    where
      -- the fault of what stops
      of : Next Item → LogReason
      of (stops f) = f
      of (gives e behind) = fault
      of ends = fault
  stops-first (Some p) (Some xs) fault none (behind, header, next) =
      subst (λ is. LogSays xs p is (Stops fault)) (sym none) (Begins-ends xs new.format p [] behind (Begins-header xs new.format p behind header) (Stops fault) next)

  -- a fault that comes after entries is one at which the log stops after them
  stops-next : (t : Option Times) (s : Option (List ℕ)) (fault : LogReason) → old.count ≡ length items → old.last ≡ last_of 0 items → HasRead s old.format t items old.left → IfSome old.left (λ xs. ComesNext old.format old.count old.last xs (stops fault)) → IfSome s (λ input. StopsAt input t fault)
  stops-next None s fault counts moment has says = absurd has
  stops-next (Some p) None fault counts moment has says = tt
  stops-next (Some p) (Some input) fault counts moment (rest, left, begins) says =
      let n = subst (λ o. IfSome o (λ xs. ComesNext old.format old.count old.last xs (stops fault))) left says in
      Begins-ends input old.format p items rest begins (Stops fault) (subst (λ c. ComesNext old.format c (last_of 0 items) rest (stops fault)) counts (subst (λ m. ComesNext old.format old.count m rest (stops fault)) moment n))

  -- an answer with an error tells the fault at which the log stops, at whatever stage
  stops-at : (s : Stage) (e : LogError) → old.stage ≡ s → GoesOn old → StandsAt s start items old → NextsAt s old new (Err e)
      → FailsAs old.has_failed new.has_failed (λ fault. IfSome start (λ input. StopsAt input new.times fault)) e
  -- where nothing was read, the fault is that of the header or of the first entry
  stops-at fresh e at on h steps =
      FailsAs-map old.has_failed new.has_failed _ _ e
      (λ fault says. stops-first new.times start fault h.0 (subst (λ o. IfSome o (λ xs. ComesFirst new.format new.times xs (stops fault))) h.1 (subst (λ s. IfSome old.left (λ xs. Comes s old new xs (stops fault))) at says))) steps.says
  -- where an entry was to come, the fault is that of what comes next
  stops-at entries e at on h steps =
      let same = same-times old.times h.0 steps.kept in
      FailsAs-map old.has_failed new.has_failed _ _ e
      (λ fault says. stops-next new.times start fault h.1 h.2 (subst (λ t. HasRead start old.format t items old.left) (sym same) h.0) (subst (λ s. IfSome old.left (λ xs. Comes s old new xs (stops fault))) at says)) steps.says
  -- after the end or a failure the reader does not go on
  stops-at ended e at on h again = absurd (elim on as (λ _. ⊥) [ inl is ↦ cc | inr is ↦ cc ])
  stops-at failed e at on h again = absurd (elim on as (λ _. ⊥) [ inl is ↦ cc | inr is ↦ cc ])

  -- where the reader answers an error, the input stops at its fault after these entries
  pub Stands-stops : (e : LogError) → GoesOn old → Stands start items old → Nexts old new (Err e) → FailsAs old.has_failed new.has_failed (λ fault. IfSome start (λ input. StopsAt input new.times fault)) e
  Stands-stops e on stands nexts = stops-at old.stage e refl on stands nexts

  -- the fault at which a log stops is a fault for which the input cannot be read to its end
  fault-of : (t : Option Times) (s : Option (List ℕ)) (fault : LogReason) → IfSome s (λ input. StopsAt input t fault) → IfSome s (λ input. IsFaultOf input fault)
  fault-of t None fault at = tt
  fault-of None (Some input) fault at = inl at
  fault-of (Some p) (Some input) fault at = inr (p, items, at)

  -- where the reader answers an error, its fault is one for which the input cannot be read to its end
  pub Stands-fault : (e : LogError) → GoesOn old → Stands start items old → Nexts old new (Err e) → FailsAs old.has_failed new.has_failed (λ fault. IfSome start (λ input. IsFaultOf input fault)) e
  Stands-fault e on stands nexts = FailsAs-map old.has_failed new.has_failed _ _ e (λ fault at. fault-of new.times start fault at) (Stands-stops e on stands nexts)

  -- no read of the source has failed in a call that answers no error
  fine-at : (s : Stage) (r : Option Entry) → NextsAt s old new (Ok r) → new.has_failed ≡ old.has_failed
  fine-at fresh r steps = steps.says.0
  fine-at entries r steps = steps.says.0
  -- after the end all stays as it is, and after an error each call answers an error
  fine-at ended r again = ap (λ (x : ReaderState). x.has_failed) again.1
  fine-at failed r again = cc

  -- no read of the source has failed in a call that answers no error
  pub Nexts-fine : (r : Option Entry) → Nexts old new (Ok r) → new.has_failed ≡ old.has_failed
  Nexts-fine r nexts = fine-at old.stage r nexts

  -- after an entry the reader reads on, has counted it, and has its moment as the last
  pub record Counted (e : Entry) : Type 0 where
    pub on : new.stage ≡ entries
    pub up : new.count ≡ old.count + 1
    pub few : old.count < most_entries
    pub last : new.last ≡ e.moment
    pub continues : Continues (old.count + 1) old.last e

  -- a call that moves on over an entry counts it
  counted : (e : Entry) → Moves old.count old.last new (Ok (Some e)) → Counted e
  counted e moves = record { on = moves.0; up = moves.2 ∙ moves.1.number_is; few = moves.4; last = moves.3; continues = moves.1 }

  -- an answer with an entry counts it, at whatever stage
  counted-at : (s : Stage) (e : Entry) → NextsAt s old new (Ok (Some e)) → Counted e
  counted-at fresh e steps = counted e steps.moves
  counted-at entries e steps = counted e steps.moves
  -- after the end and after an error no entry is answered
  counted-at ended e again = cc
  counted-at failed e again = cc

  -- an answer with an entry counts it
  pub Nexts-counted : (e : Entry) → Nexts old new (Ok (Some e)) → Counted e
  Nexts-counted e nexts = counted-at old.stage e nexts

-- the times of the header stay as they are in a call at the stage of entries
pub Nexts-times : (old new : ReaderState) (r : Result (Option Entry) LogError) (p : Times) → old.stage ≡ entries → old.times ≡ Some p → Nexts old new r → new.times ≡ Some p
Nexts-times old new r p on times nexts =
    (subst (λ t. IfSome t (λ q. (new.times ≡ Some q) × (new.format ≡ old.format))) times (subst (λ s. NextsAt s old new r) on nexts).kept).0
