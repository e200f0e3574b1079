-- The log of an input in which any number of entries may come: there is one, and only one.
-- In the lemmas es and es2 are the entries by two readings, e and e2 the first of them, and n and n2 what comes next by each.
-- `coe 0 1 (i. P (e i)) h`: by the equation e, h, which says P of its left side, says it of the right one. `λ i. f (e i)`: f of both sides is equal.
use Rattle.std.proofs.Common.{◌≡◌, ◌⊎◌, inl, inr, ◌<◌, ◌≤◌, ◌+◌, ℕ, zero, suc, List, [], ◌∷◌, ◌++◌, length, refl, subst, sym, ap, ◌∙◌, arith, append_assoc}
use Rattle.std.specs.Prelude.{◌↔◌, flat_map}
use Rattle.sip_standard.specs.Times.{Times}
use Rattle.sip_standard.specs.declared.format.Format.{Format}
use Rattle.sip_standard.specs.LogEntry.{Item, entry_says, InOrder, last_of}
use Rattle.sip_standard.specs.LogHeader.{Header}
use Rattle.sip_standard.specs.LogSays.{EndsWith, most_entries, LogEnd, Clean, Stops, LogSays, LacksHeader}
use Rattle.sip_log.specs.Next.{Next, ends, gives, stops}
use Rattle.sip_log.specs.Stream.{StreamSays}
use Rattle.sip_log.specs.inner.Entry.{EntryComes}
use Rattle.sip_log.specs.inner.Follow.{next_at}
use Rattle.sip_log.proofs.answers.NextLemmas.{next-told, comes-end, end-comes}
use Rattle.sip_log.proofs.answers.NextRead.{next-read}
use Rattle.sip_log.proofs.logs.LogLaws.{Header-one, ComesNext-one, next_at-one, next_at-not_gives}
use Rattle.sip_log.proofs.logs.LogExists.{header-or-not, next-some, next-shorter}

-- the rest of an input, where the last entry had this moment, has these entries in a row, and then ends in this way
abbrev pub Follows : Format → ℕ → List ℕ → List Item → LogEnd → Type 0
Follows format last rest [] end = EntryComes format 0 last rest (next_at end)
Follows format last rest (e ∷ es) end = (behind : List ℕ) × EntryComes format 0 last rest (gives e behind) × Follows format e.moment behind es end

-- What follows shows that each rest has some entries and an end.

-- some entries and some end follow in these bytes
abbrev pub SomeFollow : Format → ℕ → List ℕ → Type 0
SomeFollow format last rest = (es : List Item) × (end : LogEnd) × Follows format last rest es end

-- where some entries and an end follow after any entry that comes next, some follow in the rest
follows_from : (format : Format) (last : ℕ) (rest : List ℕ) (next : Next Item) → EntryComes format 0 last rest next
    → ((e : Item) (behind : List ℕ) → length behind < length rest → SomeFollow format e.moment behind) → SomeFollow format last rest
follows_from format last rest ends next more = ([], Clean, next)
follows_from format last rest (stops reason) next more = ([], Stops reason, next)
follows_from format last rest (gives e behind) next more =
    let (es, end, follow) = more e behind (next-shorter format 0 last rest e behind next) in
    (e ∷ es, end, (behind, next, follow))

-- some entries and an end follow in a rest that is shorter than `most`
follows_within : (format : Format) (most last : ℕ) (rest : List ℕ) → length rest < most → SomeFollow format last rest
follows_within format zero last rest short = absurd (omega arith)
follows_within format (suc most) last rest short =
    let next = next-some format 0 last rest in
    follows_from format last rest next.0 next.1 (λ e behind shorter. follows_within format most e.moment behind (omega arith))

-- in any bytes some entries and some end follow
pub follows_some : (format : Format) (last : ℕ) (rest : List ℕ) → SomeFollow format last rest
follows_some format last rest = follows_within format (suc (length rest)) last rest (omega arith)

-- What follows shows that a rest has only one list of entries and one end.

-- bytes have only one list of entries that follow in them, and only one end
follows_one : (format : Format) (last : ℕ) (rest : List ℕ) (es es2 : List Item) (end end2 : LogEnd) → Follows format last rest es end → Follows format last rest es2 end2 → (es ≡ es2) × (end ≡ end2)
-- where no entry follows, the ends are one, since what comes next is one thing; an entry and an end are not one
follows_one format last rest [] [] end end2 a b = (refl, next_at-one end end2 (ComesNext-one format 0 last rest _ _ a b))
follows_one format last rest [] (e2 ∷ es2) end end2 a b = absurd (next_at-not_gives end e2 b.0 (ComesNext-one format 0 last rest _ _ a b.1))
follows_one format last rest (e ∷ es) [] end end2 a b = absurd (next_at-not_gives end2 e a.0 (ComesNext-one format 0 last rest _ _ b a.1))
-- where an entry follows in both, it is the same entry with the same bytes after it, and in these all is the same
follows_one format last rest (e ∷ es) (e2 ∷ es2) end end2 a b =
    let same = ComesNext-one format 0 last rest _ _ a.1 b.1 in
    let first : e ≡ e2 = cc in
    let behind : a.0 ≡ b.0 = cc in
    let more = follows_one format e2.moment b.0 es es2 end end2 (coe 0 1 (i. Follows format ((first i).moment) (behind i) es end) a.2) b.2 in
    (λ i. first i ∷ more.0 i, more.1)

-- What follows shows that the entries are what the rest spells.

-- the rest of an input spells these entries, one after another, and ends in this way after them
pub record Spelled (format : Format) (last : ℕ) (rest : List ℕ) (items : List Item) (end : LogEnd) : Type 0 where
  pub left : List ℕ
  pub whole : rest ≡ flat_map entry_says items ++ left
  pub order : InOrder format last items
  pub next : EndsWith format 0 (last_of last items) left end

-- entries that follow in the rest are its spelling up to its end
pub follows_spelled : (format : Format) (last : ℕ) (rest : List ℕ) (items : List Item) (end : LogEnd) → Follows format last rest items end → Spelled format last rest items end
follows_spelled format last rest [] end next = record { left = rest; whole = refl; order = tt; next = comes-end format 0 last rest end (next-told format 0 last rest (next_at end) next) }
-- the first entry is spelled at the front, and the others are spelled in what is left
follows_spelled format last rest (e ∷ es) end (behind, next, follow) =
    let first = next-told format 0 last rest (gives e behind) next in
    let more = follows_spelled format e.moment behind es end follow in
    record {
      -- the two spellings, one after the other, are that of all entries, which are in order since the first keeps it
      left = more.left;
      whole = first.0 ∙ ap (λ (t : List ℕ). entry_says e ++ t) more.whole ∙ sym (append_assoc (entry_says e) (flat_map entry_says es) more.left);
      order = (first.2, first.3, more.order);
      next = more.next;
    }

-- entries in order, spelled before the end, follow there
spelled_follows : (format : Format) (last : ℕ) (items : List Item) (rest : List ℕ) (end : LogEnd) → InOrder format last items → EndsWith format 0 (last_of last items) rest end
    → Follows format last (flat_map entry_says items ++ rest) items end
-- without entries the end stands there
spelled_follows format last [] rest end order next = next-read format 0 last rest (next_at end) (end-comes format 0 last rest end next)
spelled_follows format last (e ∷ es) rest end order next =
    -- the first entry is spelled at the front, and the others follow in what is left
    let whole : (entry_says e ++ flat_map entry_says es) ++ rest ≡ entry_says e ++ (flat_map entry_says es ++ rest) = append_assoc (entry_says e) (flat_map entry_says es) rest in (
      flat_map entry_says es ++ rest,
      next-read format 0 last ((entry_says e ++ flat_map entry_says es) ++ rest) (gives e (flat_map entry_says es ++ rest)) (whole, omega arith, order.0, order.1),
      spelled_follows format e.moment es rest end order.2 next,
    )

-- each input lacks a header, or has a stream after its header
pub stream_is_some : (input : List ℕ) → LacksHeader input ⊎ ((p : Times) × (items : List Item) × (end : LogEnd) × StreamSays input p items end)
stream_is_some input = elim (header-or-not input) [
  | inr none ↦ inl none
  | inl is ↦
      -- entries follow the header up to an end, and what stands there is their spelling
      let (items, end, follow) = follows_some is.0 0 is.2 in
      let rest = follows_spelled is.0 0 is.2 items end follow in
      inr (is.1, items, end, record { format = is.0; rest = rest.left; header = subst (Header is.0 is.1 input) rest.whole is.3; order = rest.order; next = rest.next })
]

-- no input has two streams
pub stream_is_one : (input : List ℕ) (p q : Times) (items others : List Item) (end close : LogEnd) → StreamSays input p items end → StreamSays input q others close → (p ≡ q) × (items ≡ others) × (end ≡ close)
stream_is_one input p q items others end close is are =
    let header = Header-one is.format are.format input p q _ _ is.header are.header in
    let a = spelled_follows is.format 0 items is.rest end is.order is.next in
    let b = spelled_follows are.format 0 others are.rest close are.order are.next in
    let same = follows_one are.format 0 (flat_map entry_says others ++ are.rest) items others end close (coe 0 1 (i. Follows (header.0 i) 0 (header.2 i) items end) a) b in
    (header.1, same.0, same.1)

-- no input both has a stream and lacks a header
pub stream_has_header : (input : List ℕ) (p : Times) (items : List Item) (end : LogEnd) → LacksHeader input → StreamSays input p items end → ⊥
stream_has_header input p items end none is = none is.format p _ is.header

-- Few entries are a log.

-- an end that the rest has after m entries it has after n entries, where m and n are both below the most
ends_alike : (format : Format) (m n last : ℕ) (rest : List ℕ) (end : LogEnd) → m < most_entries → n < most_entries → EndsWith format m last rest end → EndsWith format n last rest end
ends_alike format m n last rest Clean few less is = is
ends_alike format m n last rest (Stops fault) few less (some, inl (many, same)) = absurd (omega arith)
ends_alike format m n last rest (Stops fault) few less (some, inr (other, at)) = (some, inr ((λ many. omega arith), at))

-- a log of fewer entries than the most is a stream, and the other way round
pub log_stream : (input : List ℕ) (p : Times) (items : List Item) (end : LogEnd) → length items < most_entries → LogSays input p items end ↔ StreamSays input p items end
log_stream input p items end few = (
  (λ is. record { format = is.format; rest = is.rest; header = is.header; order = is.order; next = ends_alike is.format (length items) 0 (last_of 0 items) is.rest end few (omega arith) is.next }),
  (λ is. record { format = is.format; rest = is.rest; header = is.header; few = omega arith; order = is.order; next = ends_alike is.format 0 (length items) (last_of 0 items) is.rest end (omega arith) few is.next }),
)

-- a log that is read to its end is a stream that is, and the other way round, up to the most entries
pub clean_stream : (input : List ℕ) (p : Times) (items : List Item) → length items ≤ most_entries → LogSays input p items Clean ↔ StreamSays input p items Clean
clean_stream input p items few = (
  (λ is. record { format = is.format; rest = is.rest; header = is.header; order = is.order; next = is.next }),
  (λ is. record { format = is.format; rest = is.rest; header = is.header; few = few; order = is.order; next = is.next }),
)
