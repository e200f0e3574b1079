-- What a caller of `next` knows of an input in which any number of entries may come, where it counts anew before each call.
-- In a clause with `None` the input is not known, and nothing is to be shown of it.
use Rattle.std.proofs.Common.{◌≡◌, inl, inr, ◌≤◌, ℕ, Bool, List, [], ◌∷◌, ◌++◌, Option, Some, None, IfSome, Result, Ok, Err, refl, subst, sym, ap, ◌∙◌, append_assoc}
use Rattle.std.specs.Prelude.{flat_map}
use Rattle.sip_standard.specs.Times.{Times}
use Rattle.sip_standard.specs.declared.format.Format.{Format}
use Rattle.sip_standard.specs.declared.log_reason.LogReason.{LogReason}
use Rattle.sip_standard.specs.LogEntry.{Item, entry_says, InOrder, last_of}
use Rattle.sip_standard.specs.LogHeader.{Header}
use Rattle.sip_standard.specs.LogSays.{LogEnd, Clean, Stops, EndsWith}
use Rattle.sip_log.specs.declared.entry.Entry.{Entry}
use Rattle.sip_log.specs.declared.log_error.LogError.{LogError}
use Rattle.sip_log.specs.Next.{ends, gives, stops, ComesNext}
use Rattle.sip_log.specs.Told.{FailsAs, item}
use Rattle.sip_log.specs.Reading.{entries, ReaderState, Comes, ReadsNext, NextsAt, Nexts}
use Rattle.sip_log.specs.Stream.{StreamSays}
use Rattle.sip_log.proofs.answers.CallerLemmas.{InOrder-push, last_of-push, texts-push, flat_map-append, InOrder-append, last_of-append, HasRead, Stands, StandsAt}
use Rattle.sip_log.proofs.answers.ReadingLemmas.{FailsAs-map}
use Rattle.sip_log.proofs.logs.Streams.{follows_some, follows_spelled}

-- a header and the spelling of these entries stand at the front of an input, and this rest after them
pub record Starts (input : List ℕ) (format : Format) (p : Times) (items : List Item) (rest : List ℕ) : Type 0 where
  pub header : Header format p input (flat_map entry_says items ++ rest)
  pub order : InOrder format 0 items

-- where the input is known, a header and these entries stand at its front, and this is left after them
abbrev pub StartsAt : Option (List ℕ) → Format → Times → List Item → Option (List ℕ) → Type 0
StartsAt start format p items left = IfSome start (λ input. (rest : List ℕ) × (left ≡ Some rest) × Starts input format p items rest)

-- these times and entries were read of an input, and it may be read on
pub record HasStreamed (start : Option (List ℕ)) (p : Times) (items : List Item) (now : ReaderState) : Type 0 where
  pub on : now.stage ≡ entries
  pub times_are : now.times ≡ Some p
  pub last : now.last ≡ last_of 0 items
  pub starts : StartsAt start now.format p items now.left

-- What follows is of an input that begins with a header of the format, with the times p, and with these items, and has `rest` after them.
module _ (input : List ℕ) (format : Format) (p : Times) (items : List Item) (rest : List ℕ) (is : Starts input format p items rest) where
  -- where an entry comes next in the rest, the header and the entries with that one stand at the front of the input
  starts_push : (e : Item) (behind : List ℕ) → ComesNext format 0 (last_of 0 items) rest (gives e behind) → Starts input format p (items ++ e ∷ []) behind
  starts_push e behind next = record {
    header = subst (Header format p input) (ap (λ (t : List ℕ). flat_map entry_says items ++ t) next.0 ∙ texts-push items e behind) is.header;
    order = InOrder-push format 0 items e is.order next.2 next.3;
  }

  -- where the rest ends in this way, the log of the input has these entries and ends so
  starts_end : (end : LogEnd) → EndsWith format 0 (last_of 0 items) rest end → StreamSays input p items end
  starts_end end next = record { format = format; rest = rest; header = is.header; order = is.order; next = next }

-- What follows is of a call by a reader that has read these items, and reads the next one.
-- The source had the bytes `start` at first; `old` is the reader before the call, which counts no entries, and `new` after it.
module _ (start : Option (List ℕ)) (p : Times) (items : List Item) (old new : ReaderState) (has : HasStreamed start p items old) (none : old.count ≡ 0) where
  -- at the stage of entries the reader reads the next one
  steps : (r : Result (Option Entry) LogError) → Nexts old new r → ReadsNext old new r
  steps r nexts = subst (λ s. NextsAt s old new r) has.on nexts

  -- the times of the header stay, and the format
  kept : (r : Result (Option Entry) LogError) → ReadsNext old new r → (new.times ≡ Some p) × (new.format ≡ old.format)
  kept r is = subst (λ t. IfSome t (λ q. (new.times ≡ Some q) × (new.format ≡ old.format))) has.times_are is.kept

  -- where an entry comes next, the input starts with the entries and that one
  gave : (e : Entry) (s : Option (List ℕ)) → StartsAt s old.format p items old.left
      → IfSome old.left (λ xs. (ys : List ℕ) × (new.left ≡ Some ys) × ComesNext old.format old.count old.last xs (gives (item e) ys)) → StartsAt s old.format p (items ++ item e ∷ []) new.left
  gave e None at says = tt
  gave e (Some input) (rest, left, is) says =
      -- n.0 are the bytes that are left after the entry, and n.2 says that it comes next, after no entries and after the moment of the last item
      let n = subst (λ o. IfSome o (λ xs. (ys : List ℕ) × (new.left ≡ Some ys) × ComesNext old.format old.count old.last xs (gives (item e) ys))) left says in
      let next = subst (λ c. ComesNext old.format c (last_of 0 items) rest (gives (item e) n.0)) none (subst (λ m. ComesNext old.format old.count m rest (gives (item e) n.0)) has.last n.2) in
      (n.0, n.1, starts_push input old.format p items rest is (item e) n.0 next)

  -- where the reader answers an entry, it has streamed that entry too
  pub streams_entry : (e : Entry) → Nexts old new (Ok (Some e)) → HasStreamed start p (items ++ item e ∷ []) new
  streams_entry e nexts =
      let is = steps (Ok (Some e)) nexts in
      let same = kept (Ok (Some e)) is in
      -- what comes next in what was left is the entry
      let says = subst (λ s. IfSome old.left (λ xs. (ys : List ℕ) × (new.left ≡ Some ys) × Comes s old new xs (gives (item e) ys))) has.on is.says.1 in
      -- the reader stands after this entry, and its times are the same
      record {
        on = is.moves.0;
        times_are = same.0;
        last = is.moves.3 ∙ sym (last_of-push 0 items (item e));
        starts = subst (λ f. StartsAt start f p (items ++ item e ∷ []) new.left) (sym same.1) (gave e start has.starts says);
      }

  -- where nothing is left, the stream of the input has these entries and ends there
  ended : (s : Option (List ℕ)) → StartsAt s old.format p items old.left → IfSome old.left (λ xs. (ys : List ℕ) × (new.left ≡ Some ys) × (xs ≡ [])) → IfSome s (λ input. StreamSays input p items Clean)
  ended None at says = tt
  ended (Some input) (rest, left, is) says =
      -- nothing was left before the call
      let n = subst (λ o. IfSome o (λ xs. (ys : List ℕ) × (new.left ≡ Some ys) × (xs ≡ []))) left says in
      starts_end input old.format p items rest is Clean n.2

  -- where the reader answers the end, the stream of the input has these entries and ends there
  pub streams_end : Nexts old new (Ok None) → IfSome start (λ input. StreamSays input p items Clean)
  streams_end nexts =
      ended start has.starts (subst (λ s. IfSome old.left (λ xs. (ys : List ℕ) × (new.left ≡ Some ys) × Comes s old new xs ends)) has.on (steps (Ok None) nexts).says.1)

  -- where a fault comes next, the stream of the input has these entries and stops there
  stopped : (fault : LogReason) (s : Option (List ℕ)) → StartsAt s old.format p items old.left → IfSome old.left (λ xs. ComesNext old.format old.count old.last xs (stops fault))
      → IfSome s (λ input. StreamSays input p items (Stops fault))
  stopped fault None at says = tt
  stopped fault (Some input) (rest, left, is) says =
      -- what comes next in what was left is the fault
      let n = subst (λ o. IfSome o (λ xs. ComesNext old.format old.count old.last xs (stops fault))) left says in
      starts_end input old.format p items rest is (Stops fault) (subst (λ c. ComesNext old.format c (last_of 0 items) rest (stops fault)) none (subst (λ m. ComesNext old.format old.count m rest (stops fault)) has.last n))

  -- where the reader answers an error, the stream of the input has these entries and stops at its fault
  pub streams_stop : (e : LogError) → Nexts old new (Err e) → FailsAs old.has_failed new.has_failed (λ fault. IfSome start (λ input. StreamSays input p items (Stops fault))) e
  streams_stop e nexts =
      FailsAs-map old.has_failed new.has_failed _ _ e
      (λ fault says. stopped fault start has.starts (subst (λ s. IfSome old.left (λ xs. Comes s old new xs (stops fault))) has.on says)) (steps (Err e) nexts).says

-- the entries that were read are at the front of a log of the input
pub streamed_log : (start : Option (List ℕ)) (p : Times) (items : List Item) (now : ReaderState) → HasStreamed start p items now
    → IfSome start (λ input. (more : List Item) × (end : LogEnd) × StreamSays input p (items ++ more) end)
streamed_log start p items now has = go start has.starts
  where
    -- the claim holds whether or not the input is known
    go : (s : Option (List ℕ)) → StartsAt s now.format p items now.left → IfSome s (λ input. (more : List Item) × (end : LogEnd) × StreamSays input p (items ++ more) end)
    go None at = tt
    go (Some input) (rest, left, is) =
        -- others follow in the rest, up to an end, and what follows is spelled there
        let (more, end, follow) = follows_some now.format (last_of 0 items) rest in
        let spelled = follows_spelled now.format (last_of 0 items) rest more end follow in
        -- the input is the header, the spelling of these items and of those that follow, and what is left
        let texts : flat_map entry_says items ++ rest ≡ flat_map entry_says (items ++ more) ++ spelled.left =
        ap (λ (t : List ℕ). flat_map entry_says items ++ t) spelled.whole ∙ sym (append_assoc (flat_map entry_says items) (flat_map entry_says more) spelled.left)
        ∙ ap (λ (t : List ℕ). t ++ spelled.left) (sym (flat_map-append items more)) in (
          more,
          end,
          record {
            format = now.format;
            rest = spelled.left;
            -- these items and those that follow are in order, and the end comes after them
            header = subst (Header now.format p input) texts is.header;
            order = InOrder-append now.format 0 items more is.order spelled.order;
            next = subst (λ m. EndsWith now.format 0 m spelled.left end) (sym (last_of-append 0 items more)) spelled.next;
          },
        )

-- what was read of a log was read of it as a stream too
pub stands_streamed : (start : Option (List ℕ)) (p : Times) (items : List Item) (now : ReaderState) → now.stage ≡ entries → now.times ≡ Some p → Stands start items now → HasStreamed start p items now
stands_streamed start p items now on times stands =
    let at = subst (λ s. StandsAt s start items now) on stands in
    record { on = on; times_are = times; last = at.2; starts = go start (subst (λ t. HasRead start now.format t items now.left) times at.0) }
  where
    -- the claim holds whether or not the input is known
    go : (s : Option (List ℕ)) → HasRead s now.format (Some p) items now.left → StartsAt s now.format p items now.left
    go None has = tt
    go (Some input) (rest, left, is) = (rest, left, record { header = is.header; order = is.order })
