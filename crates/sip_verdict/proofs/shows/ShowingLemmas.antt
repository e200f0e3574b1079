-- What is shown of the entries that were read, one after another.
use Rattle.std.proofs.Common.{◌≡◌, true, inr, ℕ, ◌+◌, Result, Ok, Err, IfOk, OnOk, Option, Some, None, IfSome, List, [], ◌∷◌, ◌++◌, length, refl, sym, ap, ◌∙◌, subst, append_assoc, arith}
use Rattle.std.proofs.lemmas.List.{append-nil}
use Rattle.std.specs.Io.KnownBytes.{Appends}
use Rattle.std.proofs.KnownBytes.{Appends-nil, Appends-trans}
use Rattle.sip_standard.specs.Times.{Times}
use Rattle.sip_log.specs.declared.entry.Entry.{Entry}
use Rattle.sip_log.specs.declared.log_error.LogError.{LogError}
use Rattle.sip_standard.specs.LogSays.{line_feed, LogEnd, Clean, Stops, LogSays}
use Rattle.sip_standard.specs.LogEntry.{Item, has_message}
use Rattle.sip_log.specs.Told.{FailsAs, item}
use Rattle.sip_log.specs.Reading.{entries, Nexts}
use Rattle.sip_log.proofs.answers.ReadingLemmas.{FailsAs-map, IfSome-map}
use Rattle.sip_log.proofs.answers.CallerLemmas.{Stands, StandsAt, StopsAt, Stands-gives, Stands-ends, Stands-stops, Stands-log, Nexts-counted, Nexts-times}
use Rattle.sip_standard.specs.declared.fault.Fault.{Fault}
use Rattle.sip_standard.specs.Outcome.{stops}
use Rattle.sip_standard.specs.Says.{Says}
use Rattle.sip_standard.specs.declared.shown.Shown.{Shown}
use Rattle.sip_standard.specs.declared.shown.Shown.TheVariants.{End, Malformed, LogFault as FaultOfLog}
use Rattle.sip_standard.specs.Showing.{IsCanonOf, shown_entry, AreShown, last_text, EndsAs, IsShownOf}
use Rattle.sip_log.specs.Reading as log

-- where entries are shown, and one entry more with its number and its canonical form, all of these are shown
AreShown-push : (count : ℕ) (items : List Item) (text : List ℕ) (e : Item) (form : List ℕ) (n : ℕ) → n ≡ count + length items + 1 → AreShown count items text → IsCanonOf e.action e.text form
    → AreShown count (items ++ e ∷ []) (text ++ shown_entry n e form)
-- no item comes before this entry, so that it is the next one after `count` others
AreShown-push count [] text e form n number none is =
    let one : n ≡ count + 1 = omega (arith, number) in (
      form,
      [],
      is,
      refl,
      -- the text is that of this entry alone
      ap (λ (t : List ℕ). t ++ shown_entry n e form) none ∙ ap (λ k. shown_entry k e form) one ∙ sym (append-nil (shown_entry (count + 1) e form)),
    )
-- the first entry is shown before the others and this one
AreShown-push count (x ∷ xs) text e form n number (first, more, is_first, shown, whole) is = (
  first,
  more ++ shown_entry n e form,
  is_first,
  AreShown-push (count + 1) xs more e form n (omega (arith, number)) shown is,
  ap (λ (t : List ℕ). t ++ shown_entry n e form) whole ∙ append_assoc (shown_entry (count + 1) x first) more (shown_entry n e form),
)

-- these entries were read of the input, and this text was written of them
pub record Showed (start : Option (List ℕ)) (now : log.ReaderState) (old new : Option (List ℕ)) : Type 0 where
  pub times : Times
  pub items : List Item
  pub text : List ℕ
  pub shown : AreShown 0 items text
  pub appends : Appends old new text
  -- the reader stands after these entries
  pub on : now.stage ≡ entries
  pub times_are : now.times ≡ Some times
  pub stands : Stands start items now

-- the answer is right for the input, with the text that was written between the two states of the writer
abbrev pub Answers : Option (List ℕ) → Option (List ℕ) → Option (List ℕ) → Shown → Type 0
Answers start old new shown = IfSome start (λ input. (text : List ℕ) × IsShownOf input text shown × Appends old new text)

-- where the answer is the given one, and P holds of it whenever there is an answer, P holds of the answer
-- r is the result of the whole call, and Q what holds where it wrote all
pub finished : {E : Type 0} (r : Result Shown E) (shown : Shown) (P : Shown → Type 0) (Q : Type 0) → IfOk r (λ answer. answer ≡ shown) → OnOk r Q → (Q → P shown) → IfOk r P
finished (Ok answer) shown P Q same wrote f = subst P (sym same) (f wrote)
finished (Err e) shown P Q same wrote f = tt

-- a reader that has read the header has shown no entry yet
pub showed_start : (start : Option (List ℕ)) (now : log.ReaderState) (p : Times) (w : Option (List ℕ)) → now.stage ≡ entries → now.times ≡ Some p → Stands start [] now → Showed start now w w
showed_start start now p w on times stands = record {
  times = p;
  items = [];
  text = [];
  -- nothing was written yet
  shown = refl;
  appends = Appends-nil w;
  on = on;
  times_are = times;
  stands = stands;
}

-- What follows is of a log of which the items that were read were shown: `old` is the sink before the first, w the sink now, `now` the state of the reader,
-- and `new` its state after one call more.
module _ (start : Option (List ℕ)) (now : log.ReaderState) (old w : Option (List ℕ)) (s : Showed start now old w) (new : log.ReaderState) where
  -- the reader has counted the entries that were shown
  count_is : now.count ≡ length s.items
  count_is = (subst (λ x. StandsAt x start s.items now) s.on s.stands).1

  -- What follows is of w2, the sink after the last line or after one entry more.
  module _ (w2 : Option (List ℕ)) where
    -- where the log ends here, and the last line was written, all that was written is right for the input
    ends : (end : LogEnd) (shown : Shown) → EndsAs (length s.items) [] end shown → (t : Option Times) → t ≡ Some s.times → IfSome start (λ input. IfSome t (λ p. LogSays input p s.items end))
        → Appends w w2 (last_text shown ++ line_feed ∷ []) → Answers start old w2 shown
    ends end shown is t same logs last =
        -- the log l of the input has the items that were shown, and ends here; all that was written is their text and the last line
        IfSome-map start (λ input. IfSome t (λ p. LogSays input p s.items end)) (λ input. (text : List ℕ) × IsShownOf input text shown × Appends old w2 text) (λ input l. (
          s.text ++ (last_text shown ++ line_feed ∷ []),
          -- all items of the log were shown
          inr (record {
            times = s.times;
            items = s.items;
            rest = [];
            end = end;
            log = subst (λ all. LogSays input s.times all end) (sym (append-nil s.items)) (subst (λ o. IfSome o (λ p. LogSays input p s.items end)) same l);
            -- the text of the entries and the last line are all that was written
            front = s.text;
            entries = s.shown;
            ends = is;
            whole = refl;
          }),
          Appends-trans old w w2 s.text (last_text shown ++ line_feed ∷ []) s.appends last,
        )) logs

    -- where the log ends, what was written with the last line is right, and the answer is how many entries there are
    pub showed_end : (n : ℕ) → n ≡ now.count → Nexts now new (Ok None) → Appends w w2 (last_text (End n) ++ line_feed ∷ []) → Answers start old w2 (End n)
    showed_end n many nexts last =
        -- the reader still has the times of the header, and has told that the log ends after the items
        ends Clean (End n) (ap End (many ∙ count_is)) new.times (Nexts-times now new (Ok None) s.times s.on s.times_are nexts) (Stands-ends start s.items now new (inr s.on) s.stands nexts) last

    -- where the next entry cannot be read, what was written with the last line is right, and the answer is the fault of the log
    pub showed_stops : (n : ℕ) → n ≡ now.count → (e : LogError) → Nexts now new (Err e)
        → FailsAs now.has_failed new.has_failed (λ fault. Appends w w2 (last_text (FaultOfLog (n + 1) fault) ++ line_feed ∷ []) → Answers start old w2 (FaultOfLog (n + 1) fault)) e
    showed_stops n many e nexts =
        -- the times are those of the header; the log stops after the entries that were read, and this is what the last line says
        let times = Nexts-times now new (Err e) s.times s.on s.times_are nexts in
        FailsAs-map now.has_failed new.has_failed (λ fault. IfSome start (λ input. StopsAt start s.items now new input new.times fault))
        (λ fault. Appends w w2 (last_text (FaultOfLog (n + 1) fault) ++ line_feed ∷ []) → Answers start old w2 (FaultOfLog (n + 1) fault)) e
        (λ fault stop last. ends (Stops fault) (FaultOfLog (n + 1) fault) (ap (λ c. FaultOfLog (c + 1) fault) (many ∙ count_is)) (Some s.times) refl
        (IfSome-map start (λ input. StopsAt start s.items now new input new.times fault) (λ input. LogSays input s.times s.items (Stops fault))
        (λ input is. subst (λ t. StopsAt start s.items now new input t fault) times is) stop) last)
        (Stands-stops start s.items now new e (inr s.on) s.stands nexts)

  -- What follows is of one entry e more, which the reader gave.
  module _ (e : Entry) (nexts : Nexts now new (Ok (Some e))) where
    -- the next entry has the number after those that were shown
    number_is : e.number ≡ length s.items + 1
    number_is = (Nexts-counted start s.items now new e nexts).continues.number_is ∙ ap (λ n. n + 1) count_is

    -- where the next entry was written in its canonical form, it is shown too
    pub showed_more : (w2 : Option (List ℕ)) (form : List ℕ) → IsCanonOf e.action e.bytes.items form → Appends w w2 (shown_entry e.number (item e) form) → Showed start new old w2
    showed_more w2 form is appends = record {
      times = s.times;
      items = s.items ++ item e ∷ [];
      -- the entry's form stands after the text so far
      text = s.text ++ shown_entry e.number (item e) form;
      shown = AreShown-push 0 s.items s.text (item e) form e.number (omega (arith, number_is)) s.shown is;
      appends = Appends-trans old w w2 s.text (shown_entry e.number (item e) form) s.appends appends;
      on = (Nexts-counted start s.items now new e nexts).on;
      times_are = Nexts-times now new (Ok (Some e)) s.times s.on s.times_are nexts;
      stands = Stands-gives start s.items now new e s.stands nexts;
    }

    -- where the message of the next entry has a fault, what was written with the last line is right, and the answer is this fault
    pub showed_fault : (w2 : Option (List ℕ)) (fault : Fault) → has_message e.action ≡ true → Says e.bytes.items (stops fault) → Appends w w2 (last_text (Malformed e.number fault) ++ line_feed ∷ []) → Answers start old w2 (Malformed e.number fault)
    showed_fault w2 fault some is last =
        -- the entry was counted, the log goes on with the items and this one, and has the times of its header
        let counted = Nexts-counted start s.items now new e nexts in
        let whole = Stands-log start (s.items ++ item e ∷ []) new counted.on (Stands-gives start s.items now new e s.stands nexts) in
        let times = Nexts-times now new (Ok (Some e)) s.times s.on s.times_are nexts in
        IfSome-map start (λ input. IfSome new.times (λ q. (more : List Item) × (end : LogEnd) × LogSays input q ((s.items ++ item e ∷ []) ++ more) end))
        (λ input. (text : List ℕ) × IsShownOf input text (Malformed e.number fault) × Appends old w2 text) (λ input found.
        -- l is that log, of which this entry is the first with a fault
        let l = subst (λ t. IfSome t (λ q. (more : List Item) × (end : LogEnd) × LogSays input q ((s.items ++ item e ∷ []) ++ more) end)) times found in (
          s.text ++ (last_text (Malformed e.number fault) ++ line_feed ∷ []),
          -- the text so far is that of the entries before the faulty one
          inr (record {
            times = s.times;
            items = s.items;
            rest = item e ∷ l.0;
            end = l.1;
            log = subst (λ all. LogSays input s.times all l.1) (append_assoc s.items (item e ∷ []) l.0) l.2;
            -- the text so far and the last line with the fault are all that was written
            front = s.text;
            entries = s.shown;
            ends = (fault, some, is, ap (λ n. Malformed n fault) number_is);
            whole = refl;
          }),
          Appends-trans old w w2 s.text (last_text (Malformed e.number fault) ++ line_feed ∷ []) s.appends last,
        )) whole
