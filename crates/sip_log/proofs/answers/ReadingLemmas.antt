-- Lemmas of what an answer says: it says the same in other words, and a call says what its parts say.
-- In the lemmas P and Q tell what comes in an input, n is what comes next, f leads from what P tells to what Q tells, and h is the answer by P.
use Rattle.std.proofs.Common.{◌≡◌, inl, inr, ℕ, Bool, List, Option, Some, None, IfSome, Result, Ok, Err, IsSome, OnOk, refl, subst, sym, ap, ◌∙◌}
use Rattle.std.specs.Io.KnownBytes.{prepend_known}
use Rattle.std.specs.Prelude.{MatchOption}
use Rattle.sip_standard.specs.Times.{Times}
use Rattle.sip_standard.specs.declared.format.Format.{Format}
use Rattle.sip_log.specs.declared.entry.Entry.{Entry}
use Rattle.sip_log.specs.declared.log_error.LogError.{LogError}
use Rattle.sip_log.specs.declared.log_error.LogError.TheVariants as errors
use Rattle.sip_standard.specs.declared.log_reason.LogReason.TheVariants as faults
use Rattle.sip_standard.specs.declared.log_reason.LogReason.{LogReason}
use Rattle.sip_log.specs.Next.{Next, ends, gives, stops, ComesNext}
use Rattle.sip_standard.specs.LogEntry.{Item}
use Rattle.sip_standard.specs.LogSays.{LacksHeader}
use Rattle.sip_log.specs.Told.{FailsAs, TellsWhatComes, next_of}
use Rattle.sip_log.specs.Reading.{fresh, entries, failed, ProgressState, beside_source, Moves, ComesFirst, Comes, Heads, Nexts, NextsAt}
use Rattle.sip_log.specs.declared.window.Window.{Window}
use Rattle.sip_log.specs.inner.Window.{items, unread}
use Rattle.sip_log.specs.inner.Header as read
use Rattle.sip_log.specs.inner.Entry as entry
use Rattle.sip_log.proofs.spelling.SpellingLemmas.{header-spelled}
use Rattle.sip_log.proofs.logs.LogExists.{no-header}
use Rattle.sip_log.proofs.answers.NextLemmas.{next-told}

-- where the option holds something, what follows of P holds of it
-- o is the option; P holds of what it holds, and Q follows of it
pub IfSome-map : {A : Type 0} (o : Option A) (P Q : A → Type 0) → ((x : A) → P x → Q x) → IfSome o P → IfSome o Q
IfSome-map None P Q f h = tt
IfSome-map (Some x) P Q f h = f x h

-- what holds where there is nothing, or of what the option holds, still holds where each of both follows
pub MatchOption-map : {A : Type 0} (o : Option A) (N M : Type 0) (P Q : A → Type 0) → (N → M) → ((x : A) → P x → Q x) → MatchOption o N P → MatchOption o M Q
MatchOption-map None N M P Q g f h = g h
MatchOption-map (Some x) N M P Q g f h = f x h

-- an error that is told of P is told of Q, where a fault of P is one of Q
pub FailsAs-map : (before after : Bool) (P Q : LogReason → Type 0) (e : LogError) → ((fault : LogReason) → P fault → Q fault) → FailsAs before after P e → FailsAs before after Q e
-- an error with a reason of the log tells its fault; one without has none to tell
FailsAs-map before after P Q errors.Header f h = (h.0, f faults.Header h.1)
FailsAs-map before after P Q errors.EntryLine f h = (h.0, f faults.EntryLine h.1)
FailsAs-map before after P Q errors.Truncated f h = (h.0, f faults.Truncated h.1)
FailsAs-map before after P Q errors.Order f h = (h.0, f faults.Order h.1)
FailsAs-map before after P Q errors.Limit f h = (h.0, f faults.Limit h.1)
FailsAs-map before after P Q errors.Io f h = h
FailsAs-map before after P Q errors.Memory f h = tt
FailsAs-map before after P Q errors.Failed f h = h

-- an answer that tells what comes by P tells it by Q, where what comes by P comes by Q
pub Says-map : {A B : Type 0} (old new : Option (List ℕ)) (before after : Bool) (P Q : List ℕ → Next B → Type 0) (seen : A → List ℕ → Next B) (r : Result A LogError)
    → ((xs : List ℕ) (n : Next B) → P xs n → Q xs n) → TellsWhatComes old new before after P seen r → TellsWhatComes old new before after Q seen r
Says-map old new before after P Q seen (Ok a) f h =
    (h.0, IfSome-map old (λ xs. (ys : List ℕ) × (new ≡ Some ys) × P xs (seen a ys)) (λ xs. (ys : List ℕ) × (new ≡ Some ys) × Q xs (seen a ys)) (λ xs w. (w.0, w.1, f xs (seen a w.0) w.2)) h.1)
Says-map old new before after P Q seen (Err e) f h =
    FailsAs-map before after (λ fault. IfSome old (λ xs. P xs (stops fault))) (λ fault. IfSome old (λ xs. Q xs (stops fault))) e
    (λ fault. IfSome-map old (λ xs. P xs (stops fault)) (λ xs. Q xs (stops fault)) (λ xs. f xs (stops fault))) h

-- the fault that comes next, and `Header` where none does
fault_of : {A : Type 0} → Next A → LogReason
fault_of (stops fault) = fault
fault_of (gives a behind) = faults.Header
fault_of ends = faults.Header

-- where a fault comes first in an input, the input lacks a header, and the fault is `Header`
pub fault-first : (input : List ℕ) (fault : LogReason) → read.HeaderComes input (stops fault) → LacksHeader input × (fault ≡ faults.Header)
unfolding fault_of
fault-first input fault is = (no-header input fault is, header-is is)
  where
    -- a fault of the header is `Header`
    -- where lines 1 and 2 are both read, no fault comes; where one of them is not, `Header` does
    header-is : read.HeaderComes input (stops fault) → fault ≡ faults.Header
    header-is (inl (format, rest, title, inl (p, behind, front, (rules, more, line, same)))) = cc
    header-is (inl (format, rest, title, inr (none, same))) = ap fault_of same
    header-is (inr (none, same)) = ap fault_of same

-- where the code reads a fault as the header, that fault comes first in the input
pub header-fault : (format : Format) (input : List ℕ) (fault : LogReason) → read.HeaderComes input (stops fault) → ComesFirst format None input (stops fault)
header-fault format input fault is =
    let first = fault-first input fault is in
    (first.0, ap (λ f. stops f) first.1)

-- where the code reads a header, and something comes next after it, both come first in the input
pub header-gives : (format : Format) (input : List ℕ) (p : Times) (behind : List ℕ) (next : Next Item) → read.HeaderComes input (gives (format, p) behind)
    → ComesNext format 0 0 behind next → ComesFirst format (Some p) input next
header-gives format input p behind next is comes = (behind, header-spelled format input p behind is, comes)

-- where a header was read, an answer of what comes next after it is an answer of what comes first
Says-headed : (old mid new : Option (List ℕ)) (before between after : Bool) (format : Format) (p : Times) (r : Result (Option Entry) LogError)
    → (between ≡ before) × IfSome old (λ xs. (ys : List ℕ) × (mid ≡ Some ys) × read.HeaderComes xs (gives (format, p) ys))
    → TellsWhatComes mid new between after (entry.EntryComes format 0 0) next_of r → TellsWhatComes old new before after (ComesFirst format (Some p)) next_of r
Says-headed old mid new before between after format p (Ok a) first says = (says.0 ∙ first.0, value old first.1 says.1)
  where
    -- the claim holds whether or not it is known what was left of the input
    -- o is what was left of the input before the header, `mid` after it and `new` after the entry, where these are known
    value : (o : Option (List ℕ)) → IfSome o (λ xs. (ys : List ℕ) × (mid ≡ Some ys) × read.HeaderComes xs (gives (format, p) ys)) → IfSome mid (λ xs. (zs : List ℕ) × (new ≡ Some zs) × entry.EntryComes format 0 0 xs (next_of a zs))
        → IfSome o (λ xs. (zs : List ℕ) × (new ≡ Some zs) × ComesFirst format (Some p) xs (next_of a zs))
    -- what comes by the entry after the header comes first in the input
    value None is behind = tt
    value (Some xs) is behind =
        -- h.0 are the bytes that are left after the entry
        let h = subst (λ o. IfSome o (λ xs. (zs : List ℕ) × (new ≡ Some zs) × entry.EntryComes format 0 0 xs (next_of a zs))) is.1 behind in
        (h.0, h.1, header-gives format xs p is.0 (next_of a h.0) is.2 (next-told format 0 0 is.0 (next_of a h.0) h.2))
Says-headed old mid new before between after format p (Err e) first says =
    -- the fault that comes after the header comes first in the input, and no read failed while the header was read (`first.0`)
    subst (λ b. FailsAs b after (λ fault. IfSome old (λ xs. ComesFirst format (Some p) xs (stops fault))) e) first.0
    (FailsAs-map between after _ _ e (λ fault. value old fault first.1) says)
  where
    -- the header is followed by this fault
    value : (o : Option (List ℕ)) (fault : LogReason) → IfSome o (λ xs. (ys : List ℕ) × (mid ≡ Some ys) × read.HeaderComes xs (gives (format, p) ys)) → IfSome mid (λ xs. entry.EntryComes format 0 0 xs (stops fault))
        → IfSome o (λ xs. ComesFirst format (Some p) xs (stops fault))
    value None fault is behind = tt
    value (Some xs) fault is behind =
        header-gives format xs p is.0 (stops fault) is.2 (next-told format 0 0 is.0 (stops fault) (subst (λ o. IfSome o (λ xs. entry.EntryComes format 0 0 xs (stops fault))) is.1 behind))

-- What follows is of a header that is read by itself.

-- where a header was read, the answer with its times tells what stands first in the input
pub headed : (old new : Option (List ℕ)) (before after : Bool) (format : Format) (p : Times)
    → (after ≡ before) × IfSome old (λ xs. (ys : List ℕ) × (new ≡ Some ys) × read.HeaderComes xs (gives (format, p) ys))
    → TellsWhatComes {A = Times} old new before after (Heads format) gives (Ok p)
headed old new before after format p says = (
  says.0,
  -- what is read as a header is spelled as one
  IfSome-map old (λ xs. (ys : List ℕ) × (new ≡ Some ys) × read.HeaderComes xs (gives (format, p) ys)) (λ xs. (ys : List ℕ) × (new ≡ Some ys) × Heads format xs (gives p ys))
      (λ xs w. (w.0, w.1, header-spelled format xs p w.0 w.2)) says.1,
)

-- where the header is at fault, the answer with the error tells what stands first in the input
pub unheaded : (old new : Option (List ℕ)) (before after : Bool) (format : Format) (e : LogError) → FailsAs before after (λ fault. IfSome old (λ xs. read.HeaderComes xs (stops fault))) e
    → TellsWhatComes {A = Times} old new before after (Heads format) gives (Err e)
unheaded old new before after format e fails =
    FailsAs-map before after _ _ e (λ fault. IfSome-map old (λ xs. read.HeaderComes xs (stops fault)) (λ xs. Heads format xs (stops fault)) (λ xs. fault-first xs fault)) fails

-- what holds whatever comes holds where there is a result
always : {A E : Type 0} (r : Result A E) (P : Type 0) → P → OnOk r P
always (Ok a) P p = p
always (Err e) P p = tt

-- times and a format that did not change are kept
keeps : (old new : Option Times) (format format2 : Format) → new ≡ old → format2 ≡ format → IfSome old (λ p. (new ≡ Some p) × (format2 ≡ format))
keeps None new format format2 same same2 = tt
keeps (Some p) new format format2 same same2 = (same, same2)

-- What follows is one call of `next`, put together from the clauses of its parts.
-- `old` and `new` are the reader before and after the call, and the old one held what the window has.
-- The source had `left` before the call and `left2` after it; `before` and `after` tell whether a read of it had failed.

module _ (old new : ProgressState) (left left2 : Option (List ℕ)) (before after : Bool) (window : Window) (held : old.held ≡ items window) where
  -- where entries are read, an answer of the entry that comes next is an answer of `next`
  pub entries-step : (r : Result (Option Entry) LogError) → old.stage ≡ entries → IsSome old.times → Moves old.count old.last (beside_source new left2 after) r → new.format ≡ old.format → new.times ≡ old.times
      → TellsWhatComes (unread window left) (prepend_known new.held left2) before after (entry.EntryComes old.format old.count old.last) next_of r
      → Nexts (beside_source old left before) (beside_source new left2 after) r
  entries-step r stage times moves format same says =
      subst (λ s. NextsAt s (beside_source old left before) (beside_source new left2 after) r) (sym stage) (record {
        moves = moves;
        times = always r (IsSome new.times) (subst IsSome (sym same) times);
        -- where entries are read, what comes by the reader comes next in what is unread
        kept = keeps old.times new.times old.format new.format same format;
        says = subst (λ s. TellsWhatComes (prepend_known old.held left) (prepend_known new.held left2) before after (Comes s (beside_source old left before) (beside_source new left2 after)) next_of r) (sym stage)
            (subst (λ h. TellsWhatComes (prepend_known h left) (prepend_known new.held left2) before after (ComesNext old.format old.count old.last) next_of r) (sym held)
            (Says-map (unread window left) (prepend_known new.held left2) before after (entry.EntryComes old.format old.count old.last) (ComesNext old.format old.count old.last) next_of r (next-told old.format old.count old.last) says));
      })

  -- where nothing was read, a header and then an answer of the entry that comes next are an answer of `next`
  pub fresh-step : (mid : Option (List ℕ)) (between : Bool) (format : Format) (p : Times) (r : Result (Option Entry) LogError) → old.stage ≡ fresh → old.times ≡ None → old.count ≡ 0 → old.last ≡ 0
      → Moves old.count old.last (beside_source new left2 after) r → new.format ≡ format → new.times ≡ Some p
      → (between ≡ before) × IfSome (unread window left) (λ xs. (ys : List ℕ) × (mid ≡ Some ys) × read.HeaderComes xs (gives (format, p) ys))
      → TellsWhatComes mid (prepend_known new.held left2) between after (entry.EntryComes format old.count old.last) next_of r
      → Nexts (beside_source old left before) (beside_source new left2 after) r
  -- `mid` is what is left of the input after the header, if it is known, and `between` whether the source had failed then; r is the answer
  fresh-step mid between format p r stage none no_count no_last moves same times first says =
      subst (λ s. NextsAt s (beside_source old left before) (beside_source new left2 after) r) (sym stage) (record {
        moves = moves;
        -- a value comes with the times of the header; before it no times were known that could be kept
        times = always r (IsSome new.times) (subst IsSome (sym times) refl);
        kept = subst (λ o. IfSome o (λ p. (new.times ≡ Some p) × (new.format ≡ old.format))) (sym none) tt;
        -- the header, and then what comes by the entry, come first in what is unread
        -- each `subst` puts what a part of the reader is known to be in its place: the stage, what it held, times, format, count and last moment
        says = subst (λ s. TellsWhatComes (prepend_known old.held left) (prepend_known new.held left2) before after (Comes s (beside_source old left before) (beside_source new left2 after)) next_of r) (sym stage)
            (subst (λ h. TellsWhatComes (prepend_known h left) (prepend_known new.held left2) before after (ComesFirst new.format new.times) next_of r) (sym held)
            (subst (λ t. TellsWhatComes (unread window left) (prepend_known new.held left2) before after (ComesFirst new.format t) next_of r) (sym times)
            (subst (λ f. TellsWhatComes (unread window left) (prepend_known new.held left2) before after (ComesFirst f (Some p)) next_of r) (sym same)
            (Says-headed (unread window left) mid (prepend_known new.held left2) before between after format p r first
            (subst (λ n. TellsWhatComes mid (prepend_known new.held left2) between after (entry.EntryComes format n 0) next_of r) no_count
            (subst (λ m. TellsWhatComes mid (prepend_known new.held left2) between after (entry.EntryComes format old.count m) next_of r) no_last says))))));
      })

  -- where nothing was read, a header that cannot be read makes `next` answer the fault
  pub fault-step : (e : LogError) → old.stage ≡ fresh → old.times ≡ None → new.stage ≡ failed → new.count ≡ old.count → new.last ≡ old.last → new.times ≡ None
      → FailsAs before after (λ fault. IfSome (unread window left) (λ xs. read.HeaderComes xs (stops fault))) e
      → Nexts (beside_source old left before) (beside_source new left2 after) (Err e)
  fault-step e stage none ended same_count same_last no_times fails =
      subst (λ s. NextsAt s (beside_source old left before) (beside_source new left2 after) (Err e)) (sym stage) (record {
        moves = (ended, same_count, same_last);
        -- an error says nothing of the times, and none were known before that could be kept
        times = tt;
        kept = subst (λ o. IfSome o (λ p. (new.times ≡ Some p) × (new.format ≡ old.format))) (sym none) tt;
        -- the fault of the header comes first in what is unread
        says = subst (λ s. TellsWhatComes {A = Option Entry} (prepend_known old.held left) (prepend_known new.held left2) before after (Comes s (beside_source old left before) (beside_source new left2 after)) next_of (Err e)) (sym stage)
            -- each `subst` puts what a part of the reader is known to be in its place: its stage, what it held and its times
            (subst (λ h. TellsWhatComes {A = Option Entry} (prepend_known h left) (prepend_known new.held left2) before after (ComesFirst new.format new.times) next_of (Err e)) (sym held)
            (subst (λ t. TellsWhatComes {A = Option Entry} (unread window left) (prepend_known new.held left2) before after (ComesFirst new.format t) next_of (Err e)) (sym no_times)
            (FailsAs-map before after _ _ e (λ fault. IfSome-map (unread window left) (λ xs. read.HeaderComes xs (stops fault)) (λ xs. ComesFirst new.format None xs (stops fault)) (λ xs. header-fault new.format xs fault)) fails)));
      })
