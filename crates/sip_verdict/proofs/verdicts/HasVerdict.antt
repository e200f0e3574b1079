-- Each input has a verdict: none is without.
-- In the proofs `never` says that what is claimed is false, from which a contradiction is drawn.
use Rattle.std.proofs.Common.{◌≡◌, ◌⊎◌, inl, inr, ◌+◌, ℕ, Bool, true, false, Option, Some, None, List, [], ◌∷◌, ◌++◌, length, All, refl, sym, ap, subst, arith, MatchOption}
use Rattle.std.proofs.lemmas.List.Elements.{All-nil, All-cons, All-head, All-tail}
use Rattle.sip_standard.specs.declared.fault.Fault.{Fault}
use Rattle.sip_standard.specs.Outcome.{stops}
use Rattle.sip_standard.specs.Says.{Says}
use Rattle.sip_message.specs.Reads.{Reads}
use Rattle.sip_message.specs.SaidOf.{said_of}
use Rattle.sip_message.proofs.lemmas.message.Total.{reading-or-fault}
use Rattle.sip_standard.specs.declared.role.Direction.{Direction}
use Rattle.sip_standard.specs.Key.{KeyParts}
use Rattle.sip_standard.specs.Concerns.{lacks_cookie}
use Rattle.sip_standard.specs.declared.action.Action.{Action}
use Rattle.sip_standard.specs.declared.action.Action.TheVariants.{Sent, Received, Failed, Mark, Restart}
use Rattle.sip_standard.specs.Times.{Times}
use Rattle.sip_standard.specs.LogEntry.{Item}
use Rattle.sip_standard.specs.LogSays.{LogEnd, Clean, Stops, LogSays, LacksHeader}
use Rattle.sip_log.proofs.logs.Logs.{log_is_some}
use Rattle.sip_standard.specs.declared.verdict.Verdict.{Verdict}
use Rattle.sip_standard.specs.declared.verdict.Verdict.TheVariants.{Legal, Malformed, Breach, Undecided, LogFault}
use Rattle.sip_standard.specs.declared.log_reason.LogReason.TheVariants.{Header}
use Rattle.sip_standard.specs.Observation.{Observation, direction_of, silent_observation, ObservesMessage, has_fault, has_no_cookie, is_heard}
use Rattle.sip_standard.specs.VerdictOf.{keys_in, Sees, RunsOver, IsWideAt, IsFirstKey, HasTrouble, IsFine, IsVerdictAfter, IsVerdictOf}
use Rattle.sip_verdict.specs.inner.Observing.{mark_observation, restart_observation}
use Rattle.sip_message.specs.Reading as message
use Rattle.sip_standard.specs.declared.role.Direction.TheVariants as way

-- it is false that A is false
abbrev Weakly : Type 0 → Type 0
Weakly A = ¬ (¬ A)

-- P is false of all keys, or some key is the first of which it holds
first_or_none : (P : KeyParts → Type 0) (keys : List KeyParts) → Weakly (All (λ k. ¬ (P k)) keys ⊎ ((n : ℕ) × IsFirstKey P keys n))
first_or_none P [] never = never (inl (All-nil (λ k. ¬ (P k))))
first_or_none P (key ∷ keys) never = first_or_none P keys at
  where
    -- P does not hold of the first key, which would else be the first of which it holds
    here : P key → ⊥
    here holds = never (inr (1, ([], key, keys, refl, holds, All-nil (λ k. ¬ (P k)), refl)))

    -- a contradiction follows whether P holds of no later key, or of a first one
    at : (All (λ k. ¬ (P k)) keys ⊎ ((n : ℕ) × IsFirstKey P keys n)) → ⊥
    at (inl none) = never (inl (All-cons (λ k. ¬ (P k)) key keys here none))
    at (inr (n, (before, first, rest, is, holds, earlier, counts))) =
        never (inr (n + 1, (key ∷ before, first, rest, ap (λ xs. key ∷ xs) is, holds, All-cons (λ k. ¬ (P k)) key before here earlier, omega (arith, counts))))

-- where P is false of no key, it is not false that P holds of all keys
all_of : (P : KeyParts → Type 0) (keys : List KeyParts) → All (λ k. ¬ (¬ (P k))) keys → Weakly (All P keys)
all_of P [] all never = never (All-nil P)
all_of P (key ∷ keys) all never =
    All-head (λ k. ¬ (¬ (P k))) key keys all (λ holds. all_of P keys (All-tail (λ k. ¬ (¬ (P k))) key keys all) (λ later. never (All-cons P key keys holds later)))

-- What follows is of one entry e after the entries es, by the times p.
module _ (p : Times) (es : List (Observation KeyParts)) (e : Observation KeyParts) where
  -- the keys of the entries and e
  abbrev keys : List KeyParts
  keys = keys_in (es ++ e ∷ [])

  -- the key has a run over the entries and e
  abbrev Runs : KeyParts → Type 0
  Runs key = RunsOver p (es ++ e ∷ []) key

  -- the key has too many last states after e
  abbrev Wide : KeyParts → Type 0
  Wide key = IsWideAt p es e key

  -- an entry that has no verdict of trouble is in no trouble
  fine_or_trouble : ((v : Verdict) → ¬ (HasTrouble p es e v)) → Weakly (IsFine p es e)
  fine_or_trouble no_trouble not_fine = by_fault e.fault refl
    where
      -- where each key has a run, a contradiction follows whether no key is too wide, or some key is the first that is
      by_width : e.fault ≡ None → All Runs keys → (All (λ key. ¬ (Wide key)) keys ⊎ ((n : ℕ) × IsFirstKey Wide keys n)) → ⊥
      by_width none runs (inl narrow) = not_fine (record { formed = none; runs = runs; narrow = narrow })
      by_width none runs (inr (n, first)) = no_trouble (Undecided (length es + 1) n) (refl, none, runs, first)

      -- without a fault a contradiction follows whether each key has a run, or some key is the first without one
      by_run : e.fault ≡ None → (All (λ key. ¬ (¬ (Runs key))) keys ⊎ ((n : ℕ) × IsFirstKey (λ key. ¬ (Runs key)) keys n)) → ⊥
      by_run none (inl all) = all_of Runs keys all (λ runs. first_or_none Wide keys (by_width none runs))
      by_run none (inr (n, first)) = no_trouble (Breach (length es + 1) n) (refl, none, first)

      -- a contradiction follows whether or not the entry's message has a fault
      by_fault : (fault : Option Fault) → e.fault ≡ fault → ⊥
      by_fault None none = first_or_none (λ key. ¬ (Runs key)) keys (by_run none)
      by_fault (Some fault) some = no_trouble (Malformed (length es + 1) fault) (refl, some)

-- something is observed of each message
observes_message : (direction : Direction) (item : Item) → Weakly ((e : Observation KeyParts) × ObservesMessage direction item e)
observes_message direction item never = reading-or-fault item.text no_reading no_fault
  where
    -- the message has no fault, which would else be observed, while `never` says that nothing is
    no_fault : (fault : Fault) → ¬ (Says item.text (stops fault))
    no_fault fault is = never (_, has_fault fault is refl)

    -- the message has no reading, of which something would else be observed
    no_reading : (r : message.Reading) → ¬ (Reads item.text r)
    no_reading r reads = by_cookie (lacks_cookie (said_of r) direction) refl
      where
        -- a contradiction follows whether or not the cookie is lacking
        by_cookie : (b : Bool) → lacks_cookie (said_of r) direction ≡ b → ⊥
        by_cookie true lacks = never (_, has_no_cookie (said_of r) reads.says lacks refl)
        by_cookie false has = never (_, is_heard (said_of r) _ reads.says has refl refl)

-- something is observed of each entry
pub sees_entry : (before : List (Observation KeyParts)) (item : Item) → Weakly ((e : Observation KeyParts) × Sees before item e)
sees_entry before item = by_action item.action refl
  where
    -- the keys of the entries before
    keys : List KeyParts
    keys = keys_in before

    -- e is what is observed of the entry if its action is a
    Seen : Observation KeyParts → Action → Type 0
    Seen e a = MatchOption (direction_of a) (e ≡ silent_observation a item.moment keys) (λ d. ObservesMessage d item e)

    -- something is observed, whichever action the entry has
    -- what was sent, received or refused has a message that went some way, and a mark and a restart have none
    by_action : (a : Action) → item.action ≡ a → Weakly ((e : Observation KeyParts) × Sees before item e)
    by_action Sent is never = observes_message way.Sent item (λ seen. never (seen.0, subst (Seen seen.0) (sym is) seen.1))
    by_action Received is never = observes_message way.Received item (λ seen. never (seen.0, subst (Seen seen.0) (sym is) seen.1))
    by_action Failed is never = observes_message way.Sent item (λ seen. never (seen.0, subst (Seen seen.0) (sym is) seen.1))
    by_action Mark is never = never (mark_observation item.moment, subst (Seen (mark_observation item.moment)) (sym is) refl)
    by_action Restart is never = never (restart_observation item.moment keys, subst (Seen (restart_observation item.moment keys)) (sym is) refl)

-- after any entries, the items that are left have a verdict
judges_some : (p : Times) (es : List (Observation KeyParts)) (items : List Item) (end : LogEnd) → Weakly ((v : Verdict) × IsVerdictAfter p es items end v)
judges_some p es [] Clean never = never (Legal (length es) (length (keys_in es)), refl)
judges_some p es [] (Stops fault) never = never (LogFault (length es + 1) fault, refl)
judges_some p es (item ∷ items) end never =
    -- something is observed of the item; either it is in trouble, which is the verdict, or in none, and then the items after it have one
    sees_entry es item (λ seen.
    fine_or_trouble p es seen.0 (λ v trouble. never (v, (seen.0, seen.1, inl trouble))) (λ fine.
    judges_some p (es ++ seen.0 ∷ []) items end (λ left. never (left.0, (seen.0, seen.1, inr (fine, left.1))))))

-- an input that lacks a header, or says a log, has a verdict
verdict_of_log : (input : List ℕ) → LacksHeader input ⊎ ((p : Times) × (items : List Item) × (end : LogEnd) × LogSays input p items end) → Weakly ((v : Verdict) × IsVerdictOf input v)
verdict_of_log input (inl none) never = never (LogFault 0 Header, inl (none, refl))
verdict_of_log input (inr (p, items, end, is)) never = judges_some p [] items end (λ one. never (one.0, inr (p, items, end, is, one.1)))

-- it cannot be that an input has no verdict
pub has_verdict : (input : List ℕ) → ¬ ((v : Verdict) → ¬ (IsVerdictOf input v))
has_verdict input never = verdict_of_log input (log_is_some input) (λ one. never one.0 one.1)
