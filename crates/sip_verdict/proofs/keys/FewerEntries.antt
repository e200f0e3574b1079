-- A run over entries in the order of their moments gives a run over the first of them.
-- In the lemmas `front` are the first entries and `more` those after them; `from` says that no entry is before a moment, and `order` that none is before an
-- earlier one.
use Rattle.std.proofs.Common.{◌≡◌, ◌≤◌, ℕ, List, [], ◌∷◌, ◌++◌, All, map, ap, ◌∙◌, subst, arith}
use Rattle.std.specs.Prelude.{filter, fold, AllPairs}
use Rattle.std.proofs.lemmas.List.{map-append}
use Rattle.std.proofs.lemmas.List.Elements.{All-nil, All-cons, All-head, All-map, All-filter, filter-append}
use Rattle.sip_standard.specs.MachineEvent.{MachineEvent}
use Rattle.sip_standard.specs.Stands.{Stands}
use Rattle.sip_standard.proofs.Few.{AllPairs-head, AllPairs-tail}
use Rattle.sip_states.proofs.keyed.KeySetLaws.{coded_holds}
use Rattle.sip_states.proofs.runs.StandsLemmas.{stands-fewer}
use Rattle.sip_standard.specs.Key.{KeyParts}
use Rattle.sip_standard.specs.Times.{Times}
use Rattle.sip_standard.specs.KeyMachine.{machine_of_key, transaction_of}
use Rattle.sip_standard.specs.Observation.{Observation}
use Rattle.sip_standard.specs.VerdictOf.{events_for, RunsOver}
use Rattle.sip_verdict.specs.Entries.{concerns, newest_moment}

-- the moment of the first entry is not after that of the second
abbrev IsNotAfter : Observation KeyParts → Observation KeyParts → Type 0
IsNotAfter a b = a.event.moment ≤ b.event.moment

-- the entry is not before the moment
abbrev IsFrom : ℕ → Observation KeyParts → Type 0
IsFrom moment e = moment ≤ e.event.moment

-- the entry is not after the moment
abbrev IsTo : ℕ → Observation KeyParts → Type 0
IsTo moment e = e.event.moment ≤ moment

-- the moment of the newest of these entries, and the given moment where there is none
abbrev newest : ℕ → List (Observation KeyParts) → ℕ
newest last es = fold (λ moment e. e.event.moment) last es

-- where no entry is before the moment `last`, and the entries are in order, the newest moment of the first ones is not before it either
newest-from : (last : ℕ) (front more : List (Observation KeyParts)) → All (IsFrom last) (front ++ more) → AllPairs IsNotAfter (front ++ more) → last ≤ newest last front
newest-from last [] more from order = omega arith
newest-from last (e ∷ front) more from order =
    -- the first entry is not before `last`, and the newest is not before the first
    let here : last ≤ e.event.moment = All-head (IsFrom last) e (front ++ more) from in
    let later : e.event.moment ≤ newest e.event.moment front = newest-from e.event.moment front more (AllPairs-head IsNotAfter e (front ++ more) order) (AllPairs-tail IsNotAfter e (front ++ more) order) in
    omega arith

-- no entry is after the newest one
pub newest-to : (last : ℕ) (front more : List (Observation KeyParts)) → AllPairs IsNotAfter (front ++ more) → All (IsTo (newest last front)) front
newest-to last [] more order = All-nil (IsTo last)
newest-to last (e ∷ front) more order =
    let rest = AllPairs-tail IsNotAfter e (front ++ more) order in
    All-cons (IsTo (newest e.event.moment front)) e front (newest-from e.event.moment front more (AllPairs-head IsNotAfter e (front ++ more) order) rest) (newest-to e.event.moment front more rest)

-- the newest moment is not after any later entry
pub newest-before : (last : ℕ) (front more : List (Observation KeyParts)) → All (IsFrom last) (front ++ more) → AllPairs IsNotAfter (front ++ more) → All (IsFrom (newest last front)) more
newest-before last [] more from order = from
newest-before last (e ∷ front) more from order =
    newest-before e.event.moment front more (AllPairs-head IsNotAfter e (front ++ more) order) (AllPairs-tail IsNotAfter e (front ++ more) order)

-- the newest moment of more entries is no earlier
-- there is no entry; or the first of all is one of those that come after; or it is one of the first ones
newest-more : (last : ℕ) (front more : List (Observation KeyParts)) → All (IsFrom last) (front ++ more) → AllPairs IsNotAfter (front ++ more) → newest last front ≤ newest last (front ++ more)
newest-more last [] [] from order = omega arith
newest-more last [] (e ∷ more) from order =
    let here : last ≤ e.event.moment = All-head (IsFrom last) e more from in
    let later : e.event.moment ≤ newest e.event.moment more = newest-more e.event.moment [] more (AllPairs-head IsNotAfter e more order) (AllPairs-tail IsNotAfter e more order) in
    omega arith
newest-more last (e ∷ front) more from order =
    newest-more e.event.moment front more (AllPairs-head IsNotAfter e (front ++ more) order) (AllPairs-tail IsNotAfter e (front ++ more) order)

-- What follows is of the events of one key.
module _ (key : KeyParts) where
  -- what holds of entries holds of their events
  pub events-all : (P : MachineEvent → Type 0) (es : List (Observation KeyParts)) → All (λ e. P e.event) es → All P (events_for key es)
  events-all P es all = All-map P (λ e. e.event) (filter (concerns key) es) (All-filter (concerns key) (λ e. P e.event) es all)

  -- a key's events of two lists of entries are those of the first and then those of the second
  pub events-append : (front more : List (Observation KeyParts)) → events_for key (front ++ more) ≡ events_for key front ++ events_for key more
  events-append front more = ap (map (λ e. e.event)) (filter-append (concerns key) front more) ∙ map-append (λ e. e.event) (filter (concerns key) front) (filter (concerns key) more)

-- a run over entries in the order of their moments holds one over the first of them
pub fewer-entries : (p : Times) (key : KeyParts) (front more : List (Observation KeyParts)) → AllPairs IsNotAfter (front ++ more) → RunsOver p (front ++ more) key → RunsOver p front key
fewer-entries p key front more order run =
    let machine = machine_of_key p.rules key in
    let f = (transaction_of machine).figure in
    let from : All (IsFrom 0) (front ++ more) = λ k d within. omega arith in
    -- the run over all entries is cut at the newest moment of the first ones
    let (y, whole) = run in
    stands-fewer f (coded_holds machine).is_figure p (events_for key front) (events_for key more) (newest_moment front) (newest_moment (front ++ more)) y
    (events-all key (λ g. g.moment ≤ newest_moment front) front (newest-to 0 front more order))
    (events-all key (λ g. newest_moment front ≤ g.moment) more (newest-before 0 front more from order))
    (newest-more 0 front more from order)
    -- the events of all entries are those of the first ones and then those of the others
    (subst (λ events. Stands f p events (newest_moment (front ++ more)) y) (events-append key front more) whole)
