-- The events of a log with equal bytes are of one kind: a message has the kind that its bytes say, and what has no message has no bytes.
use Rattle.std.proofs.Common.{◌≡◌, ◌≤◌, ◌⊎◌, inl, inr, ℕ, Bool, true, false, MatchOption, List, [], ◌∷◌, ◌++◌, length, map, filter, All, refl, sym, ap, subst, ◌∙◌, arith, if◌then◌else◌}
use Rattle.std.specs.List.{list_any}
use Rattle.std.proofs.lemmas.List.Elements.{All-nil, All-cons, All-head, All-tail, All-contains}
use Rattle.sip_standard.specs.declared.role.Direction.{Direction}
use Rattle.sip_standard.specs.Key.{KeyParts, same_key}
use Rattle.sip_standard.specs.declared.format.Format.{Format}
use Rattle.sip_standard.specs.LogEntry.{InOrder, Item, HasMessage}
use Rattle.sip_standard.specs.declared.action.Action.{Action}
use Rattle.sip_standard.specs.declared.action.Action.TheVariants.{Sent, Received, Failed, Mark, Restart}
use Rattle.sip_standard.specs.declared.kind.Kind.TheVariants.{Request}
use Rattle.sip_standard.specs.declared.kind.Method.TheVariants.{Other}
use Rattle.sip_standard.specs.MachineEvent.{MachineEvent}
use Rattle.sip_standard.specs.Kind.{kind_of}
use Rattle.sip_standard.specs.Outcome.{gives}
use Rattle.sip_standard.specs.Says.{Said, Says}
use Rattle.sip_standard.specs.Observation.{Observation, direction_of, silent_observation, ObservesMessage, has_fault, has_no_cookie, is_heard}
use Rattle.sip_standard.specs.Seen.{AreSeen}
use Rattle.sip_standard.specs.VerdictOf.{keys_in, events_for}
use Rattle.sip_message.proofs.lemmas.says.Reading.{said-one}
use Rattle.consequences.specs.Tolerance.{AreOneKind}

-- the event has no bytes and is of no kind of its own, or it has bytes and is of the kind that they say
abbrev HasItsKind : MachineEvent → Type 0
HasItsKind a = ((a.text ≡ []) × (a.kind ≡ Request Other)) ⊎ ((s : Said) × Says a.text (gives s) × (a.kind ≡ kind_of s.start) × (1 ≤ length a.text))

-- the entry concerns no key, or its event has the kind that its bytes say
abbrev IsKnown : Observation KeyParts → Type 0
IsKnown e = (e.keys ≡ []) ⊎ HasItsKind e.event

-- IsKnown holds of the observation of an entry with a message
-- an entry whose message has a fault, or lacks the cookie, concerns no key; any other has the kind that its bytes say
observed-known : (direction : Direction) (item : Item) (e : Observation KeyParts) → 1 ≤ length item.text → ObservesMessage direction item e → IsKnown e
observed-known direction item e long (has_fault fault says is) = inl (rw is refl)
observed-known direction item e long (has_no_cookie s says lacks is) = inl (rw is refl)
observed-known direction item e long (is_heard s keys says has concerns is) = inr (rw is (inr (s, says, refl, long)))

-- IsKnown holds of the observation of each entry of a log
-- an entry with a message is one of `observed-known`; a mark concerns no key, and a restart has no bytes
seen-known : (action : Action) (front : List (Observation KeyParts)) (item : Item) (e : Observation KeyParts) → (HasMessage action → 1 ≤ length item.text)
    → MatchOption (direction_of action) (e ≡ silent_observation action item.moment (keys_in front)) (λ direction. ObservesMessage direction item e) → IsKnown e
seen-known Sent front item e long sees = observed-known _ item e (long (λ is. cc, λ is. cc)) sees
seen-known Received front item e long sees = observed-known _ item e (long (λ is. cc, λ is. cc)) sees
seen-known Failed front item e long sees = observed-known _ item e (long (λ is. cc, λ is. cc)) sees
seen-known Mark front item e long sees = inl (rw sees refl)
seen-known Restart front item e long sees = inr (rw sees (inl (refl, refl)))

-- IsKnown holds of the observations of all entries of a log in order
all-known : (format : Format) (last : ℕ) (front : List (Observation KeyParts)) (items : List Item) (es : List (Observation KeyParts)) → InOrder format last items → AreSeen front items es → All IsKnown es
all-known format last front [] [] order seen = All-nil IsKnown
all-known format last front (item ∷ items) (e ∷ es) order seen =
    All-cons IsKnown e es (seen-known item.action front item e (λ has. (order.1.1.1 has).0) seen.0) (all-known format item.moment (front ++ e ∷ []) items es order.2 seen.1)
-- lists of different lengths are no entries and what is observed of them
all-known format last front [] (e ∷ es) order seen = absurd seen
all-known format last front (item ∷ items) [] order seen = absurd seen

-- an entry that concerns no key does not concern this one
no-keys : (key : KeyParts) (keys : List KeyParts) → keys ≡ [] → ¬ (list_any (same_key key) keys ≡ true)
no-keys key keys none some = by (subst (λ ks. list_any (same_key key) ks ≡ true) none some)
  where
    by : ¬ (false ≡ true)
    by same = cc

-- the events of a transaction have the kind that their bytes say
events-known : (key : KeyParts) (es : List (Observation KeyParts)) → All IsKnown es → All HasItsKind (events_for key es)
events-known key [] known = All-nil HasItsKind
events-known key (e ∷ es) known = by (list_any (same_key key) e.keys) refl (events-known key es (All-tail IsKnown e es known))
  where
    -- where the entry concerns the key, its event has the kind that its bytes say
    its : list_any (same_key key) e.keys ≡ true → IsKnown e → HasItsKind e.event
    its concerns (inl none) = absurd (no-keys key e.keys none concerns)
    its concerns (inr has) = has

    -- each event of the key has its kind, whether or not the first entry concerns the key, which b says
    by : (b : Bool) → list_any (same_key key) e.keys ≡ b → All HasItsKind (events_for key es) → All HasItsKind (map (λ f. f.event) (if b then e ∷ filter (λ f. list_any (same_key key) f.keys) es else filter (λ f. list_any (same_key key) f.keys) es))
    by true is later = All-cons HasItsKind e.event (events_for key es) (its is (All-head IsKnown e es known)) later
    by false is later = later

-- events that have the kind that their bytes say are of one kind where they have the same bytes
-- neither has bytes, or both have the same and so say the same; where one has bytes and the other none, they are not equal
two-kinds : (a b : MachineEvent) → HasItsKind a → HasItsKind b → a.text ≡ b.text → a.kind ≡ b.kind
two-kinds a b (inl silent) (inl quiet) same = silent.1 ∙ sym quiet.1
two-kinds a b (inl silent) (inr (s, says, kind, long)) same = absurd (omega (arith, long, ap length (sym same ∙ silent.0)))
two-kinds a b (inr (s, says, kind, long)) (inl quiet) same = absurd (omega (arith, long, ap length (same ∙ quiet.0)))
two-kinds a b (inr (s, says, kind, long)) (inr (t, tells, other, low)) same =
    kind ∙ ap (λ r. kind_of r.start) (said-one b.text s t (subst (λ text. Says text (gives s)) same says) tells) ∙ sym other

-- the events of a transaction with equal bytes are of one kind
pub events-are-of-one-kind : (format : Format) (items : List Item) (es : List (Observation KeyParts)) (key : KeyParts) → InOrder format 0 items → AreSeen [] items es → AreOneKind (events_for key es)
events-are-of-one-kind format items es key order seen a b in-a in-b same =
    let known = events-known key es (all-known format 0 [] items es order seen) in
    two-kinds a b (All-contains HasItsKind (events_for key es) a known in-a) (All-contains HasItsKind (events_for key es) b known in-b) same
