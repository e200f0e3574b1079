-- What a judge is told of an entry is what is observed of it.
-- In the lemmas i and j are two entries, e and f what is observed of them, and c is what an entry concerns.
use Rattle.std.specs.Prelude.{not, codes, bytes_eq, is_some, option_map, option_to_list, if◌then◌else◌}
use Rattle.std.proofs.Common.{◌≡◌, ◌≢◌, ◌≤◌, ◌&&◌, ℕ, Bool, true, false, Option, Some, None, MatchOption, List, [], ◌++◌, refl, sym, ap, ◌∙◌, subst}
use Rattle.std.proofs.lemmas.Bool.{false≢true}
use Rattle.sip_standard.specs.declared.fault.Fault.{Fault}
use Rattle.sip_standard.specs.Transport.{is_reliable}
use Rattle.sip_message.specs.Reading as message
use Rattle.sip_message.specs.Reads.{Reads}
use Rattle.sip_standard.specs.Outcome.{gives, stops}
use Rattle.sip_standard.specs.Says.{Said, Says}
use Rattle.sip_message.specs.SaidOf.{said_of}
use Rattle.sip_standard.specs.declared.role.Direction.{Direction}
use Rattle.sip_standard.specs.declared.role.Direction.TheVariants as way
use Rattle.sip_standard.specs.Key.{KeyParts}
use Rattle.sip_standard.specs.Branch.{cookie_branch}
use Rattle.sip_standard.specs.Concerns.{Concerns, is_sent, lacks_cookie}
use Rattle.sip_standard.specs.declared.action.Action.{Action}
use Rattle.sip_standard.specs.declared.action.Action.TheVariants.{Sent, Received, Failed, Mark, Restart}
use Rattle.sip_standard.specs.Kind.{kind_of}
use Rattle.sip_machine.specs.NumberedEvent.{NumberedEvent, event_in, FitsBook}
use Rattle.sip_machine.specs.Texts.{Texts, Keeps, text_of}
use Rattle.sip_standard.specs.Times.{last_moment}
use Rattle.sip_log.specs.declared.entry.Entry.{Entry}
use Rattle.sip_log.specs.Told.{item}
use Rattle.sip_standard.specs.LogEntry.{Item, has_message}
use Rattle.sip_verdict.specs.declared.concerned.Concerned.{Concerned}
use Rattle.sip_verdict.specs.declared.concerned.Concerned.TheVariants as concerned
use Rattle.sip_standard.specs.Observation.{Observation, direction_of, silent_observation, fault_observation, no_cookie, message_event, ObservesMessage, has_fault, has_no_cookie, is_heard}
use Rattle.sip_verdict.specs.Entries.{ConcernsNone}
use Rattle.sip_standard.specs.VerdictOf.{keys_in, Sees}
use Rattle.sip_verdict.specs.inner.Concerned.{each, is_all}
use Rattle.sip_verdict.specs.inner.Observing.{IsObserved, IsHeard, KeepsHeard, silent_told}
use Rattle.sip_verdict.proofs.verdicts.MessageUnique.{observes_one}

-- what is observed of a message that went this way is observed of its entry
pub observes : (before : List (Observation KeyParts)) (item : Item) (e : Observation KeyParts) (direction : Direction) → direction_of item.action ≡ Some direction → ObservesMessage direction item e
    → Sees before item e
observes before item e direction goes seen = subst (λ d. MatchOption d (e ≡ silent_observation item.action item.moment (keys_in before)) (λ way. ObservesMessage way item e)) (sym goes) seen

-- what is observed of an entry without a message
pub observes_silent : (before : List (Observation KeyParts)) (item : Item) → direction_of item.action ≡ None → Sees before item (silent_observation item.action item.moment (keys_in before))
observes_silent before item stays =
    let e = silent_observation item.action item.moment (keys_in before) in
    subst (λ d. MatchOption d (e ≡ silent_observation item.action item.moment (keys_in before)) (λ way. ObservesMessage way item e)) (sym stays) refl

-- what is told of an entry without a message is observed as a mark, or as a restart of all keys so far
pub silent_observed : (texts : Texts) (es : List (Observation KeyParts)) (item : Item) → direction_of item.action ≡ None
    → IsObserved texts es item (silent_told item.action) (silent_observation item.action item.moment (keys_in es))
silent_observed texts es item stays = go item.action stays
  where
    -- an item that goes in no direction is observed as it is told: only a mark and a restart have no message
    go : (a : Action) → direction_of a ≡ None → IsObserved texts es item (silent_told a) (silent_observation a item.moment (keys_in es))
    go Sent stays = cc
    go Received stays = cc
    go Failed stays = cc
    go Mark stays = (refl, refl, refl)
    go Restart stays = refl

-- where an entry has no message, what is told of it fits any book
pub silent_heard : (texts : Texts) (moment : ℕ) (a : Action) → IsHeard texts moment (silent_told a)
silent_heard texts moment Sent = tt
silent_heard texts moment Received = tt
silent_heard texts moment Failed = tt
silent_heard texts moment Mark = tt
silent_heard texts moment Restart = tt

-- before the first entry, an entry without a message concerns no key
silent_none : (item : Item) → direction_of item.action ≡ None → ConcernsNone item
silent_none item stays = (silent_observation item.action item.moment [], observes_silent [] item stays, go item.action)
  where
    -- an item without a message concerns no key, whichever action it is
    go : (a : Action) → (silent_observation a item.moment []).keys ≡ []
    go Sent = refl
    go Received = refl
    go Failed = refl
    go Mark = refl
    go Restart = refl

-- where an entry has no message, the book stays as it is, as what is told of the entry says
pub silent_kept : (old new : Texts) (entry : Entry) → direction_of entry.action ≡ None → new ≡ old → KeepsHeard old new entry (silent_told entry.action)
silent_kept old new entry stays same = go entry.action refl
  where
    -- the book stays as it is where an item has no message, whichever action it is
    go : (a : Action) → entry.action ≡ a → KeepsHeard old new entry (silent_told a)
    go Sent is = same
    go Received is = same
    go Failed is = same
    go Mark is = same
    go Restart is = (same, silent_none (item entry) stays)

-- an entry whose message went some way is no mark
pub going : (action : Action) (direction : Direction) → direction_of action ≡ Some direction → action ≡ Mark → ⊥
going action direction goes mark = let e : None ≡ Some direction = sym (ap direction_of mark) ∙ goes in cc

-- an entry whose message went some way is not a restart
pub going_on : (action : Action) (direction : Direction) → direction_of action ≡ Some direction → action ≡ Restart → ⊥
going_on action direction goes restart = let e : None ≡ Some direction = sym (ap direction_of restart) ∙ goes in cc

-- an entry whose message went some way has a message
pub going_says : (action : Action) (direction : Direction) → direction_of action ≡ Some direction → has_message action ≡ true
going_says Sent direction goes = refl
going_says Received direction goes = refl
going_says Failed direction goes = refl
-- a mark and a restart go no way
going_says Mark direction goes = cc
going_says Restart direction goes = cc

-- where the bytes of a message have a fault, the fault is observed of the message
pub observes_fault : (item : Item) (direction : Direction) (text : List ℕ) (fault : Fault) → text ≡ item.text → Says text (stops fault) → ObservesMessage direction item (fault_observation item fault)
observes_fault item direction text fault same has = has_fault fault (subst (λ t. Says t (stops fault)) same has) refl

-- where a request that is sent lacks the cookie, this fault is observed of the message
pub observes_no_cookie : (item : Item) (direction : Direction) (text : List ℕ) (r : message.Reading) → text ≡ item.text → Reads text r → lacks_cookie (said_of r) direction ≡ true
    → ObservesMessage direction item (fault_observation item no_cookie)
observes_no_cookie item direction text r same reads lacks = has_no_cookie (said_of r) (subst (λ t. Says t (gives (said_of r))) same reads.says) lacks refl

-- what is observed of a message that concerns no key: its event without keys
abbrev pub keyless_observation : Item → Said → Observation KeyParts
keyless_observation item s = record { fault = None; event = message_event item s; keys = [] }

-- of a message that concerns no key, an event without keys is observed
pub observes_none : (item : Item) (direction : Direction) (text : List ℕ) (r : message.Reading) → text ≡ item.text → Reads text r → lacks_cookie (said_of r) direction ≡ false → Concerns (said_of r) direction []
    → ObservesMessage direction item (keyless_observation item (said_of r))
observes_none item direction text r same reads has concerns = is_heard (said_of r) [] (subst (λ t. Says t (gives (said_of r))) same reads.says) has concerns refl

-- the event of an entry with a message that was read, whose bytes have this number
abbrev pub event_of : Item → message.Reading → ℕ → NumberedEvent
event_of item r number = record { moment = item.moment; action = item.action; number = number; kind = kind_of r.message.start; reliable = is_reliable r.parts.via.transport }

-- of a message that was read, its event is observed with the keys that it concerns
pub observes_heard : (item : Item) (direction : Direction) (text : List ℕ) (r : message.Reading) (texts : Texts) (event : NumberedEvent) (number : ℕ) (keys : List KeyParts) → text ≡ item.text → Reads text r
    → lacks_cookie (said_of r) direction ≡ false → Concerns (said_of r) direction keys → event ≡ event_of item r number → text_of texts number ≡ item.text
    → ObservesMessage direction item (record { fault = None; event = event_in texts event; keys = keys })
observes_heard item direction text r texts event number keys same reads has concerns event_is kept =
    is_heard (said_of r) keys (subst (λ t. Says t (gives (said_of r))) same reads.says) has concerns (ap (λ h. record { fault = None; event = h; keys = keys }) (ap (event_in texts) event_is ∙ alike))
  where
    -- the event of the code is the event of the definitions
    alike : event_in texts (event_of item r number) ≡ message_event item (said_of r)
    alike = ap (λ t. record { moment = item.moment; action = item.action; text = t; kind = kind_of r.message.start; reliable = is_reliable r.parts.via.transport }) kept

-- the event fits the book that keeps its message
pub event_fits : (item : Item) (r : message.Reading) (texts : Texts) (event : NumberedEvent) (number : ℕ) → event ≡ event_of item r number → Keeps texts number → item.moment ≤ last_moment
    → FitsBook texts event × (event.moment ≡ item.moment)
event_fits item r texts event number is keeps limit = (subst (FitsBook texts) (sym is) (record { keeps = λ _. keeps; limit = limit }), ap (λ e. e.moment) is)

-- the message of the event is kept under the event's number
pub event_kept : (item : Item) (r : message.Reading) (texts : Texts) (event : NumberedEvent) (number : ℕ) (bytes : List ℕ) → event ≡ event_of item r number → Keeps texts number → text_of texts number ≡ bytes
    → Keeps texts event.number × (text_of texts event.number ≡ bytes)
event_kept item r texts event number bytes is keeps text = let same : number ≡ event.number = sym (ap (λ e. e.number) is) in (subst (Keeps texts) same keeps, subst (λ n. text_of texts n ≡ bytes) same text)

-- What follows is of messages that concern no key.

-- where there is no branch there is no key, neither an own one nor a cancelled one
pub no_keys : {A B : Type 0} (own other : A → B) (cancels : Bool) (branch : Option A) → branch ≡ None
    → option_to_list (option_map own branch) ++ option_to_list (if cancels then option_map other branch else None) ≡ []
no_keys own other cancels (Some x) none = absurd cc
no_keys own other true None none = refl
no_keys own other false None none = refl

-- where there is no key there is no branch
no_branch : {A B : Type 0} (own other : A → B) (cancels : Bool) (branch : Option A)
    → option_to_list (option_map own branch) ++ option_to_list (if cancels then option_map other branch else None) ≡ [] → branch ≡ None
no_branch own other cancels None none = refl
-- with a branch there would be the own key
no_branch own other cancels (Some x) none = absurd cc

-- a request that lacks the cookie has no branch
lacks_branch : {A : Type 0} (sends : Bool) (branch : Option A) → (sends && not (is_some branch)) ≡ true → branch ≡ None
lacks_branch sends None lacks = refl
-- a branch that is there has the cookie, and so a request with it lacks none
lacks_branch true (Some x) lacks = absurd (false≢true lacks)
lacks_branch false (Some x) lacks = absurd (false≢true lacks)

-- a message without a branch concerns no key, whichever way it went
branchless : (direction : Direction) (item : Item) (s : Said) → Says item.text (gives s) → cookie_branch s.via.branch ≡ None → (e : Observation KeyParts) × ObservesMessage direction item e × (e.keys ≡ [])
branchless direction item s says none = go (lacks_cookie s direction) refl
  where
    -- the message is observed without keys, whether or not its missing cookie is a fault
    go : (lacks : Bool) → lacks_cookie s direction ≡ lacks → (e : Observation KeyParts) × ObservesMessage direction item e × (e.keys ≡ [])
    go true lacks = (fault_observation item no_cookie, has_no_cookie s says lacks refl, refl)
    -- without a branch there is neither an own key nor a cancelled one
    go false has =
        (keyless_observation item s, is_heard s [] says has (sym (no_keys _ _ (is_sent (λ method. bytes_eq method (codes "CANCEL")) s.start direction) (cookie_branch s.via.branch) none)) refl, refl)

-- where the bytes of a message concern no key when it goes one way, they concern none when it goes the other way
other_way : (way direction : Direction) (i j : Item) (e : Observation KeyParts) → i.text ≡ j.text → ObservesMessage way i e → e.keys ≡ [] → (f : Observation KeyParts) × ObservesMessage direction j f × (f.keys ≡ [])
-- the same fault is found whichever way it goes; without a cookie, or without keys, it has no branch, and so no key either way
other_way way direction i j e same (has_fault fault has is) none = (fault_observation j fault, has_fault fault (subst (λ t. Says t (stops fault)) same has) refl, refl)
other_way way direction i j e same (has_no_cookie s says lacks is) none =
    branchless direction j s (subst (λ t. Says t (gives s)) same says) (lacks_branch (is_sent (λ method. true) s.start way) (cookie_branch s.via.branch) lacks)
other_way way direction i j e same (is_heard s keys says fine concerns is) none =
    branchless direction j s (subst (λ t. Says t (gives s)) same says)
    (no_branch _ _ (is_sent (λ method. bytes_eq method (codes "CANCEL")) s.start way) (cookie_branch s.via.branch) (sym concerns ∙ sym (ap (λ o. o.keys) is) ∙ none))

-- an entry with a message went some way
pub went : (action : Action) → has_message action ≡ true → (direction : Direction) × (direction_of action ≡ Some direction)
went Sent says = (way.Sent, refl)
went Received says = (way.Received, refl)
went Failed says = (way.Sent, refl)
-- a mark and a restart have no message
went Mark says = absurd (false≢true says)
went Restart says = absurd (false≢true says)

-- of two entries whose messages have the same bytes, one concerns no key exactly as the other does
pub none_alike : (i j : Item) → i.text ≡ j.text → has_message i.action ≡ true → has_message j.action ≡ true → ConcernsNone i → ConcernsNone j
none_alike i j same i_says j_says (e, seen, none) =
    -- each of the two messages went some way, and concerns no key whichever way it went
    let (way, i_goes) = went i.action i_says in
    let (direction, j_goes) = went j.action j_says in
    let (f, f_seen, f_none) = other_way way direction i j e same (subst (λ d. MatchOption d (e ≡ silent_observation i.action i.moment []) (λ way. ObservesMessage way i e)) i_goes seen) none in
    (f, observes [] j f direction j_goes f_seen, f_none)

-- an item of which some key is observed is not one that concerns none
pub concerns_some : (i : Item) (keys : List KeyParts) (e : Observation KeyParts) → Sees [] i e → e.keys ≡ keys → keys ≢ [] → ¬ ConcernsNone i
concerns_some i keys e seen are some (f, f_seen, none) = some (sym are ∙ ap (λ o. o.keys) (observes_one [] i e f seen f_seen) ∙ none)

-- a message that concerns some transactions, and not all, concerns at least one key
pub each_some : {T : Type 0} (c : Concerned T) → is_all c ≡ false → c ≢ concerned.None → each c ≢ []
each_some concerned.None named some none = some refl
-- with an own key the list of keys is not empty, and the case of all is left out by what is given
each_some (concerned.Own own) named some none = cc
each_some (concerned.OwnAndCancelled own cancelled) named some none = cc
each_some concerned.All named some none = absurd (false≢true (sym named))
