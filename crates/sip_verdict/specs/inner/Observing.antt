-- What a judge is told of an entry.
use Rattle.std.specs.Prelude.{◌≡◌, ◌≢◌, ◌⊎◌, ◌++◌, ◌∷◌, [], ℕ, true, false, List, None, AllPairs, Result, Ok, Err, ⊤}
use Rattle.sip_machine.specs.Texts.{Texts, Keeps, text_of}
use Rattle.sip_machine.specs.NumberedEvent.{event_in, FitsBook}
use Rattle.sip_standard.specs.Says.{Said}
use Rattle.sip_standard.specs.Key.{KeyParts}
use Rattle.sip_standard.specs.Concerns.{Concerns, lacks_cookie}
use Rattle.sip_standard.specs.declared.role.Direction.{Direction}
use Rattle.sip_key.specs.declared.concern.KeyError.{KeyError}
use Rattle.sip_key.specs.declared.concern.KeyError.TheVariants as error
use Rattle.sip_log.specs.declared.entry.Entry.{Entry}
use Rattle.sip_standard.specs.LogEntry.{Item, has_message}
use Rattle.sip_log.specs.Told.{item}
use Rattle.sip_standard.specs.declared.action.Action.{Action}
use Rattle.sip_standard.specs.declared.action.Action.TheVariants as action
use Rattle.sip_verdict.specs.declared.concerned.Concerned.{Concerned}
use Rattle.sip_verdict.specs.declared.observing.Observed.{Observed}
use Rattle.sip_verdict.specs.declared.observing.Observed.TheVariants.{Unheard, Fault, Restart, Heard}
use Rattle.sip_standard.specs.Observation.{Observation, fault_observation, silent_observation}
use Rattle.sip_standard.specs.VerdictOf.{keys_in}
use Rattle.sip_verdict.specs.Entries.{ConcernsNone}
use Rattle.sip_verdict.specs.inner.Concerned.{each, is_all}

-- the keys of the transactions that a message concerns, all different and given one by one, or that it lacks the cookie; want of memory is not spoken of
abbrev pub AreKeysOf : Said → Direction → Result (Concerned KeyParts) KeyError → Type 0
AreKeysOf s direction (Ok concerned) = (lacks_cookie s direction ≡ false) × Concerns s direction (each concerned) × AllPairs (λ a b. a ≢ b) (each concerned) × (is_all concerned ≡ false)
AreKeysOf s direction (Err error.NoCookie) = lacks_cookie s direction ≡ true
AreKeysOf s direction (Err error.Memory) = ⊤

-- a mark tells its moment and concerns no key
abbrev pub mark_observation : ℕ → Observation KeyParts
mark_observation moment = silent_observation action.Mark moment []

-- a restart concerns each of these keys at its moment
abbrev pub restart_observation : ℕ → List KeyParts → Observation KeyParts
restart_observation moment keys = silent_observation action.Restart moment keys

-- what is told of an entry without a message, by its action
abbrev pub silent_told : Action → Observed
silent_told action.Restart = Restart
silent_told a = Unheard

-- what is observed of an item after these entries, where this is told of it and the book has these texts: its moment alone where no transaction hears it
abbrev pub IsObserved : Texts → List (Observation KeyParts) → Item → Observed → Observation KeyParts → Type 0
IsObserved texts es i Unheard e = (e.fault ≡ None) × (e.event.moment ≡ i.moment) × (e.keys ≡ [])
IsObserved texts es i (Fault fault) e = e ≡ fault_observation i fault
IsObserved texts es i Restart e = e ≡ restart_observation i.moment (keys_in es)
IsObserved texts es i (Heard event concerned) e = e ≡ record { fault = None; event = event_in texts event; keys = each concerned }

-- an event that is told has this moment, the book keeps its message, and its keys are all different
abbrev pub IsHeard : Texts → ℕ → Observed → Type 0
IsHeard texts moment Unheard = ⊤
IsHeard texts moment (Fault fault) = ⊤
IsHeard texts moment Restart = ⊤
IsHeard texts moment (Heard event concerned) =
    FitsBook texts event × (event.moment ≡ moment) × AllPairs (λ a b. a ≢ b) (each concerned) × (is_all concerned ≡ false)

-- the book keeps the message of an entry that is heard under the number of its event, and neither keeps nor loses any other message
abbrev pub KeepsHeard : Texts → Texts → Entry → Observed → Type 0
KeepsHeard old new entry Unheard = new ≡ old
KeepsHeard old new entry (Fault fault) = new ≡ old
KeepsHeard old new entry Restart = (new ≡ old) × ConcernsNone (item entry)
KeepsHeard old new entry (Heard event concerned) =
    (has_message entry.action ≡ true) × ¬ ConcernsNone (item entry) × Keeps new event.number × (text_of new event.number ≡ entry.bytes.items)
    × ((new ≡ old) ⊎ (new ≡ old ++ (entry.number, entry.bytes.items) ∷ []))
