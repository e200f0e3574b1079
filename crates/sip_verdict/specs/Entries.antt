-- Words about the entries of a log, beside those of the standard.
use Rattle.std.specs.Prelude.{◌≡◌, ℕ, Bool, List, [], fold}
use Rattle.std.specs.List.{list_any}
use Rattle.sip_standard.specs.Key.{KeyParts, same_key}
use Rattle.sip_standard.specs.LogEntry.{Item}
use Rattle.sip_standard.specs.Observation.{Observation}
use Rattle.sip_standard.specs.VerdictOf.{Sees}

-- the moment of the newest of these entries, and 0 where there is none
abbrev pub newest_moment : List (Observation KeyParts) → ℕ
newest_moment es = fold (λ moment e. e.event.moment) 0 es

-- whether the entry concerns the key
abbrev pub concerns : KeyParts → Observation KeyParts → Bool
concerns key e = list_any (same_key key) e.keys

-- the item concerns no key: it has no message, or the message has no key
abbrev pub ConcernsNone : Item → Type 0
ConcernsNone item = (e : Observation KeyParts) × Sees [] item e × (e.keys ≡ [])
