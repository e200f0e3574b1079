-- What tables of sets hold, and what each call leaves of them.
use Rattle.std.specs.Prelude.{◌≡◌, ◌≢◌, ◌≤◌, ◌<◌, ◌⊎◌, ◌++◌, ◌∷◌, [], ◌+◌, ◌-◌, ℕ, List, Option, Some, None, All, position, length, slice_get, slice_set}
use Rattle.std.specs.Option.{option_map}
use Rattle.sip_standard.specs.Key.{KeyParts}
use Rattle.sip_standard.specs.Times.{Times}
use Rattle.sip_states.specs.declared.any_set.AnySet.{AnySet}
use Rattle.sip_states.specs.AnySet.{start_of, IsEmpty, IsAgendaOf}
use Rattle.sip_states.specs.Agenda.{Records, is_overdue}

-- the times of the machines, the keys in order of first appearance, the set of each key, and its last moment on record
pub record Tabled : Type 0 where
  pub times : Times
  pub keys : List KeyParts
  pub sets : List AnySet
  pub records : Records

-- how many keys there may be: an entry begins at most two transactions, and a log has at most 1,000,000 entries
abbrev pub most_keys : ℕ
most_keys = 2000000

-- the number was given to a key
pub record IsGiven (t : Tabled) (number : ℕ) : Type 0 where
  pub low : 0 < number
  pub high : number ≤ length t.keys

-- the key has this number, counted from 1
abbrev pub HasNumber : Tabled → KeyParts → ℕ → Type 0
HasNumber t key number = (0 < number) × (slice_get t.keys (number - 1) ≡ Some key)

-- t with one more key and the set that it starts with, which is not settled
abbrev pub with_key : Tabled → KeyParts → Tabled
with_key t key = record { times = t.times; keys = t.keys ++ key ∷ []; sets = t.sets ++ start_of t.times key ∷ []; records = t.records ++ None ∷ [] }

-- t with this set for the key with this number
abbrev pub with_set : Tabled → ℕ → AnySet → Tabled
with_set t number set = record { times = t.times; keys = t.keys; sets = slice_set t.sets (number - 1) set; records = t.records }

-- a known key keeps its number, and nothing changes; a new key gets the next number and the set that it starts with
abbrev pub Touches : KeyParts → ℕ → Tabled → Tabled → Type 0
Touches key number old new =
    (HasNumber old key number × (new ≡ old))
    ⊎ (All (λ k. k ≢ key) old.keys × (number ≡ length old.keys + 1) × (new ≡ with_key old key))

-- t with this last moment on record for the number
abbrev pub with_record : Tabled → ℕ → Option ℕ → Tabled
with_record t number limit = record { times = t.times; keys = t.keys; sets = t.sets; records = slice_set t.records (number - 1) (Some limit) }

-- the set of this number has a state
abbrev pub HasState : Tabled → ℕ → Type 0
HasState t number = (set : AnySet) → slice_get t.sets (number - 1) ≡ Some set → ¬ IsEmpty set

-- the tables are the old ones with the last moment of the set on record
pub record Settles (number : ℕ) (old new : Tabled) : Type 0 where
  pub set : AnySet
  pub at : slice_get old.sets (number - 1) ≡ Some set
  pub limit : Option ℕ
  pub agenda : IsAgendaOf limit set
  pub recorded : new ≡ with_record old number limit

-- the tables are the old ones, but the key with this number has the set that it starts with, which can wait for ever
pub record StartsAnew (number : ℕ) (old new : Tabled) : Type 0 where
  pub key : KeyParts
  pub at : slice_get old.keys (number - 1) ≡ Some key
  pub endless : IsAgendaOf None (start_of old.times key)
  pub begun : new ≡ with_record (with_set old number (start_of old.times key)) number None

-- the least number of a key whose last moment on record is below the moment
abbrev pub due_of : Tabled → ℕ → Option ℕ
due_of t moment = option_map (λ index. index + 1) (position (is_overdue moment) t.records)
