-- How a book finds equal bytes: the places of its messages in the order of hash and bytes, in runs.
-- `slice_index_or xs i d` is the element at the place i, or d past the end; `AllWithin P xs i j` says that P holds of the elements from i on and before j;
-- `nat_cmp` compares numbers, and `slice_cmp` lists, element by element; `ordering_then` is the first answer, or the second one where the first is `Equal`.
use Rattle.std.specs.Prelude.{◌≡◌, ◌<◌, ◌≤◌, ◌+◌, ◌-◌, ◌++◌, ◌∷◌, ℕ, Bool, true, false, Option, Some, None, List, [], All, AllPairs, Contains, map, length, take, slice_index_or}
use Rattle.std.specs.declared.cmp.Ordering.{Ordering}
use Rattle.std.specs.declared.cmp.Ordering.TheVariants.{Less, Greater}
use Rattle.std.specs.Ordering.{nat_cmp, on, ordering_then, is_le}
use Rattle.std.specs.List.{AllWithin, HoldsAt, flat_map}
use Rattle.std.specs.Cmp.Lexicographic.{slice_cmp}
use Rattle.std.specs.Hash.FoldHasher.{initial, write, finish}
use Rattle.sip_machine.specs.Texts.{Texts}
use Rattle.sip_machine.specs.declared.book.KeptMessage.{KeptMessage}
use Rattle.sip_machine.specs.declared.book.Place.{Place}
use Rattle.sip_machine.specs.declared.book.PlaceRun.{PlaceRun}
use Rattle.sip_machine.specs.declared.book.Gap.{Gap}
use Rattle.sip_machine.specs.declared.book.Loose.{Loose}

-- the texts of a book that the code keeps as these messages
abbrev pub texts_of : List KeptMessage → Texts
texts_of kept = map (λ k. (k.number, k.bytes.items)) kept

-- the messages whose places stand in the order, or their numbers: all, or all but the newest, which comes last
abbrev pub placed : {X : Type 0} → Bool → List X → List X
placed false all = all
placed true all = take (length all - 1) all

-- the hash of all of these bytes: what the hasher of the standard library gives once they were written to it
abbrev pub full_hash : List ℕ → ℕ
full_hash bytes = finish (write initial bytes)

-- the hash of the first 256 of these bytes, in which ordinary messages differ
abbrev pub hash_of : List ℕ → ℕ
hash_of bytes = full_hash (take 256 bytes)

-- the bytes of the message at a position, and no bytes past the last message
abbrev pub bytes_at : Texts → ℕ → List ℕ
bytes_at texts position = (slice_index_or texts position (0, [])).1

-- the key by which a place is ordered: the hash of its message, and then the bytes
abbrev pub key_of : Texts → Place → ℕ × List ℕ
key_of texts place = (place.hash, bytes_at texts place.position)

-- keys by their hashes, and those with one hash by their bytes
abbrev pub compare : ℕ × List ℕ → ℕ × List ℕ → Ordering
compare a b = ordering_then (nat_cmp a.0 b.0) (slice_cmp nat_cmp a.1 b.1)

-- texts by their hashes, and those with one hash by their bytes
abbrev pub text_cmp : List ℕ → List ℕ → Ordering
text_cmp = on (λ text. (full_hash text, text)) compare

-- the place is that of a message of the book, and has the hash of its bytes
abbrev pub IsPlace : Texts → Place → Type 0
IsPlace texts place = (place.position < length texts) × (place.hash ≡ hash_of (bytes_at texts place.position))

-- the places are the order of the book: each message has one, and their keys rise
pub record IsOrder (texts : Texts) (places : List Place) : Type 0 where
  pub rising : AllPairs (λ a b. compare (key_of texts a) (key_of texts b) ≡ Less) places
  pub hashed : All (IsPlace texts) places
  pub whole : (i : ℕ) → i < length texts → Contains (map (λ place. place.position) places) i

-- the key goes into the places at i, and no message has it: the keys before i are below it, and those from i on above
pub record IsGap (texts : Texts) (key : ℕ × List ℕ) (places : List Place) (i : ℕ) : Type 0 where
  pub within : i ≤ length places
  pub before : AllWithin (λ place. compare (key_of texts place) key ≡ Less) places 0 i
  pub after : AllWithin (λ place. compare (key_of texts place) key ≡ Greater) places i (length places)

-- the places of these runs, one run after another
abbrev pub places_of : List PlaceRun → List Place
places_of runs = flat_map (λ run. run.places.items) runs

-- the most places that a run holds, so that few of them move for a new one
abbrev pub most_places : ℕ
most_places = 128

-- the run has a place, and tells the first of its places
pub record IsLed (run : PlaceRun) : Type 0 where
  pub filled : 0 < length run.places.items
  pub first : run.first ≡ slice_index_or run.places.items 0 run.first

-- the places of the runs, one run after another, are the order of the book; each run tells its first place, and none is too long
pub record IsInRuns (texts : Texts) (runs : List PlaceRun) : Type 0 where
  pub order : IsOrder texts (places_of runs)
  pub led : All IsLed runs
  pub short : All (λ run. length run.places.items ≤ most_places) runs

-- the first place of the run is not after the key
abbrev pub begins_by : Texts → ℕ × List ℕ → PlaceRun → Bool
begins_by texts key run = is_le (compare (key_of texts run.first) key)

-- the index of a gap of the runs among all places
abbrev pub index_of : List PlaceRun → Gap → ℕ
index_of runs gap = length (places_of (take gap.run runs)) + gap.place

-- the gap is in one of the runs, and before or after its places
pub record IsInside (runs : List PlaceRun) (gap : Gap) : Type 0 where
  pub run : gap.run < length runs
  pub place : HoldsAt (λ run. gap.place ≤ length run.places.items) runs gap.run

-- the newest message has no place in the runs yet, which hold the places of all others: it goes into this gap
pub record IsLoose (texts : Texts) (runs : List PlaceRun) (newest : Loose) : Type 0 where
  pub others : Texts
  pub number : ℕ
  pub bytes : List ℕ
  -- the book is the others and then the newest message; the runs hold the others
  pub last : texts ≡ others ++ (number, bytes) ∷ []
  pub order : IsInRuns others runs
  pub hash : newest.hash ≡ hash_of bytes
  pub gap : IsGap others (newest.hash, bytes) (places_of runs) (index_of runs newest.gap)
  pub inside : 0 < length runs → IsInside runs newest.gap

-- the runs hold the places of all messages, or of all but the newest, which goes into its gap
abbrev pub StandInRuns : Texts → List PlaceRun → Option Loose → Type 0
StandInRuns texts runs None = IsInRuns texts runs
StandInRuns texts runs (Some newest) = IsLoose texts runs newest
