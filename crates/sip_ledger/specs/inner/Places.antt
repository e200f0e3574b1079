use Rattle.std.specs.Prelude.{◌≡◌, ◌<◌, ◌≤◌, ℕ, Bool, true, false, IfNone, IfSome, List, Option}
use Rattle.std.specs.List.{list_any}
use Rattle.std.specs.Ordering.{nat_cmp, ordering_then}
use Rattle.std.specs.declared.cmp.Ordering.{Ordering}
use Rattle.std.specs.BTreeMap.{BTreeMap, is_at}
use Rattle.std.specs.Map.{lookup}
use Rattle.sip_numbers.specs.Numbers.{numbers_of}
use Rattle.sip_numbers.specs.declared.numbers.Word.{Word}

-- The places at which gains are left, as pairs of a message and a place, in order.

-- how two pairs compare: by their messages, and where these are equal by their places
abbrev pub pair_cmp : ℕ × ℕ → ℕ × ℕ → Ordering
pair_cmp x y = ordering_then (nat_cmp x.0 y.0) (nat_cmp x.1 y.1)

-- whether the place stands under the message in these pairs
unfoldable pub holds : List (ℕ × ℕ) → ℕ → ℕ → Bool
holds pairs message place = list_any (is_at (pair_cmp (message, place))) pairs

-- the pair (m, k) is the pair (message, place), or comes after it
pub record IsFrom (message place m k : ℕ) : Type 0 where
  pub messages : message ≤ m
  pub places : message ≡ m → place ≤ k

-- the place is the first from one on that stands under the message, if there is one
pub record IsNext (pairs : List (ℕ × ℕ)) (message from : ℕ) (place : Option ℕ) : Type 0 where
  pub order : IfSome place (λ at. from ≤ at)
  pub left : IfSome place (λ at. holds pairs message at ≡ true)
  pub before : IfSome place (λ at. (k : ℕ) → from ≤ k → k < at → holds pairs message k ≡ false)
  pub none : IfNone place ((k : ℕ) → from ≤ k → holds pairs message k ≡ false)

-- `message` is the first message from `from` on that passes the test and of which a place may be left: of those before it none is
pub record IsNextLeft (pairs : List (ℕ × ℕ)) (test : ℕ → Bool) (from message : ℕ) : Type 0 where
  pub is : test message ≡ true
  pub after : from ≤ message
  pub none_before : (m k : ℕ) → from ≤ m → m < message → test m ≡ true → holds pairs m k ≡ false

-- each message under which a place stands is in one set, and each such place in another one; a place stands under one message
pub record ArePlaces (pairs : List (ℕ × ℕ)) (named placed : List Word) : Type 0 where
  pub messages : (m k : ℕ) → holds pairs m k ≡ true → numbers_of named m ≡ true
  pub places : (m k : ℕ) → holds pairs m k ≡ true → numbers_of placed k ≡ true
  pub alone : (m n k : ℕ) → holds pairs m k ≡ true → holds pairs n k ≡ true → m ≡ n

-- the message stands in a pair of a place and a message
abbrev pub Stands : List (ℕ × ℕ) → ℕ → Type 0
Stands queue m = (b : ℕ) × (holds queue b m ≡ true)

-- each message of the queue stands there at a place before which it is not left; no such place, and no place at which something is left, is the end or later
pub record IsQueue (pairs : List (ℕ × ℕ)) (end : ℕ) (queue : List (ℕ × ℕ)) : Type 0 where
  pub low : (b m k : ℕ) → holds queue b m ≡ true → holds pairs m k ≡ true → b ≤ k
  pub within : (b m : ℕ) → holds queue b m ≡ true → b < end
  pub below : (m k : ℕ) → holds pairs m k ≡ true → k < end

-- no place is the end or a later one, and what stands under each key is a queue
pub record AreQueues (pairs : List (ℕ × ℕ)) (end : ℕ) (queues : BTreeMap ℕ (List (ℕ × ℕ))) : Type 0 where
  pub below : (m k : ℕ) → holds pairs m k ≡ true → k < end
  pub each : (key : ℕ) → IfSome (lookup (is_at (nat_cmp key)) queues.entries) (IsQueue pairs end)

-- each message that passes the test and is left stands in the queue
abbrev pub HasLeft : List (ℕ × ℕ) → List (ℕ × ℕ) → (ℕ → Bool) → Type 0
HasLeft pairs queue test = (m k : ℕ) → test m ≡ true → holds pairs m k ≡ true → Stands queue m

-- a message is left at the place, which is the first place of all at which one that passes the test is left
pub record IsFirstHeld (pairs : List (ℕ × ℕ)) (test : ℕ → Bool) (pair : ℕ × ℕ) : Type 0 where
  pub held : holds pairs pair.1 pair.0 ≡ true
  pub first : (m k : ℕ) → test m ≡ true → holds pairs m k ≡ true → pair.0 ≤ k
