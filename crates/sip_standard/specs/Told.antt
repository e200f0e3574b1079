-- A phase in words, as a listing tells it: of messages M, which are bytes in a figure, and numbers of entries in a text.
use Rattle.std.specs.Prelude.{ℕ, Bool, Option, List, map}
use Rattle.std.specs.Option.{option_map}

-- a field of a phase: its name, and as its value a flag, a moment or an interval if there is one, or a message if there is one
pub data ToldField (M : Type 0) : Type 0 where
  Flag : (name : List ℕ) → Bool → ToldField M
  Number : (name : List ℕ) → Option ℕ → ToldField M
  Message : (name : List ℕ) → Option M → ToldField M

-- the name of a phase, and its fields in their order
pub record Told (M : Type 0) : Type 0 where
  pub name : List ℕ
  pub fields : List (ToldField M)

-- a field with each message M replaced by what f makes of it
abbrev pub field_by : {M N : Type 0} → (M → N) → ToldField M → ToldField N
field_by f (Flag name is) = Flag name is
field_by f (Number name value) = Number name value
field_by f (Message name message) = Message name (option_map f message)

-- a phase in words with each message M replaced by what f makes of it
abbrev pub told_by : {M N : Type 0} → (M → N) → Told M → Told N
told_by f told = record { name = told.name; fields = map (field_by f) told.fields }
