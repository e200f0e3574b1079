-- What the quick reader finds.
use Rattle.std.specs.Prelude.{◌≡◌, ℕ, ◌+◌, ◌≤◌, not, Bool, true, List, [], ◌∷◌, ◌++◌, length, drop}
use Rattle.std.specs.List.{AllByRecursion, flat_map}
use Rattle.sip_masks.specs.Marks.{is_control}
use Rattle.sip_standard.specs.Lines.{CutSays, LinesSay}
use Rattle.sip_message.specs.inner.Lines.{HasNoBareEnd, with_end}
use Rattle.sip_standard.specs.StartLine.{StartLine, StartSays}
use Rattle.sip_message.specs.Field.{Field}
use Rattle.sip_message.specs.inner.FieldText.{FieldText, FieldsText}
use Rattle.sip_message.specs.inner.MessageText.{AreUnfolded}
use Rattle.sip_message.specs.declared.asked.Asked.{Asked}
use Rattle.sip_message.specs.inner.Asked.{AsksMore}

-- the byte is no control
abbrev pub is_open : ℕ → Bool
is_open byte = not (is_control byte)

-- no control other than HTAB stands in the text
abbrev pub IsOpen : List ℕ → Type 0
IsOpen text = AllByRecursion (λ byte. is_open byte ≡ true) text

-- from place `from` up to place `at` the text is lines without controls, which are these fields, and an empty line follows
pub record AreOrdinary (text : List ℕ) (from at : ℕ) (fields : List Field) : Type 0 where
  pub lines : List (List ℕ)
  pub within : at + 2 ≤ length text
  pub whole : drop from text ≡ flat_map with_end lines ++ drop at text
  pub ends : drop at text ≡ with_end [] ++ drop (at + 2) text
  pub are_open : AllByRecursion IsOpen lines
  pub are : FieldsText lines fields

-- the bytes are a head with this start line and these fields, no line of which is folded, and then the rest
pub record IsOrdinary (bytes : List ℕ) (start : StartLine) (fields : List Field) (rest : List ℕ) : Type 0 where
  pub head : List ℕ
  pub first : List ℕ
  pub others : List (List ℕ)
  pub is_head : CutSays bytes (head, rest)
  pub no_bare : HasNoBareEnd head
  pub are_lines : LinesSay head first others
  pub is_start : StartSays first start
  pub are_fields : FieldsText others fields
  pub no_folds : AreUnfolded fields

-- the line is a field, which is put after the old ones, and what it says is kept if it is asked for
pub record PushesField (line : List ℕ) (old new : List Field) (before after : Asked) : Type 0 where
  pub field : Field
  pub is : FieldText line field
  pub pushed : new ≡ old ++ field ∷ []
  pub asks : AsksMore field before after
