use Rattle.std.specs.Prelude.{◌≡◌, ◌≤◌, ◌↔◌, ◌-◌, ◌==◌, ◌&&◌, ℕ, Bool, true, false, cond, Option, Some, None, List, All, Contains, nat_le, nat_lt}
use Rattle.std.specs.BTreeMap.{BTreeMap, is_at}
use Rattle.std.specs.List.{count_by}
use Rattle.std.specs.Map.{lookup}
use Rattle.sip_message.specs.Reading.{Reading}
use Rattle.sip_message.specs.Reads.{Reads}
use Rattle.sip_numbers.specs.Numbers.{numbers_of}
use Rattle.sip_numbers.specs.declared.numbers.Word.{Word}
use Rattle.sip_standard.specs.Solid.{solid}
use Rattle.sip_machine.specs.Texts.{Texts, Keeps, text_of}
use Rattle.sip_machine.specs.declared.tos.To.{To}
use Rattle.sip_machine.specs.inner.Order.{text_cmp}

-- The To that stands beside a message for which an ACK may come.

-- the text is the To, without its blanks, of the message that the bytes are
pub record IsToOf (bytes text : List ℕ) : Type 0 where
  pub message : Reading
  pub reads : Reads bytes message
  pub is : text ≡ solid message.parts.to

-- the book keeps the message with this number, and the text is its To without blanks
pub record IsTo (texts : Texts) (to : To) : Type 0 where
  pub kept : Keeps texts to.number
  pub text : IsToOf (text_of texts to.number) to.text

-- each To of the list is that of a message that the book keeps
pub record AreTos (texts : Texts) (tos : List To) : Type 0 where
  pub each : All (IsTo texts) tos

-- how many of the numbers are from low up to high: those up to high without those below low
abbrev pub count_between : ℕ → ℕ → List ℕ → ℕ
count_between low high numbers = count_by (λ n. nat_le n high) numbers - count_by (λ n. nat_lt n low) numbers

-- Which messages have a To: the numbers of messages stand under their Tos.

-- Tos, each with the set of the numbers that stand under it
abbrev pub Sets : Type 0
Sets = BTreeMap (List ℕ) (List Word)

-- whether the set, if there is one, has the number
abbrev pub is_in : Option (List Word) → ℕ → Bool
is_in None number = false
is_in (Some set) number = numbers_of set number

-- whether the number stands under the To
unfoldable pub stands : Sets → List ℕ → ℕ → Bool
stands sets to number = is_in (lookup (is_at (text_cmp to)) sets.entries) number

-- the number of a message stands under its To just if the list has the two
abbrev pub AreUnder : List To → Sets → Type 0
AreUnder tos sets = (to : To) → (stands sets to.text to.number ≡ true) ↔ Contains tos to

-- the number stands under the To now just if `is_there`, and all else is as it was
abbrev pub IsChanged : List ℕ → ℕ → Bool → Sets → Sets → Type 0
IsChanged to number is_there old new = (text : List ℕ) (n : ℕ) → stands new text n ≡ cond (is_at (text_cmp to) text && n == number) is_there (stands old text n)

-- of the kept messages with numbers from low up to high, those that have this To are in the set, and no others
abbrev pub HasThose : Texts → ℕ → ℕ → List ℕ → List Word → Type 0
HasThose texts low high to set =
    (number : ℕ) → Keeps texts number → low ≤ number → number ≤ high → (numbers_of set number ≡ true) ↔ IsToOf (text_of texts number) to
