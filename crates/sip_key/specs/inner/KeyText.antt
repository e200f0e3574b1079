-- A key as one text, from which its parts can be read again.
use Rattle.std.specs.Prelude.{ℕ, zero, suc, ◌/◌, ◌%◌, ◌+◌, ◌-◌, ◌==◌, List, [], ◌∷◌, ◌++◌, cond, length, drop, replicate, slice_range, take}
use Rattle.sip_standard.specs.declared.role.Role.{Role}
use Rattle.sip_standard.specs.declared.role.Role.TheVariants.{Client, Server}
use Rattle.sip_standard.specs.Key.{KeyParts}

-- a length in bytes: a byte 64 for each 64 in it, and then what is left, which is below 64 and ends it
unfoldable pub length_bytes : ℕ → List ℕ
length_bytes count = replicate (count / 64) 64 ++ count % 64 ∷ []

-- the role as a byte
abbrev pub role_byte : Role → ℕ
role_byte Client = 0
role_byte Server = 1

-- what stands before the texts of a key: its role, and how long its branch and its method are
abbrev pub key_head : Role → (branch method : ℕ) → List ℕ
key_head role branch method = role_byte role ∷ (length_bytes branch ++ length_bytes method)

-- the text of a key: its head, its branch, its sent-by and its method
abbrev pub key_text : KeyParts → List ℕ
key_text k = key_head k.role (length k.branch) (length k.method) ++ ((k.branch ++ k.sent_by) ++ k.method)

-- the length with which a text begins: 64 for each byte 64, and then the first byte that is another one
abbrev pub length_in : List ℕ → ℕ
length_in [] = 0
length_in (byte ∷ text) = cond (byte == 64) (64 + length_in text) byte

-- what stands after the length with which a text begins
abbrev pub after_length : List ℕ → List ℕ
after_length [] = []
after_length (byte ∷ text) = cond (byte == 64) (after_length text) text

-- the role that the first byte of a text tells
abbrev pub role_in : List ℕ → Role
role_in [] = Client
role_in (zero ∷ text) = Client
role_in (suc byte ∷ text) = Server

-- the parts of a key with a branch and a method of these lengths, whose branch, sent-by and method stand in a row
abbrev pub parts_in : Role → (branch method : ℕ) → List ℕ → KeyParts
parts_in role branch method texts =
    record { role = role; branch = take branch texts; sent_by = slice_range texts branch (length texts - method); method = drop (length texts - method) texts }

-- the parts of the key that a text tells
abbrev pub parts_of : List ℕ → KeyParts
parts_of text =
    parts_in (role_in text) (length_in (drop 1 text)) (length_in (after_length (drop 1 text))) (after_length (after_length (drop 1 text)))
