-- A transaction in a listing: its number, its key in words, and its states.
use Rattle.std.specs.Prelude.{◌++◌, ℕ, List, codes, decimal, length}
use Rattle.sip_standard.specs.declared.role.Role.{Role}
use Rattle.sip_standard.specs.declared.role.Role.TheVariants.{Client, Server}
use Rattle.sip_standard.specs.Key.{KeyParts}
use Rattle.sip_standard.specs.StateLines.{indented}

-- the role of a transaction in a word
abbrev pub role_text : Role → List ℕ
role_text Client = codes "client"
role_text Server = codes "server"

-- the key of a transaction in words: its role and its method
abbrev pub key_text : KeyParts → List ℕ
key_text key = role_text key.role ++ codes " " ++ key.method

-- the line of the transaction with this number and key, which tells how many states it has
abbrev pub transaction_line : ℕ → KeyParts → ℕ → List ℕ
transaction_line number key count = codes "transaction " ++ decimal number ++ codes " " ++ key_text key ++ (codes " states " ++ decimal count) ++ codes "\n"

-- the line of a transaction, and the lines of its states after it
abbrev pub transaction_text : ℕ → KeyParts → List (List ℕ) → List ℕ
transaction_text number key lines = transaction_line number key (length lines) ++ indented lines
