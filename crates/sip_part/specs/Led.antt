-- The branch that stands plainly in the first Via of a message.
use Rattle.std.specs.Prelude.{ℕ, ◌==◌, Bool, false, nat_eq, List, [], ◌∷◌, Option, None, Some, take, drop, codes, if◌then◌else◌}
use Rattle.std.specs.List.{prefix_len, starts_with}
use Rattle.sip_standard.specs.Chars.{is_among}
use Rattle.sip_text.specs.Bytes.{line_feed, semicolon, is_token_byte}

-- the line begins with a v in either case, as a Via does, in full or compact
abbrev pub opens_via : List ℕ → Bool
opens_via [] = false
opens_via (byte ∷ text) = is_among "vV" byte

-- the text from the first line that begins as a Via does, after the first line of all, and None where no line does
abbrev pub via_line : List ℕ → Option (List ℕ)
via_line [] = None
via_line (byte ∷ text) = if byte == line_feed then (if opens_via text then Some text else via_line text) else via_line text

-- the longest token that the text begins with, if it begins with one
abbrev pub token_at : List ℕ → Option (List ℕ)
token_at text = if prefix_len is_token_byte text == 0 then None else Some (take (prefix_len is_token_byte text) text)

-- the search for a plain branch ends at a comma, a quote and the end of a line
abbrev pub is_end : ℕ → Bool
is_end = is_among ",\"\r\n"

-- the parameter begins with a blank or a b, as a branch that is spelled otherwise may
abbrev pub opens_other : List ℕ → Bool
opens_other [] = false
opens_other (byte ∷ text) = is_among " \tbB" byte

-- the token after the first ";branch=" of the text; None where there is none, or the search ends before it, or another parameter before it opens so
abbrev pub branch_in : List ℕ → Option (List ℕ)
branch_in [] = None
branch_in (byte ∷ text) =
    if is_end byte then None
    else if byte == semicolon then (if starts_with nat_eq text (codes "branch=") then token_at (drop 7 text) else if opens_other text then None else branch_in text)
    else branch_in text

-- the text from its first comma, semicolon or CR on
abbrev pub from_stop : List ℕ → List ℕ
from_stop [] = []
from_stop (byte ∷ text) = if is_among ",;\r" byte then byte ∷ text else from_stop text

-- the plain branch of a field that is spelled "Via:" or "v:"
abbrev pub via_branch : List ℕ → Option (List ℕ)
via_branch field =
    if starts_with nat_eq field (codes "Via:") then branch_in (from_stop (drop 4 field))
    else if starts_with nat_eq field (codes "v:") then branch_in (from_stop (drop 2 field)) else None

-- the plain branch of the field that stands here, where there is a field
abbrev pub branch_at : Option (List ℕ) → Option (List ℕ)
branch_at None = None
branch_at (Some field) = via_branch field

-- the plain branch of a message: that of its first line, after the start line, that begins as a Via does
abbrev pub led_branch : List ℕ → Option (List ℕ)
led_branch text = branch_at (via_line text)
