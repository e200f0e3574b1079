-- Blank runs in pieces that begin no other: [ CRLF ] WSP.
use Rattle.std.specs.Prelude.{ℕ, Bool, List, ◌&&◌, ◌||◌, ◌==◌, slice_index, if◌then◌else◌}
use Rattle.sip_standard.specs.Text.{One, Exactly, ◌then◌, Optional}
use Rattle.sip_text.specs.Bytes.{tab, space, carriage_return, line_feed, crlf}

-- WSP = SP / HTAB
abbrev pub is_wsp : ℕ → Bool
is_wsp byte = byte == space || byte == tab

-- a piece of a blank run: a WSP, and before it the CRLF of a fold if it has one
abbrev pub Blank : List ℕ → Type 0
Blank = Optional (Exactly crlf) then One is_wsp

-- the text begins with CRLF WSP
abbrev pub begins_with_fold : List ℕ → Bool
begins_with_fold text =
    slice_index text 0 == carriage_return && slice_index text 1 == line_feed && is_wsp (slice_index text 2)

-- the length of the piece of a blank run at the front of the text, and 0 if there is none
abbrev pub blank_len : List ℕ → ℕ
blank_len text =
    if is_wsp (slice_index text 0) then 1 else (if begins_with_fold text then 3 else 0)
