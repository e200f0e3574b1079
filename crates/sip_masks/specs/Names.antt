-- The names that the quick test of names tells.
use Rattle.std.specs.Prelude.{◌≡◌, ◌≢◌, ℕ, ◌≤◌, ◌++◌, List, length, take, codes}
use Rattle.std.specs.List.{prefix_len}
use Rattle.sip_standard.specs.Profile.{Hostname}
use Rattle.sip_masks.specs.Marks.{is_plain}

-- hostname (RFC 3261, section 25.1) of an ordinary kind: it has at most 32 bytes, and the "." that may end a hostname does not end it
abbrev pub OrdinaryName : List ℕ → Type 0
OrdinaryName text = Hostname text × (length text ≤ 32) × ((front : List ℕ) → text ≢ front ++ codes ".")

-- the run of plain bytes at the front of the text has len bytes and is an ordinary name, and the text has 32 bytes or more
abbrev pub BeginsWithName : List ℕ → ℕ → Type 0
BeginsWithName text len = (len ≡ prefix_len is_plain text) × OrdinaryName (take len text) × (32 ≤ length text)
