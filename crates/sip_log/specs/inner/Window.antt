-- The bytes of a source that are held while it is read.
use Rattle.std.specs.Prelude.{ℕ, List, Option, slice_range}
use Rattle.std.specs.Io.KnownBytes.{prepend_known}
use Rattle.sip_log.specs.declared.window.Window.{Window}

-- the bytes that a window holds
abbrev pub items : Window → List ℕ
items w = slice_range w.bytes.items w.start w.end

-- what is not read yet: the bytes that the window holds, and then those left in the source
abbrev pub unread : Window → Option (List ℕ) → Option (List ℕ)
unread w left = prepend_known (items w) left

-- the number of bytes for which a window has room
abbrev pub window_size : ℕ
window_size = 131072
