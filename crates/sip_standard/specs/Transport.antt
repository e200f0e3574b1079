-- The transport of a message.
use Rattle.std.specs.Prelude.{ℕ, not, Bool, List, codes, bytes_eq}
use Rattle.sip_standard.specs.Case.{folded}

-- every transport but UDP delivers what it takes (sections 17 and 18)
abbrev pub is_reliable : List ℕ → Bool
is_reliable transport = not (bytes_eq (folded transport) (codes "udp"))
