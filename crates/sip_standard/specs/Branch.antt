-- Branches (RFC 3261, section 8.1.1.7).
use Rattle.std.specs.Prelude.{ℕ, List, take, codes, bytes_eq, Option, None, Some, if◌then◌else◌}
use Rattle.sip_standard.specs.Case.{folded}

-- a branch in lower case, as parameter values are compared (section 7.3.1), if it is there and begins with the magic cookie z9hG4bK
abbrev pub cookie_branch : Option (List ℕ) → Option (List ℕ)
cookie_branch None = None
cookie_branch (Some branch) = if bytes_eq (take 7 (folded branch)) (codes "z9hg4bk") then Some (folded branch) else None
