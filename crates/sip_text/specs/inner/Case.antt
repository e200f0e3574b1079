-- Texts that are the same without case (RFC 3261, section 7.3.1).
use Rattle.std.specs.Prelude.{◌≡◌, ℕ, List}
use Rattle.sip_standard.specs.Case.{folded}

-- the two texts differ at most in the case of ASCII letters
abbrev pub SameText : List ℕ → List ℕ → Type 0
SameText a b = folded a ≡ folded b
