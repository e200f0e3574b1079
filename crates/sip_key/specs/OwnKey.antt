-- What is answered of a key.
use Rattle.std.specs.Prelude.{◌≡◌, true, false, Option, Result, Ok, Err, ⊤}
use Rattle.sip_standard.specs.Says.{Said}
use Rattle.sip_standard.specs.declared.role.Direction.{Direction}
use Rattle.sip_standard.specs.Key.{KeyParts}
use Rattle.sip_key.specs.declared.concern.KeyError.{KeyError}
use Rattle.sip_key.specs.declared.concern.KeyError.TheVariants as error
use Rattle.sip_standard.specs.Concerns.{own_key, lacks_cookie}

-- the answer is the message's own key, or that a sent request lacks the cookie; of an answer that memory is missing nothing is said
abbrev pub IsOwnKey : Said → Direction → Result (Option KeyParts) KeyError → Type 0
IsOwnKey s direction (Ok key) = (key ≡ own_key s direction) × (lacks_cookie s direction ≡ false)
IsOwnKey s direction (Err error.NoCookie) = lacks_cookie s direction ≡ true
IsOwnKey s direction (Err error.Memory) = ⊤
