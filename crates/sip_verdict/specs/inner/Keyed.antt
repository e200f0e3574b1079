-- Keys in the order in which entries first concern them.
use Rattle.std.specs.Prelude.{List, [], ◌∷◌, ◌++◌, if◌then◌else◌}
use Rattle.std.specs.List.{list_any}
use Rattle.sip_standard.specs.Key.{KeyParts, same_key}

-- the keys with this one, which is put at the end where it is new
abbrev pub with_key : List KeyParts → KeyParts → List KeyParts
with_key keys key = if list_any (same_key key) keys then keys else keys ++ key ∷ []
