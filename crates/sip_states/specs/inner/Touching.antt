-- What a look for a key leaves of the keys and their sets.
use Rattle.std.specs.Prelude.{◌≡◌, ◌≢◌, ◌<◌, ◌⊎◌, ◌++◌, ◌∷◌, [], ℕ, List, Some, All, length, slice_get}
use Rattle.std.specs.Map.{keys_of}
use Rattle.sip_standard.specs.Key.{KeyParts}
use Rattle.sip_standard.specs.Times.{Times}
use Rattle.sip_states.specs.declared.any_set.AnySet.{AnySet}
use Rattle.sip_states.specs.AnySet.{start_of}

-- the key stands at the index, and nothing changes; or it is new, and goes after the others with the set that it starts with
abbrev pub FindsOrStarts : Times → KeyParts → ℕ → List (KeyParts × AnySet) → List (KeyParts × AnySet) → Type 0
FindsOrStarts times key index old new =
    ((slice_get (keys_of old) index ≡ Some key) × (index < length old) × (new ≡ old))
    ⊎ (All (λ k. k ≢ key) (keys_of old) × (index ≡ length old) × (new ≡ old ++ (key, start_of times key) ∷ []))
