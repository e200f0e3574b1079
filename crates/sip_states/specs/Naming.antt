-- Which messages a state may name.
use Rattle.std.specs.Prelude.{◌≢◌, ◌⊎◌, [], ℕ, List, Contains}
use Rattle.sip_machine.specs.Owing.{CodeOwing}

-- a state may name the message with this number: its phase names it, or it owes something
abbrev pub MayName : {S : Type 0} → (S → List ℕ) → ℕ → CodeOwing S → Type 0
MayName names number x = Contains (names x.phase) number ⊎ (x.owes ≢ [])
