-- How a judge goes on after an entry.
use Rattle.std.specs.Prelude.{◌++◌, ◌∷◌, [], ℕ, List, Option, Some, None}
use Rattle.sip_standard.specs.Key.{KeyParts}
use Rattle.sip_machine.specs.Texts.{Texts}
use Rattle.sip_states.specs.Tables.{Tabled}
use Rattle.sip_standard.specs.declared.verdict.Verdict.{Verdict}
use Rattle.sip_standard.specs.Observation.{Observation}
use Rattle.sip_standard.specs.VerdictOf.{HasTrouble}
use Rattle.sip_verdict.specs.Judging.{AreFollowed}

-- messages and sets that follow the entries follow one entry more, or the verdict of that entry is given
abbrev pub AreFollowedOn : Texts → Tabled → ℕ → List (Observation KeyParts) → Observation KeyParts → Option Verdict → Type 0
AreFollowedOn texts t left es e None = AreFollowed texts t left (es ++ e ∷ [])
AreFollowedOn texts t left es e (Some v) = HasTrouble t.times es e v
