-- How far the code has read a log.
use Rattle.std.specs.Prelude.{◌≡◌, ℕ, List, [], Option, None, IsSome, ⊤}
use Rattle.sip_standard.specs.Times.{Times}
use Rattle.sip_log.specs.declared.progress.Stage.{Stage as CodeStage}
use Rattle.sip_log.specs.declared.progress.Stage.TheVariants as code
use Rattle.sip_log.specs.Reading.{Stage, fresh, entries, ended, failed}
use Rattle.sip_log.specs.inner.Window.{items}

-- the stage for which a stage of the code stands
abbrev pub stage_of : CodeStage → Stage
stage_of code.Fresh = fresh
stage_of (code.Entries window) = entries
stage_of code.Ended = ended
stage_of code.Failed = failed

-- the bytes that are held at a stage of the code
abbrev pub held_at : CodeStage → List ℕ
held_at code.Fresh = []
held_at (code.Entries window) = items window
held_at code.Ended = []
held_at code.Failed = []

-- what a stage of the code implies: while it is fresh no times are known and nothing was counted, and where entries are read the times are known
abbrev pub FitsStage : CodeStage → Option Times → ℕ → ℕ → Type 0
FitsStage code.Fresh times count last = (times ≡ None) × (count ≡ 0) × (last ≡ 0)
FitsStage (code.Entries window) times count last = IsSome times
FitsStage code.Ended times count last = ⊤
FitsStage code.Failed times count last = ⊤
