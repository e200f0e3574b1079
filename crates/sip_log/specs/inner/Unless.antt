-- A reading that stops at the first demand that fails.
use Rattle.std.specs.Prelude.{◌≡◌, ◌⊎◌}
use Rattle.sip_standard.specs.declared.log_reason.LogReason.{LogReason}
use Rattle.sip_log.specs.Next.{Next, stops}

-- one case of a reading: the reason comes where the demand fails, and where it holds, what follows decides
abbrev pub Unless : {A : Type 0} → Type 0 → LogReason → Next A → Type 0 → Type 0
Unless Demand fault next Follows = (¬ Demand × (next ≡ stops fault)) ⊎ (Demand × Follows)
