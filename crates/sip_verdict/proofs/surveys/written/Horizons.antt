-- The horizon of a survey that forgets stays right when entries come and when transactions are forgotten.
use Rattle.std.proofs.Common.{◌≡◌, ◌≢◌, ◌≤◌, ◌+◌, ◌⊎◌, ◌∙◌, inl, inr, ℕ, Bool, List, [], ◌∷◌, ◌++◌, take, sym, ap, arith, length-append}
use Rattle.std.specs.Prelude.{filter}
use Rattle.std.proofs.lemmas.List.{take-append-le, take-map}
use Rattle.sip_standard.specs.Key.{KeyParts}
use Rattle.sip_standard.specs.Observation.{Observation}
use Rattle.sip_verdict.specs.declared.horizon.Horizon.{Horizon}
use Rattle.sip_verdict.specs.Entries.{newest_moment}
use Rattle.sip_verdict.specs.Forgetting.{remembered}
use Rattle.sip_verdict.specs.ForgettingText.{IsLongAgo}
use Rattle.sip_verdict.specs.inner.ForgettingLogs.{IsHorizonOf}
use Rattle.sip_verdict.proofs.keys.Keys.{newest_moment-push}
use Rattle.sip_verdict.proofs.surveys.forgetting.Forgotten.{newest_kept, long_kept}

-- a horizon of entries stays one when another entry comes, which is not before the newest
pub horizon_push : (m : Horizon) (es : List (Observation KeyParts)) (e : Observation KeyParts) → IsHorizonOf m es → newest_moment es ≤ e.event.moment → IsHorizonOf m (es ++ e ∷ [])
horizon_push m es e are later =
    let long = length-append es (e ∷ []) in
    let low = are.inside in
    let below = are.until_inside in
    -- the first entries are the same, and so is their newest moment
    record {
      inside = omega (arith, long, low);
      at = ap newest_moment (take-append-le m.number es (e ∷ []) are.inside) ∙ are.at;
      until_inside = omega (arith, long, below);
      long_ago = by are.long_ago;
    }
  where
    -- after one entry more `until` is still 0, or the entries up to it still came long ago
    by : (m.until ≡ 0) ⊎ IsLongAgo m.age m.until es → (m.until ≡ 0) ⊎ IsLongAgo m.age m.until (es ++ e ∷ [])
    by (inl none) = inl none
    by (inr ago) =
        let same = ap newest_moment (take-append-le m.until es (e ∷ []) are.until_inside) in
        let now = newest_moment-push es e in
        inr (omega (arith, same, now, ago, later))

-- a horizon of entries stays one when some transactions are forgotten
pub horizon_kept : (kept : KeyParts → Bool) (m : Horizon) (es : List (Observation KeyParts)) → IsHorizonOf m es → IsHorizonOf m (remembered kept es)
horizon_kept kept m es are =
    let long = long_kept kept es in
    let low = are.inside in
    let below = are.until_inside in
    -- the first entries have the same newest moment, whichever transactions are remembered
    record {
      inside = omega (arith, long, low);
      at = same m.number ∙ are.at;
      until_inside = omega (arith, long, below);
      long_ago = by are.long_ago;
    }
  where
    -- the newest moment of the first entries is the same, whichever keys are remembered
    same : (n : ℕ) → newest_moment (take n (remembered kept es)) ≡ newest_moment (take n es)
    same n = ap newest_moment (take-map (λ e. record { fault = e.fault; event = e.event; keys = filter kept e.keys }) n es) ∙ newest_kept kept (take n es)

    -- after some keys are forgotten `until` is still 0, or the entries up to it still came long ago
    by : (m.until ≡ 0) ⊎ IsLongAgo m.age m.until es → (m.until ≡ 0) ⊎ IsLongAgo m.age m.until (remembered kept es)
    by (inl none) = inl none
    by (inr ago) =
        let before = same m.until in
        let now = newest_kept kept es in
        inr (omega (arith, before, now, ago))

-- where its transactions are counted anew, a horizon is still one of the entries
pub horizon_left : (m n : Horizon) (es : List (Observation KeyParts)) → IsHorizonOf m es → n.age ≡ m.age → n.until ≡ m.until → n.number ≡ m.number → n.moment ≡ m.moment → IsHorizonOf n es
horizon_left m n es are age until number moment =
    let low = are.inside in
    let below = are.until_inside in
    -- the first entries are the same, and so is their newest moment
    record {
      inside = omega (arith, number, low);
      at = ap (λ i. newest_moment (take i es)) number ∙ are.at ∙ sym moment;
      until_inside = omega (arith, until, below);
      long_ago = by are.long_ago;
    }
  where
    -- `until` is 0 in the new horizon, or the entries up to it came long ago, as in the old one
    by : (m.until ≡ 0) ⊎ IsLongAgo m.age m.until es → (n.until ≡ 0) ⊎ IsLongAgo n.age n.until es
    by (inl none) = inl (until ∙ none)
    by (inr ago) = let before = ap (λ i. newest_moment (take i es)) until in inr (omega (arith, before, age, ago))

-- where some transactions may be forgotten, the entries up to `until` came at least `age` milliseconds before the newest
pub came_long_ago : (m : Horizon) (es : List (Observation KeyParts)) → IsHorizonOf m es → m.until ≢ 0 → IsLongAgo m.age m.until es
came_long_ago m es are some = by are.long_ago
  where
    -- the entries up to `until` came long ago, since `until` is not 0
    by : (m.until ≡ 0) ⊎ IsLongAgo m.age m.until es → IsLongAgo m.age m.until es
    by (inl none) = absurd (some none)
    by (inr ago) = ago
