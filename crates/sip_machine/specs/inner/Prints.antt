-- Numbers by which most values are told apart at once.
use Rattle.std.specs.Prelude.{◌≡◌, ◌<◌, ◌≤◌, ◌+◌, ◌-◌, ℕ, List, get_or, length}

-- each value from one index on has a print, and equal values have the same
pub record ArePrints {X : Type 0} (values : List X) (from : ℕ) (prints : List ℕ) : Type 0 where
  pub long : from + length prints ≡ length values
  -- two equal values, at the places i and k, have equal prints; x stands for no value
  pub same : (i k : ℕ) (x : X) → from ≤ i → i < length values → from ≤ k → k < length values → get_or values i x ≡ get_or values k x →
      get_or prints (i - from) 0 ≡ get_or prints (k - from) 0
