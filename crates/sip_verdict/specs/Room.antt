-- How many entries and transactions a survey can number.
use Rattle.std.specs.Prelude.{◌<◌, ◌≤◌, ◌+◌, ℕ}

-- the most entries of a survey
abbrev pub most_surveyed : ℕ
most_surveyed = 1000000000000000

-- the most transactions that it has at a time
abbrev pub most_transactions : ℕ
most_transactions = 2000000

-- a survey of this many entries and transactions has room for one entry more, which may begin two transactions
abbrev pub HasRoom : (entries transactions : ℕ) → Type 0
HasRoom entries transactions = (entries < most_surveyed) × (transactions + 2 ≤ most_transactions)
