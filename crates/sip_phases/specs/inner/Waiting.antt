-- How the code has a request that waits for its response.
use Rattle.std.specs.Prelude.{◌≤◌, ◌<◌, ◌^◌, ℕ, List, [], ◌∷◌, if◌then◌else◌}
use Rattle.sip_phases.specs.declared.waiting.Waiting.{Waiting as CodeWaiting}
use Rattle.sip_standard.specs.Times.{Times, last_moment}
use Rattle.sip_standard.specs.Window.{close_at}
use Rattle.sip_phases.specs.Texts.{Texts, text_of}
use Rattle.sip_standard.specs.Waiting.{Waiting}

-- the moments up to which a request may wait: timer B or F, which lasts `patience`, and over an unreliable transport timer A or E
abbrev pub waiting_closes : Times → Waiting → ℕ → List ℕ
waiting_closes p w patience = close_at p w.start patience ∷ (if w.reliable then [] else close_at p w.set w.interval ∷ [])

-- The waiting requests of the code, whose messages are numbers of a book.

-- the waiting request that one of the code stands for beside a book
abbrev pub waiting_seen : Texts → CodeWaiting → Waiting
waiting_seen texts w =
    record { reliable = w.reliable; request = text_of texts w.request; start = w.start; set = w.set; interval = w.interval }

-- the moments of a waiting request are within the limits, and its interval is below 2^50
abbrev pub WaitingInRange : CodeWaiting → Type 0
WaitingInRange w = (w.start ≤ last_moment) × (w.set ≤ last_moment) × (w.interval < 2 ^ 50)
