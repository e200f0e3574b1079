-- Laws of requests that wait, and of timers as they start.
use Rattle.std.specs.Prelude.{◌≡◌, ◌≤◌, ℕ, Bool, true, false, List, [], ◌∷◌, All, Contains, if◌then◌else◌}
use Rattle.std.proofs.Common.{refl, ap, arith}
use Rattle.std.proofs.lemmas.Bool.Decides.{nat_tests}
use Rattle.std.proofs.lemmas.List.Elements.{All-head, All-nil, All-cons}
use Rattle.sip_phases.specs.declared.waiting.Waiting.{Waiting as CodeWaiting}
use Rattle.sip_phases.specs.contracts.waiting.WaitingPartialEq.TheImpl as derived
use Rattle.sip_standard.specs.Times.{Times}
use Rattle.sip_standard.specs.Window.{close_at}
use Rattle.sip_phases.specs.Texts.{Texts, IsBook, Keeps, text_of}
use Rattle.sip_standard.specs.Waiting.{Waiting}
use Rattle.sip_phases.specs.inner.Waiting.{waiting_closes, waiting_seen}
use Rattle.sip_phases.proofs.phases.MessageLaws.{message_apart}

-- waiting requests of the code with the same data are the same one
waiting_same : (v w : CodeWaiting) → v.reliable ≡ w.reliable → v.request ≡ w.request → v.start ≡ w.start →
    v.set ≡ w.set → v.interval ≡ w.interval → v ≡ w
waiting_same v w reliable request start set interval =
    let e : record { reliable = v.reliable; request = v.request; start = v.start; set = v.set; interval = v.interval } ≡ w = rw (reliable, request, start, set, interval) in e

-- waiting requests of the code that the test finds equal are the same one
pub waiting_exact : (v w : CodeWaiting) → derived.ghosts.eq v w ≡ true → v ≡ w
waiting_exact v w e =
    waiting_same v w (grind (arith, nat_tests)) (grind (arith, nat_tests)) (grind (arith, nat_tests)) (grind (arith, nat_tests)) (grind (arith, nat_tests))

-- waiting requests that stand for the same beside one book are the same one
pub waiting_apart : (texts : Texts) (v w : CodeWaiting) → IsBook texts → All (Keeps texts) (v.request ∷ []) →
    All (Keeps texts) (w.request ∷ []) → waiting_seen texts v ≡ waiting_seen texts w → v ≡ w
waiting_apart texts v w book v_known w_known e =
    let request = message_apart texts v.request w.request book v_known w_known (ap (λ x. x.request) e) in
    waiting_same v w (ap (λ x. x.reliable) e) request (ap (λ x. x.start) e) (ap (λ x. x.set) e) (ap (λ x. x.interval) e)

-- a waiting request stands for the same beside books that agree on its message
-- a and b are the books, and w is the request that waits
pub waiting_by_names : (a b : Texts) (w : CodeWaiting) → ((n : ℕ) → Contains (w.request ∷ []) n → text_of a n ≡ text_of b n) →
    waiting_seen a w ≡ waiting_seen b w
waiting_by_names a b w agree =
    ap (λ (text : List ℕ). record { reliable = w.reliable; request = text; start = w.start; set = w.set; interval = w.interval }) (agree w.request (0, omega arith, refl))

-- a timer that starts at t is not past at t
pub timer_starts : (p : Times) (t duration : ℕ) → All (λ m. t ≤ m) (close_at p t duration ∷ [])
timer_starts p t duration = All-cons (λ m. t ≤ m) (close_at p t duration) [] (omega arith) (All-nil (λ m. t ≤ m))

-- at t, a timer that is not past and one that starts over an unreliable transport are not past
pub repeat_starts : (p : Times) (t m interval : ℕ) (reliable : Bool) → t ≤ m → All (λ m. t ≤ m) (m ∷ (if reliable then [] else close_at p t interval ∷ []))
repeat_starts p t m interval true low = All-cons (λ m. t ≤ m) m [] low (All-nil (λ m. t ≤ m))
repeat_starts p t m interval false low = All-cons (λ m. t ≤ m) m (close_at p t interval ∷ []) low (timer_starts p t interval)

-- where the timers of a waiting request are not past at t, the one that gives it up is not
pub patience_lasts : (p : Times) (w : Waiting) (t patience : ℕ) → All (λ m. t ≤ m) (waiting_closes p w patience) → t ≤ close_at p w.start patience
patience_lasts p w t patience running =
    All-head (λ m. t ≤ m) (close_at p w.start patience) (if w.reliable then [] else close_at p w.set w.interval ∷ []) running
