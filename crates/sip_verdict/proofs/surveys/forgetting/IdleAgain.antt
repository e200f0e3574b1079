-- A transaction that is surely idle again is as new.
-- In the lemmas y is the state in which a run stands, at the moment k or m.
use Rattle.std.proofs.Common.{◌≡◌, ◌≤◌, ◌<◌, ◌↔◌, ◌⊎◌, inl, inr, ℕ, List, [], ◌∷◌, ◌++◌, All, refl, sym, ap, ◌∙◌, subst, arith, append_assoc, append-nil, zero-le}
use Rattle.std.proofs.Math.Decide.{dec_le}
use Rattle.std.proofs.lemmas.List.{same_from_push}
use Rattle.std.proofs.lemmas.List.Elements.{All-nil, All-weaker, All-push}
use Rattle.sip_phases.proofs.debts.DebtLaws.{All-front}
use Rattle.sip_standard.specs.Times.{Times}
use Rattle.sip_standard.specs.MachineEvent.{MachineEvent}
use Rattle.sip_standard.specs.Figure.{Figure, Owing, quiet, Lasts, MayEnd}
use Rattle.sip_standard.specs.Stands.{Stands, begins, waits, ends, takes}
use Rattle.sip_standard.specs.KeyMachine.{MachineKind, transaction_of}
use Rattle.sip_verdict.specs.SurveyLaws.{IsIdleAgain}
use Rattle.sip_verdict.proofs.verdicts.LegalRuns.{empty_or_last}
use Rattle.sip_verdict.proofs.verdicts.Unique.{All-middle}
use Rattle.sip_verdict.proofs.surveys.forgetting.Lasting.{idle_lasts, idle_stays, lasts_earlier}

-- the event is not after the moment m
abbrev IsTo : ℕ → MachineEvent → Type 0
IsTo m e = e.moment ≤ m

-- the event is not before the moment m
abbrev IsFrom : ℕ → MachineEvent → Type 0
IsFrom m e = m ≤ e.moment

-- What follows is of a machine that can stay in idle for ever and does not end there: its figure f with the times p.
module _ {X : Type 0} (f : Figure X) (p : Times) (lasts : (m : ℕ) → Lasts f p (quiet f.idle) m) (has_no_end : (m : ℕ) → ¬ (MayEnd f p (quiet f.idle) m)) where
  -- no event of a run is after the moment at which the run stands
  -- the run has taken no event; or it has waited or ended since it took them; or it takes the last one at the moment at which it stands
  events_to : (events : List MachineEvent) (m : ℕ) (y : Owing X) → Stands f p events m y → All (IsTo m) events
  events_to events m y begins = All-nil (IsTo 0)
  events_to events m y (waits evs h k x stands low lasting) = All-weaker (IsTo h) (IsTo k) (λ e to. omega (arith, to, low)) evs (events_to evs h x stands)
  events_to events m y (ends evs h x stands may) = events_to evs h x stands
  events_to events m y (takes evs e x z stands does) = All-push (IsTo e.moment) evs e (events_to evs e.moment x stands) (omega arith)

  -- What follows is of the events `old`, which leave the transaction idle at the moment m.
  module _ (old : List MachineEvent) (m : ℕ) (idle : Stands f p old m (quiet f.idle)) where
    -- where old events leave the transaction idle at m, a run over later events goes on after them; before m such a run has no event and stands in idle
    on : (more : List MachineEvent) (k : ℕ) (y : Owing X) → Stands f p more k y → All (IsFrom m) more → (m ≤ k → Stands f p (old ++ more) k y) × (k < m → (more ≡ []) × (y ≡ quiet f.idle))
    -- the run begins at 0, so that m is 0 or after its moment
    on more k y begins from = (λ high. subst (λ n. Stands f p (old ++ []) n (quiet f.idle)) (let same : m ≡ 0 = omega (arith, high) in same) (subst (λ es. Stands f p es m (quiet f.idle)) (sym (append-nil old)) idle), λ low. (refl, refl))
    -- the run waits
    on more k y (waits evs h n x stands low lasting) from = go (dec_le m h) (on evs h x stands from)
      where
        -- the runs over both parts stand at n as they do at h: m has come by h, or the transaction is idle still
        go : Dec (m ≤ h) → (m ≤ h → Stands f p (old ++ evs) h x) × (h < m → (evs ≡ []) × (x ≡ quiet f.idle)) → (m ≤ n → Stands f p (old ++ evs) n x) × (n < m → (evs ≡ []) × (x ≡ quiet f.idle))
        -- m has come when the wait begins: the run over both parts waits on
        go (yes late) both = (λ high. waits (old ++ evs) h n x (both.0 late) low lasting, λ before. absurd (omega (arith, late, low, before)))
        -- the wait begins before m: no event was taken, and the transaction waits in idle from m on
        go (no early) both =
            let new = both.1 (omega (arith, early)) in (
              λ high. subst (λ es. Stands f p (old ++ es) n x) (sym new.0) (subst (λ es. Stands f p es n x) (sym (append-nil old)) (subst (Stands f p old n) (sym new.1) (waits old m n (quiet f.idle) idle high (lasts n)))),
              λ before. new,
            )
    -- the state ends
    on more k y (ends evs h x stands may) from = go (dec_le m h) (on evs h x stands from)
      where
        -- the claim of the runs holds of one that ends, whether the end comes at m or later, or before it
        -- the end comes at m or later; it cannot come earlier, since the run stands in idle then, which does not end
        go : Dec (m ≤ h) → (m ≤ h → Stands f p (old ++ evs) h x) × (h < m → (evs ≡ []) × (x ≡ quiet f.idle)) → (m ≤ h → Stands f p (old ++ evs) h (quiet f.ended)) × (h < m → (evs ≡ []) × (quiet f.ended ≡ quiet f.idle))
        go (yes late) both = (λ high. ends (old ++ evs) h x (both.0 late) may, λ before. absurd (omega (arith, late, before)))
        go (no early) both = absurd (has_no_end h (subst (λ z. MayEnd f p z h) (both.1 (omega (arith, early))).1 may))
    -- the run takes an event, which comes at m or later
    on more k y (takes evs e x z stands does) from =
        let last : m ≤ e.moment = All-middle (IsFrom m) evs [] e from in
        let before = (on evs e.moment x stands (All-front (IsFrom m) evs (e ∷ []) from)).0 last in
        (λ high. subst (λ es. Stands f p es e.moment z) (append_assoc old evs (e ∷ [])) (takes (old ++ evs) e x z before does), λ low. absurd (omega (arith, low, last)))

  -- What follows is of the events `old`, none after the moment m, after which the transaction stands in idle alone.
  module _ (old : List MachineEvent) (m : ℕ) (only : (x : Owing X) → Stands f p old m x → x ≡ quiet f.idle) (past : All (IsTo m) old) where
    -- the transaction stands in idle at each moment, where there is no event
    new : (k : ℕ) → Stands f p [] k (quiet f.idle)
    new k = waits [] 0 k (quiet f.idle) begins zero-le (lasts k)

    -- where old events leave the transaction in idle alone, a run over them and later events is a run over the later ones alone
    off : (all : List MachineEvent) (k : ℕ) (y : Owing X) → Stands f p all k y → m ≤ k → (more : List MachineEvent) → all ≡ old ++ more → All (IsFrom m) more → Stands f p more k y
    -- a run that has only begun has taken no event
    off all k y begins high more is from = subst (λ es. Stands f p es 0 (quiet f.idle)) (second old more is) begins
      where
        -- where two lists together are empty, the second is
        second : (xs ys : List MachineEvent) → [] ≡ xs ++ ys → [] ≡ ys
        second [] ys e = e
        second (x ∷ xs) ys e = absurd (cc)
    off all k y (waits evs h n x stands low lasting) high more is from = go (dec_le m h) (λ late. off evs h x stands late more is from)
      where
        -- where the run is not at m yet, no later event was taken
        none : (ys : List MachineEvent) → evs ≡ old ++ ys → All (IsFrom m) ys → h < m → ys ≡ []
        none ys are later early = by (empty_or_last ys)
          where
            -- there are no later events
            by : (ys ≡ []) ⊎ ((front : List MachineEvent) × (e : MachineEvent) × (ys ≡ front ++ e ∷ [])) → ys ≡ []
            by (inl e) = e
            -- a last one would come at m or later, as all later events do, and not after h, where the run stands; but h is before m
            by (inr (front, e, is_last)) =
                let whole : evs ≡ (old ++ front) ++ e ∷ [] = are ∙ ap (λ zs. old ++ zs) is_last ∙ sym (append_assoc old front (e ∷ [])) in
                let to = All-middle (IsTo h) (old ++ front) [] e (subst (All (IsTo h)) whole (events_to evs h x stands)) in
                let at = All-middle (IsFrom m) front [] e (subst (All (IsFrom m)) is_last later) in
                absurd (omega (arith, to, at, early))

        -- a run over the later events stands at n, whether the wait begins at m or later, or before it
        go : Dec (m ≤ h) → (m ≤ h → Stands f p more h x) → Stands f p more n x
        go (yes late) before = waits more h n x (before late) low lasting
        go (no early) before =
            -- the wait begins before m: there is no later event, so the run over the old events stands at m in x, which is idle and as new
            let nil : more ≡ [] = none more is from (omega (arith, early)) in
            let here : Stands f p old m x = waits old h m x (subst (λ es. Stands f p es h x) (is ∙ ap (λ ys. old ++ ys) nil ∙ append-nil old) stands) (omega (arith, early)) (lasts_earlier f p x m n high lasting) in
            subst (λ es. Stands f p es n x) (sym nil) (subst (Stands f p [] n) (sym (only x here)) (new n))
    -- the run ends or takes an event in its last step: it is taken off, and the run before it goes on from m
    off all k y (ends evs h x stands may) high more is from = ends more h x (off evs h x stands high more is from) may
    off all k y (takes evs e x z stands does) high more is from = go (empty_or_last more) (λ front are later. off evs e.moment x stands high front are later)
      where
        -- the run over the later events stands in z at e, whether e is the last of them or there are none
        go : (more ≡ []) ⊎ ((front : List MachineEvent) × (d : MachineEvent) × (more ≡ front ++ d ∷ [])) → ((front : List MachineEvent) → evs ≡ old ++ front → All (IsFrom m) front → Stands f p front e.moment x) → Stands f p more e.moment z
        -- there is no later event, so e is the last of the old ones, at the moment m
        go (inl nil) before =
            -- all events are old ones, so e is not after m; and z is idle, which is where a new run begins
            let whole : evs ++ e ∷ [] ≡ old = is ∙ ap (λ ys. old ++ ys) nil ∙ append-nil old in
            let to = All-middle (IsTo m) evs [] e (subst (All (IsTo m)) (sym whole) past) in
            let same : e.moment ≡ m = omega (arith, to, high) in
            let here : Stands f p old m z = subst (λ n. Stands f p old n z) same (subst (λ es. Stands f p es e.moment z) whole (takes evs e x z stands does)) in
            subst (λ es. Stands f p es e.moment z) (sym nil) (subst (Stands f p [] e.moment) (sym (only z here)) (new e.moment))
        -- d is the last one, and it is e
        go (inr (front, d, are)) before =
            let both = same_from_push evs (old ++ front) e d (is ∙ ap (λ ys. old ++ ys) are ∙ sym (append_assoc old front (d ∷ []))) in
            let later : All (IsFrom m) front = All-front (IsFrom m) front (d ∷ []) (subst (All (IsFrom m)) are from) in
            subst (λ es. Stands f p es e.moment z) (sym are) (subst (λ g. Stands f p (front ++ g ∷ []) e.moment z) both.1 (takes front e x z (before front both.0 later) does))

-- where a transaction is idle again after old events, it stands over old and later events just where it stands over the later ones
-- m is the moment between old and later events, and k the moment at which the run stands in y
pub idle_is_new : (kind : MachineKind) (p : Times) (old more : List MachineEvent) (m k : ℕ) (y : Owing (transaction_of kind).Phase) → IsIdleAgain kind p old m → All (λ e. e.moment ≤ m) old → All (λ e. m ≤ e.moment) more
    → m ≤ k → Stands (transaction_of kind).figure p (old ++ more) k y ↔ Stands (transaction_of kind).figure p more k y
idle_is_new kind p old more m k y again past from high =
    let f = (transaction_of kind).figure in (
      λ stands. off f p (idle_lasts kind p) (idle_stays kind p) old m again.1 past (old ++ more) k y stands high more refl from,
      λ stands. (on f p (idle_lasts kind p) (idle_stays kind p) old m again.0 more k y stands from).0 high,
    )
