-- A run has one with a wider tolerance, in the same phase, whose debts are owed for longer, and with perhaps more debts that only may be sent.
-- In the lemmas os are debts of the run and ns those by the wider tolerance, o and n one of each; x is a phase, k the kind of a message, and h a moment or
-- what is known of a row.
-- In cases of `Emits` a message that is sent has a row (`row`, `is_row`, `to`), or pays a debt (`left`, `paid`), or changes nothing (`stays`,
-- `same`), which only the INVITE server by RFC 3261 alone lets it (Stays). In cases of `Steps` a message that is received has a row, or has none and
-- changes nothing (`none`, `same`), and a restart leaves idle as it is (`idle`) and ends any other phase (`other`).
use Rattle.std.proofs.Common.{◌≡◌, ◌≤◌, ◌||◌, inl, inr, ℕ, Bool, true, false, IsSomeAnd, IfSome, List, [], ◌∷◌, ◌++◌, All, Contains, filter, refl, sym, ap, subst, ◌∙◌, arith, if◌then◌else◌}
use Rattle.std.specs.Prelude.{nat_le}
use Rattle.std.specs.List.{list_any}
use Rattle.std.proofs.lemmas.List.Elements.{All-nil, All-cons, All-head, All-tail, All-filter, All-weaker, All-contains, Contains-append_left, filter_passes}
use Rattle.std.proofs.lemmas.Bool.{le-leb, leb-true}
use Rattle.sip_standard.specs.declared.action.Action.{Action}
use Rattle.sip_standard.specs.declared.action.Action.TheVariants.{Sent, Received, Failed, Mark, Restart}
use Rattle.sip_standard.specs.declared.kind.Kind.{Kind}
use Rattle.sip_standard.specs.Times.{Times}
use Rattle.sip_standard.specs.Window.{close_at}
use Rattle.sip_standard.specs.MachineEvent.{MachineEvent}
use Rattle.sip_standard.specs.Debts.{Owed, softened, IsWithoutFirst}
use Rattle.sip_standard.specs.Figure.{Figure, Change, keeps, softens, drops, gains, Owing, changed, quiet, Emits, Fails, Steps, Takes, Lasts, MayEnd}
use Rattle.sip_standard.specs.Stands.{Stands, begins, waits, ends, takes}
use Rattle.sip_states.proofs.lists.Listed.{Contains-there}
use Rattle.consequences.specs.Tolerance.{tolerant, AreOneKind}
use Rattle.consequences.proofs.lemmas.run.Lists.{contains-here}
use Rattle.consequences.proofs.lemmas.run.Running.{left_at}
use Rattle.consequences.proofs.lemmas.tolerance.Moments.{IsMoreTolerant}

-- the second list has the debts of the first, with deadlines that are no earlier, and perhaps more that only may be sent
data Later : List Owed → List Owed → Type 0 where
  -- both lists are empty
  nothing : Later [] []
  -- o is a debt of the first list, whose others are os, and n one of the second, whose others are ns
  both : (o n : Owed) (os ns : List Owed) → n.message ≡ o.message → n.must ≡ o.must → o.deadline ≤ n.deadline → Later os ns → Later (o ∷ os) (n ∷ ns)
  -- n is a debt that the second list alone has
  extra : (n : Owed) (os ns : List Owed) → n.must ≡ false → Later os ns → Later os (n ∷ ns)

-- Later stays true where later debts are added after those of both lists
later-append : (os ns more others : List Owed) → Later os ns → Later more others → Later (os ++ more) (ns ++ others)
later-append _ _ more others nothing later = later
later-append _ _ more others (both o n os ns message must deadline rest) later = both o n (os ++ more) (ns ++ others) message must deadline (later-append os ns more others rest later)
later-append _ _ more others (extra n os ns may rest) later = extra n (os ++ more) (ns ++ others) may (later-append os ns more others rest later)

-- Later stays true where both lists are softened
later-softened : (os ns : List Owed) → Later os ns → Later (softened os) (softened ns)
later-softened _ _ nothing = nothing
later-softened _ _ (both o n os ns message must deadline rest) =
    both (record { message = o.message; deadline = o.deadline; must = false }) (record { message = n.message; deadline = n.deadline; must = false }) (softened os) (softened ns) message refl deadline
    (later-softened os ns rest)
later-softened _ _ (extra n os ns may rest) = extra (record { message = n.message; deadline = n.deadline; must = false }) (softened os) (softened ns) refl (later-softened os ns rest)

-- the debt is still owed at this moment: it must be sent, or its deadline is not past
abbrev keep_at : ℕ → Owed → Bool
keep_at t = λ o. o.must || nat_le t o.deadline

-- what is at most one number is at most a larger one
nat-le-weaker : (t a b : ℕ) → a ≤ b → nat_le t a ≡ true → nat_le t b ≡ true
nat-le-weaker t a b low is = let before = leb-true t a is in le-leb t b (omega (arith, low, before))

-- Later stays true where the debts that are past are left out of both lists
-- os and ns are the two lists, and t is the moment
later-left : (t : ℕ) (os ns : List Owed) → Later os ns → Later (filter (keep_at t) os) (filter (keep_at t) ns)
later-left t _ _ nothing = nothing
later-left t _ _ (both o n os ns message must deadline rest) = by (keep_at t o) refl (keep_at t n) refl (later-left t os ns rest)
  where
    -- where the first debt is kept at t, so is the second
    kept : keep_at t o ≡ true → keep_at t n ≡ true
    kept is = by-must o.must n.must must is
      where
        -- a and b say whether o and n must be sent: a debt that must be, or whose deadline is not past, is kept by the wider tolerance too
        by-must : (a b : Bool) → b ≡ a → (a || nat_le t o.deadline) ≡ true → (b || nat_le t n.deadline) ≡ true
        by-must true true same is = refl
        by-must true false same is = absurd cc
        by-must false true same is = refl
        by-must false false same is = nat-le-weaker t o.deadline n.deadline deadline is

    -- where the first debt is left out, the second need not be sent
    may : keep_at t o ≡ false → n.must ≡ false
    may is = must ∙ by-must o.must is
      where
        -- a says whether o must be sent: what is left out need not be
        by-must : (a : Bool) → (a || nat_le t o.deadline) ≡ false → a ≡ false
        by-must true is = is
        by-must false is = refl

    true-false : ¬ (true ≡ false)
    true-false same = cc

    -- the second list of what is kept is later than the first, whether or not each of the first debts is kept, which a and b say
    -- both debts are kept, or the second alone, which then only may be sent, or neither; the first is not kept alone
    by : (a : Bool) → keep_at t o ≡ a → (b : Bool) → keep_at t n ≡ b → Later (filter (keep_at t) os) (filter (keep_at t) ns)
        → Later (if a then o ∷ filter (keep_at t) os else filter (keep_at t) os) (if b then n ∷ filter (keep_at t) ns else filter (keep_at t) ns)
    by true is true same later = both o n (filter (keep_at t) os) (filter (keep_at t) ns) message must deadline later
    by true is false same later = absurd (true-false (sym (kept is) ∙ same))
    by false is true same later = extra n (filter (keep_at t) os) (filter (keep_at t) ns) (may is) later
    by false is false same later = later
later-left t _ _ (extra n os ns may rest) = by (keep_at t n) (later-left t os ns rest)
  where
    -- the second list of what is kept is later than the first, whether or not the debt that only the second has is kept, which b says
    by : (b : Bool) → Later (filter (keep_at t) os) (filter (keep_at t) ns) → Later (filter (keep_at t) os) (if b then n ∷ filter (keep_at t) ns else filter (keep_at t) ns)
    by true later = extra n (filter (keep_at t) os) (filter (keep_at t) ns) may later
    by false later = later

-- where no debt that must be sent is past in the first list, none is in the second
-- os and ns are the two lists, and t is the moment
later-due : (t : ℕ) (os ns : List Owed) → Later os ns → All (λ o. o.must ≡ true → t ≤ o.deadline) os → All (λ o. o.must ≡ true → t ≤ o.deadline) ns
later-due t _ _ nothing due = due
-- n is owed for longer than o, and must be sent where o must
later-due t _ _ (both o n os ns message must deadline rest) due =
    All-cons (λ o. o.must ≡ true → t ≤ o.deadline) n ns (λ is. let low = All-head (λ o. o.must ≡ true → t ≤ o.deadline) o os due (sym must ∙ is) in omega (arith, low, deadline))
    (later-due t os ns rest (All-tail (λ o. o.must ≡ true → t ≤ o.deadline) o os due))
-- n may be sent, and so is never due
later-due t _ _ (extra n os ns may rest) due = All-cons (λ o. o.must ≡ true → t ≤ o.deadline) n ns (λ is. absurd (true-false (sym is ∙ may))) (later-due t os ns rest due)
  where
    true-false : ¬ (true ≡ false)
    true-false same = cc

-- some debt must be sent in the second list exactly where some must in the first
later-must : (os ns : List Owed) → Later os ns → list_any (λ o. o.must) ns ≡ list_any (λ o. o.must) os
later-must _ _ nothing = refl
later-must _ _ (both o n os ns message must deadline rest) = rw (must, later-must os ns rest) refl
later-must _ _ (extra n os ns may rest) = rw (may, later-must os ns rest) refl

-- What follows is of paying.

-- the second list is the first one without its first element of which P holds
data Without (P : Owed → Type 0) : List Owed → List Owed → Type 0 where
  -- P holds of the first element, which is left out; or it does not, and one after it is left out
  here : (o : Owed) (os : List Owed) → P o → Without P (o ∷ os) os
  passes : (o : Owed) (os left : List Owed) → ¬ (P o) → Without P os left → Without P (o ∷ os) (o ∷ left)

-- Without holds where IsWithoutFirst holds
to-without : (P : Owed → Type 0) (os left : List Owed) → IsWithoutFirst P os left → Without P os left
to-without P os left pays =
    subst (λ xs. Without P xs left) (sym pays.whole) (subst (Without P (pays.before ++ pays.first ∷ pays.after)) (sym pays.rest) (by pays.before pays.none_before))
  where
    -- what is left without the first debt of which P holds is the debts before it and those after it
    by : (before : List Owed) → All (λ o. ¬ (P o)) before → Without P (before ++ pays.first ∷ pays.after) (before ++ pays.after)
    by [] none = here pays.first pays.after pays.holds
    by (o ∷ os) none = passes o (os ++ pays.first ∷ pays.after) (os ++ pays.after) (All-head (λ o. ¬ (P o)) o os none) (by os (All-tail (λ o. ¬ (P o)) o os none))

-- IsWithoutFirst holds where Without holds
from-without : (P : Owed → Type 0) (os left : List Owed) → Without P os left → IsWithoutFirst P os left
from-without P _ _ (here o os holds) = record { before = []; first = o; after = os; whole = refl; holds = holds; none_before = All-nil (λ o. ¬ (P o)); rest = refl }
from-without P _ _ (passes o os left never rest) =
    let more = from-without P os left rest in
    -- the first debt of which P holds is that of the rest
    record {
      before = o ∷ more.before;
      first = more.first;
      after = more.after;
      whole = ap (λ xs. o ∷ xs) more.whole;
      holds = more.holds;
      none_before = All-cons (λ o. ¬ (P o)) o more.before never more.none_before;
      rest = ap (λ xs. o ∷ xs) more.rest;
    }

-- What follows is of a send at the moment t: S holds of the messages that it satisfies.
module _ (S : List ℕ → Type 0) (t : ℕ) where
  -- the send pays for the debt: it satisfies the message, and the deadline is not past
  abbrev Pays : Owed → Type 0
  Pays = λ o. S o.message × (t ≤ o.deadline)

  -- where the first list pays a debt, the second stays later without paying, if none that the send satisfies must be sent
  stays-extra : (os left ns : List Owed) → Without Pays os left → Later os ns → All (λ n. S n.message → n.must ≡ false) ns → Later left ns
  -- where there are no debts, none is paid
  stays-extra _ left _ without nothing may = elim without [ ]
  -- the first debt is paid: its twin in the second list stays there as one more, since it only may be sent
  stays-extra _ _ _ (here o os pays) (both o' n os' ns message must deadline rest) may =
      extra n os ns (All-head (λ n. S n.message → n.must ≡ false) n ns may (subst S (sym message) pays.0)) rest
  -- a debt that only the second list has stays there, and so does one before the debt that is paid
  stays-extra _ left _ without (extra n os ns is_may rest) may = extra n left ns is_may (stays-extra os left ns without rest (All-tail (λ n. S n.message → n.must ≡ false) n ns may))
  stays-extra _ _ _ (passes o os left never without) (both o' n os' ns message must deadline rest) may =
      both o n left ns message must deadline (stays-extra os left ns without rest (All-tail (λ n. S n.message → n.must ≡ false) n ns may))

  -- where no debt is past, the second list pays as well and stays later, if it is decided which of the debts that only may be sent
  -- the send satisfies, and it never satisfies one of them together with one that must be sent
  also-pays : (os left ns : List Owed) → Without Pays os left → Later os ns → All (λ o. t ≤ o.deadline) os → All (λ n. t ≤ n.deadline) ns
      → All (λ n. n.must ≡ false → Dec (S n.message)) ns → ((n : Owed) → Contains ns n → n.must ≡ false → S n.message → All (λ k. S k.message → k.must ≡ false) ns)
      → (others : List Owed) × Without Pays ns others × Later left others
  -- where there are no debts, none is paid
  also-pays _ left _ without nothing fresh opens tell apart = elim without [ ]
  -- the first debts of both lists are alike, and the send pays the first one
  also-pays _ _ _ (here o os pays) (both o' n os' ns message must deadline rest) fresh opens tell apart =
      let low = pays.1 in (ns, here n ns (subst S (sym message) pays.0, omega (arith, low, deadline)), rest)
  -- the send pays a later debt of both lists
  also-pays _ _ _ (passes o os left never without) (both o' n os' ns message must deadline rest) fresh opens tell apart =
      let more = also-pays os left ns without rest (All-tail (λ o. t ≤ o.deadline) o os fresh) (All-tail (λ n. t ≤ n.deadline) n ns opens) (All-tail (λ n. n.must ≡ false → Dec (S n.message)) n ns tell)
      (λ k among may pays. All-tail (λ j. S j.message → j.must ≡ false) n ns (apart k (Contains-there n ns k among) may pays)) in
      (n ∷ more.0, passes n ns more.0 (λ pays. never (subst S message pays.0, All-head (λ o. t ≤ o.deadline) o os fresh)) more.1, both o n left more.0 message must deadline more.2)
  -- the second list has a debt more, which the send may satisfy
  also-pays os left _ without (extra n os' ns may rest) fresh opens tell apart = by (All-head (λ n. n.must ≡ false → Dec (S n.message)) n ns tell may) (also-pays os left ns without rest fresh
      (All-tail (λ n. t ≤ n.deadline) n ns opens) (All-tail (λ n. n.must ≡ false → Dec (S n.message)) n ns tell)
      (λ k among may pays. All-tail (λ j. S j.message → j.must ≡ false) n ns (apart k (Contains-there n ns k among) may pays)))
    where
      -- the second list without the debt that is paid is later than the first, whether or not the send satisfies the debt that only the second has
      by : Dec (S n.message) → (others : List Owed) × Without Pays ns others × Later left others → (others : List Owed) × Without Pays (n ∷ ns) others × Later left others
      by (yes pays) more = (
        ns,
        here n ns (pays, All-head (λ n. t ≤ n.deadline) n ns opens),
        stays-extra os left ns without rest (All-tail (λ j. S j.message → j.must ≡ false) n ns (apart n (contains-here [] ns n) may pays)),
      )
      by (no never) more = (n ∷ more.0, passes n ns more.0 (λ pays. never pays.0) more.1, extra n left more.0 may more.2)

-- What follows is of runs.

-- the figure is steady: each row of the times p is one of q, windows open no later and close no earlier, and nothing must be sent earlier
pub record IsSteady {X : Type 0} (f : Figure X) (p q : Times) : Type 0 where
  -- each row of a received or sent message by p is one by q, and no other row receives by q
  pub received : (x : X) (k : Kind) (e : MachineEvent) (row : X × Change) → f.Receives p x k e row → f.Receives q x k e row
  pub received_only : (x : X) (k : Kind) (e : MachineEvent) (row : X × Change) → f.Receives q x k e row → f.Receives p x k e row
  pub sent : (x : X) (k : Kind) (e : MachineEvent) (row : X × Change) → f.Sends p x k e row → f.Sends q x k e row
  -- the window w of a phase is open by q at a moment h at which it is open by p, and is not yet closed by q where it is not yet closed by p
  pub opens : (x : X) (h : ℕ) → IsSomeAnd (f.window p x) (λ w. w.0 ≤ h) → IsSomeAnd (f.window q x) (λ w. w.0 ≤ h)
  pub closes : (x : X) (h : ℕ) → IfSome (f.window p x) (λ w. IfSome w.1 (λ close. h ≤ close)) → IfSome (f.window q x) (λ w. IfSome w.1 (λ close. h ≤ close))
  -- where nothing must be sent before h by p, nothing must be sent before it by q
  pub sends_by : (x : X) (h : ℕ) → All (λ last. h ≤ last) (f.sends_by p x) → All (λ last. h ≤ last) (f.sends_by q x)

-- `May` holds of exactly the debts that only may be sent, it is decided which of them a send satisfies, and it satisfies no other with them
pub record IsSorted {X : Type 0} (f : Figure X) (q : Times) (May : List MachineEvent → X → List ℕ → Type 0) : Type 0 where
  pub sorted : (es : List MachineEvent) (m : ℕ) (y : Owing X) → AreOneKind es → Stands f q es m y →
      All (λ o. (o.must ≡ true → ¬ (May es y.phase o.message)) × (o.must ≡ false → May es y.phase o.message)) y.owes
  pub decides : (es : List MachineEvent) (x : X) (k : Kind) (e : MachineEvent) (message : List ℕ) → May es x message → Dec (f.Satisfies x k e message)
  -- a and b are messages that one send of the kind k pays in the phase x: where b may be owed there, so may a
  pub alike : (es : List MachineEvent) (x : X) (k : Kind) (e : MachineEvent) (a b : List ℕ) → f.Satisfies x k e a → f.Satisfies x k e b → May es x b → May es x a

-- a wider tolerance keeps the runs of the figure: it is steady by each, and by any times its debts are sorted, where `May` tells which only may be sent
pub record KeepsRuns {X : Type 0} (f : Figure X) : Type 1 where
  pub May : Times → List MachineEvent → X → List ℕ → Type 0
  pub steady : (p : Times) (early late : ℕ) → IsMoreTolerant p (tolerant early late p) → IsSteady f p (tolerant early late p)
  pub sorted : (p : Times) → IsSorted f p (May p)

-- what follows of an element from two facts holds of all elements of which both hold
-- P and Q are the two facts, and R is what follows
all-both : {A : Type 0} (P Q R : A → Type 0) (xs : List A) → ((x : A) → P x → Q x → R x) → All P xs → All Q xs → All R xs
all-both P Q R xs by ps qs k d low = by _ (ps k d low) (qs k d low)

-- a debt that is still owed when an event comes is not past, where none that must be sent was
fresh-at : {X : Type 0} (e : MachineEvent) (x : Owing X) → All (λ o. o.must ≡ true → e.moment ≤ o.deadline) x.owes → All (λ o. e.moment ≤ o.deadline) (left_at e x)
fresh-at e x due =
    all-both (λ o. o.must ≡ true → e.moment ≤ o.deadline) (λ o. keep_at e.moment o ≡ true) (λ o. e.moment ≤ o.deadline) (left_at e x) (λ o is_due kept. by o o.must refl is_due kept)
    (All-filter (keep_at e.moment) (λ o. o.must ≡ true → e.moment ≤ o.deadline) x.owes due) (filter_passes (keep_at e.moment) x.owes)
  where
    -- the deadline of a debt that is kept is not past: one that must be sent (b says so) is not past, and one that only may be is dropped once it is
    by : (o : Owed) (b : Bool) → o.must ≡ b → (o.must ≡ true → e.moment ≤ o.deadline) → keep_at e.moment o ≡ true → e.moment ≤ o.deadline
    by o true is is_due kept = is_due is
    by o false is is_due kept = leb-true e.moment o.deadline (subst (λ a. (a || nat_le e.moment o.deadline) ≡ true) is kept)

-- What follows is of a machine by two tolerances: its figure f with the times p, and with p where `early` and `late` are the tolerance.
module _ {X : Type 0} (f : Figure X) (p : Times) (early late : ℕ) (wider : p.late ≤ late) (steady : IsSteady f p (tolerant early late p)) where
  -- the times with the wider tolerance
  abbrev q : Times
  q = tolerant early late p

  -- Later stays true where both lists are changed in the same way
  -- c is the change at the moment t, and os and ns are the two lists
  later-changed : (t : ℕ) (c : Change) (os ns : List Owed) → Later os ns → Later (changed p t c os) (changed q t c ns)
  later-changed t keeps os ns later = later
  later-changed t softens os ns later = later-softened os ns later
  later-changed t drops os ns later = nothing
  later-changed t (gains must message) os ns later =
      later-append os ns (record { message = message; deadline = close_at p t 0; must = must } ∷ []) (record { message = message; deadline = close_at q t 0; must = must } ∷ []) later
      (both (record { message = message; deadline = close_at p t 0; must = must }) (record { message = message; deadline = close_at q t 0; must = must }) [] [] refl refl (omega (arith, wider)) nothing)

  -- the two states have one phase, and the debts of the second are later
  abbrev IsNear : Owing X → Owing X → Type 0
  IsNear x y = (y.phase ≡ x.phase) × Later x.owes y.owes

  -- a state that is near to another one is near to what equals it
  -- z equals x, and y is near to x
  near : (x y z : Owing X) → z ≡ x → IsNear x y → IsNear z y
  near x y z same is_near = subst (λ w. IsNear w y) (sym same) is_near

  -- the second state lasts as long as the first
  -- the first state owes os and the second one ns, in the same phase
  near-lasts : (m : ℕ) (phase : X) (os ns : List Owed) → Later os ns → Lasts f p (record { phase = phase; owes = os }) m → Lasts f q (record { phase = phase; owes = ns }) m
  near-lasts m phase os ns later lasts = (steady.closes phase m lasts.0, steady.sends_by phase m lasts.1, later-due m os ns later lasts.2)

  -- the second state may end where the first may
  -- the first state owes os and the second one ns, in the same phase
  near-ends : (h : ℕ) (phase : X) (os ns : List Owed) → Later os ns → MayEnd f p (record { phase = phase; owes = os }) h → MayEnd f q (record { phase = phase; owes = ns }) h
  near-ends h phase os ns later may = (steady.opens phase h may.0, later-must os ns later ∙ may.1)

  -- What follows is of an event e that pays a debt of a phase: os are the debts by the narrower tolerance, ns by the wider one, where each is due as late or
  -- later.
  module _ (e : MachineEvent) (phase : X) (os ns : List Owed) (later : Later os ns)
      (pays : (left : List Owed) → IsWithoutFirst (λ o. f.Satisfies phase e.kind e o.message × (e.moment ≤ o.deadline)) os left →
      (others : List Owed) × IsWithoutFirst (λ o. f.Satisfies phase e.kind e o.message × (e.moment ≤ o.deadline)) ns others × Later left others) where
    -- the first state, by the narrower tolerance
    abbrev before_it : Owing X
    before_it = record { phase = phase; owes = os }

    -- the second state, by the wider tolerance
    abbrev beside_it : Owing X
    beside_it = record { phase = phase; owes = ns }

    -- the second state has such a step, to a state near z
    abbrev Follow-near : Owing X → (Owing X → Type 0) → Type 0
    Follow-near z Step = (w : Owing X) × Step w × IsNear z w

    -- where the first state comes of a row, the second state comes of the same row, and the two are near
    row-near : (z : Owing X) (row : X × Change) → z ≡ record { phase = row.0; owes = changed p e.moment row.1 os } → IsNear z (record { phase = row.0; owes = changed q e.moment row.1 ns })
    row-near z row to = near (record { phase = row.0; owes = changed p e.moment row.1 os }) (record { phase = row.0; owes = changed q e.moment row.1 ns }) z to (refl, later-changed e.moment row.1 os ns later)

    -- where a send leads from the first state to z, it leads from the second to a state near z
    emits-near : (z : Owing X) → Emits f p e before_it z → Follow-near z (Emits f q e beside_it)
    emits-near z (inl (row, is_row, to)) = (record { phase = row.0; owes = changed q e.moment row.1 ns }, inl (row, steady.sent phase e.kind e row is_row, refl), row-near z row to)
    emits-near z (inr (inl (left, paid, to))) =
        let (others, also, less) = pays left paid in
        (record { phase = phase; owes = others }, inr (inl (others, also, refl)), near (record { phase = phase; owes = left }) (record { phase = phase; owes = others }) z to (refl, less))
    emits-near z (inr (inr (stays, same))) = (record { phase = phase; owes = ns }, inr (inr (stays, refl)), near (record { phase = phase; owes = os }) (record { phase = phase; owes = ns }) z same (refl, later))

    -- where a refused message leads from the first state to z, it leads from the second to a state near z
    fails-near : (ends : Bool) (z : Owing X) → Fails ends f p e before_it z → Follow-near z (Fails ends f q e beside_it)
    fails-near true z ((w, emits), to) = let (v, also, is_near) = emits-near w emits in (quiet f.ended, ((v, also), refl), near (quiet f.ended) (quiet f.ended) z to (refl, nothing))
    fails-near false z emits = emits-near z emits

    -- where a step leads from the first state to z, one leads from the second to a state near z
    steps-near : (a : Action) (z : Owing X) → Steps f p a e before_it z → Follow-near z (Steps f q a e beside_it)
    steps-near Received z (inl (row, is_row, to)) =
        (record { phase = row.0; owes = changed q e.moment row.1 ns }, inl (row, steady.received phase e.kind e row is_row, refl), row-near z row to)
    steps-near Received z (inr (none, same)) = (
      record { phase = phase; owes = ns },
      inr (λ w follows. none (record { phase = follows.0.0; owes = changed p e.moment follows.0.1 os }) (follows.0, steady.received_only phase e.kind e follows.0 follows.1, refl), refl),
      near (record { phase = phase; owes = os }) (record { phase = phase; owes = ns }) z same (refl, later),
    )
    -- for a sent or refused message the states are near each other by the lemmas of what it does
    steps-near Sent z emits = emits-near z emits
    steps-near Failed z fails = fails-near (f.ends_refused phase e.kind) z fails
    steps-near Mark z h = absurd h
    -- a restart leads both to the same state
    steps-near Restart z (inl (idle, to)) = (quiet f.idle, inl (idle, refl), near (quiet f.idle) (quiet f.idle) z to (refl, nothing))
    steps-near Restart z (inr (other, to)) = (quiet f.ended, inr (other, refl), near (quiet f.ended) (quiet f.ended) z to (refl, nothing))

  -- where events with equal bytes are of one kind, so are those of the first of the events
  one-kind-front : (es more : List MachineEvent) → AreOneKind (es ++ more) → AreOneKind es
  one-kind-front es more one a b in-a in-b same = one a b (Contains-append_left es more a in-a) (Contains-append_left es more b in-b) same

  -- What follows is of a figure that is steady and whose debts are sorted: May tells which messages may be owed after which events in which phase.
  -- By both tolerances a state in which a run can stand can wait until the moment at which it stands there.
  module _ (May : List MachineEvent → X → List ℕ → Type 0) (is_sorted : IsSorted f q May)
      (lasts : (es : List MachineEvent) (m : ℕ) (x : Owing X) → Stands f p es m x → Lasts f p x m) (lasts-too : (es : List MachineEvent) (m : ℕ) (x : Owing X) → Stands f q es m x → Lasts f q x m) where
    -- a state by the wider tolerance, with the same phase and later debts, stands where this one stands
    abbrev HasNear : List MachineEvent → ℕ → Owing X → Type 0
    HasNear es m x = (phase : X) × (ns : List Owed) × (x.phase ≡ phase) × Stands f q es m (record { phase = phase; owes = ns }) × Later x.owes ns

    -- the debts that are left when an event comes are sorted still
    sorted-left : (es : List MachineEvent) (e : MachineEvent) (y : Owing X) → AreOneKind es → Stands f q es e.moment y →
        All (λ o. (o.must ≡ true → ¬ (May es y.phase o.message)) × (o.must ≡ false → May es y.phase o.message)) (left_at e y)
    sorted-left es e y one beside =
        All-filter (keep_at e.moment) (λ o. (o.must ≡ true → ¬ (May es y.phase o.message)) × (o.must ≡ false → May es y.phase o.message)) y.owes (is_sorted.sorted es e.moment y one beside)

    -- What follows is of one event e after the events es, which leads from the state x to y.
    module _ (es : List MachineEvent) (e : MachineEvent) (x y : Owing X) where
      -- the event satisfies a debt of this message
      abbrev S : List ℕ → Type 0
      S message = f.Satisfies y.phase e.kind e message

      -- the debt is sorted: it must be sent where May does not hold of its message, and need not where it does
      abbrev Sorts : Owed → Type 0
      Sorts o = (o.must ≡ true → ¬ (May es y.phase o.message)) × (o.must ≡ false → May es y.phase o.message)

      -- where a send satisfies a debt that only may be sent, each debt that it satisfies only may be sent
      apart : All Sorts (left_at e y) → (n : Owed) → Contains (left_at e y) n → n.must ≡ false → S n.message → All (λ k. S k.message → k.must ≡ false) (left_at e y)
      apart sorted n among may pays = All-weaker Sorts (λ k. S k.message → k.must ≡ false) (λ k sorts also. by k sorts also k.must refl) (left_at e y) sorted
        where
          -- the message of n may be sent in the phase of y
          is_may : May es y.phase n.message
          is_may = (All-contains Sorts (left_at e y) n sorted among).1 may

          -- a debt that the same send pays only may be sent, since the two are alike
          by : (k : Owed) → Sorts k → S k.message → (b : Bool) → k.must ≡ b → k.must ≡ false
          by k sorts also true is = absurd (sorts.0 is (is_sorted.alike es y.phase e.kind e k.message n.message also pays is_may))
          by k sorts also false is = is

      -- where a send pays a debt of the first state, it pays one of the second, and what is left there is later
      also-pays-here : AreOneKind es → Stands f p es e.moment x → Stands f q es e.moment y → Later x.owes y.owes → (left : List Owed)
          → IsWithoutFirst (λ o. f.Satisfies y.phase e.kind e o.message × (e.moment ≤ o.deadline)) (left_at e x) left
          → (others : List Owed) × IsWithoutFirst (λ o. f.Satisfies y.phase e.kind e o.message × (e.moment ≤ o.deadline)) (left_at e y) others × Later left others
      also-pays-here one stands beside later left pays =
          -- the first state pays of its own debts that last, and leaves `left`; the second pays one too, and leaves `others`, which are later
          let sorted = sorted-left es e y one beside in
          let (others, without, less) = also-pays S e.moment (left_at e x) left (left_at e y) (to-without (λ o. S o.message × (e.moment ≤ o.deadline)) (left_at e x) left pays)
          (later-left e.moment x.owes y.owes later) (fresh-at e x (lasts es e.moment x stands).2) (fresh-at e y (lasts-too es e.moment y beside).2)
          (All-weaker Sorts (λ n. n.must ≡ false → Dec (S n.message)) (λ n sorts may. is_sorted.decides es y.phase e.kind e n.message (sorts.1 may)) (left_at e y) sorted) (apart sorted) in
          (others, from-without (λ o. S o.message × (e.moment ≤ o.deadline)) (left_at e y) others without, less)

    -- where an event leads from a state that has one near it, it leads to a state that has one near it
    also-takes : (es : List MachineEvent) (e : MachineEvent) (x z : Owing X) → AreOneKind es → Stands f p es e.moment x → Takes f p x e z → HasNear es e.moment x → HasNear (es ++ e ∷ []) e.moment z
    also-takes es e x z one stands take (phase, ns, is_phase, beside, later) =
        -- y is the state near x, and w the one near z, to which y is led
        let y : Owing X = record { phase = phase; owes = ns } in
        let (w, steps, is_near) = steps-near e phase (left_at e x) (left_at e y) (later-left e.moment x.owes ns later) (also-pays-here es e x y one stands beside later) e.action z
        (subst (λ a. Steps f p e.action e (record { phase = a; owes = left_at e x }) z) is_phase take) in
        (w.phase, w.owes, sym is_near.0, takes es e y w beside steps, is_near.1)

    -- where a run stands in a state, a run by the wider tolerance stands in a state near it
    has-near : (es : List MachineEvent) (m : ℕ) (x : Owing X) → AreOneKind es → Stands f p es m x → HasNear es m x
    -- both runs begin in idle and owe nothing
    has-near _ _ _ one begins = (f.idle, [], refl, begins, nothing)
    -- where the run waits until m, the run by q waits in the state near it
    has-near _ _ _ one (waits es h m x stands low lasting) =
        let (phase, ns, is_phase, beside, later) = has-near es h x one stands in
        (phase, ns, is_phase, waits es h m (record { phase = phase; owes = ns }) beside low (near-lasts m phase x.owes ns later (subst (λ a. Lasts f p (record { phase = a; owes = x.owes }) m) is_phase lasting)), later)
    -- where the run ends, so does the other
    has-near _ _ _ one (ends es h x stands may) =
        let (phase, ns, is_phase, beside, later) = has-near es h x one stands in
        (f.ended, [], refl, ends es h (record { phase = phase; owes = ns }) beside (near-ends h phase x.owes ns later (subst (λ a. MayEnd f p (record { phase = a; owes = x.owes }) h) is_phase may)), nothing)
    -- where the run takes an event e from z, the other takes it from a state near z
    has-near _ _ _ one (takes es e x z stands take) =
        let before = one-kind-front es (e ∷ []) one in also-takes es e x z before stands take (has-near es e.moment x before stands)

    -- where a run stands, a run by the wider tolerance stands in the same phase
    -- the run stands in x at the moment m, and the other one in y
    pub wider-keeps : (es : List MachineEvent) (m : ℕ) (x : Owing X) → AreOneKind es → Stands f p es m x → (y : Owing X) × Stands f q es m y × (y.phase ≡ x.phase)
    wider-keeps es m x one stands = let found = has-near es m x one stands in (record { phase = found.0; owes = found.1 }, found.3, sym found.2)
