-- Laws of debts of the code, of what they stand for, and of moments up to their deadlines.
-- In the lemmas c and d are debts and ds others; a, b and c, as Bools, are what is asked of them, and as texts a and b are two books.
-- o and os are the first debt of the definitions and the others, and m is a deadline.
use Rattle.std.specs.Prelude.{◌≡◌, ◌≤◌, ◌↔◌, ◌&&◌, ◌||◌, ℕ, Bool, true, false, is_some, IsTrue, List, [], ◌∷◌, ◌++◌, All, Contains, filter, map, nat_le}
use Rattle.std.specs.List.{list_any}
use Rattle.std.proofs.Common.{refl, sym, ap, ap₂, arith, cond, true≢false}
use Rattle.std.proofs.lemmas.Bool.Decides.{nat_tests}
use Rattle.std.proofs.lemmas.List.Elements.{All-head, All-tail, All-nil, All-cons, All-filter, All-map, All-append, All-weaker, Contains-append_right}
use Rattle.sip_ledger.specs.declared.debt.Debt.{Debt}
use Rattle.sip_times.specs.Limits.{IsWithin}
use Rattle.sip_phases.specs.Texts.{Texts, IsBook, Keeps, text_of}
use Rattle.sip_standard.specs.Debts.{Owed, softened, IsWithoutFirst}
use Rattle.sip_phases.specs.Deadlines.{unexpired, must_deadlines}
use Rattle.sip_ledger.specs.Debts.{earliest, counts_at, softened_debt, is_payable, debt_deadlines}
use Rattle.sip_phases.specs.Owes.{owed_seen, owes_seen, owes_names}
use Rattle.sip_phases.proofs.debts.DebtLaws.{filter-map, All-front, All-back, All-without, IsWithin-earliest}

-- where two tests pass together, each does
pub both_true : (a b : Bool) → (a && b) ≡ true → (a ≡ true) × (b ≡ true)
both_true true b e = (refl, e)
both_true false b e = absurd (true≢false (sym e))

-- debts with the same data are the same one
debt_same : (c d : Debt) → c.message ≡ d.message → c.deadline ≡ d.deadline → c.must ≡ d.must → c ≡ d
debt_same c d message deadline must =
    let e : record { message = c.message; deadline = c.deadline; must = c.must } ≡ d = rw (message, deadline, must) in e

-- debts that stand for the same beside one book are the same; lists of different lengths never stand for the same
pub owes_apart : (texts : Texts) (xs ys : List Debt) → IsBook texts → All (Keeps texts) (owes_names xs) →
    All (Keeps texts) (owes_names ys) → owes_seen texts xs ≡ owes_seen texts ys → xs ≡ ys
owes_apart texts [] [] book x_known y_known e = refl
owes_apart texts [] (y ∷ ys) book x_known y_known e = cc
owes_apart texts (x ∷ xs) [] book x_known y_known e = cc
-- the first debts stand for the same, and so do the others
owes_apart texts (x ∷ xs) (y ∷ ys) book x_known y_known e =
    let here : owed_seen texts x ≡ owed_seen texts y = cc in
    let rest : owes_seen texts xs ≡ owes_seen texts ys = cc in
    let x_kept = All-head (Keeps texts) x.message (owes_names xs) x_known in
    let y_kept = All-head (Keeps texts) y.message (owes_names ys) y_known in
    -- the book tells the messages of x and y apart, so they are one message, and the two debts are the same
    let same = debt_same x y (book.apart x.message y.message x_kept y_kept (ap (λ o. o.message) here)) (ap (λ o. o.deadline) here) (ap (λ o. o.must) here) in
    ap₂ (λ z zs. z ∷ zs) same (owes_apart texts xs ys book (All-tail (Keeps texts) x.message (owes_names xs) x_known)
    (All-tail (Keeps texts) y.message (owes_names ys) y_known) rest)

-- debts stand for the same beside books that agree on their messages
pub owes_seen_by_names : (a b : Texts) (xs : List Debt) →
    ((n : ℕ) → Contains (owes_names xs) n → text_of a n ≡ text_of b n) → owes_seen a xs ≡ owes_seen b xs
owes_seen_by_names a b [] agree = refl
owes_seen_by_names a b (x ∷ xs) agree =
    let here : text_of a x.message ≡ text_of b x.message = agree x.message (0, omega arith, refl) in
    ap₂ (λ z zs. z ∷ zs) (ap (λ (text : List ℕ). record { message = text; deadline = x.deadline; must = x.must }) here)
    (owes_seen_by_names a b xs (λ n has. agree n (Contains-append_right (x.message ∷ []) (owes_names xs) n has)))

-- where a list of messages owed and a list of debts have the same deadlines, they do so with one more of the same deadline before both
-- o is the message owed before os, and d the debt before ds; b says whether they are there
cond-deadlines : (b : Bool) (o : Owed) (d : Debt) (os : List Owed) (ds : List Debt) → o.deadline ≡ d.deadline →
    map (λ o. o.deadline) os ≡ map (λ d. d.deadline) ds →
    map (λ o. o.deadline) (cond b (o ∷ os) os) ≡ map (λ d. d.deadline) (cond b (d ∷ ds) ds)
cond-deadlines true o d os ds same more = ap₂ (λ m ms. m ∷ ms) same more
cond-deadlines false o d os ds same more = more

-- the deadlines of what debts stand for that must be sent are those of the debts that must be
pub must_deadlines-seen : (texts : Texts) (ds : List Debt) → must_deadlines (owes_seen texts ds) ≡ debt_deadlines ds
must_deadlines-seen texts [] = refl
must_deadlines-seen texts (d ∷ ds) =
    cond-deadlines d.must (owed_seen texts d) d (filter (λ o. o.must) (owes_seen texts ds)) (filter (λ d. d.must) ds) refl (must_deadlines-seen texts ds)

-- where others have an earliest deadline exactly if c, they and a debt that must be sent if b have one exactly if b or c
is_some-cond : (b c : Bool) (d : Debt) (ds : List Debt) → is_some (earliest (map (λ d. d.deadline) ds)) ≡ c →
    is_some (earliest (map (λ d. d.deadline) (cond b (d ∷ ds) ds))) ≡ (b || c)
is_some-cond true c d ds e = refl
is_some-cond false c d ds e = e

-- debts have an earliest deadline that must be met exactly if something of what they stand for must be sent
pub is_some-deadlines : (texts : Texts) (ds : List Debt) → is_some (earliest (debt_deadlines ds)) ≡ list_any (λ o. o.must) (owes_seen texts ds)
is_some-deadlines texts [] = refl
is_some-deadlines texts (d ∷ ds) =
    is_some-cond d.must (list_any (λ o. o.must) (owes_seen texts ds)) d (filter (λ d. d.must) ds) (is_some-deadlines texts ds)

-- the debts that still count at t are seen as what is still owed at t of all that the debts are seen as
pub unexpired-seen : (t : ℕ) (texts : Texts) (ds : List Debt) → unexpired t (owes_seen texts ds) ≡ owes_seen texts (filter (counts_at t) ds)
unexpired-seen t texts ds = filter-map (owed_seen texts) (λ owed. owed.must || nat_le t owed.deadline) ds

-- what softened debts of the code mean is what they mean, softened
pub softened-seen : (texts : Texts) (ds : List Debt) → softened (owes_seen texts ds) ≡ owes_seen texts (map softened_debt ds)
softened-seen texts [] = refl
softened-seen texts (d ∷ ds) = ap (λ os. record { message = text_of texts d.message; deadline = d.deadline; must = false } ∷ os) (softened-seen texts ds)

-- what must be sent has no deadline before t
abbrev pub AreDue : ℕ → List Owed → Type 0
AreDue t owes = All (λ owed. owed.must ≡ true → t ≤ owed.deadline) owes

-- where t is not after the deadlines of what is owed, it is not after that of the first, if that must be sent, nor after those of the others
-- o is what is owed first, os are the others, and b says whether o is there
due-front : (t : ℕ) (b : Bool) (o : Owed) (os : List Owed) → All (λ m. t ≤ m) (map (λ o. o.deadline) (cond b (o ∷ os) os)) →
    (b ≡ true → t ≤ o.deadline) × All (λ m. t ≤ m) (map (λ o. o.deadline) os)
due-front t true o os all =
    (λ _. All-head (λ m. t ≤ m) o.deadline (map (λ o. o.deadline) os) all, All-tail (λ m. t ≤ m) o.deadline (map (λ o. o.deadline) os) all)
due-front t false o os all = (λ e. absurd (true≢false (sym e)), all)

-- where t is not after the deadline of what is owed first, if that must be sent, nor after those of the others, it is not after those of all
-- o is what is owed first, os are the others, and b says whether o is there
due-more : (t : ℕ) (b : Bool) (o : Owed) (os : List Owed) → (b ≡ true → t ≤ o.deadline) → All (λ m. t ≤ m) (map (λ o. o.deadline) os) →
    All (λ m. t ≤ m) (map (λ o. o.deadline) (cond b (o ∷ os) os))
due-more t true o os here more = All-cons (λ m. t ≤ m) o.deadline (map (λ o. o.deadline) os) (here refl) more
due-more t false o os here more = more

-- t is not after a deadline of what must be sent exactly if what must be sent has no deadline before t
pub AreDue-deadlines : (t : ℕ) (owes : List Owed) → All (λ m. t ≤ m) (must_deadlines owes) ↔ AreDue t owes
AreDue-deadlines t [] = (λ _. All-nil (λ owed. owed.must ≡ true → t ≤ owed.deadline), λ _. All-nil (λ m. t ≤ m))
AreDue-deadlines t (o ∷ os) =
    let more = AreDue-deadlines t os in (
      λ all.
          let front = due-front t o.must o (filter (λ o. o.must) os) all in
          All-cons (λ owed. owed.must ≡ true → t ≤ owed.deadline) o os front.0 (more.0 front.1),
      -- the converse: the first debt is due, and so are the others
      λ due.
          due-more t o.must o (filter (λ o. o.must) os) (All-head (λ owed. owed.must ≡ true → t ≤ owed.deadline) o os due)
          (more.1 (All-tail (λ owed. owed.must ≡ true → t ≤ owed.deadline) o os due)),
    )

-- where what must be sent has no deadline before t, it has none once what has expired is dropped
pub AreDue-unexpired : (t : ℕ) (owes : List Owed) → AreDue t owes → AreDue t (unexpired t owes)
AreDue-unexpired t owes due =
    All-filter (λ owed. owed.must || nat_le t owed.deadline) (λ owed. owed.must ≡ true → t ≤ owed.deadline) owes due

-- where what must be sent has no deadline before t, it has none once a message was paid
pub AreDue-paid : (Satisfies : List ℕ → Type 0) (t : ℕ) (owes left : List Owed) → IsWithoutFirst (λ owed. Satisfies owed.message × (t ≤ owed.deadline)) owes left → AreDue t owes → AreDue t left
AreDue-paid Satisfies t owes left pays due =
    All-without (λ owed. Satisfies owed.message × (t ≤ owed.deadline)) (λ owed. owed.must ≡ true → t ≤ owed.deadline) owes left pays due

-- what only may be sent has no deadline that must be met
pub AreDue-softened : (t : ℕ) (owes : List Owed) → AreDue t (softened owes)
AreDue-softened t owes =
    All-map (λ owed. owed.must ≡ true → t ≤ owed.deadline) (λ owed. record { message = owed.message; deadline = owed.deadline; must = false })
    owes (λ k d low e. absurd (true≢false (sym e)))

-- a moment is within a limit exactly if it is past no timer and no deadline of what has to be sent
pub IsWithin-owed : (t : ℕ) (timers : List ℕ) (owes : List Owed) →
    IsWithin t (earliest (timers ++ must_deadlines owes)) ↔ (All (λ m. t ≤ m) timers × AreDue t owes)
IsWithin-owed t timers owes =
    let all = IsWithin-earliest t (timers ++ must_deadlines owes) in
    let due = AreDue-deadlines t owes in (
      λ within. (All-front (λ m. t ≤ m) timers (must_deadlines owes) (all.0 within), due.0 (All-back (λ m. t ≤ m) timers (must_deadlines owes) (all.0 within))),
      λ h. all.1 (All-append (λ m. t ≤ m) timers (must_deadlines owes) h.0 (due.1 h.1)),
    )

-- a debt can be paid by a send of the number n exactly if its message has the same bytes and its deadline is not before t
payable-seen : (texts : Texts) (n t : ℕ) → IsBook texts → Keeps texts n → (d : Debt) → Keeps texts d.message →
    IsTrue (is_payable n t d) ↔ ((text_of texts d.message ≡ text_of texts n) × (t ≤ d.deadline))
payable-seen texts n t book kept d d_kept = (
  λ payable.
      let message : d.message ≡ n = grind (arith, nat_tests) in
      let in_time : t ≤ d.deadline = grind (arith, nat_tests) in
      (ap (text_of texts) message, in_time),
  -- the converse: equal bytes have one number
  λ pays.
      let message : d.message ≡ n = book.apart d.message n d_kept kept pays.0 in
      let in_time = pays.1 in
      grind (arith, nat_tests),
)

-- what holds of the numbers that debts name holds of the message of each debt
pub All-names : (P : ℕ → Type 0) (ds : List Debt) → All P (owes_names ds) → All (λ d. P d.message) ds
All-names P [] all = All-nil (λ d. P d.message)
All-names P (d ∷ ds) all =
    All-cons (λ d. P d.message) d ds (All-head P d.message (owes_names ds) all) (All-names P ds (All-tail P d.message (owes_names ds) all))

-- each debt can be paid by a send of the number n exactly if its message has the same bytes and its deadline is not before t
pub payables-seen : (texts : Texts) (n t : ℕ) (ds : List Debt) → IsBook texts → Keeps texts n → All (Keeps texts) (owes_names ds) →
    All (λ d. IsTrue (is_payable n t d) ↔ ((text_of texts d.message ≡ text_of texts n) × (t ≤ d.deadline))) ds
payables-seen texts n t ds book kept known =
    All-weaker (λ d. Keeps texts d.message) (λ d. IsTrue (is_payable n t d) ↔ ((text_of texts d.message ≡ text_of texts n) × (t ≤ d.deadline)))
    (payable-seen texts n t book kept) ds (All-names (Keeps texts) ds known)
