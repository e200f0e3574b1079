-- The steps of the machine of a figure, from the states of the code.
-- In the lemmas x is a state before a step, y one after it, t a moment, and c a change of the debts: they stay, none must be sent any more, none is left,
-- or one is gained.
use Rattle.std.specs.Prelude.{◌≡◌, ◌⊎◌, ◌≤◌, ◌<◌, ◌^◌, ℕ, IsTrue, Bool, true, false, Option, Some, None, List, [], ◌∷◌, ◌++◌, All, filter, length, option_to_list, unwrap_or}
use Rattle.std.specs.Option.{option_map}
use Rattle.std.proofs.Common.{inl, inr, refl, sym, ◌∙◌, ap, ap₂, subst, arith, cond, length-append}
use Rattle.std.proofs.lemmas.Bool.Decides.{nat_tests}
use Rattle.std.proofs.lemmas.List.{map-append}
use Rattle.std.proofs.lemmas.List.Elements.{All-nil, All-head, All-map, All-push, All-filter, All-append, filter-append}
use Rattle.sip_standard.specs.declared.action.Action.{Action}
use Rattle.sip_ledger.specs.declared.debt.Debt.{Debt}
use Rattle.sip_machine.specs.declared.phases.Change.{Change as CodeChange}
use Rattle.sip_machine.specs.declared.phases.Change.TheVariants as code
use Rattle.sip_machine.specs.declared.phases.Turn.{Turn}
use Rattle.sip_machine.specs.declared.effects.Effect.{Effect}
use Rattle.sip_machine.specs.declared.effects.Rest.{Rest}
use Rattle.sip_machine.specs.declared.effects.Rest.TheVariants as resting
use Rattle.sip_standard.specs.Times.{Times}
use Rattle.sip_standard.specs.Window.{close_at}
use Rattle.sip_machine.specs.Limits.{IsWithin}
use Rattle.sip_machine.specs.Texts.{Texts, Keeps}
use Rattle.sip_standard.specs.MachineEvent.{MachineEvent}
use Rattle.sip_machine.specs.Rules.{Knows}
use Rattle.sip_machine.specs.inner.Effects.{OrStays, Hears, Rests, unexpired_at, led_by, repaid_at, rests_at, quiets, given_by}
use Rattle.sip_standard.specs.Debts.{Owed, IsWithoutFirst, softened}
use Rattle.sip_machine.specs.Deadlines.{unexpired}
use Rattle.sip_machine.specs.Owes.{owed_seen, owes_seen, owes_names, OwesInRange}
use Rattle.sip_standard.specs.Figure.{Figure, Change, keeps, softens, drops, gains, Owing, changed, quiet, Follows, Repays, Emits, Fails, Restarts, Steps}
use Rattle.sip_machine.specs.FigureRules.{IsFigure, After, TakeOf, until_of}
use Rattle.sip_machine.specs.inner.Turns.{led_to, change_seen, change_names, turn_seen, turn_names, TurnInRange, changed_debts}
use Rattle.sip_machine.specs.Owing.{CodeOwing, owing_seen, owing_names, OwingInRange}
use Rattle.sip_machine.specs.inner.Single.{IsTheOne, AnswersOne}
use Rattle.sip_machine.specs.inner.Both.{AnswersBoth}
use Rattle.sip_ledger.specs.Debts.{counts_at, softened_debt, paid_by}
use Rattle.sip_machine.specs.inner.Paying.{PaysFor, FindsFirst}
use Rattle.sip_phases.proofs.debts.DebtLaws.{IsWithoutFirst-none, IsWithoutFirst-map, IsWithoutFirst-same, All-without, All-front, All-back}
use Rattle.sip_phases.proofs.debts.OwesLaws.{unexpired-seen, softened-seen, All-names}
use Rattle.sip_machine.proofs.texts.TextLaws.{Contains-nil}
use Rattle.sip_machine.proofs.steps.SingleLemmas.{StandFor-none, StandFor-one}
use Rattle.sip_machine.proofs.steps.BothLemmas.{StandFor-same, AnswersBoth-one, AnswersBoth-two, OrStays-one}

-- where the book keeps the message of each debt, it keeps what the debts name
names-kept : (texts : Texts) (ds : List Debt) → All (λ d. Keeps texts d.message) ds → All (Keeps texts) (owes_names ds)
names-kept texts ds kept = All-map (Keeps texts) (λ d. d.message) ds kept

-- the debts of the code after a row stand for the debts that the row leaves of what they stood for
changed-seen : (p : Times) (texts : Texts) (t : ℕ) (c : CodeChange) (owes : List Debt) →
    changed p t (change_seen texts c) (owes_seen texts owes) ≡ owes_seen texts (changed_debts p t c owes)
changed-seen p texts t code.Keeps owes = refl
changed-seen p texts t code.Softens owes = softened-seen texts owes
changed-seen p texts t code.Drops owes = refl
changed-seen p texts t (code.Gains must message) owes =
    sym (map-append (owed_seen texts) owes (record { message = message; deadline = close_at p t 0; must = must } ∷ []))

-- where the book keeps the messages of debts, and those that a row names, it keeps those of the debts after the row
changed-known : (p : Times) (texts : Texts) (t : ℕ) (c : CodeChange) (owes : List Debt) → All (Keeps texts) (change_names c) →
    All (Keeps texts) (owes_names owes) → All (λ d. Keeps texts d.message) (changed_debts p t c owes)
changed-known p texts t code.Keeps owes here known = All-names (Keeps texts) owes known
changed-known p texts t code.Softens owes here known = All-map (λ d. Keeps texts d.message) softened_debt owes (All-names (Keeps texts) owes known)
changed-known p texts t code.Drops owes here known = All-nil (λ d. Keeps texts d.message)
changed-known p texts t (code.Gains must message) owes here known =
    All-push (λ d. Keeps texts d.message) owes (record { message = message; deadline = close_at p t 0; must = must })
    (All-names (Keeps texts) owes known) (All-head (Keeps texts) message [] here)

-- the deadlines of the debts after a row are in range
changed-in_range : (p : Times) (t : ℕ) (c : CodeChange) (owes : List Debt) → close_at p t 0 < 2 ^ 50 → OwesInRange owes →
    OwesInRange (changed_debts p t c owes)
changed-in_range p t code.Keeps owes small fits = fits
changed-in_range p t code.Softens owes small fits = All-map (λ d. d.deadline < 2 ^ 50) softened_debt owes fits
changed-in_range p t code.Drops owes small fits = All-nil (λ d. d.deadline < 2 ^ 50)
changed-in_range p t (code.Gains must message) owes small fits =
    All-push (λ d. d.deadline < 2 ^ 50) owes (record { message = message; deadline = close_at p t 0; must = must }) fits small

-- a row drops the debts, or leaves at least as many
changed-length : (p : Times) (t : ℕ) (c : Change) (owes : List Owed) → (c ≡ drops) ⊎ (length owes ≤ length (changed p t c owes))
changed-length p t keeps owes = inr (omega arith)
changed-length p t softens owes = inr (softened-length owes)
  where
    -- softened debts are as many as before
    softened-length : (owes : List Owed) → length owes ≤ length (softened owes)
    softened-length [] = omega arith
    softened-length (o ∷ os) = let more = softened-length os in omega (arith, more)
changed-length p t drops owes = inl refl
changed-length p t (gains must message) owes =
    let longer = length-append owes (record { message = message; deadline = close_at p t 0; must = must } ∷ []) in inr (omega (arith, longer))

-- a list without the first element of which P holds is shorter than the list
without-length : {X : Type 0} (P : X → Type 0) (xs ys : List X) → IsWithoutFirst P xs ys → length ys < length xs
without-length P xs ys a = grind (arith, nat_tests, length-append)

-- a sent message that has a row and one that pays what is owed lead to different states
Follows-Repays : {X : Type 0} (f : Figure X) (is : IsFigure f) (p : Times) (e : MachineEvent) (x y : Owing X) → Follows (f.Sends p x.phase e.kind e) p e x y → Repays f e x y → ⊥
Follows-Repays f is p e x y row pays = by_length (changed-length p e.moment (row.0).1 x.owes)
  where
    -- a row that drops the debts leads to another phase, and any other row leaves more debts than a payment does
    by_length : ((row.0).1 ≡ drops) ⊎ (length x.owes ≤ length (changed p e.moment (row.0).1 x.owes)) → ⊥
    by_length (inl drop) = is.sent_leaves p x.phase e.kind e row.0 row.1 (inl drop) (ap (λ z. z.phase) (sym row.2 ∙ pays.2))
    by_length (inr more) =
        let fewer = without-length (λ owed. f.Satisfies x.phase e.kind e owed.message × (e.moment ≤ owed.deadline)) x.owes pays.0 pays.1 in
        let same : changed p e.moment (row.0).1 x.owes ≡ pays.0 = ap (λ z. z.owes) (sym row.2 ∙ pays.2) in
        let size = ap length same in
        absurd (omega (arith, more, fewer, size))

-- a sent message that has a row and one that changes nothing lead to different states
-- x is the state before the event e, and y the one after it
Follows-Stays : {X : Type 0} (f : Figure X) (is : IsFigure f) (p : Times) (e : MachineEvent) (x y : Owing X) → Follows (f.Sends p x.phase e.kind e) p e x y →
    f.Stays x.phase e.kind × (y ≡ x) → ⊥
Follows-Stays f is p e x y row stays = is.sent_leaves p x.phase e.kind e row.0 row.1 (inr stays.0) (ap (λ z. z.phase) (sym row.2 ∙ stays.1))

-- where P holds of some state, the end is the only state to which the end of P leads
ends-some : {X S : Type 0} (names : S → List ℕ) (InRange : S → Type 0) (seen : Texts → S → X) (texts : Texts) (P : X → Type 0) (end : S) →
    Knows names texts end → InRange end → (z : X) × P z →
    AnswersBoth names InRange seen texts (λ y. ((z : X) × P z) × (y ≡ seen texts end)) (Some end, None)
ends-some {X} names InRange seen texts P end known fits some =
    StandFor-one names InRange seen texts (λ y. ((z : X) × P z) × (y ≡ seen texts end)) end
    (record { only = λ y. (λ h. h.1, λ e. (some, e)); known = known; in_range = fits })

-- where P holds of no state, the end of P leads nowhere
ends-none : {X S : Type 0} (names : S → List ℕ) (InRange : S → Type 0) (seen : Texts → S → X) (texts : Texts) (P Q : X → Type 0) →
    AnswersBoth {S = S} names InRange seen texts P (None, None) →
    AnswersBoth {S = S} names InRange seen texts (λ y. ((z : X) × P z) × Q y) (None, None)
ends-none {X} names InRange seen texts P Q both =
    StandFor-none names InRange seen texts (λ y. ((z : X) × P z) × Q y) (λ y h. Contains-nil (h.0).0 ((both.members (h.0).0).1 (h.0).1))

-- a debt whose deadline is not before t counts at t
counts-may : (t : ℕ) (d : Debt) → t ≤ d.deadline → IsTrue (counts_at t d)
counts-may t d low = grind (arith, nat_tests)

-- a list without the first element of which P holds, where those pass a test, is such a list when both are filtered by the test
IsWithoutFirst-filter : {X : Type 0} (p : X → Bool) (P : X → Type 0) (xs ys : List X) → ((x : X) → P x → p x ≡ true) → IsWithoutFirst P xs ys →
    IsWithoutFirst P (filter p xs) (filter p ys)
IsWithoutFirst-filter p P xs ys passes a =
    -- what stands before the first, the first itself, and what follows it are filtered each
    record {
      before = filter p a.before;
      first = a.first;
      after = filter p a.after;
      whole = ap (filter p) a.whole ∙ filter-append p a.before (a.first ∷ a.after)
          ∙ ap (λ b. filter p a.before ++ cond b (a.first ∷ filter p a.after) (filter p a.after)) (passes a.first a.holds);
      -- P holds of the first, and still of none before it
      holds = a.holds;
      none_before = All-filter p (λ x. ¬ (P x)) a.before a.none_before;
      rest = ap (filter p) a.rest ∙ filter-append p a.before a.after;
    }

-- What follows is of one state of the code by the figure f with the times p: `seen` gives what a phase stands for beside the book `texts`,
-- `names` gives the numbers that it names, and InRange says that they are in range.
module _ {S X : Type 0} (f : Figure X) (p : Times) (seen : Texts → S → X) (names : S → List ℕ) (InRange : S → Type 0) (texts : Texts) where
  -- where a row of the code leads to a turn alone, the state that the turn gives is the only one to which the row leads
  led-one : (Row : After X → Type 0) (e : MachineEvent) (x : CodeOwing S) (turn : Turn S) →
      IsTheOne (turn_names names) (TurnInRange InRange) (turn_seen seen) texts Row turn → Knows (owing_names names) texts x → OwingInRange InRange x →
      close_at p e.moment 0 < 2 ^ 50 →
      IsTheOne (owing_names names) (OwingInRange InRange) (owing_seen seen) texts (Follows Row p e (owing_seen seen texts x))
      (record x { phase = turn.phase; owes = changed_debts p e.moment turn.change x.owes })
  led-one Row e x turn one known fits small =
      let after = turn_seen seen texts turn in
      -- the code's state stands for the state to which the turn leads
      let there : led_to p e.moment (owes_seen texts x.owes) after
      ≡ owing_seen seen texts (record x { phase = turn.phase; owes = changed_debts p e.moment turn.change x.owes })
      = ap (λ (owes : List Owed). record { phase = seen texts turn.phase; owes = owes }) (changed-seen p texts e.moment turn.change x.owes) in
      -- the book has the messages of what was owed, and the one that the turn gains, if it gains one
      let owes_known = All-back (Keeps texts) (names x.phase) (owes_names x.owes) known in
      let here = All-back (Keeps texts) (names turn.phase) (change_names turn.change) one.known in
      -- the state is the only one, the book has what it names, and it is in range
      record {
        only = λ y. (
          λ h. h.2 ∙ ap (led_to p e.moment (owes_seen texts x.owes)) ((one.only h.0).0 h.1) ∙ there,
          λ same. (after, (one.only after).1 refl, same ∙ sym there),
        );
        -- the book has what the new phase names and the messages of the debts after the change, and the moments are in range
        known = All-append (Keeps texts) (names turn.phase) (owes_names (changed_debts p e.moment turn.change x.owes))
            (All-front (Keeps texts) (names turn.phase) (change_names turn.change) one.known)
            (names-kept texts (changed_debts p e.moment turn.change x.owes) (changed-known p texts e.moment turn.change x.owes here owes_known));
        in_range = (one.in_range, changed-in_range p e.moment turn.change x.owes small fits.1);
      }

  -- where a received message has no row, the state itself is the only one to which it leads
  stays-one : (Row : After X → Type 0) (e : MachineEvent) (x : CodeOwing S) → ((y : After X) → Row y → ⊥) → Knows (owing_names names) texts x →
      OwingInRange InRange x →
      IsTheOne (owing_names names) (OwingInRange InRange) (owing_seen seen) texts (OrStays (Follows Row p e (owing_seen seen texts x)) (owing_seen seen texts x)) x
  stays-one Row e x none known fits = grind (arith, nat_tests)

  -- where the first debt that a message pays is taken out, the state that is left is the only one to which the payment leads
  repaid-one : (e : MachineEvent) (x : CodeOwing S) (left : List Debt) → Knows (owing_names names) texts x → OwingInRange InRange x →
      IsWithoutFirst (PaysFor (f.Satisfies (seen texts x.phase) e.kind e) texts e.moment) x.owes left →
      IsTheOne (owing_names names) (OwingInRange InRange) (owing_seen seen) texts (Repays f e (owing_seen seen texts x)) (record x { owes = left })
  repaid-one e x left known fits paid =
      let Q = PaysFor (f.Satisfies (seen texts x.phase) e.kind e) texts e.moment in
      let P = λ (owed : Owed). f.Satisfies (seen texts x.phase) e.kind e owed.message × (e.moment ≤ owed.deadline) in
      -- the debts that are left are the only ones without the first that is paid
      let pays = IsWithoutFirst-map (owed_seen texts) Q P x.owes left (λ k d low. (λ h. h, λ h. h)) paid in
      let owes_known = All-names (Keeps texts) x.owes (All-back (Keeps texts) (names x.phase) (owes_names x.owes) known) in
      record {
        only = λ y. (
          λ h. h.2 ∙ ap (λ (owes : List Owed). record { phase = seen texts x.phase; owes = owes })
              (IsWithoutFirst-same P (owes_seen texts x.owes) h.0 (owes_seen texts left) h.1 pays),
          λ same. (owes_seen texts left, pays, same),
        );
        -- the book has what the state names, and it is in range
        known = All-append (Keeps texts) (names x.phase) (owes_names left) (All-front (Keeps texts) (names x.phase) (owes_names x.owes) known)
            (names-kept texts left (All-without Q (λ d. Keeps texts d.message) x.owes left paid owes_known));
        in_range = (fits.0, All-without Q (λ d. d.deadline < 2 ^ 50) x.owes left paid fits.1);
      }

  -- where no debt can be paid, a message pays none
  repaid-none : (e : MachineEvent) (x : CodeOwing S) → All (λ debt. ¬ (PaysFor (f.Satisfies (seen texts x.phase) e.kind e) texts e.moment debt)) x.owes →
      (y : Owing X) → Repays f e (owing_seen seen texts x) y → ⊥
  repaid-none e x unpaid y h =
      let P = λ (owed : Owed). f.Satisfies (seen texts x.phase) e.kind e owed.message × (e.moment ≤ owed.deadline) in
      IsWithoutFirst-none P (owes_seen texts x.owes) h.0 (All-map (λ owed. ¬ (P owed)) (owed_seen texts) x.owes unpaid) h.1

  -- the states that a sent message gives are the one to which its row leads and the one that rests, where they are
  emitted-both : (is : IsFigure f) (e : MachineEvent) (x : CodeOwing S) (sent rested : Option (CodeOwing S)) →
      AnswersOne (owing_names names) (OwingInRange InRange) (owing_seen seen) texts
      (Follows (f.Sends p (seen texts x.phase) e.kind e) p e (owing_seen seen texts x)) sent →
      AnswersOne (owing_names names) (OwingInRange InRange) (owing_seen seen) texts (Rests f e (owing_seen seen texts x)) rested →
      AnswersBoth (owing_names names) (OwingInRange InRange) (owing_seen seen) texts (Emits f p e (owing_seen seen texts x)) (sent, rested)
  emitted-both is e x sent rested one other =
      let here = owing_seen seen texts x in
      let Row = f.Sends p (seen texts x.phase) e.kind e in
      -- no state is both led and at rest
      AnswersBoth-two (owing_names names) (OwingInRange InRange) (owing_seen seen) texts (Follows Row p e here) (Rests f e here)
      (λ y row rest. elim rest [ inl pays ↦ Follows-Repays f is p e here y row pays | inr stays ↦ Follows-Stays f is p e here y row stays ])
      sent rested one other

  -- a message that may leave the state as it is pays nothing, so that the state is the only one at rest
  rests-stays : (is : IsFigure f) (e : MachineEvent) (x : CodeOwing S) → f.Stays (seen texts x.phase) e.kind →
      Knows (owing_names names) texts x → OwingInRange InRange x →
      IsTheOne (owing_names names) (OwingInRange InRange) (owing_seen seen) texts (Rests f e (owing_seen seen texts x)) x
  rests-stays is e x stays known fits = grind (arith, nat_tests)

  -- where a message may not leave the state as it is, it rests only where it pays, so that an answer for the payment is one for the rest
  rests-repaid : (e : MachineEvent) (x : CodeOwing S) → ¬ (f.Stays (seen texts x.phase) e.kind) → (repaid : Option (CodeOwing S)) →
      AnswersOne (owing_names names) (OwingInRange InRange) (owing_seen seen) texts (Repays f e (owing_seen seen texts x)) repaid →
      AnswersOne (owing_names names) (OwingInRange InRange) (owing_seen seen) texts (Rests f e (owing_seen seen texts x)) repaid
  rests-repaid e x moves None none = λ y h. elim h [ inl pays ↦ none y pays | inr stays ↦ moves stays.0 ]
  -- the state can rest only by a payment
  rests-repaid e x moves (Some s) one = record {
    only = λ y. (
      λ h. elim h [ inl pays ↦ (one.only y).0 pays | inr stays ↦ absurd (moves stays.0) ],
      λ same. inl ((one.only y).1 same),
    );
    known = one.known;
    in_range = one.in_range;
  }

  -- where the book keeps the messages of a state, it keeps those of the state without what has expired
  known-at : (t : ℕ) (x : CodeOwing S) → Knows (owing_names names) texts x → Knows (owing_names names) texts (unexpired_at t x)
  known-at t x known =
      All-append (Keeps texts) (names x.phase) (owes_names (filter (counts_at t) x.owes)) (All-front (Keeps texts) (names x.phase) (owes_names x.owes) known)
      (names-kept texts (filter (counts_at t) x.owes) (All-filter (counts_at t) (λ d. Keeps texts d.message) x.owes
      (All-names (Keeps texts) x.owes (All-back (Keeps texts) (names x.phase) (owes_names x.owes) known))))

  -- a state in range is in range without what has expired
  in_range-at : (t : ℕ) (x : CodeOwing S) → OwingInRange InRange x → OwingInRange InRange (unexpired_at t x)
  in_range-at t x fits = (fits.0, All-filter (counts_at t) (λ d. d.deadline < 2 ^ 50) x.owes fits.1)

  -- where a turn answers the row of a sent message, the state that it gives answers where the row leads without what has expired
  -- without a turn there is no row; with one, the state that it leads to is that of the row, from the state without what has expired
  pub led-at : (e : MachineEvent) (x : CodeOwing S) (turn : Option (Turn S)) →
      AnswersOne (turn_names names) (TurnInRange InRange) (turn_seen seen) texts (f.Sends p (seen texts x.phase) e.kind e) turn →
      Knows (owing_names names) texts x → OwingInRange InRange x → close_at p e.moment 0 < 2 ^ 50 →
      AnswersOne (owing_names names) (OwingInRange InRange) (owing_seen seen) texts
      (Follows (f.Sends p (seen texts x.phase) e.kind e) p e (owing_seen seen texts (unexpired_at e.moment x)))
      (option_map (λ turn. led_by p e.moment turn x) turn)
  led-at e x None none known fits small = λ y row. none row.0 row.1
  led-at e x (Some turn) one known fits small =
      led-one (f.Sends p (seen texts x.phase) e.kind e) e (unexpired_at e.moment x) turn one (known-at e.moment x known) (in_range-at e.moment x fits) small

  -- where the first debt that a message pays is found, the state that has paid it, without what has expired, answers the payment
  repaid-at : (e : MachineEvent) (x : CodeOwing S) (paid : Option ℕ) →
      FindsFirst (PaysFor (f.Satisfies (seen texts x.phase) e.kind e) texts e.moment) e.moment x.owes paid →
      Knows (owing_names names) texts x → OwingInRange InRange x →
      AnswersOne (owing_names names) (OwingInRange InRange) (owing_seen seen) texts
      (Repays f e (owing_seen seen texts (unexpired_at e.moment x))) (option_map (λ message. repaid_at e.moment message x) paid)
  repaid-at e x None none known fits =
      -- P holds of a debt that the message pays; it holds of none that has not expired
      let P = PaysFor (f.Satisfies (seen texts x.phase) e.kind e) texts e.moment in
      repaid-none e (unexpired_at e.moment x) (All-filter (counts_at e.moment) (λ debt. ¬ (P debt)) x.owes none)
  -- the first debt that is paid is also the first among those that have not expired
  repaid-at e x (Some message) finds known fits =
      let P = PaysFor (f.Satisfies (seen texts x.phase) e.kind e) texts e.moment in
      repaid-one e (unexpired_at e.moment x) (filter (counts_at e.moment) (paid_by message e.moment x.owes)) (known-at e.moment x known) (in_range-at e.moment x fits)
      (IsWithoutFirst-filter (counts_at e.moment) P x.owes (paid_by message e.moment x.owes) (λ debt pays. counts-may e.moment debt pays.1) finds)

  -- a message that may leave the state as it is leaves it at rest, without what has expired
  pub rested-stays : (is : IsFigure f) (e : MachineEvent) (x : CodeOwing S) → f.Stays (seen texts x.phase) e.kind →
      Knows (owing_names names) texts x → OwingInRange InRange x →
      AnswersOne (owing_names names) (OwingInRange InRange) (owing_seen seen) texts (Rests f e (owing_seen seen texts (unexpired_at e.moment x)))
      (Some (rests_at e.moment resting.Stays x))
  rested-stays is e x stays known fits = rests-stays is e (unexpired_at e.moment x) stays (known-at e.moment x known) (in_range-at e.moment x fits)

  -- a message that may not leave the state as it is leaves at rest the state that has paid the debt that is found
  -- where no debt is found nothing is paid, and where the message of one is found, its state has paid it
  pub rested-pays : (e : MachineEvent) (x : CodeOwing S) → ¬ (f.Stays (seen texts x.phase) e.kind) → (paid : Option ℕ) →
      FindsFirst (PaysFor (f.Satisfies (seen texts x.phase) e.kind e) texts e.moment) e.moment x.owes paid →
      Knows (owing_names names) texts x → OwingInRange InRange x →
      AnswersOne (owing_names names) (OwingInRange InRange) (owing_seen seen) texts (Rests f e (owing_seen seen texts (unexpired_at e.moment x)))
      (option_map (λ rest. rests_at e.moment rest x) (option_map resting.Pays paid))
  rested-pays e x moves None finds known fits = rests-repaid e (unexpired_at e.moment x) moves None (repaid-at e x None finds known fits)
  rested-pays e x moves (Some message) finds known fits =
      rests-repaid e (unexpired_at e.moment x) moves (Some (repaid_at e.moment message x)) (repaid-at e x (Some message) finds known fits)

  -- the states that an effect gives stand for exactly those of which P holds
  abbrev pub Gives : (Owing X → Type 0) → ℕ → CodeOwing S → Effect S → Type 0
  Gives P t x effect = AnswersBoth (owing_names names) (OwingInRange InRange) (owing_seen seen) texts P (given_by p t x effect)

  -- the state to which a received message leads by its row, or else the state itself, is the only one to which it leads
  -- without a row the state stays as it is, but for what has expired; with one, the row leads on
  pub heard-one : (e : MachineEvent) (x : CodeOwing S) (turn : Option (Turn S)) →
      AnswersOne (turn_names names) (TurnInRange InRange) (turn_seen seen) texts (f.Receives p (seen texts x.phase) e.kind e) turn →
      Knows (owing_names names) texts x → OwingInRange InRange x → close_at p e.moment 0 < 2 ^ 50 →
      IsTheOne (owing_names names) (OwingInRange InRange) (owing_seen seen) texts (Hears f p e (owing_seen seen texts (unexpired_at e.moment x)))
      (led_by p e.moment (unwrap_or turn (record { phase = x.phase; change = code.Keeps })) x)
  heard-one e x None none known fits small =
      let now = unexpired_at e.moment x in
      stays-one (f.Receives p (seen texts x.phase) e.kind e) e now none (known-at e.moment x known) (in_range-at e.moment x fits)
  -- where the message has a row, the state follows it and does not stay
  heard-one e x (Some turn) one known fits small =
      -- `now` is the state without what has expired, and `there` where the row leads it
      let now = unexpired_at e.moment x in
      let there = led_by p e.moment turn x in
      let Row = f.Receives p (seen texts x.phase) e.kind e in
      let led = led-one Row e now turn one (known-at e.moment x known) (in_range-at e.moment x fits) small in
      record {
        only = OrStays-one (Follows Row p e (owing_seen seen texts now)) (owing_seen seen texts now) (owing_seen seen texts there) led.only;
        known = led.known;
        in_range = led.in_range;
      }

  -- the effect of a received message gives the one state to which it leads
  pub heard : (e : MachineEvent) (x : CodeOwing S) (turn : Option (Turn S)) →
      AnswersOne (turn_names names) (TurnInRange InRange) (turn_seen seen) texts (f.Receives p (seen texts x.phase) e.kind e) turn →
      Knows (owing_names names) texts x → OwingInRange InRange x → close_at p e.moment 0 < 2 ^ 50 →
      Gives (Hears f p e (owing_seen seen texts (unexpired_at e.moment x))) e.moment x
      (record { turn = Some (unwrap_or turn (record { phase = x.phase; change = code.Keeps })); rest = None })
  heard e x turn one known fits small =
      -- by its row, or as it is where there is none
      AnswersBoth-one (owing_names names) (OwingInRange InRange) (owing_seen seen) texts (Hears f p e (owing_seen seen texts (unexpired_at e.moment x)))
      (Some (led_by p e.moment (unwrap_or turn (record { phase = x.phase; change = code.Keeps })) x)) (heard-one e x turn one known fits small)

  -- the effect of a sent message gives the state to which its row leads, and the one that rests
  pub emitted : (is : IsFigure f) (e : MachineEvent) (x : CodeOwing S) (turn : Option (Turn S)) (rest : Option Rest) →
      AnswersOne (turn_names names) (TurnInRange InRange) (turn_seen seen) texts (f.Sends p (seen texts x.phase) e.kind e) turn →
      AnswersOne (owing_names names) (OwingInRange InRange) (owing_seen seen) texts (Rests f e (owing_seen seen texts (unexpired_at e.moment x)))
      (option_map (λ rest. rests_at e.moment rest x) rest) →
      Knows (owing_names names) texts x → OwingInRange InRange x → close_at p e.moment 0 < 2 ^ 50 →
      Gives (Emits f p e (owing_seen seen texts (unexpired_at e.moment x))) e.moment x (record { turn = turn; rest = rest })
  emitted is e x turn rest one other known fits small =
      -- the row's state and the one that rests are those from the state without what has expired
      emitted-both is e (unexpired_at e.moment x) (option_map (λ turn. led_by p e.moment turn x) turn) (option_map (λ rest. rests_at e.moment rest x) rest)
      (led-at e x turn one known fits small) other

  -- where a refusal does not end the transaction, a refused message has the effect of a sent one
  pub refused-emits : (e : MachineEvent) (x : CodeOwing S) (effect : Effect S) → f.ends_refused (seen texts x.phase) e.kind ≡ false →
      Gives (Emits f p e (owing_seen seen texts (unexpired_at e.moment x))) e.moment x effect →
      Gives (Fails (f.ends_refused (seen texts x.phase) e.kind) f p e (owing_seen seen texts (unexpired_at e.moment x))) e.moment x effect
  refused-emits e x effect is gives = rw is gives

  -- where a refusal ends the transaction, and a sent message would have a step, the effect of a refused one is the end
  pub refused-ends : (e : MachineEvent) (x : CodeOwing S) (end : S) → f.ends_refused (seen texts x.phase) e.kind ≡ true → seen texts end ≡ f.ended →
      (names end ≡ []) × InRange end → (z : Owing X) × Emits f p e (owing_seen seen texts (unexpired_at e.moment x)) z →
      Gives (Fails (f.ends_refused (seen texts x.phase) e.kind) f p e (owing_seen seen texts (unexpired_at e.moment x))) e.moment x (quiets end)
  refused-ends e x end is stands fits some = grind (arith, nat_tests, ends-some, All-nil)

  -- where a refusal ends the transaction, and a sent message would have no step, a refused one has none
  pub refused-none : (e : MachineEvent) (x : CodeOwing S) (effect : Effect S) → f.ends_refused (seen texts x.phase) e.kind ≡ true →
      (effect.turn ≡ None) × (effect.rest ≡ None) → Gives (Emits f p e (owing_seen seen texts (unexpired_at e.moment x))) e.moment x effect →
      Gives (Fails (f.ends_refused (seen texts x.phase) e.kind) f p e (owing_seen seen texts (unexpired_at e.moment x))) e.moment x effect
  refused-none e x effect is nothing gives =
      -- `here` is the state without what has expired, and the effect is none; so the refusal, which ends the transaction, has no step either
      let here = owing_seen seen texts (unexpired_at e.moment x) in
      let none : effect ≡ record { turn = None; rest = None }
      = ap₂ (λ (turn : Option (Turn S)) (rest : Option Rest). record { turn = turn; rest = rest }) nothing.0 nothing.1 in
      let left = ends-none (owing_names names) (OwingInRange InRange) (owing_seen seen) texts (Emits f p e here) (λ y. y ≡ quiet f.ended)
      (subst (Gives (Emits f p e here) e.moment x) none gives) in
      rw is (subst (Gives (Fails true f p e here) e.moment x) (sym none) left)

  -- where an effect that gives the states of P is not empty, P holds of some state: of the one to which the turn leads, or else of the one that rests
  pub has_step : (P : Owing X → Type 0) (t : ℕ) (x : CodeOwing S) (turn : Option (Turn S)) (rest : Option Rest) →
      ((turn ≡ None) × (rest ≡ None) → ⊥) → Gives P t x (record { turn = turn; rest = rest }) → (z : Owing X) × P z
  has_step P t x None None some gives = absurd (some (refl, refl))
  has_step P t x None (Some rest) some gives =
      let z = owing_seen seen texts (rests_at t rest x) in (z, (gives.members z).0 (0, omega arith, refl))
  has_step P t x (Some turn) rest some gives =
      let z = owing_seen seen texts (led_by p t turn x) in (z, (gives.members z).0 (0, omega arith, refl))

  -- a restart ends a transaction that has begun, with nothing owed
  pub restarted-ended : (t : ℕ) (x : CodeOwing S) (end : S) → ¬ (seen texts x.phase ≡ f.idle) → seen texts end ≡ f.ended → (names end ≡ []) × InRange end →
      Gives (Restarts f (owing_seen seen texts (unexpired_at t x))) t x (quiets end)
  restarted-ended t x end other stands fits = grind (arith, nat_tests, AnswersBoth-one, All-nil)

  -- where a state lasts until the event, an effect that gives the steps of the state without what has expired gives its takes
  pub taken : (a : Action) (e : MachineEvent) (x : CodeOwing S) (effect : Effect S) → e.action ≡ a →
      IsWithin e.moment (until_of f p (owing_seen seen texts x)) → Gives (Steps f p a e (owing_seen seen texts (unexpired_at e.moment x))) e.moment x effect →
      Gives (TakeOf f p (owing_seen seen texts x) e) e.moment x effect
  taken a e x effect is within gives =
      -- `at` is the state for which the code's stands, without what has expired
      let at : Owing X = record { phase = seen texts x.phase; owes = unexpired e.moment (owes_seen texts x.owes) } in
      let here : owing_seen seen texts (unexpired_at e.moment x) ≡ at
      = ap (λ (owes : List Owed). record { phase = seen texts x.phase; owes = owes }) (sym (unexpired-seen e.moment texts x.owes)) in
      let next = given_by p e.moment x effect in
      StandFor-same (owing_names names) (OwingInRange InRange) (owing_seen seen) texts (Steps f p a e (owing_seen seen texts (unexpired_at e.moment x)))
      (TakeOf f p (owing_seen seen texts x) e)
      -- what it takes are its steps, since it lasts until the event
      (λ y. (
        λ h. (within, subst (λ b. Steps f p b e at y) (sym is) (subst (λ z. Steps f p a e z y) here h)),
        λ h. subst (λ z. Steps f p a e z y) (sym here) (subst (λ b. Steps f p b e at y) is h.1),
      ))
      (option_to_list next.0 ++ option_to_list next.1) gives
