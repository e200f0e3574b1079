-- Lemmas of quiet sets: each waits for ever, and a restart of the element leaves it as it is.
use Rattle.std.proofs.Common.{◌≡◌, ◌≤◌, ◌<◌, ◌^◌, ◌⊎◌, ◌↔◌, ◌∙◌, inl, inr, ℕ, None, [], ◌∷◌, Contains, map, refl, sym, ap, subst, arith}
use Rattle.std.proofs.lemmas.List.Elements.{All-nil, All-cons}
use Rattle.sip_standard.specs.declared.action.Action.TheVariants.{Restart}
use Rattle.sip_standard.specs.Times.{Times}
use Rattle.sip_machine.specs.Texts.{Texts}
use Rattle.sip_standard.specs.MachineEvent.{MachineEvent}
use Rattle.sip_machine.specs.Rules.{MachineRules, IsLawful, StandFor, Knows}
use Rattle.sip_standard.specs.Figure.{Figure, Owing, quiet, Restarts, Steps}
use Rattle.sip_states.specs.Waits.{Wait, RunGives}
use Rattle.sip_states.specs.Held.{Held}
use Rattle.sip_standard.specs.KeyMachine.{MachineKind, transaction_of}
use Rattle.sip_states.specs.inner.KeySets.{CodeOwingOf, meaning_of}
use Rattle.sip_states.specs.KeyRules.{OwingOf, key_rules}
use Rattle.sip_states.proofs.keyed.KeySetLaws.{coded_holds}
use Rattle.sip_states.specs.AnySet.{IsQuietIn}
use Rattle.sip_states.proofs.sets.Waiting.{IsWithin-none, IsOpenAt-none}
use Rattle.sip_states.proofs.keyed.ByMachine.{first_of, last_of, first_is_of, last_is_of, first_knows, last_knows, lawful_of}
use Rattle.sip_states.proofs.lists.Listed.{Contains-single}

-- a state that a restart led to is left as it is by a second restart
-- the first restart leads from x to y, which is the idle state or the ended one, and the second one from y to z
pub restarts_once : {X : Type 0} (f : Figure X) (x y z : Owing X) → Restarts f x y → Restarts f y z → z ≡ y
restarts_once f x y z (inl (idle, y_is)) (inl (same, z_is)) = z_is ∙ sym y_is
restarts_once f x y z (inl (idle, y_is)) (inr (other, z_is)) = absurd (other (ap (λ s. s.phase) y_is))
restarts_once f x y z (inr (busy, y_is)) (inl (same, z_is)) = z_is ∙ ap quiet (sym same ∙ ap (λ s. s.phase) y_is) ∙ sym y_is
restarts_once f x y z (inr (busy, y_is)) (inr (other, z_is)) = z_is ∙ sym y_is

-- What follows is of a state q without an end and without a last moment, by the rules r of a machine.
module _ {X : Type 0} (r : MachineRules X) (lawful : IsLawful r) (q : X) (endless : r.window q ≡ None) (stays : r.until q ≡ None) where
  -- where one stands in a state without an end and without a last moment alone, one stands in it alone at any later moment
  -- C holds of the states at the moment h, of which q is the only one, and y is a state at the later moment n
  pub wait_still : (C : X → Type 0) → ((x : X) → C x ↔ (x ≡ q)) → (h n : ℕ) → h ≤ n → (y : X) → Wait r C h n y ↔ (y ≡ q)
  wait_still C only h n low y = (
    go,
    λ same. inl (record { among = (only y).1 same; reached = low; waits = IsWithin-none n (r.until y) (ap r.until same ∙ stays) }),
  )
    where
      -- the wait leads to q, whether the state stays or ends: q has no end
      go : Wait r C h n y → y ≡ q
      go (inl stay) = (only y).0 stay.among
      go (inr end) = absurd (IsOpenAt-none end.at (r.window end.start) (ap r.window ((only end.start).0 end.among) ∙ endless) end.hides.opened)

-- a restart leads from the idle state, where nothing is owed, to itself alone
idle_restarts : {X : Type 0} (f : Figure X) (y : Owing X) → Restarts f (quiet f.idle) y ↔ (y ≡ quiet f.idle)
idle_restarts f y = (λ h. elim h [ inl same ↦ same.1 | inr other ↦ absurd (other.0 refl) ], λ is. inl (refl, is))

-- a restart leads from the ended state, where nothing is owed, to itself alone
ended_restarts : {X : Type 0} (f : Figure X) → (f.ended ≡ f.idle) ⊎ ¬ (f.ended ≡ f.idle) → (y : Owing X) → Restarts f (quiet f.ended) y ↔ (y ≡ quiet f.ended)
ended_restarts f decided y = (
  λ h. elim h [ inl same ↦ same.1 ∙ ap quiet (sym same.0) | inr other ↦ other.1 ],
  λ is. elim decided [ inl same ↦ inl (same, is ∙ ap quiet same) | inr other ↦ inr (other, is) ],
)

-- What follows is of e, an event that restarts the element, and a machine with the times p.
module _ (p : Times) (machine : MachineKind) (e : MachineEvent) (is : e.action ≡ Restart) where
  -- the figure of the machine
  abbrev f : Figure (transaction_of machine).Phase
  f = (transaction_of machine).figure

  -- by the rules a restart leads from the idle state to itself alone
  idle_takes : (y : OwingOf machine) → (key_rules p machine).Take (quiet f.idle) e y ↔ (y ≡ quiet f.idle)
  idle_takes y =
      let stays = IsWithin-none e.moment ((key_rules p machine).until (quiet f.idle)) (lawful_of machine p).first_stays in
      let steps = subst (λ a. Steps f p a e (quiet f.idle) y ↔ (y ≡ quiet f.idle)) (sym is) (idle_restarts f y) in
      (λ h. steps.0 h.1, λ same. (stays, steps.1 same))

  -- by the rules a restart leads from the ended state to itself alone
  ended_takes : (y : OwingOf machine) → (key_rules p machine).Take (quiet f.ended) e y ↔ (y ≡ quiet f.ended)
  ended_takes y =
      let stays = IsWithin-none e.moment ((key_rules p machine).until (quiet f.ended)) (lawful_of machine p).ended_stays in
      let steps = subst (λ a. Steps f p a e (quiet f.ended) y ↔ (y ≡ quiet f.ended)) (sym is) (ended_restarts f (coded_holds machine).ended_decided y) in
      (λ h. steps.0 h.1, λ same. (stays, steps.1 same))

-- the moments of the first state are in range: its phase has none, and it owes nothing, so that no deadline has to be below 2^50
first_in_range : (machine : MachineKind) → (meaning_of machine).in_range (first_of machine)
first_in_range machine = ((coded_holds machine).idle_fits.1, All-nil (λ debt. debt.deadline < 2 ^ 50))

-- the moments of the ended state are in range: its phase has none, and it owes nothing, so that no deadline has to be below 2^50
last_in_range : (machine : MachineKind) → (meaning_of machine).in_range (last_of machine)
last_in_range machine = ((coded_holds machine).ended_fits.1, All-nil (λ debt. debt.deadline < 2 ^ 50))

-- the state of the code stands for one that has no end and no last moment, and that a restart leaves as it is; every book has what it
-- names, and its moments are in range
pub record IsStill (p : Times) (machine : MachineKind) (texts : Texts) (x : CodeOwingOf machine) : Type 0 where
  pub endless : ((meaning_of machine).rules p).window ((meaning_of machine).seen texts x) ≡ None
  pub stays : ((meaning_of machine).rules p).until ((meaning_of machine).seen texts x) ≡ None
  pub takes : (e : MachineEvent) → e.action ≡ Restart → (y : OwingOf machine) → ((meaning_of machine).rules p).Take ((meaning_of machine).seen texts x) e y ↔ (y ≡ (meaning_of machine).seen texts x)
  pub known : Knows (meaning_of machine).names texts x
  pub in_range : (meaning_of machine).in_range x

-- the first state is still
first_still : (p : Times) (machine : MachineKind) (texts : Texts) → IsStill p machine texts (first_of machine)
first_still p machine texts =
    let q = first_is_of machine texts p in
    let r = (meaning_of machine).rules p in
    let lawful = lawful_of machine p in
    -- the first state has no end and can stay for ever, and a restart leaves it as it is
    record {
      endless = ap r.window q ∙ lawful.first_has_no_end;
      stays = ap r.until q ∙ lawful.first_stays;
      takes = λ e is y. subst (λ x. r.Take x e y ↔ (y ≡ x)) (sym q) (idle_takes p machine e is y);
      known = first_knows machine texts;
      in_range = first_in_range machine;
    }

-- the ended state is still
last_still : (p : Times) (machine : MachineKind) (texts : Texts) → IsStill p machine texts (last_of machine)
last_still p machine texts =
    let q = last_is_of machine texts p in
    let r = (meaning_of machine).rules p in
    let lawful = lawful_of machine p in
    -- the ended state has no end and can stay for ever, and a restart leaves it as it is
    record {
      endless = ap r.window q ∙ lawful.ended_has_no_end;
      stays = ap r.until q ∙ lawful.ended_stays;
      takes = λ e is y. subst (λ x. r.Take x e y ↔ (y ≡ x)) (sym q) (ended_takes p machine e is y);
      known = last_knows machine texts;
      in_range = last_in_range machine;
    }

-- a quiet set has one state, which is still
pub quiet_still : (p : Times) (machine : MachineKind) (texts : Texts) (s : Held Times (CodeOwingOf machine)) → IsQuietIn machine s → (x : CodeOwingOf machine) × (s.states ≡ x ∷ []) × IsStill p machine texts x
quiet_still p machine texts s (inl is) = (first_of machine, is, first_still p machine texts)
quiet_still p machine texts s (inr is) = (last_of machine, is, last_still p machine texts)

-- What follows is of x, a state of a machine with the times p, in which it can rest for ever.
module _ (p : Times) (machine : MachineKind) (texts : Texts) (x : CodeOwingOf machine) (still : IsStill p machine texts x) where
  -- the rules of the machine, for states as texts have them
  abbrev r : MachineRules (OwingOf machine)
  r = (meaning_of machine).rules p

  -- the state, as texts have it
  abbrev q : OwingOf machine
  q = (meaning_of machine).seen texts x

  -- y is what the one state x stands for
  abbrev Alone : OwingOf machine → Type 0
  Alone y = Contains (map ((meaning_of machine).seen texts) (x ∷ [])) y

  -- where one stands in a still state alone, one stands in it alone at any later moment
  -- h and n are the moments, and y is a state at the later one
  pub waits_still : (h n : ℕ) → h ≤ n → (y : OwingOf machine) → Wait r Alone h n y ↔ (y ≡ q)
  waits_still h n low y = wait_still r (lawful_of machine p) q still.endless still.stays Alone (λ z. Contains-single q z) h n low y

  -- a restart leads from a wait in a still state to that state alone
  pub restart_still : (h : ℕ) (e : MachineEvent) → e.action ≡ Restart → h ≤ e.moment
      → StandFor (meaning_of machine).names (meaning_of machine).in_range (meaning_of machine).seen texts (RunGives r (Wait r Alone h e.moment) e) (x ∷ [])
  restart_still h e is low = record {
    members = λ y. (
      λ has.
          let same = (Contains-single q y).0 has in
          record { before = q; among = (waits_still h e.moment low q).1 refl; takes = (still.takes e is y).1 same },
      -- the converse: what the restart gives from the wait is that state
      λ given. (Contains-single q y).1 ((still.takes e is y).0 (subst (λ z. r.Take z e y) ((waits_still h e.moment low given.before).0 given.among) given.takes)),
    );
    -- the state is the only one, the book has what it names, and it is in range
    distinct = λ i j d lt within. absurd (omega (arith, lt, within));
    known = All-cons (Knows (meaning_of machine).names texts) x [] still.known (All-nil (Knows (meaning_of machine).names texts));
    in_range = All-cons (meaning_of machine).in_range x [] still.in_range (All-nil (meaning_of machine).in_range);
  }
