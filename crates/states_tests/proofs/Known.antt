-- What is true of a set after `take` and `advance`, whatever they answer: the book has what its states name, and the set's moment.
use Rattle.std.proofs.Common.{◌≡◌, ◌≤◌, ℕ, List, Result, Ok, Err, OnOk, OnErr, All, inl, inr, sym, ap, ◌∙◌, subst, get_or, arith}
use Rattle.std.proofs.lemmas.Option.{slice_get-get_or}
use Rattle.sip_machine.specs.Texts.{Texts}
use Rattle.sip_machine.specs.Rules.{Knows, StandFor}
use Rattle.sip_states.specs.Held.{Held}
use Rattle.sip_states.specs.Meaning.{HasWaited}
use Rattle.sip_states.specs.AnySet.{SetWaits, moment_of}
use Rattle.sip_states.proofs.keyed.ByMachine.{some_machine, of_sets, moment_is}
use Rattle.sip_states.specs.Sweep.{AdvancesSome}
use Rattle.sip_states.specs.Tables.{Tabled}
use Rattle.sip_states.specs.declared.any_set.AnySet.{AnySet}

-- What follows is of one set: `old` is what it holds before the call `StateSet::take`, and `new` after it. P says which states the call asks for.
module _ {X M S T E : Type 0} (names : S → List ℕ) (InRange : S → Type 0) (seen : Texts → S → X) (texts : Texts) (P : X → Type 0) (old new : Held M S) where
  -- whatever `StateSet::take` answers, the book has all that the set's states name
  pub known-after : (r : Result T E) → OnOk r (StandFor names InRange seen texts P new.states) → OnErr r (new ≡ old)
      → All (Knows names texts) old.states → All (Knows names texts) new.states
  known-after (Ok x) stands stays known = stands.known
  known-after (Err e) stands stays known = subst (λ (h : Held M S). All (Knows names texts) h.states) (sym stays) known

-- whatever `StateSet::take` answers, the moment of the set is then at most the moment of the event
-- r is the result of `take`, and `old` and `new` are the set before and after
pub moment-after : {M S T E : Type 0} (moment : ℕ) (old new : Held M S) (r : Result T E) → OnOk r ((new.machine ≡ old.machine) × (new.moment ≡ moment)) → OnErr r (new ≡ old)
    → old.moment ≤ moment → new.moment ≤ moment
moment-after moment old new (Ok x) at stays early = (let is = at.1 in omega arith)
moment-after moment old new (Err e) at stays early = subst (λ h. h.moment ≤ moment) (sym stays) early

-- a set that has waited until a moment has that moment
-- `a` is the set before and `b` after, and `s` and `t` are what they hold: `some_machine` gives the machine of `a`, and `of_sets` says that `b` is of the
-- same one and what has become of `s` there (`HasWaited`)
waits_moment : (moment : ℕ) (a b : AnySet) → SetWaits moment a b → moment_of b ≡ moment
waits_moment moment a b waits =
    let (machine, s, is) = some_machine a in
    let (t, new, waited) = of_sets (λ X M S m x y. HasWaited m moment x y) machine s b (subst (λ set. SetWaits moment set b) is waits) in
    ap moment_of new ∙ moment_is machine t ∙ waited.at

-- where some sets have waited until the moment, and the others are as they were, none is past it
pub some_early : (moment : ℕ) (old new : Tabled) → AdvancesSome moment old new → All (λ set. moment_of set ≤ moment) old.sets → All (λ set. moment_of set ≤ moment) new.sets
some_early moment old new some early n d low =
    let long = some.long in
    let before = get_or old.sets n d in
    let after = get_or new.sets n d in
    -- `before` and `after` are what stands in the place n of the tables before the call and after it
    -- the set has waited until the moment, or is as it was
    elim (some.each n before after (slice_get-get_or old.sets n d (omega arith)) (slice_get-get_or new.sets n d low)) [
      | inl advanced ↦ elim advanced [
        | inl waits ↦ (let at = waits_moment moment before after waits in omega arith)
        | inr still ↦ subst (λ set. moment_of set ≤ moment) (sym still.0) (early n d (omega arith))
      ]
      | inr same ↦ subst (λ set. moment_of set ≤ moment) (sym same) (early n d (omega arith))
    ]
