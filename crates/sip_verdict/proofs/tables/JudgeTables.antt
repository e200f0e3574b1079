-- Which entry may be taken first, and which one next.
use Rattle.std.proofs.Common.{◌≡◌, ◌≤◌, ◌+◌, ℕ, [], refl, sym, subst, arith}
use Rattle.std.proofs.lemmas.List.Elements.{All-nil, All-weaker}
use Rattle.sip_standard.specs.Times.{Times}
use Rattle.sip_machine.specs.Texts.{Texts}
use Rattle.sip_states.specs.AnySet.{moment_of, IsKnownSet}
use Rattle.sip_states.specs.Tables.{Tabled}
use Rattle.sip_states.proofs.lists.Listed.{Contains-none}
use Rattle.sip_verdict.specs.inner.TablesTracking.{MayTake}

-- the first entry may come at any moment
pub first_may : (texts : Texts) (t : Tabled) (p : Times) (moment : ℕ) → texts ≡ [] → t ≡ record { times = p; keys = []; sets = []; records = [] } → MayTake texts t 1 moment
first_may texts t p moment none empty = subst (λ b. MayTake b t 1 moment) (sym none) (subst (λ u. MayTake [] u 1 moment) (sym empty) (record {
  -- no set is later and none unknown, for there is none
  passes = record {
    order = All-nil (λ set. moment_of set ≤ moment);
    known = All-nil (IsKnownSet []);
    long = refl;
  };
  -- there is no set, no record and no message
  recorded = record {
    long = refl;
    each = λ n set recorded here there. absurd cc;
  };
  numbered = λ n keeps. absurd (Contains-none n keeps);
  some = λ n keeps. absurd (Contains-none n keeps);
  few = omega arith;
}))

-- where the next number may be taken, an entry with that number may be taken at any moment that is no earlier
pub next_may : (texts : Texts) (t : Tabled) (count last number moment : ℕ) → number ≡ count + 1 → last ≤ moment → MayTake texts t (count + 1) last → MayTake texts t number moment
next_may texts t count last number moment next order may = subst (λ n. MayTake texts t n moment) (sym next) (record {
  passes = record {
    -- the sets are not later, and the book and the records are the same
    order = All-weaker (λ set. moment_of set ≤ last) (λ set. moment_of set ≤ moment) (λ set h. omega arith) t.sets may.passes.order;
    known = may.passes.known;
    long = may.passes.long;
  };
  recorded = may.recorded;
  numbered = may.numbered;
  some = may.some;
  few = may.few;
})
