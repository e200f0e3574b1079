-- Of the invariant of Tos (`c.self.invariant`) part 0 says that the numbers of the messages rise, and 1 that each stands under its To, if sets are kept.
use Rattle.std.proofs.lemmas.Option.{slice_get_within}
use Rattle.sip_machine.proofs.Words.{option_to_list, AllPairs, ◌≡◌, ◌∙◌, ◌-◌, ◌++◌, ◌∷◌, [], AreUnder, Contains, Some, ap, false, get_or_from_slice_get, slice_get, subst, sym, take, arith, rules, vec_len, All-contains_itself, All-take}
use Rattle.sip_machine.proofs.acks.ToLemmas.{below, pairs-before, set-changed, under-changed}
use Rattle.sip_machine.proofs.tos.Tos.drop_newest.Goals as goal
use Rattle.sip_machine.proofs.tos.Tos.drop_newest.Goals.{in_default-via-in-None-1, in_default-via-in-Some+in-None-1, in_default-via-in-Some+in-Some-last+else-last-number, in_default-via-in-Some+in-Some-last+then-last-number+in-None-1}

-- without the newest To the others are in order, and each stands under its To
pub invariant_of-self-2 : goal.invariant_of-self-2
invariant_of-self-2 c =
    let tos = c.self.inside.list.items in
    let left = vec_len c.self.inside.list - 1 in
    let last = c.in-Some-last.last.now in
    let set = c.take.new.self in
    -- `at` says that `last` stands at the end of the list
    let at = rw (c.in-Some-last.is, c.deref.ensures.value) at c.last.ensures.value in
    -- the last To is the one with this number
    let same : last.number ≡ c.args.number = omega arith in
    let here : slice_get tos left ≡ Some last = rw (← c.self.inside.list.ok.0) at (sym at) in
    let some = slice_get_within tos left last here in
    let new = c.pop.new.self.items in
    let whole : tos ≡ new ++ last ∷ [] = c.pop.ensures.items
    ∙ ap (λ r. new ++ option_to_list r) (c.pop.ensures.value last (omega (arith, some)) ∙ ap Some (get_or_from_slice_get tos left last last here)) in
    let changed = set-changed c.in-Some.sets last.text last.number false (Some c.in-Some-get_mut.set.now) c.in-Some-get_mut.ensures.value (c.get_mut.follows.lender set) set
    ((c.get_mut.follows.holds set).3 (search rules)).0 (rw (← same) at c.take.ensures) in
    let before = pairs-before below new last (subst (AllPairs below) whole c.self.invariant.0) in (
      before.0,
      under-changed last false _ _ new changed (λ _. before.1) (subst (λ all. AreUnder all c.in-Some.sets) whole (rw c.in-Some.is at c.self.invariant.1)),
      c.self.invariant.2,
    )

-- the Tos that are left were there before
pub returns-in-Some-get_mut : goal.returns-in-Some-get_mut
returns-in-Some-get_mut c =
    let tos = c.self.inside.list.items in
    rw (← c.self.view_is, c.pop.ensures.rest) (All-take (Contains tos) (vec_len c.self.inside.list - 1) tos (All-contains_itself tos))

-- where no To is taken out, all are left
pub returns-in_default : goal.returns-in_default
returns-in_default c =
    let all = All-contains_itself c.self.inside.list.items in
    elim c.in_default.branch [
      | in_default-via-in-None-1 w ↦ rw (← c.self.view_is, w.self-is) all
      | in_default-via-in-Some+in-None-1 w ↦ rw (← c.self.view_is, w.self-is) all
      | in_default-via-in-Some+in-Some-last+else-last-number w ↦ rw (← c.self.view_is, w.self-is) all
      | in_default-via-in-Some+in-Some-last+then-last-number+in-None-1 w ↦ rw (← c.self.view_is, w.self-is) all
    ]
