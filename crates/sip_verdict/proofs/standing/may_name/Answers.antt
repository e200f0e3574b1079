-- t are the tables, and `number` is that of the message; `two` are the own transaction and the cancelled one.
use Rattle.std.proofs.Common.{◌≡◌, [], inl, inr, true, false, All, refl, sym, subst, ◌∙◌, arith}
use Rattle.std.specs.Prelude.{◌↔◌, IsTrue}
use Rattle.std.proofs.lemmas.Bool.{false≢true}
use Rattle.std.proofs.lemmas.List.Elements.{All-cons, All-nil}
use Rattle.sip_verdict.specs.inner.Concerned.{each, is_all}
use Rattle.sip_verdict.specs.inner.TablesTracking.{MayBeNamed, NamesNot}
use Rattle.sip_verdict.proofs.sweeps.MayNameLemmas.{none_may, own_may, first_may, both_may}
use Rattle.sip_verdict.proofs.sweeps.NewestLemmas.{names_not}
use Rattle.sip_verdict.proofs.standing.may_name.Goals as goal

-- the entry concerns no key, so no state may name the message
pub returns-in-None-clause-may : goal.returns-in-None-clause-may
returns-in-None-clause-may g c =
    let t = c.args.tables.now in
    let number = c.args.number in
    subst (λ x. IsTrue false ↔ MayBeNamed t number x) (sym c.in-None.is) (λ yes. absurd (false≢true yes), λ may. absurd (none_may t number may))

-- where the entry concerns no key, no state of its keys names the message
pub returns-in-None-clause-none : goal.returns-in-None-clause-none
returns-in-None-clause-none g c none =
    let names = NamesNot c.args.tables.now c.args.number in
    subst (λ x. (is_all x ≡ false) × All names (each x)) (sym c.in-None.is) (refl, All-nil names)

-- a state of the one key of the entry may name the message exactly if the key's set says so
pub returns-in-Own-clause-may : goal.returns-in-Own-clause-may
returns-in-Own-clause-may g c =
    let t = c.args.tables.now in
    let number = c.args.number in
    -- `tells` says that the message may be named just where the set of the one key may name it, and `may` is what the test answers
    let tells = own_may t number c.in-Own.own c.set.result.now c.set.ensures in
    let may = c.may_name.ensures.may in
    subst (λ x. IsTrue c.may_name.result ↔ MayBeNamed t number x) (sym c.in-Own.is) (λ yes. tells.0 (may.0 yes), λ named. may.1 (tells.1 named))

-- no state of the one key of the entry names the message
pub returns-in-Own-clause-none : goal.returns-in-Own-clause-none
returns-in-Own-clause-none g c none =
    let t = c.args.tables.now in
    let own = c.in-Own.own in
    let names = NamesNot t c.args.number in
    subst (λ x. (is_all x ≡ false) × All names (each x)) (sym c.in-Own.is)
    (refl, All-cons names own [] (names_not c.args.number own t c.set.result.now c.set.ensures (c.may_name.ensures.none none)) (All-nil names))

-- where the own transaction can name the message, some set may name it
pub returns-then-may_name-clause-may : goal.returns-then-may_name-clause-may
returns-then-may_name-clause-may g c =
    let t = c.args.tables.now in
    let number = c.args.number in
    let two = c.in-OwnAndCancelled in
    -- the set of the own transaction may name the message, by the test
    let its = c.may_name-in-OwnAndCancelled.ensures.may.0 c.if-may_name.true in
    let named = first_may t number two.own two.cancelled c.set-in-OwnAndCancelled.result.now c.set-in-OwnAndCancelled.ensures its in
    subst (λ x. IsTrue c.may_name-in-OwnAndCancelled.result ↔ MayBeNamed t number x) (sym two.is) (λ _. named, λ _. c.if-may_name.true)

-- the tables have the cancelled transaction
pub set-requires-else-may_name : goal.set-requires-else-may_name
set-requires-else-may_name g c = (rw c.in-OwnAndCancelled.is at c.requires) 1 0 (omega arith)

-- where the own transaction cannot name the message, some set may name it exactly if the cancelled one may
pub returns-else-may_name-clause-may : goal.returns-else-may_name-clause-may
returns-else-may_name-clause-may g c =
    let t = c.args.tables.now in
    let number = c.args.number in
    let two = c.in-OwnAndCancelled in
    let one = c.set-in-OwnAndCancelled in
    let other = c.set-else-may_name in
    -- some set may name it if one of the two may
    let tells = both_may t number two.own two.cancelled one.result.now other.result.now one.ensures other.ensures in
    let first = c.may_name-in-OwnAndCancelled.ensures.may in
    let second = c.may_name-else-may_name.ensures.may in
    subst (λ x. IsTrue c.may_name-else-may_name.result ↔ MayBeNamed t number x) (sym two.is) (
      λ yes. tells.0 (inr (second.0 yes)),
      λ named. elim (tells.1 named) [ inl its ↦ absurd (false≢true (sym c.if-may_name.false ∙ first.1 its)) | inr also ↦ second.1 also ],
    )

-- where all transactions are concerned, the message is taken to be named
pub returns-in-All-clause-may : goal.returns-in-All-clause-may
returns-in-All-clause-may g c =
    subst (λ x. IsTrue true ↔ MayBeNamed c.args.tables.now c.args.number x) (sym c.in-All.is) (λ _. inl refl, λ _. refl)
