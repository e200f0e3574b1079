-- A reading has one outcome: a value, or a fault.
-- `gives z` is an outcome with the value z, and `stops f` one with the fault f. A first step is passed (`passes x s t`) where it gives x; s says so, and t
-- is of the second step; otherwise it is stopped (`stopped f s ..`) at the fault f.
use Rattle.std.proofs.Common.{◌≡◌, refl, sym, ap, ◌∙◌, subst}
use Rattle.std.specs.Prelude.{⊤}
use Rattle.sip_standard.specs.declared.fault.Fault.{Fault}
use Rattle.sip_standard.specs.Outcome.{Outcome, gives, stops, Gives, Demand, Holds, Then, passes, stopped}

-- S holds of one outcome at most
abbrev pub IsOne : {X : Type 0} → (Outcome X → Type 0) → Type 0
IsOne {X = X} S = (a b : Outcome X) → S a → S b → a ≡ b

-- outcomes that give the same give the same value
pub given : {X : Type 0} {x y : X} → gives x ≡ gives y → x ≡ y
given {X = X} {x = x} is = ap value is
  where
    -- the value that an outcome gives, and x where it stops
    value : Outcome X → X
    value (gives z) = z
    value (stops f) = x

-- an outcome that gives a value is not one that stops with a fault
pub no_value : {X : Type 0} {x : X} {f : Fault} → gives x ≡ stops f → ⊥
no_value {X = X} {x = x} {f = f} is = subst tells is tt
  where
    -- whether an outcome gives a value
    tells : Outcome X → Type 0
    tells (gives z) = ⊤
    tells (stops g) = ⊥

-- outcomes that stop alike stop with the same fault
pub fault_is : {X : Type 0} {f g : Fault} → ◌≡◌ {A = Outcome X} (stops f) (stops g) → f ≡ g
fault_is {X = X} {f = f} is = ap fault is
  where
    -- the fault of what stops, and f of what gives a value
    fault : Outcome X → Fault
    fault (gives z) = f
    fault (stops h) = h

-- the step that gives x has one outcome
pub one-gives : {X : Type 0} (x : X) → IsOne (Gives x)
-- both outcomes are `gives x`
one-gives x a b a_is b_is = a_is ∙ sym b_is

-- a demand that one value at most meets has one outcome
-- R is what a value has to meet
pub one-demand : {X : Type 0} (R : X → Type 0) (fault : Fault) → ((x y : X) → R x → R y → x ≡ y) → IsOne (Demand R fault)
-- two values meet the demand, and so are the same
one-demand R fault same (gives x) (gives y) one other = ap (λ z. gives z) (same x y one other)
-- a value meets it, so it cannot be that none does
one-demand R fault same (gives x) (stops g) one other = absurd (other.0 x one)
one-demand R fault same (stops f) (gives y) one other = absurd (one.0 y other)
-- the demand has one fault
one-demand R fault same (stops f) (stops g) one other = ap (λ z. stops z) (one.1 ∙ sym other.1)

-- the demand that A holds has one outcome, where it holds and where it does not
pub one-holds : (A : Type 0) (fault : Fault) → IsOne (Holds A fault)
-- the demand that A holds can give one value alone
one-holds A fault = one-demand (λ _. A) fault (λ x y _ _. refl)

-- where each of two steps has one outcome, both together have
-- S is the first step, with a value x of X, and T the second one after x
pub one-then : {X Y : Type 0} {S : Outcome X → Type 0} {T : X → Outcome Y → Type 0} → IsOne S → ((x : X) → IsOne (T x)) → IsOne (Then S T)
-- a and b are the two outcomes: both steps give a value, by the first step the same
one-then {T = T} first second a b (passes x s t) (passes y s_too t_too) =
    second y a b (subst (λ z. T z a) (given (first (gives x) (gives y) s s_too)) t) t_too
-- the first step does not both give a value and stop
one-then first second a b (passes x s t) (stopped f s_too is) = absurd (no_value (first (gives x) (stops f) s s_too))
one-then first second a b (stopped f s is) (passes y s_too t_too) = absurd (no_value (first (gives y) (stops f) s_too s))
-- the first step stops, with one fault
one-then first second a b (stopped f s is) (stopped g s_too is_too) =
    is ∙ ap (λ z. stops z) (fault_is (first (stops f) (stops g) s s_too)) ∙ sym is_too

-- where a step S and then a step T give y together, S gives some x, and T gives y after x
pub given-then : {X Y : Type 0} {S : Outcome X → Type 0} {T : X → Outcome Y → Type 0} {y : Y} → Then S T (gives y) → (x : X) × S (gives x) × T x (gives y)
-- the first step gave x, and the second y
given-then (passes x s t) = (x, s, t)
-- a step that stopped gave nothing
given-then (stopped f s is) = absurd (no_value is)
