-- Two readings that come to the same: to values that belong together, or to one fault.
-- In the lemmas a and b are what the first reading and the second come to, x and y their values, and out and o what they come to with a further step.
-- `gives x` is an outcome with the value x, and `stops f` one at the fault f; s and t say that a step has an outcome, and q that Q relates two values.
use Rattle.std.proofs.Common.{◌≡◌, refl, sym, subst}
use Rattle.std.specs.Prelude.{⊤}
use Rattle.sip_standard.specs.declared.fault.Fault.{Fault}
use Rattle.sip_standard.specs.Outcome.{Outcome, gives, stops, Gives, Demand, Holds, Then, passes, stopped}

-- both outcomes give values that Q relates, or both stop with one fault
abbrev pub Alike : {X Y : Type 0} → (X → Y → Type 0) → Outcome X → Outcome Y → Type 0
-- two values are alike where Q relates them, and two faults where they are the same; a value and a fault are not
Alike Q (gives x) (gives y) = Q x y
Alike Q (stops f) (stops g) = f ≡ g
Alike Q (gives x) (stops g) = ⊥
Alike Q (stops f) (gives y) = ⊥

-- for each outcome of S there is one of T that is alike, and for each of T one of S
pub record Same {X Y : Type 0} (Q : X → Y → Type 0) (S : Outcome X → Type 0) (T : Outcome Y → Type 0) : Type 0 where
  pub to : (a : Outcome X) → S a → (b : Outcome Y) × T b × Alike Q a b
  pub back : (b : Outcome Y) → T b → (a : Outcome X) × S a × Alike Q a b

-- the two values are equal
abbrev pub Equal : {X : Type 0} → X → X → Type 0
Equal x y = x ≡ y

-- demands with one fault come to the same where each value that meets the one has a value that meets the other, and Q relates them
-- R is the one demand, on x, and P the other, on y
pub same-demand : {X Y : Type 0} (Q : X → Y → Type 0) (R : X → Type 0) (P : Y → Type 0) (fault : Fault) → ((x : X) → R x → (y : Y) × P y × Q x y) → ((y : Y) → P y → (x : X) × R x × Q x y) → Same Q (Demand R fault) (Demand P fault)
same-demand {X = X} {Y = Y} Q R P fault go come = record { to = to; back = back }
  where
    -- what meets the one demand, or breaks it, has its like that does the same by the other
    to : (a : Outcome X) → Demand R fault a → (b : Outcome Y) × Demand P fault b × Alike Q a b
    -- x meets the one demand, and so y meets the other
    to (gives x) s = let y = go x s in (gives y.0, y.1, y.2)
    -- nothing meets the one demand, and so nothing the other
    to (stops g) s = (stops g, ((λ y p. let x = come y p in s.0 x.0 x.1), s.1), refl)

    -- each outcome of the second demand is one of the first
    back : (b : Outcome Y) → Demand P fault b → (a : Outcome X) × Demand R fault a × Alike Q a b
    -- y meets the other demand, and so x meets the one
    back (gives y) t = let x = come y t in (gives x.0, x.1, x.2)
    -- nothing meets the other demand, and so nothing the one
    back (stops g) t = (stops g, ((λ x r. let y = go x r in t.0 y.0 y.1), t.1), refl)

-- two demands without a value, of which each gives the other, come to the same
pub same-holds : (A B : Type 0) (fault : Fault) → (A → B) → (B → A) → Same {X = ⊤} {Y = ⊤} Equal (Holds A fault) (Holds B fault)
-- each is a demand without a value: the one that A holds, and the other that B holds
same-holds A B fault go come = same-demand Equal (λ _. A) (λ _. B) fault (λ x a. (x, go a, refl)) (λ y b. (y, come b, refl))

-- the steps that give x and y come to the same where Q relates x and y
pub same-gives : {X Y : Type 0} (Q : X → Y → Type 0) (x : X) (y : Y) → Q x y → Same Q (Gives x) (Gives y)
same-gives Q x y q = record {
  -- each of the two gives its value alone
  to = λ a a_is. (gives y, refl, subst (λ o. Alike Q o (gives y)) (sym a_is) q);
  back = λ b b_is. (gives x, refl, subst (λ o. Alike Q (gives x) o) (sym b_is) q);
}

-- each reading comes to the same as itself
pub same-self : {X : Type 0} (S : Outcome X → Type 0) → Same Equal S S
same-self {X = X} S = record { to = to; back = back }
  where
    -- to each outcome one is alike: itself
    to : (a : Outcome X) → S a → (b : Outcome X) × S b × Alike Equal a b
    -- a value is alike to itself, and so is a fault
    to (gives x) s = (gives x, s, refl)
    to (stops f) s = (stops f, s, refl)

    -- each outcome is alike to one: itself
    back : (b : Outcome X) → S b → (a : Outcome X) × S a × Alike Equal a b
    -- a value is alike to itself, and so is a fault
    back (gives x) s = (gives x, s, refl)
    back (stops f) s = (stops f, s, refl)

-- S and then A come to the same as T and then B where S comes to the same as T, and A to the same as B after values that Q relates
-- S gives x and T gives y, which Q relates; A goes on from x and B from y, and what they give is related by W
pub same-then : {X Y U V : Type 0} (Q : X → Y → Type 0) (W : U → V → Type 0) {S : Outcome X → Type 0} {T : Outcome Y → Type 0} (A : X → Outcome U → Type 0) (B : Y → Outcome V → Type 0)
    → Same Q S T → ((x : X) (y : Y) → Q x y → Same W (A x) (B y)) → Same W (Then S A) (Then T B)
same-then {X = X} {Y = Y} {U = U} {V = V} Q W {S = S} {T = T} A B first later = record { to = to; back = back }
  where
    -- where the first step gives x, the second steps come to the same
    to-gives : (x : X) (out : Outcome U) → A x out → (b : Outcome Y) → T b → Alike Q (gives x) b → (o : Outcome V) × Then T B o × Alike W out o
    -- the other first step gives y: m is what the second steps come to
    to-gives x out a (gives y) t q = let m = (later x y q).to out a in (m.0, passes y t m.1, m.2)
    -- the other first step cannot stop
    to-gives x out a (stops g) t q = absurd q

    -- where the first step stops, both do, with the same fault
    to-stops : (f : Fault) (out : Outcome U) → out ≡ stops f → (b : Outcome Y) → T b → Alike Q (stops f) b → (o : Outcome V) × Then T B o × Alike W out o
    -- the other first step cannot give a value
    to-stops f out out_is (gives y) t q = absurd q
    -- the other first step stops with the same fault
    to-stops f out out_is (stops g) t q = (stops g, stopped g t refl, subst (λ o. Alike W o (stops g)) (sym out_is) q)

    -- each outcome of the first two steps is one of the others
    to : (a : Outcome U) → Then S A a → (b : Outcome V) × Then T B b × Alike W a b
    -- both first steps give a value, and go on
    to out (passes x s a) = let m = first.to (gives x) s in to-gives x out a m.0 m.1 m.2
    -- both first steps stop
    to out (stopped f s out_is) = let m = first.to (stops f) s in to-stops f out out_is m.0 m.1 m.2

    -- where the first step gives a value, the second steps go on alike
    back-gives : (y : Y) (out : Outcome V) → B y out → (a : Outcome X) → S a → Alike Q a (gives y) → (o : Outcome U) × Then S A o × Alike W o out
    -- the one first step gives x: m is what the second steps come to
    back-gives y out b (gives x) s q = let m = (later x y q).back out b in (m.0, passes x s m.1, m.2)
    -- the one first step cannot stop
    back-gives y out b (stops g) s q = absurd q

    -- where the first step stops, both do, with the same fault
    back-stops : (f : Fault) (out : Outcome V) → out ≡ stops f → (a : Outcome X) → S a → Alike Q a (stops f) → (o : Outcome U) × Then S A o × Alike W o out
    -- the one first step cannot give a value
    back-stops f out out_is (gives x) s q = absurd q
    -- the one first step stops with the same fault
    back-stops f out out_is (stops g) s q = (stops g, stopped g s refl, subst (λ o. Alike W (stops g) o) (sym out_is) q)

    -- each outcome of the other two steps is one of the first ones
    back : (b : Outcome V) → Then T B b → (a : Outcome U) × Then S A a × Alike W a b
    -- both first steps give a value, and go on
    back out (passes y t b) = let m = first.back (gives y) t in back-gives y out b m.0 m.1 m.2
    -- both first steps stop
    back out (stopped f t out_is) = let m = first.back (stops f) t in back-stops f out out_is m.0 m.1 m.2

-- S and then A come to the same as T and then B where S and T come to the same, with equal values, and so do A and B after each value
-- W relates what A and B come to
pub same-next : {X U V : Type 0} (W : U → V → Type 0) {S T : Outcome X → Type 0} (A : X → Outcome U → Type 0) (B : X → Outcome V → Type 0)
    → Same Equal S T → ((x : X) → Same W (A x) (B x)) → Same W (Then S A) (Then T B)
same-next W A B first later = same-then Equal W A B first (λ x y x_is. subst (λ z. Same W (A x) (B z)) x_is (later x))
