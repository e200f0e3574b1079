-- What is found at an entry is its fault, the transactions that break, and those that are followed no further.
-- In the lemmas n is the number of the entry, t the number of a transaction, and f a finding.
use Rattle.std.proofs.Common.{◌≡◌, ◌<◌, ◌+◌, ◌⊎◌, inl, inr, ℕ, Option, Some, None, List, [], ◌∷◌, ◌++◌, AllPairs, Contains, length, map, refl, sym, ◌∙◌, subst, arith}
use Rattle.std.proofs.lemmas.List.Elements.{Contains-append_left, Contains-append_right, Contains-append_cases}
use Rattle.sip_standard.specs.declared.fault.Fault.{Fault}
use Rattle.sip_standard.specs.Key.{KeyParts}
use Rattle.sip_standard.specs.Times.{Times}
use Rattle.sip_states.proofs.lists.Listed.{Contains-none, Contains-here, Contains-cons, Contains-map, Contains-from_map}
use Rattle.sip_verdict.specs.declared.finding.Finding.{Finding}
use Rattle.sip_verdict.specs.declared.finding.Finding.TheVariants.{Malformed, Breach, Undecided}
use Rattle.sip_standard.specs.Observation.{Observation}
use Rattle.sip_standard.specs.VerdictOf.{keys_in}
use Rattle.sip_verdict.specs.SurveyOf.{Breaks, Widens, IsFoundAt, Precedes, AreFoundAt}
use Rattle.sip_verdict.proofs.surveys.found.Ordered.{ordered_append, ordered_map}
use Rattle.sip_verdict.proofs.surveys.found.Numbers.{AreNumbers}

-- no two findings come each before the other
pub precedes_once : (f g : Finding) → Precedes f g → Precedes g f → ⊥
-- faults come before breaches, and these before transactions that are undecided: k and m are entries, and t and u numbers of transactions
precedes_once (Malformed k a) (Malformed m b) up down = up
precedes_once (Malformed k a) (Breach m u) up down = down
precedes_once (Malformed k a) (Undecided m u) up down = down
precedes_once (Breach k t) (Malformed m b) up down = up
precedes_once (Breach k t) (Breach m u) up down = omega (arith, up, down)
precedes_once (Breach k t) (Undecided m u) up down = down
precedes_once (Undecided k t) (Malformed m b) up down = up
precedes_once (Undecided k t) (Breach m u) up down = up
-- of two findings of one kind the transaction with the smaller number comes first
precedes_once (Undecided k t) (Undecided m u) up down = omega (arith, up, down)

-- the finding of the fault at the entry with this number, where it has one
abbrev pub fault_found : ℕ → Option Fault → List Finding
fault_found n None = []
fault_found n (Some fault) = Malformed n fault ∷ []

-- the findings at the entry with this number: its fault, the transactions that break, and those that are followed no further, by number
abbrev pub listed : ℕ → Option Fault → List ℕ → List ℕ → List Finding
listed n fault broken wide = fault_found n fault ++ (map (λ t. Breach n t) broken ++ map (λ t. Undecided n t) wide)

-- a finding of the fault is the fault itself
fault_is : (n : ℕ) (fault : Option Fault) (f : Finding) → Contains (fault_found n fault) f → (a : Fault) × (fault ≡ Some a) × (f ≡ Malformed n a)
fault_is n None f h = absurd (Contains-none f h)
fault_is n (Some a) f h = by (Contains-cons (Malformed n a) [] f h)
  where
    -- f is the finding of the fault, since it is among this one finding
    by : (Malformed n a ≡ f) ⊎ Contains [] f → (b : Fault) × (Some a ≡ Some b) × (f ≡ Malformed n b)
    by (inl e) = (a, refl, sym e)
    by (inr none) = absurd (Contains-none f none)

-- a list of at most one finding, the fault of an entry, is in order
-- there are no two places in so short a list
fault_alone : (n : ℕ) (fault : Option Fault) → AllPairs Precedes (fault_found n fault)
fault_alone n None = λ i j d low high. absurd (omega (arith, high))
fault_alone n (Some a) = λ i j d low high. absurd (omega (arith, low, high))

-- What follows is of the entry e with the number n, and the numbers of the transactions that come into trouble at it: `broken` have no run more,
-- and `wide` are followed no further.
module _ (p : Times) (es : List (Observation KeyParts)) (e : Observation KeyParts) (n : ℕ) (is : n ≡ length es + 1) (broken wide : List ℕ)
    (breaks : AreNumbers (Breaks p es e) (keys_in (es ++ e ∷ [])) broken) (widens : AreNumbers (Widens p es e) (keys_in (es ++ e ∷ [])) wide) where
  -- the findings of transactions alone: those that break, and those that are followed no further
  abbrev others : List Finding
  others = map (λ t. Breach n t) broken ++ map (λ t. Undecided n t) wide

  -- a finding of a transaction is that one of the broken breaks, or that one of the wide is followed no further
  other_is : (f : Finding) → Contains others f → ((t : ℕ) × Contains broken t × (Breach n t ≡ f)) ⊎ ((t : ℕ) × Contains wide t × (Undecided n t ≡ f))
  other_is f h = by (Contains-append_cases (map (λ t. Breach n t) broken) (map (λ t. Undecided n t) wide) f h)
    where
      -- f is a breach of one of `broken`, or it is undecided of one of `wide`
      by : Contains (map (λ t. Breach n t) broken) f ⊎ Contains (map (λ t. Undecided n t) wide) f → ((t : ℕ) × Contains broken t × (Breach n t ≡ f)) ⊎ ((t : ℕ) × Contains wide t × (Undecided n t ≡ f))
      by (inl c) = inl (Contains-from_map (λ t. Breach n t) broken f c)
      by (inr c) = inr (Contains-from_map (λ t. Undecided n t) wide f c)

  -- a fault comes before each finding of a transaction
  fault_first : (a : Fault) (f : Finding) → ((t : ℕ) × Contains broken t × (Breach n t ≡ f)) ⊎ ((t : ℕ) × Contains wide t × (Undecided n t ≡ f)) → Precedes (Malformed n a) f
  fault_first a f (inl (t, has, same)) = subst (Precedes (Malformed n a)) same tt
  fault_first a f (inr (t, has, same)) = subst (Precedes (Malformed n a)) same tt

  -- a breach comes before each finding that a transaction is followed no further
  broken_first : (f g : Finding) → Contains (map (λ t. Breach n t) broken) f → Contains (map (λ t. Undecided n t) wide) g → Precedes f g
  broken_first f g h k =
      let a = Contains-from_map (λ t. Breach n t) broken f h in
      let b = Contains-from_map (λ t. Undecided n t) wide g k in
      subst (λ x. Precedes x g) a.2 (subst (Precedes (Breach n a.0)) b.2 tt)

  -- where the numbers are in ascending order, the listed findings are in order
  in_order : (fault : Option Fault) → AllPairs Precedes (listed n fault broken wide)
  in_order fault =
      -- the fault comes first; the breaches, and the transactions that are followed no further, are in the order of their numbers
      ordered_append Precedes (fault_found n fault) others (fault_alone n fault)
      (ordered_append Precedes (map (λ t. Breach n t) broken) (map (λ t. Undecided n t) wide)
      (ordered_map (λ a b. a < b) Precedes (λ t. Breach n t) (λ a b low. low) broken breaks.0)
      (ordered_map (λ a b. a < b) Precedes (λ t. Undecided n t) (λ a b low. low) wide widens.0) broken_first)
      -- f is the fault, and g any other finding
      (λ f g h k. let a = fault_is n fault f h in subst (λ x. Precedes x g) (sym a.2) (fault_first a.0 g (other_is g k)))

  -- a finding of a transaction in the list is found at the entry
  other_found : (f : Finding) → ((t : ℕ) × Contains broken t × (Breach n t ≡ f)) ⊎ ((t : ℕ) × Contains wide t × (Undecided n t ≡ f)) → IsFoundAt p es e f
  other_found f (inl (t, has, same)) = subst (IsFoundAt p es e) same (is, (breaks.1 t).0 has)
  other_found f (inr (t, has, same)) = subst (IsFoundAt p es e) same (is, (widens.1 t).0 has)

  -- what is in the list is found at the entry
  into : (f : Finding) → Contains (fault_found n e.fault) f ⊎ Contains others f → IsFoundAt p es e f
  into f (inl h) = let a = fault_is n e.fault f h in subst (IsFoundAt p es e) (sym a.2) (is, a.1)
  into f (inr h) = other_found f (other_is f h)

  -- what is found at the entry is in the list
  from : (f : Finding) → IsFoundAt p es e f → Contains (listed n e.fault broken wide) f
  from (Malformed k a) h =
      subst (λ fault. Contains (fault_found n fault ++ others) (Malformed k a)) (sym h.1)
      (subst (λ m. Contains (Malformed n a ∷ others) (Malformed m a)) (is ∙ sym h.0) (Contains-here (Malformed n a) others))
  -- a breach stands among those after the fault
  from (Breach k t) h =
      subst (λ m. Contains (listed n e.fault broken wide) (Breach m t)) (is ∙ sym h.0)
      (Contains-append_right (fault_found n e.fault) others (Breach n t)
      (Contains-append_left (map (λ u. Breach n u) broken) (map (λ u. Undecided n u) wide) (Breach n t) (Contains-map (λ u. Breach n u) broken t ((breaks.1 t).1 h.1))))
  -- what is undecided stands after the breaches
  from (Undecided k t) h =
      subst (λ m. Contains (listed n e.fault broken wide) (Undecided m t)) (is ∙ sym h.0)
      (Contains-append_right (fault_found n e.fault) others (Undecided n t)
      (Contains-append_right (map (λ u. Breach n u) broken) (map (λ u. Undecided n u) wide) (Undecided n t) (Contains-map (λ u. Undecided n u) wide t ((widens.1 t).1 h.1))))

  -- the listed findings are just those that are found at the entry, in order
  pub listed_found : AreFoundAt p es e (listed n e.fault broken wide)
  listed_found = (in_order e.fault, λ f. (λ h. into f (Contains-append_cases (fault_found n e.fault) others f h), from f))
