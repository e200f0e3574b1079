-- Numbers of transactions that hear an event, one after another.
-- In the lemmas ns are the numbers, n is one of them, and i the place of the next one; t are the tables, and b is what is in trouble.
use Rattle.std.proofs.Common.{◌≡◌, ◌≢◌, ◌≤◌, ◌<◌, ◌+◌, ℕ, zero, suc, true, false, List, [], ◌∷◌, AllPairs, length, get_or, drop, slice_get, refl, sym, ap, ◌∙◌, subst, arith, add-one, drop-cons}
use Rattle.sip_standard.specs.Key.{KeyParts}
use Rattle.sip_standard.specs.Times.{Times}
use Rattle.sip_machine.specs.Texts.{Texts}
use Rattle.sip_machine.specs.NumberedEvent.{NumberedEvent}
use Rattle.sip_standard.proofs.Few.{AllPairs-tail}
use Rattle.sip_states.specs.Tables.{Tabled}
use Rattle.sip_verdict.specs.declared.troubled.Troubled.{Troubled}
use Rattle.sip_standard.specs.Observation.{Observation}
use Rattle.sip_verdict.specs.Entries.{newest_moment}
use Rattle.sip_verdict.specs.inner.TablesTracking.{is_among}
use Rattle.sip_verdict.specs.inner.Surveying.{AreConcerned, ArePassing, HearsNumbers}
use Rattle.sip_verdict.proofs.tables.TablesPassing.{among_rest, first_apart}

-- from the place i on, a list has its number at i and then the numbers after i
pub next_number : (ns : List ℕ) (i : ℕ) → i < length ns → drop i ns ≡ get_or ns i 0 ∷ drop (i + 1) ns
next_number ns i low = rw (add-one, drop-cons ns i 0) refl

-- where all numbers differ, those from the place i on differ
apart_from : (ns : List ℕ) (i : ℕ) → AllPairs (λ a b. a ≢ b) ns → AllPairs (λ a b. a ≢ b) (drop i ns)
apart_from ns zero apart = apart
-- in an empty list nothing is left; else the numbers from the place i + 1 on are those from i on of the list without its first number
apart_from [] (suc i) apart = apart
apart_from (n ∷ ns) (suc i) apart = apart_from ns i (AllPairs-tail (λ a b. a ≢ b) n ns apart)

-- where all numbers differ, the one at the place i is not among those after it
pub next_apart : (ns : List ℕ) (i : ℕ) → AllPairs (λ a b. a ≢ b) ns → i < length ns → is_among (drop (i + 1) ns) (get_or ns i 0) ≡ false
next_apart ns i apart low = first_apart (get_or ns i 0) (drop (i + 1) ns) (subst (AllPairs (λ a b. a ≢ b)) (next_number ns i low) (apart_from ns i apart))

-- a number from the place i on is among all
pub rest_among : (ns : List ℕ) (i n : ℕ) → is_among (drop i ns) n ≡ true → is_among ns n ≡ true
rest_among ns zero n h = h
-- in an empty list nothing is left; else the number is among the others, and so among all
rest_among [] (suc i) n h = h
rest_among (m ∷ ns) (suc i) n h = among_rest n m ns (rest_among ns i n h)

-- after the last none is left
-- in an empty list nothing is left; a list with a first number does not end at the place 0
pub none_left : (ns : List ℕ) (i : ℕ) → length ns ≤ i → drop i ns ≡ []
none_left [] zero low = refl
none_left [] (suc i) low = refl
none_left (n ∷ ns) zero low = absurd (omega (arith, low))
none_left (n ∷ ns) (suc i) low = none_left ns i (omega (arith, low))

-- an event that concerns the keys with all these numbers concerns those with the numbers from the place i on
pub concerned_rest : (texts : Texts) (p : Times) (es : List (Observation KeyParts)) (e : Observation KeyParts) (event : NumberedEvent) (ns : List ℕ) (i number : ℕ) → drop i ns ≡ number ∷ drop (i + 1) ns → (keys now : List KeyParts) → now ≡ keys
    → AreConcerned texts p es e event ns keys → AreConcerned texts p es e event (number ∷ drop (i + 1) ns) now
concerned_rest texts p es e event ns i number next keys now same concerned n key at among =
    concerned n key (ap (λ ks. slice_get ks n) (sym same) ∙ at) (rest_among ns i (n + 1) (subst (λ xs. is_among xs (n + 1) ≡ true) (sym next) among))

-- What follows is of one event that transactions hear, beside the book `texts`.
module _ (texts : Texts) (event : NumberedEvent) where
  -- where there is no number, nothing changes when the event is heard
  pub hears_none : (t : Tabled) (b : Troubled) → HearsNumbers texts event [] t b t b
  hears_none t b p es e times late apart concerned h = h

  -- the transaction with this number has heard the event, and those with the numbers of `waits` are still to hear it
  abbrev HearsFirst : ℕ → Tabled → Troubled → Tabled → Troubled → Type 0
  HearsFirst number t b u c =
      (p : Times) (es : List (Observation KeyParts)) (e : Observation KeyParts) (waits : List ℕ) → t.times ≡ p → newest_moment es ≤ event.moment → is_among waits number ≡ false
      → AreConcerned texts p es e event (number ∷ waits) t.keys → ArePassing texts p es e (is_among (number ∷ waits)) t b → ArePassing texts p es e (is_among waits) u c

  -- where one transaction has heard the event, those of the list with its number alone have
  -- t and b are the tables and the trouble before, and u and c those after
  pub hears_one : (number : ℕ) (t : Tabled) (b : Troubled) (u : Tabled) (c : Troubled) → HearsFirst number t b u c → HearsNumbers texts event (number ∷ []) t b u c
  hears_one number t b u c heard p es e times late apart concerned h = heard p es e [] times late refl concerned h

  -- where two transactions hear the event, one after the other, those of the list of both have
  -- t and b are the tables and the trouble before, u and c those between, and v and d those after
  pub hears_two : (own cancelled : ℕ) (t : Tabled) (b : Troubled) (u : Tabled) (c : Troubled) (v : Tabled) (d : Troubled) → u.times ≡ t.times → u.keys ≡ t.keys
      → HearsFirst own t b u c → HearsFirst cancelled u c v d → HearsNumbers texts event (own ∷ cancelled ∷ []) t b v d
  hears_two own cancelled t b u c v d same_times same_keys first second p es e times late apart concerned h =
      second p es e [] (same_times ∙ times) late refl
      (λ n key at among. concerned n key (ap (λ ks. slice_get ks n) (sym same_keys) ∙ at) (among_rest (n + 1) own (cancelled ∷ []) among))
      (first p es e (cancelled ∷ []) times late (first_apart own (cancelled ∷ []) apart) concerned h)
