-- Where the search stops as it passes over the value of a Via.
-- Of bytes 44 is the comma, 59 the semicolon and 13 CR.
use Rattle.std.proofs.Common.{◌≡◌, ◌∙◌, ℕ, zero, suc, ◌<◌, Bool, true, false, ◌||◌, List, [], ◌∷◌, length, drop, nat_eq, if◌then◌else◌, refl, sym, ap, arith}
use Rattle.std.proofs.lemmas.Bool.{false_from_ne_true, eqb-true, eq-eqb}
use Rattle.memchr.specs.Find.{Nowhere, Passes, is_byte3}
use Rattle.sip_standard.specs.Chars.{is_among}
use Rattle.sip_part.specs.Led.{from_stop}

-- it is the same to compare a with b and b with a
either_way : (a b : ℕ) → nat_eq a b ≡ nat_eq b a
either_way a b = by (nat_eq a b) (nat_eq b a) refl refl
  where
    -- where one of the two tests passes, the other does
    by : (x y : Bool) → nat_eq a b ≡ x → nat_eq b a ≡ y → x ≡ y
    by true true is other = refl
    by false false is other = refl
    by true false is other = sym (eq-eqb b a (sym (eqb-true a b is))) ∙ other
    by false true is other = sym is ∙ eq-eqb a b (sym (eqb-true b a other))

-- the bytes among ",;\r" are the three bytes that the code looks for
same_stops : (b : ℕ) → is_among ",;\r" b ≡ is_byte3 44 59 13 b
same_stops b =
    ap (λ x. x || (nat_eq 59 b || (nat_eq 13 b || false))) (either_way 44 b) ∙ ap (λ y. nat_eq b 44 || (y || (nat_eq 13 b || false))) (either_way 59 b)
    ∙ ap (λ z. nat_eq b 44 || (nat_eq b 59 || (z || false))) (either_way 13 b) ∙ by (nat_eq b 44) (nat_eq b 59) (nat_eq b 13)
  where
    -- three tests that are joined by "or" come to the same, whichever two are joined first
    by : (x y z : Bool) → (x || (y || (z || false))) ≡ ((x || y) || z)
    by true y z = refl
    by false true z = refl
    by false false true = refl
    by false false false = refl

-- a byte that is no comma, no semicolon and no CR is no stop
pub no_stop : (b : ℕ) → nat_eq b 44 ≡ false → nat_eq b 59 ≡ false → nat_eq b 13 ≡ false → is_among ",;\r" b ≡ false
no_stop b one two three = same_stops b ∙ ap (λ x. (x || nat_eq b 59) || nat_eq b 13) one ∙ ap (λ x. x || nat_eq b 13) two ∙ three

-- where the first of the three bytes stands at the place k, the text from its first stop on is the text from k on
pub stop_first : (k : ℕ) (text : List ℕ) → k < length text → Nowhere (Passes (is_byte3 44 59 13) text) 0 k → Passes (is_byte3 44 59 13) text k → from_stop text ≡ drop k text
-- an empty text has no place
stop_first k [] within none is = absurd (omega (arith, within))
-- a stop at the front is the first one
stop_first zero (b ∷ text) within none is = ap (λ here. if here then b ∷ text else from_stop text) (same_stops b ∙ is)
-- the first stop stands in the rest, one place earlier than in the text
stop_first (suc k) (b ∷ text) within none is =
    let other : is_byte3 44 59 13 b ≡ false = false_from_ne_true (is_byte3 44 59 13 b) (none 0 (omega arith) (omega arith)) in
    ap (λ here. if here then b ∷ text else from_stop text) (same_stops b ∙ other)
    ∙ stop_first k text (omega (arith, within)) (λ j low high. none (suc j) (omega arith) (omega arith)) is

-- where none of the three bytes stands in the text, nothing is left from a stop on
pub stop_nowhere : (text : List ℕ) → Nowhere (Passes (is_byte3 44 59 13) text) 0 (length text) → from_stop text ≡ []
stop_nowhere [] none = refl
stop_nowhere (b ∷ text) none =
    let other : is_byte3 44 59 13 b ≡ false = false_from_ne_true (is_byte3 44 59 13 b) (none 0 (omega arith) (omega arith)) in
    ap (λ here. if here then b ∷ text else from_stop text) (same_stops b ∙ other) ∙ stop_nowhere text (λ j low high. none (suc j) (omega arith) (omega arith))
