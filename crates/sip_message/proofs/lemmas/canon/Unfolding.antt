-- How a text is written without its folds, byte by byte; and a code in its three digits.
use Rattle.std.proofs.Common.{◌≡◌, ℕ, ◌+◌, ◌-◌, ◌/◌, ◌%◌, ◌≤◌, ◌<◌, true, false, cond, List, [], ◌∷◌, ◌++◌, length, take, drop, get_or, refl, sym, ap, ◌∙◌, arith}
use Rattle.std.specs.Prelude.{decimal, Result, Ok, Err, IsErr}
use Rattle.std.specs.Char.{is_ascii_digit}
use Rattle.std.proofs.lemmas.Bool.{both_ways, and_from, le-leb}
use Rattle.std.proofs.lemmas.List.{append_assoc, drop_more, length-drop, take_more, get_or-drop}
use Rattle.std.proofs.lemmas.Str.{digit_value_digit}
use Rattle.sip_standard.specs.Field.{is_lws_byte}
use Rattle.sip_standard.specs.Canonical.{unfolded_run, unfolded_from, unfolded}
use Rattle.sip_message.specs.inner.StartLine.{CodeText}
use Rattle.sip_message.specs.inner.Canon.{Appends}
use Rattle.sip_message.proofs.lemmas.canon.Law.{code-decimal}

-- the output is the old text and what was written; that, the run from `from` up to the index and the rest, unfolded, are the text unfolded
pub record Unfolding (old text : List ℕ) (from at : ℕ) (out : List ℕ) : Type 0 where
  pub done : List ℕ
  pub appended : out ≡ old ++ done
  pub within : from ≤ at
  pub rest : done ++ unfolded_from (take (at - from) (drop from text)) (drop at text) ≡ unfolded text

-- the run up to the place after a byte is the run up to the byte, and the byte
run-more : (text : List ℕ) (from at : ℕ) → from ≤ at → at < length text → take (at + 1 - from) (drop from text) ≡ take (at - from) (drop from text) ++ get_or text at 0 ∷ []
run-more text from at low below =
    -- the run has one byte more, which is the one at the index
    ap (λ n. take n (drop from text)) (omega (arith, low)) ∙ take_more (drop from text) (at - from) 0 (omega (arith, low, below, length-drop from text))
    ∙ ap (λ b. take (at - from) (drop from text) ++ b ∷ []) (get_or-drop from text (at - from) 0 ∙ ap (λ n. get_or text n 0) (omega (arith, low)))

-- where a blank stands at the index, the run goes on, and nothing is written
pub unfold-blank : (old text out : List ℕ) (from at : ℕ) → at < length text → is_lws_byte (get_or text at 0) ≡ true → Unfolding old text from at out → Unfolding old text from (at + 1) out
unfold-blank old text out from at below blank u = record {
  done = u.done;
  appended = u.appended;
  within = omega (arith, u.within);
  -- the byte at the index goes over from the rest to the run, which comes to the same
  rest = ap (λ r. u.done ++ unfolded_from r (drop (at + 1) text)) (run-more text from at u.within below) ∙ ap (λ x. u.done ++ x) (sym step) ∙ u.rest;
}
  where
    -- the run of blanks so far
    run : List ℕ
    run = take (at - from) (drop from text)

    -- the blank at the index is one more of the run
    step : unfolded_from run (drop at text) ≡ unfolded_from (run ++ get_or text at 0 ∷ []) (drop (at + 1) text)
    step =
        -- the rest begins with the byte at the index, which is a blank
        ap (unfolded_from run) (drop_more text at 0 below)
        ∙ ap (λ b. cond b (unfolded_from (run ++ get_or text at 0 ∷ []) (drop (at + 1) text)) (unfolded_run run ++ get_or text at 0 ∷ unfolded_from [] (drop (at + 1) text))) blank

-- where another byte stands at the index, the run, unfolded, and the byte are written
pub unfold-solid : (old text out mid new : List ℕ) (from at : ℕ) → at < length text → is_lws_byte (get_or text at 0) ≡ false → Unfolding old text from at out → mid ≡ out ++ unfolded_run (take (at - from) (drop from text)) → new ≡ mid ++ get_or text at 0 ∷ [] → Unfolding old text (at + 1) (at + 1) new
unfold-solid old text out mid new from at below solid u mid_is new_is = record {
  -- the run, unfolded, and the byte are written after what was written before
  done = u.done ++ (unfolded_run run ++ get_or text at 0 ∷ []);
  appended =
      new_is ∙ ap (λ x. x ++ get_or text at 0 ∷ []) (mid_is ∙ ap (λ x. x ++ unfolded_run run) u.appended ∙ append_assoc old u.done (unfolded_run run))
      ∙ append_assoc old (u.done ++ unfolded_run run) (get_or text at 0 ∷ []) ∙ ap (λ x. old ++ x) (append_assoc u.done (unfolded_run run) (get_or text at 0 ∷ []));
  within = omega arith;
  -- what was written and the rest, unfolded, are the text unfolded
  rest =
      ap (λ n. (u.done ++ (unfolded_run run ++ get_or text at 0 ∷ [])) ++ unfolded_from (take n (drop (at + 1) text)) (drop (at + 1) text)) none
      ∙ append_assoc u.done (unfolded_run run ++ get_or text at 0 ∷ []) (unfolded_from [] (drop (at + 1) text))
      ∙ ap (λ x. u.done ++ x) (append_assoc (unfolded_run run) (get_or text at 0 ∷ []) (unfolded_from [] (drop (at + 1) text)) ∙ sym step) ∙ u.rest;
}
  where
    -- the run of blanks so far
    run : List ℕ
    run = take (at - from) (drop from text)

    -- after the byte a new run begins, with nothing in it
    none : at + 1 - (at + 1) ≡ 0
    none = omega arith

    -- the run is written, unfolded, and then the byte
    step : unfolded_from run (drop at text) ≡ unfolded_run run ++ get_or text at 0 ∷ unfolded_from [] (drop (at + 1) text)
    step =
        -- the rest begins with the byte at the index, which is no blank
        ap (unfolded_from run) (drop_more text at 0 below)
        ∙ ap (λ b. cond b (unfolded_from (run ++ get_or text at 0 ∷ []) (drop (at + 1) text)) (unfolded_run run ++ get_or text at 0 ∷ unfolded_from [] (drop (at + 1) text))) solid

-- where memory is refused, some part of the text was appended
-- `from` and `at` are where the loop began and how far it has come, and r is the result of the call that was refused memory
pub unfold-part : {A E : Type 0} (old text out new goal : List ℕ) (from at : ℕ) (r : Result A E) → IsErr r → Unfolding old text from at out → (part : List ℕ) × (new ≡ out ++ part) → Appends old new goal r
-- the result would be a value, though it is an error
unfold-part old text out new goal from at (Ok a) err u is = absurd (both_ways false refl err)
-- after what was written, a part of the rest was appended
unfold-part old text out new goal from at (Err e) err u is = (u.done ++ is.0, is.1 ∙ ap (λ x. x ++ is.0) u.appended ∙ append_assoc old u.done is.0)

-- a part that is appended after a front is, with the front, a part that is appended
pub part-more : (out mid new front : List ℕ) → mid ≡ out ++ front → (part : List ℕ) × (new ≡ mid ++ part) → (part : List ℕ) × (new ≡ out ++ part)
part-more out mid new front mid_is is = (front ++ is.0, is.1 ∙ ap (λ x. x ++ is.0) mid_is ∙ append_assoc out front is.0)

-- '0' and a number below ten make a digit
digit-is : (a : ℕ) → a < 10 → is_ascii_digit (48 + a) ≡ true
-- 48 is "0", and 57 is "9"
digit-is a small = and_from _ _ (le-leb 48 (48 + a) (omega arith)) (le-leb (48 + a) 57 (omega (arith, small)))

-- the three digits of a status code are its decimal
pub three-digits : (code : ℕ) → 100 ≤ code → code < 700 → ◌≡◌ {A = List ℕ} ((48 + code / 100) ∷ (48 + code / 10 % 10) ∷ (48 + code % 10) ∷ []) (decimal code)
-- the decimal of a code is how its three digits spell it
three-digits code low high = sym (code-decimal ((48 + code / 100) ∷ (48 + code / 10 % 10) ∷ (48 + code % 10) ∷ []) code is)
  where
    -- the first digit is below 10
    x : code / 100 < 10
    x = omega (arith, high)

    -- the second digit is below 10
    y : code / 10 % 10 < 10
    y = omega arith

    -- the third digit is below 10
    z : code % 10 < 10
    z = omega arith

    -- the three digits are the text of the code
    is : CodeText ((48 + code / 100) ∷ (48 + code / 10 % 10) ∷ (48 + code % 10) ∷ []) code
    is = (
      -- each digit is one byte, from "0" to "9"
      (((48 + code / 100) ∷ []) ∷ ((48 + code / 10 % 10) ∷ []) ∷ ((48 + code % 10) ∷ []) ∷ [], ((48 + code / 100, digit-is (code / 100) x, refl), ((48 + code / 10 % 10, digit-is (code / 10 % 10) y, refl), ((48 + code % 10, digit-is (code % 10) z, refl), tt))), refl, omega arith, omega arith),
      -- the number that the three digits write is the code
      omega (arith, digit_value_digit (48 + code / 100) (omega arith, omega (arith, x)), digit_value_digit (48 + code / 10 % 10) (omega arith, omega (arith, y)), digit_value_digit (48 + code % 10) (omega arith, omega (arith, z))),
      low,
      high,
    )
