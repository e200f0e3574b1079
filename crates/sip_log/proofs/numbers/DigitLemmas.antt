-- The digits at the front of a text, before a blank.
use Rattle.std.proofs.Common.{◌≡◌, ◌+◌, ◌<◌, ◌≤◌, ◌++◌, inl, inr, ℕ, List, ◌∷◌, length, take, drop, get_or, subst, sym, ap, ◌∙◌, arith}
use Rattle.std.proofs.lemmas.Bool.{cases_lt}
use Rattle.std.proofs.lemmas.List.{get_or-take, length-append, length-take-le}
use Rattle.std.proofs.Math.ListN.{get_or-append}
use Rattle.std.proofs.Math.Seq.{get_or-append_seam, take-append_seam, drop-append_seam}
use Rattle.std.specs.Int.{IsInRange}
use Rattle.std.specs.Char.{IsNotAsciiDigit}
use Rattle.std.specs.Str.Parse.{AllDigits}
use Rattle.std.proofs.lemmas.Str.Parse.{digit_at}
use Rattle.sip_log.specs.inner.Spelling.{space}

-- where the digits `front` and a blank begin a text, and the longest run of digits that was read ends at `at`, the run is as long as `front`
digits-len : (text front back : List ℕ) (at : ℕ) → text ≡ front ++ space ∷ back → AllDigits 10 front → at ≤ length text → AllDigits 10 (take at text)
    → (at < length text → IsNotAsciiDigit (get_or text at 0)) → at ≡ length front
digits-len text front back at whole digits within run other =
    let len = ap length whole ∙ length-append front (space ∷ back) in
    let blank : get_or text (length front) 0 ≡ space = ap (λ (t : List ℕ). get_or t (length front) 0) whole ∙ get_or-append_seam front space back 0 in
    elim (cases_lt at (length front)) as (λ _. at ≡ length front) [
      -- fewer digits cannot have been read, since the next byte is one of the digits
      | inl low ↦
          let same : get_or text at 0 ≡ get_or front at 0 = ap (λ (t : List ℕ). get_or t at 0) whole ∙ get_or-append front (space ∷ back) 0 at low in
          absurd (omega (arith, digit_at front at digits low, other (omega (arith, len)), same))
      -- more digits cannot have been read, since the blank is no digit
      | inr high ↦ elim (cases_lt (length front) at) as (λ _. at ≡ length front) [
        | inl more ↦
            let digit = digit_at (take at text) (length front) run (omega (arith, length-take-le at text within)) in
            absurd (omega (arith, digit, get_or-take at text (length front) 0 more, blank))
        | inr less ↦ omega arith
      ]
    ]

-- where digits and a blank begin a text, the run of digits at its front is these digits, and the blank and the rest come after it
pub digits-front : (text front back : List ℕ) (at : ℕ) → text ≡ front ++ space ∷ back → AllDigits 10 front → at ≤ length text → AllDigits 10 (take at text)
    → (at < length text → IsNotAsciiDigit (get_or text at 0)) → (take at text ≡ front) × (drop at text ≡ space ∷ back)
digits-front text front back at whole digits within run other =
    let len = digits-len text front back at whole digits within run other in (
      ap (λ n. take n text) len ∙ ap (λ (t : List ℕ). take (length front) t) whole ∙ take-append_seam front (space ∷ back),
      ap (λ n. drop n text) len ∙ ap (λ (t : List ℕ). drop (length front) t) whole ∙ drop-append_seam front (space ∷ back),
    )
