-- The canonical form of a message spells it.
-- In the lemmas l and ls are the first line and the others, or m and ms are; as Bools, x and y are what two tests of a byte say.
-- `Cuts` tells of two cuts of one text which first part is longer, if one is: `first_longer`, `same_length`, `second_longer`.
use Rattle.std.proofs.Common.{◌≡◌, ℕ, ◌+◌, ◌≤◌, Bool, true, false, not, ◌&&◌, ◌||◌, List, [], ◌∷◌, ◌++◌, length, cond, nat_eq, refl, sym, ap, ◌∙◌, subst, inl, inr, arith}
use Rattle.std.specs.List.{AllByRecursion, flat_map, list_any}
use Rattle.std.proofs.lemmas.Bool.{both_ways}
use Rattle.std.proofs.lemmas.List.{append_assoc, append-nil, length-append}
use Rattle.sip_text.specs.Bytes.{crlf, carriage_return, line_feed, space}
use Rattle.sip_text.specs.inner.Blanks.{is_wsp}
use Rattle.sip_text.proofs.texts.ManyLemmas.{many-nil, many-cons, many-append, many-one}
use Rattle.sip_standard.specs.Lines.{CutSays}
use Rattle.sip_message.specs.inner.Lines.{is_inner_byte, HasNoBareEnd, IsFolded, with_end}
use Rattle.sip_standard.specs.Field.{is_lws_byte}
use Rattle.sip_standard.specs.Canonical.{is_end_byte, unfolded_run, unfolded_from, unfolded}
use Rattle.sip_message.proofs.lemmas.text.Cuts.{Cuts, first_longer, same_length, second_longer, two_cuts, All, all_right, all_both}

-- no byte of the text is CR or LF
abbrev pub Inner : List ℕ → Type 0
Inner = All is_inner_byte

-- a run of blanks that is unfolded has no CR and no LF
run-inner : (run : List ℕ) → Inner (unfolded_run run)
run-inner run = at (list_any is_end_byte run) refl
  where
    -- a byte that is no line end is neither CR nor LF
    inner : (x y : Bool) → (x || y) ≡ false → (not x && not y) ≡ true
    inner true y is = absurd (both_ways true is refl)
    inner false true is = absurd (both_ways true is refl)
    inner false false is = refl

    -- where neither test passes, the first does not
    left : (x y : Bool) → (x || y) ≡ false → x ≡ false
    left true y is = is
    left false y is = refl

    -- where neither test passes, the second does not
    right : (x y : Bool) → (x || y) ≡ false → y ≡ false
    -- the first test fails too
    right true y is = absurd (both_ways true is refl)
    right false y is = is

    -- a text in which no byte ends a line has neither CR nor LF
    each : (text : List ℕ) → list_any is_end_byte text ≡ false → Inner text
    each [] is = tt
    each (b ∷ text) is =
        (inner (nat_eq b carriage_return) (nat_eq b line_feed) (left (is_end_byte b) (list_any is_end_byte text) is), each text (right (is_end_byte b) (list_any is_end_byte text) is))

    -- the claim holds whether or not the run has a fold, which becomes one SP
    at : (folds : Bool) → list_any is_end_byte run ≡ folds → Inner (cond folds (space ∷ []) run)
    -- with a fold the run becomes one SP, and without one it stays as it is
    at true is = (refl, tt)
    at false is = each run is

-- a byte that is no blank is neither CR nor LF
pub solid-inner : (b : ℕ) → is_lws_byte b ≡ false → is_inner_byte b ≡ true
solid-inner b is = at (is_wsp b) (nat_eq b carriage_return) (nat_eq b line_feed) is
  where
    -- a byte that is no blank is neither CR nor LF
    -- x, y and z say whether the byte is a SP or HTAB, a CR and a LF
    at : (x y z : Bool) → (x || (y || z)) ≡ false → (not y && not z) ≡ true
    at true y z e = absurd (both_ways true e refl)
    at false true z e = absurd (both_ways true e refl)
    at false false true e = absurd (both_ways true e refl)
    at false false false e = refl

-- what is written of a run of blanks and a text, unfolded, has no CR and no LF
from-inner : (text run : List ℕ) → Inner (unfolded_from run text)
-- the text has ended, and the run is written
from-inner [] run = run-inner run
from-inner (b ∷ text) run = at (is_lws_byte b) refl (from-inner text (run ++ b ∷ [])) (from-inner text [])
  where
    -- the claim holds whether or not b is a blank
    at : (blank : Bool) → is_lws_byte b ≡ blank → Inner (unfolded_from (run ++ b ∷ []) text) → Inner (unfolded_from [] text) → Inner (cond blank (unfolded_from (run ++ b ∷ []) text) (unfolded_run run ++ b ∷ unfolded_from [] text))
    -- a blank joins the run; at another byte the run is written, and then the byte
    at true is left right = left
    at false is left right = all_both is_inner_byte (unfolded_run run) (b ∷ unfolded_from [] text) (run-inner run) (solid-inner b is, right)

-- a text that is unfolded has no CR and no LF
pub unfolded-inner : (text : List ℕ) → Inner (unfolded text)
unfolded-inner text = from-inner text []

-- a run without CR and LF stays as it is when it is unfolded
inner-run : (run : List ℕ) → Inner run → unfolded_run run ≡ run
inner-run run inner = ap (λ folds. cond folds (space ∷ []) run) (none run inner)
  where
    -- a byte that is neither CR nor LF is no line end
    no_end : (x y : Bool) → (not x && not y) ≡ true → (x || y) ≡ false
    no_end true y is = absurd (both_ways false refl is)
    -- a CR or a LF would not have passed
    no_end false true is = absurd (both_ways false refl is)
    no_end false false is = refl

    -- in a text with neither CR nor LF no byte ends a line
    none : (text : List ℕ) → Inner text → list_any is_end_byte text ≡ false
    -- in an empty text no byte ends a line; in another one neither the first byte does nor a later one
    none [] all = refl
    none (b ∷ text) all = ap (λ x. x || list_any is_end_byte text) (no_end (nat_eq b carriage_return) (nat_eq b line_feed) all.0) ∙ none text all.1

-- what is written of a run and a text without CR and LF is the run and the text
from-same : (text run : List ℕ) → Inner run → Inner text → unfolded_from run text ≡ run ++ text
-- the text has ended, and the run is written
from-same [] run inner all = inner-run run inner ∙ sym (append-nil run)
from-same (b ∷ text) run inner all = at (is_lws_byte b) (from-same text (run ++ b ∷ []) (all_both is_inner_byte run (b ∷ []) inner (all.0, tt)) all.1) (from-same text [] tt all.1)
  where
    -- the claim holds whether or not b is a blank
    at : (blank : Bool) → unfolded_from (run ++ b ∷ []) text ≡ (run ++ b ∷ []) ++ text → unfolded_from [] text ≡ text → cond blank (unfolded_from (run ++ b ∷ []) text) (unfolded_run run ++ b ∷ unfolded_from [] text) ≡ run ++ b ∷ text
    -- a blank joins the run; at another byte the run is written, and then the byte
    at true left right = left ∙ append_assoc run (b ∷ []) text
    at false left right = ap (λ t. t ++ b ∷ unfolded_from [] text) (inner-run run inner) ∙ ap (λ t. run ++ b ∷ t) right

-- a text without CR and LF stays as it is when it is unfolded
pub unfolded-same : (text : List ℕ) → Inner text → unfolded text ≡ text
unfolded-same text inner = from-same text [] tt inner

-- a text that is unfolded twice is the one that is unfolded once
pub unfolded-twice : (text : List ℕ) → unfolded (unfolded text) ≡ unfolded text
unfolded-twice text = unfolded-same (unfolded text) (unfolded-inner text)

-- no line is empty, and no line has CR or LF in it
abbrev pub AreInner : List (List ℕ) → Type 0
AreInner = AllByRecursion (λ line. Inner line × (line ≡ [] → ⊥))

-- in lines without CR and LF, none of them empty, no empty line stands before the one after them
no_empty : (lines : List (List ℕ)) (u v body : List ℕ) → AreInner lines → flat_map with_end lines ++ (crlf ++ body) ≡ u ++ (crlf ++ (crlf ++ v)) → length (flat_map with_end lines) ≤ length u + 2
-- the text of no lines is empty
no_empty [] u v body inner is = omega arith
no_empty (l ∷ ls) u v body inner is = at (λ z z_is. no_empty ls z v body inner.1 z_is) (two_cuts l (crlf ++ (flat_map with_end ls ++ (crlf ++ body))) u (crlf ++ (crlf ++ v)) whole)
  where
    -- the text begins with the first line and its end
    whole : l ++ (crlf ++ (flat_map with_end ls ++ (crlf ++ body))) ≡ u ++ (crlf ++ (crlf ++ v))
    whole =
        sym (ap (λ t. t ++ (crlf ++ body)) (append_assoc l crlf (flat_map with_end ls)) ∙ append_assoc l (crlf ++ flat_map with_end ls) (crlf ++ body)) ∙ is

    -- the lines are as long as the first line, its end and the others
    size : length (flat_map with_end (l ∷ ls)) ≡ length l + 2 + length (flat_map with_end ls)
    size = omega (arith, length-append (with_end l) (flat_map with_end ls), length-append l crlf)

    -- where the lines begin with the empty line, there are none
    last : (ms : List (List ℕ)) → AreInner ms → flat_map with_end ms ++ (crlf ++ body) ≡ crlf ++ v → length (flat_map with_end ms) ≡ 0
    -- there are no lines; else the first one would be empty, or would begin with CR
    last [] all same = refl
    last ([] ∷ ms) all same = absurd (all.0.1 refl)
    last ((b ∷ m) ∷ ms) all same =
        let head : b ≡ carriage_return = cc in
        absurd (both_ways (is_inner_byte carriage_return) refl (subst (λ x. is_inner_byte x ≡ true) head all.0.0.0))

    -- the lines are no longer than u and 2 bytes, whether the empty line begins in the first line, which has no CR, or after it
    at : ((z : List ℕ) → flat_map with_end ls ++ (crlf ++ body) ≡ z ++ (crlf ++ (crlf ++ v)) → length (flat_map with_end ls) ≤ length z + 2) → Cuts l (crlf ++ (flat_map with_end ls ++ (crlf ++ body))) u (crlf ++ (crlf ++ v)) → length (flat_map with_end (l ∷ ls)) ≤ length u + 2
    -- the first line ends where u does, so that the empty line follows it, and no lines are left
    at later (same_length front back) =
        let tails : carriage_return ∷ line_feed ∷ (flat_map with_end ls ++ (crlf ++ body)) ≡ carriage_return ∷ line_feed ∷ (crlf ++ v) = back in
        omega (arith, size, last ls inner.1 (cc), ap length front)
    -- the first line would go on after u with a CR, but has none
    at later (first_longer c z longer back) =
        let head : carriage_return ≡ c = cc in
        absurd (both_ways (is_inner_byte carriage_return) refl (subst (λ x. is_inner_byte x ≡ true) (sym head) (all_right is_inner_byte u (c ∷ z) (subst Inner longer inner.0.0)).0))
    -- the first line would be one byte longer, a CR
    at later (second_longer c [] longer back) =
        let tails : carriage_return ∷ line_feed ∷ (flat_map with_end ls ++ (crlf ++ body)) ≡ c ∷ (carriage_return ∷ (line_feed ∷ (crlf ++ v))) = back in
        let heads : line_feed ≡ carriage_return = cc in
        absurd (omega (arith, heads))
    -- the first line would be longer by a CR and more, so the empty line begins after it
    at later (second_longer c (d ∷ z) longer back) =
        let tails : carriage_return ∷ line_feed ∷ (flat_map with_end ls ++ (crlf ++ body)) ≡ c ∷ d ∷ (z ++ (crlf ++ (crlf ++ v))) = back in
        omega (arith, size, later z (cc), ap length longer, length-append l (c ∷ d ∷ z))

-- lines without CR and LF, none of them empty, and an empty line after them are a head, and what follows is the body
pub lines-head : (l : List ℕ) (ls : List (List ℕ)) (body : List ℕ) → AreInner (l ∷ ls) → CutSays (flat_map with_end (l ∷ ls) ++ (crlf ++ body)) (flat_map with_end (l ∷ ls), body)
lines-head l ls body inner =
    let cut = last_end l ls in
    record {
      front = cut.0;
      head_is = cut.1;
      -- the last line end and the empty line after it are the CRLF CRLF of the head's end
      whole = ap (λ t. t ++ (crlf ++ body)) cut.1 ∙ append_assoc cut.0 crlf (crlf ++ body);
      first = λ u v is. omega (arith, no_empty (l ∷ ls) u v body inner is, ap length cut.1, length-append cut.0 crlf);
    }
  where
    -- lines with their ends end with CRLF
    last_end : (m : List ℕ) (ms : List (List ℕ)) → (front : List ℕ) × (flat_map with_end (m ∷ ms) ≡ front ++ crlf)
    -- of one line the front is that line; of more, it is the first line with its end, and the front of the others
    last_end m [] = (m, append-nil (with_end m))
    last_end m (n ∷ ms) = let later = last_end n ms in (with_end m ++ later.0, ap (λ t. with_end m ++ t) later.1 ∙ sym (append_assoc (with_end m) later.0 crlf))

-- a line without CR and LF has no fold
inner-folded : (line : List ℕ) → Inner line → IsFolded line
inner-folded line inner u v is =
    -- a fold begins with CR, which the line has not
    absurd (both_ways (is_inner_byte carriage_return) refl (all_right is_inner_byte u (crlf ++ v) (subst Inner is inner)).0)

-- lines without CR and LF have no folds
pub inner-folds : (lines : List (List ℕ)) → AreInner lines → AllByRecursion IsFolded lines
inner-folds [] inner = tt
inner-folds (l ∷ ls) inner = (inner-folded l inner.0.0, inner-folds ls inner.1)

-- a line without CR and LF has no bare line end
inner-many : (line : List ℕ) → Inner line → HasNoBareEnd line
inner-many [] inner = many-nil _
-- each byte is one within a line
inner-many (b ∷ line) inner = many-cons _ (b ∷ []) line (inr (b, inner.0, refl)) (inner-many line inner.1)

-- lines without CR and LF have, with their ends, no bare line end
pub inner-no_bare : (lines : List (List ℕ)) → AreInner lines → HasNoBareEnd (flat_map with_end lines)
inner-no_bare [] inner = many-nil _
inner-no_bare (l ∷ ls) inner =
    -- the first line, its end, and the other lines with theirs
    many-append _ (with_end l) (flat_map with_end ls) (many-append _ l crlf (inner-many l inner.0.0) (many-one _ crlf (inl refl))) (inner-no_bare ls inner.1)
