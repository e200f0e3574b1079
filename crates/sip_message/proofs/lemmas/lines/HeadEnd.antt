-- The head ends where the empty line is found, and its lines' ends are whole.
-- In the lemmas t is a text, and j, k and n are places in it.
-- `OccursAt t u k` says that the text u stands in t at the place k; `Nowhere P i j` that P holds at no place from i up to j; `NoneBefore P i j k` that it
-- holds at none before k, which lies between them. `IsPaired t k` says that a LF stands after the byte at k exactly if it is a CR.
use Rattle.std.proofs.Common.{◌≡◌, ℕ, zero, suc, ◌+◌, ◌-◌, ◌<◌, ◌≤◌, ◌⊎◌, Bool, true, false, nat_lt, nat_eq, not, ◌||◌, ◌&&◌, List, [], ◌∷◌, ◌++◌, length, take, drop, get_or, refl, sym, ap, ap₂, ◌∙◌, subst, inl, inr, arith}
use Rattle.std.specs.List.{concat, flat_map}
use Rattle.std.proofs.lemmas.Bool.{both_ways, cases_lt, and_parts, not-true, eqb-true, eq-eqb, ltb-true, ltb-false}
use Rattle.std.proofs.lemmas.List.{length-append, length-drop, get_or-drop, get_or-append-add, get_or_append_left, take-append-drop, length-take-le}
use Rattle.std.proofs.Math.Seq.{drop-append-add, take-append-add, take-length}
use Rattle.memchr.specs.Find.{OccursAt, Nowhere, NoneBefore, Passes, is_byte2}
use Rattle.sip_standard.specs.Text.{One, Exactly, ◌or◌}
use Rattle.sip_text.specs.Bytes.{crlf, carriage_return, line_feed}
use Rattle.sip_text.proofs.texts.ManyLemmas.{many-nil, many-cons}
use Rattle.sip_standard.specs.Lines.{CutSays, LinesSay}
use Rattle.sip_message.specs.inner.Lines.{is_inner_byte, HasNoBareEnd, with_end, AreLines, IsPaired, ArePaired, BeginsWithFeed}
use Rattle.sip_message.specs.inner.Fronts.{LineFront}
use Rattle.sip_message.proofs.lemmas.text.Cuts.{All}
use Rattle.sip_message.proofs.lemmas.front.Cuts.{ReadAs, NotRead}
use Rattle.sip_message.proofs.lemmas.lines.OneWay.{same_head, no_blank}

-- CRLF CRLF: the end of a line, and an empty line
abbrev pub double_end : List ℕ
double_end = carriage_return ∷ line_feed ∷ carriage_return ∷ line_feed ∷ []

-- a text whose first four bytes are a, b, c and d is these and what follows
four : (t : List ℕ) (a b c d : ℕ) → 4 ≤ length t → get_or t 0 0 ≡ a → get_or t 1 0 ≡ b → get_or t 2 0 ≡ c → get_or t 3 0 ≡ d → t ≡ a ∷ b ∷ c ∷ d ∷ drop 4 t
-- a text of fewer than four bytes is not so long; of a longer one the four bytes are put in one after another
four [] a b c d long e f g h = absurd (omega (arith, long))
four (x ∷ []) a b c d long e f g h = absurd (omega (arith, long))
four (x ∷ y ∷ []) a b c d long e f g h = absurd (omega (arith, long))
four (x ∷ y ∷ z ∷ []) a b c d long e f g h = absurd (omega (arith, long))
four (x ∷ y ∷ z ∷ w ∷ t) a b c d long e f g h =
    ap (λ o. o ∷ y ∷ z ∷ w ∷ t) e ∙ ap (λ o. a ∷ o ∷ z ∷ w ∷ t) f ∙ ap (λ o. a ∷ b ∷ o ∷ w ∷ t) g ∙ ap (λ o. a ∷ b ∷ c ∷ o ∷ t) h

-- where CRLF CRLF occurs at place k, the text is its first k bytes, CRLF CRLF and what follows
occurs-cut : (t : List ℕ) (k : ℕ) → OccursAt t double_end k → t ≡ take k t ++ (crlf ++ (crlf ++ drop 4 (drop k t)))
-- the first k bytes and the others are the text, and the others begin with the four bytes
occurs-cut t k at = sym (take-append-drop k t) ∙ ap (λ x. take k t ++ x) (four (drop k t) 13 10 13 10 (omega (arith, at.fits, length-drop k t)) (byte 0 (omega arith)) (byte 1 (omega arith)) (byte 2 (omega arith)) (byte 3 (omega arith)))
  where
    -- each of the four bytes from place k on is one of CRLF CRLF
    byte : (j : ℕ) → j < 4 → get_or (drop k t) j 0 ≡ get_or double_end j 0
    byte j below = get_or-drop k t j 0 ∙ at.reads j below

-- where a text is u, CRLF CRLF and v, CRLF CRLF occurs at the length of u
cut-occurs : (t u v : List ℕ) → t ≡ u ++ (crlf ++ (crlf ++ v)) → OccursAt t double_end (length u)
cut-occurs t u v is = record {
  -- CRLF CRLF lies within the text, and its bytes are those after u
  fits = omega (arith, ap length is, length-append u (crlf ++ (crlf ++ v)));
  reads = λ j below. ap (λ x. get_or x (length u + j) 0) is ∙ get_or-append-add u (crlf ++ (crlf ++ v)) j 0 ∙ get_or_append_left double_end v 0 j below;
}

-- LF CR LF: what CRLF CRLF has after its first byte
abbrev pub inner_end : List ℕ
inner_end = line_feed ∷ carriage_return ∷ line_feed ∷ []

-- where CRLF CRLF occurs at place k, LF CR LF occurs at place k + 1
double-inner : (t : List ℕ) (k : ℕ) → OccursAt t double_end k → OccursAt t inner_end (k + 1)
double-inner t k at = record {
  fits = omega (arith, at.fits);
  reads = λ j below. ap (λ i. get_or t i 0) (omega arith) ∙ at.reads (suc j) (omega (arith, below));
}

-- CRLF CRLF begins nowhere in the text before the byte that stands before `from`
abbrev pub NoneSoFar : List ℕ → ℕ → Type 0
NoneSoFar t from = (j : ℕ) → j + 1 < from → ¬ (OccursAt t double_end j)

-- where LF CR LF occurs in a text at place from + k, it occurs in the rest from `from` on at place k
inner-rest : (t rest : List ℕ) (from k : ℕ) → from ≤ length t → rest ≡ drop from t → OccursAt t inner_end (from + k) → OccursAt rest inner_end k
inner-rest t rest from k within is at = record {
  -- the byte at place k of the rest is the one at place from + k of the text
  fits = omega (arith, at.fits, ap length is, length-drop from t, within);
  reads = λ j below. ap (λ r. get_or r (k + j) 0) is ∙ get_or-drop from t (k + j) 0 ∙ ap (λ i. get_or t i 0) (omega arith) ∙ at.reads j below;
}

-- where LF CR LF occurs in the rest from `from` on at place k, it occurs in the text at place from + k
rest-inner : (t rest : List ℕ) (from k : ℕ) → from ≤ length t → rest ≡ drop from t → OccursAt rest inner_end k → OccursAt t inner_end (from + k)
rest-inner t rest from k within is at = record {
  -- the byte at place k of the rest is the one at place from + k of the text
  fits = omega (arith, at.fits, ap length is, length-drop from t, within);
  reads = λ j below. ap (λ i. get_or t i 0) (omega arith) ∙ sym (get_or-drop from t (k + j) 0) ∙ sym (ap (λ r. get_or r (k + j) 0) is) ∙ at.reads j below;
}

-- where CRLF CRLF does not begin early, each place where it occurs has its LF CR LF in the rest
double-rest : (t rest : List ℕ) (from j : ℕ) → from ≤ length t → rest ≡ drop from t → NoneSoFar t from → OccursAt t double_end j → (from ≤ j + 1) × OccursAt rest inner_end (j + 1 - from)
double-rest t rest from j within is none at =
    -- CRLF CRLF does not begin before the byte that stands before `from`, so its second byte is in the rest
    elim (cases_lt (j + 1) from) [
      | inl low ↦ absurd (none j low at)
      | inr high ↦
          let back : j + 1 ≡ from + (j + 1 - from) = omega (arith, high) in
          (omega (arith, high), inner-rest t rest from (j + 1 - from) within is (subst (OccursAt t inner_end) back (double-inner t j at)))
    ]

-- where LF CR LF occurs nowhere in the rest, and CRLF CRLF does not begin early, CRLF CRLF occurs nowhere in the text
pub nowhere-double : (t rest : List ℕ) (from : ℕ) → from ≤ length t → rest ≡ drop from t → NoneSoFar t from → Nowhere (OccursAt rest inner_end) 0 (length rest + 1) → Nowhere (OccursAt t double_end) 0 (length t + 1)
-- at k + 1, which lies in the rest, LF CR LF would occur
nowhere-double t rest from within is none nowhere k low high at =
    let there = double-rest t rest from k within is none at in
    nowhere (k + 1 - from) (omega arith) (omega (arith, there.1.fits)) there.1

-- up to the first LF CR LF of the rest, CRLF CRLF begins nowhere in the text
pub none-before : (t rest : List ℕ) (from k : ℕ) → from ≤ length t → rest ≡ drop from t → NoneSoFar t from → NoneBefore (OccursAt rest inner_end) 0 (length rest + 1) k → NoneSoFar t (from + k)
-- at j + 1 LF CR LF would occur in the rest, before the first place where it does
none-before t rest from k within is none first j below at =
    let there = double-rest t rest from j within is none at in
    first.before (j + 1 - from) (omega arith) (omega (arith, below, there.0)) there.1

-- where a CR stands before the first LF CR LF of the rest, the first CRLF CRLF of the text begins at that CR
pub first-double : (t rest : List ℕ) (from k : ℕ) → from ≤ length t → rest ≡ drop from t → NoneSoFar t from → NoneBefore (OccursAt rest inner_end) 0 (length rest + 1) k → OccursAt rest inner_end k → 0 < from + k → get_or t (from + k - 1) 0 ≡ carriage_return → NoneBefore (OccursAt t double_end) 0 (length t + 1) (from + k - 1) × OccursAt t double_end (from + k - 1)
first-double t rest from k within is none first at some cr = (
  record {
    low = omega arith;
    high = omega (arith, there.fits);
    before = λ j low high found. none-before t rest from k within is none first j (omega (arith, high, some)) found;
  },
  -- all four bytes lie within the text
  record { fits = omega (arith, there.fits, some); reads = reads },
)
  where
    -- LF CR LF occurs in the text where it occurs in the rest
    there : OccursAt t inner_end (from + k)
    there = rest-inner t rest from k within is at

    -- each of the four bytes stands where the search found it
    reads : (j : ℕ) → j < 4 → get_or t (from + k - 1 + j) 0 ≡ get_or double_end j 0
    -- the first byte is the CR, and the others are those of LF CR LF
    reads zero below = ap (λ i. get_or t i 0) (omega arith) ∙ cr
    reads (suc j) below = ap (λ i. get_or t i 0) (omega (arith, some)) ∙ there.reads j (omega (arith, below))

-- where no CR stands before the LF CR LF at a place, CRLF CRLF does not begin there either
pub none-more : (t : List ℕ) (at : ℕ) → NoneSoFar t at → ((0 < at) × (get_or t (at - 1) 0 ≡ carriage_return) → ⊥) → NoneSoFar t (at + 1)
none-more t at none other j below double =
    -- j lies before the byte before the place, where no CRLF CRLF begins, or is the place of that byte, which is no CR
    elim (cases_lt (j + 1) at) [
      | inl low ↦ none j low double
      | inr high ↦ other (omega (arith, below, high), ap (λ i. get_or t i 0) (omega (arith, below, high)) ∙ double.reads zero (omega arith))
    ]

-- where CRLF CRLF occurs nowhere in the bytes, they have no head
pub no-head : (t : List ℕ) → Nowhere (OccursAt t double_end) 0 (length t + 1) → NotRead (CutSays t)
-- the front of such a head would have CRLF CRLF after it, which occurs nowhere
no-head t none (head, body) is = none (length is.front) (omega arith) (omega (arith, (cut-occurs t is.front body is.whole).fits)) (cut-occurs t is.front body is.whole)

-- where CRLF CRLF occurs first at place k, the head ends after its first CRLF, and the body begins after its second
pub one-head : (t : List ℕ) (k : ℕ) → NoneBefore (OccursAt t double_end) 0 (length t + 1) k → OccursAt t double_end k → ReadAs (CutSays t) (take (k + 2) t, drop (k + 4) t)
-- the text is cut so, and in one way: another cut has the same head and body
one-head t k first at = (is, (λ x other. let same = same_head t x.0 x.1 (take (k + 2) t) (drop (k + 4) t) other is in ap (λ h. (h, x.1)) same.0 ∙ ap (λ b. (take (k + 2) t, b)) same.1))
  where
    -- what follows CRLF CRLF
    rest : List ℕ
    rest = drop 4 (drop k t)

    -- the text is its first k bytes, CRLF CRLF and the rest
    cut : t ≡ take k t ++ (crlf ++ (crlf ++ rest))
    cut = occurs-cut t k at

    -- the front has k bytes
    len : length (take k t) ≡ k
    len = length-take-le k t (omega (arith, at.fits))

    -- the head is the front and its CRLF
    head_is : take (k + 2) t ≡ take k t ++ crlf
    head_is = ap (λ n. take (n + 2) t) (sym len) ∙ ap (take (length (take k t) + 2)) cut ∙ take-append-add (take k t) (crlf ++ (crlf ++ rest)) 2

    -- the body is what follows CRLF CRLF
    rest_is : drop (k + 4) t ≡ rest
    rest_is = ap (λ n. drop (n + 4) t) (sym len) ∙ ap (drop (length (take k t) + 4)) cut ∙ drop-append-add (take k t) (crlf ++ (crlf ++ rest)) 4

    -- no CRLF CRLF stands before the place k
    least : (u v : List ℕ) → t ≡ u ++ (crlf ++ (crlf ++ v)) → length (take k t) ≤ length u
    least u v is = at_least (nat_lt (length u) k) refl
      where
        -- u is not shorter than k bytes, since no CRLF CRLF begins before the place k
        at_least : (b : Bool) → nat_lt (length u) k ≡ b → length (take k t) ≤ length u
        -- u would end before the place k, and CRLF CRLF occur there
        at_least true below = absurd (first.before (length u) (omega arith) (omega (arith, ltb-true (length u) k below)) (cut-occurs t u v is))
        at_least false above = omega (arith, len, ltb-false (length u) k above)

    -- the text is cut into this head and this body
    is : CutSays t (take (k + 2) t, drop (k + 4) t)
    is = record { front = take k t; head_is = head_is; whole = cut ∙ ap (λ r. take k t ++ (crlf ++ (crlf ++ r))) (sym rest_is); first = least }

-- where each byte before place k passes a test, the first k bytes of the text do
all-take : (test : ℕ → Bool) (t : List ℕ) (k : ℕ) → k ≤ length t → ((j : ℕ) → j < k → test (get_or t j 0) ≡ true) → All test (take k t)
all-take test t zero within each = tt
all-take test [] (suc k) within each = tt
all-take test (b ∷ t) (suc k) within each = (each 0 (omega arith), all-take test t k (omega (arith, within)) (λ j below. each (suc j) (omega (arith, below))))

-- a byte for which it does not hold that it is CR or LF is neither CR nor LF
inner-byte : (b : ℕ) → ((nat_eq b carriage_return || nat_eq b line_feed) ≡ true → ⊥) → is_inner_byte b ≡ true
inner-byte b none = at (nat_eq b carriage_return) (nat_eq b line_feed) none
  where
    -- the claim holds whether or not the byte is CR or LF, which it cannot be
    at : (x y : Bool) → ((x || y) ≡ true → ⊥) → (not x && not y) ≡ true
    at true y none = absurd (none refl)
    at false true none = absurd (none refl)
    at false false none = refl

-- where neither CR nor LF stands before place k, the first k bytes of the text have neither
inner-take : (t : List ℕ) (n k : ℕ) → k ≤ length t → k ≤ n → Nowhere (Passes (is_byte2 carriage_return line_feed) t) 0 k → All is_inner_byte (take k t)
inner-take t n k within low none = all-take is_inner_byte t k within (λ j below. inner-byte (get_or t j 0) (none j (omega arith) below))

-- where neither CR nor LF stands in a text, each byte is neither
pub inner-none : (t : List ℕ) → Nowhere (Passes (is_byte2 carriage_return line_feed) t) 0 (length t) → All is_inner_byte t
inner-none t none = subst (All is_inner_byte) (take-length t) (inner-take t (length t) (length t) (omega arith) (omega arith) none)

-- CRLF, or a byte that is neither CR nor LF
abbrev CleanPiece : List ℕ → Type 0
CleanPiece = Exactly crlf or One is_inner_byte

-- a text without a bare line end begins with a byte that is neither CR nor LF, or with CRLF, and its rest has none
-- b is the first byte and t the rest; v is the text after a CRLF
clean-first : (b : ℕ) (t : List ℕ) → HasNoBareEnd (b ∷ t) → ((is_inner_byte b ≡ true) × HasNoBareEnd t) ⊎ ((v : List ℕ) × (b ∷ t ≡ crlf ++ v) × HasNoBareEnd v)
-- without pieces the text would be empty
clean-first b t ([], all, whole) = absurd (omega (arith, ap length whole))
-- u is the first piece, which is CRLF or one byte c, and us are the others
clean-first b t (u ∷ us, (inl is, all), whole) = inr (concat us, whole ∙ ap (λ x. x ++ concat us) is, (us, all, refl))
clean-first b t (u ∷ us, (inr (c, inner, is), all), whole) =
    let same : b ∷ t ≡ c ∷ concat us = whole ∙ ap (λ x. x ++ concat us) is in
    let head : c ≡ b = cc in
    let tail : t ≡ concat us = cc in
    inl (ap is_inner_byte (sym head) ∙ inner, (us, all, tail))

-- after a and each byte of the text a LF stands exactly if the byte is a CR
abbrev Paired : ℕ → List ℕ → Type 0
Paired a [] = nat_eq a carriage_return ≡ false
Paired a (b ∷ t) = (nat_eq a carriage_return ≡ nat_eq b line_feed) × Paired b t

-- a LF stands rightly after the byte at place k + 1 of a and a text where one does after the byte at place k of the text
pair-on : (a : ℕ) (t : List ℕ) (k : ℕ) → IsPaired t k → IsPaired (a ∷ t) (suc k)
pair-on a t k paired =
    -- with a before it each place of the text is one greater
    let next : suc (k + 1) ≡ suc k + 1 = omega arith in
    subst (λ j. nat_eq (get_or (a ∷ t) (suc k) 0) carriage_return ≡ nat_eq (get_or (a ∷ t) j 0) line_feed) next paired

-- a LF stands rightly after the byte at place k of a text where one does after the byte at place k + 1 of a and the text
pair-back : (a : ℕ) (t : List ℕ) (k : ℕ) → IsPaired (a ∷ t) (suc k) → IsPaired t k
pair-back a t k paired =
    -- with a before it each place of the text is one greater
    let next : suc k + 1 ≡ suc (k + 1) = omega arith in
    subst (λ j. nat_eq (get_or (a ∷ t) (suc k) 0) carriage_return ≡ nat_eq (get_or (a ∷ t) j 0) line_feed) next paired

-- where a LF stands rightly at each place of a and a text, it does so byte by byte
paired-each : (a : ℕ) (t : List ℕ) → ((k : ℕ) → k ≤ length t → IsPaired (a ∷ t) k) → Paired a t
-- at the first place it does for a and what follows it; at each later place it does for the text without a
paired-each a [] each = each 0 (omega arith)
paired-each a (b ∷ t) each = (each 0 (omega arith), paired-each b t (λ k within. pair-back a (b ∷ t) k (each (suc k) (omega (arith, within)))))

-- where a LF stands rightly after a and each byte of a text, it does so at each place
each-paired : (a : ℕ) (t : List ℕ) → Paired a t → (k : ℕ) → k ≤ length t → IsPaired (a ∷ t) k
-- at place 0 it does so for a, and at a later one for the text without a
each-paired a [] paired zero within = paired
each-paired a [] paired (suc k) within = absurd (omega (arith, within))
each-paired a (b ∷ t) paired zero within = paired.0
each-paired a (b ∷ t) paired (suc k) within = pair-on a (b ∷ t) k (each-paired b t paired.1 k (omega (arith, within)))

-- a byte that is neither CR nor LF is no CR, and is no LF
inner-parts : (b : ℕ) → is_inner_byte b ≡ true → (nat_eq b carriage_return ≡ false) × (nat_eq b line_feed ≡ false)
inner-parts b inner =
    -- neither test passes
    let both = and_parts (not (nat_eq b carriage_return)) (not (nat_eq b line_feed)) inner in
    (not-true _ (both.0), not-true _ (both.1))

-- a byte that is neither CR nor LF is one within a line
parts-inner : (b : ℕ) → nat_eq b carriage_return ≡ false → nat_eq b line_feed ≡ false → is_inner_byte b ≡ true
parts-inner b no_end no_feed = ap₂ (λ x y. not x && not y) no_end no_feed

-- in a text without a bare line end, after a byte that is no CR, a LF stands after each CR and after no other byte
clean-paired : (a : ℕ) (t : List ℕ) → nat_eq a carriage_return ≡ false → HasNoBareEnd t → Paired a t
-- nothing follows a, which is no CR
clean-paired a [] no_end clean = no_end
-- b is the last byte, which cannot begin a CRLF
clean-paired a (b ∷ []) no_end clean = at (clean-first b [] clean)
  where
    -- the claim holds whether the byte stands within a line or begins a CRLF
    at : ((is_inner_byte b ≡ true) × HasNoBareEnd []) ⊎ ((v : List ℕ) × (b ∷ [] ≡ crlf ++ v) × HasNoBareEnd v) → Paired a (b ∷ [])
    at (inl (inner, _)) = (no_end ∙ sym (inner-parts b inner).1, (inner-parts b inner).0)
    at (inr (v, same, _)) = absurd (omega (arith, ap length same))
-- the byte is one within a line, or CR and LF stand there
clean-paired a (b ∷ c ∷ t) no_end clean = at (clean-first b (c ∷ t) clean) (clean-paired b (c ∷ t)) (clean-paired c t)
  where
    -- the claim holds whether the byte stands within a line or begins a CRLF
    at : ((is_inner_byte b ≡ true) × HasNoBareEnd (c ∷ t)) ⊎ ((v : List ℕ) × (b ∷ c ∷ t ≡ crlf ++ v) × HasNoBareEnd v)
        → (nat_eq b carriage_return ≡ false → HasNoBareEnd (c ∷ t) → Paired b (c ∷ t))
        → (nat_eq c carriage_return ≡ false → HasNoBareEnd t → Paired c t) → Paired a (b ∷ c ∷ t)
    -- b stands within a line: what follows it has no bare line end
    at (inl (inner, rest)) one two = (no_end ∙ sym (inner-parts b inner).1, one (inner-parts b inner).0 rest)
    -- CR and LF stand there, one after the other
    at (inr (v, same, rest)) one two =
        let both : b ∷ c ∷ t ≡ carriage_return ∷ line_feed ∷ v = same in
        let b_is : b ≡ carriage_return = cc in
        let c_is : c ≡ line_feed = cc in
        let t_is : t ≡ v = cc in
        -- b and c are CR and LF, so a line end begins at b exactly if one goes on at c
        let next : nat_eq b carriage_return ≡ nat_eq c line_feed =
        ap (λ x. nat_eq x carriage_return) b_is ∙ sym (ap (λ x. nat_eq x line_feed) c_is) in (
          no_end ∙ sym (ap (λ x. nat_eq x line_feed) b_is),
          (next, two (ap (λ x. nat_eq x carriage_return) c_is) (subst HasNoBareEnd (sym t_is) rest)),
        )

-- a text in which a LF stands after each CR, and after no other byte, has no bare line end
paired-clean : (a : ℕ) (t : List ℕ) → nat_eq a carriage_return ≡ false → Paired a t → HasNoBareEnd t
-- the text is empty, has one byte b, or more: what it begins with is a piece, CRLF or a byte within a line
paired-clean a [] no_end paired = many-nil CleanPiece
paired-clean a (b ∷ []) no_end paired =
    many-cons CleanPiece (b ∷ []) [] (inr (b, parts-inner b paired.1 (sym paired.0 ∙ no_end), refl)) (many-nil CleanPiece)
paired-clean a (b ∷ c ∷ t) no_end paired = at (nat_eq b carriage_return) refl (paired-clean b (c ∷ t)) (paired-clean c t)
  where
    -- the claim holds whether or not b is CR
    at : (end : Bool) → nat_eq b carriage_return ≡ end
        → (nat_eq b carriage_return ≡ false → Paired b (c ∷ t) → HasNoBareEnd (c ∷ t))
        → (nat_eq c carriage_return ≡ false → Paired c t → HasNoBareEnd t) → HasNoBareEnd (b ∷ c ∷ t)
    -- the byte is no CR, so it is one within a line
    at false is one two =
        many-cons CleanPiece (b ∷ []) (c ∷ t) (inr (b, parts-inner b is (sym paired.0 ∙ no_end), refl)) (one is paired.1)
    -- the byte is a CR, and the next one its LF
    at true is one two =
        let b_is : b ≡ carriage_return = eqb-true b carriage_return is in
        let c_is : c ≡ line_feed = eqb-true c line_feed (sym paired.1.0 ∙ is) in
        subst HasNoBareEnd (sym (ap (λ x. x ∷ c ∷ t) b_is ∙ ap (λ x. carriage_return ∷ x ∷ t) c_is))
        (many-cons CleanPiece crlf t (inl refl) (two (ap (λ x. nat_eq x carriage_return) c_is) paired.1.1))

-- in a text without a bare line end, a LF stands after the byte at each place exactly if the byte is a CR
pub clean-each : (t : List ℕ) → HasNoBareEnd t → (k : ℕ) → k < length t → IsPaired t k
-- in a text of no bytes there is no place
clean-each [] clean k below = absurd (omega (arith, below))
clean-each (b ∷ t) clean k below = each-paired b t (clean-paired 0 (b ∷ t) refl clean).1 k (omega (arith, below))

-- a test that does not hold fails
pub is_not : (b : Bool) → (b ≡ true → ⊥) → not b ≡ true
is_not true none = absurd (none refl)
is_not false none = refl

-- a text without a bare line end does not begin with a LF
pub clean-opens : (t : List ℕ) → HasNoBareEnd t → BeginsWithFeed t → ⊥
-- an empty text has no first byte
clean-opens [] clean feed = absurd (omega (arith, feed))
clean-opens (b ∷ t) clean feed = both_ways (nat_eq b line_feed) (sym (clean-paired 0 (b ∷ t) refl clean).0) (eq-eqb b line_feed feed)

-- a text in which a LF stands after each CR, and after no other byte, and which does not begin with a LF, has no bare line end
pub each-clean : (t : List ℕ) → ArePaired t 0 (length t) → (BeginsWithFeed t → ⊥) → HasNoBareEnd t
each-clean [] each opens = many-nil CleanPiece
each-clean (b ∷ t) each opens =
    paired-clean 0 (b ∷ t) refl (at (nat_eq b line_feed) refl, paired-each b t (λ k within. each k (omega arith) (omega (arith, within))))
  where
    -- the byte is not LF, since the text does not begin with one
    at : (feed : Bool) → nat_eq b line_feed ≡ feed → false ≡ nat_eq b line_feed
    at true is = absurd (opens (eqb-true b line_feed is))
    at false is = sym is

-- the first line of a head, and the text of the others, stand at its front
lines-front : (head first : List ℕ) (others : List (List ℕ)) → LinesSay head first others → LineFront head (first, flat_map with_end others)
lines-front head first others are = (are.folded.0, no_blank others are.cut, are.whole)

-- the line that is read at the front of a head is its first line, and the rest is the text of the others
pub first-cut : (head line rest : List ℕ) → ReadAs (LineFront head) (line, rest) → (first : List ℕ) (others : List (List ℕ)) → LinesSay head first others → (first ≡ line) × AreLines rest others
first-cut head line rest read first others are =
    -- the first line with its end stands at the front, and so it is the one that is read there
    let same = read.1 (first, flat_map with_end others) (lines-front head first others are) in
    (ap (λ x. x.0) same, record { whole = sym (ap (λ x. x.1) same); folded = are.folded.1; cut = are.cut })

-- where no line is read at the front of a head, the head has no lines
pub first-none : (head : List ℕ) → NotRead (LineFront head) → (first : List ℕ) (others : List (List ℕ)) → LinesSay head first others → ⊥
first-none head none first others are = none (first, flat_map with_end others) (lines-front head first others are)
