-- A value is cut off its blanks at both ends.
-- In the lemmas u and v are parts of a text, n is a length of its front, k a place, and b a byte.
use Rattle.std.proofs.Common.{◌≡◌, ℕ, zero, suc, ◌-◌, ◌<◌, ◌≤◌, Bool, true, false, not, ◌&&◌, nat_lt, nat_eq, List, [], ◌∷◌, ◌++◌, Option, Some, None, is_some, length, take, drop, get_or, refl, sym, ap, ◌∙◌, subst, inl, inr, arith}
use Rattle.std.specs.Bool.{Decides}
use Rattle.std.specs.List.{prefix_len}
use Rattle.std.proofs.lemmas.Bool.{both_ways, and_parts, not-true, eqb-true, eq-eqb}
use Rattle.std.proofs.lemmas.List.{append-nil, append_cancel_left, take-append-drop}
use Rattle.sip_standard.specs.Text.{Many}
use Rattle.sip_standard.specs.Profile.{Blanks, Sws}
use Rattle.sip_text.specs.Bytes.{space}
use Rattle.sip_text.specs.Front.{IsLongestFront}
use Rattle.sip_text.specs.inner.Blanks.{Blank}
use Rattle.sip_text.proofs.texts.ManyLemmas.{many-nil, many-one, many-append, front-whole}
use Rattle.sip_text.proofs.strings.BlanksLemmas.{units-blanks, blanks-units}
use Rattle.sip_message.specs.inner.FieldText.{EndsSolid, ValueText, OpensSolid}
use Rattle.sip_standard.specs.Field.{is_lws_byte}
use Rattle.sip_message.specs.inner.Values.{is_solid}
use Rattle.sip_message.proofs.lemmas.text.Cuts.{All, Stops, all_both, all_right, same_front}
use Rattle.sip_message.proofs.lemmas.text.Each.{each-sws}
use Rattle.sip_message.proofs.lemmas.field.OneWay.{same_solid}
use Rattle.sip_message.proofs.lemmas.text.Closed.{blank_opens}
use Rattle.sip_message.specs.inner.Only.{IsOnlyValue}
use Rattle.sip_message.proofs.lemmas.front.Prefix.{prefix-at}

-- a text of no bytes is the empty text
pub length-none : (u : List ℕ) → length u ≡ 0 → u ≡ []
-- a text with a byte has a length above 0
length-none [] none = refl
length-none (b ∷ u) none = absurd (omega (arith, none))

-- a text is an optional blank run exactly if the longest blank run at its front is all of it
pub sws-whole : (text : List ℕ) (n : ℕ) → n ≤ length text → IsLongestFront Blanks text n → Decides (nat_eq n (length text)) (Sws text)
sws-whole text n within longest = (
  -- if: the longest run is all of the text, or it is empty, and so is the text
  λ same. elim longest.front [
    | inl none ↦ inl (length-none text (sym (eqb-true n (length text) same) ∙ none))
    | inr front ↦ inr (front-whole Blanks text n front (eqb-true n (length text) same))
  ],
  -- the other way round, all of the text is blanks, or it is empty, and so the longest run is all of it
  λ sws. elim sws [
    | inl none ↦ eq-eqb n (length text) (omega (arith, within, ap length none))
    | inr blanks ↦
        let low = longest.longest (length text) (text, [], blanks, sym (append-nil text), refl) in
        eq-eqb n (length text) (omega (arith, low, within))
  ],
)

-- an optional blank run after another is an optional blank run
sws-append : (u v : List ℕ) → Sws u → Sws v → Sws (u ++ v)
sws-append u v left right = blanks-units (u ++ v) (many-append Blank u v (many u left) (many v right))
  where
    -- optional blanks are any number of blanks
    many : (t : List ℕ) → Sws t → Many Blank t
    many t (inl none) = subst (Many Blank) (sym none) (many-nil Blank)
    many t (inr blanks) = units-blanks t blanks

-- where each byte from place n on passes a test, the text without its first n bytes does
all-from : (test : ℕ → Bool) (text : List ℕ) (n : ℕ) → ((k : ℕ) → n ≤ k → k < length text → test (get_or text k 0) ≡ true) → All test (drop n text)
-- no bytes are left
all-from test [] zero each = tt
all-from test [] (suc n) each = tt
all-from test (b ∷ text) zero each =
    -- the first byte passes, and so do the others
    (each 0 (omega arith) (omega arith), all-from test text zero (λ k low high. each (suc k) (omega arith) (omega (arith, high))))
all-from test (b ∷ text) (suc n) each = all-from test text n (λ k low high. each (suc k) (omega (arith, low)) (omega (arith, high)))

-- a text up to a byte that is no blank does not end with a blank
ends-take : (text : List ℕ) (n : ℕ) → n ≤ length text → ((k : ℕ) → n ≡ suc k → is_lws_byte (get_or text k 0) ≡ false) → EndsSolid (take n text)
-- the empty text does not end with a blank
ends-take text zero within solid = tt
ends-take [] (suc n) within solid = absurd (omega (arith, within))
-- the last byte of the front is the first of the text
ends-take (b ∷ text) (suc zero) within solid = solid zero refl
ends-take (b ∷ []) (suc (suc n)) within solid = absurd (omega (arith, within))
-- the last byte of the front is a later one
ends-take (b ∷ c ∷ text) (suc (suc n)) within solid =
    ends-take (c ∷ text) (suc n) (omega (arith, within)) (λ k is. solid (suc k) (ap suc is))

-- where no blank stands at the front, the text does not open with a blank
stops-opens : (u : List ℕ) → Stops is_lws_byte u → OpensSolid u
stops-opens [] stops = tt
stops-opens (b ∷ u) stops = stops

-- the first n bytes of a text that does not begin with a blank do not begin with one
opens-take : (u : List ℕ) (n : ℕ) → Stops is_lws_byte u → OpensSolid (take n u)
opens-take u zero stops = tt
opens-take [] (suc n) stops = tt
opens-take (b ∷ u) (suc n) stops = stops

-- the text is blank bytes, a value that neither begins nor ends with one, and blank bytes
pub record IsTrimmed (text front value back : List ℕ) : Type 0 where
  pub blanks : All is_lws_byte front
  pub stops : Stops is_lws_byte (value ++ back)
  pub opens : OpensSolid value
  pub ends : EndsSolid value
  pub spaces : All is_lws_byte back
  pub whole : text ≡ front ++ (value ++ back)

-- where n is the length of the blank bytes at the front of a text, and e that of the rest up to its last other byte, the reader's cuts trim it
pub trimmed : (text rest : List ℕ) (n e : ℕ) → n ≡ prefix_len is_lws_byte text → rest ≡ drop n text → e ≤ length rest → ((k : ℕ) → e ≤ k → k < length rest → is_lws_byte (get_or rest k 0) ≡ true) → (0 < e → is_lws_byte (get_or rest (e - 1) 0) ≡ false) → IsTrimmed text (take n text) (take e rest) (drop e rest)
trimmed text rest n e n_is rest_is within blank solid =
    -- `cut` says that the first n bytes are blanks, and that none stands after them
    let cut = prefix-at is_lws_byte text n n_is in
    let stops : Stops is_lws_byte rest = subst (Stops is_lws_byte) (sym rest_is) cut.1 in
    -- the rest is cut into the value and the blanks after it
    let again : take e rest ++ drop e rest ≡ rest = take-append-drop e rest in
    record {
      blanks = cut.0;
      stops = subst (Stops is_lws_byte) (sym again) stops;
      -- the value ends with its last byte that is no blank
      opens = opens-take rest e stops;
      ends = ends-take rest e within (λ k is. subst (λ i. is_lws_byte (get_or rest i 0) ≡ false) (omega (arith, is)) (solid (omega (arith, is))));
      spaces = all-from is_lws_byte rest e blank;
      whole = sym (take-append-drop n text) ∙ ap (λ t. take n text ++ t) (sym rest_is ∙ sym again);
    }

-- where a text is trimmed, and what stands before and after the value are blank runs, the value is that of the text
pub trimmed-value : (text front value back : List ℕ) → IsTrimmed text front value back → Sws front → Sws back → ValueText text value
trimmed-value text front value back is left right =
    record { opens = is.opens; ends = is.ends; whole = (front, value ++ back, left, (value, back, refl, right, refl), is.whole) }

-- where a text is trimmed, and has a value, what stands before and after it are blank runs
pub value-trimmed : (text front value back w : List ℕ) → IsTrimmed text front value back → ValueText text w → Sws front × Sws back
value-trimmed text front value back w is of = at w of.opens of.ends (of.whole.4 ∙ ap (λ t. of.whole.0 ++ t) (of.whole.3.4 ∙ ap (λ t. t ++ b) of.whole.3.2))
  where
    -- the blanks before the value
    a : List ℕ
    a = of.whole.0

    -- the blanks after the value
    b : List ℕ
    b = of.whole.3.1

    -- the value stands between two blank runs
    at : (v : List ℕ) → OpensSolid v → EndsSolid v → text ≡ a ++ (v ++ b) → Sws front × Sws back
    -- the value is empty: all of the text is blanks, and all of it is the front
    at [] opens ends whole =
        let same : front ++ (value ++ back) ≡ a ++ b = sym is.whole ∙ whole in
        let all : All is_lws_byte (front ++ (value ++ back)) = subst (All is_lws_byte) (sym same) (all_both is_lws_byte a b (each-sws a of.whole.2) (each-sws b of.whole.3.3)) in
        let none : value ++ back ≡ [] = blank_opens (value ++ back) (stops-opens (value ++ back) is.stops) (all_right is_lws_byte front (value ++ back) all) in
        let no_back : back ≡ [] = length-none back (right value back none) in (
          subst Sws (sym same ∙ ap (λ t. front ++ t) none ∙ append-nil front) (sws-append a b of.whole.2 of.whole.3.3),
          inl no_back,
        )
      where
        -- the second part of an empty text is empty
        right : (u v : List ℕ) → u ++ v ≡ [] → length v ≡ 0
        right [] v e = ap length e
        right (c ∷ u) v e = absurd (omega (arith, ap length e))
    at (c ∷ v) opens ends whole =
        -- the blanks in front are the same in both cuts, so the values are, and what is left behind them are the same blanks
        let cut = same_front is_lws_byte front (value ++ back) a ((c ∷ v) ++ b) is.blanks (each-sws a of.whole.2) is.stops opens (sym is.whole ∙ whole) in
        let values : value ≡ c ∷ v = same_solid value back (c ∷ v) b is.ends ends is.spaces (each-sws b of.whole.3.3) cut.1 in
        let backs : back ≡ b = append_cancel_left (c ∷ v) back b (ap (λ t. t ++ back) (sym values) ∙ cut.1) in
        (subst Sws (sym cut.0) of.whole.2, subst Sws (sym backs) of.whole.3.3)

-- where b says whether the reader of R read a value, b decides whether R relates a value to the text
pub read-decides : {A X : Type 0} (R : List ℕ → X → Type 0) (parts : A → X) (text : List ℕ) (r : Option A) (b : Bool) → IsOnlyValue R parts text r → b ≡ is_some r → Decides b ((x : X) × R text x)
-- nothing was read, so R relates no value to the text
read-decides R parts text None b none is = (λ yes_b. absurd (both_ways b is yes_b), λ x. absurd (none x.0 x.1))
read-decides R parts text (Some a) b only is = (λ _. (parts a, only.0), λ _. is)

-- a text whose last byte is no blank does not end with a blank
ends-solid : (b : ℕ) (u : List ℕ) → is_lws_byte (get_or (b ∷ u) (length u) 0) ≡ false → EndsSolid (b ∷ u)
-- the last byte is the first, or a later one
ends-solid b [] solid = solid
ends-solid b (c ∷ u) solid = ends-solid c u solid

-- a text of one SP and a value that begins and ends with no blank has that value
pub one-space : (value : List ℕ) → is_solid value ≡ true → ValueText (space ∷ value) value
-- an empty text has no first byte that is no blank
one-space [] solid = absurd (both_ways false refl solid)
one-space (b ∷ value) solid =
    let last : ℕ = length (b ∷ value) - 1 in
    let both = and_parts (nat_lt 0 (length (b ∷ value)) && not (is_lws_byte b)) (not (is_lws_byte (get_or (b ∷ value) last 0))) solid in
    -- neither the first byte nor the last one is a blank
    let opens : is_lws_byte b ≡ false = not-true (is_lws_byte b) (and_parts (nat_lt 0 (length (b ∷ value))) (not (is_lws_byte b)) (both.0)).1 in
    let end : last ≡ length value = omega arith in
    record {
      opens = opens;
      ends = ends-solid b value (subst (λ i. is_lws_byte (get_or (b ∷ value) i 0) ≡ false) end (not-true _ (both.1)));
      -- the SP, the value and nothing more are the text
      whole = (
        space ∷ [],
        b ∷ value,
        blanks-units (space ∷ []) (many-one Blank (space ∷ []) ([], space ∷ [], inl refl, (space, refl, refl), refl)),
        (b ∷ value, [], refl, inl refl, sym (append-nil (b ∷ value))),
        refl,
      );
    }

-- a text that begins and ends with no blank has itself as its value
pub no-space : (value : List ℕ) → is_solid value ≡ true → ValueText value value
no-space value solid =
    -- without the SP before it the value has the same ends
    let behind = one-space value solid in
    record { opens = behind.opens; ends = behind.ends; whole = ([], value, inl refl, (value, [], refl, inl refl, sym (append-nil value)), refl) }
