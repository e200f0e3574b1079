-- What stands at the front of a text stands there in one way.
-- In the lemmas r and s are what is left of a text by two readings.
use Rattle.std.proofs.Common.{◌≡◌, ℕ, ◌≤◌, ◌⊎◌, Bool, true, false, nat_eq, ◌||◌, ◌&&◌, ◌==◌, slice_index, cond, List, [], ◌∷◌, ◌++◌, length, take, drop, Some, None, refl, sym, ap, ◌∙◌, subst, inl, inr, arith}
use Rattle.std.proofs.lemmas.Bool.{both_ways, eq-eqb}
use Rattle.std.proofs.lemmas.Option.{none-some}
use Rattle.std.proofs.lemmas.List.{append_assoc, length-append}
use Rattle.std.proofs.Math.Seq.{take-append_seam}
use Rattle.sip_text.proofs.cuts.CutLemmas.{past-some}
use Rattle.sip_standard.specs.Text.{One, Many}
use Rattle.sip_standard.specs.Profile.{Token, Sws, Blanks}
use Rattle.sip_text.specs.Bytes.{carriage_return, line_feed, is_token_byte}
use Rattle.sip_text.specs.inner.Blanks.{is_wsp, Blank, blank_len}
use Rattle.sip_text.specs.Front.{HasFront, IsLongestFront}
use Rattle.sip_text.specs.inner.Cut.{past}
use Rattle.sip_text.proofs.texts.ManyLemmas.{front-rest, many-nil, many-push, same_many}
use Rattle.sip_text.proofs.strings.BlanksLemmas.{units-blanks, blanks-units, blank-step, blanks-longest}
use Rattle.sip_standard.specs.Field.{is_lws_byte}
use Rattle.sip_message.specs.inner.Fronts.{Stops, StopsBlank, Behind, IsOnlyBehind, TokenFront, MarkFront, BlanksFront, Seq, both}
use Rattle.sip_message.proofs.lemmas.text.Cuts.{same_front}
use Rattle.sip_message.proofs.lemmas.field.OneWay.{each-token}
use Rattle.sip_message.proofs.lemmas.via.Transport.{some-blanks}
use Rattle.sip_message.proofs.lemmas.params.Closed.{some-run}

-- the first n bytes of a text, which are a front of P, are the text of that front
front-take : (P : List ℕ → Type 0) (text : List ℕ) (n : ℕ) (front : HasFront P text n) → take n text ≡ front.0
front-take P text n front =
    -- the front has n bytes, and stands first in the text
    ap (λ m. take m text) front.4 ∙ ap (take (length front.0)) front.3 ∙ take-append_seam front.0 front.1

-- where the longest token at the front of a text is not empty, the text is read as that token and what is left after it
pub token-cut : (text : List ℕ) (n : ℕ) → IsLongestFront Token text n → (n ≡ 0 → ⊥) → TokenFront text (take n text, drop n text)
token-cut text n longest some = at longest.front
  where
    -- after the longest token no byte of a token follows
    stops : (u v : List ℕ) → Token u → text ≡ u ++ v → n ≡ length u → Stops is_token_byte v
    -- after the token nothing stands, or a byte b
    stops u [] token whole len = tt
    stops u (b ∷ v) token whole len = go (is_token_byte b) refl
      where
        -- the next byte is no byte of a token, since the token would else be longer
        go : (x : Bool) → is_token_byte b ≡ x → is_token_byte b ≡ false
        go false is = is
        go true is =
            let longer : HasFront Token text (length (u ++ b ∷ [])) = (
              u ++ b ∷ [],
              v,
              -- the token with this byte would be longer
              (token.0, token.1 ++ b ∷ [], token.2, many-push (One is_token_byte) token.1 (b ∷ []) token.3 (b, is, refl), ap (λ t. t ++ b ∷ []) token.4 ∙ append_assoc token.0 token.1 (b ∷ [])),
              whole ∙ sym (append_assoc u (b ∷ []) v),
              refl,
            ) in
            absurd (omega (arith, longest.longest (length (u ++ b ∷ [])) longer, length-append u (b ∷ []), len))

    -- the text is read so, since the longest token is not empty and so stands at the front
    at : (n ≡ 0) ⊎ HasFront Token text n → TokenFront text (take n text, drop n text)
    -- no token stands at the front; or one does, and is the first n bytes
    at (inl none) = absurd (some none)
    at (inr front) =
        let front_is = front-take Token text n front in
        let rest_is = front-rest Token text n front in (
          subst Token (sym front_is) front.2,
          subst (Stops is_token_byte) (sym rest_is) (stops front.0 front.1 front.2 front.3 front.4),
          (take n text, drop n text, refl, refl, front.3 ∙ ap (λ t. t ++ front.1) (sym front_is) ∙ ap (λ t. take n text ++ t) (sym rest_is)),
        )

-- where the longest token at the front of a text is empty, no token is read there
pub no-token : (text : List ℕ) → IsLongestFront Token text 0 → (t r : List ℕ) → TokenFront text (t, r) → ⊥
no-token text longest t r front =
    -- `whole` says that the text is t and what follows; so t would be no longer than the longest token, which is empty
    let is = front.2 in
    let whole = is.4 ∙ ap (λ x. x ++ is.1) is.2 in
    let short = longest.longest (length t) (t, is.1, front.0, whole, refl) in
    at t front.0 short
  where
    -- a token is not empty
    at : (u : List ℕ) → Token u → length u ≤ 0 → ⊥
    at [] token short = some-run is_token_byte [] token refl
    at (b ∷ u) token short = absurd (omega (arith, short))

-- the token at the front of a text, and what is left after it, are read in one way
-- t and u are the token, and r and s what is left, by two readings
pub same-token : (text : List ℕ) (t r u s : List ℕ) → TokenFront text (t, r) → TokenFront text (u, s) → (t ≡ u) × (r ≡ s)
same-token text t r u s one other =
    -- both tokens are the longest run of bytes of tokens at the front
    same_front is_token_byte t r u s (each-token t one.0) (each-token u other.0) one.1 other.1
    (sym (one.2.4 ∙ ap (λ x. x ++ one.2.1) one.2.2 ∙ ap (λ x. t ++ x) one.2.3) ∙ (other.2.4 ∙ ap (λ x. x ++ other.2.1) other.2.2 ∙ ap (λ x. u ++ x) other.2.3))

-- what is left after the blanks at the front of a text is one text
pub same-behind : (text r s : List ℕ) → Behind text r → Behind text s → r ≡ s
-- u and x are the blanks, and v and y what follows them, by the two readings
same-behind text r s (r_stops, (u, v, u_is, v_is, whole)) (s_stops, (x, y, x_is, y_is, whole_too)) =
    -- both runs are all the blanks at the front, since none follows either of them
    (same_many Blank blank_len u r x s blank-step (many u u_is) (many x x_is)
    (ap (λ t. u ++ t) (sym v_is) ∙ sym whole ∙ whole_too ∙ ap (λ t. x ++ t) y_is) r_stops s_stops).1
  where
    -- optional blanks are any number of blanks
    many : (t : List ℕ) → Sws t → Many Blank t
    many t (inl none) = subst (Many Blank) (sym none) (many-nil Blank)
    many t (inr blanks) = units-blanks t blanks

-- what is left after the longest run of blanks is the one rest after the blanks
pub longest-behind : (text : List ℕ) (n : ℕ) → IsLongestFront Blanks text n → IsOnlyBehind text (drop n text)
longest-behind text n longest =
    -- `blanks` says that the first n bytes are blanks (`front`), and that none follows them
    let blanks = blanks-longest text n longest in
    let front = blanks.0 in
    let rest_is = front-rest (Many Blank) text n front in
    let behind : Behind text (drop n text) = (blanks.1, (front.0, front.1, blanks-units front.0 front.2, sym rest_is, front.3)) in
    (behind, (λ other is. same-behind text other (drop n text) is behind))

-- where no blank run stands at the front of a text, the text is what is left after its blanks
pub stops-behind : (text : List ℕ) → StopsBlank text → IsOnlyBehind text text
stops-behind text stops =
    -- no blanks stand before the text
    let behind : Behind text text = (stops, ([], text, inl refl, refl, refl)) in
    (behind, (λ other is. same-behind text other text is behind))

-- a text whose first byte is no blank begins with no blank run
pub stops-byte : (b : ℕ) (text : List ℕ) → is_lws_byte b ≡ false → StopsBlank (b ∷ text)
stops-byte b text solid = at (is_wsp b) (nat_eq b carriage_return) solid
  where
    -- a byte that is neither SP, HTAB nor CR begins no blank
    at : (x y : Bool) → (x || (y || nat_eq b line_feed)) ≡ false → ◌≡◌ {A = ℕ} (cond x 1 (cond (y && slice_index text 0 == line_feed && is_wsp (slice_index text 1)) 3 0)) 0
    -- x says that b is SP or HTAB, and y that it is CR; it is neither
    at true y is = absurd (both_ways true is refl)
    at false true is = absurd (both_ways true is refl)
    at false false is = refl

-- where a mark is read at the front of a text, its byte stands after blanks, and what is left stands after further blanks
pub mark-parts : (mark : ℕ) (text rest : List ℕ) → is_lws_byte mark ≡ false → MarkFront mark text rest → (inner : List ℕ) × Behind text (mark ∷ inner) × Behind inner rest
-- m is the mark with its blanks and r what is left; s is the blanks before the byte, t the byte and the blanks after it
mark-parts mark text rest solid (stops, (m, r, (s, t, sws, (byte, after, byte_is, after_is, t_is), m_is), r_is, whole)) =
    (after ++ rest, (stops-byte mark (after ++ rest) solid, (s, mark ∷ (after ++ rest), sws, refl, flat)), (stops, (after, rest, after_is, refl, refl)))
  where
    -- the text is blanks, the mark, blanks and the rest
    flat : text ≡ s ++ mark ∷ (after ++ rest)
    flat =
        whole ∙ ap (λ x. m ++ x) r_is ∙ ap (λ x. x ++ rest) (m_is ∙ ap (λ x. s ++ x) (t_is ∙ ap (λ x. x ++ after) byte_is))
        ∙ append_assoc s (mark ∷ after) rest

-- where a byte stands after the blanks at the front of a text, its mark is read there, up to the end of the blanks after it
pub parts-mark : (mark : ℕ) (text inner rest : List ℕ) → Behind text (mark ∷ inner) → Behind inner rest → MarkFront mark text rest
-- s is the blanks before the byte and t what follows; r is what is left after the blanks after it
parts-mark mark text inner rest (front_stops, (s, t, sws, t_is, whole)) (stops, (after, r, after_is, r_is, inner_is)) = (
  stops,
  (
    s ++ mark ∷ after,
    rest,
    -- the blanks, the mark and the blanks after it stand before the rest
    (s, mark ∷ after, sws, (mark ∷ [], after, refl, after_is, refl), refl),
    refl,
    whole ∙ ap (λ x. s ++ x) (t_is ∙ ap (λ x. mark ∷ x) (inner_is ∙ ap (λ x. after ++ x) r_is)) ∙ sym (append_assoc s (mark ∷ after) rest),
  ),
)

-- past a mark at the front stands the rest
past-cons : (mark : ℕ) (rest : List ℕ) → past mark (mark ∷ rest) ≡ Some rest
past-cons mark rest = ap (λ same. cond same (Some rest) None) (eq-eqb mark mark refl)

-- where another byte stands after the blanks at the front of a text, the mark is not read there
pub no-mark : (mark : ℕ) (text rest : List ℕ) → is_lws_byte mark ≡ false → IsOnlyBehind text rest → past mark rest ≡ None → (r : List ℕ) → MarkFront mark text r → ⊥
no-mark mark text rest solid behind missing r front =
    -- the byte would stand after the blanks, where another one stands
    let parts = mark-parts mark text r solid front in
    none-some parts.0 (sym missing ∙ ap (past mark) (sym (behind.1 (mark ∷ parts.0) parts.1)) ∙ past-cons mark parts.0)

-- where the byte stands after the blanks at the front of a text, its mark is read there, and leaves one text
pub one-mark : (mark : ℕ) (text rest inner r : List ℕ) → is_lws_byte mark ≡ false → IsOnlyBehind text rest → past mark rest ≡ Some inner → IsOnlyBehind inner r → MarkFront mark text r × ((other : List ℕ) → MarkFront mark text other → other ≡ r)
one-mark mark text rest inner r solid behind found inside = (
  -- the mark is read; and by any other reading its byte stands after the same blanks, so that the same is left after it
  parts-mark mark text inner r (subst (Behind text) (past-some mark rest inner found) behind.0) inside.0,
  (λ other front.
      let parts = mark-parts mark text other solid front in
      let same : mark ∷ parts.0 ≡ mark ∷ inner = behind.1 (mark ∷ parts.0) parts.1 ∙ past-some mark rest inner found in
      let inners : parts.0 ≡ inner = cc in
      inside.1 other (subst (λ t. Behind t other) inners parts.2)),
)

-- what is left after a blank run at the front of a text is one text
pub same-blanks : (text r s : List ℕ) → BlanksFront text r → BlanksFront text s → r ≡ s
same-blanks text r s one other =
    -- a blank run is an optional one
    same-behind text r s (one.0, (one.1.0, one.1.1, inr one.1.2, one.1.3, one.1.4)) (other.0, (other.1.0, other.1.1, inr other.1.2, other.1.3, other.1.4))

-- R holds of this value and of no other
abbrev pub ReadAs : {X : Type 0} → (X → Type 0) → X → Type 0
ReadAs {X = X} R a = R a × ((x : X) → R x → x ≡ a)

-- R holds of nothing, so nothing is read
abbrev pub NotRead : {X : Type 0} → (X → Type 0) → Type 0
NotRead {X = X} R = (x : X) → ¬ (R x)

-- where the first of two steps gives nothing, both together give nothing
pub stop : {X Y : Type 0} {R : X → Type 0} {S : X → Y → Type 0} → NotRead R → NotRead (Seq R S)
-- the first step would give x, but it gives nothing
stop none y (both x r s) = none x r

-- where the first of two steps gives one value, and the second nothing after it, both together give nothing
pub go-stop : {X Y : Type 0} {R : X → Type 0} {S : X → Y → Type 0} {a : X} → ReadAs R a → NotRead (S a) → NotRead (Seq R S)
-- the first step gives a, after which the second gives nothing
go-stop {S = S} one none y (both x r s) = none y (subst (λ z. S z y) (one.1 x r) s)

-- where the first of two steps gives one value, and the second one after it, both together give no other value
-- R is the first step, which gives a, and S the second, which gives b after it
go-only : {X Y : Type 0} {R : X → Type 0} {S : X → Y → Type 0} {a : X} {b : Y} → ReadAs R a → ReadAs (S a) b → (y : Y) → Seq R S y → y ≡ b
-- the first step gives a, and the second after it b
go-only {S = S} one two y (both x r s) = two.1 y (subst (λ z. S z y) (one.1 x r) s)

-- where the first of two steps gives one value, and the second one after it, both together give that one
-- R is the first step, which gives a, and S the second, which gives b after it
pub go : {X Y : Type 0} {R : X → Type 0} {S : X → Y → Type 0} {a : X} {b : Y} → ReadAs R a → ReadAs (S a) b → ReadAs (Seq R S) b
go {a = a} one two = (both a one.0 two.0, go-only one two)

-- the last step gives the value that was made of the others
pub last : {X : Type 0} (a : X) → ReadAs (λ x. x ≡ a) a
last a = (refl, (λ x is. is))

-- where the longest blank run at the front of a text is empty, none is read there
pub no-blanks : (text : List ℕ) → IsLongestFront Blanks text 0 → NotRead (BlanksFront text)
no-blanks text longest rest (stops, (u, v, blanks, rest_is, whole)) =
    at u (longest.longest (length u) (u, v, blanks, whole, refl)) blanks
  where
    -- an empty text is no blank run
    at : (t : List ℕ) → length t ≤ 0 → Blanks t → ⊥
    at [] short is = some-blanks [] is refl
    at (b ∷ t) short is = absurd (omega (arith, short))

-- where the longest blank run at the front of a text is not empty, it is read there, and leaves what follows it
pub longest-blanks_front : (text : List ℕ) (n : ℕ) → IsLongestFront Blanks text n → (n ≡ 0 → ⊥) → ReadAs (BlanksFront text) (drop n text)
longest-blanks_front text n longest some = at longest.front
  where
    -- the blank run is read, since the longest one is not empty and so stands at the front
    at : (n ≡ 0) ⊎ HasFront Blanks text n → ReadAs (BlanksFront text) (drop n text)
    -- no blank run stands at the front; or one does, and is read
    at (inl none) = absurd (some none)
    at (inr front) =
        let rest_is = front-rest Blanks text n front in
        let is : BlanksFront text (drop n text) = ((blanks-longest text n longest).1, (front.0, front.1, front.2, sym rest_is, front.3)) in
        (is, (λ other o. same-blanks text other (drop n text) o is))
