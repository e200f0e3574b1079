-- A value that is not looked into, in pieces that begin no other: a byte or a blank, and a fold.
-- In the lemmas u is a piece or a fold, v what follows it, n the length of the pieces at the front of a text, and k that of further ones.
-- `IsStep P len` says that `len` gives the length of the piece of P at the front of a text, or 0; a text that is cut so is cut in one way.
use Rattle.std.proofs.Common.{◌≡◌, ℕ, ◌+◌, ◌<◌, ◌⊎◌, Bool, true, false, nat_eq, cond, List, [], ◌∷◌, ◌++◌, length, drop, slice_index, if◌then◌else◌, refl, sym, ap, ◌∙◌, subst, inl, inr, arith}
use Rattle.std.specs.Bool.{Decides}
use Rattle.std.specs.List.{prefix_len}
use Rattle.std.proofs.lemmas.Bool.{and_parts, eqb-true, eq-eqb, or_left, or_right, or_cases}
use Rattle.std.proofs.lemmas.List.{append-nil, append_assoc, length-append, drop-drop}
use Rattle.sip_standard.specs.Text.{One, Exactly, ◌then◌, ◌or◌, Many}
use Rattle.sip_standard.specs.Profile.{Lws}
use Rattle.sip_text.specs.Bytes.{carriage_return, line_feed, crlf}
use Rattle.sip_text.specs.inner.Blanks.{is_wsp, Blank, begins_with_fold}
use Rattle.sip_text.specs.Front.{HasFront}
use Rattle.sip_text.proofs.texts.ManyLemmas.{many-one, many-map, many-flat, many-append, IsStep, longest_many, front-rest, front-within, front-whole}
use Rattle.sip_text.proofs.strings.BlanksLemmas.{blanks-lws, lws-blank}
use Rattle.sip_text.proofs.texts.RunLemmas.{run-front}
use Rattle.sip_message.specs.inner.Values.{is_value_byte, OtherText, is_plain_byte}
use Rattle.sip_message.proofs.lemmas.text.Cuts.{Stops}
use Rattle.sip_message.proofs.lemmas.front.Prefix.{prefix-at}

-- a fold: CRLF WSP
abbrev Fold : List ℕ → Type 0
Fold = Exactly crlf then One is_wsp

-- a piece of a value that the reader does not look into: a plain byte or a fold
abbrev pub OtherItem : List ℕ → Type 0
OtherItem = One is_plain_byte or Fold

-- the length of the piece at the front of the text, and 0 if there is none
abbrev pub other_len : List ℕ → ℕ
other_len text = if is_plain_byte (slice_index text 0) then 1 else (if begins_with_fold text then 3 else 0)

-- a fold is CRLF and one SP or HTAB
fold-text : (u : List ℕ) → Fold u → (b : ℕ) × (is_wsp b ≡ true) × (u ≡ crlf ++ (b ∷ []))
fold-text u (f, b, is_f, one, whole) = (one.0, one.1, whole ∙ ap (λ t. t ++ b) is_f ∙ ap (λ t. crlf ++ t) one.2)

-- where a piece stands at the front of a text, `other_len` gives its length
other-at_front : (u v : List ℕ) → OtherItem u → other_len (u ++ v) ≡ length u
-- a plain byte passes the first test, which gives 1
other-at_front u v (inl one) =
    ap (λ t. other_len (t ++ v)) one.2 ∙ ap (λ w. cond w 1 (cond (begins_with_fold (one.0 ∷ v)) 3 0)) one.1 ∙ sym (ap length one.2)
-- a fold begins with CR, which is no plain byte, and passes the second test, which gives 3
other-at_front u v (inr fold) =
    let text = fold-text u fold in
    ap (λ t. other_len (t ++ v)) text.2 ∙ ap (λ w. cond w 3 0) text.1 ∙ sym (ap length text.2)

-- a plain byte or a fold is not empty
other-moves : (u : List ℕ) → OtherItem u → 0 < length u
-- a byte is one byte, and a fold has three
other-moves u (inl one) = omega (arith, ap length one.2)
other-moves u (inr fold) = omega (arith, ap length (fold-text u fold).2)

-- where CRLF and a WSP stand at the front of a text, a piece of three bytes stands there
fold-front : (text : List ℕ) → begins_with_fold text ≡ true → HasFront OtherItem text 3
fold-front text is =
    -- `both` says that CR and LF stand there, and a WSP after them
    let both = and_parts _ _ is in
    let ends = and_parts _ _ both.0 in
    at text (eqb-true _ _ ends.0) (eqb-true _ _ ends.1) both.1
  where
    -- CR, LF and a WSP are a piece of three bytes
    at : (t : List ℕ) → slice_index t 0 ≡ carriage_return → slice_index t 1 ≡ line_feed → is_wsp (slice_index t 2) ≡ true → HasFront OtherItem t 3
    -- a text of fewer than three bytes has not all of these
    at [] cr lf wsp = absurd (omega (arith, cr))
    at (a ∷ []) cr lf wsp = absurd (omega (arith, lf))
    at (a ∷ l ∷ []) cr lf wsp = cc
    -- CR, LF and a blank are the piece
    at (a ∷ l ∷ b ∷ t) cr lf wsp = (
      crlf ++ (b ∷ []),
      t,
      inr (crlf, b ∷ [], refl, (b, wsp, refl), refl),
      ap (λ x. x ∷ l ∷ b ∷ t) cr ∙ ap (λ x. carriage_return ∷ x ∷ b ∷ t) lf,
      refl,
    )

-- the length of a fold, if one stands there
abbrev fold_len : Bool → ℕ
fold_len fold = cond fold 3 0

-- `other_len` gives 0, or a piece of that length stands at the front of the text
other-piece : (text : List ℕ) → (other_len text ≡ 0) ⊎ HasFront OtherItem text (other_len text)
-- in an empty text nothing stands
other-piece [] = inl refl
other-piece (a ∷ text) = at (is_plain_byte a) refl
  where
    -- the claim holds whether or not a fold stands at the front
    folds : (is : Bool) → begins_with_fold (a ∷ text) ≡ is → (fold_len is ≡ 0) ⊎ HasFront OtherItem (a ∷ text) (fold_len is)
    -- without a fold the length is 0
    folds false is = inl refl
    folds true is = inr (fold-front (a ∷ text) is)

    -- the claim holds whether or not the first byte is a plain one
    at : (plain : Bool) → is_plain_byte a ≡ plain → (cond plain 1 (fold_len (begins_with_fold (a ∷ text))) ≡ 0) ⊎ HasFront OtherItem (a ∷ text) (cond plain 1 (fold_len (begins_with_fold (a ∷ text))))
    -- a plain byte is a piece
    at true is = inr (a ∷ [], text, inl (a, is, refl), refl, refl)
    at false is = folds (begins_with_fold (a ∷ text)) refl

-- `other_len` steps over plain bytes and folds, one after another
other-step : IsStep OtherItem other_len
other-step = record { at_piece = other-at_front; moves = other-moves; piece = other-piece }

-- a blank, with the CRLF of a fold before it or without, is a piece
blank-item : (u : List ℕ) → Blank u → OtherItem u
-- without a CRLF before it the blank is a plain byte
blank-item u (front, b, inl none, one, whole) = inl (one.0, or_right (is_value_byte one.0) (is_wsp one.0) one.1, whole ∙ ap (λ t. t ++ b) none ∙ one.2)
blank-item u (front, b, inr fold, one, whole) = inr (front, b, fold, one, whole)

-- a value that is not looked into is pieces
other-items : (text : List ℕ) → OtherText text → Many OtherItem text
other-items text many = many-flat (Lws or One is_value_byte) OtherItem text each many
  where
    -- blanks are pieces, and so is a byte of a value
    each : (u : List ℕ) → (Lws or One is_value_byte) u → Many OtherItem u
    -- each blank of a run is a piece
    each u (inl lws) = many-map Blank OtherItem u blank-item (blanks-lws u lws)
    each u (inr (b, is, u_is)) = many-one OtherItem u (inl (b, or_left (is_value_byte b) (is_wsp b) is, u_is))

-- pieces are a value that is not looked into
items-other : (text : List ℕ) → Many OtherItem text → OtherText text
items-other text many = many-map OtherItem (Lws or One is_value_byte) text each many
  where
    -- each piece is blanks or a byte of a value
    each : (u : List ℕ) → OtherItem u → (Lws or One is_value_byte) u
    each u (inl (b, is, u_is)) = elim (or_cases (is_value_byte b) (is_wsp b) is) [
      -- the plain byte is one of a value, or a blank
      | inl byte ↦ inr (b, byte, u_is)
      | inr wsp ↦ inl (lws-blank u ([], u, inl refl, (b, wsp, u_is), refl))
    ]
    -- a fold is a blank
    each u (inr (f, b, is_f, one, whole)) = inl (lws-blank u (f, b, inr is_f, one, whole))

-- where pieces stand at the front of a text, and further ones after these, all of them stand at the front
front-more : (text : List ℕ) (n k : ℕ) → HasFront (Many OtherItem) text n → HasFront (Many OtherItem) (drop n text) k → HasFront (Many OtherItem) text (n + k)
front-more text n k front next = (
  -- the pieces at the front and the further ones, joined, are pieces
  front.0 ++ next.0,
  next.1,
  many-append OtherItem front.0 next.0 front.2 next.2,
  -- the text is the first ones, the further ones and what follows them
  front.3 ∙ ap (λ t. front.0 ++ t) (sym (front-rest (Many OtherItem) text n front) ∙ next.3) ∙ sym (append_assoc front.0 next.0 next.1),
  omega (arith, front.4, next.4, length-append front.0 next.0),
)

-- where pieces stand at the front, and then bytes of a value or blanks, these are pieces as well
pub other-run : (text rest : List ℕ) (n k : ℕ) → HasFront (Many OtherItem) text n → rest ≡ drop n text → k ≡ prefix_len is_plain_byte rest → HasFront (Many OtherItem) text (n + k)
other-run text rest n k front rest_is k_is =
    -- the bytes at the front of the rest are the longest run of plain bytes
    let run = run-front is_plain_byte (drop n text) in
    let len : prefix_len is_plain_byte (drop n text) ≡ k = sym (k_is ∙ ap (prefix_len is_plain_byte) rest_is) in
    front-more text n k front
    (subst (HasFront (Many OtherItem) (drop n text)) len (run.0, run.1, many-map (One is_plain_byte) OtherItem run.0 (λ u one. inl one) run.2, run.3, run.4))

-- where pieces stand at the front, and then a fold, it is a piece as well
pub other-fold : (text rest : List ℕ) (n : ℕ) → HasFront (Many OtherItem) text n → rest ≡ drop n text → begins_with_fold rest ≡ true → HasFront (Many OtherItem) text (n + 3)
other-fold text rest n front rest_is fold =
    -- one fold stands at the front of the rest
    let one = subst (λ t. HasFront OtherItem t 3) rest_is (fold-front rest fold) in
    front-more text n 3 front (one.0, one.1, many-one OtherItem one.0 one.2, one.3, one.4)

-- where neither a byte of a value, nor a blank, nor a fold follows the pieces, the text is a value that is not looked into exactly if it ends there
pub other-end : (text rest : List ℕ) (n : ℕ) → HasFront (Many OtherItem) text n → rest ≡ drop n text → Stops is_plain_byte rest → begins_with_fold rest ≡ false → Decides (nat_eq n (length text)) (OtherText text)
other-end text rest n front rest_is stops no_fold = (
  -- if: all of the text is the pieces at its front
  λ all. items-other text (front-whole (Many OtherItem) text n front (eqb-true n (length text) all)),
  λ other.
      -- only if: as pieces, all of the text is a front, and the pieces at the front are the longest one
      let low = longest_many OtherItem other_len text n other-step front none (length text) (text, [], other-items text other, sym (append-nil text), refl) in
      eq-eqb n (length text) (omega (arith, low, front-within (Many OtherItem) text n front)),
)
  where
    -- neither a plain byte nor a fold stands there, so no piece does
    at : (t : List ℕ) → Stops is_plain_byte t → begins_with_fold t ≡ false → other_len t ≡ 0
    -- at the end nothing stands
    at [] stops_t no_t = refl
    at (b ∷ t) stops_t no_t =
        ap (λ w. cond w 1 (cond (begins_with_fold (b ∷ t)) 3 0)) stops_t ∙ ap (λ w. cond w 3 0) no_t

    -- no further piece follows
    none : other_len (drop n text) ≡ 0
    none = subst (λ t. other_len t ≡ 0) rest_is (at rest stops no_fold)

-- after the longest run of bytes of a value and blanks stands none of them
pub stops-run : (text rest more : List ℕ) (n k : ℕ) → rest ≡ drop n text → more ≡ drop (n + k) text → k ≡ prefix_len is_plain_byte rest → Stops is_plain_byte more
stops-run text rest more n k rest_is more_is k_is =
    -- the longest run of plain bytes ends before a byte that is none
    subst (Stops is_plain_byte) (ap (drop k) rest_is ∙ drop-drop k n text ∙ sym more_is) (prefix-at is_plain_byte rest k k_is).1
