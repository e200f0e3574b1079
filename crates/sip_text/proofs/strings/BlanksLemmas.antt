-- A blank run, as one LWS or more, and in pieces that begin no other.
use Rattle.std.proofs.Common.{◌≡◌, ℕ, zero, suc, ◌+◌, ◌<◌, ◌⊎◌, Bool, true, false, IsTrue, List, [], ◌∷◌, ◌++◌, length, drop, slice_index, cond, refl, sym, ap, ◌∙◌, subst, inl, inr, arith}
use Rattle.std.proofs.lemmas.Bool.{and_parts, eqb-true}
use Rattle.std.proofs.lemmas.List.{append_assoc, append-nil, length-append}
use Rattle.sip_standard.specs.Text.{One, Many}
use Rattle.sip_standard.specs.Profile.{Lws, Blanks, Sws}
use Rattle.sip_text.specs.Bytes.{carriage_return, line_feed, crlf}
use Rattle.sip_text.specs.inner.Blanks.{is_wsp, Blank, begins_with_fold, blank_len}
use Rattle.sip_text.specs.Front.{HasFront, IsLongestFront}
use Rattle.sip_text.proofs.texts.ManyLemmas.{many-cons, many-nil, many-some, some-many, many-map, many-flat, many-append, IsStep, run-more, longest_many}

-- a WSP is a blank
blank-wsp : (u : List ℕ) → One is_wsp u → Blank u
blank-wsp u one = ([], u, inl refl, one, refl)

-- CRLF WSP is a blank
blank-fold : (b : ℕ) → IsTrue (is_wsp b) → Blank (crlf ++ (b ∷ []))
blank-fold b wsp = (crlf, b ∷ [], inr refl, (b, wsp, refl), refl)

-- WSP in a row are blanks
blanks-wsp : (u : List ℕ) → Many (One is_wsp) u → Many Blank u
blanks-wsp u many = many-map (One is_wsp) Blank u blank-wsp many

-- an LWS is blanks
pub blanks-lws : (u : List ℕ) → Lws u → Many Blank u
blanks-lws u (front, wsp, inl none, some, whole) =
    subst (Many Blank) (sym (whole ∙ ap (λ t. t ++ wsp) none)) (blanks-wsp wsp (many-some (One is_wsp) wsp some))
-- blanks, a line end and a blank after it: a fold among blanks
blanks-lws u (front, wsp, inr (before, end, many, is_end, front_is), (first, more, one, others, wsp_is), whole) =
    subst (Many Blank) (sym split)
    (many-append Blank before ((crlf ++ (one.0 ∷ [])) ++ more) (blanks-wsp before many)
    (many-cons Blank (crlf ++ (one.0 ∷ [])) more (blank-fold one.0 one.1) (blanks-wsp more others)))
  where
    -- the text is these parts in a row
    split : u ≡ before ++ ((crlf ++ (one.0 ∷ [])) ++ more)
    split =
        whole ∙ ap (λ t. t ++ wsp) front_is
        ∙ ap (λ t. (before ++ end) ++ t) wsp_is
        ∙ ap (λ t. (before ++ t) ++ (first ++ more)) is_end
        ∙ ap (λ t. (before ++ crlf) ++ (t ++ more)) one.2
        ∙ append_assoc before crlf ((one.0 ∷ []) ++ more)

-- a blank run is blanks
pub units-blanks : (text : List ℕ) → Blanks text → Many Blank text
units-blanks text blanks = many-flat Lws Blank text blanks-lws (many-some Lws text blanks)

-- a blank is an LWS
pub lws-blank : (u : List ℕ) → Blank u → Lws u
lws-blank u (front, b, inl none, one, whole) = ([], b, inl refl, (b, [], one, many-nil (One is_wsp), sym (append-nil b)), whole ∙ ap (λ t. t ++ b) none)
lws-blank u (front, b, inr fold, one, whole) = (front, b, inr ([], front, many-nil (One is_wsp), fold, refl), (b, [], one, many-nil (One is_wsp), sym (append-nil b)), whole)

-- blanks are no text, or a blank run
pub blanks-units : (text : List ℕ) → Many Blank text → Sws text
blanks-units text many = some-many Lws text (many-map Blank Lws text lws-blank many)

-- where a blank stands at the front of a text, `blank_len` gives its length
blank-at_front : (u v : List ℕ) → Blank u → blank_len (u ++ v) ≡ length u
blank-at_front u v (front, b, inl none, one, whole) =
    -- the blank is one byte, SP or HTAB, and the length of such a one is 1
    let text : u ≡ one.0 ∷ [] = whole ∙ ap (λ t. t ++ b) none ∙ one.2 in
    ap (λ t. blank_len (t ++ v)) text ∙ ap (λ w. cond w 1 (cond (begins_with_fold (one.0 ∷ v)) 3 0)) one.1 ∙ sym (ap length text)
blank-at_front u v (front, b, inr fold, one, whole) =
    -- the blank is CR, LF and a byte, and the length of such a fold is 3
    let text : u ≡ crlf ++ (one.0 ∷ []) = whole ∙ ap (λ t. t ++ b) fold ∙ ap (λ t. crlf ++ t) one.2 in
    ap (λ t. blank_len (t ++ v)) text ∙ ap (λ w. cond w 3 0) one.1 ∙ sym (ap length text)

-- a blank is not empty
blank-moves : (u : List ℕ) → Blank u → 0 < length u
blank-moves u blank = omega (arith, ap length blank.4, length-append blank.0 blank.1, ap length blank.3.2)

-- the length of a fold with its blank, where there is one
abbrev fold_len : Bool → ℕ
fold_len fold = cond fold 3 0

-- `blank_len` gives 0, or a blank of that length stands at the front of the text
blank-piece : (text : List ℕ) → (blank_len text ≡ 0) ⊎ HasFront Blank text (blank_len text)
blank-piece [] = inl refl
blank-piece (a ∷ text) = at (is_wsp a) refl
  where
    -- CR, LF and a WSP are a blank of three bytes
    fold : (t : List ℕ) → a ≡ carriage_return → slice_index t 0 ≡ line_feed → is_wsp (slice_index t 1) ≡ true → HasFront Blank (a ∷ t) 3
    -- a text of fewer bytes is no fold
    fold [] cr lf wsp = absurd (omega (arith, lf))
    fold (l ∷ []) cr lf wsp = cc
    fold (l ∷ b ∷ t) cr lf wsp = (crlf ++ (b ∷ []), t, blank-fold b wsp, ap (λ x. x ∷ l ∷ b ∷ t) cr ∙ ap (λ x. carriage_return ∷ x ∷ b ∷ t) lf, refl)

    -- the claim holds whether or not a fold stands there
    folds : (is : Bool) → begins_with_fold (a ∷ text) ≡ is → (fold_len is ≡ 0) ⊎ HasFront Blank (a ∷ text) (fold_len is)
    folds false is = inl refl
    folds true is =
        -- the first two bytes are CR and LF, and the third is a WSP
        let both = and_parts _ _ is in
        let ends = and_parts _ _ both.0 in
        inr (fold text (eqb-true _ _ ends.0) (eqb-true _ _ ends.1) both.1)

    -- the claim holds whether or not the first byte is SP or HTAB
    at : (wsp : Bool) → is_wsp a ≡ wsp → (cond wsp 1 (fold_len (begins_with_fold (a ∷ text))) ≡ 0) ⊎ HasFront Blank (a ∷ text) (cond wsp 1 (fold_len (begins_with_fold (a ∷ text))))
    at true is = inr (a ∷ [], text, blank-wsp (a ∷ []) (a, is, refl), refl, refl)
    at false is = folds (begins_with_fold (a ∷ text)) refl

-- `blank_len` measures the blank at the front of a text, and is 0 where there is none
pub blank-step : IsStep Blank blank_len
blank-step = record { at_piece = blank-at_front; moves = blank-moves; piece = blank-piece }

-- the first n bytes of a text are its longest blank run where they are blanks and no blank follows them
pub longest-blanks : (text : List ℕ) (n : ℕ) → HasFront (Many Blank) text n → blank_len (drop n text) ≡ 0 → IsLongestFront Blanks text n
longest-blanks text n front stops = record {
  -- a blank run in pieces is one of the grammar, or nothing
  front = elim (blanks-units front.0 front.2) [
    | inl none ↦ inl (front.4 ∙ ap length none)
    | inr blanks ↦ inr (front.0, front.1, blanks, front.3, front.4)
  ];
  -- no longer front is a blank run: it would have one piece more, and no piece follows
  longest = λ m other.
      longest_many Blank blank_len text n blank-step front stops m
      (other.0, other.1, units-blanks other.0 other.2, other.3, other.4);
}

-- the longest blank run of a text is blanks, and no blank follows it
pub blanks-longest : (text : List ℕ) (n : ℕ) → IsLongestFront Blanks text n → HasFront (Many Blank) text n × (blank_len (drop n text) ≡ 0)
blanks-longest text n run = (units, stops (blank_len (drop n text)) refl)
  where
    -- the run is any number of blanks
    units : HasFront (Many Blank) text n
    units = elim run.front [
      -- the run has no byte, or its bytes are blanks, which are one blank after another
      | inl none ↦ subst (HasFront (Many Blank) text) (sym none) ([], text, many-nil Blank, refl, refl)
      | inr front ↦ (front.0, front.1, units-blanks front.0 front.2, front.3, front.4)
    ]

    -- no blank run at the front of the text is longer than n bytes
    longer : (k : ℕ) → HasFront (Many Blank) text (n + suc k) → ⊥
    longer k front = elim (blanks-units front.0 front.2) [
      -- a run of n + 1 bytes or more is not empty, and as blanks it would be longer than the longest
      | inl none ↦ absurd (omega (arith, front.4, ap length none))
      | inr blanks ↦ absurd (omega (arith, run.longest (n + suc k) (front.0, front.1, blanks, front.3, front.4)))
    ]

    -- no blank stands after the run, since it would make the run longer
    stops : (k : ℕ) → k ≡ blank_len (drop n text) → k ≡ 0
    stops zero is = refl
    stops (suc k) is =
        absurd (longer k (run-more Blank blank_len text n (suc k) blank-step units is (λ none. absurd (omega (arith, none)))))
