-- Repetition, read piece by piece.
-- In the lemmas u, v and w are parts of a text, one after another.
use Rattle.std.proofs.Common.{◌≡◌, ℕ, ◌+◌, ◌<◌, ◌≤◌, ◌⊎◌, List, [], ◌∷◌, ◌++◌, length, drop, refl, sym, ap, ◌∙◌, subst, inl, inr, arith}
use Rattle.std.specs.List.{AllByRecursion, concat}
use Rattle.std.proofs.lemmas.List.{append-nil, append_assoc, length-append}
use Rattle.std.proofs.lemmas.List.Folds.{concat-append}
use Rattle.sip_standard.specs.Text.{Many, OneOrMore}
use Rattle.sip_text.specs.Front.{HasFront}

-- what holds of each element of two lists holds of each element of the one after the other
pub AllByRecursion-append : {X : Type 0} (P : X → Type 0) (us vs : List X) → AllByRecursion P us → AllByRecursion P vs → AllByRecursion P (us ++ vs)
AllByRecursion-append P [] vs left right = right
AllByRecursion-append P (u ∷ us) vs left right = (left.0, AllByRecursion-append P us vs left.1 right)

-- the empty text is any number of pieces: none
pub many-nil : (P : List ℕ → Type 0) → Many P []
many-nil P = ([], tt, refl)

-- a piece and then any number of pieces are any number of pieces
pub many-cons : (P : List ℕ → Type 0) (u v : List ℕ) → P u → Many P v → Many P (u ++ v)
many-cons P u v one many = (u ∷ many.0, (one, many.1), ap (λ t. u ++ t) many.2)

-- any number of pieces and then any number more are any number of pieces
pub many-append : (P : List ℕ → Type 0) (u v : List ℕ) → Many P u → Many P v → Many P (u ++ v)
many-append P u v left right = (
  left.0 ++ right.0,
  AllByRecursion-append P left.0 right.0 left.1 right.1,
  ap (λ t. t ++ v) left.2 ∙ ap (λ t. concat left.0 ++ t) right.2 ∙ sym (concat-append left.0 right.0),
)

-- one piece is any number of pieces
pub many-one : (P : List ℕ → Type 0) (u : List ℕ) → P u → Many P u
many-one P u one = subst (Many P) (append-nil u) (many-cons P u [] one (many-nil P))

-- any number of pieces and then one piece are any number of pieces
pub many-push : (P : List ℕ → Type 0) (u v : List ℕ) → Many P u → P v → Many P (u ++ v)
many-push P u v many one = many-append P u v many (many-one P v one)

-- one or more pieces are any number of pieces
pub many-some : (P : List ℕ → Type 0) (text : List ℕ) → OneOrMore P text → Many P text
many-some P text some = subst (Many P) (sym some.4) (many-cons P some.0 some.1 some.2 some.3)

-- any number of pieces are none, or one or more
pub some-many : (P : List ℕ → Type 0) (text : List ℕ) → Many P text → (text ≡ []) ⊎ OneOrMore P text
some-many P text ([], all, whole) = inl whole
some-many P text (u ∷ us, all, whole) = inr (u, concat us, all.0, (us, all.1, refl), whole)

-- where each text of P is any number of texts of Q, any number of texts of P are any number of texts of Q
pub many-flat : (P Q : List ℕ → Type 0) (text : List ℕ) → ((u : List ℕ) → P u → Many Q u) → Many P text → Many Q text
many-flat P Q text each many = subst (Many Q) (sym many.2) (flat many.0 many.1)
  where
    -- many texts of P are many texts of Q, one after the other
    flat : (us : List (List ℕ)) → AllByRecursion P us → Many Q (concat us)
    flat [] all = many-nil Q
    flat (u ∷ us) all = many-append Q u (concat us) (each u all.0) (flat us all.1)

-- where each text of P is a text of Q, any number of texts of P are any number of texts of Q
pub many-map : (P Q : List ℕ → Type 0) (text : List ℕ) → ((u : List ℕ) → P u → Q u) → Many P text → Many Q text
many-map P Q text each many = many-flat P Q text (λ u one. many-one Q u (each u one)) many

-- `len` measures the piece at the front of a text, and is 0 where there is none
pub record IsStep (P : List ℕ → Type 0) (len : List ℕ → ℕ) : Type 0 where
  pub at_piece : (u v : List ℕ) → P u → len (u ++ v) ≡ length u
  pub moves : (u : List ℕ) → P u → 0 < length u
  pub piece : (text : List ℕ) → (len text ≡ 0) ⊎ HasFront P text (len text)

-- u and v without the first `length u` bytes are v
pub drop-front : (u v : List ℕ) → drop (length u) (u ++ v) ≡ v
drop-front [] v = refl
drop-front (b ∷ u) v = drop-front u v

-- a text without its first n bytes, which are of P, is the rest that this front leaves
pub front-rest : (P : List ℕ → Type 0) (text : List ℕ) (n : ℕ) (front : HasFront P text n) → drop n text ≡ front.1
front-rest P text n front =
    ap (λ m. drop m text) front.4 ∙ ap (drop (length front.0)) front.3 ∙ drop-front front.0 front.1

-- a front lies within its text
pub front-within : (P : List ℕ → Type 0) (text : List ℕ) (n : ℕ) → HasFront P text n → n ≤ length text
front-within P text n front = omega (arith, ap length front.3, length-append front.0 front.1, front.4)

-- where n bytes of a text are pieces, and `len` measures k bytes more, the first n + k bytes are pieces
pub run-more : (P : List ℕ → Type 0) (len : List ℕ → ℕ) (text : List ℕ) (n k : ℕ) → IsStep P len → HasFront (Many P) text n → k ≡ len (drop n text) → (k ≡ 0 → ⊥) → HasFront (Many P) text (n + k)
run-more P len text n k step front k_is some =
    elim (step.piece front.1) [
      -- k is not 0, so a piece stands there
      | inl stops ↦ absurd (some (at_rest ∙ stops))
      -- one piece more follows, which has k bytes
      | inr next ↦ (
        front.0 ++ next.0,
        next.1,
        many-push P front.0 next.0 front.2 next.2,
        -- the text is the pieces before, the next one and what is left, and its length is counted so too
        front.3 ∙ ap (λ t. front.0 ++ t) next.3 ∙ sym (append_assoc front.0 next.0 next.1),
        ap (λ m. m + k) front.4 ∙ ap (λ m. length front.0 + m) (at_rest ∙ next.4) ∙ sym (length-append front.0 next.0),
      )
    ]
  where
    -- k is what `len` measures of the rest
    at_rest : k ≡ len front.1
    at_rest = k_is ∙ ap len (front-rest (Many P) text n front)

-- where one text is p and x, and also q and y, and p and q are equally long, p is q, and x is y
pub append_cancel_both : (p x q y : List ℕ) → length p ≡ length q → p ++ x ≡ q ++ y → (p ≡ q) × (x ≡ y)
-- the one is empty exactly if the other is, since they are equally long; and else their first bytes, a and b, are the same
append_cancel_both [] x [] y lens same = (refl, same)
append_cancel_both [] x (b ∷ q) y lens same = absurd (omega (arith, lens))
append_cancel_both (a ∷ p) x [] y lens same = absurd (omega (arith, lens))
append_cancel_both (a ∷ p) x (b ∷ q) y lens same =
    let heads : a ≡ b = cc in
    let tails : p ++ x ≡ q ++ y = cc in
    let rest = append_cancel_both p x q y (omega (arith, lens)) tails in
    (cc, rest.1)

-- where a text begins with a piece u, `len` measures u there
at_front : (P : List ℕ → Type 0) (len : List ℕ → ℕ) (u w v text : List ℕ) → IsStep P len → P u → text ≡ (u ++ w) ++ v → (len text ≡ length u) × (text ≡ u ++ (w ++ v))
at_front P len u w v text step one whole =
    let flat : text ≡ u ++ (w ++ v) = whole ∙ append_assoc u w v in
    (ap len flat ∙ step.at_piece u (w ++ v) one, flat)

-- a text at whose front `len` measures no piece cannot begin with the piece u
no_piece : (P : List ℕ → Type 0) (len : List ℕ → ℕ) (u w v text : List ℕ) → IsStep P len → P u → len text ≡ 0 → text ≡ (u ++ w) ++ v → ⊥
no_piece P len u w v text step one stops whole =
    let measured = at_front P len u w v text step one whole in
    absurd (omega (arith, step.moves u one, measured.0, stops))

-- where one text is the piece u and then w and v, and also the piece x and then z and y, u is x, and the rests are the same
same_piece : (P : List ℕ → Type 0) (len : List ℕ → ℕ) (u w v x z y : List ℕ) → IsStep P len → P u → P x → (u ++ w) ++ v ≡ (x ++ z) ++ y → (u ≡ x) × (w ++ v ≡ z ++ y)
same_piece P len u w v x z y step one other same =
    let left = at_front P len u w v _ step one refl in
    let right = at_front P len x z y _ step other same in
    append_cancel_both u (w ++ v) x (z ++ y) (sym left.0 ∙ right.0) (sym left.1 ∙ right.1)

-- two runs of pieces that cannot go on, in the same text, are the same run
-- us and xs are the pieces of the two runs, and v and y what follows them
same_pieces : (P : List ℕ → Type 0) (len : List ℕ → ℕ) (us xs : List (List ℕ)) (v y : List ℕ) → IsStep P len → AllByRecursion P us → AllByRecursion P xs → concat us ++ v ≡ concat xs ++ y → len v ≡ 0 → len y ≡ 0 → (concat us ≡ concat xs) × (v ≡ y)
-- where the one run has no piece left, the other has none, since none begins there
same_pieces P len [] [] v y step ones others same v_stops y_stops = (refl, same)
same_pieces P len [] (x ∷ xs) v y step ones others same v_stops y_stops =
    absurd (no_piece P len x (concat xs) y v step others.0 v_stops same)
same_pieces P len (u ∷ us) [] v y step ones others same v_stops y_stops =
    absurd (no_piece P len u (concat us) v y step ones.0 y_stops (sym same))
-- u and x are the first pieces, which are the same, and so are the runs after them
same_pieces P len (u ∷ us) (x ∷ xs) v y step ones others same v_stops y_stops =
    let first = same_piece P len u (concat us) v x (concat xs) y step ones.0 others.0 same in
    let rest = same_pieces P len us xs v y step ones.1 others.1 first.1 v_stops y_stops in
    (ap (λ t. t ++ concat us) first.0 ∙ ap (λ t. x ++ t) rest.0, rest.1)

-- pieces at the front of a text that no piece follows are the same pieces in each reading of the text
-- u and x are the pieces, and v and y the rest, by two readings
pub same_many : (P : List ℕ → Type 0) (len : List ℕ → ℕ) (u v x y : List ℕ) → IsStep P len → Many P u → Many P x → u ++ v ≡ x ++ y → len v ≡ 0 → len y ≡ 0 → (u ≡ x) × (v ≡ y)
same_many P len u v x y step ones others same v_stops y_stops =
    let both = same_pieces P len ones.0 others.0 v y step ones.1 others.1
    (ap (λ t. t ++ v) (sym ones.2) ∙ same ∙ ap (λ t. t ++ y) others.2) v_stops y_stops in
    (ones.2 ∙ both.0 ∙ sym others.2, both.1)

-- pieces at the front of a text that no piece follows are at least as long as any pieces at its front
-- us are the longest pieces, with v after them, and xs the others, with y after them
longest_pieces : (P : List ℕ → Type 0) (len : List ℕ → ℕ) (us xs : List (List ℕ)) (v y : List ℕ) → IsStep P len → AllByRecursion P us → AllByRecursion P xs → concat us ++ v ≡ concat xs ++ y → len v ≡ 0 → length (concat xs) ≤ length (concat us)
-- no other pieces are never longer; no longest pieces leave no other ones; else the first pieces are the same, and the rest follows
longest_pieces P len us [] v y step ones others same stops = omega arith
longest_pieces P len [] (x ∷ xs) v y step ones others same stops =
    absurd (no_piece P len x (concat xs) y v step others.0 stops same)
longest_pieces P len (u ∷ us) (x ∷ xs) v y step ones others same stops =
    let first = same_piece P len u (concat us) v x (concat xs) y step ones.0 others.0 same in
    let rest = longest_pieces P len us xs v y step ones.1 others.1 first.1 stops in
    omega (arith, rest, ap length first.0, length-append u (concat us), length-append x (concat xs))

-- where no piece follows a run of pieces at the front of a text, no run of pieces there is longer
pub longest_many : (P : List ℕ → Type 0) (len : List ℕ → ℕ) (text : List ℕ) (n : ℕ) → IsStep P len → HasFront (Many P) text n → len (drop n text) ≡ 0 → (m : ℕ) → HasFront (Many P) text m → m ≤ n
longest_many P len text n step front stops m other =
    let v_stops : len front.1 ≡ 0 = ap len (sym (front-rest (Many P) text n front)) ∙ stops in
    let same : concat front.2.0 ++ front.1 ≡ concat other.2.0 ++ other.1 =
    ap (λ t. t ++ front.1) (sym front.2.2) ∙ sym front.3 ∙ other.3 ∙ ap (λ t. t ++ other.1) other.2.2 in
    let longest = longest_pieces P len front.2.0 other.2.0 front.1 other.1 step front.2.1 other.2.1 same v_stops in
    omega (arith, longest, ap length front.2.2, ap length other.2.2, front.4, other.4)

-- a front as long as its text is the text
pub front-whole : (P : List ℕ → Type 0) (text : List ℕ) (n : ℕ) → HasFront P text n → n ≡ length text → P text
front-whole P text n front all =
    let empty = length_nil front.1 (omega (arith, ap length front.3, length-append front.0 front.1, front.4, all)) in
    subst P (sym (front.3 ∙ ap (λ t. front.0 ++ t) empty ∙ append-nil front.0)) front.2
  where
    -- a text of length 0 is empty
    length_nil : (v : List ℕ) → length v ≡ 0 → v ≡ []
    length_nil [] none = refl
    length_nil (b ∷ v) none = absurd (omega (arith, none))
