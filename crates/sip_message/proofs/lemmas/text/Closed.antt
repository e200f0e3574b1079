-- Sets that stay themselves when a longest run of blanks in a text becomes one SP. A set that is made
-- of sets is such a set where they are, and where no run of blanks crosses the seams between them.
-- In the lemmas u and v are what stands before and after a run of blanks, b and c are bytes, and w, z, x and r what follows one.
-- `Cuts` tells of two cuts of one text which first part is longer, if one is: `first_longer`, `same_length`, `second_longer`.
use Rattle.std.proofs.Common.{◌≡◌, ℕ, ◌⊎◌, Bool, true, false, not, List, [], ◌∷◌, ◌++◌, cond, refl, sym, ap, ◌∙◌, subst, inl, inr}
use Rattle.std.specs.List.{AllByRecursion, concat, list_any}
use Rattle.std.proofs.lemmas.Bool.{both_ways, not-true}
use Rattle.std.proofs.lemmas.List.{append_assoc, append-nil}
use Rattle.sip_standard.specs.Text.{◌then◌, ◌or◌, Many, Exactly}
use Rattle.sip_text.specs.Bytes.{space}
use Rattle.sip_text.proofs.texts.ManyLemmas.{many-nil, many-cons}
use Rattle.sip_message.specs.inner.FieldText.{EndsSolid, OpensSolid}
use Rattle.sip_standard.specs.Field.{is_lws_byte}
use Rattle.sip_standard.specs.Canonical.{is_end_byte, unfolded_run, unfolded_from, unfolded}
use Rattle.sip_message.proofs.lemmas.text.Cuts.{Cuts, first_longer, same_length, second_longer, two_cuts, All, all_left, all_right, all_both}
use Rattle.sip_message.proofs.lemmas.text.Each.{Each, is_solid}
use Rattle.sip_message.proofs.lemmas.field.OneWay.{ends_blank}

-- where a text of P has a longest run of blanks, the text with one SP in its place is of P
abbrev pub Closed : (List ℕ → Type 0) → Type 0
Closed P = (u v : List ℕ) (b : ℕ) (w : List ℕ) → EndsSolid u → OpensSolid v → All is_lws_byte (b ∷ w) → P (u ++ ((b ∷ w) ++ v)) → P (u ++ space ∷ v)

-- no byte is both solid and a blank
pub not_both : (b : ℕ) → is_solid b ≡ true → is_lws_byte b ≡ true → ⊥
not_both b solid blank = both_ways true (sym solid ∙ ap not blank) refl

-- a solid byte is no blank
pub solid_is : (b : ℕ) → is_solid b ≡ true → is_lws_byte b ≡ false
solid_is b solid = not-true (is_lws_byte b) solid

-- a set whose texts have no blanks is closed, since there is no run of blanks to replace
pub closed-solid : (P : List ℕ → Type 0) → Each is_solid P → Closed P
closed-solid P each u v b w ends opens blanks is =
    -- the first blank of the run would be one of a text that has none
    absurd (not_both b (all_right is_solid u ((b ∷ w) ++ v) (each _ is)).0 blanks.0)

-- blanks that do not end with a blank are none
blank_ends : (u : List ℕ) → EndsSolid u → All is_lws_byte u → u ≡ []
-- blanks that are not empty end with a blank
blank_ends [] ends all = refl
blank_ends (b ∷ u) ends all = absurd (ends_blank [] b u ends all)

-- blanks that do not begin with a blank are none
pub blank_opens : (v : List ℕ) → OpensSolid v → All is_lws_byte v → v ≡ []
-- blanks that are not empty begin with a blank
blank_opens [] opens all = refl
blank_opens (b ∷ v) opens all = absurd (both_ways (is_lws_byte b) opens all.0)

-- a set of blank runs that has one SP is closed
pub closed-blank : (P : List ℕ → Type 0) → Each is_lws_byte P → P (space ∷ []) → Closed P
closed-blank P each one u v b w ends opens blanks is =
    -- all of the text is blanks; u does not end with one, and v begins with none, so both are empty
    let all = each _ is in
    let front = blank_ends u ends (all_left is_lws_byte u ((b ∷ w) ++ v) all) in
    let back = blank_opens v opens (all_right is_lws_byte (b ∷ w) v (all_right is_lws_byte u ((b ∷ w) ++ v) all)) in
    subst P (ap (λ t. space ∷ t) (sym back) ∙ ap (λ t. t ++ space ∷ v) (sym front)) one

-- P / Q is closed where P and Q are
pub closed-or : (P Q : List ℕ → Type 0) → Closed P → Closed Q → Closed (P or Q)
closed-or P Q left right u v b w ends opens blanks (inl is) = inl (left u v b w ends opens blanks is)
closed-or P Q left right u v b w ends opens blanks (inr is) = inr (right u v b w ends opens blanks is)

-- no text of P ends with a blank where one of Q begins with one
abbrev pub Seam : (List ℕ → Type 0) → (List ℕ → Type 0) → Type 0
Seam P Q = (p q : List ℕ) → P p → Q q → EndsSolid p ⊎ OpensSolid q

-- where a text that ends with b and z does not end with a blank, b and z do not
pub ends-right : (u : List ℕ) (b : ℕ) (z : List ℕ) → EndsSolid (u ++ b ∷ z) → EndsSolid (b ∷ z)
ends-right [] b z ends = ends
ends-right (a ∷ []) b z ends = ends
ends-right (a ∷ c ∷ u) b z ends = ends-right (c ∷ u) b z ends

-- P Q is closed where P and Q are, and no run of blanks crosses the seam between them
pub closed-then : (P Q : List ℕ → Type 0) → Seam P Q → Closed P → Closed Q → Closed (P then Q)
closed-then P Q seam left right u v b w ends opens blanks (p, q, is_p, is_q, whole) =
    at (two_cuts p q u ((b ∷ w) ++ v) (sym whole))
  where
    -- where the run of blanks begins in p, the text with one SP in its place is a text of P and then one of Q
    inner : (c : ℕ) (z : List ℕ) → p ≡ u ++ c ∷ z → Cuts (b ∷ w) v (c ∷ z) q → (P then Q) (u ++ space ∷ v)
    -- the run is what is left of p
    inner c z p_is (same_length run rest) = (
      u ++ space ∷ [],
      q,
      left u [] b w ends tt blanks (subst P (p_is ∙ ap (λ t. u ++ t) (sym run ∙ sym (append-nil (b ∷ w)))) is_p),
      is_q,
      ap (λ t. u ++ space ∷ t) rest ∙ sym (append_assoc u (space ∷ []) q),
    )
    -- the run goes on into q: but no run of blanks crosses the seam
    inner c z p_is (first_longer d y run q_begins) =
        let both : All is_lws_byte ((c ∷ z) ++ d ∷ y) = subst (All is_lws_byte) run blanks in
        elim (seam p q is_p is_q) [
          | inl solid ↦ absurd (ends_blank u c z (subst EndsSolid p_is solid) (all_left is_lws_byte (c ∷ z) (d ∷ y) both))
          | inr solid ↦ absurd (both_ways (is_lws_byte d) (subst OpensSolid q_begins solid) (all_right is_lws_byte (c ∷ z) (d ∷ y) both).0)
        ]
    -- the run ends within p
    inner c z p_is (second_longer d y run rest) = (
      u ++ space ∷ (d ∷ y),
      q,
      left u (d ∷ y) b w ends (subst OpensSolid rest opens) blanks (subst P (p_is ∙ ap (λ t. u ++ t) run) is_p),
      is_q,
      ap (λ t. u ++ space ∷ t) rest ∙ sym (append_assoc u (space ∷ d ∷ y) q),
    )

    -- the claim holds whether the run of blanks begins in p, at its end, or in q
    at : Cuts p q u ((b ∷ w) ++ v) → (P then Q) (u ++ space ∷ v)
    at (same_length front rest) =
        -- the run begins where q does
        (p, space ∷ v, is_p, right [] v b w tt opens blanks (subst Q rest is_q), ap (λ t. t ++ space ∷ v) (sym front))
    -- the run begins within p
    at (first_longer c z p_is rest) = inner c z p_is (two_cuts (b ∷ w) v (c ∷ z) q rest)
    -- the blanks lie within the text of Q
    at (second_longer c z u_is rest) = (
      p,
      (c ∷ z) ++ space ∷ v,
      is_p,
      right (c ∷ z) v b w (ends-right p c z (subst EndsSolid u_is ends)) opens blanks (subst Q rest is_q),
      ap (λ t. t ++ space ∷ v) u_is ∙ append_assoc p (c ∷ z) (space ∷ v),
    )

-- the text is as many texts of P as the list has elements
abbrev pub Times : {X : Type 0} → (List ℕ → Type 0) → List X → List ℕ → Type 0
Times P [] = Exactly []
Times P (x ∷ xs) = P then Times P xs

-- as many texts of P as a list has elements are any number of texts of P
times-many : {X : Type 0} (P : List ℕ → Type 0) (xs : List X) (text : List ℕ) → Times P xs text → Many P text
-- with no element the text is empty
times-many P [] text is = subst (Many P) (sym is) (many-nil P)
times-many P (x ∷ xs) text is =
    subst (Many P) (sym is.4) (many-cons P is.0 is.1 is.2 (times-many P xs is.1 is.3))

-- n texts of P, joined, are n times P
many-times : (P : List ℕ → Type 0) (us : List (List ℕ)) → AllByRecursion P us → Times P us (concat us)
many-times P [] all = refl
many-times P (u ∷ us) all = (u, concat us, all.0, many-times P us all.1, refl)

-- as many texts of P as a list has elements are a closed set where P is closed, and no text of P ends with a blank
pub closed-times : {X : Type 0} (P : List ℕ → Type 0) (xs : List X) → ((u : List ℕ) → P u → EndsSolid u) → Closed P → Closed (Times P xs)
-- the empty text has no blanks
closed-times P [] ends closed = closed-solid (Exactly []) (λ u is. subst (All is_solid) (sym is) tt)
-- each text of P ends with no blank, so no run crosses the seam after it
closed-times P (x ∷ xs) ends closed = closed-then P (Times P xs) (λ p q is_p is_q. inl (ends p is_p)) closed (closed-times P xs ends closed)

-- *P is closed where P is, and no text of P ends with a blank
pub closed-many : (P : List ℕ → Type 0) → ((u : List ℕ) → P u → EndsSolid u) → Closed P → Closed (Many P)
closed-many P ends closed u v b w u_ends opens blanks many =
    -- the text is as many texts of P as it was before
    times-many P many.0 _ (closed-times P many.0 ends closed u v b w u_ends opens blanks
    (subst (Times P many.0) (sym many.2) (many-times P many.0 many.1)))

-- a text of a closed set is of the set when a run of blanks in it is unfolded
unfolds-run : (P : List ℕ → Type 0) → Closed P → (u run v : List ℕ) → EndsSolid u → All is_lws_byte run → OpensSolid v → P (u ++ (run ++ v)) → P (u ++ (unfolded_run run ++ v))
-- there is no run
unfolds-run P closed u [] v ends blanks opens is = is
unfolds-run P closed u (b ∷ w) v ends blanks opens is = at (list_any is_end_byte (b ∷ w)) refl
  where
    -- the run becomes one SP, or it stays where it has no line end
    at : (folds : Bool) → list_any is_end_byte (b ∷ w) ≡ folds → P (u ++ (cond folds (space ∷ []) (b ∷ w) ++ v))
    at true folds = closed u v b w ends opens blanks is
    at false folds = is

-- a text whose last byte is no blank does not end with a blank
ends-byte : (u : List ℕ) (b : ℕ) → is_lws_byte b ≡ false → EndsSolid (u ++ b ∷ [])
ends-byte [] b solid = solid
ends-byte (a ∷ []) b solid = solid
ends-byte (a ∷ c ∷ u) b solid = ends-byte (c ∷ u) b solid

-- a text of a closed set is of the set when it is unfolded from the end of a front on that does not end with a blank
unfolds-from : (P : List ℕ → Type 0) → Closed P → (text u run : List ℕ) → EndsSolid u → All is_lws_byte run → P (u ++ (run ++ text)) → P (u ++ unfolded_from run text)
unfolds-from P closed [] u run ends blanks is =
    -- the text has ended, and the run is written
    subst P (ap (λ t. u ++ t) (append-nil (unfolded_run run))) (unfolds-run P closed u run [] ends blanks tt is)
unfolds-from P closed (b ∷ text) u run ends blanks is = at (unfolds-from P closed text) (is_lws_byte b) refl
  where
    -- the text is the same where the run and b join its front
    shape : (t : List ℕ) → u ++ (unfolded_run run ++ b ∷ t) ≡ (u ++ (unfolded_run run ++ b ∷ [])) ++ t
    shape t =
        ap (λ x. u ++ x) (sym (append_assoc (unfolded_run run) (b ∷ []) t))
        ∙ sym (append_assoc u (unfolded_run run ++ b ∷ []) t)

    -- the claim holds whether or not the next byte is a blank, which makes the run longer
    at : ((x r : List ℕ) → EndsSolid x → All is_lws_byte r → P (x ++ (r ++ text)) → P (x ++ unfolded_from r text)) → (blank : Bool) → is_lws_byte b ≡ blank → P (u ++ cond blank (unfolded_from (run ++ b ∷ []) text) (unfolded_run run ++ b ∷ unfolded_from [] text))
    at later true blank =
        -- a blank joins the run
        later u (run ++ b ∷ []) ends (all_both is_lws_byte run (b ∷ []) blanks (blank, tt))
        (subst P (ap (λ t. u ++ t) (sym (append_assoc run (b ∷ []) text))) is)
    at later false solid =
        -- another byte ends the run, which is written before it
        subst P (sym (shape (unfolded_from [] text)))
        (later (u ++ (unfolded_run run ++ b ∷ [])) [] (subst EndsSolid (append_assoc u (unfolded_run run) (b ∷ [])) (ends-byte (u ++ unfolded_run run) b solid)) tt
        (subst P (shape text) (unfolds-run P closed u run (b ∷ text) ends blanks solid is)))

-- a text of a closed set is of the set when it is unfolded
pub closed-unfolded : (P : List ℕ → Type 0) → Closed P → (text : List ℕ) → P text → P (unfolded text)
closed-unfolded P closed text is = unfolds-from P closed text [] [] tt tt is
