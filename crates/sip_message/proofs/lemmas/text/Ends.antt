-- Texts that are not empty, and do not end with a blank.
use Rattle.std.proofs.Common.{ℕ, List, [], ◌∷◌, ◌++◌, sym, subst, inl, inr}
use Rattle.std.specs.List.{AllByRecursion, concat}
use Rattle.std.proofs.lemmas.List.{append-nil}
use Rattle.sip_standard.specs.Text.{◌then◌, Many}
use Rattle.sip_message.specs.inner.FieldText.{EndsSolid, OpensSolid}
use Rattle.sip_message.proofs.lemmas.text.Cuts.{All}
use Rattle.sip_message.proofs.lemmas.text.Each.{Each, is_solid}
use Rattle.sip_message.proofs.lemmas.text.Closed.{solid_is, Seam}

-- the text is not empty, and does not end with a blank
abbrev pub Firm : List ℕ → Type 0
Firm [] = ⊥
Firm (b ∷ text) = EndsSolid (b ∷ text)

-- where b and z do not end with a blank, no text that ends with b and z does
pub ends-onto : (u : List ℕ) (b : ℕ) (z : List ℕ) → EndsSolid (b ∷ z) → EndsSolid (u ++ b ∷ z)
-- the text before b is empty; or has one byte, or more, which are passed over
ends-onto [] b z ends = ends
ends-onto (a ∷ []) b z ends = ends
ends-onto (a ∷ c ∷ u) b z ends = ends-onto (c ∷ u) b z ends

-- a text whose end is firm is firm
pub firm-right : (p q : List ℕ) → Firm q → Firm (p ++ q)
-- an empty end is not firm
firm-right p [] firm = absurd firm
-- the text is its end
firm-right [] (b ∷ z) firm = firm
-- the end stands after at least one byte, a
firm-right (a ∷ p) (b ∷ z) firm = ends-onto (a ∷ p) b z firm

-- a text whose front is firm, and whose end is empty or does not end with a blank, is firm
pub firm-left : (p q : List ℕ) → Firm p → EndsSolid q → Firm (p ++ q)
-- nothing stands after the front; or b and z do, which do not end with a blank
firm-left p [] firm ends = subst Firm (sym (append-nil p)) firm
firm-left p (b ∷ z) firm ends = firm-right p (b ∷ z) ends

-- a firm text does not end with a blank
pub ends-firm : (u : List ℕ) → Firm u → EndsSolid u
-- an empty text is not firm
ends-firm [] firm = absurd firm
ends-firm (b ∷ u) firm = firm

-- where p and q do not end with a blank, p and then q do not
pub ends-both : (p q : List ℕ) → EndsSolid p → EndsSolid q → EndsSolid (p ++ q)
-- the second text is empty; or ends the whole
ends-both p [] left right = subst EndsSolid (sym (append-nil p)) left
ends-both p (b ∷ z) left right = ends-onto p b z right

-- a text without blanks does not end with a blank
pub ends-solid : (u : List ℕ) → All is_solid u → EndsSolid u
-- of an empty text nothing is asked; of one byte, that it is no blank; of more, that the last is none
ends-solid [] all = tt
ends-solid (b ∷ []) all = solid_is b all.0
ends-solid (b ∷ c ∷ u) all = ends-solid (c ∷ u) all.1

-- a text without blanks does not begin with a blank
pub opens-solid : (u : List ℕ) → All is_solid u → OpensSolid u
-- an empty text begins with nothing; another one with b
opens-solid [] all = tt
opens-solid (b ∷ u) all = solid_is b all.0

-- no text of the set is empty or ends with a blank
abbrev pub AllFirm : (List ℕ → Type 0) → Type 0
AllFirm P = (u : List ℕ) → P u → Firm u

-- no text of P ends with a blank
abbrev pub AllEnd : (List ℕ → Type 0) → Type 0
AllEnd P = (u : List ℕ) → P u → EndsSolid u

-- no text of the set is empty or begins with a blank
abbrev pub AllOpen : (List ℕ → Type 0) → Type 0
AllOpen P = (u v : List ℕ) → P u → OpensSolid (u ++ v)

-- P Q is firm where Q is
pub firm-then_right : (P Q : List ℕ → Type 0) → AllFirm Q → AllFirm (P then Q)
-- the text ends with one of Q
firm-then_right P Q firm u both = subst Firm (sym both.4) (firm-right both.0 both.1 (firm both.1 both.3))

-- P Q is firm where P is, and no text of Q ends with a blank
pub firm-then_left : (P Q : List ℕ → Type 0) → AllFirm P → AllEnd Q → AllFirm (P then Q)
-- the text begins with one of P, and one of Q follows it
firm-then_left P Q firm ends u both = subst Firm (sym both.4) (firm-left both.0 both.1 (firm both.0 both.2) (ends both.1 both.3))

-- no text of P Q ends with a blank where none of P and none of Q does
pub end-then : (P Q : List ℕ → Type 0) → AllEnd P → AllEnd Q → AllEnd (P then Q)
-- the text of P and that of Q stand in a row
end-then P Q left right u both = subst EndsSolid (sym both.4) (ends-both both.0 both.1 (left both.0 both.2) (right both.1 both.3))

-- no text of a firm set ends with a blank
pub end-firm : (P : List ℕ → Type 0) → AllFirm P → AllEnd P
end-firm P firm u is = ends-firm u (firm u is)

-- no text of a set whose texts have no blanks ends with a blank
pub end-each : (P : List ℕ → Type 0) → Each is_solid P → AllEnd P
end-each P each u is = ends-solid u (each u is)

-- no text of *P ends with a blank where none of P does
pub end-many : (P : List ℕ → Type 0) → AllEnd P → AllEnd (Many P)
end-many P ends u many = subst EndsSolid (sym many.2) (go many.0 many.1)
  where
    -- no text made of texts of P ends with a blank
    go : (us : List (List ℕ)) → AllByRecursion P us → EndsSolid (concat us)
    -- without texts the whole is empty
    go [] all = tt
    -- the first text, and the others joined, do not end with a blank
    go (p ∷ us) all = ends-both p (concat us) (ends p all.0) (go us all.1)

-- no run of blanks crosses the seam between P and Q where no text of P ends with a blank
pub seam-left : (P Q : List ℕ → Type 0) → AllEnd P → Seam P Q
seam-left P Q ends p q is_p is_q = inl (ends p is_p)

-- no run of blanks crosses the seam between P and Q where no text of Q begins with a blank
pub seam-right : (P Q : List ℕ → Type 0) → ((u : List ℕ) → Q u → OpensSolid u) → Seam P Q
seam-right P Q opens p q is_p is_q = inr (opens q is_q)

-- no text of P Q begins with a blank where no text of P is empty or begins with one
pub opens-then : (P Q : List ℕ → Type 0) → AllOpen P → (u : List ℕ) → (P then Q) u → OpensSolid u
-- the text of P stands first, and whatever follows it, it begins with no blank
opens-then P Q opens u both = subst OpensSolid (sym both.4) (opens both.0 both.1 both.2)
