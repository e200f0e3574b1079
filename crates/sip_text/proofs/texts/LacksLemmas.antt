-- Texts and sets of texts that lack a byte, so that a text can be cut there. A set that is made of
-- sets lacks the mark if they do.
use Rattle.std.proofs.Common.{◌≡◌, ℕ, Bool, true, false, nat_eq, List, [], ◌∷◌, ◌++◌, refl, sym, ap, ◌∙◌, subst, inl, inr}
use Rattle.std.specs.List.{AllByRecursion, concat}
use Rattle.std.proofs.lemmas.Bool.{both_ways, eqb-true}
use Rattle.sip_standard.specs.Text.{One, Exactly, ◌then◌, ◌or◌, Optional, Many, OneOrMore, Between}
use Rattle.sip_text.specs.Bytes.{Byte}
use Rattle.sip_text.specs.inner.Pieces.{Joined}
use Rattle.sip_text.proofs.texts.ManyLemmas.{AllByRecursion-append}

-- no byte of the text is the mark
abbrev pub Lacks : ℕ → List ℕ → Type 0
Lacks mark text = AllByRecursion (λ b. nat_eq b mark ≡ false) text

-- no text of the set has the mark
abbrev pub AllLack : ℕ → (List ℕ → Type 0) → Type 0
AllLack mark P = (u : List ℕ) → P u → Lacks mark u

-- where two texts lack the mark, the one after the other lacks it
pub lacks-append : (mark : ℕ) (u v : List ℕ) → Lacks mark u → Lacks mark v → Lacks mark (u ++ v)
lacks-append mark u v left right = AllByRecursion-append (λ b. nat_eq b mark ≡ false) u v left right

-- texts of a set that lacks the mark, one after the other, lack it
pub lacks-concat : (mark : ℕ) (P : List ℕ → Type 0) (us : List (List ℕ)) → AllLack mark P → AllByRecursion P us → Lacks mark (concat us)
lacks-concat mark P [] lack all = tt
lacks-concat mark P (u ∷ us) lack all =
    lacks-append mark u (concat us) (lack u all.0) (lacks-concat mark P us lack all.1)

-- a byte of a class without the mark lacks it
pub lack-one : (mark : ℕ) (test : ℕ → Bool) → test mark ≡ false → AllLack mark (One test)
lack-one mark test fails u one =
    subst (Lacks mark) (sym one.2) (at (nat_eq one.0 mark) refl, tt)
  where
    -- the byte is not the mark, whatever the test of it says, since it passes and the mark does not
    at : (same : Bool) → nat_eq one.0 mark ≡ same → nat_eq one.0 mark ≡ false
    at true is = absurd (both_ways (test mark) fails (ap test (sym (eqb-true one.0 mark is)) ∙ one.1))
    at false is = is

-- a byte that is not the mark lacks it
pub lack-byte : (mark b : ℕ) → nat_eq b mark ≡ false → AllLack mark (Byte b)
lack-byte mark b other u is = subst (Lacks mark) (sym is) (other, tt)

-- where bytes lack the mark, the set of these bytes alone lacks it
pub lack-exactly : (mark : ℕ) (bytes : List ℕ) → Lacks mark bytes → AllLack mark (Exactly bytes)
lack-exactly mark bytes lack u is = subst (Lacks mark) (sym is) lack

-- P Q lacks the mark where P and Q do
pub lack-then : (mark : ℕ) (P Q : List ℕ → Type 0) → AllLack mark P → AllLack mark Q → AllLack mark (P then Q)
lack-then mark P Q left right u both =
    subst (Lacks mark) (sym both.4) (lacks-append mark both.0 both.1 (left both.0 both.2) (right both.1 both.3))

-- P / Q lacks the mark where P and Q do
pub lack-or : (mark : ℕ) (P Q : List ℕ → Type 0) → AllLack mark P → AllLack mark Q → AllLack mark (P or Q)
lack-or mark P Q left right u (inl one) = left u one
lack-or mark P Q left right u (inr one) = right u one

-- [ P ] lacks the mark where P does
pub lack-optional : (mark : ℕ) (P : List ℕ → Type 0) → AllLack mark P → AllLack mark (Optional P)
lack-optional mark P lack u (inl none) = subst (Lacks mark) (sym none) tt
lack-optional mark P lack u (inr one) = lack u one

-- *P lacks the mark where P does
pub lack-many : (mark : ℕ) (P : List ℕ → Type 0) → AllLack mark P → AllLack mark (Many P)
lack-many mark P lack u many = subst (Lacks mark) (sym many.2) (lacks-concat mark P many.0 lack many.1)

-- 1*P lacks the mark where P does
pub lack-some : (mark : ℕ) (P : List ℕ → Type 0) → AllLack mark P → AllLack mark (OneOrMore P)
lack-some mark P lack = lack-then mark P (Many P) lack (lack-many mark P lack)

-- <low>*<high>P lacks the mark where P does
pub lack-between : (mark low high : ℕ) (P : List ℕ → Type 0) → AllLack mark P → AllLack mark (Between low high P)
lack-between mark low high P lack u many = subst (Lacks mark) (sym many.2) (lacks-concat mark P many.0 lack many.1)

-- P *( "sep" P ) lacks the mark where P does and sep is another byte
pub lack-joined : (mark sep : ℕ) (P : List ℕ → Type 0) → nat_eq sep mark ≡ false → AllLack mark P → AllLack mark (Joined sep P)
lack-joined mark sep P other lack =
    lack-then mark P (Many (Byte sep then P)) lack
    (lack-many mark (Byte sep then P) (lack-then mark (Byte sep) P (lack-byte mark sep other) lack))
