-- Sets all of whose bytes pass a test. A set that is made of sets is such a set if they are.
use Rattle.std.proofs.Common.{◌≡◌, ℕ, Bool, true, false, not, nat_eq, List, [], ◌∷◌, refl, sym, subst, inl, inr}
use Rattle.std.specs.List.{AllByRecursion, concat}
use Rattle.std.proofs.lemmas.Bool.{both_ways, eqb-true, or_left, or_cases}
use Rattle.sip_standard.specs.Text.{One, Exactly, ◌then◌, ◌or◌, Optional, Many, OneOrMore, Between}
use Rattle.sip_standard.specs.Profile.{Lws, Blanks, Sws}
use Rattle.sip_text.specs.Bytes.{space, tab, carriage_return, line_feed, crlf}
use Rattle.sip_text.specs.inner.Blanks.{is_wsp}
use Rattle.sip_standard.specs.Field.{is_lws_byte}
use Rattle.sip_message.proofs.lemmas.text.Cuts.{All, all_both}

-- all bytes of each text of the set pass the test
abbrev pub Each : (ℕ → Bool) → (List ℕ → Type 0) → Type 0
Each test P = (u : List ℕ) → P u → All test u

-- all bytes of a class pass the test where each byte of the class does
pub each-one : (test class : ℕ → Bool) → ((b : ℕ) → class b ≡ true → test b ≡ true) → Each test (One class)
-- the text is one byte, of the class
each-one test class pass u one = subst (All test) (sym one.2) (pass one.0 one.1, tt)

-- where bytes pass the test, the set of these bytes alone does
pub each-exactly : (test : ℕ → Bool) (bytes : List ℕ) → All test bytes → Each test (Exactly bytes)
each-exactly test bytes all u is = subst (All test) (sym is) all

-- all bytes of P Q pass the test where those of P and of Q do
pub each-then : (test : ℕ → Bool) (P Q : List ℕ → Type 0) → Each test P → Each test Q → Each test (P then Q)
each-then test P Q left right u both =
    -- the text is one of P, and then one of Q
    subst (All test) (sym both.4) (all_both test both.0 both.1 (left both.0 both.2) (right both.1 both.3))

-- all bytes of P / Q pass the test where those of P and of Q do
pub each-or : (test : ℕ → Bool) (P Q : List ℕ → Type 0) → Each test P → Each test Q → Each test (P or Q)
each-or test P Q left right u (inl one) = left u one
each-or test P Q left right u (inr one) = right u one

-- all bytes of [ P ] pass the test where those of P do
pub each-optional : (test : ℕ → Bool) (P : List ℕ → Type 0) → Each test P → Each test (Optional P)
-- nothing stands there; or a text of P
each-optional test P each u (inl none) = subst (All test) (sym none) tt
each-optional test P each u (inr one) = each u one

-- all bytes of texts of P, one after the other, pass the test where those of P do
each-concat : (test : ℕ → Bool) (P : List ℕ → Type 0) (us : List (List ℕ)) → Each test P → AllByRecursion P us → All test (concat us)
-- without texts there are no bytes; else the bytes of the first one and of the others pass
each-concat test P [] each all = tt
each-concat test P (u ∷ us) each all = all_both test u (concat us) (each u all.0) (each-concat test P us each all.1)

-- all bytes of *P pass the test where those of P do
pub each-many : (test : ℕ → Bool) (P : List ℕ → Type 0) → Each test P → Each test (Many P)
-- the text is texts of P in a row
each-many test P each u many = subst (All test) (sym many.2) (each-concat test P many.0 each many.1)

-- all bytes of 1*P pass the test where those of P do
pub each-some : (test : ℕ → Bool) (P : List ℕ → Type 0) → Each test P → Each test (OneOrMore P)
-- the text is one of P, and then any number
each-some test P each = each-then test P (Many P) each (each-many test P each)

-- all bytes of <low>*<high>P pass the test where those of P do
pub each-between : (test : ℕ → Bool) (low high : ℕ) (P : List ℕ → Type 0) → Each test P → Each test (Between low high P)
each-between test low high P each u many = subst (All test) (sym many.2) (each-concat test P many.0 each many.1)

-- a byte of a blank run is SP, HTAB, CR or LF
pub blank_is : (P : ℕ → Type 0) → P space → P tab → P carriage_return → P line_feed → (b : ℕ) → is_lws_byte b ≡ true → P b
blank_is P sp ht cr lf b is =
    elim (or_cases (is_wsp b) _ is) [
      -- it is SP or HTAB
      | inl wsp ↦ elim (or_cases (nat_eq b space) _ wsp) [
        | inl e ↦ subst P (sym (eqb-true b space e)) sp
        | inr e ↦ subst P (sym (eqb-true b tab e)) ht
      ]
      -- the byte is CR or LF
      | inr end ↦ elim (or_cases (nat_eq b carriage_return) _ end) [
        | inl e ↦ subst P (sym (eqb-true b carriage_return e)) cr
        | inr e ↦ subst P (sym (eqb-true b line_feed e)) lf
      ]
    ]

-- the byte is of no blank run
abbrev pub is_solid : ℕ → Bool
is_solid byte = not (is_lws_byte byte)

-- a class without SP, HTAB, CR and LF has only bytes of no blank run
pub solid_class : (class : ℕ → Bool) → class space ≡ false → class tab ≡ false → class carriage_return ≡ false → class line_feed ≡ false → (b : ℕ) → class b ≡ true → is_solid b ≡ true
solid_class class sp ht cr lf b is = at (is_lws_byte b) refl
  where
    -- a byte of the class is no blank
    at : (blank : Bool) → is_lws_byte b ≡ blank → not blank ≡ true
    -- it is none, as it should be
    at false blank = refl
    -- the class has none of the four
    at true blank = absurd (both_ways (class b) (blank_is (λ c. class c ≡ false) sp ht cr lf b blank) is)

-- a WSP is a byte of a blank run
pub wsp-blank : (b : ℕ) → is_wsp b ≡ true → is_lws_byte b ≡ true
-- a WSP passes the first of the tests
wsp-blank b is = or_left (is_wsp b) _ is

-- all bytes of an LWS are SP, HTAB, CR or LF
pub each-lws : Each is_lws_byte Lws
each-lws =
    -- SP and HTAB with a CRLF after them, or nothing; and then SP and HTAB
    each-then is_lws_byte _ _
    (each-optional is_lws_byte _ (each-then is_lws_byte _ _ (each-many is_lws_byte _ (each-one is_lws_byte is_wsp wsp-blank)) (each-exactly is_lws_byte crlf (refl, (refl, tt)))))
    (each-some is_lws_byte _ (each-one is_lws_byte is_wsp wsp-blank))

-- all bytes of a blank run are SP, HTAB, CR or LF
pub each-blanks : Each is_lws_byte Blanks
each-blanks = each-some is_lws_byte Lws each-lws

-- all bytes of an optional blank run are SP, HTAB, CR or LF
pub each-sws : Each is_lws_byte Sws
each-sws = each-optional is_lws_byte Blanks each-blanks
