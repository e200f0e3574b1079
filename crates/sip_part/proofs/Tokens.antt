-- Tokens at the front of a text.
use Rattle.std.proofs.Common.{◌≡◌, ◌≢◌, ◌∙◌, ◌+◌, ℕ, List, [], ◌∷◌, ◌++◌, Bool, Some, None, take, length, cond, nat_eq, true, false, refl, sym, ap, subst, arith}
use Rattle.std.specs.List.{prefix_len, list_all}
use Rattle.std.proofs.Math.Seq.{take-append_seam}
use Rattle.std.proofs.lemmas.Bool.{eqb-true, and_parts}
use Rattle.sip_standard.specs.Profile.{Token}
use Rattle.sip_text.specs.Bytes.{is_token_byte}
use Rattle.sip_text.proofs.texts.ManyLemmas.{many-some}
use Rattle.sip_text.proofs.texts.RunLemmas.{run-list_all}
use Rattle.sip_part.specs.Led.{token_at}

-- where a text begins with no byte of a token, no token stands at its front
pub token_none : (text : List ℕ) → prefix_len is_token_byte text ≡ 0 → token_at text ≡ None
token_none text none = rw none refl

-- where a text begins with n bytes of tokens, these are the token at its front
pub token_some : (text : List ℕ) (n : ℕ) → prefix_len is_token_byte text ≡ n → n ≢ 0 → token_at text ≡ Some (take n text)
token_some text n is some = by (nat_eq (prefix_len is_token_byte text) 0) refl
  where
    -- the token is the first n bytes, since n is not 0 and so the text begins with a byte of a token
    by : (b : Bool) → nat_eq (prefix_len is_token_byte text) 0 ≡ b → token_at text ≡ Some (take n text)
    -- n is the length of the front, which is 0 in this case and not 0 by what is given
    by true zero = absurd (some (sym is ∙ eqb-true (prefix_len is_token_byte text) 0 zero))
    by false more = rw more (ap (λ k. Some (take k text)) is)

-- a text at whose front no token stands does not begin with a byte of a token
pub no_front : (x : ℕ) (text : List ℕ) → is_token_byte x ≡ true → prefix_len is_token_byte (x ∷ text) ≡ 0 → ⊥
no_front x text is none = let some : cond true (1 + prefix_len is_token_byte text) 0 ≡ 0 = subst (λ b. cond b (1 + prefix_len is_token_byte text) 0 ≡ 0) is none in absurd (omega (arith, some))

-- two runs of bytes of tokens at the front of one text, after each of which no such byte comes, are the same run, and what comes after them is the same
pub same_run : (u v rest more : List ℕ) → list_all is_token_byte u ≡ true → list_all is_token_byte v ≡ true → prefix_len is_token_byte rest ≡ 0 → prefix_len is_token_byte more ≡ 0
    → u ++ rest ≡ v ++ more → (u ≡ v) × (rest ≡ more)
same_run [] [] rest more left right ends stops same = (refl, same)
-- the one run cannot end where the other goes on, since a byte of a token would come after it
same_run [] (y ∷ v) rest more left right ends stops same = absurd (no_front y (v ++ more) (and_parts (is_token_byte y) (list_all is_token_byte v) right).0 (ap (prefix_len is_token_byte) (sym same) ∙ ends))
same_run (x ∷ u) [] rest more left right ends stops same = absurd (no_front x (u ++ rest) (and_parts (is_token_byte x) (list_all is_token_byte u) left).0 (ap (prefix_len is_token_byte) same ∙ stops))
-- both begin with the same byte, and what follows it is the same
same_run (x ∷ u) (y ∷ v) rest more left right ends stops same =
    let heads : x ≡ y = cc in
    let tails : u ++ rest ≡ v ++ more = cc in
    let on = same_run u v rest more (and_parts (is_token_byte x) (list_all is_token_byte u) left).1 (and_parts (is_token_byte y) (list_all is_token_byte v) right).1 ends stops tails in
    let one : u ≡ v = on.0 in
    (cc, on.1)

-- all bytes of a token are bytes of tokens
pub token_run : (u : List ℕ) → Token u → list_all is_token_byte u ≡ true
token_run u token = run-list_all is_token_byte u (many-some _ u token)

-- a run of bytes of tokens after which none comes is as long as what is measured
run_len : (u rest : List ℕ) → list_all is_token_byte u ≡ true → prefix_len is_token_byte rest ≡ 0 → prefix_len is_token_byte (u ++ rest) ≡ length u
run_len [] rest all ends = ends
run_len (x ∷ u) rest all ends =
    let parts = and_parts (is_token_byte x) (list_all is_token_byte u) all in
    let on = run_len u rest parts.1 ends in
    ap (λ b. cond b (1 + prefix_len is_token_byte (u ++ rest)) 0) parts.0 ∙ omega (arith, on)

-- a token is not empty
token_long : (u : List ℕ) → Token u → length u ≢ 0
token_long u (first, more, (x, is, one), others, whole) none = let e = ap length (whole ∙ ap (λ t. t ++ more) one) in omega (arith, e, none)

-- a token after which no byte of a token comes is the token at the front of the text
pub token_whole : (u rest : List ℕ) → Token u → prefix_len is_token_byte rest ≡ 0 → token_at (u ++ rest) ≡ Some u
token_whole u rest token ends = token_some (u ++ rest) (length u) (run_len u rest (token_run u token) ends) (token_long u token) ∙ ap Some (take-append_seam u rest)
