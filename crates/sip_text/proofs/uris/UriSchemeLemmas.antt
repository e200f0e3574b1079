-- The scheme of a URI.
use Rattle.std.proofs.Common.{◌≡◌, ℕ, Bool, true, IsTrue, List, [], ◌∷◌, ◌++◌, refl, sym, ap, ◌∙◌, subst}
use Rattle.std.specs.Bool.{Decides}
use Rattle.std.specs.Char.{is_ascii_alphabetic}
use Rattle.std.specs.List.{list_all}
use Rattle.sip_standard.specs.Profile.{Scheme}
use Rattle.sip_text.specs.inner.Class.{is_scheme_byte}
use Rattle.sip_text.proofs.texts.RunLemmas.{run-list_all, list_all-run}

-- a scheme begins with a letter, and bytes of a scheme follow
scheme-bytes : (first : ℕ) (rest : List ℕ) → Scheme (first ∷ rest) → IsTrue (is_ascii_alphabetic first) × (list_all is_scheme_byte rest ≡ true)
-- u is the letter b, and v the bytes after it
scheme-bytes first rest (u, v, (b, letter, is), many, whole) =
    let same : first ∷ rest ≡ b ∷ v = whole ∙ ap (λ t. t ++ v) is in
    let head : b ≡ first = cc in
    let tail : v ≡ rest = cc in (
      subst (λ x. IsTrue (is_ascii_alphabetic x)) head letter,
      subst (λ t. list_all is_scheme_byte t ≡ true) tail (run-list_all is_scheme_byte v many),
    )

-- where a letter is first, what decides the bytes after it decides a scheme
pub decides-scheme : (text rest : List ℕ) (first : ℕ) (r : Bool) → text ≡ first ∷ rest → IsTrue (is_ascii_alphabetic first) → r ≡ list_all is_scheme_byte rest → Decides r (Scheme text)
decides-scheme text rest first r whole letter is = (
  λ all.
      (first ∷ [], rest, (first, letter, refl), list_all-run is_scheme_byte rest (sym is ∙ all), whole),
  λ scheme. is ∙ (scheme-bytes first rest (subst Scheme whole scheme)).1,
)
