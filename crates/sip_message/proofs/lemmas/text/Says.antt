-- Texts one after another, each of which says something, as any number of texts of a set.
use Rattle.std.proofs.Common.{ℕ, List, [], ◌∷◌, refl, sym, subst}
use Rattle.std.specs.List.{AllByRecursion, concat}
use Rattle.sip_standard.specs.Text.{Many}
use Rattle.sip_standard.specs.Chars.{EachSays}
use Rattle.sip_text.proofs.texts.ManyLemmas.{many-nil, many-cons}

-- where each text that says something by R is of P, texts that each say something are any number of texts of P
pub says-many : {A : Type 0} (R : A → List ℕ → Type 0) (P : List ℕ → Type 0) → ((a : A) (u : List ℕ) → R a u → P u) → (xs : List A) (text : List ℕ) → EachSays R xs text → Many P text
says-many R P turn [] text none = subst (Many P) (sym none) (many-nil P)
says-many R P turn (a ∷ xs) text (u, v, one, more, whole) = subst (Many P) (sym whole) (many-cons P u v (turn a u one) (says-many R P turn xs v more))

-- where each text of P says something by R, any number of texts of P say something each
pub many-says : {A : Type 0} (R : A → List ℕ → Type 0) (P : List ℕ → Type 0) → ((u : List ℕ) → P u → (a : A) × R a u) → (text : List ℕ) → Many P text → (xs : List A) × EachSays R xs text
many-says {A = A} R P turn text (us, all, whole) = let found = go us all in (found.0, subst (EachSays R found.0) (sym whole) found.1)
  where
    -- what texts of P say, one after another
    go : (us : List (List ℕ)) → AllByRecursion P us → (xs : List A) × EachSays R xs (concat us)
    go [] all = ([], refl)
    go (u ∷ us) (one, all) = let a = turn u one in let more = go us all in (a.0 ∷ more.0, (u, concat us, a.1, more.1, refl))
