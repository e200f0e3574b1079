-- A text is compared with the names of its own length alone.
use Rattle.std.proofs.Common.{◌≡◌, ℕ, Bool, true, false, nat_eq, cond, List, [], ◌∷◌, length, refl, sym, ap, ◌∙◌}
use Rattle.std.specs.Prelude.{bytes_eq}
use Rattle.std.specs.List.{AllByRecursion}
use Rattle.std.proofs.lemmas.Slice.Eq.{bytes_eq-Decides}
use Rattle.std.proofs.lemmas.Bool.{both_ways, eq-eqb}
use Rattle.sip_standard.specs.Case.{folded}
use Rattle.sip_message.specs.declared.name.Known.{Known}
use Rattle.sip_message.specs.Name.{known, other, name_of}
use Rattle.sip_message.proofs.lemmas.field.Spelled.{spellings, name_by, named-by}
use Rattle.sip_message.proofs.lemmas.start_line.OneWay.{length-folded}

-- the spellings of a list that have n bytes
abbrev pub of_length : ℕ → List (List ℕ × Known) → List (List ℕ × Known)
of_length n [] = []
of_length n (s ∷ more) = cond (nat_eq (length (s.0)) n) (s ∷ of_length n more) (of_length n more)

-- a text of n bytes whose lower case is no spelling of n bytes in a list has no known name by the list
other-by : (list : List (List ℕ × Known)) (text : List ℕ) (n : ℕ) → length text ≡ n → AllByRecursion (λ s. folded text ≡ s.0 → ⊥) (of_length n list) → name_by list text ≡ other text
other-by [] text n len none = refl
other-by ((s, k) ∷ more) text n len none = at (nat_eq (length s) n) (bytes_eq (folded text) s) refl refl none (other-by more text n len)
  where
    -- the claim holds whether or not the spelling has n bytes, and whether or not the text has this spelling
    at : (same equal : Bool) → nat_eq (length s) n ≡ same → bytes_eq (folded text) s ≡ equal → AllByRecursion (λ x. folded text ≡ x.0 → ⊥) (cond same ((s, k) ∷ of_length n more) (of_length n more))
        → (AllByRecursion (λ x. folded text ≡ x.0 → ⊥) (of_length n more) → name_by more text ≡ other text) → cond equal (known k) (name_by more text) ≡ other text
    -- the spelling has n bytes, and the text is it, which was excluded
    at true true long is none later = absurd (none.0 ((bytes_eq-Decides (folded text) s).0 is))
    -- the spelling has n bytes, but is another text
    at true false long is none later = later none.1
    -- the spelling has another length, and is another text
    at false false long is none later = later none
    -- equal texts have one length
    at false true long is none later =
        let same : length s ≡ n = sym (ap length ((bytes_eq-Decides (folded text) s).0 is)) ∙ length-folded text ∙ len in
        absurd (both_ways (nat_eq (length s) n) long (eq-eqb (length s) n same))

-- a text of n bytes whose lower case is no spelling of n bytes has no known name
pub unknown : (text : List ℕ) (n : ℕ) → length text ≡ n → AllByRecursion (λ s. folded text ≡ s.0 → ⊥) (of_length n spellings) → other text ≡ name_of text
unknown text n len none = sym (other-by spellings text n len none) ∙ named-by text
