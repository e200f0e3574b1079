-- What is known of the bytes that are held and of those left in the source is known of the input.
use Rattle.std.proofs.Common.{◌≡◌, ℕ, Bool, List, ◌++◌, Option, Some, None, [], refl, subst, sym, ap, ◌∙◌, append_assoc}
use Rattle.std.specs.Option.{IfSome}
use Rattle.std.specs.Io.KnownBytes.{Consumes, IsAtEnd, prepend_known}
use Rattle.sip_log.specs.declared.window.Window.{Window}
use Rattle.sip_log.specs.inner.Reads.{Reads}
use Rattle.sip_log.specs.inner.Window.{items, unread}

-- a fact of the bytes that are held and those left is a fact of the input, once bytes came from the source
pub told : {held held2 : List ℕ} {left left2 : Option (List ℕ)} {failed failed2 : Bool} → Reads held held2 left left2 failed failed2
    → (P : List ℕ → Type 0) → ((ys : List ℕ) → left2 ≡ Some ys → P (held2 ++ ys)) → IfSome (prepend_known held left) P
-- where it is not known what the source had left, nothing is to be shown; where it is known, it stays known
told {left = None} reads P fact = tt
told {left = Some xs} {left2 = None} reads P fact = absurd reads.left_is
-- what is held and left now is, in a row, what was held and left before
told {held = held} {held2 = held2} {left = Some xs} {left2 = Some ys} reads P fact =
    let same : held2 ++ ys ≡ held ++ xs =
    ap (λ (t : List ℕ). t ++ ys) reads.held_is ∙ append_assoc held reads.came ys ∙ ap (λ (t : List ℕ). held ++ t) (sym reads.left_is) in
    subst P same (fact ys refl)

-- bytes that came from a source, and then more, are bytes that came from it one after the other
Consumes-then : (left left2 left3 : Option (List ℕ)) (came more : List ℕ) → Consumes left left2 came → Consumes left2 left3 more → Consumes left left3 (came ++ more)
Consumes-then None left2 left3 came more first second = tt
-- a source whose bytes are known does not come to have unknown ones
Consumes-then (Some xs) None left3 came more first second = absurd first
Consumes-then (Some xs) (Some ys) None came more first second = absurd second
Consumes-then (Some xs) (Some ys) (Some zs) came more first second =
    first ∙ ap (λ (t : List ℕ). came ++ t) second ∙ sym (append_assoc came more zs)

-- where bytes came from a source and then more came, both came, and no read failed
pub Reads-then : {held held2 held3 : List ℕ} {left left2 left3 : Option (List ℕ)} {failed failed2 failed3 : Bool} → Reads held held2 left left2 failed failed2
    → Reads held2 held3 left2 left3 failed2 failed3 → Reads held held3 left left3 failed failed3
Reads-then {held = held} {left = left} {left2 = left2} {left3 = left3} first second = record {
  came = first.came ++ second.came;
  held_is = second.held_is ∙ ap (λ (t : List ℕ). t ++ second.came) first.held_is ∙ append_assoc held first.came second.came;
  left_is = Consumes-then left left2 left3 first.came second.came first.left_is second.left_is;
  fine = second.fine ∙ first.fine;
}

-- a fact of the input, where the bytes left are known, is a fact of the bytes that are held and those left
pub known : (held : List ℕ) (left : Option (List ℕ)) (ys : List ℕ) (P : List ℕ → Type 0) → left ≡ Some ys → IfSome (prepend_known held left) P → P (held ++ ys)
known held left ys P is fact = subst (λ l. IfSome (prepend_known held l) P) is fact

-- where the source is at its end, no bytes are left
pub none_left : (left : Option (List ℕ)) (ys : List ℕ) → left ≡ Some ys → IsAtEnd left → ys ≡ []
none_left left ys is end = subst IsAtEnd is end

-- no bytes before what is left leave it as it is
prepend_known-nil : (left : Option (List ℕ)) → prepend_known [] left ≡ left
prepend_known-nil None = refl
prepend_known-nil (Some xs) = refl

-- where a window holds nothing, what is not read yet is what the source has left
pub unread-fresh : (w : Window) (left : Option (List ℕ)) → items w ≡ [] → unread w left ≡ left
unread-fresh w left none = ap (λ (bs : List ℕ). prepend_known bs left) none ∙ prepend_known-nil left
