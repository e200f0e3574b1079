-- The elements of Via fields, one after another.
-- Of further elements u is the text of the first one, f, and x that of the others.
-- `AreLeft` is the elements that are left: those in the rest of a value, each after a comma, and those of the values after it. `NextText` says that the next
-- of them begins a text. `ExactlyOne R` is a value (`the`) with a hidden proof (`∥ .. ∥₁`) that R holds of it alone.
use Rattle.std.proofs.Common.{◌≡◌, ℕ, zero, suc, ◌+◌, ◌<◌, List, [], ◌∷◌, ◌++◌, length, drop, map, cond, slice_index_or, add-one, true, false, Option, None, Some, inl, inr, refl, sym, ap, ◌∙◌, subst, arith}
use Rattle.std.proofs.Math.Logic.{∥∥₁_elim}
use Rattle.std.specs.Coded.{Coded, Coded-set}
use Rattle.std.proofs.lemmas.List.{append_assoc, length-append}
use Rattle.sip_message.specs.inner.Marks.{comma}
use Rattle.sip_message.specs.inner.Fronts.{StopsBlank, MarkFront}
use Rattle.sip_message.proofs.lemmas.via.Protocol.{token-stops}
use Rattle.sip_message.proofs.lemmas.front.Cuts.{ReadAs, NotRead}
use Rattle.sip_message.specs.declared.name.Known.{Known}
use Rattle.sip_message.specs.declared.field.Field.{Field as Code}
use Rattle.sip_message.specs.Name.{is_name_of}
use Rattle.sip_message.specs.inner.Only.{ExactlyOne, the, IsOnly}
use Rattle.sip_text.proofs.texts.OneLaws.{One-prop}
use Rattle.std.specs.Prelude.{MatchOption, ⊤}
use Rattle.std.specs.Borrow.{Bor}
use Rattle.std.specs.Iterator.{YieldsFirstBy, MakesProgress, item_count}
use Rattle.std.proofs.lemmas.Bool.{cond-true, cond-false}
use Rattle.sip_standard.specs.Via.{SaidVia, ViaSays, ViasSay}
use Rattle.sip_standard.specs.Says.{ViasTell}
use Rattle.sip_message.specs.inner.ElementFronts.{MoreSay, AreLeft, NextText, EndsElement, ViaFront}
use Rattle.sip_message.specs.inner.Codes.{elements_code}
use Rattle.sip_message.specs.Field.{values}
use Rattle.sip_message.specs.inner.Views.{name_parts, field_parts}

-- the values of a name from place i on are the value of the field at i, if it has the name, and those after it
values-suc : (known : Known) (xs : List Code) (i : ℕ) (d : Code) → i < length xs → values known (drop i (map field_parts xs)) ≡ cond (is_name_of known (name_parts (slice_index_or xs i d).name)) ((slice_index_or xs i d).value.now ∷ values known (drop (suc i) (map field_parts xs))) (values known (drop (suc i) (map field_parts xs)))
-- the place is in the list: at its front, or in the rest
values-suc known [] i d below = absurd (omega (arith, below))
values-suc known (x ∷ xs) zero d below = refl
values-suc known (x ∷ xs) (suc i) d below = values-suc known xs i d (omega (arith, below))

-- the values from index i on are that of the field there, if it has the name, and those after it
values-at : (known : Known) (xs : List Code) (i : ℕ) (d : Code) → i < length xs → values known (drop i (map field_parts xs)) ≡ cond (is_name_of known (name_parts (slice_index_or xs i d).name)) ((slice_index_or xs i d).value.now ∷ values known (drop (i + 1) (map field_parts xs))) (values known (drop (i + 1) (map field_parts xs)))
-- the next place, `suc i`, is `i + 1`
values-at known xs i d below = rw add-one (values-suc known xs i d below)

-- where the field at place i has the name, the values of the name from there on are its value and those after it
pub values-found : (known : Known) (xs : List Code) (i : ℕ) (d : Code) → i < length xs → is_name_of known (name_parts (slice_index_or xs i d).name) ≡ true → values known (drop i (map field_parts xs)) ≡ (slice_index_or xs i d).value.now ∷ values known (drop (i + 1) (map field_parts xs))
values-found known xs i d below is = values-at known xs i d below ∙ cond-true _ _ _ is

-- where the field at place i has another name, the values of the name from there on are those after it
pub values-passed : (known : Known) (xs : List Code) (i : ℕ) (d : Code) → i < length xs → is_name_of known (name_parts (slice_index_or xs i d).name) ≡ false → values known (drop i (map field_parts xs)) ≡ values known (drop (i + 1) (map field_parts xs))
values-passed known xs i d below is = values-at known xs i d below ∙ cond-false _ _ _ is

-- a value of which R holds is the one value of which it holds
-- the hidden proof that the value is the only one may be used, since what is shown is an equation of coded values
pub One-is : {X : Type 0} → Coded X → (R : X → Type 0) (o : ExactlyOne R) (x : X) → R x → the o ≡ x
unfolding the
One-is c R o x is = ∥∥₁_elim o.1 (Coded-set c o.0 x) (λ p. sym (p.only x is))

-- an element begins with no blank
pub element-stops : (text rest : List ℕ) (v : SaidVia) → ViaSays v text → StopsBlank (text ++ rest)
element-stops text rest v (os, branch_is, own, says) =
    subst StopsBlank (sym (ap (λ t. t ++ rest) says.4 ∙ append_assoc says.0 says.1 rest)) (token-stops says.0 (says.1 ++ rest) says.2)

-- further elements, at least one, begin with a comma, and a value of them stands after it
pub more-mark : (e : SaidVia) (es : List SaidVia) (rest : List ℕ) → MoreSay (e ∷ es) rest → (next : List ℕ) × MarkFront comma rest next × ViasSay (e ∷ es) next
-- u is the comma with its blanks, x the text of the element and y that of the others
more-mark e es rest (v, y, (u, x, mark, via, v_is), more, whole) =
    (x ++ y, (element-stops x y e via, (u, x ++ y, mark, refl, whole ∙ ap (λ t. t ++ y) v_is ∙ append_assoc u x y)), (x, y, via, more, refl))

-- a comma and a value of elements after it are further elements
pub mark-more : (e : SaidVia) (es : List SaidVia) (rest next : List ℕ) → MarkFront comma rest next → ViasSay (e ∷ es) next → MoreSay (e ∷ es) rest
mark-more e es rest next (stops, (u, v, mark, v_is, whole)) (x, y, via, more, next_is) =
    (u ++ x, y, (u, x, mark, via, refl), more, whole ∙ ap (λ t. u ++ t) (v_is ∙ next_is) ∙ sym (append_assoc u x y))

-- no mark stands at the front of the empty text
pub no_mark-nil : (mark : ℕ) (next : List ℕ) → MarkFront mark [] next → ⊥
-- the byte b would have to stand in the empty text
no_mark-nil mark next (stops, (u, v, (s, t, sws, (b, w, b_is, w_is, t_is), u_is), v_is, whole)) =
    absurd (omega (arith, ap length whole, length-append u v, ap length u_is, length-append s t, ap length t_is, length-append b w, ap length b_is))

-- where no comma stands at the front of what is left of a value, it is empty, and the elements that are left are those of the other values
left-nothing : (rest : List ℕ) (values : List (List ℕ)) (es : List SaidVia) → NotRead (MarkFront comma rest) → AreLeft rest values es → (rest ≡ []) × ViasTell values es
left-nothing rest values es none left = at left.now left.are_now left.whole
  where
    -- nothing is left of the value, since a comma would follow if an element were left
    at : (now : List SaidVia) → MoreSay now rest → es ≡ now ++ left.more → (rest ≡ []) × ViasTell values es
    -- no element is left; or one is left, before which a comma stands
    at [] is whole = (is, subst (ViasTell values) (sym whole) left.are_more)
    at (e ∷ now) is whole = let mark = more-mark e now rest is in absurd (none mark.0 mark.1)

-- where what is left of a value is empty, the elements of the other values are those that are left
pub nothing-left : (rest : List ℕ) (values : List (List ℕ)) (es : List SaidVia) → rest ≡ [] → ViasTell values es → AreLeft rest values es
nothing-left rest values es none are = record { now = []; more = es; are_now = none; are_more = are; whole = refl }

-- where nothing is left of a value, the elements are those of the others
pub left-of_nothing : (values : List (List ℕ)) (es : List SaidVia) → AreLeft [] values es → ViasTell values es
-- of the empty text no comma is read, so nothing is left of the value
left-of_nothing values es left = (left-nothing [] values es (no_mark-nil comma) left).1

-- where a comma stands at the front of what is left of a value, the elements that are left are those of what follows it and of the other values
left-behind : (rest text : List ℕ) (values : List (List ℕ)) (es : List SaidVia) → ReadAs (MarkFront comma rest) text → AreLeft rest values es → ViasTell (text ∷ values) es
left-behind rest text values es mark left = at left.now left.are_now left.whole
  where
    -- the elements of what follows the comma are the first of those that are left, since an element follows a comma
    at : (now : List SaidVia) → MoreSay now rest → es ≡ now ++ left.more → ViasTell (text ∷ values) es
    -- without an element nothing is left, and no comma stands at the front of nothing
    at [] is whole = absurd (no_mark-nil comma text (subst (λ t. MarkFront comma t text) is mark.0))
    at (e ∷ now) is whole =
        let next = more-mark e now rest is in
        (e ∷ now, left.more, subst (ViasSay (e ∷ now)) (mark.1 next.0 next.1) next.2, left.are_more, whole)

-- where a comma stands at the front of what is left of a value, the elements of what follows it and of the other values are those that are left
behind-left : (rest text : List ℕ) (values : List (List ℕ)) (es : List SaidVia) → MarkFront comma rest text → ViasTell (text ∷ values) es → AreLeft rest values es
-- a text after a comma has one element at least
behind-left rest text values es mark ([], more, now_text, are, es_is) = absurd now_text
behind-left rest text values es mark (e ∷ now, more, via, are, es_is) =
    record { now = e ∷ now; more = more; are_now = mark-more e now rest text mark via; are_more = are; whole = es_is }

-- where a comma stands at the front of what is left of a value, the next element begins what follows it
pub next-behind : (rest text : List ℕ) (vals : List (List ℕ)) → ReadAs (MarkFront comma rest) text → NextText rest vals text vals
next-behind rest text vals mark =
    record { to = (λ es left. left-behind rest text vals es mark left); from = (λ es are. behind-left rest text vals es mark.0 are) }

-- where no comma stands at the front of what is left of a value, the next element begins the next value, and there is none if there is no value
pub next-cut : (rest : List ℕ) (vals : List (List ℕ)) (behind : ℕ → List (List ℕ)) → NotRead (MarkFront comma rest) → (r : Option (Bor (List ℕ) × ℕ)) → MatchOption r (vals ≡ []) (λ cut. vals ≡ cut.0.now ∷ behind cut.1)
    → MatchOption r ((es : List SaidVia) → AreLeft rest vals es → es ≡ []) (λ next. (es : List SaidVia) → AreLeft rest vals es → NextText rest vals next.0.now (behind next.1))
-- no value follows, so no element is left
next-cut rest vals behind none None is = λ es left. subst (λ v. ViasTell v es) is (left-nothing rest vals es none left).1
-- the elements that are left are those of the next value and of the values after it
next-cut rest vals behind none (Some cut) is = λ es left. record {
  to = (λ fs l. subst (λ v. ViasTell v fs) is (left-nothing rest vals fs none l).1);
  from = (λ fs are. nothing-left rest vals fs (left-nothing rest vals es none left).0 (subst (λ v. ViasTell v fs) (sym is) are));
}

-- where further elements follow an element, it ends before a comma, or with the text
pub ends-more : (es : List SaidVia) (rest : List ℕ) → MoreSay es rest → EndsElement rest
-- without further elements nothing follows; else a comma does
ends-more [] rest is = inl is
ends-more (e ∷ es) rest is = let mark = more-mark e es rest is in inr (mark.0, mark.1)

-- where a text is an element and further ones, the element stands at its front
-- u is the text of the element, and x that of the further ones
pub says-front : (f : SaidVia) (now : List SaidVia) (text u x : List ℕ) → ViaSays f u → MoreSay now x → text ≡ u ++ x → ViaFront text (f, x)
says-front f now text u x via more text_is =
    -- an element says its own text
    let own = via.2 in (subst (ViaSays f) (sym own) via, text_is ∙ ap (λ t. t ++ x) (sym own), ends-more now x more)

-- the first of the elements is the one that was read, and the others are those that are left after it
record FirstRead (e : SaidVia) (rest : List ℕ) (more : List (List ℕ)) (es : List SaidVia) : Type 0 where
  others : List SaidVia
  first : es ≡ e ∷ others
  are_left : AreLeft rest more others

-- where an element is read at the front of a value, it is the first of the elements of this value and the others
first-read : (text : List ℕ) (e : SaidVia) (rest : List ℕ) (more : List (List ℕ)) (es : List SaidVia) → ReadAs (ViaFront text) (e, rest) → ViasTell (text ∷ more) es → FirstRead e rest more es
-- a value has one element at least
first-read text e rest more es read ([], later, now_text, are, es_is) = absurd now_text
first-read text e rest more es read (f ∷ now, later, (u, x, via, more_now, text_is), are, es_is) =
    -- the first element that the value has is the one that is read at its front
    let same : ◌≡◌ {A = SaidVia × List ℕ} (f, x) (e, rest) = read.1 (f, x) (says-front f now text u x via more_now text_is) in
    let one : f ≡ e = ap (λ p. p.0) same in
    let behind : x ≡ rest = ap (λ p. p.1) same in
    record { others = now ++ later; first = es_is ∙ ap (λ g. g ∷ (now ++ later)) one; are_left = record { now = now; more = later; are_now = subst (MoreSay now) behind more_now; are_more = are; whole = refl } }

-- the first element of a text, before what is left, is the first of all
read-first : (text : List ℕ) (e : SaidVia) (rest : List ℕ) (more : List (List ℕ)) (es : List SaidVia) → ViaFront text (e, rest) → AreLeft rest more es → ViasTell (text ∷ more) (e ∷ es)
read-first text e rest more es front left =
    (e ∷ left.now, left.more, (e.whole, rest, front.0, left.are_now, front.1), left.are_more, ap (λ t. e ∷ t) left.whole)

-- a value at whose front no element is read has no elements
pub no-first : (text : List ℕ) (more : List (List ℕ)) (es : List SaidVia) → NotRead (ViaFront text) → ViasTell (text ∷ more) es → ⊥
-- a value has one element at least
no-first text more es none ([], later, now_text, are, es_is) = now_text
no-first text more es none (f ∷ now, later, (u, x, via, more_now, text_is), are, es_is) = none (f, x) (says-front f now text u x via more_now text_is)

-- where an element is read at the front of the next text, the elements that are left begin with it, and the others are the only ones left after it
read-only : (rest text : List ℕ) (vals more : List (List ℕ)) (e : SaidVia) (behind : List ℕ) (es : List SaidVia) → NextText rest vals text more → ReadAs (ViaFront text) (e, behind) → IsOnly (AreLeft rest vals) es
    → (others : List SaidVia) × (es ≡ e ∷ others) × IsOnly (AreLeft behind more) others
read-only rest text vals more e behind es next read only = (first.others, first.first, record { is = first.are_left; only = same })
  where
    -- the first element that is left is the one that was read
    first : FirstRead e behind more es
    first = first-read text e behind more es read (next.to es only.is)

    -- any list of elements that are left after the first is the list of the other elements
    same : (ys : List SaidVia) → AreLeft behind more ys → ys ≡ first.others
    same ys left =
        -- with the first one before them they are elements that are left, and of these there is one list
        let eq : ◌≡◌ {A = List SaidVia} (e ∷ ys) (e ∷ first.others) = only.only (e ∷ ys) (next.from (e ∷ ys) (read-first text e behind more ys read.0 left)) ∙ first.first in
        cc

-- where an element is read at the front of the next text, there is one list of elements that are left after it
pub One-next : (rest text : List ℕ) (vals more : List (List ℕ)) (e : SaidVia) (behind : List ℕ) → ((es : List SaidVia) → AreLeft rest vals es → NextText rest vals text more) → ReadAs (ViaFront text) (e, behind) → ExactlyOne (AreLeft rest vals) → ExactlyOne (AreLeft behind more)
One-next rest text vals more e behind next read one =
    -- the proof that the list is the only one is hidden: it may be used here, since what is shown has one proof at most
    ∥∥₁_elim one.1 (One-prop elements_code (IsOnly (AreLeft behind more)) (λ x y p q. q.only x p.is)) (λ p. let read_it = read-only rest text vals more e behind one.0 (next one.0 p.is) read p in (read_it.0, ∣ read_it.2 ∣₁))

-- where an element is read at the front of the next text, the elements that are left are it and those that are left after it
pub One-first : (rest text : List ℕ) (vals more : List (List ℕ)) (e : SaidVia) (behind : List ℕ) → ((es : List SaidVia) → AreLeft rest vals es → NextText rest vals text more) → ReadAs (ViaFront text) (e, behind) → (one : ExactlyOne (AreLeft rest vals)) (then : ExactlyOne (AreLeft behind more)) → the one ≡ e ∷ the then
unfolding the
One-first rest text vals more e behind next read one then =
    -- the hidden proof may be used, since an equation of lists is shown: the first element is the one read, and the others are those left after it
    ∥∥₁_elim one.1 (Coded-set elements_code one.0 (e ∷ then.0))
    (λ p. let read_it = read-only rest text vals more e behind one.0 (next one.0 p.is) read p in read_it.1 ∙ ap (λ t. e ∷ t) (sym (One-is elements_code (AreLeft behind more) then read_it.0 read_it.2.is)))

-- where nothing can be left, the list of the elements that are left is empty
-- the one list can be left, and so is empty; the hidden proof of that may be used for an equation of lists
pub One-none : (rest : List ℕ) (vals : List (List ℕ)) (one : ExactlyOne (AreLeft rest vals)) → ((es : List SaidVia) → AreLeft rest vals es → es ≡ []) → the one ≡ []
unfolding the
One-none rest vals one none = ∥∥₁_elim one.1 (Coded-set elements_code one.0 []) (λ p. none one.0 p.is)

-- where there is one list of the elements that are left, it cannot be that no element is read at the front of the next text
pub One-read : (rest text : List ℕ) (vals more : List (List ℕ)) → ((es : List SaidVia) → AreLeft rest vals es → NextText rest vals text more) → NotRead (ViaFront text) → ExactlyOne (AreLeft rest vals) → ⊥
-- the list would have an element that is read at the front; the hidden proof of that may be used, since what is shown, ⊥, has no two proofs
One-read rest text vals more next none one = ∥∥₁_elim one.1 (λ a b. absurd a) (λ p. no-first text more one.0 none ((next one.0 p.is).to one.0 p.is))

-- an iterator whose list is empty yields nothing, and its list stays empty
pub yields-none : {A B : Type 0} (view : A → B) (r : Option A) (s : List B) → r ≡ None → s ≡ [] → YieldsFirstBy view (λ it. it) s r s
yields-none view r s none nil = subst (λ o. YieldsFirstBy view (λ it. it) s o s) (sym none) (nil, nil)

-- a value of which R holds, and which all others of which it holds are, is the one value of which R holds
pub One-of : {X : Type 0} (R : X → Type 0) (x : X) → R x → ((y : X) → R y → y ≡ x) → ExactlyOne R
One-of R x is only = (x, ∣ record { is = is; only = only } ∣₁)

-- an iterator that yielded the first element of its list has a shorter list left
-- s is the list, a the element and t what is left
pub yields-nearer : {A B : Type 0} (a : A) (s t : List B) (b : B) → s ≡ b ∷ t → MakesProgress (λ _. ⊤) (item_count (λ it. it)) s (Some a) t
yields-nearer a s t b is = record { on = (λ fin. (tt, fin, omega (arith, ap length is))); keeps = tt; rests = (λ fin. tt) }
