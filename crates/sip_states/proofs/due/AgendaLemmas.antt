-- Lemmas of the agenda: the last moment of each index as records, and as lines in the order of the moments.
use Rattle.std.proofs.Common.{◌≡◌, ◌↔◌, ◌≤◌, ◌<◌, ℕ, Bool, true, false, cond, ◌==◌, ◌&&◌, List, [], ◌∷◌, length, Option, Some, None, IfSome, position, slice_get, get_or, refl, sym, ap, subst, ◌∙◌, true≢false, arith, ◌⊎◌, inl, inr}
use Rattle.std.proofs.lemmas.Grind.{common_steps}
use Rattle.std.proofs.lemmas.List.Quantifiers.{position-Some}
use Rattle.std.proofs.lemmas.List.Sums.{fails_before_first}
use Rattle.std.specs.List.{position_or_len, list_any}
use Rattle.std.proofs.lemmas.Option.{slice_get-get_or, slice_get_within, get_or_from_slice_get}
use Rattle.std.proofs.lemmas.Bool.Decides.{nat_tests}
use Rattle.std.specs.Bool.{Decides}
use Rattle.std.specs.Ordering.{nat_cmp, ordering_then, is_eq, is_gt, MatchOrdering}
use Rattle.std.specs.declared.cmp.Ordering.{Ordering}
use Rattle.std.specs.declared.cmp.Ordering.TheVariants.{Less, Equal, Greater}
use Rattle.std.specs.Cmp.{ranks, first_so, second_so, both_tied, unsigned_ties, unsigned_Decides}
use Rattle.std.specs.BTreeSet.{BTreeSet, contains}
use Rattle.sip_states.specs.Agenda.{Records, is_overdue}
use Rattle.sip_states.specs.inner.Lines.{line_cmp, HasLine, IsInOrder, IsLineOf, Enters, Leaves}

-- two lines compare as Equal exactly where both of their numbers are the same
line_tied : (a b : ℕ × ℕ) → is_eq (line_cmp a b) ≡ ((a.0 == b.0) && (a.1 == b.1))
line_tied a b = sym (both_tied (a.0 == b.0) (a.1 == b.1) (nat_cmp a.0 b.0) (nat_cmp a.1 b.1) (unsigned_ties a.0 b.0) (unsigned_ties a.1 b.1))

-- the line of an index compares as Equal with a line exactly where that one is the line of the index
own_line : (index last : ℕ) (limit : Option ℕ) → limit ≡ Some last → (line : ℕ × ℕ) → Decides (is_eq (line_cmp (last, index) line)) (IsLineOf index limit line)
own_line index last limit has line = (
  λ e. (let h = sym (line_tied (last, index) line) ∙ e in
      (sym ((unsigned_Decides index line.1).0 (second_so _ _ h)), has ∙ ap Some ((unsigned_Decides last line.0).0 (first_so _ _ h)))),
  λ h. (let same : last ≡ line.0 = cc in
      line_tied (last, index) line ∙ rw ((unsigned_Decides last line.0).1 same, (unsigned_Decides index line.1).1 (sym h.0)) refl),
)

-- where the first line does not compare as Greater, its last moment is at most that of the second
pub not_above : (a b : ℕ × ℕ) → is_gt (line_cmp a b) ≡ false → a.0 ≤ b.0
not_above a b = by (nat_cmp a.0 b.0) (ranks a.0 b.0)
  where
    -- a line that does not compare as greater has no later moment: a compares by its moment as less, equal or greater
    by : (r : Ordering) → MatchOrdering r (a.0 < b.0) (a.0 ≡ b.0) (b.0 < a.0) → is_gt (ordering_then r (nat_cmp a.1 b.1)) ≡ false → a.0 ≤ b.0
    by Less h e = omega arith
    by Equal h e = omega (arith, h)
    by Greater h e = absurd (true≢false e)

-- an order with one line more has a line exactly where it had the line, or the line is the new one; `own` says whether it is that one, `had` whether it was
-- there
with_line : (P : Type 0) (own had : Bool) → Decides own P → (cond own true had ≡ true → (had ≡ true) ⊎ P) × ((had ≡ true) ⊎ P → cond own true had ≡ true)
with_line P true had decides = (λ e. inr (decides.0 refl), λ e. refl)
with_line P false had decides = (λ e. inl e, λ h. elim h [ inl e ↦ e | inr p ↦ absurd (true≢false (sym (decides.1 p))) ])

-- an order from which a line was taken has a line exactly where it had the line, and the line is another one; `own` says whether it is the one that was taken
without_line : (P : Type 0) (own had : Bool) → Decides own P → (cond own false had ≡ true → (had ≡ true) × (P → ⊥)) × ((had ≡ true) × (P → ⊥) → cond own false had ≡ true)
without_line P true had decides = (λ e. absurd (true≢false (sym e)), λ h. absurd (h.1 (decides.0 refl)))
without_line P false had decides = (λ e. (e, λ p. true≢false (sym (decides.1 p))), λ h. h.0)

-- an order that took the line of an index has its old lines and that one
pub entered : (index last : ℕ) (limit : Option ℕ) (old new : BTreeSet (ℕ × ℕ)) → limit ≡ Some last
    → ((line : ℕ × ℕ) → contains line_cmp new line ≡ cond (is_eq (line_cmp (last, index) line)) true (contains line_cmp old line)) → Enters index limit old new
entered index last limit old new has updates line =
    subst (λ b. (b ≡ true → HasLine old line ⊎ IsLineOf index limit line) × (HasLine old line ⊎ IsLineOf index limit line → b ≡ true)) (sym (updates line))
    (with_line (IsLineOf index limit line) (is_eq (line_cmp (last, index) line)) (contains line_cmp old line) (own_line index last limit has line))

-- an order from which the line of an index was taken has its old lines without that one
pub left : (index last : ℕ) (limit : Option ℕ) (old new : BTreeSet (ℕ × ℕ)) → limit ≡ Some last
    → ((line : ℕ × ℕ) → contains line_cmp new line ≡ cond (is_eq (line_cmp (last, index) line)) false (contains line_cmp old line)) → Leaves index limit old new
left index last limit old new has updates line =
    subst (λ b. (b ≡ true → HasLine old line × (IsLineOf index limit line → ⊥)) × (HasLine old line × (IsLineOf index limit line → ⊥) → b ≡ true)) (sym (updates line))
    (without_line (IsLineOf index limit line) (is_eq (line_cmp (last, index) line)) (contains line_cmp old line) (own_line index last limit has line))

-- where no line of the order is below the moment, no record is overdue
pub nothing_due : (records : Records) (order : BTreeSet (ℕ × ℕ)) (moment : ℕ) → IsInOrder records order
    → ((line : ℕ × ℕ) → HasLine order line → moment ≤ line.0) → position (is_overdue moment) records ≡ None
nothing_due records order moment ordered late = by (position (is_overdue moment) records) refl
  where
    -- no record is overdue, whatever it is
    overdue : (i : ℕ) (r : Option (Option ℕ)) → slice_get records i ≡ Some r → is_overdue moment r ≡ true → ⊥
    overdue i None at e = true≢false (sym e)
    overdue i (Some None) at e = true≢false (sym e)
    overdue i (Some (Some last)) at e = let h = late (last, i) ((ordered (last, i)).1 at) in grind (arith, nat_tests)

    -- the search finds no record, since none is overdue
    by : (r : Option ℕ) → position (is_overdue moment) records ≡ r → r ≡ None
    by None at = refl
    by (Some i) at =
        let found = position-Some (is_overdue moment) records i None at in
        absurd (overdue i (get_or records i None) (slice_get-get_or records i None found.0) found.1)

-- an order without keys has no line
pub no_line : (order : BTreeSet (ℕ × ℕ)) (line : ℕ × ℕ) → (0 < length order.keys → ⊥) → HasLine order line → ⊥
no_line order line none has = by order.keys none has
  where
    -- no key of the list is this line
    by : (ks : List (ℕ × ℕ)) → (0 < length ks → ⊥) → list_any (λ k. is_eq (line_cmp line k)) ks ≡ true → ⊥
    by [] h e = true≢false (sym e)
    by (k ∷ ks) h e = h (omega arith)

-- where no record is overdue at the moment, no line of the order is below the moment
pub not_below : (records : Records) (order : BTreeSet (ℕ × ℕ)) (moment : ℕ) → IsInOrder records order → position (is_overdue moment) records ≡ None
    → (line : ℕ × ℕ) → HasLine order line → moment ≤ line.0
not_below records order moment ordered none line has =
    let at : slice_get records line.1 ≡ Some (Some (Some line.0)) = (ordered line).0 has in
    let within = slice_get_within records line.1 (Some (Some line.0)) at in
    -- no record of the list is overdue, so the one of the line is not: its last moment is not below the moment
    let past : length records ≤ position_or_len (is_overdue moment) records = grind (arith, common_steps) in
    let passed = fails_before_first (is_overdue moment) records line.1 None (omega (arith, within, past)) in
    let kept = get_or_from_slice_get records line.1 (Some (Some line.0)) None at in
    let late : is_overdue moment (Some (Some line.0)) ≡ false = ap (is_overdue moment) (sym kept) ∙ passed in
    grind (arith, nat_tests, late)

-- where the order has no line, nothing is overdue at any moment
pub earliest_none : (records : Records) (order : BTreeSet (ℕ × ℕ)) (moment : ℕ) → IsInOrder records order → ((line : ℕ × ℕ) → HasLine order line → ⊥)
    → (r : Option ℕ) → r ≡ None → (position (is_overdue moment) records ≡ None) ↔ IfSome r (λ last. moment ≤ last)
earliest_none records order moment ordered empty r is =
    subst (λ s. (position (is_overdue moment) records ≡ None) ↔ IfSome s (λ last. moment ≤ last)) (sym is)
    (λ none. tt, λ h. nothing_due records order moment ordered (λ line has. absurd (empty line has)))

-- where the order has a first line, nothing is overdue exactly at the moments up to the last moment of that line
pub earliest_some : (records : Records) (order : BTreeSet (ℕ × ℕ)) (moment : ℕ) → IsInOrder records order → (first : ℕ × ℕ) → HasLine order first
    → ((line : ℕ × ℕ) → HasLine order line → first.0 ≤ line.0) → (position (is_overdue moment) records ≡ None) ↔ (moment ≤ first.0)
earliest_some records order moment ordered first member least = (
  λ none. not_below records order moment ordered none first member,
  λ low. nothing_due records order moment ordered (λ line has. (let h = least line has in omega (arith, low, h))),
)
