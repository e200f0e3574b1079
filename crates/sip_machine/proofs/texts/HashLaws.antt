-- The order of texts by their hashes, and of those with one hash by their bytes.
use Rattle.std.specs.Prelude.{◌≡◌, ℕ, Bool, true, List, bytes_eq}
use Rattle.std.specs.Cmp.{IsTotalOrder, both_ways}
use Rattle.std.specs.Cmp.Lexicographic.{bytes_decides, texts_ties}
use Rattle.std.specs.declared.cmp.Ordering.{Ordering}
use Rattle.std.specs.declared.cmp.Ordering.TheVariants.{Less, Equal, Greater}
use Rattle.std.specs.Ordering.{eq_by_cmp, is_eq, ordering_then}
use Rattle.std.proofs.Common.{ap, sym, subst, ◌∙◌, true≢false}
use Rattle.std.proofs.lemmas.Cmp.{nat_cmp_total, nat_list_cmp_total, on_total, then_total, tied_itself}
use Rattle.sip_machine.specs.inner.Order.{compare, full_hash, text_cmp}

-- hash and bytes are ordered totally
pub compare-total : IsTotalOrder compare
compare-total = then_total (on_total (λ key. key.0) nat_cmp_total) (on_total (λ key. key.1) nat_list_cmp_total)

-- texts are ordered totally
pub text_cmp-total : IsTotalOrder text_cmp
text_cmp-total = on_total (λ text. (full_hash text, text)) compare-total

-- where neither of two answers makes a difference, the second one makes none
second-equal : (a b : Ordering) → is_eq (ordering_then a b) ≡ true → is_eq b ≡ true
second-equal Less b is = absurd (true≢false (sym is))
second-equal Equal b is = is
second-equal Greater b is = absurd (true≢false (sym is))

-- texts compare as equal exactly where their bytes are equal
pub text_ties : (x y : List ℕ) → bytes_eq x y ≡ eq_by_cmp text_cmp x y
text_ties x y = both_ways (bytes_eq x y) (eq_by_cmp text_cmp x y)
    (λ same. subst (λ text. eq_by_cmp text_cmp x text ≡ true) ((bytes_decides x y).0 same) (ap is_eq (tied_itself text_cmp-total x)))
    (λ equal. texts_ties x y ∙ second-equal _ _ equal)

-- texts that compare as equal are the same
pub tied-same : (x y : List ℕ) → eq_by_cmp text_cmp x y ≡ true → x ≡ y
tied-same x y equal = (bytes_decides x y).0 (text_ties x y ∙ equal)
