-- Groups of bytes of a class, and their test.
use Rattle.std.proofs.Common.{◌≡◌, ℕ, Bool, true, List, [], ◌∷◌, length, nat_lt, nat_le, ◌&&◌, refl, ap, arith}
use Rattle.std.specs.List.{AllByRecursion, concat, list_all}
use Rattle.std.proofs.lemmas.Bool.{and_from, and_parts, lt-ltb, ltb-true, le-leb, leb-true}
use Rattle.std.proofs.lemmas.List.{length-append}
use Rattle.sip_text.specs.declared.class.Class.{Class}
use Rattle.sip_standard.specs.Text.{One, Between}
use Rattle.sip_text.specs.inner.Class.{is_in}
use Rattle.sip_text.specs.inner.HostTests.{is_group}
use Rattle.sip_text.proofs.texts.RunLemmas.{run-list_all, list_all-run}

-- pieces of one byte each are as many as their bytes
pub length-ones : (test : ℕ → Bool) (us : List (List ℕ)) → AllByRecursion (One test) us → length (concat us) ≡ length us
length-ones test [] all = refl
length-ones test (u ∷ us) all =
    omega (arith, length-append u (concat us), ap length all.0.2, length-ones test us all.1)

-- a text of one to `most` bytes of the class passes the test of a group
pub group-between : (class : Class) (most : ℕ) (text : List ℕ) → Between 1 most (One (is_in class)) text → is_group class most text ≡ true
group-between class most text many =
    -- the text has as many bytes as the repetition has pieces, since each is one byte
    let ones = length-ones (is_in class) many.0 many.1 in
    let len = ap length many.2 in
    and_from (nat_lt 0 (length text) && nat_le (length text) most) (list_all (is_in class) text)
    (and_from (nat_lt 0 (length text)) (nat_le (length text) most)
    (lt-ltb 0 (length text) (omega (arith, ones, len, many.3))) (le-leb (length text) most (omega (arith, ones, len, many.4))))
    (run-list_all (is_in class) text (many.0, many.1, many.2))

-- a text that passes the test of a group is one to `most` bytes of the class
pub between-group : (class : Class) (most : ℕ) (text : List ℕ) → is_group class most text ≡ true → Between 1 most (One (is_in class)) text
between-group class most text pass =
    let both = and_parts (nat_lt 0 (length text) && nat_le (length text) most) (list_all (is_in class) text) pass in
    let ends = and_parts (nat_lt 0 (length text)) (nat_le (length text) most) both.0 in
    let many = list_all-run (is_in class) text both.1 in
    let ones = length-ones (is_in class) many.0 many.1 in
    -- the bytes are of the class, and there are as many as the test says
    let len = ap length many.2 in (
      many.0,
      many.1,
      many.2,
      omega (arith, ones, len, ltb-true 0 (length text) ends.0),
      omega (arith, ones, len, leb-true (length text) most ends.1),
    )
