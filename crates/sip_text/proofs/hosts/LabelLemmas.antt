-- Labels: the tests of a hostname's parts.
use Rattle.std.proofs.Common.{◌≡◌, ℕ, ◌-◌, Bool, true, false, ◌&&◌, ◌||◌, not, nat_eq, nat_lt, List, [], ◌∷◌, ◌++◌, Option, None, Some, length, slice_index, refl, sym, ap, ◌∙◌, subst, inl, inr, arith}
use Rattle.std.specs.List.{list_all}
use Rattle.std.specs.Int.{is_in_range}
use Rattle.std.specs.Char.{is_ascii_alphabetic, is_ascii_alphanumeric}
use Rattle.std.proofs.lemmas.Bool.{and_from, and_parts, and_right, or_cases, or_left, or_right, both_ways, not-true, not_from_false, eqb-true, lt-ltb}
use Rattle.sip_standard.specs.Text.{One}
use Rattle.sip_standard.specs.Profile.{Label}
use Rattle.sip_text.specs.Bytes.{dot, hyphen}
use Rattle.sip_text.specs.inner.Class.{is_label_byte}
use Rattle.sip_text.specs.inner.Cut.{before, behind, parts}
use Rattle.sip_text.specs.inner.HostTests.{has_label_ends, has_top_ends, is_label, is_top_label, are_labels}
use Rattle.sip_text.proofs.texts.ManyLemmas.{many-push}
use Rattle.sip_text.proofs.texts.RunLemmas.{run-list_all, list_all-run}
use Rattle.sip_text.proofs.cuts.EndLemmas.{last_byte, length-end, slice_index-end}
use Rattle.sip_text.proofs.cuts.CutLemmas.{later_parts, parts-cut}

-- a label and the parts of a text pass the test of labels exactly if the label passes its test and the parts do
pub labels-cons : (label text : List ℕ) → are_labels (label ∷ parts dot text) ≡ (is_label label && are_labels (parts dot text))
labels-cons label text =
    ap (λ ps. are_labels (label ∷ ps)) (parts-cut dot text) ∙ ap (λ ps. is_label label && are_labels ps) (sym (parts-cut dot text))

-- the parts of a text with a dot pass the test of labels exactly if the first part is a label and the parts after its dot pass
labels-behind : (text rest : List ℕ) → behind dot text ≡ Some rest → are_labels (parts dot text) ≡ (is_label (before dot text) && are_labels (parts dot rest))
labels-behind text rest some =
    ap are_labels (parts-cut dot text)
    ∙ ap (λ o. are_labels (before dot text ∷ later_parts dot o)) some
    ∙ labels-cons (before dot text) rest

-- where the first part is a label, the parts of a text with a dot pass the test of labels exactly if the parts after that dot do
pub labels-more : (text rest : List ℕ) → is_label (before dot text) ≡ true → behind dot text ≡ Some rest → are_labels (parts dot rest) ≡ are_labels (parts dot text)
labels-more text rest pass some =
    sym (labels-behind text rest some ∙ ap (λ first. first && are_labels (parts dot rest)) pass)

-- where the first part is no label, the parts of a text with a dot do not pass the test of labels
pub labels-fail : (text rest : List ℕ) → is_label (before dot text) ≡ false → behind dot text ≡ Some rest → are_labels (parts dot text) ≡ false
labels-fail text rest fails some =
    labels-behind text rest some ∙ ap (λ first. first && are_labels (parts dot rest)) fails

-- the parts of a text without a dot pass the test of labels exactly if the text is a toplabel
pub labels-last : (text : List ℕ) → behind dot text ≡ None → are_labels (parts dot text) ≡ is_top_label (before dot text)
labels-last text none =
    ap are_labels (parts-cut dot text) ∙ ap (λ o. are_labels (before dot text ∷ later_parts dot o)) none

-- where all bytes of a text without a dot are bytes of labels, its parts are labels exactly if it begins and ends as a toplabel does
pub labels-last_run : (text : List ℕ) → list_all is_label_byte (before dot text) ≡ true → behind dot text ≡ None → are_labels (parts dot text) ≡ has_top_ends (before dot text)
labels-last_run text run none =
    labels-last text none ∙ ap (λ all. has_top_ends (before dot text) && all) run ∙ alone (has_top_ends (before dot text))
  where
    -- a test that is joined by "and" with one that always passes says what it says alone
    alone : (x : Bool) → (x && true) ≡ x
    alone true = refl
    alone false = refl

-- where the first part has a byte that no label has, the parts do not pass the test of labels
pub labels-other : (text : List ℕ) → list_all is_label_byte (before dot text) ≡ false → are_labels (parts dot text) ≡ false
labels-other text other = at (behind dot text) refl
  where
    -- the claim holds whether or not the text has a dot
    at : (o : Option (List ℕ)) → behind dot text ≡ o → are_labels (parts dot text) ≡ false
    -- without a dot the only part has such a byte, and is no toplabel
    at None is = labels-last text is ∙ and_right (has_top_ends (before dot text)) (list_all is_label_byte (before dot text)) other
    -- with a dot the first part has such a byte, and is no label
    at (Some rest) is =
        labels-fail text rest (and_right (has_label_ends (before dot text)) (list_all is_label_byte (before dot text)) other) is

-- a byte that passes differs from one that does not
pub other_byte : (test : ℕ → Bool) (mark b : ℕ) → test mark ≡ false → test b ≡ true → nat_eq b mark ≡ false
other_byte test mark b fails pass = at (nat_eq b mark) refl
  where
    -- b is not the mark, whatever the test of it says, since b passes and the mark does not
    at : (same : Bool) → nat_eq b mark ≡ same → nat_eq b mark ≡ false
    at true is = absurd (both_ways (test mark) fails (ap test (sym (eqb-true b mark is)) ∙ pass))
    at false is = is

-- a byte of a label that is no hyphen is a letter or digit
alphanumeric-label : (b : ℕ) → is_label_byte b ≡ true → nat_eq b hyphen ≡ false → is_ascii_alphanumeric b ≡ true
alphanumeric-label b pass other = elim (or_cases (is_ascii_alphanumeric b) (nat_eq b hyphen) pass) [
  -- a byte of a label is a letter or digit, or a hyphen, which is ruled out
  | inl is ↦ is
  | inr is ↦ absurd (both_ways (nat_eq b hyphen) other is)
]

-- a letter is a letter or digit
pub alphanumeric-alphabetic : (b : ℕ) → is_ascii_alphabetic b ≡ true → is_ascii_alphanumeric b ≡ true
alphanumeric-alphabetic b pass = elim (or_cases (is_in_range 65 90 b) (is_in_range 97 122 b) pass) [
  -- a capital letter is in the second of the three ranges, and a small one in the third
  | inl upper ↦ or_left (is_in_range 48 57 b || is_in_range 65 90 b) (is_in_range 97 122 b) (or_right (is_in_range 48 57 b) (is_in_range 65 90 b) upper)
  | inr lower ↦ or_right (is_in_range 48 57 b || is_in_range 65 90 b) (is_in_range 97 122 b) lower
]

-- the test of a label, by its parts
record LabelPasses (text : List ℕ) : Type 0 where
  long : nat_lt 0 (length text) ≡ true
  first : nat_eq (slice_index text 0) hyphen ≡ false
  last : nat_eq (slice_index text (length text - 1)) hyphen ≡ false
  bytes : list_all is_label_byte text ≡ true

-- a text that passes the test of a label passes each part of the test
passes_parts : (text : List ℕ) → is_label text ≡ true → LabelPasses text
passes_parts text pass =
    -- the test is one of the two ends and one of all bytes; that of the ends asks for a first byte, which is no hyphen, and for a last one that is none
    let all = and_parts (has_label_ends text) (list_all is_label_byte text) pass in
    let ends = and_parts _ (not (nat_eq (slice_index text (length text - 1)) hyphen)) all.0 in
    let front = and_parts (nat_lt 0 (length text)) (not (nat_eq (slice_index text 0) hyphen)) ends.0 in
    record { long = front.0; first = not-true _ front.1; last = not-true _ ends.1; bytes = all.1 }

-- a text that passes each part of the test of a label passes the test
passes_from : (text : List ℕ) → LabelPasses text → is_label text ≡ true
passes_from text passes =
    and_from (has_label_ends text) (list_all is_label_byte text)
    (and_from _ _ (and_from _ _ passes.long (not_from_false _ passes.first)) (not_from_false _ passes.last)) passes.bytes

-- a letter or digit is a byte of a label
label_byte : (b : ℕ) → is_ascii_alphanumeric b ≡ true → is_label_byte b ≡ true
label_byte b pass = or_left (is_ascii_alphanumeric b) (nat_eq b hyphen) pass

-- a letter or digit is no hyphen
no_hyphen : (b : ℕ) → is_ascii_alphanumeric b ≡ true → nat_eq b hyphen ≡ false
no_hyphen b pass = other_byte is_ascii_alphanumeric hyphen b refl pass

-- the last byte of a byte b, a text m and a byte e is e
last_of : (b e : ℕ) (m : List ℕ) → slice_index (b ∷ (m ++ (e ∷ []))) (length (b ∷ (m ++ (e ∷ []))) - 1) ≡ e
last_of b e m = ap (slice_index (b ∷ (m ++ (e ∷ [])))) (length-end (b ∷ m) e) ∙ slice_index-end (b ∷ m) e

-- a label whose first byte is a letter or digit passes the test of a label, and its first byte passes its own test
pub label-is : (first : ℕ → Bool) (text : List ℕ) → ((b : ℕ) → first b ≡ true → is_ascii_alphanumeric b ≡ true) → Label first text → (is_label text ≡ true) × (first (slice_index text 0) ≡ true)
label-is first text within (inl one) =
    let alphanumeric = within one.0 one.1 in
    subst (λ t. (is_label t ≡ true) × (first (slice_index t 0) ≡ true)) (sym one.2) (
      -- the label is one byte, which is no hyphen
      passes_from (one.0 ∷ []) (record {
        long = refl;
        first = no_hyphen one.0 alphanumeric;
        last = no_hyphen one.0 alphanumeric;
        bytes = and_from _ _ (label_byte one.0 alphanumeric) refl;
      }),
      one.1,
    )
-- the label has two bytes or more: the first and the last are letters or digits, and those between are bytes of labels
-- u is the first byte, m those between and e the last one; t is m and e
label-is first text within (inr (u, t, one, (m, e, many, last, t_is), whole)) =
    subst (λ x. (is_label x ≡ true) × (first (slice_index x 0) ≡ true)) (sym split) (
      passes_from (one.0 ∷ (m ++ (last.0 ∷ []))) (record {
        long = lt-ltb 0 (length (one.0 ∷ (m ++ (last.0 ∷ [])))) (omega arith);
        first = no_hyphen one.0 alphanumeric;
        last = ap (λ x. nat_eq x hyphen) (last_of one.0 last.0 m) ∙ no_hyphen last.0 last.1;
        -- all bytes of the label are bytes of labels
        bytes = and_from _ _ (label_byte one.0 alphanumeric)
            (run-list_all is_label_byte (m ++ (last.0 ∷ []))
            (many-push (One is_label_byte) m (last.0 ∷ []) many (last.0, label_byte last.0 last.1, refl)));
      }),
      one.1,
    )
  where
    -- the first byte of the label is a letter or a digit
    alphanumeric : is_ascii_alphanumeric one.0 ≡ true
    alphanumeric = within one.0 one.1

    -- the label is its first byte, what stands between, and its last byte
    split : text ≡ one.0 ∷ (m ++ (last.0 ∷ []))
    split = whole ∙ ap (λ x. x ++ t) one.2 ∙ ap (λ x. one.0 ∷ x) (t_is ∙ ap (λ x. m ++ x) last.2)

-- where all bytes of m and e pass a test, those of m pass it, and e does
list_all-end : (test : ℕ → Bool) (m : List ℕ) (e : ℕ) → list_all test (m ++ (e ∷ [])) ≡ true → (list_all test m ≡ true) × (test e ≡ true)
list_all-end test [] e all = (refl, (and_parts (test e) true all).0)
list_all-end test (b ∷ m) e all =
    let both = and_parts (test b) (list_all test (m ++ (e ∷ []))) all in
    let rest = list_all-end test m e both.1 in
    (and_from _ _ both.0 rest.0, rest.1)

-- a text that passes the test of a label, and whose first byte passes the test of the first one, is a label
pub label-yes : (first : ℕ → Bool) (text : List ℕ) → is_label text ≡ true → first (slice_index text 0) ≡ true → Label first text
-- an empty text does not pass the test
label-yes first [] pass starts = let none = (passes_parts [] pass).long in cc
label-yes first (b ∷ text) pass starts = elim (last_byte text) [
  -- the first byte stands alone, or more bytes follow it
  | inl none ↦ inl (b, starts, ap (λ t. b ∷ t) none)
  | inr more ↦ longer more.0 more.1 more.2
]
  where
    -- the parts of the test all pass
    passes : LabelPasses (b ∷ text)
    passes = passes_parts (b ∷ text) pass

    -- where more bytes follow the first, of which e is the last, the text is a label
    longer : (m : List ℕ) (e : ℕ) → text ≡ m ++ (e ∷ []) → Label first (b ∷ text)
    longer m e is =
        -- the last byte is no hyphen
        let bytes = list_all-end is_label_byte (b ∷ m) e (ap (λ t. list_all is_label_byte (b ∷ t)) (sym is) ∙ passes.bytes) in
        let inner = and_parts (is_label_byte b) (list_all is_label_byte m) bytes.0 in
        let plain : nat_eq e hyphen ≡ false =
        ap (λ x. nat_eq x hyphen) (sym (last_of b e m)) ∙ ap (λ t. nat_eq (slice_index (b ∷ t) (length (b ∷ t) - 1)) hyphen) (sym is) ∙ passes.last in
        -- the label is its first byte, those between, and the last one
        inr (
          b ∷ [],
          text,
          (b, starts, refl),
          (m, e ∷ [], list_all-run is_label_byte m inner.1, (e, alphanumeric-label e bytes.1 plain, refl), is),
          refl,
        )

-- a text that passes the test of a label begins with a letter or digit
pub label-starts : (text : List ℕ) → is_label text ≡ true → is_ascii_alphanumeric (slice_index text 0) ≡ true
-- an empty text does not pass the test
label-starts [] pass = let none = (passes_parts [] pass).long in cc
label-starts (b ∷ text) pass =
    let passes = passes_parts (b ∷ text) pass in
    alphanumeric-label b (and_parts (is_label_byte b) (list_all is_label_byte text) passes.bytes).0 passes.first
