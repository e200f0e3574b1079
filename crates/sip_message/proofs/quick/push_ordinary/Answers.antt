use Rattle.std.proofs.Common.{◌≡◌, ℕ, ◌+◌, ◌<◌, List, [], ◌∷◌, ◌++◌, map, length, take, drop, get_or, sym, ap, ◌∙◌, subst, arith}
use Rattle.std.proofs.lemmas.List.{take_rest, map-append}
use Rattle.sip_standard.specs.Profile.{Token}
use Rattle.sip_text.specs.Bytes.{carriage_return, colon}
use Rattle.sip_message.specs.inner.Views.{name_parts, field_parts, fields_parts}
use Rattle.sip_message.specs.Name.{name_of}
use Rattle.sip_message.specs.Field.{Field}
use Rattle.sip_message.specs.inner.FieldText.{NameText, ValueText}
use Rattle.sip_message.specs.inner.Plain.{segment}
use Rattle.sip_message.proofs.QuickLemmas.{plain-run, plain-named, behind-open, value-open}
use Rattle.sip_message.proofs.PlainLemmas.{run-ends, colon-before}
use Rattle.sip_message.proofs.quick.push_ordinary.Goals as goal

-- the place after the name is not after the end of the line
pub overflow_add-at : goal.overflow_add-at
overflow_add-at c = omega (arith, run-ends c.args.masks.now c.args.at c.args.end c.run_at-len.result c.requires.within.0 c.requires.within.1 c.run_at-len.ensures)

-- a byte stands after the name
pub bounds-text-at : goal.bounds-text-at
bounds-text-at c =
    omega (arith, run-ends c.args.masks.now c.args.at c.args.end c.run_at-len.result c.requires.within.0 c.requires.within.1 c.run_at-len.ensures, c.requires.within.1.0, ap length c.text-text.ensures)

-- the byte after the name is a colon, so it stands before the CR at the end of the line
pub value_place-requires : goal.value_place-requires
value_place-requires c =
    -- m is the text, in which the field's name has n bytes from the place `at` on; `mark`: a colon stands after it
    let m = c.args.masks.now in
    let end = c.args.end in
    let n = c.run_at-len.result in
    let same = c.text-text.ensures in
    let mark : get_or m (c.args.at + n) 0 ≡ colon = subst (λ t. get_or t (c.args.at + n) 0 ≡ colon) same (omega (arith, c.if-text-at-ne58.false)) in
    let less = colon-before m c.args.at end n c.requires.within.0 c.requires.within.1 c.run_at-len.ensures mark in
    (omega (arith, less), (omega (arith, c.requires.within.1.0, ap length same), subst (λ t. get_or t end 0 ≡ carriage_return) (sym same) c.requires.within.1.1))

-- a run of plain bytes is a token
pub quick_name-name-requires-clause-token : goal.quick_name-name-requires-clause-token
quick_name-name-requires-clause-token c =
    -- n is how many plain bytes stand from the place `at` on, which are at least one
    let n = c.run_at-len.result in
    let behind = take_rest c.text-text.result.now c.args.at ∙ ap (drop c.args.at) c.text-text.ensures in
    subst (λ t. Token (take n t)) (sym behind) (plain-run (drop c.args.at c.args.masks.now) n c.run_at-len.ensures (omega (arith, c.if-len-eq0.false)))

-- no control stands in the value
pub is_value_at-requires-clause-clear : goal.is_value_at-requires-clause-clear
is_value_at-requires-clause-clear c =
    -- m is the text, in which the field's name has n bytes from the place `at` on; `mark`: a colon stands after it
    let m = c.args.masks.now in
    let n = c.run_at-len.result in
    let end = c.args.end in
    let mark : get_or m (c.args.at + n) 0 ≡ colon = subst (λ t. get_or t (c.args.at + n) 0 ≡ colon) c.text-text.ensures (omega (arith, c.if-text-at-ne58.false)) in
    let less = colon-before m c.args.at end n c.requires.within.0 c.requires.within.1 c.run_at-len.ensures mark in
    -- the value is a part of what comes after the colon, where no control stands
    value-open (segment (c.args.at + n + 1) end m) (segment c.in-Some.from end m) (behind-open m c.args.at n end less (omega (arith, c.requires.within.1.0)) mark c.requires.clear)
    (subst (λ t. ValueText (segment (c.args.at + n + 1) end t) (segment c.in-Some.from end t)) c.text-text.ensures c.in-Some.ensures.value)

-- a plain name, a colon and a value that its row allows are the field that was pushed
pub returns : goal.returns
returns c = λ _.
    -- m is the text, in which the field's name has n bytes from the place `at` on, its value goes from `from` on, and its line ends at `end`
    let m = c.args.masks.now in
    let n = c.run_at-len.result in
    let end = c.args.end in
    let from = c.in-Some.from in
    let same = c.text-text.ensures in
    -- a colon follows the name, which the run of plain bytes spells
    let mark : get_or m (c.args.at + n) 0 ≡ colon = subst (λ t. get_or t (c.args.at + n) 0 ≡ colon) same (omega (arith, c.if-text-at-ne58.false)) in
    -- no colon stands in the name, which n bytes spell, so the name of the field is the one that the code reads of them
    let less = colon-before m c.args.at end n c.requires.within.0 c.requires.within.1 c.run_at-len.ensures mark in
    let named = plain-named m c.args.at n end c.run_at-len.ensures (omega (arith, c.if-len-eq0.false)) less (omega (arith, c.requires.within.1.0)) mark in
    let spelled : name_parts c.quick_name-name.result ≡ name_of (take n (drop c.args.at c.text-text.result.now)) =
    c.quick_name-name.ensures ∙ ap (λ t. name_of (take n t)) (take_rest c.text-text.result.now c.args.at) in
    let name_is : name_parts c.quick_name-name.result ≡ name_of (take n (drop c.args.at m)) = spelled ∙ ap (λ t. name_of (take n (drop c.args.at t))) same in
    let made : List ℕ → Field = λ value. record { name = name_parts c.quick_name-name.result; value = value } in
    record {
      -- the value stands after the colon, and is one of the row of the name
      field = made (segment from end m);
      is = record {
        rest = segment (c.args.at + n + 1) end m;
        named = subst (λ name. NameText (segment c.args.at end m) name (segment (c.args.at + n + 1) end m)) (sym name_is) named;
        valued = subst (λ t. ValueText (segment (c.args.at + n + 1) end t) (segment from end t)) same c.in-Some.ensures.value;
        row = c.is_value_at.ensures.row c.if-not-is_value_at.false;
      };
      -- the field is the last one now, and what is asked for is kept
      pushed = ap (map field_parts) c.in_default-push.ensures.items ∙ map-append field_parts c.args.fields.now.items _ ∙ ap (λ t. fields_parts c.args.fields.now ++ made (segment from end t) ∷ []) same;
      asks = c.is_value_at.ensures.asked c.if-not-is_value_at.false;
    }
