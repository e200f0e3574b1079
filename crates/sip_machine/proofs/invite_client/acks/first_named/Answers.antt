use Rattle.std.proofs.lemmas.List.Elements.{All-more}
use Rattle.sip_machine.proofs.Words.{◌≡◌, ◌==◌, ◌<◌, ◌+◌, ◌∙◌, ℕ, List, Texts, arith, cond, inl, inr, sym, subst, true, true≢false, cases_eq, nat_tests, All, All-names, All-nil, All-weaker, IfOk-weaker, IsToOf, Keeps, get_or, length, numbers_of, owed_in, take, take_all, text_of}
use Rattle.sip_numbers.specs.declared.numbers.Word.{Word}
use Rattle.sip_machine.proofs.acks.HolderLemmas.{AreWith, found-among}
use Rattle.sip_machine.proofs.debts.NamesLemmas.{all-named, all-owed}
use Rattle.sip_machine.proofs.invite_client.acks.first_named.Goals as goal
use Rattle.sip_machine.proofs.invite_client.acks.first_named.Goals.{then-branch+in_ok-put, else-branch}

-- one name more, whose message has the To, and which is put into the set
one-with : (texts : Texts) (to : List ℕ) (t : ℕ) (old new : List Word) (names : List ℕ) (at : ℕ) → AreWith texts to t old (take at names) → at < length names →
    IsToOf (text_of texts (get_or names at 0)) to → ((m : ℕ) → numbers_of new m ≡ cond (m == get_or names at 0) true (numbers_of old m)) →
    AreWith texts to t new (take (at + 1) names)
one-with texts to t old new names at are low its changed =
    let name = get_or names at 0 in
    let Has : List Word → ℕ → Type 0 = λ set m. IsToOf (text_of texts m) to → numbers_of set m ≡ true in
    record {
      -- what is in the set now is the name, or was there; and what was there stays
      only = λ m is. elim (cases_eq m name) [
        | inl same ↦ subst (λ k. IsToOf (text_of texts k) to) (sym same) its
        | inr other ↦ are.only m (grind (arith, nat_tests, changed m))
      ];
      each = All-more (Has new) names at 0 low (All-weaker (Has old) (Has new) (λ m was has. grind (arith, nat_tests, changed m, was has)) (take at names) are.each)
          (λ has. grind (arith, nat_tests, changed name));
    }

-- the book keeps each message that the row owes
pub has_to-requires : goal.has_to-requires
has_to-requires c =
    subst (All (Keeps c.args.book.now)) (sym c.deref-message-items.ensures.value)
    (all-named (Keeps c.args.book.now) _ _ _ c.new-messages.ensures.items (rw c.in-Some.ensures.some at c.in_ok-names_once.ensures.ok) c.requires.owed)
    c.loop-message.message-index 0 c.loop-message-test.true

-- no message was looked at yet
pub loop-message-init : goal.loop-message-init
loop-message-init c = record { only = λ n is. absurd (true≢false (sym is ∙ c.new-those.ensures n)); each = All-nil _ }

-- the message at hand is in the set now, or has another To
pub loop-message-preserved : goal.loop-message-preserved
loop-message-preserved c =
    let l = c.loop-message in
    let names = c.deref-message-items.result.now in
    elim c.if-branch.branch [
      | then-branch+in_ok-put w ↦
          rw w.those-is (one-with c.args.book.now c.args.to.now c.args.moment l.those w.put.new.self names l.message-index l.invariant c.loop-message-test.true
          (c.in_ok-has_to.ensures.0 w.if-branch.true) w.in_ok-put.ensures.ok)
      | else-branch w ↦
          rw w.those-is record {
            only = l.invariant.only;
            each = All-more (λ n. IsToOf (text_of c.args.book.now n) c.args.to.now → numbers_of l.those n ≡ true) names l.message-index 0
                c.loop-message-test.true l.invariant.each (λ its. absurd (true≢false (sym (c.in_ok-has_to.ensures.1 its) ∙ w.if-branch.false)));
          }
    ]

-- what is found among those with the To is found with the To
pub returns-clause-finds : goal.returns-clause-finds
returns-clause-finds c =
    let texts = c.args.book.now in
    let to = c.args.to.now in
    let t = c.args.moment in
    let owes = owed_in c.args.dues.now c.args.row in
    let set = c.loop-message.those in
    let InSet : ℕ → Type 0 = λ n. IsToOf (text_of texts n) to → numbers_of set n ≡ true in
    let items = c.deref-message-items in
    let each = rw (take_all c.loop-message.message-index items.result.now c.loop-message-test.false, items.ensures.value) at c.loop-message.invariant.each in
    let named = rw c.in-Some.ensures.some at c.in_ok-names_once.ensures.ok in
    let all = All-names InSet owes (all-owed InSet owes _ _ c.new-messages.ensures.items named each) in
    IfOk-weaker c.first_payable.result _ _ (λ found. found-among texts to t set owes found (λ k d low.
    (λ pays. (c.loop-message.invariant.only (get_or owes k d).message pays.0, pays.1), λ has. (all k d low has.0, has.1)))) c.first_payable.ensures.first
