-- Lists of states that cover what holds of some states, where one may be covered more than once.
use Rattle.sip_machine.proofs.Words.{take-take, take-append-drop, ◌≡◌, ◌≤◌, ◌<◌, ◌-◌, ◌↔◌, ◌⊎◌, ℕ, Bool, Option, Some, None, List, [], ◌∷◌, ◌++◌, All, drop, filter, get_or, length, map, option_to_list, take, inl, inr, refl, sym, ◌∙◌, ap, subst, cond, arith, append-nil, append_assoc, nat_tests, get_or-drop, get_or-take, get_or_append_left, length-drop, length-take-le, map-append, take-append-le, All-append, All-drop, All-get_or, All-head, All-nil, All-tail, All-take, Contains-append_cases, Contains-append_left, Contains-append_right, from_to, Texts, Covers, FromSome, Knows, StandFor, AnswersOne}
use Rattle.sip_machine.proofs.pools.PoolLemmas.{front-again, take-old}
use Rattle.sip_machine.proofs.texts.TextLaws.{Contains-nil}
use Rattle.sip_machine.proofs.steps.SingleLemmas.{StandFor-one}

-- What follows is of parts of a list of states, from one index up to another.
module _ {S : Type 0} where
  -- where others are put after the states, those from one index up to another are the same
  pub slice-old : (from to : ℕ) (old found new : List S) → new ≡ old ++ found → to ≤ length old → from_to from to new ≡ from_to from to old
  slice-old from to old found new is le = ap (from_to from to) is ∙ ap (drop from) (take-append-le to old found le)

  -- where others are put after the states, what holds of the first `count` ones holds of those from one index up to another that is not above `count`
  pub slice-kept : (P : S → Type 0) (from to count : ℕ) (old found new : List S) → new ≡ old ++ found → to ≤ count → count ≤ length old → All P (take count old) → All P (from_to from to new)
  slice-kept P from to count old found new is order le all =
      rw (slice-old from to old found new is (omega (arith, order, le)), ← take-take to count old order) (All-drop P from (take to (take count old)) (All-take P to (take count old) all))

  -- the state at index k of a list is the one at k - from of those from `from` on
  pub slice-get : (from to k : ℕ) (xs : List S) (d : S) → from ≤ k → k < to → get_or (from_to from to xs) (k - from) d ≡ get_or xs k d
  slice-get from to k xs d le low = grind (arith, get_or-drop, get_or-take)

  -- where states were put after the old ones, and later ones left all these as they were, the old ones are as they were
  pub before-more : (old mid new added : List S) → mid ≡ old ++ added → take (length mid) new ≡ mid → take (length old) new ≡ old
  before-more old mid new added is stands = front-again old mid new (take-old old added mid (length old) is refl) stands

  -- what holds of the old states from one index up to another holds of the state at an index between, when others are put after the old ones
  pub slice-at : (P : S → Type 0) (from to k : ℕ) (old found new : List S) (d : S) → new ≡ old ++ found → from ≤ k → k < to → to ≤ length old →
      All P (from_to from to old) → P (get_or new k d)
  slice-at P from to k old found new d is after low le all = grind (arith, nat_tests, get_or_append_left, slice-get, length-drop, length-take-le, All-get_or)

-- What follows is of the states X to which some states S of the code lead.
module _ {X S : Type 0} where
  -- what leads from one of two lists leads from both together
  pub FromSome-append : (P : S → X → Type 0) (xs ys : List S) (y : X) → (FromSome P xs y ⊎ FromSome P ys y) ↔ FromSome P (xs ++ ys) y
  FromSome-append P [] ys y = (λ h. elim h [ inl none ↦ absurd none | inr later ↦ later ], inr)
  FromSome-append P (x ∷ xs) ys y = grind (arith, nat_tests, FromSome-append P xs ys y)

  -- where R is what P or Q is, what leads from one of the states by P, or from one by Q, leads from one of them by R
  pub FromSome-either : (P Q R : S → X → Type 0) → ((x : S) (y : X) → (P x y ⊎ Q x y) ↔ R x y) → (xs : List S) (y : X) → (FromSome P xs y ⊎ FromSome Q xs y) ↔ FromSome R xs y
  FromSome-either P Q R same [] y = (λ h. elim h [ inl none ↦ none | inr none ↦ none ], λ none. inl none)
  FromSome-either P Q R same (x ∷ xs) y = grind (arith, nat_tests, same x y, FromSome-either P Q R same xs y)

  -- where two relations are the same, the states to which they lead from some states are the same
  pub FromSome-same : (P Q : S → X → Type 0) → ((x : S) (y : X) → P x y ↔ Q x y) → (xs : List S) (y : X) → FromSome P xs y ↔ FromSome Q xs y
  FromSome-same P Q same [] y = (λ none. none, λ none. none)
  FromSome-same P Q same (x ∷ xs) y = grind (arith, nat_tests, same x y, FromSome-same P Q same xs y)

  -- where nothing leads from each of some states to y, nothing leads from one of them to y
  pub FromSome-none : (P : S → X → Type 0) (xs : List S) (y : X) → All (λ x. ¬ (P x y)) xs → FromSome P xs y → ⊥
  FromSome-none P [] y none h = h
  FromSome-none P (x ∷ xs) y none h = grind (arith, nat_tests, All-head (λ x. ¬ (P x y)) x xs none, FromSome-none P xs y (All-tail (λ x. ¬ (P x y)) x xs none))

-- What follows is of states of the code: `seen` gives what one stands for beside the book, `names` what it names, and InRange bounds its numbers.
module _ {X S : Type 0} (names : S → List ℕ) (InRange : S → Type 0) (seen : Texts → S → X) (texts : Texts) where
  -- the states stand for exactly that of which P holds
  abbrev pub Cover : (X → Type 0) → List S → Type 0
  Cover P xs = Covers names InRange seen texts P xs

  -- where P holds of nothing, no states cover it
  pub Covers-none : (P : X → Type 0) → ((y : X) → ¬ (P y)) → Cover P []
  Covers-none P none = grind (arith, nat_tests, Contains-nil, All-nil)

  -- where P and Q hold of the same, states that cover P cover Q
  pub Covers-same : (P Q : X → Type 0) → ((y : X) → P y ↔ Q y) → (xs : List S) → Cover P xs → Cover Q xs
  Covers-same P Q same xs c = grind (arith, nat_tests)

  -- two lists cover what either covers
  pub Covers-both : (P Q : X → Type 0) (xs ys : List S) → Cover P xs → Cover Q ys → Cover (λ y. P y ⊎ Q y) (xs ++ ys)
  Covers-both P Q xs ys c d = record {
    members = λ y. rw (map-append (seen texts) xs ys) (
      λ has. elim (Contains-append_cases (map (seen texts) xs) (map (seen texts) ys) y has) [ inl first ↦ inl ((c.members y).0 first) | inr later ↦ inr ((d.members y).0 later) ],
      -- what either covers is in the list
      λ h. elim h [
        | inl p ↦ Contains-append_left (map (seen texts) xs) (map (seen texts) ys) y ((c.members y).1 p)
        | inr q ↦ Contains-append_right (map (seen texts) xs) (map (seen texts) ys) y ((d.members y).1 q)
      ],
    );
    known = All-append (Knows names texts) xs ys c.known d.known;
    in_range = All-append InRange xs ys c.in_range d.in_range;
  }

  -- states that stand for those of which P holds cover them
  pub Covers-stood : (P : X → Type 0) (xs : List S) → StandFor names InRange seen texts P xs → Cover P xs
  Covers-stood P xs stands = record { members = stands.members; known = stands.known; in_range = stands.in_range }

  -- an answer that stands for the only state of which P holds covers it
  pub Covers-one : (P : X → Type 0) (a : Option S) → AnswersOne names InRange seen texts P a → Cover P (option_to_list a)
  Covers-one P None none = Covers-none P none
  Covers-one P (Some s) one = Covers-stood P (s ∷ []) (StandFor-one names InRange seen texts P s one)

  -- where each state that passes the test, changed by g, answers what leads from it, those that pass, changed by g, cover what leads from all
  pub answers-cover : (P : S → X → Type 0) (test : S → Bool) (g : S → S) (xs : List S) →
      All (λ x. AnswersOne names InRange seen texts (P x) (cond (test x) (Some (g x)) None)) xs → Cover (FromSome P xs) (map g (filter test xs))
  answers-cover P test g [] all = Covers-none (FromSome P []) (λ y none. none)
  answers-cover P test g (x ∷ xs) all =
      -- the first state gives its answer, if it passes, and the others cover what leads from them
      let more = answers-cover P test g xs (All-tail (λ x. AnswersOne names InRange seen texts (P x) (cond (test x) (Some (g x)) None)) x xs all) in
      let is : map g (filter test (x ∷ xs)) ≡ option_to_list (cond (test x) (Some (g x)) None) ++ map g (filter test xs) = grind (arith, nat_tests) in
      rw is (Covers-both (P x) (FromSome P xs) (option_to_list (cond (test x) (Some (g x)) None)) (map g (filter test xs))
      (Covers-one (P x) (cond (test x) (Some (g x)) None) (all 0 x (omega arith))) more)

  -- the new states are the old ones and, after these, states that cover what leads from `some`, where P says what leads from each
  abbrev pub HasFound : (S → X → Type 0) → List S → List S → List S → Type 0
  HasFound P some old new = (added : List S) × (new ≡ old ++ added) × Cover (FromSome P some) added

  -- where no states are asked, none were found
  pub found-none : (P : S → X → Type 0) (old : List S) → HasFound P [] old old
  found-none P old = ([], sym (append-nil old), Covers-none (FromSome P []) (λ y none. none))

  -- where what leads from more states is found after the others, what leads from all of them was found
  pub found-more : (P : S → X → Type 0) (some more all old mid new added : List S) → all ≡ some ++ more → HasFound P some old mid → new ≡ mid ++ added →
      Cover (FromSome P more) added → HasFound P all old new
  found-more P some more all old mid new added is (found, mid_is, covers) new_is covers_more = (
    -- what was found before and what is found now together cover what leads from all
    found ++ added,
    new_is ∙ ap (λ xs. xs ++ added) mid_is ∙ append_assoc old found added,
    rw is (Covers-same (λ y. FromSome P some y ⊎ FromSome P more y) (FromSome P (some ++ more)) (FromSome-append P some more) (found ++ added)
        (Covers-both (FromSome P some) (FromSome P more) found added covers covers_more)),
  )

  -- states that cover what leads from x cover what leads from the list of x alone
  pub Covers-alone : (P : S → X → Type 0) (x : S) (xs : List S) → Cover (P x) xs → Cover (FromSome P (x ∷ [])) xs
  Covers-alone P x = Covers-same (P x) (FromSome P (x ∷ [])) (λ y. (λ here. inl here, λ h. elim h [ inl here ↦ here | inr none ↦ absurd none ]))

  -- where what leads from the states between two indexes is found after the others, what leads from all up to the later index was found
  pub found-run : (P : S → X → Type 0) (at end : ℕ) (old mid new : List S) → at < end → end ≤ length old → HasFound P (take at old) old mid →
      HasFound P (from_to at end mid) mid new → HasFound P (take end old) old new
  found-run P at end old mid new order within (found, is, covers) (added, new_is, more) =
      let whole = sym (take-append-drop at (take end old)) ∙ ap (λ xs. xs ++ from_to at end old) (take-take at end old (omega (arith, order))) in
      found-more P (take at old) (from_to at end old) (take end old) old mid new added whole (found, is, covers) new_is
      (subst (λ xs. Cover (FromSome P xs) added) (slice-old at end old found mid is within) more)
