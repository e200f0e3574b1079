-- Lemmas of numbers that are appended, one state after another, and of what states name.
-- In the lemmas n and number are numbers of messages, ns numbers, d what stands for no state, and `names` gives the numbers that a state or a phase names.
use Rattle.std.specs.Prelude.{◌≡◌, ◌≢◌, ◌↔◌, ◌+◌, ◌<◌, ℕ, Option, Some, None, List, [], ◌∷◌, ◌++◌, Any, Contains, flat_map, take, length, option_to_list}
use Rattle.std.proofs.Common.{inl, inr, sym, ◌∙◌, ap, subst, append_assoc, get_or, refl, arith}
use Rattle.std.proofs.lemmas.List.{append-nil, take_more}
use Rattle.std.proofs.lemmas.List.Concat.{flat_map-append}
use Rattle.std.proofs.lemmas.List.Elements.{Contains-append_left, Contains-append_right, Contains-append_cases, Contains-get_or}
use Rattle.sip_machine.specs.Naming.{AppendsAll}
use Rattle.sip_machine.specs.Owes.{owes_names}
use Rattle.sip_machine.specs.Owing.{CodeOwing, at_rest, owing_names}
use Rattle.sip_states.specs.Naming.{MayName}
use Rattle.sip_machine.proofs.texts.TextLaws.{Contains-nil, Contains-cons_cases}

-- lists with the same members, joined to lists with the same members, have the same members
-- a and c have the same members, and so have b and d; n is a member
pub append_members : (a b c d : List ℕ) → ((n : ℕ) → Contains a n ↔ Contains c n) → ((n : ℕ) → Contains b n ↔ Contains d n) → (n : ℕ) → Contains (a ++ b) n ↔ Contains (c ++ d) n
append_members a b c d first second n = (
  λ h. elim (Contains-append_cases a b n h) [ inl x ↦ Contains-append_left c d n ((first n).0 x) | inr y ↦ Contains-append_right c d n ((second n).0 y) ],
  λ h. elim (Contains-append_cases c d n h) [ inl x ↦ Contains-append_left a b n ((first n).1 x) | inr y ↦ Contains-append_right a b n ((second n).1 y) ],
)

-- where the numbers of the first states, or sets, were appended, and then those of the next one, the numbers of one more were
pub appends_more : {S : Type 0} (names : S → List ℕ) (items : List S) (i : ℕ) (d : S) (old mid new : List ℕ) → i < length items → AppendsAll (flat_map names (take i items)) old mid
    → AppendsAll (names (get_or items i d)) mid new → AppendsAll (flat_map names (take (i + 1) items)) old new
appends_more names items i d old mid new low first second = (
  -- what was appended are both, one after the other; a number is in them if it is named by the first states or by the next one
  first.0 ++ second.0,
  second.1 ∙ ap (λ xs. xs ++ second.0) first.1 ∙ append_assoc old first.0 second.0,
  λ n. subst (λ ns. Contains (first.0 ++ second.0) n ↔ Contains ns n) (sym (ap (flat_map names) (take_more items i d low) ∙ flat_map-append names (take i items) (get_or items i d ∷ [])
      ∙ ap (λ ns. flat_map names (take i items) ++ ns) (append-nil (names (get_or items i d)))))
      (append_members first.0 second.0 (flat_map names (take i items)) (names (get_or items i d)) first.2 second.2 n),
)

-- where none of the first states has a property, and the next one has it not, none of these together has it
pub none_more : {X : Type 0} (P : X → Type 0) (xs : List X) (i : ℕ) (d : X) → i < length xs → ¬ Any P (take i xs) → ¬ P (get_or xs i d) → ¬ Any P (take (i + 1) xs)
none_more P xs i d low first more any =
    let x = any.1 in
    elim (Contains-append_cases (take i xs) (get_or xs i d ∷ []) x (subst (λ ys. Contains ys x) (take_more xs i d low) (any.0, any.2, any.3))) [
      | inl early ↦ first (early.0, x, early.1, early.2, any.4)
      | inr late ↦ elim (Contains-cons_cases (get_or xs i d) [] x late) [ inl same ↦ more (subst P (sym same) any.4) | inr none ↦ Contains-nil x none ]
    ]

-- a list of one message at most contains a number just where the message has this number
pub is_only : (message : Option ℕ) (number : ℕ) → Contains (option_to_list message) number ↔ (message ≡ Some number)
is_only None number = (λ has. absurd (Contains-nil number has), λ same. absurd (let never : None ≡ Some number = same in cc))
is_only (Some m) number = (
  λ has. elim (Contains-cons_cases m [] number has) [ inl same ↦ ap Some same | inr none ↦ absurd (Contains-nil number none) ],
  λ same. subst (λ o. Contains (option_to_list o) number) (sym same) (Contains-get_or (number ∷ []) 0 number (omega arith)),
)

-- a state that owes nothing may name the message of its phase alone
pub rest_may_name : {S : Type 0} (names : S → List ℕ) (x : CodeOwing S) (phase : S) (message : Option ℕ) (number : ℕ) → x ≡ at_rest phase → option_to_list message ≡ names phase
    → MayName names number x ↔ (message ≡ Some number)
rest_may_name names x phase message number is at =
    let same : option_to_list message ≡ names x.phase = at ∙ sym (ap (λ y. names y.phase) is) in (
      λ may. elim may [
        | inl has ↦ (is_only message number).0 (subst (λ ns. Contains ns number) (sym same) has)
        | inr owes ↦ absurd (owes (ap (λ y. y.owes) is))
      ],
      λ one. inl (subst (λ ns. Contains ns number) same ((is_only message number).1 one)),
    )

-- a state that is not at rest in its phase owes something
pub owes_something : {S : Type 0} (x : CodeOwing S) (phase : S) → phase ≡ x.phase → x ≢ at_rest phase → x.owes ≢ []
owes_something x phase is other nothing = other (subst (λ s. x ≡ at_rest s) (sym is) (ap (λ owes. record { phase = x.phase; owes = owes }) nothing))

-- numbers that were appended to nothing and left nothing are none
pub names_nothing : (numbers old new : List ℕ) → old ≡ [] → new ≡ [] → AppendsAll numbers old new → numbers ≡ []
names_nothing [] old new none still appends = refl
names_nothing (n ∷ ns) old new none still appends =
    let added : appends.0 ≡ [] = ap (λ xs. xs ++ appends.0) (sym none) ∙ sym appends.1 ∙ still in
    absurd (Contains-nil n (subst (λ xs. Contains xs n) added ((appends.2 n).1 (Contains-get_or (n ∷ ns) 0 n (omega arith)))))

-- What follows is of elements of lists that are joined.

-- what is in the list of an element is in the joined lists
-- x is the element, and y is in its list
pub Contains-flat_map : {X Y : Type 0} (f : X → List Y) (xs : List X) (x : X) (y : Y) → Contains xs x → Contains (f x) y → Contains (flat_map f xs) y
Contains-flat_map f [] x y among has = absurd (Contains-nil x among)
Contains-flat_map f (u ∷ xs) x y among has =
    elim (Contains-cons_cases u xs x among) [
      | inl same ↦ Contains-append_left (f u) (flat_map f xs) y (subst (λ v. Contains (f v) y) (sym same) has)
      | inr rest ↦ Contains-append_right (f u) (flat_map f xs) y (Contains-flat_map f xs x y rest has)
    ]

-- what is in the joined lists is in the list of some element
-- x is the element, and y is in its list
pub Contains-from_flat_map : {X Y : Type 0} (f : X → List Y) (xs : List X) (y : Y) → Contains (flat_map f xs) y → (x : X) × Contains xs x × Contains (f x) y
Contains-from_flat_map f [] y has = absurd (Contains-nil y has)
Contains-from_flat_map f (u ∷ xs) y has =
    elim (Contains-append_cases (f u) (flat_map f xs) y has) [
      | inl here ↦ (u, Contains-get_or (u ∷ xs) 0 u (omega arith), here)
      | inr later ↦ (let found = Contains-from_flat_map f xs y later in (found.0, Contains-append_right (u ∷ []) xs found.0 found.1, found.2))
    ]

-- a state that names a number may name it
pub names_so_may : {S : Type 0} (names : S → List ℕ) (x : CodeOwing S) (number : ℕ) → Contains (owing_names names x) number → MayName names number x
names_so_may names x number has =
    elim (Contains-append_cases (names x.phase) (owes_names x.owes) number has) [
      | inl here ↦ inl here
      | inr owed ↦ inr (λ nothing. Contains-nil number (subst (λ owes. Contains (owes_names owes) number) nothing owed))
    ]

-- a number that no state may name is named by none
pub may_not_name : {S : Type 0} (names : S → List ℕ) (xs : List (CodeOwing S)) (number : ℕ) → ¬ Any (MayName names number) xs → ¬ Contains (flat_map (owing_names names) xs) number
may_not_name names xs number none has =
    let found = Contains-from_flat_map (owing_names names) xs number has in
    let among = found.1 in
    none (among.0, found.0, among.1, among.2, names_so_may names found.0 number found.2)
