-- Laws of what a book holds: what was kept stays when a message is added.
use Prim.Native.Nat.{zero, suc}
use Rattle.std.specs.Prelude.{◌≡◌, ◌≢◌, ◌<◌, ◌⊎◌, ℕ, List, [], ◌∷◌, ◌++◌, All, AllPairs, Contains, map, length}
use Rattle.std.proofs.Common.{inl, inr, refl, sym, ◌∙◌, ap, arith, get_or, eq-eqb}
use Rattle.std.proofs.lemmas.Bool.Decides.{nat_tests, eqb_tells}
use Rattle.std.proofs.lemmas.Bool.{ne_eqb}
use Rattle.std.proofs.lemmas.List.{map-append, get_or-map, length-map}
use Rattle.std.proofs.lemmas.List.Elements.{All-head, All-tail, Contains-append_left, Contains-append_right, Contains-append_cases, Contains-push, Contains-push_cases, Contains-get_or, All-contains, All-map}
use Rattle.std.proofs.lemmas.List.Quantifiers.{all_pairs_push}
use Rattle.sip_machine.specs.Texts.{Texts, IsBook, Keeps, text_of}

-- no element is in the empty list
pub Contains-nil : {X : Type 0} (x : X) → Contains [] x → ⊥
Contains-nil x h = omega arith

-- an element is the first one or one of the rest
pub Contains-cons_cases : {X : Type 0} (y : X) (xs : List X) (x : X) → Contains (y ∷ xs) x → (y ≡ x) ⊎ Contains xs x
Contains-cons_cases y xs x h = grind (arith, nat_tests, Contains-append_cases, Contains-push_cases, Contains-nil)

-- where the first message has the number, its bytes are those of the number
pub text_of-same : (number : ℕ) (bytes : List ℕ) (texts : Texts) (n : ℕ) → number ≡ n →
    text_of ((number, bytes) ∷ texts) n ≡ bytes
text_of-same number bytes texts n e = rw (eq-eqb number n e)

-- where the first message has another number, the bytes of the number are those in the rest
pub text_of-other : (number : ℕ) (bytes : List ℕ) (texts : Texts) (n : ℕ) → number ≢ n →
    text_of ((number, bytes) ∷ texts) n ≡ text_of texts n
text_of-other number bytes texts n e = rw (ne_eqb number n e)

-- the bytes of the number of the message at an index are its bytes
pub text_of-at : (texts : Texts) (i : ℕ) (x : ℕ × List ℕ) → AllPairs (λ a b. a.0 < b.0) texts → i < length texts →
    x ≡ get_or texts i x → text_of texts x.0 ≡ x.1
text_of-at [] i x rising low e = absurd (omega arith)
-- the message is the first one
text_of-at (kept ∷ texts) zero x rising low e = text_of-same kept.0 kept.1 texts x.0 (ap (λ k. k.0) (sym e)) ∙ ap (λ k. k.1) (sym e)
-- the message comes later, and so under a greater number than the first
text_of-at (kept ∷ texts) (suc i) x rising low e =
    let within : i < length texts = omega arith in
    let lower : kept.0 < x.0 = rw e (rising 0 (suc i) x (omega arith) low) in
    text_of-other kept.0 kept.1 texts x.0 (omega arith) ∙ text_of-at texts i x (λ j k d lt end. rising (suc j) (suc k) d (omega arith) (omega arith)) within e

-- the number of a message at an index is kept
pub Keeps-at : (texts : Texts) (i : ℕ) (x : ℕ × List ℕ) → i < length texts → x ≡ get_or texts i x → Keeps texts x.0
Keeps-at texts i x low e = (i, rw length-map low, get_or-map (λ kept. kept.0) texts i x x.0 low ∙ ap (λ k. k.0) (sym e))

-- where no message has the bytes, no number stands for them
pub text_of-none : (texts : Texts) (bytes : List ℕ) → All (λ kept. kept.1 ≢ bytes) texts → (n : ℕ) → Keeps texts n →
    text_of texts n ≢ bytes
text_of-none [] bytes none n keeps e = Contains-nil n keeps
text_of-none (kept ∷ texts) bytes none n keeps e =
    elim (eqb_tells kept.0 n) [
      -- the number is that of the first message, or of a later one
      | inl same ↦ All-head (λ k. k.1 ≢ bytes) kept texts none (sym (text_of-same kept.0 kept.1 texts n same.1) ∙ e)
      | inr other ↦
          elim (Contains-cons_cases kept.0 (map (λ k. k.0) texts) n keeps) [
            | inl same ↦ other.1 same
            | inr rest ↦ text_of-none texts bytes (All-tail (λ k. k.1 ≢ bytes) kept texts none) n rest (sym (text_of-other kept.0 kept.1 texts n other.1) ∙ e)
          ]
    ]

-- the numbers of a book that has grown are those that it had, and the new one
pub numbers-grow : (texts : Texts) (number : ℕ) (bytes : List ℕ) →
    map (λ k. k.0) (texts ++ (number, bytes) ∷ []) ≡ map (λ k. k.0) texts ++ number ∷ []
numbers-grow texts number bytes = map-append (λ k. k.0) texts ((number, bytes) ∷ [])

-- a number that was kept is kept in the book that has grown
pub Keeps-grow : (texts : Texts) (number : ℕ) (bytes : List ℕ) (n : ℕ) → Keeps texts n →
    Keeps (texts ++ (number, bytes) ∷ []) n
Keeps-grow texts number bytes n keeps = rw numbers-grow (Contains-append_left (map (λ k. k.0) texts) (number ∷ []) n keeps)

-- the number of the added message is kept
pub Keeps-added : (texts : Texts) (number : ℕ) (bytes : List ℕ) → Keeps (texts ++ (number, bytes) ∷ []) number
Keeps-added texts number bytes = rw numbers-grow (Contains-push (map (λ k. k.0) texts) number)

-- a number that is kept in the book that has grown was kept, or is that of the added message
pub Keeps-grow_cases : (texts : Texts) (number : ℕ) (bytes : List ℕ) (n : ℕ) →
    Keeps (texts ++ (number, bytes) ∷ []) n → Keeps texts n ⊎ (number ≡ n)
Keeps-grow_cases texts number bytes n keeps = Contains-push_cases (map (λ k. k.0) texts) number n (rw numbers-grow at keeps)

-- a number that was kept has the same bytes in the book that has grown
pub text_of-grow : (texts : Texts) (number : ℕ) (bytes : List ℕ) (n : ℕ) → Keeps texts n →
    text_of (texts ++ (number, bytes) ∷ []) n ≡ text_of texts n
text_of-grow [] number bytes n keeps = absurd (Contains-nil n keeps)
text_of-grow (kept ∷ texts) number bytes n keeps =
    elim (eqb_tells kept.0 n) [
      -- the number is that of the first message, or of a later one
      | inl same ↦ text_of-same kept.0 kept.1 (texts ++ (number, bytes) ∷ []) n same.1 ∙ sym (text_of-same kept.0 kept.1 texts n same.1)
      | inr other ↦
          elim (Contains-cons_cases kept.0 (map (λ k. k.0) texts) n keeps) [
            | inl same ↦ absurd (other.1 same)
            | inr rest ↦
                -- a later message has the number, and its bytes stay by the lemma itself
                text_of-other kept.0 kept.1 (texts ++ (number, bytes) ∷ []) n other.1
                ∙ text_of-grow texts number bytes n rest
                ∙ sym (text_of-other kept.0 kept.1 texts n other.1)
          ]
    ]

-- where a number is above all that are kept, it has the bytes that are added under it
pub text_of-added : (texts : Texts) (number : ℕ) (bytes : List ℕ) → ((n : ℕ) → Keeps texts n → n < number) →
    text_of (texts ++ (number, bytes) ∷ []) number ≡ bytes
text_of-added [] number bytes above = text_of-same number bytes [] number refl
text_of-added (kept ∷ texts) number bytes above =
    -- the first message has a lower number, so the new number is looked for among the others
    let low : kept.0 < number = above kept.0 (Keeps-at (kept ∷ texts) 0 kept (omega arith) refl) in
    text_of-other kept.0 kept.1 (texts ++ (number, bytes) ∷ []) number (omega arith)
    ∙ text_of-added texts number bytes (λ n keeps. above n (Contains-append_right (kept.0 ∷ []) (map (λ k. k.0) texts) n keeps))

-- a book stays one when it gains other bytes under a higher number
pub IsBook-grow : (texts : Texts) (number : ℕ) (bytes : List ℕ) → IsBook texts →
    ((n : ℕ) → Keeps texts n → n < number) → ((n : ℕ) → Keeps texts n → text_of texts n ≢ bytes) →
    IsBook (texts ++ (number, bytes) ∷ [])
IsBook-grow texts number bytes book above other =
    -- the old messages keep their bytes, and the new one has its own
    let kept_is : (n : ℕ) → Keeps texts n → text_of (texts ++ (number, bytes) ∷ []) n ≡ text_of texts n = text_of-grow texts number bytes in
    let added_is : text_of (texts ++ (number, bytes) ∷ []) number ≡ bytes = text_of-added texts number bytes above in
    record {
      -- the numbers of the old messages rise, and the new one is above them all
      rising = all_pairs_push (λ a b. a.0 < b.0) texts (number, bytes) book.rising
          (λ k d low. let at = Contains-get_or texts k d low in above (get_or texts k d).0 (Keeps-at texts at.0 (get_or texts k d) at.1 (sym at.2)));
      -- two old numbers, an old one and the new one, or the new one twice
      apart = λ a b keeps_a keeps_b e. elim (Keeps-grow_cases texts number bytes a keeps_a) [
        | inl old_a ↦ elim (Keeps-grow_cases texts number bytes b keeps_b) [
          | inl old_b ↦ book.apart a b old_a old_b (sym (kept_is a old_a) ∙ e ∙ kept_is b old_b)
          | inr new_b ↦ absurd (other a old_a (sym (kept_is a old_a) ∙ e ∙ ap (text_of (texts ++ (number, bytes) ∷ [])) (sym new_b) ∙ added_is))
        ]
        -- the first number is the new one
        | inr new_a ↦ elim (Keeps-grow_cases texts number bytes b keeps_b) [
          | inl old_b ↦ absurd (other b old_b (sym (kept_is b old_b) ∙ sym e ∙ ap (text_of (texts ++ (number, bytes) ∷ [])) (sym new_a) ∙ added_is))
          | inr new_b ↦ sym new_a ∙ new_b
        ]
      ];
    }

-- the number of the code's message at an index is kept, and has its bytes
-- `text` gives the number and the bytes of a message of the code, and k is the message at the index i
pub text_of-kept : {K : Type 0} (text : K → ℕ × List ℕ) (kept : List K) (i : ℕ) (k : K) →
    AllPairs (λ a b. a.0 < b.0) (map text kept) → i < length kept → k ≡ get_or kept i k →
    Keeps (map text kept) (text k).0 × (text_of (map text kept) (text k).0 ≡ (text k).1)
text_of-kept text kept i k rising low e =
    let within : i < length (map text kept) = rw length-map low in
    let at : text k ≡ get_or (map text kept) i (text k) = ap text e ∙ sym (get_or-map text kept i k (text k) low) in
    (Keeps-at (map text kept) i (text k) within at, text_of-at (map text kept) i (text k) rising within at)

-- a number that no message has is not kept
pub Keeps-none : (texts : Texts) (n : ℕ) → All (λ kept. kept.0 ≢ n) texts → Keeps texts n → ⊥
Keeps-none texts n none keeps = All-contains (λ number. number ≢ n) (map (λ k. k.0) texts) n (All-map (λ number. number ≢ n) (λ k. k.0) texts none) keeps refl
