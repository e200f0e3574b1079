-- Laws of states that hold numbers of a book: what they stand for stays when the book changes elsewhere.
use Rattle.std.specs.Prelude.{◌≡◌, ℕ, List, [], ◌∷◌, ◌++◌, All, Contains, map}
use Rattle.std.proofs.Common.{refl, sym}
use Rattle.std.proofs.lemmas.List.Elements.{All-head, All-tail, All-contains, All-weaker, Contains-get_or}
use Rattle.sip_machine.specs.Texts.{Texts, Keeps, text_of}
use Rattle.sip_machine.proofs.texts.TextLaws.{Keeps-grow, text_of-grow}
use Rattle.sip_machine.specs.Rules.{Knows, StandFor}

-- for each number that x names, the books a and b have the same bytes
abbrev pub AgreeOn : {S : Type 0} → (S → List ℕ) → Texts → Texts → S → Type 0
AgreeOn names a b x = (n : ℕ) → Contains (names x) n → Keeps b n × (text_of a n ≡ text_of b n)

-- states stand for the same beside two books that have the same bytes for what the states name
pub map-seen : {X S : Type 0} (names : S → List ℕ) (seen : Texts → S → X) →
    ((a b : Texts) (x : S) → ((n : ℕ) → Contains (names x) n → text_of a n ≡ text_of b n) → seen a x ≡ seen b x) →
    (a b : Texts) (xs : List S) → All (AgreeOn names a b) xs → map (seen a) xs ≡ map (seen b) xs
map-seen names seen by_names a b [] agree = refl
map-seen names seen by_names a b (x ∷ xs) agree =
    let here = All-head (AgreeOn names a b) x xs agree in
    rw (by_names a b x (λ n has. (here n has).1), map-seen names seen by_names a b xs (All-tail (AgreeOn names a b) x xs agree))

-- states that stand for those of which P holds beside one book do so beside another that has the same bytes for what they name
pub StandFor-book : {X S : Type 0} (names : S → List ℕ) (InRange : S → Type 0) (seen : Texts → S → X) →
    ((a b : Texts) (x : S) → ((n : ℕ) → Contains (names x) n → text_of a n ≡ text_of b n) → seen a x ≡ seen b x) →
    (a b : Texts) (P : X → Type 0) (xs : List S) → All (AgreeOn names a b) xs →
    StandFor names InRange seen a P xs → StandFor names InRange seen b P xs
StandFor-book names InRange seen by_names a b P xs agree stand =
    -- the states stand for the same beside both books
    let same : map (seen b) xs ≡ map (seen a) xs = sym (map-seen names seen by_names a b xs agree) in
    record {
      members = rw same stand.members;
      distinct = rw same stand.distinct;
      known = All-weaker (AgreeOn names a b) (Knows names b) (λ x agrees k d low. (agrees _ (Contains-get_or (names x) k d low)).0) xs agree;
      in_range = stand.in_range;
    }

-- a book that has grown has the same bytes as before for what a state names that knew its messages
pub AgreeOn-grow : {S : Type 0} (names : S → List ℕ) (texts : Texts) (number : ℕ) (bytes : List ℕ) (x : S) →
    Knows names texts x → AgreeOn names texts (texts ++ (number, bytes) ∷ []) x
AgreeOn-grow names texts number bytes x known n has =
    let keeps : Keeps texts n = All-contains (Keeps texts) (names x) n known has in
    (Keeps-grow texts number bytes n keeps, sym (text_of-grow texts number bytes n keeps))

-- states that stand for those of which P holds do so beside the book that has grown
pub StandFor-grow : {X S : Type 0} (names : S → List ℕ) (InRange : S → Type 0) (seen : Texts → S → X) →
    ((a b : Texts) (x : S) → ((n : ℕ) → Contains (names x) n → text_of a n ≡ text_of b n) → seen a x ≡ seen b x) →
    (texts : Texts) (number : ℕ) (bytes : List ℕ) (P : X → Type 0) (xs : List S) →
    StandFor names InRange seen texts P xs → StandFor names InRange seen (texts ++ (number, bytes) ∷ []) P xs
StandFor-grow names InRange seen by_names texts number bytes P xs stand =
    StandFor-book names InRange seen by_names texts (texts ++ (number, bytes) ∷ []) P xs
    (All-weaker (Knows names texts) (AgreeOn names texts (texts ++ (number, bytes) ∷ [])) (AgreeOn-grow names texts number bytes) xs stand.known) stand
