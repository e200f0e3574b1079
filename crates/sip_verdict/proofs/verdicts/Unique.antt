-- There is at most one verdict on an entry.
-- In the lemmas v and w are verdicts, n and k numbers of keys, and zs is what stands between two cuts of one list.
use Rattle.std.proofs.Common.{◌≡◌, ◌⊎◌, inl, inr, ◌+◌, ℕ, List, [], ◌∷◌, ◌++◌, length, Some, None, All, Contains, refl, sym, ap, ◌∙◌, subst, arith, length-append}
use Rattle.std.proofs.lemmas.List.Elements.{All-contains, Contains-append_right}
use Rattle.sip_standard.specs.declared.verdict.Verdict.{Verdict}
use Rattle.sip_standard.specs.declared.verdict.Verdict.TheVariants.{Legal, Malformed, Breach, Undecided, LogFault}
use Rattle.sip_standard.specs.Key.{KeyParts}
use Rattle.sip_standard.specs.Times.{Times}
use Rattle.sip_standard.specs.Observation.{Observation}
use Rattle.sip_standard.specs.VerdictOf.{keys_in, RunsOver, IsWideAt, IsFirstKey, HasTrouble, IsFine}
use Rattle.sip_verdict.specs.LegalLog.{IsGood}
use Rattle.sip_verdict.proofs.keys.Splitting.{split_compare}

-- a list contains the element in its middle
pub Contains-middle : {A : Type 0} (xs ys : List A) (x : A) → Contains (xs ++ x ∷ ys) x
Contains-middle xs ys x = Contains-append_right xs (x ∷ ys) x (0, omega arith, refl)

-- P holds of what stands in the middle of a list of which it holds
pub All-middle : {A : Type 0} (P : A → Type 0) (xs ys : List A) (x : A) → All P (xs ++ x ∷ ys) → P x
All-middle P xs ys x h = All-contains P (xs ++ x ∷ ys) x h (Contains-middle xs ys x)

-- two numbers of the first key of which P holds are the same
pub first_is_one : (P : KeyParts → Type 0) (keys : List KeyParts) (n k : ℕ) → IsFirstKey P keys n → IsFirstKey P keys k → n ≡ k
first_is_one P keys n k (before, key, rest, is, holds, earlier, counts) (front, first, more, are, also, none, number) =
    go (split_compare before rest front more key first (sym is ∙ are))
  where
    -- the two numbers are the same, since the two first keys are
    go : ((before ≡ front) × (key ≡ first)) ⊎ (((zs : List KeyParts) × (front ≡ before ++ key ∷ zs)) ⊎ ((zs : List KeyParts) × (before ≡ front ++ first ∷ zs))) → n ≡ k
    go (inl h) = counts ∙ ap (λ xs. length xs + 1) h.0 ∙ sym number
    -- the one cannot come before the other, of which P would then hold before its first key
    go (inr (inl h)) = absurd (All-middle (λ x. ¬ (P x)) before h.0 key (subst (All (λ x. ¬ (P x))) h.1 none) holds)
    go (inr (inr h)) = absurd (All-middle (λ x. ¬ (P x)) front h.0 first (subst (All (λ x. ¬ (P x))) h.1 earlier) also)

-- where P holds of some key, it is not false of all keys
pub first_not_all : (P : KeyParts → Type 0) (keys : List KeyParts) (n : ℕ) → IsFirstKey P keys n → All (λ k. ¬ (P k)) keys → ⊥
first_not_all P keys n (before, key, rest, is, holds, earlier, counts) h = All-middle (λ k. ¬ (P k)) before rest key (subst (All (λ k. ¬ (P k))) is h) holds

-- where a key has no run, not all keys have one
pub first_not_run : (P : KeyParts → Type 0) (keys : List KeyParts) (n : ℕ) → IsFirstKey (λ k. ¬ (P k)) keys n → All P keys → ⊥
first_not_run P keys n (before, key, rest, is, none, earlier, counts) h = none (All-middle P before rest key (subst (All P) is h))

-- What follows is of one entry e after the entries of `front`, by the times p.
module _ (p : Times) (front : List (Observation KeyParts)) (e : Observation KeyParts) where
  -- the keys of the entries and e
  abbrev keys : List KeyParts
  keys = keys_in (front ++ e ∷ [])

  -- the key has a run over the entries and e
  abbrev Runs : KeyParts → Type 0
  Runs key = RunsOver p (front ++ e ∷ []) key

  -- the key has too many last states after e
  abbrev Wide : KeyParts → Type 0
  Wide key = IsWideAt p front e key

  -- an entry that is in no trouble has no verdict of trouble
  -- only a breach, what is undecided and the fault of a message are verdicts of trouble, and each denies what an entry in no trouble has
  pub fine_no_trouble : (v : Verdict) → IsFine p front e → HasTrouble p front e v → ⊥
  fine_no_trouble (Legal n t) f h = h
  fine_no_trouble (Malformed n fault) f h = let a : None ≡ Some fault = sym f.formed ∙ h.1 in cc
  fine_no_trouble (Breach n t) f h = first_not_run Runs keys t h.2 f.runs
  fine_no_trouble (Undecided n t) f h = first_not_all Wide keys t h.3 f.narrow
  fine_no_trouble (LogFault n reason) f h = h

  -- two verdicts of trouble at one entry are the same
  pub trouble_is_one : (v w : Verdict) → HasTrouble p front e v → HasTrouble p front e w → v ≡ w
  -- the fault of a message is the one that is observed, and where there is one, neither of the others is told
  trouble_is_one (Malformed n f) (Malformed k g) a b = let s : Some f ≡ Some g = sym a.1 ∙ b.1 in let s' : n ≡ k = a.0 ∙ sym b.0 in cc
  trouble_is_one (Malformed n f) (Breach k t) a b = let s : Some f ≡ None = sym a.1 ∙ b.1 in cc
  trouble_is_one (Malformed n f) (Undecided k t) a b = let s : Some f ≡ None = sym a.1 ∙ b.1 in cc
  -- a breach means that no message has a fault, and names the first key without a run
  trouble_is_one (Breach n t) (Malformed k g) a b = let s : None ≡ Some g = sym a.1 ∙ b.1 in cc
  trouble_is_one (Breach n t) (Breach k u) a b = let s : t ≡ u = first_is_one (λ key. ¬ (Runs key)) keys t u a.2 b.2 in let s' : n ≡ k = a.0 ∙ sym b.0 in cc
  trouble_is_one (Breach n t) (Undecided k u) a b = absurd (first_not_run Runs keys t a.2 b.2)
  -- undecided means that each key has a run, and names the first key that is too wide
  trouble_is_one (Undecided n t) (Malformed k g) a b = let s : None ≡ Some g = sym a.1 ∙ b.1 in cc
  trouble_is_one (Undecided n t) (Breach k u) a b = absurd (first_not_run Runs keys u b.2 a.2)
  trouble_is_one (Undecided n t) (Undecided k u) a b = let s : t ≡ u = first_is_one Wide keys t u a.3 b.3 in let s' : n ≡ k = a.0 ∙ sym b.0 in cc
  -- no verdict on a whole log tells of trouble
  trouble_is_one (Legal n t) w a b = absurd a
  trouble_is_one (LogFault n r) w a b = absurd a
  trouble_is_one v (Legal n t) a b = absurd b
  trouble_is_one v (LogFault n r) a b = absurd b

-- What follows is of whole logs by the times p.
module _ (p : Times) where
  -- the empty log has no entry in trouble
  -- an empty list is no list with an entry in it
  pub good-nil : IsGood p []
  good-nil [] e rest is = cc
  good-nil (f ∷ front) e rest is = cc

  -- where no entry is in trouble, and e after them is in none, no entry with e is in trouble
  pub good-push : (es : List (Observation KeyParts)) (e : Observation KeyParts) → IsGood p es → IsFine p es e → IsGood p (es ++ e ∷ [])
  good-push es e good fine front f rest is =
      go (split_compare es [] front rest e f is)
    where
      -- the entry f is fine after those before it: it is the last one, or an earlier one
      go : ((es ≡ front) × (e ≡ f)) ⊎ (((zs : List (Observation KeyParts)) × (front ≡ es ++ e ∷ zs)) ⊎ ((zs : List (Observation KeyParts)) × (es ≡ front ++ f ∷ zs))) → IsFine p front f
      go (inl h) = subst (λ x. IsFine p front x) h.1 (subst (λ x. IsFine p x e) h.0 fine)
      -- no entry comes after the last one
      go (inr (inl h)) = absurd (omega (arith, simp length-append at (ap length is), simp length-append at (ap length h.1)))
      go (inr (inr h)) = good front f h.0 h.1
