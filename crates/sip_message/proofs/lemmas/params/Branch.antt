-- The branch of parameters, which are read one after another.
-- In the lemmas ps are parameters, qs those after the first, u their text, and a, b and c are branches, if there are any.
-- `BranchFront` is the parameters at the front with their branch, and what is left; `BranchOf` is the branch that one parameter gives.
use Rattle.std.proofs.Common.{◌≡◌, ◌↔◌, ℕ, ◌-◌, List, [], ◌∷◌, Option, Some, None, Bor, option_copied, refl, sym, ap, ◌∙◌, subst}
use Rattle.std.specs.Option.{option_or}
use Rattle.sip_message.specs.inner.ParamFronts.{Param, ParamFront, ParamsFront, AllParamsFront}
use Rattle.sip_message.specs.inner.ViaFronts.{BranchOf, BranchFront, IsBranch}
use Rattle.sip_message.proofs.lemmas.front.Cuts.{ReadAs, NotRead}
use Rattle.sip_message.proofs.lemmas.front.OneWay.{AtMostOne, read-one}
use Rattle.sip_message.proofs.lemmas.params.Reading.{one-all_params}

-- a parameter has one branch at most
one-branch_of : (p : Param) (a b : Option (List ℕ)) → BranchOf p a → BranchOf p b → a ≡ b
-- the parameter has a branch by neither reading
one-branch_of (name, value) None None x y = refl
-- it is named branch by one reading, and has another name by the other
one-branch_of (name, value) None (Some b) x y = absurd (x y.0)
one-branch_of (name, value) (Some a) None x y = absurd (y x.0)
-- the branch is the value of the parameter
one-branch_of (name, value) (Some a) (Some b) x y = sym x.2 ∙ y.2

-- parameters have one branch
pub one-is_branch : (ps : List Param) → AtMostOne (IsBranch ps)
-- of no parameters none counts
one-is_branch [] a b a_is b_is = a_is ∙ sym b_is
-- x and y are the branch of the first parameter and that of the others, by the two readings
one-is_branch (p ∷ ps) a b x y =
    x.4 ∙ ap (λ o. option_or o x.2) (one-branch_of p x.0 y.0 x.1 y.1) ∙ ap (option_or y.0) (one-is_branch ps x.2 y.2 x.3 y.3) ∙ sym y.4

-- the branch of parameters is read in one way
pub one-branch : (text : List ℕ) → AtMostOne (BranchFront text)
-- b and d are the branches of the parameters ps and qs, and r and s what is left, by the two readings
one-branch text (b, r) (d, s) (ps, all, is) (qs, all_too, is_too) =
    let same : ◌≡◌ {A = List Param × List ℕ} (ps, r) (qs, s) = one-all_params text (ps, r) (qs, s) all all_too in
    let params : ps ≡ qs = ap (λ x. x.0) same in
    ap (λ x. (x, r)) (one-is_branch qs b d (subst (λ x. IsBranch x b) params is) is_too) ∙ ap (λ x. (d, x.1)) same

-- where `first` is the branch that was found before the rest, the branch is it, or else that of the rest
abbrev pub After : Option (List ℕ) → List ℕ → Option (List ℕ) × List ℕ → Type 0
After first rest (branch, left) = (later : Option (List ℕ)) × BranchFront rest (later, left) × (branch ≡ option_or first later)

-- the branch of the text is `first`, or else that of the rest which is still to be read
abbrev pub Decides : List ℕ → List ℕ → Option (List ℕ) → Type 0
Decides text rest first = (x : Option (List ℕ) × List ℕ) → BranchFront text x ↔ After first rest x

-- the first of three options is the same, whichever two are taken first
pub or-assoc : (a b c : Option (List ℕ)) → option_or a (option_or b c) ≡ option_or (option_or a b) c
-- without a first one it is the first of the others; else it is v
or-assoc None b c = refl
or-assoc (Some v) b c = refl

-- where a parameter is read of the rest, all parameters of the rest are it and those after it
behind-one : (rest more left : List ℕ) (p : Param) (ps : List Param) → ReadAs (ParamFront rest) (p, more) → AllParamsFront rest (ps, left) → (qs : List Param) × (ps ≡ p ∷ qs) × AllParamsFront more (qs, left)
-- all parameters would be none, though one is read
behind-one rest more left p [] read (is, ends) = absurd (ends (p, more) (subst (λ t. ParamFront t (p, more)) (sym is) read.0))
-- the first of them is the one that is read
behind-one rest more left p (q ∷ qs) read ((next, one, later), ends) =
    let same = read.1 (q, next) one in
    (qs, ap (λ x. x.0 ∷ qs) same, (subst (λ t. ParamsFront t qs left) (ap (λ x. x.1) same) later, ends))

-- where a further parameter is read, the branch of the text is the one found before, that of the parameter, or that of the rest after it
pub decides-more : (text rest more : List ℕ) (p : Param) (first found : Option (List ℕ)) → ReadAs (ParamFront rest) (p, more) → BranchOf p found → Decides text rest first → Decides text more (option_or first found)
decides-more text rest more p first found read is so x = ((λ whole. to x ((so x).0 whole)), (λ after. (so x).1 (from x after)))
  where
    -- what is read of the rest is read of the text, after the parameters so far
    to : (y : Option (List ℕ) × List ℕ) → After first rest y → After (option_or first found) more y
    to (b, left) (later, (ps, all, branch), b_is) =
        -- `others` are the parameters after the one that is read, and `cons` the branch of it and of these
        let others = behind-one rest more left p ps read all in
        let cons : IsBranch (p ∷ others.0) later = subst (λ qs. IsBranch qs later) others.1 branch in
        (cons.2, (others.0, others.2, cons.3), b_is ∙ ap (option_or first) (cons.4 ∙ ap (λ o. option_or o cons.2) (one-branch_of p cons.0 found cons.1 is)) ∙ or-assoc first found cons.2)

    -- what is read of the rest is what is read of the text, with the parameter before it
    from : (y : Option (List ℕ) × List ℕ) → After (option_or first found) more y → After first rest y
    from (b, left) (later, (ps, all, branch), b_is) =
        (option_or found later, (p ∷ ps, ((more, read.0, all.0), all.1), (found, is, later, branch, refl)), b_is ∙ sym (or-assoc first found later))

-- where a parameter named branch has no token for value, the text has no parameters of a Via
pub decides-not : (text rest more : List ℕ) (p : Param) (first : Option (List ℕ)) → ReadAs (ParamFront rest) (p, more) → NotRead (BranchOf p) → Decides text rest first → NotRead (BranchFront text)
decides-not text rest more p first read none so (b, left) is =
    -- `after` is the branch of the rest with its parameters, of which p is the first: p would have a branch, or another name
    let after = (so (b, left)).0 is in
    let others = behind-one rest more left p after.1.0 read after.1.1 in
    let cons : IsBranch (p ∷ others.0) after.0 = subst (λ qs. IsBranch qs after.0) others.1 after.1.2 in
    none cons.0 cons.1

-- where no further parameter is read, the branch of the text is the one that was found
pub decides-all : (text rest : List ℕ) (first : Option (List ℕ)) → NotRead (ParamFront rest) → Decides text rest first → ReadAs (BranchFront text) (first, rest)
decides-all text rest first none so =
    read-one (BranchFront text) (first, rest) (one-branch text) ((so (first, rest)).1 (None, ([], (refl, none), refl), or-none first))
  where
    -- an option is the same where nothing is found after it
    or-none : (o : Option (List ℕ)) → o ≡ option_or o None
    -- the option is None, or it has v
    or-none None = refl
    or-none (Some v) = refl

-- to copy the first of two values that is there is to take the first of their copies
pub copied-or : (a b : Option (Bor (List ℕ))) → option_copied (option_or a b) ≡ option_or (option_copied a) (option_copied b)
-- without a first value it is the second
copied-or None b = refl
copied-or (Some v) b = refl
