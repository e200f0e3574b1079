-- What parameters of a Via say is what their names and values give.
-- Of a parameter m is the ";" with its blanks and t what follows: u is the name, e the "=" and d the value, and w both of these; os are the branches that
-- parameters say.
use Rattle.std.proofs.Common.{◌≡◌, ℕ, List, [], ◌∷◌, ◌++◌, Option, Some, None, inl, inr, refl, sym, ap, ◌∙◌, subst}
use Rattle.std.specs.Option.{option_or}
use Rattle.std.proofs.lemmas.Option.{none-some, same_Some}
use Rattle.std.proofs.lemmas.List.{append-nil}
use Rattle.sip_standard.specs.Text.{◌then◌}
use Rattle.sip_standard.specs.Case.{folded}
use Rattle.sip_standard.specs.Chars.{EachSays}
use Rattle.sip_standard.specs.Profile.{Token}
use Rattle.sip_standard.specs.Via.{GenValue, ParamSays, first_some}
use Rattle.sip_text.specs.Bytes.{semicolon}
use Rattle.sip_message.specs.inner.Marks.{Mark}
use Rattle.sip_message.specs.inner.ParamFronts.{Param, ParamText, ParamsText}
use Rattle.sip_message.specs.inner.ViaFronts.{BranchOf, IsBranch}

-- ";" and a parameter that gives a branch, or none, say it
pub param-said : (p : Param) (o : Option (List ℕ)) (x : List ℕ) → BranchOf p o → (Mark semicolon then ParamText p) x → (Mark semicolon then ParamSays o) x
-- a branch has a value
param-said (name, None) (Some b) x (same, token, value_is) is = absurd (none-some b value_is)
param-said (name, Some v) (Some b) x (same, token, value_is) (m, t, mark, (named, kind, (u, w, u_is, (e, d, equal, d_is, w_is), t_is)), whole) =
    let b_is : b ≡ d = sym (d_is ∙ same_Some v b value_is) in
    (m, t, mark, (u, w, (subst Token (sym u_is) named, ap folded u_is ∙ same), (e, d, equal, (subst Token b_is token, b_is), w_is), t_is), whole)
-- a parameter of another name has a value, or none
param-said (name, None) None x differs (m, t, mark, (named, t_is), whole) =
    (m, t, mark, (t, [], (subst Token (sym t_is) named, λ same. differs (ap folded (sym t_is) ∙ same)), inl refl, sym (append-nil t)), whole)
param-said (name, Some v) None x differs (m, t, mark, (named, kind, (u, w, u_is, (e, d, equal, d_is, w_is), t_is)), whole) =
    (m, t, mark, (u, w, (subst Token (sym u_is) named, λ same. differs (ap folded (sym u_is) ∙ same)), inr (e, d, equal, subst GenValue (sym d_is) kind, w_is), t_is), whole)

-- ";" and a parameter that say a branch, or none, have a name and a value that give it
said-param : (o : Option (List ℕ)) (x : List ℕ) → (Mark semicolon then ParamSays o) x → (p : Param) × BranchOf p o × (Mark semicolon then ParamText p) x
said-param (Some b) x (m, t, mark, (u, w, (named, any), (e, d, equal, (token, b_is), w_is), t_is), whole) =
    let word = subst Token (sym b_is) token in
    ((u, Some b), (any, word, refl), (m, t, mark, (named, inl word, (u, w, refl, (e, d, equal, sym b_is, w_is), t_is)), whole))
said-param None x (m, t, mark, (u, w, (named, other), inl none, t_is), whole) =
    ((u, None), other, (m, t, mark, (named, t_is ∙ ap (λ z. u ++ z) none ∙ append-nil u), whole))
said-param None x (m, t, mark, (u, w, (named, other), inr (e, d, equal, kind, w_is), t_is), whole) =
    ((u, Some d), other, (m, t, mark, (named, kind, (u, w, refl, (e, d, equal, refl, w_is), t_is)), whole))

-- the first of some options is the first one, or else the first of the others
pub first-or : (o : Option (List ℕ)) (os : List (Option (List ℕ))) → option_or o (first_some os) ≡ first_some (o ∷ os)
first-or None os = refl
first-or (Some v) os = refl

-- parameters of which a branch counts say it: it is the first that one of them says
pub params-said : (ps : List Param) (branch : Option (List ℕ)) (text : List ℕ) → ParamsText ps text → IsBranch ps branch → (os : List (Option (List ℕ))) × (branch ≡ first_some os) × EachSays (λ o. Mark semicolon then ParamSays o) os text
-- of no parameters no branch counts
params-said [] branch text none branch_is = ([], branch_is, none)
-- the first parameter gives `found`, and the others give `later`
params-said (p ∷ ps) branch text (u, y, one, more, whole) (found, gives, later, others, branch_is) =
    let rest = params-said ps later y more others in
    (found ∷ rest.0, branch_is ∙ ap (option_or found) rest.1 ∙ first-or found rest.0, (u, y, param-said p found u gives one, rest.2, whole))

-- parameters that say branches have names and values, and the first branch that one of them says counts
pub said-params : (os : List (Option (List ℕ))) (text : List ℕ) → EachSays (λ o. Mark semicolon then ParamSays o) os text → (ps : List Param) × ParamsText ps text × IsBranch ps (first_some os)
-- nothing is said: there are no parameters, and no branch counts
said-params [] text none = ([], none, refl)
said-params (o ∷ os) text (u, y, one, more, whole) =
    let p = said-param o u one in
    let rest = said-params os y more in
    (p.0 ∷ rest.0, (u, y, p.2, rest.1, whole), (o, p.1, first_some os, rest.2, sym (first-or o os)))
