-- How the name of a field line is read: a token, SP and HTAB, and a colon.
use Rattle.std.proofs.Common.{◌≡◌, ℕ, Bool, true, false, cond, List, [], ◌∷◌, ◌++◌, Some, None, refl, sym, ap, ◌∙◌}
use Rattle.std.proofs.lemmas.Option.{none-some}
use Rattle.sip_standard.specs.Text.{One, Many}
use Rattle.sip_text.specs.Bytes.{colon}
use Rattle.sip_text.specs.inner.Blanks.{is_wsp}
use Rattle.sip_text.specs.inner.Cut.{past}
use Rattle.sip_text.proofs.texts.ManyLemmas.{many-nil, many-cons}
use Rattle.sip_text.proofs.cuts.CutLemmas.{past-some}
use Rattle.sip_message.specs.Name.{FieldName, name_of}
use Rattle.sip_message.specs.inner.FieldText.{NameText}
use Rattle.sip_message.specs.inner.Faults.{HasName}
use Rattle.sip_message.specs.inner.Fronts.{TokenFront, past_wsp}
use Rattle.sip_message.proofs.lemmas.text.Cuts.{All}
use Rattle.sip_message.proofs.lemmas.front.Cuts.{ReadAs, NotRead}
use Rattle.sip_message.proofs.lemmas.field.OneWay.{name_whole, each-wsp, name_stops, same_name}

-- a text is SP and HTAB, and what is left past these
wsp-front : (t : List ℕ) → (u : List ℕ) × Many (One is_wsp) u × (t ≡ u ++ past_wsp t)
-- an empty text has no blanks
wsp-front [] = ([], many-nil (One is_wsp), refl)
wsp-front (b ∷ t) = at (is_wsp b) refl (wsp-front t)
  where
    -- the claim holds whether or not b is SP or HTAB
    at : (wsp : Bool) → is_wsp b ≡ wsp → (u : List ℕ) × Many (One is_wsp) u × (t ≡ u ++ past_wsp t) → (u : List ℕ) × Many (One is_wsp) u × (b ∷ t ≡ u ++ cond wsp (past_wsp t) (b ∷ t))
    -- b is neither, so nothing is passed
    at false is later = ([], many-nil (One is_wsp), refl)
    -- b is passed, and so are those after it
    at true is (u, many, whole) = (b ∷ u, many-cons (One is_wsp) (b ∷ []) u (b, is, refl) many, ap (λ x. b ∷ x) whole)

-- SP and HTAB before a colon are passed up to the colon
past-colon : (u rest : List ℕ) → All is_wsp u → past_wsp (u ++ colon ∷ rest) ≡ colon ∷ rest
-- the colon stands first
past-colon [] rest all = refl
-- the first blank is passed, and then the others
past-colon (b ∷ u) rest all = ap (λ x. cond x (past_wsp (u ++ colon ∷ rest)) (b ∷ (u ++ colon ∷ rest))) all.0 ∙ past-colon u rest all.1

-- where a line has a name, the token that spells it stands at the front, and SP and HTAB and a colon follow
name-token : (line rest : List ℕ) (name : FieldName) (n : NameText line name rest) → TokenFront line (n.spelled, n.whole.3.0 ++ colon ∷ rest)
name-token line rest name n =
    -- the token ends before the blanks or the colon
    (n.is_token, name_stops n.whole.3.0 rest (each-wsp n.whole.3.0 n.whole.3.2), (n.spelled, n.whole.3.0 ++ colon ∷ rest, refl, refl, name_whole line rest name n))

-- a line without a token at its front has no name
pub named-no_token : (line : List ℕ) → NotRead (TokenFront line) → NotRead (HasName line)
-- the name would be spelled by such a token
named-no_token line none (name, rest) n = none (n.spelled, n.whole.3.0 ++ colon ∷ rest) (name-token line rest name n)

-- a line whose token no colon follows after SP and HTAB has no name
pub named-no_colon : (line token rest : List ℕ) → ReadAs (TokenFront line) (token, rest) → past colon (past_wsp rest) ≡ None → NotRead (HasName line)
named-no_colon line token rest read none (name, more) n =
    -- the blanks and the colon stand after the token, so the colon would be found past the blanks
    let same : n.whole.3.0 ++ colon ∷ more ≡ rest = ap (λ x. x.1) (read.1 (n.spelled, n.whole.3.0 ++ colon ∷ more) (name-token line more name n)) in
    none-some more (sym none ∙ ap (λ t. past colon (past_wsp t)) (sym same) ∙ ap (past colon) (past-colon n.whole.3.0 more (each-wsp n.whole.3.0 n.whole.3.2)))

-- a line whose token a colon follows after SP and HTAB has the name that the token spells
pub named-read : (line token rest more : List ℕ) → ReadAs (TokenFront line) (token, rest) → past colon (past_wsp rest) ≡ Some more → ReadAs (HasName line) (name_of token, more)
-- the line has this name, and no other
named-read line token rest more read found = (is, (λ x other. let same = same_name line x.1 more x.0 (name_of token) other is in ap (λ n. (n, x.1)) same.0 ∙ ap (λ r. (name_of token, r)) same.1))
  where
    -- SP and HTAB stand before the colon
    front : (u : List ℕ) × Many (One is_wsp) u × (rest ≡ u ++ past_wsp rest)
    front = wsp-front rest

    -- the line has the name and the colon, with what follows it
    is : NameText line (name_of token) more
    is = record {
      spelled = token;
      is_token = read.0.0;
      name_is = refl;
      -- the token, the blanks, the colon and the rest stand in a row
      whole = (
        token,
        rest,
        refl,
        (front.0, past_wsp rest, front.1, (colon ∷ [], more, refl, refl, past-some colon (past_wsp rest) more found), front.2),
        read.0.2.4 ∙ ap (λ t. t ++ read.0.2.1) read.0.2.2 ∙ ap (λ t. token ++ t) read.0.2.3,
      );
    }
