-- Parameters are read one after another, and what is read is what the grammar has.
-- In the lemmas ps are the parameters that are read of the text u, and r, rest and more are what is left after them.
-- `ParamFront` is one parameter at the front of a text, `ParamsFront` some, and `AllParamsFront` all that stand there, each with what is left.
use Rattle.std.proofs.Common.{◌≡◌, ◌↔◌, IsTrue, ℕ, ◌<◌, ◌≤◌, Bool, true, false, nat_eq, ◌||◌, List, [], ◌∷◌, ◌++◌, Option, Some, None, length, refl, sym, ap, ◌∙◌, subst, inl, inr, arith}
use Rattle.std.proofs.lemmas.Bool.{both_ways, or_cases, eqb-true}
use Rattle.std.proofs.lemmas.List.{append_assoc, append-nil, length-append}
use Rattle.sip_standard.specs.Text.{◌or◌, ◌then◌, Optional}
use Rattle.sip_standard.specs.Profile.{Token, Ipv6}
use Rattle.sip_text.specs.Bytes.{semicolon, equals, dquote, left_bracket, right_bracket, is_token_byte}
use Rattle.sip_standard.specs.Field.{is_lws_byte}
use Rattle.sip_standard.specs.Via.{GenValue}
use Rattle.sip_message.specs.inner.Marks.{comma, Mark}
use Rattle.sip_message.specs.inner.Fronts.{StopsBlank, TokenFront, MarkFront, both}
use Rattle.sip_message.specs.inner.ParamFronts.{Param, is_bare_byte, ValueFront, LedFront, ParamFront, ParamsFront, AllParamsFront, ParamText, ParamsText, GenericParams}
use Rattle.sip_message.proofs.lemmas.text.Cuts.{All}
use Rattle.sip_message.proofs.lemmas.text.Says.{says-many, many-says}
use Rattle.sip_message.proofs.lemmas.text.Each.{blank_is}
use Rattle.sip_message.proofs.lemmas.field.OneWay.{blank-token}
use Rattle.sip_message.proofs.lemmas.front.Cuts.{NotRead, stops-byte}
use Rattle.sip_message.proofs.lemmas.via.Protocol.{token-stops}
use Rattle.sip_message.proofs.lemmas.front.OneWay.{AtMostOne, one-seq, one-last, one-mark, one-token, one-led, one-value, each-bare, some-bare, quoted-whole, reference-bracket}
use Rattle.sip_message.proofs.lemmas.front.Led.{Next, next-stops, next-other, mark-next, mark-shorter, token-shorter}

-- a parameter at the front of a text is read in one way
pub one-param : (text : List ℕ) → AtMostOne (ParamFront text)
one-param text =
    -- the ";", the name, and the value after "=", if there is one, are each read in one way
    one-seq (MarkFront semicolon text) _ (one-mark semicolon text refl) (λ inner.
    one-seq (TokenFront inner) _ (one-token inner) (λ name.
    one-seq (LedFront equals ValueFront (name.1)) _ (one-led equals ValueFront (name.1) refl one-value) (λ value.
    one-last ((name.0, value.0), value.1))))

-- where a value is read at the front of a text, the value and what is left are the text
pub value-whole : (text value rest : List ℕ) → ValueFront text (value, rest) → text ≡ value ++ rest
-- a value is quoted, an IPv6 reference or bare
value-whole text value rest (inl is) = is.1
value-whole text value rest (inr (inl is)) = is.1
value-whole text value rest (inr (inr is)) = is.2

-- what is left after a parameter is shorter than the text
pub param-shorter : (text : List ℕ) (p : Param) (rest : List ℕ) → ParamFront text (p, rest) → length rest < length text
param-shorter text p rest (both inner mark (both (name, r) token (both (value, s) led is))) =
    -- the ";" and the name take at least a byte each, and the value none or more
    let same : rest ≡ s = ap (λ x. x.1) is in
    omega (arith, mark-shorter semicolon text inner refl mark, token-shorter inner name r token, at value led, ap length same)
  where
    -- what is left after the value, if there is one, is not longer than r
    at : (v : Option (List ℕ)) → LedFront equals ValueFront r (v, s) → length s ≤ length r
    at None (none, s_is) = omega (arith, ap length s_is)
    at (Some w) (t, equal, of) =
        omega (arith, mark-shorter equals r t refl equal, ap length (value-whole t w s of), length-append w s)

-- where parameters are read at the front of a text, and a further one of what is left, all of them are read at the front
pub params-more : (text : List ℕ) (ps : List Param) (r : List ℕ) (p : Param) (more : List ℕ) → ParamsFront text ps r → ParamFront r (p, more) → ParamsFront text (ps ++ p ∷ []) more
-- without parameters before it, the further one is read of the text itself
params-more text [] r p more so is = (more, subst (λ t. ParamFront t (p, more)) so is, refl)
params-more text (q ∷ ps) r p more (next, one, so) is = (next, one, params-more next ps r p more so is)

-- two readings of parameters at the front of a text, after which no parameter is read, are the same
-- ps and qs are the parameters, and r and s what is left, by the two readings
same-params : (ps qs : List Param) (text r s : List ℕ) → ParamsFront text ps r → NotRead (ParamFront r) → ParamsFront text qs s → NotRead (ParamFront s) → (ps ≡ qs) × (r ≡ s)
-- where one reading has no parameter, the other has none, since none can be read where the first ends
-- by both readings there is no parameter, so all of the text is left
same-params [] [] text r s a a_ends b b_ends = (refl, a ∙ sym b)
same-params [] (q ∷ qs) text r s a a_ends (more, is, b) b_ends = absurd (a_ends (q, more) (subst (λ t. ParamFront t (q, more)) (sym a) is))
same-params (p ∷ ps) [] text r s (more, is, a) a_ends b b_ends = absurd (b_ends (p, more) (subst (λ t. ParamFront t (p, more)) (sym b) is))
-- p and q are the first parameters: each is what is read of the text, and so they are the same with the same text after them
same-params (p ∷ ps) (q ∷ qs) text r s (more, is, a) a_ends (next, is_too, b) b_ends =
    let same : ◌≡◌ {A = Param × List ℕ} (p, more) (q, next) = one-param text (p, more) (q, next) is is_too in
    let rests : more ≡ next = ap (λ x. x.1) same in
    let first : p ≡ q = ap (λ x. x.0) same in
    let later = same-params ps qs more r s a a_ends (subst (λ t. ParamsFront t qs s) (sym rests) b) b_ends in
    (ap (λ x. x ∷ ps) first ∙ ap (λ x. q ∷ x) later.0, later.1)

-- all parameters at the front are read in one way
pub one-all_params : (text : List ℕ) → AtMostOne (AllParamsFront text)
-- ps and qs are the parameters by the two readings, and r and s what is left
one-all_params text (ps, r) (qs, s) a b =
    let same = same-params ps qs text r s a.0 a.1 b.0 b.1 in
    ap (λ x. (x, r)) same.0 ∙ ap (λ x. (qs, x)) same.1

-- the byte may follow a parameter, after blanks: it is a comma or a semicolon
abbrev pub is_separator : ℕ → Bool
is_separator b = nat_eq b semicolon || nat_eq b comma

-- a separator is no byte of a token
pub separator-token : (b : ℕ) → is_separator b ≡ true → is_token_byte b ≡ false
separator-token b is = elim (or_cases (nat_eq b semicolon) (nat_eq b comma) is) [
  -- both separators are tried, by computing
  | inl same ↦ subst (λ x. is_token_byte x ≡ false) (sym (eqb-true b semicolon same)) refl
  | inr same ↦ subst (λ x. is_token_byte x ≡ false) (sym (eqb-true b comma same)) refl
]

-- a separator is no bare byte
separator-bare : (b : ℕ) → is_separator b ≡ true → is_bare_byte b ≡ false
separator-bare b is = elim (or_cases (nat_eq b semicolon) (nat_eq b comma) is) [
  -- both separators are tried, by computing
  | inl same ↦ subst (λ x. is_bare_byte x ≡ false) (sym (eqb-true b semicolon same)) refl
  | inr same ↦ subst (λ x. is_bare_byte x ≡ false) (sym (eqb-true b comma same)) refl
]

-- a blank is no byte of a bare value
blank-bare : (b : ℕ) → is_lws_byte b ≡ true → is_bare_byte b ≡ false
-- SP, HTAB, CR and LF are tried, by computing
blank-bare = blank_is (λ b. is_bare_byte b ≡ false) refl refl refl refl

-- a token or an IPv6 address does not begin with a blank
bare-stops : (v rest : List ℕ) → (Token or Ipv6) v → StopsBlank (v ++ rest)
bare-stops v rest kind = at v (some-bare v kind) (each-bare v kind)
  where
    -- a bare byte is no blank
    solid : (b : ℕ) (x : Bool) → is_lws_byte b ≡ x → is_bare_byte b ≡ true → is_lws_byte b ≡ false
    solid b false is bare = is
    -- b is a blank, which no bare byte is
    solid b true is bare = absurd (both_ways (is_bare_byte b) (blank-bare b is) bare)

    -- a text of bare bytes that is not empty begins with no blank, whatever follows it
    at : (u : List ℕ) → (u ≡ [] → ⊥) → All is_bare_byte u → StopsBlank (u ++ rest)
    -- the first byte is bare, and so no blank
    at [] some all = absurd (some refl)
    at (b ∷ u) some all = stops-byte b (u ++ rest) (solid b (is_lws_byte b) refl all.0)

-- a parameter's value does not begin with a blank
value-stops : (v rest : List ℕ) → GenValue v → StopsBlank (v ++ rest)
-- a token, a quoted string, an IPv6 address, or one in brackets
value-stops v rest (inl token) = bare-stops v rest (inl token)
value-stops v rest (inr (inl quoted)) = subst StopsBlank (sym (quoted-whole v rest quoted)) (stops-byte dquote (quoted.3.0 ++ dquote ∷ rest) refl)
value-stops v rest (inr (inr (inl v6))) = bare-stops v rest (inr v6)
value-stops v rest (inr (inr (inr reference))) =
    let bracket = reference-bracket (v ++ rest) (v, rest) (reference, refl) in
    subst (λ t. StopsBlank (t ++ rest)) (sym bracket.2) (stops-byte left_bracket ((bracket.0 ++ right_bracket ∷ []) ++ rest) refl)

-- where nothing or a separator follows a value, the value is read at the front of it and what follows
value-front : (v rest : List ℕ) → GenValue v → Next is_separator rest → ValueFront (v ++ rest) (v, rest)
-- a token, a quoted string, an IPv6 address, or one in brackets: a token and an address end where no bare byte follows
value-front v rest (inl token) next = inr (inr (inl token, next-stops is_separator is_bare_byte rest blank-bare separator-bare next, refl))
value-front v rest (inr (inl quoted)) next = inl (quoted, refl)
value-front v rest (inr (inr (inl v6))) next = inr (inr (inr v6, next-stops is_separator is_bare_byte rest blank-bare separator-bare next, refl))
value-front v rest (inr (inr (inr reference))) next = inr (inl (reference, refl))

-- what is read as a value at the front of a text is a value
front-value : (text v rest : List ℕ) → ValueFront text (v, rest) → GenValue v
-- it is quoted, in brackets, a token or an IPv6 address
front-value text v rest (inl is) = inr (inl is.0)
front-value text v rest (inr (inl is)) = inr (inr (inr is.0))
front-value text v rest (inr (inr (inl token, stops, whole))) = inl token
front-value text v rest (inr (inr (inr v6, stops, whole))) = inr (inr (inl v6))

-- the byte is "="
abbrev is_equals : ℕ → Bool
is_equals b = nat_eq b equals

-- "=" is no byte of a token
equals-token : (b : ℕ) → is_equals b ≡ true → is_token_byte b ≡ false
equals-token b is = subst (λ x. is_token_byte x ≡ false) (sym (eqb-true b equals is)) refl

-- where nothing or a separator follows a parameter, the parameter is read at the front of it and what follows
param-front : (m x rest : List ℕ) (p : Param) → Mark semicolon m → ParamText p x → Next is_separator rest → ParamFront ((m ++ x) ++ rest) (p, rest)
-- a parameter without a value: its name is read, and no "=" stands after it
param-front m x rest (name, None) mark (token, x_is) next =
    both (name ++ rest) (token-stops name rest token, (m, name ++ rest, mark, refl, append_assoc m x rest ∙ ap (λ t. m ++ (t ++ rest)) x_is))
    (both (name, rest) (token, next-stops is_separator is_token_byte rest blank-token separator-token next, (name, rest, refl, refl, refl))
    (both (None, rest) (next-other is_separator equals rest refl refl next, refl) refl))
-- a parameter with a value: its name, `=` and the value are read one after the other
-- u is the name's text and w what follows: e is the "=" and v the value
param-front m x rest (name, Some value) mark (token, kind, (u, w, u_is, (e, v, equal, v_is, w_is), x_is)) next =
    both (name ++ (e ++ (value ++ rest))) (token-stops name (e ++ (value ++ rest)) token, (m, name ++ (e ++ (value ++ rest)), mark, refl, append_assoc m x rest ∙ ap (λ t. m ++ t) flat))
    (both (name, e ++ (value ++ rest)) (token, next-stops is_equals is_token_byte (e ++ (value ++ rest)) blank-token equals-token (mark-next is_equals equals e (value ++ rest) refl refl equal), (name, e ++ (value ++ rest), refl, refl, refl))
    (both (Some value, rest) (value ++ rest, (value-stops value rest kind, (e, value ++ rest, equal, refl, refl)), value-front value rest kind next) refl))
  where
    -- the parameter is its name, "=" and its value
    flat : x ++ rest ≡ name ++ (e ++ (value ++ rest))
    flat =
        ap (λ t. t ++ rest) (x_is ∙ ap (λ t. t ++ w) u_is ∙ ap (λ t. name ++ t) (w_is ∙ ap (λ t. e ++ t) v_is))
        ∙ append_assoc name (e ++ value) rest ∙ ap (λ t. name ++ t) (append_assoc e value rest)

-- where nothing or a separator follows parameters, a separator or nothing stands at the front of them and what follows
pub params-next : (ps : List Param) (u rest : List ℕ) → ParamsText ps u → Next is_separator rest → Next is_separator (u ++ rest)
-- without parameters, what follows stands at the front; else the ";" of the first one does
params-next [] u rest is next = subst (λ t. Next is_separator (t ++ rest)) (sym is) next
params-next (p ∷ ps) u rest (v, y, (m, x, mark, param, v_is), more, whole) next =
    subst (Next is_separator) (sym (ap (λ z. z ++ rest) (whole ∙ ap (λ z. z ++ y) v_is ∙ append_assoc m x y) ∙ append_assoc m (x ++ y) rest)) (mark-next is_separator semicolon m ((x ++ y) ++ rest) refl refl mark)

-- where nothing or a separator follows parameters, they are read at the front of their text and what follows
pub params-front : (ps : List Param) (u rest : List ℕ) → ParamsText ps u → Next is_separator rest → ParamsFront (u ++ rest) ps rest
params-front [] u rest is next = sym (ap (λ t. t ++ rest) is)
-- p is the first parameter: m is the ";" with its blanks, x its text, and y that of the others
params-front (p ∷ ps) u rest (v, y, (m, x, mark, param, v_is), more, whole) next =
    (y ++ rest, subst (λ z. ParamFront z (p, y ++ rest)) (sym flat) (param-front m x (y ++ rest) p mark param (params-next ps y rest more next)), params-front ps y rest more next)
  where
    -- the text with what follows is the first parameter, and then the others with what follows
    flat : u ++ rest ≡ (m ++ x) ++ (y ++ rest)
    flat = ap (λ z. z ++ rest) (whole ∙ ap (λ z. z ++ y) v_is) ∙ append_assoc (m ++ x) y rest

-- where a parameter is read at the front of a text, the text begins with ";" and the text of the parameter
front-param : (text : List ℕ) (p : Param) (rest : List ℕ) → ParamFront text (p, rest) → (m : List ℕ) × (x : List ℕ) × Mark semicolon m × ParamText p x × (text ≡ m ++ (x ++ rest))
front-param text p rest (both inner mark (both (name, r) token (both (value, s) led is))) =
    let last : rest ≡ s = ap (λ x. x.1) is in
    let param : p ≡ (name, value) = ap (λ x. x.0) is in
    -- the text begins with the semicolon, and then with the name and its value
    let found = at value led in (
      mark.1.0,
      found.0,
      mark.1.2,
      subst (λ q. ParamText q found.0) (sym param) found.1,
      mark.1.4 ∙ ap (λ z. mark.1.0 ++ z) (mark.1.3 ∙ found.2 ∙ ap (λ z. found.0 ++ z) (sym last)),
    )
  where
    -- what follows the mark is the name and what is left after it
    token_whole : inner ≡ name ++ r
    token_whole = token.2.4 ∙ ap (λ z. z ++ token.2.1) token.2.2 ∙ ap (λ z. name ++ z) token.2.3

    -- what is left after the name is the text of the parameter's value and what follows, whether it has a value or none
    at : (v : Option (List ℕ)) → LedFront equals ValueFront r (v, s) → (x : List ℕ) × ParamText (name, v) x × (inner ≡ x ++ s)
    -- without a value the text is the name; with one it is the name, the "=" with its blanks, equal.1.0, and the value w
    at None (none, s_is) = (name, (token.0, refl), token_whole ∙ ap (λ z. name ++ z) (sym s_is))
    at (Some w) (t, equal, of) = (
      name ++ (equal.1.0 ++ w),
      (token.0, front-value t w s of, (name, equal.1.0 ++ w, refl, (equal.1.0, w, equal.1.2, refl, refl), refl)),
      token_whole
          ∙ ap (λ z. name ++ z) (equal.1.4 ∙ ap (λ z. equal.1.0 ++ z) (equal.1.3 ∙ value-whole t w s of) ∙ sym (append_assoc equal.1.0 w s))
          ∙ sym (append_assoc name (equal.1.0 ++ w) s),
    )

-- where parameters are read at the front of a text, the text begins with the text of these parameters
pub front-params : (ps : List Param) (text rest : List ℕ) → ParamsFront text ps rest → (u : List ℕ) × ParamsText ps u × (text ≡ u ++ rest)
-- the text of no parameters is empty
front-params [] text rest is = ([], refl, sym is)
front-params (p ∷ ps) text rest (more, is, later) =
    -- `one` is the text of the first parameter, its ";" before it, and `others` the text of those after it
    let one = front-param text p more is in
    let others = front-params ps more rest later in (
      (one.0 ++ one.1) ++ others.0,
      (one.0 ++ one.1, others.0, (one.0, one.1, one.2, one.3, refl), others.1, refl),
      one.4 ∙ sym (append_assoc one.0 one.1 more) ∙ ap (λ z. (one.0 ++ one.1) ++ z) others.2 ∙ sym (append_assoc (one.0 ++ one.1) others.0 rest),
    )

-- where one of some bytes stands after the blanks of a text, and ";" is none of them, no parameter is read
pub no-param : (these : ℕ → Bool) (text : List ℕ) → these semicolon ≡ false → Next these text → NotRead (ParamFront text)
no-param these text fails next x (both inner mark more) = next-other these semicolon text refl fails next inner mark

-- where parameters are read at the front of a text, and nothing is left, the text is these parameters
pub params-yes : (text : List ℕ) (ps : List Param) → ParamsFront text ps [] → ParamsText ps text
params-yes text ps so =
    -- nothing is left, so the text is the parameters that stand at its front
    let is = front-params ps text [] so in
    subst (ParamsText ps) (sym (is.2 ∙ append-nil is.0)) is.1

-- where a text is parameters, nothing is left after all that are read at its front
pub params-is : (text : List ℕ) (ps qs : List Param) (rest : List ℕ) → AllParamsFront text (ps, rest) → ParamsText qs text → rest ≡ []
params-is text ps qs rest all is =
    -- the parameters qs are read at the front of the text, and nothing is left after them
    let front : ParamsFront text qs [] = subst (λ t. ParamsFront t qs []) (append-nil text) (params-front qs text [] is (inl refl)) in
    -- of nothing no parameter is read, so these are all that are read, and both readings leave the same
    let none : NotRead (ParamFront []) = no-param (λ _. false) [] refl (inl refl) in
    ap (λ x. x.1) (one-all_params text (ps, rest) (qs, []) all (front, none))

-- a parameter with its name and its value is a generic-param after its ";"
pub text-generic : (p : Param) (x : List ℕ) → (Mark semicolon then ParamText p) x → (Mark semicolon then (Token then Optional (Mark equals then GenValue))) x
-- a parameter without a value is its name
text-generic (name, None) x (m, t, mark, (token, t_is), whole) = (m, t, mark, (t, [], subst Token (sym t_is) token, inl refl, sym (append-nil t)), whole)
-- u is the name's text and w what follows: e is the "=" and v the value
text-generic (name, Some value) x (m, t, mark, (token, kind, (u, w, u_is, (e, v, equal, v_is, w_is), t_is)), whole) =
    (m, t, mark, (u, w, subst Token (sym u_is) token, inr (e, v, equal, subst GenValue (sym v_is) kind, w_is), t_is), whole)

-- a generic-param after its ";" has a name, and a value if there is one
generic-text : (x : List ℕ) → (Mark semicolon then (Token then Optional (Mark equals then GenValue))) x → (p : Param) × (Mark semicolon then ParamText p) x
generic-text x (m, t, mark, (u, w, token, inl none, t_is), whole) = ((u, None), (m, t, mark, (token, t_is ∙ ap (λ z. u ++ z) none ∙ append-nil u), whole))
generic-text x (m, t, mark, (u, w, token, inr (e, v, equal, kind, w_is), t_is), whole) =
    ((u, Some v), (m, t, mark, (token, kind, (u, w, refl, (e, v, equal, refl, w_is), t_is)), whole))

-- a text is parameters exactly if nothing is left after all that are read at its front
pub decides-params : (text rest : List ℕ) → (ps : List Param) × AllParamsFront text (ps, rest) → IsTrue (nat_eq (length rest) 0) ↔ GenericParams text
decides-params text rest (ps, all) = (to rest all.0, from)
  where
    -- where nothing is left after the parameters that are read, the text is these parameters
    to : (r : List ℕ) → ParamsFront text ps r → IsTrue (nat_eq (length r) 0) → GenericParams text
    -- nothing is left; else the length of what is left would not be 0
    to [] is none = says-many _ _ text-generic ps text (params-yes text ps is)
    to (b ∷ r) is none = absurd (omega (arith, eqb-true (length (b ∷ r)) 0 none))

    -- where the text is parameters, nothing is left after them
    from : GenericParams text → IsTrue (nat_eq (length rest) 0)
    from are =
        let qs = many-says (λ p. Mark semicolon then ParamText p) _ generic-text text are in
        ap (λ t. nat_eq (length t) 0) (params-is text ps qs.0 rest all qs.1)
