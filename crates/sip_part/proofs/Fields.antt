-- Where a plain branch is found in a message that is read, it is the branch of the top Via: from one field to the bytes of the message.
-- In the lemmas b is the branch that is found, n the number of a line, f a field, and s what a message says; as Bools s and o are what two tests say.
-- Of a reading in steps `passes` is a step that gave a value, with the next one, and `stopped` one that stops at a fault, so that nothing is read.
-- Of bytes 58 is the colon, 13 CR and 10 LF.
use Rattle.std.proofs.Common.{◌≡◌, ◌∙◌, ◌⊎◌, inl, inr, ℕ, ◌+◌, List, [], ◌∷◌, ◌++◌, Bool, Some, None, drop, filter, flat_map, map, cond, ◌&&◌, if◌then◌else◌, nat_eq, true, false, refl, sym, ap, subst, append_assoc, arith}
use Rattle.std.proofs.lemmas.Bool.{eqb-true, false_from_ne_true}
use Rattle.std.specs.Prelude.{codes, bytes_eq, nat_lt}
use Rattle.std.specs.Char.{to_ascii_lowercase}
use Rattle.std.specs.List.{concat, starts_with, AllByRecursion}
use Rattle.sip_standard.specs.Text.{One, Exactly, ◌then◌, Many}
use Rattle.sip_standard.specs.Case.{folded}
use Rattle.sip_standard.specs.Chars.{is_among}
use Rattle.sip_standard.specs.Profile.{Token, Wsp, Sws}
use Rattle.sip_text.specs.Bytes.{is_token_byte}
use Rattle.sip_standard.specs.StartLine.{StartLine}
use Rattle.sip_standard.specs.Outcome.{gives, passes, stopped}
use Rattle.sip_standard.specs.Via.{SaidVia, ViasSay}
use Rattle.sip_standard.specs.Field.{SaidField, FieldSays, FieldsSay, full_name, said_values}
use Rattle.sip_standard.specs.Says.{Said, ViasTell, FieldsTell, LinesTell, BytesTell, Says}
use Rattle.sip_part.specs.Led.{branch_in, from_stop, opens_via, via_line, via_branch, branch_at, led_branch}
use Rattle.sip_part.proofs.Tokens.{token_run, same_run}
use Rattle.sip_part.proofs.Lines.{Unit, Folded, Passed, line_from, pass_line}
use Rattle.sip_part.proofs.Plain.{NoToken, Open, Opens, wsp_opens, open_no_token, not_colon, starts_is, value_found}

-- What follows is of the text after a field's name, up to its colon.

-- blanks are none, or begin with a blank
wsp_open : (w : List ℕ) → Many Wsp w → (w ≡ []) ⊎ Open w
wsp_open w ([], all, whole) = inl whole
wsp_open w (v ∷ vs, all, whole) =
    let one = all.0 in
    let flat = whole ∙ ap (λ t. t ++ concat vs) one.2 in
    inr (record { first = one.0; rest = concat vs; is = flat; opens = wsp_opens one.0 one.1 })

-- where blanks and a colon stand, no token does
colon_no_token : (w rest : List ℕ) → Many Wsp w → NoToken (w ++ (58 ∷ rest))
colon_no_token w rest many = by (wsp_open w many)
  where
    -- no token stands at the front, whether or not there are blanks before the colon
    by : (w ≡ []) ⊎ Open w → NoToken (w ++ (58 ∷ rest))
    by (inl none) = subst (λ t. NoToken (t ++ (58 ∷ rest))) (sym none) refl
    by (inr o) = open_no_token w (58 ∷ rest) o

-- where blanks come before a colon and the text begins with a colon, there are no blanks
-- w is the blanks, and x and y are what follows the colons
colon_front : (w x y : List ℕ) → Many Wsp w → w ++ (58 ∷ x) ≡ 58 ∷ y → x ≡ y
colon_front w x y many same = by (wsp_open w many)
  where
    -- what follows the colons is the same: there are no blanks, since both texts would else begin with different bytes
    by : (w ≡ []) ⊎ Open w → x ≡ y
    by (inl none) = let e : 58 ∷ x ≡ 58 ∷ y = ap (λ t. t ++ (58 ∷ x)) (sym none) ∙ same in cc
    by (inr o) =
        let e : o.first ∷ (o.rest ++ (58 ∷ x)) ≡ 58 ∷ y = ap (λ t. t ++ (58 ∷ x)) (sym o.is) ∙ same in
        let first : o.first ≡ 58 = cc in absurd (not_colon (subst Opens first o.opens))

-- the field is spelled with this word and a colon, and the branch is found in what comes after the colon
pub record Spelled (word field b : List ℕ) : Type 0 where
  pub rest : List ℕ
  pub is : field ≡ word ++ (58 ∷ rest)
  pub found : branch_in (from_stop rest) ≡ Some b

-- a field with a plain branch is spelled "Via:" or "v:"
via_spelled : (field b : List ℕ) → via_branch field ≡ Some b → Spelled (codes "Via") field b ⊎ Spelled (codes "v") field b
via_spelled field b found = by (starts_with nat_eq field (codes "Via:")) (starts_with nat_eq field (codes "v:")) refl refl found
  where
    -- b is found after "Via:" or after "v:", with which the field begins, since nothing would be found if it began with neither
    by : (s o : Bool) → starts_with nat_eq field (codes "Via:") ≡ s → starts_with nat_eq field (codes "v:") ≡ o
        → (if s then branch_in (from_stop (drop 4 field)) else if o then branch_in (from_stop (drop 2 field)) else None) ≡ Some b → Spelled (codes "Via") field b ⊎ Spelled (codes "v") field b
    by true o is other f = inl (record { rest = drop 4 field; is = starts_is field (codes "Via:") is; found = f })
    by false true is other f = inr (record { rest = drop 2 field; is = starts_is field (codes "v:") other; found = f })
    -- with neither of the two at its front, the field has no plain branch
    by false false is other f = absurd (cc)

-- the field is a Via, and the first element of its value has the branch b
pub record Found (b : List ℕ) (f : SaidField) : Type 0 where
  pub named : f.name ≡ codes "via"
  pub first : (via : SaidVia) (vias : List SaidVia) → ViasSay (via ∷ vias) f.value → via.branch ≡ Some b

-- a field that is spelled with a word for Via is a Via, and the branch that is found after its colon is that of its first element
word_found : (n : ℕ) (word line rest b : List ℕ) (f : SaidField) → Token word → full_name (folded word) ≡ codes "via" → FieldSays n line (gives f) → Spelled word (line ++ (13 ∷ rest)) b → Found b f
-- n is the name and r what follows: w the blanks, c the colon and v the value, of which r2 is the last two
word_found number word line rest b f token full (passes named (n, r, (is_token, n_is), (w, r2, wsp, (c, v, c_is, v_is, r2_is), r_is), line_is) (passes value ((trimmed, whole), row) given)) spelled =
    -- the line is the name, the blanks before the colon, the colon and the value
    let flat : line ++ (13 ∷ rest) ≡ n ++ (w ++ (58 ∷ (v ++ (13 ∷ rest)))) =
    ap (λ t. t ++ (13 ∷ rest)) (line_is ∙ ap (λ t. n ++ t) (r_is ∙ ap (λ t. w ++ t) (r2_is ∙ ap (λ t. t ++ v) c_is)))
    ∙ append_assoc n (w ++ (58 ∷ v)) (13 ∷ rest) ∙ ap (λ t. n ++ t) (append_assoc w (58 ∷ v) (13 ∷ rest)) in
    -- both the name and the word run up to the colon, and so they are the same
    let same = same_run n word (w ++ (58 ∷ (v ++ (13 ∷ rest)))) (58 ∷ spelled.rest) (token_run n is_token) (token_run word token) (colon_no_token w (v ++ (13 ∷ rest)) wsp) refl (sym flat ∙ spelled.is) in
    -- what stands after the colon is the value
    let after : v ++ (13 ∷ rest) ≡ spelled.rest = colon_front w (v ++ (13 ∷ rest)) spelled.rest wsp same.1 in
    let field : f ≡ record { line = number; spelled = named.0; name = full_name (folded (named.0)); value = value } = cc in
    record {
      named = ap (λ g. g.name) field ∙ ap (λ t. full_name (folded t)) (n_is ∙ same.0) ∙ full;
      first = λ via vias says.
          value_found v value rest b (subst (Sws then Exactly value then Sws) (sym v_is) whole) (ap (λ t. branch_in (from_stop t)) after ∙ spelled.found) via vias
          (subst (ViasSay (via ∷ vias)) (ap (λ g. g.value) field) says);
    }
-- a line whose name or value has a fault says no field
word_found number word line rest b f token full (passes named is (stopped fault stops_at e)) spelled = absurd (cc)
word_found number word line rest b f token full (stopped fault stops_at e) spelled = absurd (cc)

-- a byte of tokens with more such bytes after it is a token
token_of : (x : ℕ) (u : List ℕ) → is_token_byte x ≡ true → Many (One is_token_byte) u → Token (x ∷ u)
token_of x u is many = (x ∷ [], u, (x, is, refl), many, refl)

-- a field in whose line a plain branch is found is a Via, and the branch is that of its first element
field_found : (n : ℕ) (line rest b : List ℕ) (f : SaidField) → FieldSays n line (gives f) → via_branch (line ++ (13 ∷ rest)) ≡ Some b → Found b f
field_found n line rest b f says found = by (via_spelled (line ++ (13 ∷ rest)) b found)
  where
    -- "Via" is a token: 86 is V, 105 i and 97 a
    full_word : Token (codes "Via")
    full_word = token_of 86 (codes "ia") refl ((105 ∷ []) ∷ (97 ∷ []) ∷ [], ((105, refl, refl), ((97, refl, refl), tt)), refl)

    -- "v", which is 118, is a token
    short_word : Token (codes "v")
    short_word = token_of 118 [] refl ([], tt, refl)

    -- the claim holds whether the name is spelled in full or by its short form
    by : Spelled (codes "Via") (line ++ (13 ∷ rest)) b ⊎ Spelled (codes "v") (line ++ (13 ∷ rest)) b → Found b f
    by (inl spelled) = word_found n (codes "Via") line rest b f full_word refl says spelled
    by (inr spelled) = word_found n (codes "v") line rest b f short_word refl says spelled

-- The first value of Via is that of the first field, where this is named Via.
first_value : (f : SaidField) (fs : List SaidField) → f.name ≡ codes "via" → said_values "via" (f ∷ fs) ≡ f.value ∷ said_values "via" fs
first_value f fs named =
    ap (λ t. map (λ (found : ℕ × List ℕ). found.1) (map (λ g. (g.line, g.value)) (if bytes_eq t (codes "via") then f ∷ filter (λ g. bytes_eq g.name (codes "via")) fs else filter (λ g. bytes_eq g.name (codes "via")) fs))) named

-- where the first field is not named Via, the values of Via are those of the fields after it
later_value : (f : SaidField) (fs : List SaidField) → bytes_eq f.name (codes "via") ≡ false → said_values "via" (f ∷ fs) ≡ said_values "via" fs
later_value f fs other =
    ap (λ is. map (λ (found : ℕ × List ℕ). found.1) (map (λ g. (g.line, g.value)) (if is then f ∷ filter (λ g. bytes_eq g.name (codes "via")) fs else filter (λ g. bytes_eq g.name (codes "via")) fs))) other

-- a name that is neither "v" nor "via" is not Via in its full form either
other_name : (name : List ℕ) → bytes_eq name (codes "v") ≡ false → bytes_eq name (codes "via") ≡ false → bytes_eq (full_name name) (codes "via") ≡ false
other_name name compact full = by (bytes_eq name (codes "v")) (bytes_eq name (codes "f")) (bytes_eq name (codes "t")) (bytes_eq name (codes "i")) (bytes_eq name (codes "l")) compact
  where
    -- whichever of the short forms the name is, or none, its full form is not "via"
    -- v, f, t, i and l say whether the name is that letter
    by : (v f t i l : Bool) → v ≡ false
        → bytes_eq (if v then codes "via" else if f then codes "from" else if t then codes "to" else if i then codes "call-id" else if l then codes "content-length" else name) (codes "via") ≡ false
    -- where the name is "f", "t", "i" or "l", its full form is another word; where it is none of these, it is its own full form
    by true f t i l is = absurd (cc)
    by false true t i l is = refl
    by false false true i l is = refl
    by false false false true l is = refl
    by false false false false true is = refl
    by false false false false false is = full

-- a byte that is no v in either case has no v as its lower case
-- 118 is v and 86 V; the capital letters are 65 to 90, and each has its small one 32 above it
lower_v : (x : ℕ) → is_among "vV" x ≡ false → nat_eq (to_ascii_lowercase x) 118 ≡ false
lower_v x other = false_from_ne_true (nat_eq (to_ascii_lowercase x) 118) (λ is. by (nat_lt x 65) (nat_lt x 91) (eqb-true (to_ascii_lowercase x) 118 is))
  where
    -- the lower case of the byte cannot be v: the byte is below the capital letters, is one, or is above them, and is neither v nor V
    by : (low high : Bool) → cond low x (cond high (x + 32) x) ≡ 118 → ⊥
    by true high e = let f : true ≡ false = ap (is_among "vV") (sym e) ∙ other in absurd (cc)
    by false true e = let up : x ≡ 86 = omega (arith, e) in let f : true ≡ false = ap (is_among "vV") (sym up) ∙ other in absurd (cc)
    by false false e = let f : true ≡ false = ap (is_among "vV") (sym e) ∙ other in absurd (cc)

-- a name at the front of a line that does not begin as a Via is not that of Via
named_other : (name rest : List ℕ) → Token name → opens_via (name ++ rest) ≡ false → bytes_eq (full_name (folded name)) (codes "via") ≡ false
-- u is the first byte x of the token, and us the others
named_other name rest (u, us, (x, is, one), others, whole) opens =
    let flat : name ≡ x ∷ us = whole ∙ ap (λ t. t ++ us) one in
    let first = lower_v x (sym (ap (λ t. opens_via (t ++ rest)) flat) ∙ opens) in
    subst (λ t. bytes_eq (full_name (folded t)) (codes "via") ≡ false) (sym flat)
    (other_name (folded (x ∷ us)) (ap (λ same. same && bytes_eq (folded us) []) first) (ap (λ same. same && bytes_eq (folded us) (codes "ia")) first))

-- the field of a line that does not begin as a Via is not named Via
other_field : (n : ℕ) (line rest : List ℕ) (f : SaidField) → FieldSays n line (gives f) → opens_via (line ++ rest) ≡ false → bytes_eq f.name (codes "via") ≡ false
other_field number line rest f (passes named (n, r, (is_token, n_is), more, line_is) (passes value is given)) opens =
    let field : f ≡ record { line = number; spelled = named.0; name = full_name (folded (named.0)); value = value } = cc in
    ap (λ g. bytes_eq g.name (codes "via")) field
    ∙ ap (λ t. bytes_eq (full_name (folded t)) (codes "via")) n_is
    ∙ named_other n (r ++ rest) is_token (sym (ap opens_via (ap (λ t. t ++ rest) line_is ∙ append_assoc n r rest)) ∙ opens)
-- a line whose value or name has a fault says no field
other_field number line rest f (passes named is (stopped fault stops_at e)) opens = absurd (cc)
other_field number line rest f (stopped fault stops_at e) opens = absurd (cc)

-- where the first value of Via has the branch b in its first element, the top Via has it
top_found : (b value : List ℕ) (values : List (List ℕ)) (via : SaidVia) (others : List SaidVia) → ((v : SaidVia) (vias : List SaidVia) → ViasSay (v ∷ vias) value → v.branch ≡ Some b)
    → ViasTell (value ∷ values) (via ∷ others) → via.branch ≡ Some b
-- no value of Via is without an element
top_found b value values via others first ([], more, says, later, same) = absurd says
-- the first element of the first value is the top Via
top_found b value values via others first (v ∷ vias, more, says, later, same) = let e : via ≡ v = cc in ap (λ x. x.branch) e ∙ first v vias says

-- lines as one text, each with its CRLF
abbrev Ended : List (List ℕ) → List ℕ
Ended lines = flat_map (λ line. line ++ codes "\r\n") lines

-- lines, each with its CRLF, and what follows them are the first line, its CRLF, the other lines and what follows
ended_on : (line : List ℕ) (more : List (List ℕ)) (tail : List ℕ) → Ended (line ∷ more) ++ tail ≡ line ++ (13 ∷ (10 ∷ (Ended more ++ tail)))
ended_on line more tail = append_assoc (line ++ codes "\r\n") (Ended more) tail ∙ append_assoc line (codes "\r\n") (Ended more ++ tail)

-- lines, each with its CRLF, are the first line, its CRLF and the other lines
ended_one : (line : List ℕ) (more : List (List ℕ)) → Ended (line ∷ more) ≡ line ++ (13 ∷ (10 ∷ Ended more))
ended_one line more = append_assoc line (codes "\r\n") (Ended more)

-- the search for the next line passes over a line and its folds
passed : (line : List ℕ) (more : List (List ℕ)) → Many Unit (Ended (line ∷ more)) → Folded line → Passed line (Ended more)
passed line more (us, all, whole) folded = pass_line us line (Ended more) all (sym whole ∙ ended_one line more) folded

-- where a branch is found from a line of the head on, it is the top Via's, if it is the top Via's wherever it is found after that line
-- n is the number of the line, f the field that it says, fs are the fields after it, and b is the branch
line_found : (n : ℕ) (line rest b : List ℕ) (more : List (List ℕ)) (f : SaidField) (fs : List SaidField) (via : SaidVia) (vias : List SaidVia) → FieldSays n line (gives f) → Passed line (Ended more)
    → branch_at (line_from (line ++ (13 ∷ (10 ∷ (Ended more ++ (13 ∷ rest)))))) ≡ Some b → ViasTell (said_values "via" (f ∷ fs)) (via ∷ vias)
    → (branch_at (line_from (Ended more ++ (13 ∷ rest))) ≡ Some b → ViasTell (said_values "via" fs) (via ∷ vias) → via.branch ≡ Some b) → via.branch ≡ Some b
line_found n line rest b more f fs via vias says passed found tells on = by (opens_via text) refl found
  where
    -- the other lines, and what follows the head
    tail : List ℕ
    tail = Ended more ++ (13 ∷ rest)

    -- the text from this line on
    text : List ℕ
    text = line ++ (13 ∷ (10 ∷ tail))

    -- the claim holds whether or not the text opens with the name of a Via
    by : (opens : Bool) → opens_via text ≡ opens → branch_at (if opens then Some text else via_line text) ≡ Some b → via.branch ≡ Some b
    -- the branch is found in this line, whose field is a Via, and its value is the first
    by true is at =
        let here = field_found n line (10 ∷ tail) b f says at in
        top_found b f.value (said_values "via" fs) via vias here.first (subst (λ vs. ViasTell vs (via ∷ vias)) (first_value f fs here.named) tells)
    -- the search passes over this line, whose field is no Via, so that the values of Via are those of the fields after it
    by false is at =
        on (sym (ap branch_at (passed.over tail)) ∙ at) (subst (λ vs. ViasTell vs (via ∷ vias)) (later_value f fs (other_field n line (13 ∷ (10 ∷ tail)) f says is)) tells)

-- where a branch is found from the first of these lines on, it is the branch of the first Via of their fields
lines_found : (n : ℕ) (others : List (List ℕ)) (rest b : List ℕ) (fields : List SaidField) (via : SaidVia) (vias : List SaidVia) → Many Unit (Ended others) → AllByRecursion Folded others → FieldsSay n others (gives fields)
    → branch_at (line_from (Ended others ++ (13 ∷ rest))) ≡ Some b → ViasTell (said_values "via" fields) (via ∷ vias) → via.branch ≡ Some b
-- without lines there is no field, and so no top Via
lines_found n [] rest b fields via vias clean folds says found tells =
    let list : fields ≡ [] = cc in
    let none : via ∷ vias ≡ [] = subst (λ fs. ViasTell (said_values "via" fs) (via ∷ vias)) list tells in absurd (cc)
-- the first line has the branch, or it is passed over and a later one has it
-- f is the field of the first line, and fs are those of the others
lines_found n (line ∷ more) rest b fields via vias clean (fold, folds) (passes f f_is (passes fs fs_is e)) found tells =
    let list : fields ≡ f ∷ fs = cc in
    let on = passed line more clean fold in
    line_found n line rest b more f fs via vias f_is on (subst (λ t. branch_at (line_from t) ≡ Some b) (ended_on line more (13 ∷ rest)) found)
    (subst (λ gs. ViasTell (said_values "via" gs) (via ∷ vias)) list tells) (lines_found (n + 1) more rest b fs via vias on.clean folds fs_is)
-- lines of which one has a fault say no fields
lines_found n (line ∷ more) rest b fields via vias clean folds (passes f f_is (stopped fault stops_at e)) found tells = absurd (cc)
lines_found n (line ∷ more) rest b fields via vias clean folds (stopped fault stops_at e) found tells = absurd (cc)

-- where a branch is found in the bytes of a start line, fields and what comes after the head, it is that of the top Via
told_found : (bytes rest first : List ℕ) (others : List (List ℕ)) (b : List ℕ) (told : StartLine × List SaidField × List ℕ) (s : Said) → Many Unit (Ended (first ∷ others)) → AllByRecursion Folded (first ∷ others)
    → bytes ≡ Ended (first ∷ others) ++ (13 ∷ rest) → (behind : List ℕ) → LinesTell behind first others (gives told)
    → led_branch bytes ≡ Some b → FieldsTell (told.0) (told.1) s → s.via.branch ≡ Some b
told_found bytes rest first others b told s clean (fold, folds) whole behind (passes start starts (passes fields fields_is (passes names names_is (passes body body_is given)))) found tell =
    let tail = Ended others ++ (13 ∷ rest) in
    let on = passed first others clean fold in
    -- after the start line the search goes on with the fields
    let at : via_line bytes ≡ line_from tail = ap via_line (whole ∙ ended_on first others (13 ∷ rest)) ∙ on.over tail in
    let e : told ≡ (start, fields, body) = cc in
    let same : told.1 ≡ fields = ap (λ t. t.1) e in
    lines_found 1 others rest b (told.1) s.via s.others on.clean folds (subst (λ fs. FieldsSay 1 others (gives fs)) (sym same) fields_is) (sym (ap branch_at at) ∙ found) tell.vias
-- a head with a fault has no fields
told_found bytes rest first others b told s clean folds whole behind (passes start starts (passes fields fields_is (passes names names_is (stopped fault stops_at e)))) found tell = absurd (cc)
told_found bytes rest first others b told s clean folds whole behind (passes start starts (passes fields fields_is (stopped fault stops_at e))) found tell = absurd (cc)
told_found bytes rest first others b told s clean folds whole behind (passes start starts (stopped fault stops_at e)) found tell = absurd (cc)
told_found bytes rest first others b told s clean folds whole behind (stopped fault stops_at e) found tell = absurd (cc)

-- where a branch is found in bytes that tell a message, it is that of the top Via
bytes_found : (bytes b : List ℕ) (told : StartLine × List SaidField × List ℕ) (s : Said) → BytesTell bytes (gives told) → led_branch bytes ≡ Some b → FieldsTell (told.0) (told.1) s → s.via.branch ≡ Some b
bytes_found bytes b told s (passes cut cut_is (passes clean is_clean (first, others, lines, tells))) found tell =
    let rest = 10 ∷ (cut.1) in
    let flat : bytes ≡ Ended (first ∷ others) ++ (13 ∷ rest) =
    cut_is.whole ∙ sym (append_assoc cut_is.front (codes "\r\n") (13 ∷ rest)) ∙ ap (λ t. t ++ (13 ∷ rest)) (sym cut_is.head_is ∙ lines.whole) in
    told_found bytes rest first others b told s (subst (Many Unit) lines.whole is_clean) lines.folded flat (cut.1) tells found tell
-- bytes without the end of a head, or with a CR or LF alone in it, tell no message
bytes_found bytes b told s (passes cut cut_is (stopped fault stops_at e)) found tell = absurd (cc)
bytes_found bytes b told s (stopped fault stops_at e) found tell = absurd (cc)

-- the plain branch of a message that is read is that of its top Via
pub led_found : (bytes b : List ℕ) (s : Said) → Says bytes (gives s) → led_branch bytes ≡ Some b → s.via.branch ≡ Some b
led_found bytes b s (passes told tells (said, fields, e)) found = let same : s ≡ said = cc in ap (λ x. x.via.branch) same ∙ bytes_found bytes b told said tells found fields
-- bytes that stop at a fault say no message
led_found bytes b s (stopped fault stops_at e) found = absurd (cc)
