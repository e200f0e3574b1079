-- What bytes are read as is what they say by the definitions: the start line, the fields and the body are the same.
-- In the lemmas v, f and fs are a value, a field and fields as the readers read them, and w, g and gs as the definitions say them; n is the number of a line.
-- In the lemmas of one field line x and y are two pairs: a name, by the readers and as it is spelled, and what stands after the colon, blanks included.
-- What ends with `Of` is read by the readers, and what ends with `Says`, `Say` or `Tell` is said by the definitions, as `FieldOf` and `FieldSays`.
use Rattle.std.proofs.Common.{◌≡◌, ℕ, ◌+◌, Bool, true, false, cond, ◌||◌, List, [], ◌∷◌, ◌++◌, length, map, refl, sym, ap, ◌∙◌, subst, arith}
use Rattle.std.specs.Prelude.{⊤, ◌==◌, codes, bytes_eq, filter}
use Prim.Native.String.{String}
use Rattle.std.proofs.lemmas.Bool.{both_ways}
use Rattle.std.proofs.lemmas.List.{length-append}
use Rattle.sip_standard.specs.Text.{One, Exactly, ◌then◌, Many}
use Rattle.sip_standard.specs.Case.{folded}
use Rattle.sip_standard.specs.Profile.{Token, Sws}
use Rattle.sip_text.specs.Bytes.{Byte}
use Rattle.sip_message.specs.declared.name.Known.{Known}
use Rattle.sip_message.specs.declared.name.Known.TheVariants as known_name
use Rattle.sip_standard.specs.declared.fault.Reason.TheVariants as reason
use Rattle.sip_message.specs.inner.FieldText.{EndsSolid, Row, OpensSolid}
use Rattle.sip_standard.specs.Field.{is_lws_byte, full_name, RowSays, SaidField, all, IsTrimmed, FieldSays, FieldsSay, FirstOf, NoSecond, OneOf, NamesSay}
use Rattle.sip_message.specs.inner.Lines.{HasNoBareEnd}
use Rattle.sip_standard.specs.StartLine.{StartLine, StartSays}
use Rattle.sip_message.specs.Name.{FieldName, name_of, is_name_of}
use Rattle.sip_message.specs.Field.{Field}
use Rattle.sip_standard.specs.Body.{length_in, BodySays}
use Rattle.sip_message.specs.Message.{Message}
use Rattle.sip_message.specs.inner.MessageText.{found, found_from, content_length}
use Rattle.sip_standard.specs.Outcome.{Outcome, Gives, Demand, Holds, Then}
use Rattle.sip_standard.specs.Faults.{fault_in_head, fault_in_line}
use Rattle.sip_message.specs.inner.Faults.{HasName, IsValue, FieldOf, FieldsOf, NamesOf, LinesOf, ReadOf}
use Rattle.sip_standard.specs.Lines.{CutSays}
use Rattle.sip_standard.specs.Says.{LinesTell, BytesTell}
use Rattle.sip_message.proofs.lemmas.says.Alike.{Same, Equal, same-demand, same-gives, same-self, same-then, same-next}
use Rattle.sip_message.proofs.lemmas.says.Names.{row-said, named-via, named-from, named-to, named-call-id, named-cseq, named-content-length}

-- a text whose first byte is no blank does not begin with a byte of a blank run, as the definitions say it
opens-trimmed : (t : List ℕ) → OpensSolid t → ¬ ((One is_lws_byte then (λ behind. ⊤)) t)
-- u would be the first byte b, a blank, and v the rest
opens-trimmed [] opens (u, v, (b, blank, u_is), any, whole) = absurd (omega (arith, ap length whole, length-append u v, ap length u_is))
opens-trimmed (c ∷ t) opens (u, v, (b, blank, u_is), any, whole) =
    let same : c ∷ t ≡ b ∷ v = whole ∙ ap (λ z. z ++ v) u_is in
    let first : c ≡ b = cc in
    both_ways (is_lws_byte c) opens (subst (λ x. is_lws_byte x ≡ true) (sym first) blank)

-- a text that does not begin with a byte of a blank run, as the definitions say it, has no blank as its first byte
trimmed-opens : (t : List ℕ) → ¬ ((One is_lws_byte then (λ behind. ⊤)) t) → OpensSolid t
trimmed-opens [] none = tt
trimmed-opens (c ∷ t) none = at (is_lws_byte c) refl
  where
    -- the first byte cannot be a blank, since the text does not begin with one
    at : (b : Bool) → is_lws_byte c ≡ b → is_lws_byte c ≡ false
    at true is = absurd (none (c ∷ [], t, (c, is, refl), tt, refl))
    at false is = is

-- where a text does not end with a blank, its last byte is no blank
last-solid : (u : List ℕ) (b : ℕ) → EndsSolid (u ++ b ∷ []) → is_lws_byte b ≡ false
last-solid [] b ends = ends
last-solid (c ∷ []) b ends = ends
last-solid (c ∷ d ∷ u) b ends = last-solid (d ∷ u) b ends

-- a text that does not end with a blank has no blank as its last byte
ends-trimmed : (t : List ℕ) → EndsSolid t → ¬ (((λ before. ⊤) then One is_lws_byte) t)
-- v would be the last byte b, a blank, and u what is before it
ends-trimmed t ends (u, v, any, (b, blank, v_is), whole) =
    both_ways (is_lws_byte b) (last-solid u b (subst EndsSolid (whole ∙ ap (λ z. u ++ z) v_is) ends)) blank

-- a text that does not end with a byte of a blank run, as the definitions say it, has no blank as its last byte
trimmed-ends : (t : List ℕ) → ¬ (((λ before. ⊤) then One is_lws_byte) t) → EndsSolid t
trimmed-ends [] none = tt
trimmed-ends (c ∷ []) none = at (is_lws_byte c) refl
  where
    -- the last byte cannot be a blank, since the text does not end with one
    at : (b : Bool) → is_lws_byte c ≡ b → is_lws_byte c ≡ false
    at true is = absurd (none ([], c ∷ [], tt, (c, is, refl), refl))
    at false is = is
trimmed-ends (c ∷ d ∷ t) none =
    trimmed-ends (d ∷ t) (λ last. none (c ∷ last.0, last.1, tt, last.3, ap (λ z. c ∷ z) last.4))

-- a field as it is kept is what a line says, whose number is n
abbrev pub IsField : ℕ → Field → SaidField → Type 0
IsField n f g =
    (f.name ≡ name_of g.spelled) × (g.name ≡ full_name (folded g.spelled)) × (g.line ≡ n) × (g.value ≡ f.value)

-- fields as they are kept are what lines say, which are numbered from n
abbrev pub AreFields : ℕ → List Field → List SaidField → Type 0
AreFields n [] [] = ⊤
AreFields n (f ∷ fs) (g ∷ gs) = IsField n f g × AreFields (n + 1) fs gs
AreFields n [] (g ∷ gs) = ⊥
AreFields n (f ∷ fs) [] = ⊥

-- the line is a token, SP and HTAB, a colon, and what follows it, by the definitions: y is the token and what follows
abbrev SaidName : List ℕ → List ℕ × List ℕ → Type 0
SaidName line y = ((λ t. Token t × (y.0 ≡ t)) then (Many (One (λ byte. byte == 0x20 || byte == 0x09)) then (Byte 58 then Exactly y.1))) line

-- x and y are a name and what stands after its colon: the name of x is that which the bytes of y spell, and the rest is the same
abbrev IsSame : FieldName × List ℕ → List ℕ × List ℕ → Type 0
IsSame x y = (x.0 ≡ name_of y.0) × (x.1 ≡ y.1)

-- the demand for a name and a colon is the same by the readers and by the definitions
same-named : (n : ℕ) (line : List ℕ) → Same IsSame (Demand (HasName line) (fault_in_line n reason.FieldLine)) (Demand (SaidName line) (fault_in_line n reason.FieldLine))
same-named n line = same-demand IsSame (HasName line) (SaidName line) (fault_in_line n reason.FieldLine) to back
  where
    -- a name by the readers is the same name by the definitions
    to : (x : FieldName × List ℕ) → HasName line x → (y : List ℕ × List ℕ) × SaidName line y × IsSame x y
    to x s =
        let w = s.whole in
        ((s.spelled, x.1), (w.0, w.1, (subst Token (sym w.2) s.is_token, sym w.2), w.3, w.4), (s.name_is, refl))

    -- what the definitions say of the name, the readers read
    back : (y : List ℕ × List ℕ) → SaidName line y → (x : FieldName × List ℕ) × HasName line x × IsSame x y
    back y (u, v, (token, same), rest, whole) =
        ((name_of y.0, y.1), record { spelled = y.0; is_token = subst Token (sym same) token; name_is = refl; whole = (u, v, sym same, rest, whole) }, (refl, refl))

-- the value of a line by the definitions, whose name is y.0 and whose rest after the colon y.1: without blanks at its ends, and of the row of the name
abbrev SaidValue : List ℕ × List ℕ → List ℕ → Type 0
SaidValue y value = (IsTrimmed value × (Sws then Exactly value then Sws) y.1) × RowSays (full_name (folded y.0)) value

-- the demand for a value is the same by the readers and by the definitions
-- x is the field's name as it is kept and what stands after the colon; y is the name as it is spelled and the same rest; v and w are the value in it, by
-- the readers and by the definitions; n is the number of the line
same-value : (n : ℕ) (x : FieldName × List ℕ) (y : List ℕ × List ℕ) → IsSame x y → Same Equal (Demand (IsValue x) (fault_in_line n reason.Value)) (Demand (SaidValue y) (fault_in_line n reason.Value))
same-value n x y same = same-demand Equal (IsValue x) (SaidValue y) (fault_in_line n reason.Value) to back
  where
    -- a value by the readers is the same value by the definitions
    to : (v : List ℕ) → IsValue x v → (w : List ℕ) × SaidValue y w × (v ≡ w)
    to v (text, row) =
        (v, (((opens-trimmed v text.opens, ends-trimmed v text.ends), subst (Sws then Exactly v then Sws) same.1 text.whole), (row-said y.0 v).0 (subst (λ n. Row n v) same.0 row)), refl)

    -- what the definitions say of the value, the readers read
    back : (w : List ℕ) → SaidValue y w → (v : List ℕ) × IsValue x v × (v ≡ w)
    back w (((first, last), whole), row) =
        (w, (record { opens = trimmed-opens w first; ends = trimmed-ends w last; whole = subst (Sws then Exactly w then Sws) (sym same.1) whole }, subst (λ n. Row n w) (sym same.0) ((row-said y.0 w).1 row)), refl)

-- the reading of a field line is the same by the readers and by the definitions
same-field : (n : ℕ) (line : List ℕ) → Same (IsField n) (FieldOf n line) (FieldSays n line)
same-field n line =
    -- the name is the same, then the value, and so is the field that is made of both
    same-then IsSame (IsField n) _ _ (same-named n line) (λ x y same.
    same-then Equal (IsField n) _ _ (same-value n x y same) (λ v w v_is.
    same-gives (IsField n) _ _ (same.0, refl, refl, sym v_is)))

-- the reading of field lines is the same by the readers and by the definitions
same-fields : (n : ℕ) (lines : List (List ℕ)) → Same (AreFields n) (FieldsOf n lines) (FieldsSay n lines)
same-fields n [] = same-gives (AreFields n) [] [] tt
same-fields n (line ∷ lines) =
    same-then (IsField n) (AreFields n) _ _ (same-field n line) (λ f g one.
    same-then (AreFields (n + 1)) (AreFields n) _ _ (same-fields (n + 1) lines) (λ fs gs more.
    same-gives (AreFields n) _ _ (one, more)))

-- the fields of a name, with the numbers of their lines, are the same as they are kept and as they are said
-- k is the name, with `key` as its text; fs are the fields that are kept, gs those that are said, and n is the number of the first one's line
pub all-found : (k : Known) (key : String) → ((token : List ℕ) → is_name_of k (name_of token) ≡ bytes_eq (full_name (folded token)) (codes key)) → (n : ℕ) (fs : List Field) (gs : List SaidField) → AreFields n fs gs → found_from n k fs ≡ all key gs
-- as many fields are kept as are said, each in its place
all-found k key same n [] [] are = refl
all-found k key same n [] (g ∷ gs) are = absurd are
all-found k key same n (f ∷ fs) [] are = absurd are
all-found k key same n (f ∷ fs) (g ∷ gs) ((f_is, g_is, line_is, value_is), are) =
    at (is_name_of k f.name) (bytes_eq g.name (codes key)) (ap (is_name_of k) f_is ∙ same g.spelled ∙ sym (ap (λ x. bytes_eq x (codes key)) g_is)) (all-found k key same (n + 1) fs gs are)
  where
    -- the field that is kept has the line and the value of the one that is said
    pair : ◌≡◌ {A = ℕ × List ℕ} (n, f.value) (g.line, g.value)
    pair = λ i. (sym line_is i, sym value_is i)

    -- the claim holds whether or not the first field has the name, as the readers see it and as it is said
    at : (b c : Bool) → b ≡ c → found_from (n + 1) k fs ≡ all key gs
        → cond b ((n, f.value) ∷ found_from (n + 1) k fs) (found_from (n + 1) k fs) ≡ map (λ h. (h.line, h.value)) (cond c (g ∷ filter (λ h. bytes_eq h.name (codes key)) gs) (filter (λ h. bytes_eq h.name (codes key)) gs))
    -- both say that it has the name, and its line and value are the same
    at true true b_is later = ap (λ x. x ∷ found_from (n + 1) k fs) pair ∙ ap (λ z. (g.line, g.value) ∷ z) later
    -- both say that it has another name
    at false false b_is later = later
    -- the answers are equal, so they cannot differ
    at true false b_is later = absurd (both_ways true b_is refl)
    at false true b_is later = absurd (both_ways true (sym b_is) refl)

-- the demands on the fields of the six names, by the fields of each
-- v, f, t, i, c and l are the fields of Via, From, To, Call-ID, CSeq and Content-Length
abbrev NamesIn : (v f t i c l : List (ℕ × List ℕ)) → Outcome ((ℕ × List ℕ) × (ℕ × List ℕ)) → Type 0
NamesIn v f t i c l =
    Then (FirstOf v) (λ via. Then (OneOf f) (λ _. Then (OneOf t) (λ _. Then (OneOf i) (λ _. Then (OneOf c) (λ cseq. Then (NoSecond l) (λ _. Gives (via, cseq)))))))

-- the demands on the named fields are the same by the readers and by the definitions
same-names : (fs : List Field) (gs : List SaidField) → AreFields 1 fs gs → Same Equal (NamesOf fs) (NamesSay gs)
-- the fields of each of the six names, with the numbers of their lines, are the same
same-names fs gs are =
    let v = all-found known_name.Via "via" named-via 1 fs gs are in
    let f = all-found known_name.From "from" named-from 1 fs gs are in
    let t = all-found known_name.To "to" named-to 1 fs gs are in
    let i = all-found known_name.CallId "call-id" named-call-id 1 fs gs are in
    let c = all-found known_name.CSeq "cseq" named-cseq 1 fs gs are in
    let l = all-found known_name.ContentLength "content-length" named-content-length 1 fs gs are in
    -- what the readers find of each name is what the definitions have of it
    subst (λ x. Same Equal (NamesOf fs) (NamesIn x (all "from" gs) (all "to" gs) (all "call-id" gs) (all "cseq" gs) (all "content-length" gs))) v
    (subst (λ x. Same Equal (NamesOf fs) (NamesIn (found known_name.Via fs) x (all "to" gs) (all "call-id" gs) (all "cseq" gs) (all "content-length" gs))) f
    (subst (λ x. Same Equal (NamesOf fs) (NamesIn (found known_name.Via fs) (found known_name.From fs) x (all "call-id" gs) (all "cseq" gs) (all "content-length" gs))) t
    (subst (λ x. Same Equal (NamesOf fs) (NamesIn (found known_name.Via fs) (found known_name.From fs) (found known_name.To fs) x (all "cseq" gs) (all "content-length" gs))) i
    (subst (λ x. Same Equal (NamesOf fs) (NamesIn (found known_name.Via fs) (found known_name.From fs) (found known_name.To fs) (found known_name.CallId fs) x (all "content-length" gs))) c
    (subst (λ x. Same Equal (NamesOf fs) (NamesIn (found known_name.Via fs) (found known_name.From fs) (found known_name.To fs) (found known_name.CallId fs) (found known_name.CSeq fs) x)) l
    (same-self (NamesOf fs)))))))

-- a message as it is kept, and its start line, fields and body as they are told, are the same
abbrev pub IsTold : Message → StartLine × List SaidField × List ℕ → Type 0
IsTold m told = (m.start ≡ told.0) × AreFields 1 m.fields told.1 × (m.body ≡ told.2)

-- what the lines of a head are read as is what they tell
same-told : (rest first : List ℕ) (others : List (List ℕ)) → Same IsTold (LinesOf rest first others) (LinesTell rest first others)
same-told rest first others =
    -- the start line, the fields, the demands on the names, and those on the method and the body: each step is the same
    same-next IsTold _ _ (same-self (Demand (StartSays first) (fault_in_line 0 reason.StartLine))) (λ start.
    same-then (AreFields 1) IsTold _ _ (same-fields 1 others) (λ fs gs are.
    same-next IsTold _ _ (same-names fs gs are) (λ names.
    same-then Equal IsTold _ _ (subst (λ x. Same Equal (BodySays start names.1 names.0.1 (content_length fs) rest) (BodySays start names.1 names.0.1 (length_in x) rest)) (all-found known_name.ContentLength "content-length" named-content-length 1 fs gs are) (same-self (BodySays start names.1 names.0.1 (content_length fs) rest))) (λ body y same.
    same-gives IsTold _ _ (refl, are, same)))))

-- bytes tell the start line and the fields of the message that they are read as, or its fault
pub same-read : (bytes : List ℕ) → Same IsTold (ReadOf bytes) (BytesTell bytes)
same-read bytes =
    -- the end of the head, and that no line end is bare, are asked in the same way
    same-next IsTold _ _ (same-self (Demand (CutSays bytes) (fault_in_head reason.NoHeadEnd))) (λ cut.
    same-next IsTold _ _ (same-self (Holds (HasNoBareEnd cut.0) (fault_in_head reason.BareLineEnd))) (λ _. record {
      -- `to` and `back`: with the same head, first line and other lines, what the one reading comes to the other comes to
      to = λ out head. let told = (same-told cut.1 head.0 head.1).to out head.3 in (told.0, (head.0, head.1, head.2, told.1), told.2);
      back = λ out head. let read = (same-told cut.1 head.0 head.1).back out head.3 in (read.0, (head.0, head.1, head.2, read.1), read.2);
    }))
