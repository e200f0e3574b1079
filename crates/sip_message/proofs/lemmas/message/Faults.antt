-- Bytes are read as a message exactly if they are one, and as at most one message or one fault.
-- In the lemmas f and fs are the first field and the others, z and zs the first element of a list and the others, and n is the number of a line.
-- `IsOne` says that a reading has one outcome at most. `NamesOf` is the demands on the named fields, `BodySays` those on the method and the body, and `LinesOf`
-- and `HeadOf` are the reading of the lines of a head, and of a head, each with the body after it.
use Rattle.std.proofs.Common.{◌≡◌, ℕ, ◌+◌, List, [], ◌∷◌, Option, refl, sym, ap, ◌∙◌, subst}
use Rattle.sip_message.specs.declared.name.Known.{Known}
use Rattle.sip_message.specs.declared.name.Known.TheVariants as known_name
use Rattle.sip_standard.specs.Outcome.{gives, passes}
use Rattle.sip_standard.specs.StartLine.{StartLine, StartSays}
use Rattle.sip_message.specs.Field.{Field}
use Rattle.sip_message.specs.inner.FieldText.{Row, NameText, ValueText, FieldsText}
use Rattle.sip_message.specs.Message.{Message}
use Rattle.sip_message.specs.inner.MessageText.{IsFirstFound, HasLength, IsNoMore, MessageFits, MessageText, message_of, Spells, content_length, found}
use Rattle.sip_standard.specs.Body.{cut_body, MethodSays, BodySays}
use Rattle.sip_standard.specs.Field.{FirstOf, OneOf}
use Rattle.sip_standard.specs.Lines.{CutSays}
use Rattle.sip_message.specs.inner.Faults.{HasName, IsValue, FieldOf, FieldsOf, NamesOf, LinesOf, HeadOf, ReadOf}
use Rattle.sip_message.proofs.lemmas.lines.OneWay.{same_head, same_lines}
use Rattle.sip_message.proofs.lemmas.start_line.OneWay.{same_start}
use Rattle.sip_message.proofs.lemmas.field.OneWay.{same_name, same_value}
use Rattle.sip_message.proofs.lemmas.message.Outcome.{IsOne, given, one-gives, one-demand, one-holds, one-then, given-then}

-- the reading of a field line has one outcome: the field, or its first fault
one-field : (n : ℕ) (line : List ℕ) → IsOne (FieldOf n line)
one-field n line =
    -- a line has its name and what follows its colon in one way, and its value too
    one-then (one-demand (HasName line) _ (λ x y one other. let same = same_name line x.1 y.1 x.0 y.0 one other in ap (λ m. (m, x.1)) same.0 ∙ ap (λ r. (y.0, r)) same.1)) (λ named.
    one-then (one-demand (IsValue named) _ (λ x y one other. same_value named.1 x y one.0 other.0)) (λ value. one-gives _))

-- the reading of field lines has one outcome
one-fields : (n : ℕ) (lines : List (List ℕ)) → IsOne (FieldsOf n lines)
-- without lines there are no fields
one-fields n [] = one-gives []
-- the first line has one outcome, and so have the others
one-fields n (line ∷ lines) = one-then (one-field n line) (λ f. one-then (one-fields (n + 1) lines) (λ fs. one-gives (f ∷ fs)))

-- equal lists have the same first element
-- x and y are the first elements, and xs and ys the rests
same_cons : (x y : ℕ × List ℕ) (xs ys : List (ℕ × List ℕ)) → x ∷ xs ≡ y ∷ ys → x ≡ y
same_cons x y xs ys is = ap head is
  where
    -- the first element of a list, and x of an empty one
    head : List (ℕ × List ℕ) → ℕ × List ℕ
    head [] = x
    head (z ∷ zs) = z

-- the reading of the first field of a name has one outcome
one-present : (name : Known) (fields : List Field) → IsOne (FirstOf (found name fields))
one-present name fields =
    -- the first field is the head of the list that is found
    one-demand (IsFirstFound name fields) _ (λ x y one other. same_cons x y one.0 other.0 (sym one.1 ∙ other.1))

-- the reading of the only field of a name has one outcome
one-once : (name : Known) (fields : List Field) → IsOne (OneOf (found name fields))
-- that no second one stands there is asked first
one-once name fields = one-then (one-holds _ _) (λ _. one-present name fields)

-- the reading of the named fields has one outcome
one-names : (fields : List Field) → IsOne (NamesOf fields)
one-names fields =
    -- Via is asked first, then From, To, Call-ID and CSeq, and last that Content-Length does not stand twice
    one-then (one-present known_name.Via fields) (λ via. one-then (one-once known_name.From fields) (λ _. one-then (one-once known_name.To fields) (λ _.
    one-then (one-once known_name.CallId fields) (λ _. one-then (one-once known_name.CSeq fields) (λ cseq. one-then (one-holds _ _) (λ _. one-gives (via, cseq)))))))

-- the reading of the body has one outcome
one-body : (start : StartLine) (cseq : ℕ × List ℕ) (via : List ℕ) (len : Option ℕ) (rest : List ℕ) → IsOne (BodySays start cseq via len rest)
one-body start cseq via len rest =
    -- four demands come first: on the method, the length, that the body is long enough, and that in a stream nothing follows it; then the body is cut
    one-then (one-holds _ _) (λ _. one-then (one-holds _ _) (λ _. one-then (one-holds _ _) (λ _. one-then (one-holds _ _) (λ _. one-gives (cut_body len rest)))))

-- the reading of the lines of a head, and of its body, has one outcome
one-lines : (rest first : List ℕ) (others : List (List ℕ)) → IsOne (LinesOf rest first others)
one-lines rest first others =
    -- the start line, the fields, the demands on the names, and those on the method and the body, each have one outcome
    one-then (one-demand (StartSays first) _ (same_start first)) (λ start. one-then (one-fields 1 others) (λ fields. one-then (one-names fields) (λ names.
    one-then (one-body start names.1 names.0.1 (content_length fields) rest) (λ body. one-gives _))))

-- the reading of a head has one outcome
one-head : (head rest : List ℕ) → IsOne (HeadOf head rest)
one-head head rest a b one other =
    -- a head has its lines in one way, so both outcomes are of the same lines
    let lines = same_lines head one.0 other.0 one.1 other.1 one.2 other.2 in
    one-lines rest other.0 other.1 a b (subst (λ ls. LinesOf rest other.0 ls a) lines.1 (subst (λ l. LinesOf rest l one.1 a) lines.0 one.3)) other.3

-- the reading of bytes has one outcome: a message, or its first fault
pub one-read : (bytes : List ℕ) → IsOne (ReadOf bytes)
one-read bytes =
    -- bytes are cut in one way into a head and what follows it
    one-then (one-demand (CutSays bytes) _ (λ x y one other. let same = same_head bytes x.0 x.1 y.0 y.1 one other in ap (λ h. (h, x.1)) same.0 ∙ ap (λ r. (y.0, r)) same.1)) (λ cut.
    one-then (one-holds _ _) (λ _. one-head cut.0 cut.1))

-- lines that are read are fields
pub read-fields : (n : ℕ) (lines : List (List ℕ)) (fields : List Field) → FieldsOf n lines (gives fields) → FieldsText lines fields
-- without lines there are no fields
read-fields n [] fields is = given is
read-fields n (line ∷ lines) fields is =
    -- `one` is the field of the first line, and `more` are those of the others; `named` is its name and `valued` its value
    let one = given-then is in
    let named = given-then one.1 in
    let valued = given-then named.2 in
    let more = given-then one.2 in
    -- the line has a name, blanks, a colon and a value, and the others are fields
    let f = given valued.2 in (
      one.0,
      more.0,
      record { rest = named.0.1; named = subst (λ g. NameText line g.name named.0.1) (sym f) named.1; valued = subst (λ g. ValueText named.0.1 g.value) (sym f) valued.1.0; row = subst (λ g. Row g.name g.value) (sym f) valued.1.1 },
      read-fields (n + 1) lines more.0 more.1,
      given more.2,
    )

-- lines that are fields are read as them
pub fields-read : (n : ℕ) (lines : List (List ℕ)) (fields : List Field) → FieldsText lines fields → FieldsOf n lines (gives fields)
-- without lines there are no fields
fields-read n [] fields is = ap (λ fs. gives fs) is
fields-read n (line ∷ lines) fields (f, fs, is, are, whole) =
    -- the first line is read as its name and its value, and then the others
    passes f (passes (f.name, is.rest) is.named (passes f.value (is.valued, is.row) refl)) (passes fs (fields-read (n + 1) lines fs are) (ap (λ gs. gives gs) whole))

-- where the names and the body are read, what a message demands of its fields and its body holds
read-fits : (start : StartLine) (fields : List Field) (rest body : List ℕ) (names : (ℕ × List ℕ) × (ℕ × List ℕ)) → NamesOf fields (gives names) → BodySays start (names.1) (names.0.1) (content_length fields) rest (gives body) → MessageFits start fields rest × (body ≡ cut_body (content_length fields) rest)
read-fits start fields rest body names is read =
    -- each stage of the reading gave something: the fields of each name, and then the demands on the body hold
    let via = given-then is in
    let from = given-then via.2 in
    let to = given-then from.2 in
    let call_id = given-then to.2 in
    let cseq = given-then call_id.2 in
    let len = given-then cseq.2 in
    -- each of these fields stands once
    let from_once = given-then from.1 in
    let to_once = given-then to.1 in
    let call_id_once = given-then call_id.1 in
    let cseq_once = given-then cseq.1 in
    -- the method and the body are as demanded
    let method = given-then read in
    let has = given-then method.2 in
    let enough = given-then has.2 in
    let no_more = given-then enough.2 in
    let same = given len.2 in (
      -- what a message demands is what the stages gave, one demand after another
      record {
        via = (via.0, via.1);
        from_once = from_once.1;
        from = (from.0, from_once.2);
        to_once = to_once.1;
        to = (to.0, to_once.2);
        call_id_once = call_id_once.1;
        -- the body has a length where it needs one, has enough bytes, and has no more
        call_id = (call_id.0, call_id_once.2);
        cseq_once = cseq_once.1;
        cseq = (cseq.0, cseq_once.2);
        length_once = len.1;
        -- the method and the length are those that were found
        method = subst (λ m. MethodSays start (m.1.1)) same method.1;
        has_length = subst (λ m. HasLength (m.0.1) (content_length fields)) same has.1;
        enough = enough.1;
        no_more = subst (λ m. IsNoMore (m.0.1) (content_length fields) rest) same no_more.1;
      },
      given no_more.2,
    )

-- where bytes are read as a message, they are its bytes
pub read-text : (bytes : List ℕ) (m : Message) → ReadOf bytes (gives m) → MessageText bytes m
read-text bytes m is =
    -- `cut` is the head and what follows it, and `lines` are the lines of the head
    let cut = given-then is in
    let bare = given-then cut.2 in
    let lines = bare.2 in
    let start = given-then lines.3 in
    let fields = given-then start.2 in
    -- the named fields were read, and then what the message demands holds
    let names = given-then fields.2 in
    let body = given-then names.2 in
    let fits = read-fits start.0 fields.0 cut.0.1 body.0 names.0 names.1 body.1 in
    subst (MessageText bytes) (sym (given body.2)) (record {
      head = cut.0.0;
      rest = cut.0.1;
      first = lines.0;
      others = lines.1;
      is_head = cut.1;
      -- each part of the text is what its stage read
      no_bare = bare.1;
      are_lines = lines.2;
      is_start = start.1;
      are_fields = read-fields 1 lines.1 fields.0 fields.1;
      fits = fits.0;
      body_is = fits.1;
    })

-- where bytes are those of a message, they are read as it
pub text-read : (bytes : List ℕ) (m : Message) → MessageText bytes m → ReadOf bytes (gives m)
text-read bytes m text =
    let fits = text.fits in
    passes (text.head, text.rest) text.is_head (passes tt text.no_bare (
      text.first,
      text.others,
      text.are_lines,
      -- first the start line and the fields are read
      passes m.start text.is_start
          (passes m.fields (fields-read 1 text.others m.fields text.are_fields) (passes (fits.via.0, fits.cseq.0)
          (passes fits.via.0 fits.via.1 (passes fits.from.0 (passes tt fits.from_once fits.from.1) (passes fits.to.0 (passes tt fits.to_once fits.to.1)
          -- after From and To come the Call-ID, the CSeq and the demands on the body
          (passes fits.call_id.0 (passes tt fits.call_id_once fits.call_id.1) (passes fits.cseq.0 (passes tt fits.cseq_once fits.cseq.1) (passes tt fits.length_once refl))))))
          (passes m.body (passes tt fits.method (passes tt fits.has_length (passes tt fits.enough (passes tt fits.no_more (ap (λ b. gives b) text.body_is)))))
          refl))),
    ))

-- bytes spell at most one message
pub same_message : (bytes : List ℕ) (m n : Message) → Spells bytes m → Spells bytes n → m ≡ n
same_message bytes m n one other =
    -- both messages are outcomes of one reading, so they are the same, and so are their unfolded forms
    one.2 ∙ ap message_of (given (one-read bytes (gives one.0) (gives other.0) (text-read bytes one.0 one.1) (text-read bytes other.0 other.1))) ∙ sym other.2
