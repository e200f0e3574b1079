-- Bytes have one head, and a head has its lines in one way.
-- In the lemmas l and ls are the first line and the others by one reading of the bytes, and m and ms those by another.
-- `Cuts` tells of two cuts of one text which first part is longer, if one is: `first_longer`, `same_length`, `second_longer`.
use Rattle.std.proofs.Common.{◌≡◌, ℕ, Bool, true, false, nat_eq, List, [], ◌∷◌, ◌++◌, length, refl, sym, ap, ◌∙◌, subst, arith}
use Rattle.std.specs.List.{AllByRecursion, flat_map}
use Rattle.std.proofs.lemmas.Bool.{both_ways, eqb-true, eq-eqb}
use Rattle.std.proofs.lemmas.List.{append_assoc, length-append}
use Rattle.sip_text.specs.Bytes.{crlf, carriage_return, line_feed}
use Rattle.sip_text.specs.inner.Blanks.{is_wsp}
use Rattle.sip_standard.specs.Lines.{CutSays, OpensBlank, LinesSay}
use Rattle.sip_message.specs.inner.Lines.{IsFolded, with_end}
use Rattle.sip_message.proofs.lemmas.text.Cuts.{Cuts, first_longer, same_length, second_longer, two_cuts}
use Rattle.sip_text.proofs.texts.ManyLemmas.{append_cancel_both}

-- bytes have at most one head
-- the bytes are the head h with the body b, and the head i with the body c
pub same_head : (bytes h b i c : List ℕ) → CutSays bytes (h, b) → CutSays bytes (i, c) → (h ≡ i) × (b ≡ c)
same_head bytes h b i c one other =
    -- each front is no longer than the other, since its CRLF CRLF is the first
    let fronts = append_cancel_both one.front _ other.front _
    (omega (arith, one.first other.front c other.whole, other.first one.front b one.whole)) (sym one.whole ∙ other.whole) in
    let bodies : carriage_return ∷ line_feed ∷ carriage_return ∷ line_feed ∷ b ≡ carriage_return ∷ line_feed ∷ carriage_return ∷ line_feed ∷ c = fronts.1 in
    (one.head_is ∙ ap (λ t. t ++ crlf) fronts.0 ∙ sym other.head_is, cc)

-- lines that begin with no blank make a text that begins with none
pub no_blank : (lines : List (List ℕ)) → AllByRecursion (λ line. ¬ (OpensBlank line)) lines → OpensBlank (flat_map with_end lines) → ⊥
-- the text of no lines is empty
no_blank [] none begins = begins
-- an empty line begins with the CR of its end
no_blank ([] ∷ lines) none begins = both_ways (is_wsp carriage_return) refl begins
-- another line begins with its own first byte, which is no blank
no_blank ((b ∷ line) ∷ lines) none begins = none.0 begins

-- a text that begins with a blank does so whatever follows it
pub begins-append : (u v : List ℕ) → OpensBlank u → OpensBlank (u ++ v)
-- an empty text begins with no blank
begins-append [] v begins = absurd begins
begins-append (b ∷ u) v begins = begins

-- where two lines with their ends begin one text, and no blank follows, the first is not longer than the second
no_longer : (z line other rest more : List ℕ) (b : ℕ) → IsFolded line → (OpensBlank more → ⊥) → line ≡ other ++ b ∷ z → crlf ++ more ≡ b ∷ z ++ (crlf ++ rest) → ⊥
-- the first line would be longer by a CR alone, and the CR of its own end would be the LF of the other one
no_longer [] line other rest more b folded none longer is =
    let tails : line_feed ∷ more ≡ carriage_return ∷ (line_feed ∷ rest) = cc in
    let heads : line_feed ≡ carriage_return = cc in
    absurd (omega (arith, heads))
-- the CR ends the second line, and a blank would follow it in the first
no_longer (c ∷ z) line other rest more b folded none longer is =
    let b_is : carriage_return ≡ b = cc in
    let tails : line_feed ∷ more ≡ c ∷ (z ++ (crlf ++ rest)) = cc in
    let c_is : line_feed ≡ c = cc in
    let more_is : more ≡ z ++ (crlf ++ rest) = cc in
    none (subst OpensBlank (sym more_is) (begins-append z (crlf ++ rest) (folded other z
    (longer ∙ ap (λ x. other ++ x ∷ c ∷ z) (sym b_is) ∙ ap (λ x. other ++ carriage_return ∷ x ∷ z) (sym c_is)))))

-- where two lines with their ends begin one text, and no blank follows either, they are the same line with the same rest
pub same_first : (l m rest more : List ℕ) → IsFolded l → IsFolded m → (OpensBlank rest → ⊥) → (OpensBlank more → ⊥) → with_end l ++ rest ≡ with_end m ++ more → (l ≡ m) × (rest ≡ more)
same_first l m rest more l_folded m_folded l_cut m_cut same = at (two_cuts l (crlf ++ rest) m (crlf ++ more) whole)
  where
    -- both texts begin with a line and its end
    whole : l ++ (crlf ++ rest) ≡ m ++ (crlf ++ more)
    whole = sym (append_assoc l crlf rest) ∙ same ∙ append_assoc m crlf more

    -- both lines are the same, and so are the rests: neither line is longer, since the CRLF in it would have a blank after it
    at : Cuts l (crlf ++ rest) m (crlf ++ more) → (l ≡ m) × (rest ≡ more)
    at (same_length left right) =
        let ends : carriage_return ∷ line_feed ∷ rest ≡ carriage_return ∷ line_feed ∷ more = right in
        (left, cc)
    at (first_longer b z longer is) = absurd (no_longer z l m rest more b l_folded m_cut longer is)
    at (second_longer b z longer is) = absurd (no_longer z m l more rest b m_folded l_cut longer is)

-- a line with its end is not empty
end_some : (l rest : List ℕ) → [] ≡ with_end l ++ rest → ⊥
end_some l rest is = absurd (omega (arith, ap length is, length-append (with_end l) rest, length-append l crlf))

-- no line begins with a blank
abbrev pub AreCut : List (List ℕ) → Type 0
AreCut = AllByRecursion (λ line. ¬ (OpensBlank line))

-- lines that have no line end in them but folds, and do not begin with a blank, are told by their text
pub same_later : (ls ms : List (List ℕ)) → AllByRecursion IsFolded ls → AllByRecursion IsFolded ms → AreCut ls → AreCut ms → flat_map with_end ls ≡ flat_map with_end ms → ls ≡ ms
-- no lines are left in either reading
same_later [] [] lf mf lc mc same = refl
-- one reading has a line more, which is not empty
same_later [] (m ∷ ms) lf mf lc mc same = absurd (end_some m _ same)
same_later (l ∷ ls) [] lf mf lc mc same = absurd (end_some l _ (sym same))
-- both have a first line: it is the same, and so is what follows it
same_later (l ∷ ls) (m ∷ ms) lf mf lc mc same =
    let first = same_first l m _ _ lf.0 mf.0 (no_blank ls lc.1) (no_blank ms mc.1) same in
    ap (λ t. t ∷ ls) first.0 ∙ ap (λ ts. m ∷ ts) (same_later ls ms lf.1 mf.1 lc.1 mc.1 first.1)

-- a head has its lines in one way
-- the head has the first line l and the others ls, and the first line m and the others ms
pub same_lines : (head l m : List ℕ) (ls ms : List (List ℕ)) → LinesSay head l ls → LinesSay head m ms → (l ≡ m) × (ls ≡ ms)
same_lines head l m ls ms one other =
    -- the first lines are the same, and so is what follows them
    let first = same_first l m _ _ one.folded.0 other.folded.0 (no_blank ls one.cut) (no_blank ms other.cut) (sym one.whole ∙ other.whole) in
    (first.0, same_later ls ms one.folded.1 other.folded.1 one.cut other.cut first.1)

-- a line without its first byte has its folds
folded-tail : (b : ℕ) (l : List ℕ) → IsFolded (b ∷ l) → IsFolded l
folded-tail b l folded u v is = folded (b ∷ u) v (ap (λ t. b ∷ t) is)

-- a byte before a line makes a line where the byte does not make a line end that no blank follows
-- b is the byte and l the line; v is what would follow a line end that b makes
folded-cons : (b : ℕ) (l : List ℕ) → IsFolded l → ((v : List ℕ) → b ∷ l ≡ carriage_return ∷ line_feed ∷ v → OpensBlank v) → IsFolded (b ∷ l)
folded-cons b l folded first [] v is = first v is
-- the line end lies in the line, without the byte before it
folded-cons b l folded first (a ∷ u) v is = let tails : l ≡ u ++ (crlf ++ v) = cc in folded u v tails

-- where a text is lines, a byte before it makes lines, too
-- the text is the first line l and the others ls; with the byte b before it, it is the first line m and the others ms
lines-cons : (b : ℕ) (text l : List ℕ) (ls : List (List ℕ)) → LinesSay text l ls → (m : List ℕ) × (ms : List (List ℕ)) × LinesSay (b ∷ text) m ms
-- the first line is empty, and the byte alone is the first line now
lines-cons b text [] ls is =
    (b ∷ [], ls, record { whole = ap (λ t. b ∷ t) is.whole; folded = (folded-cons b [] is.folded.0 (λ v e. absurd (omega (arith, ap length e))), is.folded.1); cut = is.cut })
lines-cons b text (a ∷ l) ls is = at l refl (nat_eq b carriage_return) (nat_eq a line_feed) refl refl
  where
    -- the byte comes to the front of the first line, where a CRLF that it makes has a blank after it
    -- m is the first line with the byte, and ms are the others
    longer : ((v : List ℕ) → b ∷ a ∷ l ≡ carriage_return ∷ line_feed ∷ v → OpensBlank v) → (m : List ℕ) × (ms : List (List ℕ)) × LinesSay (b ∷ text) m ms
    longer first = (b ∷ a ∷ l, ls, record { whole = ap (λ t. b ∷ t) is.whole; folded = (folded-cons b (a ∷ l) is.folded.0 first, is.folded.1); cut = is.cut })

    -- the byte and the next one are CR and LF, which end an empty line, if no blank follows
    ends : b ≡ carriage_return → a ≡ line_feed → (OpensBlank l → ⊥) → (m : List ℕ) × (ms : List (List ℕ)) × LinesSay (b ∷ text) m ms
    ends b_is a_is none = (
      -- the first line is empty, and the former first line, without its first byte, is the second one
      [],
      l ∷ ls,
      record {
        whole = ap (λ t. b ∷ t) is.whole ∙ ap (λ x. x ∷ a ∷ (with_end l ++ flat_map with_end ls)) b_is ∙ ap (λ x. carriage_return ∷ x ∷ (with_end l ++ flat_map with_end ls)) a_is;
        folded = ((λ u v e. absurd (omega (arith, ap length e, length-append u (crlf ++ v)))), (folded-tail a l is.folded.0, is.folded.1));
        cut = (none, is.cut);
      },
    )

    -- the claim holds whether or not the byte and the next one are CR and LF
    -- x says whether the byte is CR, and y whether the next one is LF; t is the rest of the first line
    at : (t : List ℕ) → t ≡ l → (x y : Bool) → nat_eq b carriage_return ≡ x → nat_eq a line_feed ≡ y → (m : List ℕ) × (ms : List (List ℕ)) × LinesSay (b ∷ text) m ms
    at t same false y x_is y_is = longer (λ v e. let head : b ≡ carriage_return = cc in absurd (both_ways (nat_eq b carriage_return) x_is (eq-eqb b carriage_return head)))
    at t same true false x_is y_is = longer (λ v e. let head : a ≡ line_feed = cc in absurd (both_ways (nat_eq a line_feed) y_is (eq-eqb a line_feed head)))
    -- CR and LF stand there, and the first line has nothing after them
    at [] same true true x_is y_is = ends (eqb-true b carriage_return x_is) (eqb-true a line_feed y_is) (λ begins. subst OpensBlank (sym same) begins)
    -- CR and LF stand there, and c follows them
    at (c ∷ t) same true true x_is y_is = blank (is_wsp c) refl
      where
        -- the claim holds whether or not a blank follows the CR and LF
        -- z is whether a blank follows; m is the first line with the byte, and ms are the others
        blank : (z : Bool) → is_wsp c ≡ z → (m : List ℕ) × (ms : List (List ℕ)) × LinesSay (b ∷ text) m ms
        -- a blank follows: it is a fold, and the byte comes to the front of the line
        blank true z_is = longer (λ v e. let rest : l ≡ v = cc in subst OpensBlank (same ∙ rest) z_is)
        -- no blank follows: it is the end of an empty line
        blank false z_is = ends (eqb-true b carriage_return x_is) (eqb-true a line_feed y_is) (λ begins. both_ways (is_wsp c) z_is (subst OpensBlank (sym same) begins))

-- any text with a CRLF after it is lines
pub front-lines : (front : List ℕ) → (l : List ℕ) × (ls : List (List ℕ)) × LinesSay (front ++ crlf) l ls
-- CRLF alone is one empty line
front-lines [] = ([], [], record { whole = refl; folded = ((λ u v e. absurd (omega (arith, ap length e, length-append u (crlf ++ v)))), tt); cut = tt })
-- the byte is put before the lines of the rest
front-lines (b ∷ front) = let more = front-lines front in lines-cons b (front ++ crlf) more.0 more.1 more.2

-- each head is one line or more
pub head-lines : (bytes head body : List ℕ) → CutSays bytes (head, body) → (l : List ℕ) × (ls : List (List ℕ)) × LinesSay head l ls
head-lines bytes head body is =
    -- a head is a front with a CRLF after it
    let lines = front-lines is.front in (lines.0, lines.1, subst (λ h. LinesSay h lines.0 lines.1) (sym is.head_is) lines.2)
