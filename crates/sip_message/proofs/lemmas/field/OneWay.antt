-- A line is a field in one way.
-- `Cuts` tells of two cuts of one text which first part is longer, if one is: `first_longer`, `same_length`, `second_longer`.
use Rattle.std.proofs.Common.{◌≡◌, ℕ, true, false, List, [], ◌∷◌, ◌++◌, refl, sym, ap, ◌∙◌, subst}
use Rattle.std.proofs.lemmas.Bool.{both_ways}
use Rattle.sip_standard.specs.Text.{One, Many}
use Rattle.sip_standard.specs.Profile.{Token}
use Rattle.sip_text.specs.Bytes.{colon, is_token_byte}
use Rattle.sip_text.specs.inner.Blanks.{is_wsp}
use Rattle.sip_message.specs.Name.{FieldName, name_of}
use Rattle.sip_message.specs.inner.FieldText.{NameText, ValueText, EndsSolid, OpensSolid}
use Rattle.sip_standard.specs.Field.{is_lws_byte}
use Rattle.sip_message.proofs.lemmas.text.Cuts.{Cuts, first_longer, same_length, second_longer, two_cuts, same_front, Stops, All, all_left, all_right, all_both}
use Rattle.sip_message.proofs.lemmas.text.Each.{Each, each-one, each-some, each-many, each-sws, blank_is, wsp-blank}

-- all bytes of a token are bytes of tokens
pub each-token : Each is_token_byte Token
-- a token is bytes of this class, one or more
each-token = each-some is_token_byte _ (each-one is_token_byte is_token_byte (λ b is. is))

-- no blank is a byte of a token
pub blank-token : (b : ℕ) → is_lws_byte b ≡ true → is_token_byte b ≡ false
-- SP, HTAB, CR and LF are tried, by computing
blank-token = blank_is (λ b. is_token_byte b ≡ false) refl refl refl refl

-- all bytes of WSP in a row are WSP
pub each-wsp : Each is_wsp (Many (One is_wsp))
each-wsp = each-many is_wsp _ (each-one is_wsp is_wsp (λ b is. is))

-- a line with a name is the token that spells it, blanks, a colon and the rest
pub name_whole : (line rest : List ℕ) (name : FieldName) (n : NameText line name rest) → line ≡ n.spelled ++ (n.whole.3.0 ++ colon ∷ rest)
name_whole line rest name n =
    -- w is the parts of the line: the name w.0, the blanks w.3.0, and the colon with the rest
    let w = n.whole in
    w.4 ∙ ap (λ t. t ++ w.1) w.2
    ∙ ap (λ t. n.spelled ++ t) (w.3.4 ∙ ap (λ t. w.3.0 ++ t) (w.3.3.4 ∙ ap (λ t. t ++ w.3.3.1) w.3.3.2 ∙ ap (λ t. colon ∷ t) w.3.3.3))

-- SP and HTAB with a colon after them begin with no byte of a token
pub name_stops : (blanks rest : List ℕ) → All is_wsp blanks → Stops is_token_byte (blanks ++ colon ∷ rest)
-- the colon is no byte of a token
name_stops [] rest all = refl
-- a blank is no byte of a token
name_stops (b ∷ blanks) rest all = blank-token b (wsp-blank b all.0)

-- a line has at most one name, and one rest after it
-- the line has the name n with the rest r, and the name m with the rest s
pub same_name : (line r s : List ℕ) (n m : FieldName) → NameText line n r → NameText line m s → (n ≡ m) × (r ≡ s)
same_name line r s n m one other =
    -- the blanks that stand between the name and the colon, by the two readings
    let blanks = one.whole.3.0 in
    let spaces = other.whole.3.0 in
    let wsp = each-wsp blanks one.whole.3.2 in
    let wsp_too = each-wsp spaces other.whole.3.2 in
    -- both names end at the first byte that no token has
    let names = same_front is_token_byte one.spelled _ other.spelled _ (each-token _ one.is_token) (each-token _ other.is_token)
    (name_stops blanks r wsp) (name_stops spaces s wsp_too) (sym (name_whole line r n one) ∙ name_whole line s m other) in
    -- both runs of blanks end at the colon
    let rests = same_front is_wsp blanks (colon ∷ r) spaces (colon ∷ s) wsp wsp_too refl refl names.1 in
    let tails : colon ∷ r ≡ colon ∷ s = rests.1 in
    (one.name_is ∙ ap name_of names.0 ∙ sym other.name_is, cc)

-- a text that does not end with a blank does not end with blanks
-- b and z are the blanks, and u is the text before them
pub ends_blank : (u : List ℕ) (b : ℕ) (z : List ℕ) → EndsSolid (u ++ b ∷ z) → All is_lws_byte (b ∷ z) → ⊥
-- the last of the blanks is the last byte of the text, which is no blank
ends_blank [] b [] ends all = both_ways (is_lws_byte b) ends all.0
-- what stands before the last byte is left out, byte by byte
ends_blank [] b (c ∷ z) ends all = ends_blank [] c z ends all.1
ends_blank (a ∷ []) b z ends all = ends_blank [] b z ends all
ends_blank (a ∷ c ∷ u) b z ends all = ends_blank (c ∷ u) b z ends all

-- where u and then blanks v are the same text as x and then blanks y, and neither u nor x ends with a blank, u is x
pub same_solid : (u v x y : List ℕ) → EndsSolid u → EndsSolid x → All is_lws_byte v → All is_lws_byte y → u ++ v ≡ x ++ y → u ≡ x
same_solid u v x y us xs vs ys same = at (two_cuts u v x y same)
  where
    -- u and x are the same: neither is longer, since what follows would begin with a byte that is no blank
    at : Cuts u v x y → u ≡ x
    at (same_length left right) = left
    -- u would be longer, and end with the blanks b and z, with which y begins
    at (first_longer b z longer is) =
        absurd (ends_blank x b z (subst EndsSolid longer us) (all_left is_lws_byte (b ∷ z) v (subst (All is_lws_byte) is ys)))
    -- x would be longer, and end with the blanks b and z, with which v begins
    at (second_longer b z longer is) =
        absurd (ends_blank u b z (subst EndsSolid longer xs) (all_left is_lws_byte (b ∷ z) y (subst (All is_lws_byte) is vs)))

-- what follows the colon is blanks, the value, and blanks
value_whole : (rest value : List ℕ) (v : ValueText rest value) → rest ≡ v.whole.0 ++ (value ++ v.whole.3.1)
value_whole rest value v =
    -- w is the parts: the blanks w.0, the value, and the blanks w.3.1
    let w = v.whole in
    w.4 ∙ ap (λ t. w.0 ++ t) (w.3.4 ∙ ap (λ t. t ++ w.3.1) w.3.2)

-- what follows the colon has one value: what stands between the longest blank runs at its ends
pub same_value : (rest value other : List ℕ) → ValueText rest value → ValueText rest other → value ≡ other
same_value rest value other one two =
    at value other one.opens one.ends two.opens two.ends (sym (value_whole rest value one) ∙ value_whole rest other two)
  where
    -- only blanks stand before the one value
    front : All is_lws_byte one.whole.0
    front = each-sws _ one.whole.2

    -- only blanks stand before the other value
    front_too : All is_lws_byte two.whole.0
    front_too = each-sws _ two.whole.2

    -- only blanks stand after the one value
    back : All is_lws_byte one.whole.3.1
    back = each-sws _ one.whole.3.3

    -- only blanks stand after the other value
    back_too : All is_lws_byte two.whole.3.1
    back_too = each-sws _ two.whole.3.3

    -- two values between blank runs at the ends of one text are the same
    at : (v w : List ℕ) → OpensSolid v → EndsSolid v → OpensSolid w → EndsSolid w → one.whole.0 ++ (v ++ one.whole.3.1) ≡ two.whole.0 ++ (w ++ two.whole.3.1) → v ≡ w
    -- both are empty
    at [] [] vo ve wo we same = refl
    -- where the one value is empty the text has blanks alone, so that the other is empty
    at [] (b ∷ w) vo ve wo we same =
        let all : All is_lws_byte (two.whole.0 ++ (b ∷ w ++ two.whole.3.1)) = subst (All is_lws_byte) same (all_both is_lws_byte one.whole.0 one.whole.3.1 front back) in
        absurd (both_ways (is_lws_byte b) wo (all_right is_lws_byte two.whole.0 (b ∷ w ++ two.whole.3.1) all).0)
    -- where the other value is empty the text has blanks alone, so that the one is empty
    at (b ∷ v) [] vo ve wo we same =
        let all : All is_lws_byte (one.whole.0 ++ (b ∷ v ++ one.whole.3.1)) = subst (All is_lws_byte) (sym same) (all_both is_lws_byte two.whole.0 two.whole.3.1 front_too back_too) in
        absurd (both_ways (is_lws_byte b) vo (all_right is_lws_byte one.whole.0 (b ∷ v ++ one.whole.3.1) all).0)
    -- both values begin where the blanks end, and end before the last ones
    at (b ∷ v) (c ∷ w) vo ve wo we same =
        same_solid (b ∷ v) one.whole.3.1 (c ∷ w) two.whole.3.1 ve we back back_too (same_front is_lws_byte one.whole.0 _ two.whole.0 _ front front_too vo wo same).1
