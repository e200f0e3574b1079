-- Repetitions of texts in which blanks may stand: quoted strings, and the values that are not looked into.
-- In the lemmas b, c and d are bytes, u, w, y and z what follows one in a text, and P is the set of the items.
-- `Cuts` tells of two cuts of one text which first part is longer, if one is: `first_longer`, `same_length`, `second_longer`.
use Rattle.std.proofs.Common.{◌≡◌, ℕ, Bool, true, false, not, List, [], ◌∷◌, ◌++◌, length, refl, sym, ap, ◌∙◌, subst, inl, inr, arith}
use Rattle.std.specs.List.{AllByRecursion, concat}
use Rattle.std.proofs.lemmas.Bool.{both_ways}
use Rattle.std.proofs.lemmas.List.{append_assoc, append-nil, length-append}
use Rattle.sip_standard.specs.Text.{One, ◌or◌, Many}
use Rattle.sip_standard.specs.Profile.{Lws}
use Rattle.sip_text.specs.Bytes.{space, backslash}
use Rattle.sip_text.specs.inner.Blanks.{is_wsp}
use Rattle.sip_text.specs.inner.Class.{is_quoted_byte}
use Rattle.sip_text.specs.inner.Pieces.{Qdtext, QuotedPair}
use Rattle.sip_text.proofs.texts.ManyLemmas.{many-nil, many-cons}
use Rattle.sip_message.specs.inner.FieldText.{EndsSolid, OpensSolid}
use Rattle.sip_standard.specs.Field.{is_lws_byte}
use Rattle.sip_message.specs.inner.Values.{is_value_byte, OtherText}
use Rattle.sip_message.proofs.lemmas.text.Cuts.{Cuts, first_longer, same_length, second_longer, two_cuts, All, all_left, all_right}
use Rattle.sip_message.proofs.lemmas.text.Each.{each-lws, is_solid, solid_class}
use Rattle.sip_message.proofs.lemmas.field.OneWay.{ends_blank}
use Rattle.sip_message.proofs.lemmas.text.Closed.{Closed, not_both, ends-right}

-- the text is bytes that are no blanks, and then blanks; where there are any, the text with one SP in their place is of P
pub record IsItem (P : List ℕ → Type 0) (text : List ℕ) : Type 0 where
  pub front : List ℕ
  pub back : List ℕ
  pub solid : All is_solid front
  pub blank : All is_lws_byte back
  pub joins : (b : ℕ) (w : List ℕ) → back ≡ b ∷ w → P (front ++ space ∷ [])
  pub whole : text ≡ front ++ back

-- an item that begins with a blank is blanks alone
item_blanks : (P : List ℕ → Type 0) (b : ℕ) (u : List ℕ) → is_lws_byte b ≡ true → IsItem P (b ∷ u) → All is_lws_byte (b ∷ u)
item_blanks P b u blank item = at item.front item.solid item.whole
  where
    -- the item has no front that is not blank, since it begins with a blank
    at : (front : List ℕ) → All is_solid front → b ∷ u ≡ front ++ item.back → All is_lws_byte (b ∷ u)
    at [] solid whole = subst (All is_lws_byte) (sym whole) item.blank
    at (c ∷ front) solid whole =
        let head : b ≡ c = cc in
        absurd (not_both c solid.0 (subst (λ x. is_lws_byte x ≡ true) head blank))

-- where items are blanks and then v, which does not begin with a blank, v is items
-- us are the items, and w is the blanks
skip : (P : List ℕ → Type 0) → ((u : List ℕ) → P u → IsItem P u) → (us : List (List ℕ)) (w v : List ℕ) → AllByRecursion P us → All is_lws_byte w → OpensSolid v → concat us ≡ w ++ v → Many P v
-- where no blank is left, the items are v; no items are no blanks; an empty item is passed over; else the first item is cut against the blanks
skip P item us [] v all blanks opens is = (us, all, sym is)
skip P item [] (b ∷ w) v all blanks opens is = absurd (omega (arith, ap length is))
skip P item ([] ∷ us) (b ∷ w) v all blanks opens is = skip P item us (b ∷ w) v all.1 blanks opens is
skip P item ((a ∷ p) ∷ us) (b ∷ w) v all blanks opens is =
    at (λ d y y_blanks y_is. skip P item us (d ∷ y) v all.1 y_blanks opens y_is) (two_cuts (a ∷ p) (concat us) (b ∷ w) v is)
  where
    -- the claim holds whether the first item is as long as the blanks, longer or shorter
    at : ((d : ℕ) (y : List ℕ) → All is_lws_byte (d ∷ y) → concat us ≡ (d ∷ y) ++ v → Many P v) → Cuts (a ∷ p) (concat us) (b ∷ w) v → Many P v
    -- as long: what follows the item is v
    at later (same_length front rest) = (us, all.1, sym rest)
    -- longer: the item would hold blanks and the first byte of v, which is none
    at later (first_longer d y longer v_is) =
        let head : a ≡ b = cc in
        let each = item_blanks P a p (subst (λ x. is_lws_byte x ≡ true) (sym head) blanks.0) (item (a ∷ p) all.0) in
        absurd (both_ways (is_lws_byte d) (subst OpensSolid v_is opens) (all_right is_lws_byte (b ∷ w) (d ∷ y) (subst (All is_lws_byte) longer each)).0)
    -- shorter: more blanks follow it
    at later (second_longer d y longer us_is) =
        later d y (all_right is_lws_byte (a ∷ p) (d ∷ y) (subst (All is_lws_byte) longer blanks)) us_is

-- where blanks that end an item begin after u, u with one SP after it is of P, and the item is u and blanks
item_cut : (P : List ℕ → Type 0) (p u : List ℕ) (c : ℕ) (z : List ℕ) → EndsSolid u → is_lws_byte c ≡ true → p ≡ u ++ c ∷ z → IsItem P p → P (u ++ space ∷ []) × All is_lws_byte (c ∷ z)
item_cut P p u c z ends blank p_is item = at (two_cuts item.front item.back u (c ∷ z) (sym item.whole ∙ p_is))
  where
    -- the claim holds whether the blanks begin where the item's own blanks begin, or within these
    at : Cuts item.front item.back u (c ∷ z) → P (u ++ space ∷ []) × All is_lws_byte (c ∷ z)
    -- at the same place: then u with one SP joins as the item says
    at (same_length front back) =
        (subst (λ t. P (t ++ space ∷ [])) front (item.joins c z back), subst (All is_lws_byte) back item.blank)
    -- the item would be longer by a byte that is a blank and none
    at (first_longer d y longer is) =
        let heads : c ≡ d = cc in
        absurd (not_both d (all_right is_solid u (d ∷ y) (subst (All is_solid) longer item.solid)).0 (subst (λ x. is_lws_byte x ≡ true) heads blank))
    -- within these: then u would end with a blank
    at (second_longer d y longer is) =
        absurd (ends_blank item.front d y (subst EndsSolid longer ends) (all_left is_lws_byte (d ∷ y) (c ∷ z) (subst (All is_lws_byte) is item.blank)))

-- where a run of blanks begins within an item and goes on into the items after it, what follows the run is items
-- b and w are the run; c and z are its part in the first item, us are the other items, and v follows the run
behind_run : (P : List ℕ → Type 0) → ((u : List ℕ) → P u → IsItem P u) → (us : List (List ℕ)) (v : List ℕ) (b : ℕ) (w : List ℕ) (c : ℕ) (z : List ℕ) → OpensSolid v → All is_lws_byte (b ∷ w) → AllByRecursion P us → All is_lws_byte (c ∷ z) → Cuts (b ∷ w) v (c ∷ z) (concat us) → Many P v
-- the run ends with the first item: the others are what follows it
behind_run P item us v b w c z opens blanks all run (same_length front back) = (us, all, back)
-- the run goes on after it: its rest is passed over in the others
behind_run P item us v b w c z opens blanks all run (first_longer d y longer is) =
    skip P item us (d ∷ y) v all (all_right is_lws_byte (c ∷ z) (d ∷ y) (subst (All is_lws_byte) longer blanks)) opens is
-- the run would end within the first item, and v would begin with a blank
behind_run P item us v b w c z opens blanks all run (second_longer d y longer is) =
    absurd (both_ways (is_lws_byte d) (subst OpensSolid is opens) (all_right is_lws_byte (b ∷ w) (d ∷ y) (subst (All is_lws_byte) longer run)).0)

-- items in which a run of blanks is replaced by one SP are items
-- the items us make the text x, the run, which is b and w, and then v
items_run : (P : List ℕ → Type 0) → ((u : List ℕ) → P u → IsItem P u) → (us : List (List ℕ)) (x v : List ℕ) (b : ℕ) (w : List ℕ) → EndsSolid x → OpensSolid v → All is_lws_byte (b ∷ w) → AllByRecursion P us → concat us ≡ x ++ ((b ∷ w) ++ v) → Many P (x ++ space ∷ v)
-- without items there is no run
items_run P item [] x v b w ends opens blanks all is = absurd (omega (arith, ap length is, length-append x ((b ∷ w) ++ v)))
items_run P item (p ∷ us) x v b w ends opens blanks all is =
    at (λ y y_ends y_is. items_run P item us y v b w y_ends opens blanks all.1 y_is) (two_cuts p (concat us) x ((b ∷ w) ++ v) is)
  where
    -- the claim holds whether the run begins in the first item, at its end, or in the others
    at : ((y : List ℕ) → EndsSolid y → concat us ≡ y ++ ((b ∷ w) ++ v) → Many P (y ++ space ∷ v)) → Cuts p (concat us) x ((b ∷ w) ++ v) → Many P (x ++ space ∷ v)
    -- the run begins where the first item ends
    at later (same_length front back) =
        subst (λ t. Many P (t ++ space ∷ v)) front (many-cons P p (space ∷ v) all.0 (later [] tt back))
    -- the blanks begin after the first item
    at later (second_longer c z longer back) =
        subst (Many P) (sym (append_assoc p (c ∷ z) (space ∷ v)) ∙ ap (λ t. t ++ space ∷ v) (sym longer))
        (many-cons P p ((c ∷ z) ++ space ∷ v) all.0 (later (c ∷ z) (ends-right p c z (subst EndsSolid longer ends)) back))
    -- the blanks begin within the first item, and go on after it
    at later (first_longer c z longer back) =
        let heads : b ≡ c = cc in
        let cut = item_cut P p x c z ends (subst (λ t. is_lws_byte t ≡ true) heads blanks.0) longer (item p all.0) in
        subst (Many P) (append_assoc x (space ∷ []) v)
        (many-cons P (x ++ space ∷ []) v cut.0 (behind_run P item us v b w c z opens blanks all.1 cut.1 (two_cuts (b ∷ w) v (c ∷ z) (concat us) back)))

-- any number of texts of P stay so when a run of blanks in them becomes one SP, if each text of P is an item
pub closed-items : (P : List ℕ → Type 0) → ((u : List ℕ) → P u → IsItem P u) → Closed (Many P)
closed-items P item u v b w ends opens blanks many =
    items_run P item many.0 u v b w ends opens blanks many.1 (sym many.2)

-- SP is an LWS
pub lws-space : Lws (space ∷ [])
lws-space = ([], space ∷ [], inl refl, (space ∷ [], [], (space, refl, refl), many-nil (One is_wsp), refl), refl)

-- an LWS is an item where P has one SP
item-lws : (P : List ℕ → Type 0) → P (space ∷ []) → (u : List ℕ) → Lws u → IsItem P u
-- it has nothing but blanks
item-lws P one u lws = record { front = []; back = u; solid = tt; blank = each-lws u lws; joins = λ b w is. one; whole = refl }

-- a text without blanks is an item
item-solid : (P : List ℕ → Type 0) (u : List ℕ) → All is_solid u → IsItem P u
-- it has no blanks, so that nothing is put in their place
item-solid P u solid = record { front = u; back = []; solid = solid; blank = tt; joins = λ b w is. absurd (omega (arith, ap length is)); whole = sym (append-nil u) }

-- a byte of a class without blanks is an item
item-one : (P : List ℕ → Type 0) (class : ℕ → Bool) → ((b : ℕ) → class b ≡ true → is_solid b ≡ true) → (u : List ℕ) → One class u → IsItem P u
item-one P class solid u one = item-solid P u (subst (All is_solid) (sym one.2) (solid one.0 one.1, tt))

-- a quoted pair is an item where P has a quoted pair with SP: its second byte may be a blank
item-pair : (P : List ℕ → Type 0) → P (backslash ∷ space ∷ []) → (u : List ℕ) → QuotedPair u → IsItem P u
-- p is the backslash and q the byte b after it
item-pair P one u (p, q, is_p, (b, escaped, q_is), whole) = at (is_lws_byte b) refl
  where
    -- a quoted pair is a backslash and the byte b
    text : u ≡ backslash ∷ b ∷ []
    text = whole ∙ ap (λ t. t ++ q) is_p ∙ ap (λ t. backslash ∷ t) q_is

    -- the claim holds whether or not the second byte is a blank
    at : (blank : Bool) → is_lws_byte b ≡ blank → IsItem P u
    at true blank = record { front = backslash ∷ []; back = b ∷ []; solid = (refl, tt); blank = (blank, tt); joins = λ c w is. one; whole = text }
    at false blank = item-solid P u (subst (All is_solid) (sym text) (refl, (ap not blank, tt)))

-- the set of contents of quoted strings is closed under making one SP of a blank run
pub closed-contents : Closed (Many (Qdtext or QuotedPair))
closed-contents = closed-items (Qdtext or QuotedPair) item
  where
    -- each piece of the contents is an item
    item : (u : List ℕ) → (Qdtext or QuotedPair) u → IsItem (Qdtext or QuotedPair) u
    -- blanks, a byte of text, or a backslash with its byte
    item u (inl (inl lws)) = item-lws (Qdtext or QuotedPair) (inl (inl lws-space)) u lws
    item u (inl (inr one)) = item-one (Qdtext or QuotedPair) is_quoted_byte (solid_class is_quoted_byte refl refl refl refl) u one
    item u (inr pair) = item-pair (Qdtext or QuotedPair) (inr (backslash ∷ [], space ∷ [], refl, (space, refl, refl), refl)) u pair

-- the set of values that are not looked into is closed under making one SP of a blank run
pub closed-other : Closed OtherText
closed-other = closed-items (Lws or One is_value_byte) item
  where
    -- each piece of the value is an item
    item : (u : List ℕ) → (Lws or One is_value_byte) u → IsItem (Lws or One is_value_byte) u
    -- blanks, or a byte of the value
    item u (inl lws) = item-lws (Lws or One is_value_byte) (inl lws-space) u lws
    item u (inr one) = item-one (Lws or One is_value_byte) is_value_byte (solid_class is_value_byte refl refl refl refl) u one
