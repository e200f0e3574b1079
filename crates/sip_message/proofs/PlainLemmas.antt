-- Plain parts of values, and the texts of the grammar that they are.
-- In the lemmas `at`, mid, to and end are places of a text in this order, and u is a text.
-- `PlainRun` is one plain byte or more, and `PlainParam` is ";" and a parameter right after it.
use Rattle.std.proofs.Common.{◌≡◌, ℕ, suc, ◌+◌, ◌-◌, ◌<◌, ◌≤◌, true, ◌&&◌, ◌||◌, List, [], ◌∷◌, ◌++◌, Option, None, Some, length, take, drop, get_or, refl, sym, ap, ap₂, ◌∙◌, subst, inl, inr, arith}
use Rattle.std.specs.Prelude.{codes}
use Rattle.std.specs.Char.{is_ascii_alphanumeric}
use Rattle.std.specs.List.{AllByRecursion, prefix_len}
use Rattle.std.proofs.Math.Seq.{drop-cons, take-add}
use Rattle.std.proofs.lemmas.List.Sums.{prefix_len_passes}
use Rattle.std.proofs.lemmas.Bool.{both_ways, agree_below_at, and_parts, or_cases, cases_lt}
use Rattle.std.proofs.lemmas.List.{get_or-drop, drop-drop, append_assoc, append-nil, length-append, length-drop, length-take-le}
use Rattle.sip_standard.specs.Text.{One, Exactly, ◌then◌, ◌or◌, Optional}
use Rattle.sip_standard.specs.Chars.{is_among}
use Rattle.sip_standard.specs.Profile.{Token, Sws, Blanks, Host, User, Userinfo, Port, Uri}
use Rattle.sip_text.specs.Bytes.{carriage_return, colon, equals, semicolon, space, Byte}
use Rattle.sip_text.specs.inner.Class.{is_unreserved, is_user_unreserved}
use Rattle.sip_text.specs.inner.Pieces.{Escaped}
use Rattle.sip_text.proofs.texts.ManyLemmas.{many-nil, many-cons, many-push, append_cancel_both}
use Rattle.sip_text.proofs.uris.UriCharLemmas.{some-map}
use Rattle.sip_masks.specs.Marks.{is_plain}
use Rattle.sip_message.specs.inner.Marks.{Mark}
use Rattle.sip_message.specs.inner.AddressFronts.{Words}
use Rattle.sip_message.specs.inner.Plain.{segment, EndsAt, LiesWithin, PlainRun, HostPort, PlainParam}
use Rattle.sip_message.proofs.QuickLemmas.{low-one, plain-token}
use Rattle.sip_message.proofs.lemmas.front.Prefix.{prefix-at, all-some}
use Rattle.sip_message.specs.inner.ParamFronts.{ParamText, GenericParams}
use Rattle.sip_message.proofs.lemmas.params.Closed.{blanks-space}
use Rattle.sip_message.proofs.lemmas.params.Reading.{text-generic}

-- a segment is its part up to a place within it and its part from there on
pub segment-cut : (text : List ℕ) (at mid to : ℕ) → at ≤ mid → mid ≤ to → segment at to text ≡ segment at mid text ++ segment mid to text
segment-cut text at mid to first second =
    -- the bytes from `at` to `to` are those up to `mid` and those from there on; `mid - at` bytes after `at` is `mid`
    let count : to - at ≡ (mid - at) + (to - mid) = omega (arith, first, second) in
    let place : at + (mid - at) ≡ mid = omega (arith, first) in
    ap (λ n. take n (drop at text)) count ∙ take-add (mid - at) (to - mid) (drop at text)
    ∙ ap (λ t. segment at mid text ++ take (to - mid) t) (drop-drop (mid - at) at text ∙ ap (λ k. drop k text) place)

-- the segment from a place up to the same place is empty
pub segment-none : (text : List ℕ) (at : ℕ) → segment at at text ≡ []
segment-none text at =
    -- no bytes are taken
    let none : at - at ≡ 0 = omega arith in
    ap (λ n. take n (drop at text)) none

-- a segment that begins with a SP is the SP and the segment after it
pub segment-space : (text : List ℕ) (at end : ℕ) → at < end → end ≤ length text → get_or text at 0 ≡ space → segment at end text ≡ space ∷ segment (at + 1) end text
segment-space text at end some within is =
    -- the segment has a byte, and the others begin at the next place
    let count : end - at ≡ suc (end - (at + 1)) = omega (arith, some) in
    let next : suc at ≡ at + 1 = omega arith in
    ap₂ (λ n t. take n t) count (drop-cons text at 0 (omega (arith, some, within)) ∙ ap₂ (λ b k. b ∷ drop k text) is next)

-- where a text of P lies between two places, and a text of Q from the second one on, a text of P and then Q lies from the first one on
pub then-stands : (P Q : List ℕ → Type 0) (text : List ℕ) (at end mid to : ℕ) → LiesWithin P text at end mid → LiesWithin Q text mid end to → LiesWithin (P then Q) text at end to
then-stands P Q text at end mid to p q =
    -- the first part ends where the second begins
    (omega (arith, p.0, q.0), q.1, (segment at mid text, segment mid to text, p.2, q.2, segment-cut text at mid to p.0 q.0))

-- where a text of P lies between two places, and each text of P is of Q, a text of Q lies there
-- the text of P, u, lies between the places `at` and `to`, of which `to` is not after `end`
pub stands-as : (P Q : List ℕ → Type 0) (text : List ℕ) (at end to : ℕ) → ((u : List ℕ) → P u → Q u) → LiesWithin P text at end to → LiesWithin Q text at end to
stands-as P Q text at end to turn p = (p.0, p.1, turn (segment at to text) p.2)

-- where the segment up to the end is of P, a text of P lies up to the end
pub whole-stands : (P : List ℕ → Type 0) (text : List ℕ) (at end : ℕ) → at ≤ end → P (segment at end text) → LiesWithin P text at end end
whole-stands P text at end within p = (within, omega arith, p)

-- the plain bytes from a place on end before the CR at the end of the line
pub run-ends : (text : List ℕ) (at end n : ℕ) → at ≤ end → EndsAt text end → n ≡ prefix_len is_plain (drop at text) → at + n ≤ end
run-ends text at end n before (within, stop) is =
    elim (cases_lt (end - at) n) [
      -- if the run went past the end, the CR there would be one of its bytes, but it is not plain
      | inl past ↦
          let place : at + (end - at) ≡ end = omega (arith, before) in
          let byte : get_or (drop at text) (end - at) 0 ≡ carriage_return = get_or-drop at text (end - at) 0 ∙ ap (λ k. get_or text k 0) place ∙ stop in
          let plain = prefix_len_passes is_plain (drop at text) (end - at) 0 (subst (λ k. end - at < k) is past) in
          absurd (both_ways _ (ap is_plain byte) plain)
      | inr most ↦ omega (arith, before, most)
    ]

-- a byte that is no control and stands at a place of the line stands before the CR at its end
pub byte-before : (text : List ℕ) (at end byte : ℕ) → at ≤ end → EndsAt text end → 32 ≤ byte → get_or text at 0 ≡ byte → at < end
byte-before text at end byte before (within, stop) mark is =
    elim (cases_lt at end) [
      -- at the end the byte would be the CR, which is a control
      | inl less ↦ less
      | inr most ↦
          let same : at ≡ end = omega (arith, before, most) in
          absurd (omega (arith, mark, is, stop, ap (λ k. get_or text k 0) same))
    ]

-- a colon that follows the plain bytes from a place on stands before the CR at the end of the line
pub colon-before : (text : List ℕ) (at end n : ℕ) → at ≤ end → EndsAt text end → n ≡ prefix_len is_plain (drop at text) → get_or text (at + n) 0 ≡ colon → at + n < end
colon-before text at end n before ends is mark = byte-before text (at + n) end colon (run-ends text at end n before ends is) ends (omega arith) mark

-- where some plain bytes stand from a place on, a run of plain bytes lies there
pub run-stands : (text : List ℕ) (at end n : ℕ) → at ≤ end → EndsAt text end → n ≡ prefix_len is_plain (drop at text) → 0 < n → LiesWithin PlainRun text at end (at + n)
run-stands text at end n before ends is some =
    -- the run has n bytes, all of them plain, and ends before the CR
    let count : at + n - at ≡ n = omega arith in
    let most = run-ends text at end n before ends is in
    let front = take n (drop at text) in
    let len : length front ≡ n = length-take-le n (drop at text) (omega (arith, length-drop at text, ends.0, most)) in
    let run : PlainRun front = all-some is_plain front (prefix-at is_plain (drop at text) n is).0 (λ none. omega (arith, some, len, ap length none)) in
    (omega arith, most, subst (λ k. PlainRun (take k (drop at text))) (sym count) run)

-- a plain byte may stand in a user
user-byte : (b : ℕ) → is_plain b ≡ true → (is_unreserved b || is_user_unreserved b) ≡ true
user-byte b is =
    elim (or_cases (is_ascii_alphanumeric b) (is_among "-.!*_+'~" b) is) [
      -- letters and digits may stand in a user; of the other plain bytes each below 256 is tried, by computing
      | inl letter ↦ ap (λ x. (x || is_among "-_.!~*'()" b) || is_user_unreserved b) letter
      | inr mark ↦
          (and_parts (is_unreserved b || is_user_unreserved b) (is_plain b) (agree_below_at (λ x. (is_unreserved x || is_user_unreserved x) && is_plain x) is_plain 256 b refl (low-one (codes "-.!*_+'~") b low mark) ∙ is)).0
    ]
  where
    -- each of these bytes is below 256
    low : AllByRecursion (λ x. x < 256) (codes "-.!*_+'~")
    low = (omega arith, (omega arith, (omega arith, (omega arith, (omega arith, (omega arith, (omega arith, (omega arith, tt))))))))

-- a run of plain bytes is a user
pub plain-user : (u : List ℕ) → PlainRun u → User u
plain-user u run = some-map (One is_plain) (One is_user_unreserved or One is_unreserved or Escaped) u piece run
  where
    -- a plain byte is a piece of a user
    piece : (v : List ℕ) → One is_plain v → (One is_user_unreserved or One is_unreserved or Escaped) v
    piece v one = elim (or_cases (is_unreserved one.0) (is_user_unreserved one.0) (user-byte one.0 one.1)) [
      -- the byte is unreserved, or one of the few others that a user may have
      | inl is ↦ inr (inl (one.0, is, one.2))
      | inr is ↦ inl (one.0, is, one.2)
    ]

-- a run of plain bytes is a token
pub run-token : (u : List ℕ) → PlainRun u → Token u
run-token u run = some-map (One is_plain) _ u (λ v one. (one.0, plain-token one.0 one.1, one.2)) run

-- a host alone is a host with an optional port
pub hostport-none : (u : List ℕ) → Host u → HostPort u
hostport-none u is = (u, [], is, inl refl, sym (append-nil u))

-- a host, a colon and a port are a host with an optional port
pub hostport-some : (u : List ℕ) → (Host then Byte colon then Port) u → HostPort u
hostport-some u w = (w.0, w.1, w.2, inr w.3, w.4)

-- "sip:", and what may follow the scheme of a SIP URI up to a host with an optional port, are a URI
pub uri-of : (u : List ℕ) → (Exactly (codes "sip:") then Optional Userinfo then HostPort) u → Uri u
-- s is "sip:" and r what follows it: x is the userinfo, and y the host h with its port o
uri-of u (s, r, s_is, (x, y, userinfo, (h, o, host, port, y_is), r_is), whole) =
    -- the URI has neither parameters nor headers
    inl (codes "sip", colon ∷ r, inl refl, (colon ∷ [], r, refl, (x, y, userinfo, (h, o, host, (o, [], port, ([], [], many-nil _, inl refl, refl), sym (append-nil o)), y_is), r_is), refl), whole ∙ ap (λ t. t ++ r) s_is)

-- one SP is an optional blank run
pub sws-space : (u : List ℕ) → Byte space u → Sws u
sws-space u is = inr (subst Blanks (sym is) blanks-space)

-- a run of plain bytes is words
pub words-one : (u : List ℕ) → PlainRun u → Words u
words-one u run = (u, [], run-token u run, many-nil _, sym (append-nil u))

-- words, a SP and a run of plain bytes are words
pub words-more : (u : List ℕ) → (Words then Byte space then PlainRun) u → Words u
words-more u w =
    -- the SP and the run of plain bytes are one word more
    let word : (Blanks then Token) w.1 = (w.3.0, w.3.1, subst Blanks (sym w.3.2) blanks-space, run-token w.3.1 w.3.3, w.3.4) in
    (w.2.0, w.2.1 ++ w.1, w.2.2, many-push _ w.2.1 w.1 w.2.3 word, w.4 ∙ ap (λ t. t ++ w.1) w.2.4 ∙ append_assoc w.2.0 w.2.1 w.1)

-- where u stands first in a segment, the segment up to the end of u is u, and u ends within the segment
pub front-cut : (text u rest : List ℕ) (at end : ℕ) → at ≤ end → end ≤ length text → segment at end text ≡ u ++ rest
    → (at + length u ≤ end) × (segment at (at + length u) text ≡ u) × (segment (at + length u) end text ≡ rest)
front-cut text u rest at end before within is =
    -- n is the length of u; the segment is as long as u and the rest, so that u ends within it (`most`)
    let n = length u in
    let long : length (segment at end text) ≡ end - at = length-take-le (end - at) (drop at text) (omega (arith, length-drop at text, before, within)) in
    let most : at + n ≤ end = omega (arith, before, sym long ∙ ap length is ∙ length-append u rest) in
    let count : at + n - at ≡ n = omega arith in
    let len : length (segment at (at + n) text) ≡ n = length-take-le (at + n - at) (drop at text) (omega (arith, length-drop at text, most, within)) ∙ count in
    -- two cuts at the same place have the same parts
    let same = append_cancel_both (segment at (at + n) text) (segment (at + n) end text) u rest len (sym (segment-cut text at (at + n) end (omega arith) most) ∙ is) in
    (most, same.0, same.1)

-- where a text of P stands first in a segment, a text of P lies from the start of the segment up to its own end
pub front-stands : (P : List ℕ → Type 0) (text u rest : List ℕ) (at end : ℕ) → at ≤ end → end ≤ length text → P u → segment at end text ≡ u ++ rest → LiesWithin P text at end (at + length u)
front-stands P text u rest at end before within p is =
    -- u ends within the segment, and stands from its start up to there
    let cut = front-cut text u rest at end before within is in
    (omega arith, cut.0, subst P (sym cut.1) p)

-- a byte without blanks is a mark
pub mark-alone : (b : ℕ) → Mark b (b ∷ [])
mark-alone b = ([], b ∷ [], inl refl, (b ∷ [], [], refl, inl refl, refl), refl)

-- ";" and a run of plain bytes are a parameter without a value
pub param-none : (text : List ℕ) (at end start behind : ℕ) → LiesWithin (Byte semicolon) text at end start → LiesWithin PlainRun text start end behind → LiesWithin (PlainParam (segment start behind text, None)) text at end behind
param-none text at end start behind mark run =
    (omega (arith, mark.0, run.0), run.1, (segment at start text, segment start behind text, mark.2, (run-token (segment start behind text) run.2, refl), segment-cut text at start behind mark.0 run.0))

-- ";", a run of plain bytes, "=" and another run are a parameter with a value
pub param-some : (text : List ℕ) (at end start behind first to : ℕ) → LiesWithin (Byte semicolon) text at end start → LiesWithin PlainRun text start end behind → LiesWithin (Byte equals) text behind end first → LiesWithin PlainRun text first end to
    → LiesWithin (PlainParam (segment start behind text, Some (segment first to text))) text at end to
param-some text at end start behind first to mark run equal value =
    let name = segment start behind text in
    let v = segment first to text in
    let later : behind ≤ to = omega (arith, equal.0, value.0) in
    -- the equals sign and the value stand after the name
    let led : (Mark equals then Exactly v) (segment behind to text) =
    (segment behind first text, v, subst (Mark equals) (sym equal.2) (mark-alone equals), refl, segment-cut text behind first to equal.0 value.0) in
    -- the name, the equals sign and the value are the parameter
    let whole : (Exactly name then Mark equals then Exactly v) (segment start to text) =
    (name, segment behind to text, refl, led, segment-cut text start behind to run.0 later) in
    (omega (arith, mark.0, run.0, later), value.1, (segment at start text, segment start to text, mark.2, (run-token name run.2, inl (run-token v value.2), whole), segment-cut text at start to mark.0 (omega (arith, run.0, later))))

-- a parameter that lies between two places with its ";" is one after a mark
pub param-marked : (p : List ℕ × Option (List ℕ)) (text : List ℕ) (at end to : ℕ) → LiesWithin (PlainParam p) text at end to → (Mark semicolon then ParamText p) (segment at to text)
param-marked p text at end to (before, within, (a, x, a_is, param, whole)) = (a, x, subst (Mark semicolon) (sym a_is) (mark-alone semicolon), param, whole)

-- a plain parameter before parameters is parameters
pub params-behind : (p : List ℕ × Option (List ℕ)) (text : List ℕ) (at end to : ℕ) → LiesWithin (PlainParam p) text at end to → GenericParams (segment to end text) → GenericParams (segment at end text)
params-behind p text at end to param later =
    subst GenericParams (sym (segment-cut text at to end param.0 param.1))
    (many-cons _ (segment at to text) (segment to end text) (text-generic p (segment at to text) (param-marked p text at end to param)) later)
