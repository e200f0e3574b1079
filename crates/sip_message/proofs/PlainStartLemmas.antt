-- Start lines of ordinary heads.
use Rattle.std.proofs.Common.{◌≡◌, ℕ, Bool, true, false, ◌&&◌, ◌||◌, ◌==◌, nat_le, List, [], ◌∷◌, take, drop, refl, sym, ◌∙◌, subst, inl, inr, arith}
use Rattle.std.specs.Prelude.{codes}
use Rattle.std.specs.List.{list_all}
use Rattle.std.specs.Int.{is_in_range}
use Rattle.std.proofs.lemmas.Bool.{agree_below_at, and_parts, and_from, cases_lt, le-leb}
use Rattle.std.proofs.lemmas.List.{take-append-drop}
use Rattle.sip_standard.specs.Text.{◌then◌}
use Rattle.sip_standard.specs.Profile.{Uri, Token}
use Rattle.sip_text.specs.Bytes.{space, tab, Byte}
use Rattle.sip_standard.specs.StartLine.{request, StartSays}
use Rattle.sip_message.specs.inner.StartLine.{Version, is_reason_byte, CodeFront}
use Rattle.sip_message.specs.inner.Plain.{segment, LiesWithin, PlainRun}
use Rattle.sip_message.specs.inner.Quick.{is_open, IsOpen}
use Rattle.sip_message.proofs.PlainLemmas.{then-stands, whole-stands, run-token}
use Rattle.sip_message.proofs.lemmas.text.Cuts.{All, all_right}

-- a byte that is no control may stand in a reason phrase
reason-byte : (b : ℕ) → is_open b ≡ true → is_reason_byte b ≡ true
reason-byte b clear =
    elim (cases_lt b 256) [
      -- each byte below 256 is tried, by computing; the bytes from 128 on may all stand in a reason
      | inl low ↦ (and_parts (is_open b) (is_reason_byte b) (agree_below_at (λ x. is_open x && is_reason_byte x) is_open 256 b refl low ∙ clear)).1
      | inr high ↦ over (is_in_range 0x20 0x7E b) (b == tab) (nat_le 128 b) (le-leb 128 b (omega (arith, high)))
    ]
  where
    -- where z, the third of three tests that are joined by "or", passes, they pass together
    over : (x y z : Bool) → z ≡ true → (x || y || z) ≡ true
    -- z passes, whatever x and y say
    over true y true is = refl
    over false true true is = refl
    over false false true is = refl
    -- z fails, but x or y passes
    over true true false is = refl
    over true false false is = refl
    over false true false is = refl
    -- none passes, which was excluded
    over false false false is = is

-- a text without controls has only bytes that a reason may have
reason-bytes : (text : List ℕ) → All is_open text → list_all is_reason_byte text ≡ true
reason-bytes [] clear = refl
reason-bytes (b ∷ text) clear = and_from _ _ (reason-byte b clear.0) (reason-bytes text clear.1)

-- the reason phrase of a status line without controls has only bytes that it may have
pub reason-open : (line reason : List ℕ) (code : ℕ) → IsOpen line → CodeFront (drop 8 line) (code, reason) → list_all is_reason_byte reason ≡ true
reason-open line reason code clear front =
    -- what stands after the version and its SP has no controls, and neither has a part of it: the reason, which stands after the code and its SP
    let behind : All is_open (drop 8 line) = all_right is_open (take 8 line) (drop 8 line) (subst (All is_open) (sym (take-append-drop 8 line)) clear) in
    let later : All is_open front.1 = all_right is_open front.0 front.1 (subst (All is_open) front.4 behind) in
    let last : All is_open front.3.1 = all_right is_open front.3.0 front.3.1 (subst (All is_open) front.3.4 later) in
    reason-bytes reason (subst (All is_open) front.3.3 last)

-- where a run of plain bytes, a SP, a URI and " SIP/2.0" lie one after the other up to the end, the front of the text is a request line
pub request-plain : (text : List ℕ) (end method uri to : ℕ) → LiesWithin PlainRun text 0 end method → LiesWithin (Byte space) text method end uri → LiesWithin Uri text uri end to
    → segment to end text ≡ codes " SIP/2.0" → StartSays (segment 0 end text) (request (segment 0 method text) (segment uri to text))
request-plain text end method uri to run mark is version =
    -- m is the method, u the URI, and `last` says that the SP and the version stand at the end
    let m = segment 0 method text in
    let u = segment uri to text in
    let last : (Byte space then Version) (segment to end text) = (space ∷ [], codes "SIP/2.0", refl, refl, version) in
    -- the parts are put together from the version, at the end, back to the method, each before those that were put together already
    let s1 = whole-stands (Byte space then Version) text to end is.1 last in
    let U : List ℕ → Type 0 = λ t. Uri t × (u ≡ t) in
    let s2 = then-stands U (Byte space then Version) text uri end to end (is.0, is.1, (is.2, refl)) s1 in
    let s3 = then-stands (Byte space) (U then Byte space then Version) text method end uri end mark s2 in
    let s4 = then-stands (λ t. Token t × (m ≡ t)) (Byte space then U then Byte space then Version) text 0 end method end (run.0, run.1, (run-token m run.2, refl)) s3 in
    s4.2
