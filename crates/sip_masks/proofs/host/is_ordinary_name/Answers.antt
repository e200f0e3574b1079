-- The lemmas of the bits are given, after the three masks and the length, what holds of them: each byte is below 256, those of the name are plain,
-- and bit i of the masks says whether byte i is beyond the bytes of names, a dot, or a hyphen.
-- `c.NAME.branch` says which of several tests led to this place: `via-then-A` that A passed, `via-else-A+then-B` that A failed and B passed.
use Rattle.std.proofs.Common.{◌≡◌, ◌<◌, ◌≤◌, ◌==◌, ℕ, get_or, length, take, sym, ap, ◌∙◌, subst, arith, zero-add}
use Rattle.std.proofs.lemmas.Bool.{and_parts, eqb-true, eq-eqb, false≢true}
use Rattle.std.proofs.lemmas.List.{length-take-le}
use Rattle.std.proofs.lemmas.Simd.{get_or-chunk}
use Rattle.std.proofs.lemmas.List.Sums.{prefix_len_passes, prefix_len-le-length}
use Rattle.sip_text.specs.Bytes.{dot, hyphen}
use Rattle.sip_masks.specs.Marks.{is_plain}
use Rattle.sip_masks.specs.Names.{OrdinaryName}
use Rattle.sip_masks.specs.inner.Strange.{is_beyond}
use Rattle.sip_masks.proofs.HostLemmas.{name-is, not-empty}
use Rattle.sip_masks.proofs.HostWordLemmas.{begins-some, top-within, none-bad, name-from}
use Rattle.sip_masks.proofs.host.is_ordinary_name.Goals.{then-len-eq0-via-then-len-eq0, then-len-eq0-via-else-len-eq0+then-len-gt-LONGEST, then-len-eq0-via-else-len-eq0+else-len-gt-LONGEST+then-window-lt-LONGEST}
use Rattle.sip_masks.proofs.host.is_ordinary_name.Goals as goal

-- the name is not empty, so at least its first byte begins a label
pub highest-requires : goal.highest-requires
highest-requires c =
    -- w is the window of bytes in which the name lies, and the byte i of its first 32 is that of the window itself (`same`)
    let w = c.args.window.now in
    let same = λ (i : ℕ) (h : i < 32). get_or-chunk 0 32 w i 0 h ∙ ap (λ n. get_or w n 0) (zero-add i) in
    -- the masks of the code say of each byte i whether it is beyond the plain ones, a dot or a hyphen
    begins-some w c.args.len c.beyond.result c.equal_to.result c.equal_to-2.result (omega (arith, c.if-window-lt-LONGEST.false)) (omega (arith, c.if-len-eq0.false)) (omega (arith, c.if-len-gt-LONGEST.false))
    (λ i. (c.type_inv.window i).fits) (λ i h. prefix_len_passes is_plain w i 0 (omega (arith, h, c.requires)))
    (λ i h. c.beyond.ensures i h ∙ ap is_beyond (same i h)) (λ i h. c.equal_to.ensures i h ∙ ap (λ x. x == dot) (same i h)) (λ i h. c.equal_to-2.ensures i h ∙ ap (λ x. x == hyphen) (same i h))

-- the highest bit lies within the window
pub bounds-window-highest : goal.bounds-window-highest
bounds-window-highest c =
    -- w is the window of bytes in which the name lies, and the byte i of its first 32 is that of the window itself (`same`)
    let w = c.args.window.now in
    let same = λ (i : ℕ) (h : i < 32). get_or-chunk 0 32 w i 0 h ∙ ap (λ n. get_or w n 0) (zero-add i) in
    -- the highest bit of the label's first bytes is below the length of the name, by the same three masks
    let within = top-within w c.args.len c.beyond.result c.equal_to.result c.equal_to-2.result (omega (arith, c.if-window-lt-LONGEST.false)) (omega (arith, c.if-len-eq0.false)) (omega (arith, c.if-len-gt-LONGEST.false))
    (λ i. (c.type_inv.window i).fits) (λ i h. prefix_len_passes is_plain w i 0 (omega (arith, h, c.requires)))
    (λ i h. c.beyond.ensures i h ∙ ap is_beyond (same i h)) (λ i h. c.equal_to.ensures i h ∙ ap (λ x. x == dot) (same i h)) (λ i h. c.equal_to-2.ensures i h ∙ ap (λ x. x == hyphen) (same i h))
    c.highest.result c.highest.ensures.set in
    omega (arith, within, c.if-len-gt-LONGEST.false, c.if-window-lt-LONGEST.false)

-- where the bits show no fault, the name is ordinary exactly if its last label begins with a letter
pub returns-then-bad-eq0 : goal.returns-then-bad-eq0
returns-then-bad-eq0 c =
    let w = c.args.window.now in
    let len = c.args.len in
    let room : 32 ≤ length w = omega (arith, c.if-window-lt-LONGEST.false) in
    let small : len ≤ 32 = omega (arith, c.if-len-gt-LONGEST.false) in
    let same = λ (i : ℕ) (h : i < 32). get_or-chunk 0 32 w i 0 h ∙ ap (λ n. get_or w n 0) (zero-add i) in
    -- a letter begins the last label exactly if the name is good
    let letter =
    name-from w len c.beyond.result c.equal_to.result c.equal_to-2.result room (omega (arith, c.if-len-eq0.false)) small
    -- the marks that the three masks have for the bytes of the window are those of the bytes of the name
    (λ i. (c.type_inv.window i).fits) (λ i h. prefix_len_passes is_plain w i 0 (omega (arith, h, c.requires)))
    (λ i h. c.beyond.ensures i h ∙ ap is_beyond (same i h)) (λ i h. c.equal_to.ensures i h ∙ ap (λ x. x == dot) (same i h)) (λ i h. c.equal_to-2.ensures i h ∙ ap (λ x. x == hyphen) (same i h))
    c.highest.result (omega (arith, c.if-bad-eq0.true)) c.highest.ensures.set c.highest.ensures.above ∙ sym c.is_ascii_alphabetic.ensures.value in
    let name = name-is (take len w) (omega (arith, length-take-le len w (omega (arith, room, small)), small)) in
    ((λ yes. (name.1 (letter ∙ yes), room)), λ is. sym letter ∙ name.0 is.0)

-- where a bit shows a fault, the name is not ordinary
pub returns-else-bad-eq0 : goal.returns-else-bad-eq0
returns-else-bad-eq0 c =
    let w = c.args.window.now in
    let len = c.args.len in
    let room : 32 ≤ length w = omega (arith, c.if-window-lt-LONGEST.false) in
    let small : len ≤ 32 = omega (arith, c.if-len-gt-LONGEST.false) in
    let same = λ (i : ℕ) (h : i < 32). get_or-chunk 0 32 w i 0 h ∙ ap (λ n. get_or w n 0) (zero-add i) in
    -- a good name would have no bad bit
    let none =
    none-bad w len c.beyond.result c.equal_to.result c.equal_to-2.result room (omega (arith, c.if-len-eq0.false)) small
    (λ i. (c.type_inv.window i).fits) (λ i h. prefix_len_passes is_plain w i 0 (omega (arith, h, c.requires)))
    (λ i h. c.beyond.ensures i h ∙ ap is_beyond (same i h)) (λ i h. c.equal_to.ensures i h ∙ ap (λ x. x == dot) (same i h)) (λ i h. c.equal_to-2.ensures i h ∙ ap (λ x. x == hyphen) (same i h))
    c.beyond.type_inv in
    let name = name-is (take len w) (omega (arith, length-take-le len w (omega (arith, room, small)), small)) in
    ((λ yes. absurd (omega (arith, c.if-bad-eq0.false, eqb-true _ 0 yes))), λ is. eq-eqb _ 0 (none (and_parts _ _ (name.0 is.0)).0))

-- a name that is empty, too long, or without a whole window from its start on is not called ordinary
pub returns-then-len-eq0 : goal.returns-then-len-eq0
returns-then-len-eq0 c = (
  (λ yes. absurd (false≢true yes)),
  λ is.
      let w = c.args.window.now in
      let len = c.args.len in
      -- the name is empty, longer than a window has, or at the end of the text
      elim c.then-len-eq0.branch [
        -- no ordinary name is empty
        | then-len-eq0-via-then-len-eq0 e ↦
            let none : len ≡ 0 = omega (arith, e.if-len-eq0.true) in
            absurd (not-empty (subst (λ n. OrdinaryName (take n w)) none is.0))
        -- an ordinary name has at most 32 bytes
        | then-len-eq0-via-else-len-eq0+then-len-gt-LONGEST e ↦
            absurd (omega (arith, e.if-len-gt-LONGEST.true, is.0.1, length-take-le len w (omega (arith, c.requires, prefix_len-le-length is_plain w))))
        -- the claim is of windows of 32 bytes or more alone
        | then-len-eq0-via-else-len-eq0+else-len-gt-LONGEST+then-window-lt-LONGEST e ↦ absurd (omega (arith, e.if-window-lt-LONGEST.true, is.1))
      ],
)
