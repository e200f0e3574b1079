use Rattle.std.proofs.Common.{◌≡◌, ◌+◌, ◌≤◌, ◌-◌, ◌<◌, ◌++◌, List, ℕ, length, take, slice_range, ap, ◌∙◌, arith, rules}
use Rattle.std.proofs.lemmas.List.{append-nil, with_items_is, places, length-drop}
use borrow.Rule.Slice.PartMut.{put_mid}
use Rattle.sip_log.specs.inner.Window.{items}
use Rattle.sip_log.proofs.lines.WindowLemmas.{grown}
use Rattle.sip_log.proofs.window.Window.read_from.Goals as goal

-- the bytes that came stand in the window after those that were held
pub returns-clause-reads : goal.returns-clause-reads
returns-clause-reads g c =
    let w = c.args.self.now in
    let bytes = c.deref_mut.result.now in
    let buf = c.fill.new.buf in
    let n = c.in_ok-count.count in
    let fills = c.in_ok-count.ensures.bytes in
    let within : w.end ≤ length bytes = omega (arith, c.deref_mut.ensures.len) in
    -- `put` is the buffer with the bytes that came at the end of the window
    let put = put_mid w.end (length bytes - w.end) bytes buf in
    let len : length put ≡ w.bytes.len = search (rules, places) in
    record {
      -- `came` are the n bytes that were read; the window now holds what it held, and these
      came = take n buf;
      held_is = ap (λ (t : List ℕ). slice_range t w.start (w.end + n)) (with_items_is w.bytes put len)
          ∙ grown bytes buf w.start w.end (length bytes - w.end) n w.ordered within fills.0
          ∙ ap (λ (t : List ℕ). slice_range t w.start w.end ++ take n buf) c.deref_mut.ensures.value;
      left_is = fills.1;
      fine = c.in_ok-count.ensures.ok;
    }

-- where there was room and no byte came, the source is at its end
pub returns-clause-end : goal.returns-clause-end
unfolding returns-clause-reads
returns-clause-end g c = λ none room.
    -- w is the window before, and buf the room in it that was filled: there was some, and no byte came
    let w = c.args.self.now in
    let reads = returns-clause-reads g c in
    let buf = c.fill.new.buf in
    let fills = c.in_ok-count.ensures.bytes in
    let some : 0 < length buf = omega (arith, c.fill.auto.buf, c.deref_mut.ensures.len, length-drop {A = ℕ}) in
    (reads.held_is ∙ ap (λ (n : ℕ). items w ++ take n buf) none ∙ append-nil (items w), fills.2 none some)
