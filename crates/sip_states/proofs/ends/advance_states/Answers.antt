use Rattle.std.proofs.Common.{◌≡◌, ◌∙◌, [], None, sym, ap, true≢false}
use Rattle.sip_states.proofs.sets.Advancing.{advances_stay, advances_push}
use Rattle.sip_states.proofs.ends.advance_states.Goals as goal
use Rattle.sip_states.proofs.ends.advance_states.Goals.{then-some_can_end+then-not-has_at_rest+in_ok-push, else-some_can_end, else-some_can_end-via-then-some_can_end+else-not-has_at_rest, else-some_can_end-via-else-some_can_end}

-- the states that can wait stay, and ended is added where some state can end and ended is not there yet
pub returns-clause-advances : goal.returns-clause-advances
returns-clause-advances g c =
    let m = c.args.machine.now in
    let r = g.M.Machine.rules m in
    let xs = c.args.pool.now in
    let ys = c.keep_waiting.new.pool in
    let ended = g.M.Machine.ended m in
    -- one can wait in the ended state for ever, so it stays where the set has it
    let stays : g.M.Machine.until m ended ≡ None =
    sym (g.met.M.Machine.until_stands m [] ended) ∙ ap r.until (g.met.M.Machine.ended_stands m []) ∙ (g.met.M.Machine.lawful m).ended_stays in
    let stay = advances_stay g.M.Machine.in_range (g.M.Machine.end_window m) (g.M.Machine.until m) ended stays c.args.from c.args.to xs ys c.requires.distinct c.requires.in_range in
    let push = advances_push g.M.Machine.in_range (g.M.Machine.end_window m) (g.M.Machine.until m) ended stays c.args.from c.args.to xs ys c.requires.distinct c.requires.in_range in
    let ends = c.some_can_end.ensures in
    elim c.if-some_can_end.branch [
      -- some state can end, and ended is not there: it is pushed
      | then-some_can_end+then-not-has_at_rest+in_ok-push w ↦
          let there = rw w.ended.ensures at w.has_at_rest.ensures in
          push (g.met.M.Machine.ended_fits m).1 (ends.0 w.if-some_can_end.true) (λ member. true≢false (sym (there.1 member) ∙ w.if-not-has_at_rest.true))
          (rw (w.pool-is, w.in_ok-push.ensures.ok, w.ended-then-not-has_at_rest.ensures) at c.keep_waiting.ensures)
      -- no state can end, or ended is there already
      | else-some_can_end w ↦
          stay
          (λ some. elim w.else-some_can_end.branch [
            | else-some_can_end-via-then-some_can_end+else-not-has_at_rest w' ↦ (rw w'.ended.ensures at w'.has_at_rest.ensures).0 w'.if-not-has_at_rest.false
            | else-some_can_end-via-else-some_can_end w' ↦ absurd (true≢false (sym (ends.1 some) ∙ w'.if-some_can_end.false))
          ])
          (rw w.pool-is at c.keep_waiting.ensures)
    ]
