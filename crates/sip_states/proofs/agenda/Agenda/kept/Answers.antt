use Rattle.std.proofs.Common.{◌≡◌, ◌∙◌, ap, get_or, arith, rules}
use Rattle.sip_states.proofs.lists.Kept.{appends_more, appends_not, some_at}
use Rattle.sip_states.proofs.agenda.Agenda.kept.Goals.{then-flags-at+in_ok-push_record, else-flags-at}
use Rattle.sip_states.proofs.agenda.Agenda.kept.Goals as goal

-- of the records up to here, the new agenda has those whose flag is set, in their order
pub loop-at-preserved : goal.loop-at-preserved
loop-at-preserved c =
    let flags = c.args.flags.now in
    let xs = c.args.self.now in
    let ys = c.loop-at.agenda in
    let i = c.loop-at.at in
    let (y, there) = some_at xs i (omega (arith, c.requires)) in
    elim c.if-flags-at.branch [
      -- the record is appended where its flag is set, and left out otherwise
      | then-flags-at+in_ok-push_record w ↦
          let x = w.index.result.now in
          let is : x ≡ get_or xs i x = w.index.ensures ∙ ap (λ l. get_or l i x) c.self.view_is in
          rw (w.agenda-is, w.in_ok-push_record.ensures, w.limit.ensures) (appends_more flags xs ys i x (omega arith) (omega (arith, c.requires)) (search rules) is c.loop-at.invariant)
      | else-flags-at w ↦ rw w.agenda-is (appends_not flags xs ys i y (omega arith) (omega (arith, c.requires)) (search rules) there c.loop-at.invariant)
    ]
