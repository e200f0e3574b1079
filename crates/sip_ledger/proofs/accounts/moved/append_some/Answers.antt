use Rattle.sip_ledger.proofs.Lemmas.{appended-fewer, appended-more, arith, length, Strike, ◌<◌}
use Rattle.sip_ledger.proofs.accounts.moved.append_some.Goals as goal
use Rattle.sip_ledger.proofs.accounts.moved.append_some.Goals.{then-strikes_some+in_ok-push, else-strikes_some}

-- of the strikes up to here, those that strike some place from this one on are kept
pub loop-at-preserved : goal.loop-at-preserved
loop-at-preserved c =
    -- s stands for no strike
    let s : Strike = record { message = 0; from = 0; to = 0 } in
    let inside : c.loop-at.at < length c.args.strikes.now = omega arith in
    elim c.if-strikes_some.branch [
      -- a strike that strikes something is written, and any other is left out
      | then-strikes_some+in_ok-push w ↦
          rw w.kept-is (appended-more c.args.gains.now c.args.place c.args.strikes.now c.args.kept.now.items c.loop-at.kept.items w.push.new.self.items c.loop-at.at s inside c.loop-at.invariant w.in_ok-push.ensures.items)
      | else-strikes_some w ↦
          rw w.kept-is (appended-fewer c.args.gains.now c.args.place c.args.strikes.now c.args.kept.now.items c.loop-at.kept.items c.loop-at.at s inside c.loop-at.invariant w.if-strikes_some.ensures)
    ]
