use Rattle.sip_machine.proofs.Words.{◌≡◌, ◌<◌, ◌≤◌, ◌+◌, ◌-◌, [], get_or, length, ap, arith, sym, ◌∙◌, with_items_is, CodeOwing}
use Rattle.sip_machine.proofs.pools.FirstLemmas.{mixed-run, mixed-all}
use Rattle.sip_machine.proofs.pools.PoolLemmas.{beside-length, phase-at, state-at}
use Rattle.sip_machine.proofs.pools.PoolEachLemmas.{some-at}
use Rattle.sip_machine.proofs.pool.Pool.prints.Goals as goal

-- after one more run of states of one phase, the hash of the phase is mixed into the prints up to its end
pub loop-at-preserved : goal.loop-at-preserved
loop-at-preserved g c =
    let phases = c.self.inside.phases.items in
    let rows = c.self.inside.dues in
    let xs = c.args.self.now in
    let mixing = c.loop-at.invariant.2 in
    -- the run of one phase goes from `at` up to `to`
    let at = c.loop-at.at in
    let to = c.run_end-end.result in
    let p = c.index.result.now in (
      omega arith,
      omega arith,
      -- the hash of this phase was mixed into the prints of the run, and the prints are as many as before (`c.mix.auto.prints`)
      rw (with_items_is c.loop-at.prints c.mix.new.prints (c.mix.auto.prints ∙ c.deref_mut.ensures.len)) (
          mixed-run g.P.Hash.hash_input phases c.args.from c.in_ok-prints.prints.items c.loop-at.prints.items c.mix.new.prints (at - c.args.from) (to - c.args.from) c.hash_of-hash.result p mixing (rw c.deref_mut.ensures.value at c.mix.ensures) c.hash_of-hash.ensures
          (omega arith)
          (λ k q above below inside.
          -- the phase at each place of the run is the one whose hash was mixed
          -- `Denot` is the type of the phases as clauses see them
          let x : CodeOwing g.row.P.Denot = record { phase = q; owes = [] } in
          let there : c.args.from + k < length xs = omega arith in
          let here : at < length xs = omega arith in
          sym (ap (λ z. z.phase) (state-at phases rows xs (c.args.from + k) q x c.self.view_is there))
          ∙ some-at (λ z. z.phase ≡ (get_or xs at x).phase) at to (c.args.from + k) xs x (omega arith) (omega arith) (omega arith) (c.run_end-end.ensures.same x)
          ∙ phase-at phases rows xs at p x c.self.view_is here c.index.ensures)),
    )

-- at the end of the loop each print has the hash of its state's phase and debts
pub returns : goal.returns
returns g c =
    let phases = c.self.inside.phases.items in
    let rows = c.self.inside.dues in
    -- the loop has come to the end of the phases
    let all : length phases ≤ c.args.from + (c.loop-at.at - c.args.from) = omega (arith, beside-length phases rows, ap length c.self.view_is) in
    mixed-all g.P.Hash.hash_input phases c.args.from c.in_ok-prints.prints.items rows c.args.self.now c.loop-at.prints.items (c.loop-at.at - c.args.from) c.self.view_is c.self.invariant c.in_ok-prints.ensures c.loop-at.invariant.2 all
