-- Of the invariant of Tos (`c.self.invariant`) part 0 says that the numbers of the messages rise, and 1 that each stands under its To, if sets are kept.
use Rattle.sip_machine.proofs.Words.{◌<◌, All, all_pairs_push, true, To}
use Rattle.sip_machine.specs.inner.Tos.{stands}
use Rattle.sip_machine.proofs.acks.ToLemmas.{below, under-changed}
use Rattle.sip_machine.proofs.tos.Tos.push.Goals as goal
use Rattle.sip_machine.proofs.tos.Tos.push.Goals.{in-Some+in_ok-put, in_default}

-- where the number is put under no To, the Tos and all sets are as before
pub invariant_of-self-in_err-put : goal.invariant_of-self-in_err-put
unfolding stands
invariant_of-self-in_err-put c =
    let under = rw c.in-Some.is at c.self.invariant.1 in
    rw c.in_ok-reserve.ensures.items (c.self.invariant.0, λ to. rw c.in_err-put.ensures.err (under to), c.self.invariant.2)

-- with the new To the others are in order, and each stands under its To
pub invariant_of-self-2 : goal.invariant_of-self-2
invariant_of-self-2 c =
    let tos = c.self.inside.list.items in
    let to : To = record { number = c.args.number; text = c.args.text } in
    -- all others have lesser numbers, so that the new one comes last
    let lower : All (λ t. t.number < c.args.number) tos = rw c.self.view_is c.requires in
    let rise = all_pairs_push below tos to c.self.invariant.0 lower in
    elim c.match-self.branch [
      | in-Some+in_ok-put w ↦
          rw (c.push_reserved.ensures.items, w.self-inside-is, c.in_ok-reserve.ensures.items)
          (rise, under-changed to true _ w.put.new.sets tos w.in_ok-put.ensures.ok (λ _. lower) (rw w.in-Some.is at c.self.invariant.1), c.self.invariant.2)
      | in_default w ↦ rw (c.push_reserved.ensures.items, w.self-inside-is, c.in_ok-reserve.ensures.items, w.in_default.is) (rise, tt, c.self.invariant.2)
    ]
