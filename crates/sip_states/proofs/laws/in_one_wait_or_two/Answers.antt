use Rattle.std.proofs.Common.{Contains}
use Rattle.sip_states.proofs.lists.Twice.{Wait-twice}
use Rattle.sip_states.proofs.laws.in_one_wait_or_two.Goals as goal

-- the lemma of waits, with the rules of this machine
pub returns : goal.returns
returns g c =
    let m = c.args._machine.now in
    λ xs h m' n y low high. Wait-twice (g.M.Machine.rules m) (g.met.M.Machine.lawful m) (Contains xs) h m' n low high y
