use Rattle.std.proofs.Common.{ℕ, ◌-◌, ◌≤◌, List, Option, option_copied}
use Rattle.std.specs.Option.{option_or}
use Rattle.sip_message.specs.inner.ViaFronts.{BranchText}
use Rattle.sip_message.specs.inner.Plain.{segment}
use Rattle.sip_message.proofs.plain_via.plain_branch.Given as goal

-- where the bytes from `from` on are parameters of a Via, those from `at` on are, and the branch that was found counts before theirs
abbrev pub invariant-params : goal.invariant-params
invariant-params l =
    -- the place is not after the end; and `later`, the branch of what is left, counts only where none was found
    (l.from ≤ l.end)
    × ((later : Option (List ℕ)) → BranchText (segment l.from l.end l.masks) later → BranchText (segment l.at l.end l.masks) (option_or (option_copied l.branch) later))

-- each turn of the loop comes nearer to `end`
abbrev pub decreases-params : goal.decreases-params
decreases-params l = l.end - l.from
