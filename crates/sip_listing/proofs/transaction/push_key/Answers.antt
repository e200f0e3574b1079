use Rattle.std.specs.Str.{IsAscii}
use Rattle.std.proofs.Common.{rules, sym, subst, append_assoc}
use Rattle.sip_listing.proofs.transaction.push_key.Goals as goal

-- the role and the method are appended one after the other
pub returns : goal.returns
returns c = λ ascii.
    -- the method is ASCII, so that its bytes were appended as they are
    let said = c.in_ok-push_ascii.ensures (subst IsAscii (sym c.method.ensures) ascii) in
    search (rules, append_assoc)
